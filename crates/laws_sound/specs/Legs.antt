-- What nodes know of the legs is in range, and leaves each node that is in a leg to read from.
use Rattle.std.specs.Prelude.{◌≡◌, ℕ, ◌<◌, ◌≤◌, ◌^◌, true, false, length, Option, Some}
use Rattle.mdc_types.specs.Geometry.{Sizes, IsGeometry}
use Rattle.mdc_types.specs.Names.{is_name}
use Rattle.mdc_types.specs.Roles.{role_of, is_working, some_works}
use Rattle.mdc_types.specs.declared.events.Wish.{Wish}
use Rattle.mdc_types.specs.declared.events.Wish.TheVariants as wishes
use Rattle.mdc_types.specs.declared.numbers.Range.{Range}
use Rattle.mdc_types.specs.declared.roles.Role.{Role}
use Rattle.mdc_types.specs.declared.roles.Role.TheVariants.{Spare}
use Rattle.mdc_types.specs.declared.roles.NodeState.{NodeState}
use Rattle.dlm_modes.specs.declared.block.Block.{Block}
use Rattle.md_superblock.specs.Arrays.{Says}
use Rattle.msg_rounds.specs.Locks.{message_res}
use Rattle.msg_rounds.specs.Phases.{Receiving, is_idle}
use Rattle.cluster_msgs.specs.Reading.{message_in}
use Rattle.cluster_msgs.specs.declared.msg.Msg.{Msg}
use Rattle.leg_failure.specs.Views.{NodeView, works}
use Rattle.leg_failure.specs.Withdrawals.{HasLeg}
use Rattle.cluster_model.specs.State.{Core, Offer, Tried, Loaded, sizes}
use Rattle.cluster_model.specs.Phases.{is_in, is_metadata}

-- a leg that isn't there is a spare
abbrev pub SpareBeyond : Sizes → (ℕ → Role) → Type 0
SpareBeyond g role = (l : ℕ) → g.legs ≤ l → role l ≡ Spare

-- what a node in this state sees of the legs
pub record ViewFits (g : Sizes) (s : NodeState) (v : NodeView) : Type 0 where
  pub roles : SpareBeyond g v.role
  pub sure_roles : SpareBeyond g v.sure_role
  pub lost : (l : ℕ) → v.lost l ≡ true → l < g.legs
  pub size : v.size ≤ g.room
  pub sure_size : v.sure_size ≤ g.room
  -- of a node that is in
  pub sectors : is_in s ≡ true → (1 ≤ v.size) × (1 ≤ v.sure_size)
  pub leg : is_in s ≡ true → HasLeg v

-- a window within the room, or the empty one
pub record WindowFits (g : Sizes) (r : Range) : Type 0 where
  pub hi : r.hi ≤ g.room
  pub order : 0 < r.hi → r.lo < r.hi
  pub empty : r.hi ≡ 0 → r.lo ≡ 0

abbrev pub WishFits : Sizes → Wish → Type 0
WishFits g (wishes.Spare l) = l < g.legs
WishFits g (wishes.Rebuild l) = l < g.legs
WishFits g (wishes.Work l) = l < g.legs
WishFits g (wishes.Range r) = WindowFits g r
WishFits g (wishes.NewDisk l) = l < g.legs
WishFits g (wishes.Remove l) = l < g.legs
WishFits g (wishes.ReAdd l) = l < g.legs
WishFits g wish = Unit {0}

-- what a node with this view offers: each leg that works there works by the proposed roles too
pub record OfferFits (g : Sizes) (drawn : ℕ) (v : NodeView) (o : Offer) : Type 0 where
  pub wish : WishFits g o.wish
  pub roles : SpareBeyond g o.role
  pub size : (1 ≤ o.size) × (o.size ≤ g.room)
  pub events : is_metadata o.wish ≡ true → (1 ≤ o.events) × (o.events ≤ drawn)
  pub working : (l : ℕ) → works v l ≡ true → is_working (o.role l) ≡ true

-- what a superblock of the array says
pub record SaysFit (g : Sizes) (says : Says) : Type 0 where
  pub roles : SpareBeyond g (role_of says.roles)
  pub size : (1 ≤ says.size) × (says.size ≤ g.room)
  pub working : some_works (role_of says.roles) ≡ true

-- the events numbers: some are drawn, and of these some completed
pub record EventsFit (drawn completed : ℕ) : Type 0 where
  pub some_completed : (1 ≤ completed) × (completed ≤ drawn)
  pub few_drawn : drawn ≤ 2 ^ 63

abbrev pub OffersFit : Sizes → ℕ → (ℕ → NodeView) → (ℕ → Option Offer) → Type 0
OffersFit g drawn view offer = (n : ℕ) (o : Offer) → offer n ≡ Some o → OfferFits g drawn (view n) o

abbrev pub TriedFit : Sizes → (ℕ → ℕ → Tried) → Type 0
TriedFit g tried = (n l : ℕ) (says : Says) → tried n l ≡ Loaded says → SaysFit g says

-- a busy receiver has heard the message in the block
abbrev pub HeardFits : (ℕ → Receiving) → (ℕ → Option Msg) → Block → Type 0
HeardFits receiver heard block =
    (n : ℕ) → is_idle (receiver n).phase ≡ false → heard n ≡ message_in block.bytes

pub record LegsFit (core : Core) : Type 0 where
  pub sizes_fit : IsGeometry (sizes core)
  pub name : is_name core.array.name ≡ true
  pub uuid : length core.array.uuid ≡ 16
  pub events : EventsFit core.members.drawn core.members.completed
  pub views : (n : ℕ) → ViewFits (sizes core) (core.state n) (core.view n)
  pub offers : OffersFit (sizes core) core.members.drawn core.view core.offer
  pub tried : TriedFit (sizes core) core.tried
  pub heard : HeardFits core.receiver core.heard (core.locks message_res).block
