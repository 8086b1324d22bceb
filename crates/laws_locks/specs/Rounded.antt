-- What the phases of a mirror's nodes say of each other, of the locks of rounds, and of what is
-- offered.
use Rattle.std.specs.Prelude.{◌≡◌, ◌≢◌, ℕ, ◌<◌, ◌≤◌, Bool, true, false, not, is_none, if◌then◌else◌, Option, Some, None}
use Rattle.mdc_types.specs.Geometry.{nodes_of}
use Rattle.mdc_types.specs.declared.events.Wish.{Wish}
use Rattle.mdc_types.specs.declared.events.Wish.TheVariants as wishes
use Rattle.mdc_types.specs.declared.roles.NodeState.{NodeState}
use Rattle.mdc_types.specs.declared.roles.NodeState.TheVariants as states
use Rattle.msg_rounds.specs.Holds.{NodeHolds}
use Rattle.msg_rounds.specs.Locks.{message_res}
use Rattle.msg_rounds.specs.Phases.{may_receive, has_message, has_published, has_processed}
use Rattle.msg_rounds.specs.declared.phases.SenderPhase.{SenderPhase}
use Rattle.msg_rounds.specs.declared.phases.SenderPhase.TheVariants as senders
use Rattle.msg_rounds.specs.declared.phases.ReceiverPhase.TheVariants as receivers
use Rattle.node_recovery.specs.Progress.{Recovering}
use Rattle.cluster_model.specs.State.{Core, Offer, sizes}
use Rattle.cluster_model.specs.Guards.{is_out}
use Rattle.cluster_model.specs.Phases.{is_up, is_in}
use Rattle.cluster_model.specs.Publishing.{block_of}

-- the sender holds the token
abbrev pub has_token : SenderPhase → Bool
has_token senders.Idle = false
has_token senders.TokenAsked = false
has_token s = true

-- an offer of the sender stands
abbrev pub stands : SenderPhase → Bool
stands senders.Offered = true
stands senders.Published = true
stands senders.Granted = true
stands s = false

abbrev pub is_meta : Wish → Bool
is_meta wishes.Meta = true
is_meta wish = false

-- a loaded node offers `meta` alone, and an up node anything
abbrev pub wish_fits : NodeState → Wish → Bool
wish_fits states.Up wish = true
wish_fits states.Loaded wish = is_meta wish
wish_fits s wish = false

abbrev pub offer_fits : NodeState → Option Offer → Bool
offer_fits s None = false
offer_fits s (Some o) = wish_fits s o.wish

-- there is an offer exactly where one stands
abbrev pub offering : NodeState → SenderPhase → Option Offer → Bool
offering s sender offer = if stands sender then offer_fits s offer else is_none offer

-- the phases of nodes, and the locks of rounds
pub record Phased (core : Core) : Type 0 where
  -- what both phases of a node say of `token`, `message` and `ack`
  pub holds : (n : ℕ) → NodeHolds core.locks n (core.sender n) (core.receiver n).phase
  -- one node has the token
  pub alone : (n m : ℕ) → has_token (core.sender n) ≡ true → has_token (core.sender m) ≡ true
      → n ≡ m
  -- who sends doesn't receive, and while one has `message` and has published nothing nobody does
  pub sending : (n : ℕ) → may_receive (core.sender n) ≡ false
      → (core.receiver n).phase ≡ receivers.Idle
  pub calm : (n m : ℕ) → has_message (core.sender n) ≡ true
      → (core.receiver m).phase ≡ receivers.Idle
  -- who is out sends nothing, who isn't up receives nothing, and who is loaded has the token
  pub out : (n : ℕ) → core.state n ≡ states.Out → core.sender n ≡ senders.Idle
  pub still : (n : ℕ) → is_up (core.state n) ≡ false → (core.receiver n).phase ≡ receivers.Idle
  pub loaded : (n : ℕ) → core.state n ≡ states.Loaded → has_token (core.sender n) ≡ true
  -- a message that was taken, and whose sender isn't gone, is published
  pub calls : (m : ℕ) → (core.receiver m).phase ≡ receivers.Taken → (core.receiver m).gone ≡ false
      → has_published (core.sender (core.receiver m).from) ≡ true
  -- all have processed the message of who is granted
  pub processed : (n m : ℕ) → core.sender n ≡ senders.Granted → m ≢ n
      → is_in (core.state m) ≡ true
      → has_processed (core.receiver m).phase ≡ true

-- the offers
pub record Offering (core : Core) : Type 0 where
  pub offers : (n : ℕ) → offering (core.state n) (core.sender n) (core.offer n) ≡ true
  -- the block of `message` is that of the published offer, and valid
  pub block : (n : ℕ) (o : Offer) → has_published (core.sender n) ≡ true → core.offer n ≡ Some o
      → (core.locks message_res).block ≡ block_of core n o
  pub valid : (n : ℕ) → has_published (core.sender n) ≡ true
      → (core.locks message_res).valid ≡ true

-- the record of the members, and the numbers of nodes and slots
pub record Numbered (core : Core) : Type 0 where
  pub nodes : nodes_of (sizes core) ≤ 16
  pub beyond : (n : ℕ) → 16 ≤ n → core.state n ≡ states.Out
  pub below : (n : ℕ) → is_out (core.state n) ≡ false → n < nodes_of (sizes core)
  pub live : (n : ℕ) → core.members.live n ≡ not (is_out (core.state n))
  pub slots : (n : ℕ) (r : Recovering) → core.recovery n ≡ Some r → r.slot < 16

pub record Rounded (core : Core) : Type 0 where
  pub phased : Phased core
  pub offering : Offering core
  pub numbered : Numbered core
