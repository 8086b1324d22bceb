-- A place of a run: what is known of the core there, and what follows for its part.
use Rattle.std.proofs.Common.{◌≡◌, ◌≢◌, ℕ, ◌<◌, ◌==◌, List, Bool, true, false, Option, Some, None, refl, sym, ap, subst, ◌∙◌, arith}
use Rattle.std.specs.Prelude.{is_some, is_none as is_no, unwrap_or, if◌then◌else◌}
use Rattle.std.proofs.lemmas.Bool.Decides.{nat_tests}
use Rattle.dlm_modes.proofs.FirstLaws.{first_such_some}
use Rattle.dlm_modes.specs.declared.mode.Mode.{Mode}
use Rattle.dlm_modes.specs.declared.mode.Mode.TheVariants.{EX}
use Rattle.dlm_space.specs.Orderly.{agree}
use Rattle.mdc_types.specs.Geometry.{chunks_of, nodes_of}
use Rattle.mdc_types.specs.declared.events.Wish.{Wish}
use Rattle.mdc_types.specs.declared.numbers.Sector.{Sector}
use Rattle.mdc_types.specs.declared.roles.NodeState.{NodeState}
use Rattle.mdc_types.specs.declared.roles.NodeState.TheVariants as states
use Rattle.md_superblock.specs.Arrays.{Says}
use Rattle.msg_rounds.specs.Phases.{is_idle, has_published, may_receive}
use Rattle.msg_rounds.specs.declared.phases.SenderPhase.{SenderPhase}
use Rattle.leg_failure.specs.Views.{NodeView, works, working_leg}
use Rattle.node_recovery.specs.Progress.{Recovering}
use Rattle.cluster_model.specs.State.{Core, Offer, Held, sizes}
use Rattle.cluster_model.specs.Phases.{is_up, is_metadata, offers}
use Rattle.laws_locks.specs.Others.{OtherLocks, recovers as recovers_slot, turn_held}
use Rattle.laws_locks.specs.Rounded.{stands, wish_fits, offer_fits, offering}
use Rattle.laws_sound.proofs.RoundFacts.{standing}
use Rattle.laws_roles.proofs.Parts as roles
use Rattle.laws_roles.proofs.Parts.{is_loaded}
use Rattle.laws_roles.proofs.Numbers.{Numbers}
use Rattle.laws_roles.proofs.Roles.{Roles}
use Rattle.laws_roles.proofs.Additions.{Additions}
use Rattle.laws_roles.proofs.Sources.{Sources}
use Rattle.laws_roles.proofs.Known.{Known}
use Rattle.storage_ways.proofs.Parts.{Part, part_of, has_pass}
use Rattle.storage_ways.proofs.Sound.{Sound, Phases, Turns, Rests, Within}

-- what stands on the legs beside the core, the ghosts of roles, and the values by the plain history
pub record Around : Type 0 where
  pub super : ℕ → Option Says
  pub bit : ℕ → ℕ → ℕ → Bool
  pub stored : ℕ → ℕ → Sector
  pub ghost : roles.Ghost
  pub values : ℕ → List Sector
  pub broken : ℕ → ℕ → Bool
  pub since : ℕ → ℕ → Bool
  pub moments : ℕ

abbrev pub here : Core → Around → Part
here core a = part_of core a.super a.bit a.stored a.ghost a.values a.broken a.since a.moments

-- what roles keep of the same
abbrev pub roles_here : Core → Around → roles.Part
roles_here core a = roles.part_of core a.super a.ghost

pub record Place (core : Core) (a : Around) : Type 0 where
  pub known : Known core
  pub others : OtherLocks core
  pub numbers : Numbers (roles_here core a)
  pub roles : Roles (roles_here core a)
  pub additions : Additions (roles_here core a)
  pub sources : Sources (roles_here core a)
  -- a pass is under a held turn, and pending slots are those of nodes
  pub pass : (n : ℕ) → has_pass (core.copy n) ≡ true → (core.copy n).turn ≡ Held
  pub slots : (d : ℕ) → core.members.pending d ≡ true → d < 16
  pub bits : (k c l : ℕ) → a.bit k c l ≡ true → c < chunks_of (sizes core)
  pub bit_slots : (k c l : ℕ) → a.bit k c l ≡ true → k < nodes_of (sizes core)

-- Phases.

loaded_is : (s : NodeState) → is_loaded s ≡ true → s ≡ states.Loaded
loaded_is states.Loaded e = refl
loaded_is s e = cc

pub published_sends : (s : SenderPhase) → has_published s ≡ true → may_receive s ≡ false
published_sends s e = grind arith

abbrev no_offer : Option Offer
no_offer = None

stands_so : (s : NodeState) (t : SenderPhase) (x : Option Offer) → offering s t x ≡ true → is_some x ≡ stands t
stands_so s t None e = by (stands t) e
  where
    by : (b : Bool) → (if b then offer_fits s None else is_no no_offer) ≡ true → false ≡ b
    by true e = cc
    by false e = refl
stands_so s t (Some o) e = by (stands t) e
  where
    by : (b : Bool) → (if b then offer_fits s (Some o) else is_no (Some o)) ≡ true → true ≡ b
    by true e = refl
    by false e = cc

fits_metadata : (s : NodeState) (w : Wish) → wish_fits s w ≡ true → is_up s ≡ false → is_metadata w ≡ true
fits_metadata s w e down = grind arith

offers_metadata : (s : NodeState) (t : SenderPhase) (x : Option Offer) → offering s t x ≡ true → is_some x ≡ true → is_up s ≡ false → offers is_metadata x ≡ true
offers_metadata s t None e some down = cc
offers_metadata s t (Some o) e some down = by (stands t) e
  where
    by : (b : Bool) → (if b then offer_fits s (Some o) else is_no (Some o)) ≡ true → is_metadata o.wish ≡ true
    by true e = fits_metadata s o.wish e down
    by false e = cc

-- Turns.

both_ex : (a b : Option Mode) → a ≡ Some EX → b ≡ Some EX → agree a b ≡ false
both_ex a b e f = rw (e, f) refl

one_turn : (a b : Option Mode) (n m : ℕ) → (n ≢ m → agree a b ≡ true) → a ≡ Some EX → b ≡ Some EX → n ≡ m
one_turn a b n m apart e f = by (n == m) refl
  where
    by : (t : Bool) → (n == m) ≡ t → n ≡ m
    by true t = grind (arith, nat_tests)
    by false t = let no = both_ex a b e f in let yes = apart (grind (arith, nat_tests)) in cc

recovers_it : (x : Option Recovering) (r : Recovering) → x ≡ Some r → recovers_slot x r.slot ≡ true
recovers_it x r e = let same : (r.slot == r.slot) ≡ true = grind (arith, nat_tests) in rw e same

some_recovers : (x : Option Recovering) → is_some x ≡ true → (k : ℕ) × (recovers_slot x k ≡ true)
some_recovers None e = cc
some_recovers (Some r) e = (r.slot, recovers_it (Some r) r refl)

not_itself : (x : Option Recovering) (r : Recovering) (n : ℕ) → x ≡ Some r → recovers_slot x n ≡ false → r.slot ≢ n
not_itself x r n e f same = let g : recovers_slot x n ≡ true = subst (λ k. recovers_slot x k ≡ true) same (recovers_it x r e) in cc

-- Views.

reads_by : (v : NodeView) (x : Option ℕ) → working_leg v ≡ x → is_some x ≡ true → works v (unwrap_or x 0) ≡ true
reads_by v None e some = cc
reads_by v (Some l) e some = (first_such_some (works v) 0 8 l e).passes

module _ (core : Core) (a : Around) (p : Place core a) where
  phases : Phases (here core a)
  phases = record {
    live = p.known.rounded.numbered.live;
    pending = p.others.recoveries.out;
    below = λ n e. let lt = p.known.rounded.numbered.below n e in let le = p.known.rounded.numbered.nodes in omega arith;
    alone = p.known.rounded.phased.alone;
    stands = λ n. stands_so (core.state n) (core.sender n) (core.offer n) (p.known.rounded.offering.offers n);
    offering = λ n e. (standing (core.state n) (core.sender n) (core.offer n) (p.known.rounded.offering.offers n) (sym (stands_so (core.state n) (core.sender n) (core.offer n) (p.known.rounded.offering.offers n)) ∙ e)).up;
    meta = λ n e down. offers_metadata (core.state n) (core.sender n) (core.offer n) (p.known.rounded.offering.offers n) e down;
    hearers = λ n down. ap is_idle (p.known.rounded.phased.still n down);
    from = p.known.heard.from;
    gone = p.known.heard.gone;
    sending = λ n e. ap is_idle (p.known.rounded.phased.sending n (published_sends (core.sender n) e));
    loaded = λ n e. p.known.rounded.phased.loaded n (loaded_is (core.state n) e);
    slots = p.slots;
  }

  turns : Turns (here core a)
  turns = record {
    one = λ n m e f. one_turn _ _ n m (p.others.resync.apart n m) (p.others.resync.held n ∙ ap turn_held e) (p.others.resync.held m ∙ ap turn_held f);
    recovery = λ n e. let r = some_recovers (core.recovery n) e in p.others.recoveries.turn n r.0 r.1;
    slot = λ n r e. p.others.recoveries.pending n r.slot (recovers_it (core.recovery n) r e);
    other = λ n r e. not_itself (core.recovery n) r n e (p.others.recoveries.other n);
    unclean = p.others.resync.unclean;
    pass = p.pass;
  }

  rests : Rests (here core a)
  rests = record {
    writes = λ n e. (p.known.empty.empty n e).writes;
    copy = λ n e. (p.known.empty.empty n e).copy;
    recovery = λ n e. (p.known.empty.empty n e).recovery;
    set = λ n c e. (p.known.empty.empty n e).set c;
    need = λ n c e. (p.known.empty.empty n e).need c;
  }

  within : Within (here core a)
  within = record {
    geometry = p.known.range.legs.sizes_fit;
    set = λ n. (p.known.range.flight.bitmaps n).set;
    need = λ n. (p.known.range.flight.bitmaps n).need;
    todo = λ n c q e. ((p.known.range.room.copies n).pass q e).todo c;
    buffer = λ n q b e f. ((p.known.range.room.copies n).pass q e).buffer b f;
    found = λ n c r e. (p.known.range.room.recoveries n r e).found c;
    gathered = λ n. (p.known.range.room.gatherings n).gathered;
    bits = p.bits;
    slots = p.bit_slots;
    writes = λ n. (p.known.range.flight.requests n).write_sectors;
  }

  pub sound_of : Sound (here core a)
  sound_of = record {
    numbers = p.numbers;
    roles = p.roles;
    additions = p.additions;
    sources = p.sources;
    phases = phases;
    turns = turns;
    rests = rests;
    within = within;
    serves = λ n e. reads_by (core.view n) (working_leg (core.view n)) refl (p.known.leg.leg n e);
  }
