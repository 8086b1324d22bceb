-- A row that touches none of the other locks, and nothing that they are told by.
use Rattle.std.proofs.Common.{◌≡◌, ℕ, Bool, true, false, Option, Some, refl, sym, ap, ◌∙◌, subst, arith, ◌==◌, ◌&&◌, ◌||◌, if◌then◌else◌}
use Rattle.std.proofs.lemmas.Bool.Decides.{nat_tests}
use Rattle.dlm_modes.specs.Points.{with_at}
use Rattle.dlm_modes.specs.declared.mode.Mode.{Mode}
use Rattle.dlm_modes.specs.declared.mode.Mode.TheVariants.{EX}
use Rattle.dlm_space.specs.Locks.{Lock}
use Rattle.laws_rounds.specs.Following.{is_of_rounds}
use Rattle.mdc_types.specs.declared.roles.NodeState.{NodeState}
use Rattle.msg_rounds.specs.declared.phases.SenderPhase.{SenderPhase}
use Rattle.node_recovery.specs.Progress.{Recovering}
use Rattle.cluster_model.specs.State.{Core, Copy, Offer, NotAsked}
use Rattle.cluster_model.specs.Phases.{is_up, is_unclean, offers}
use Rattle.cluster_model.specs.Changes.{no_new_dev, resync_res}
use Rattle.dlm_space.specs.Queues.{asks_of}
use Rattle.laws_rounds.specs.Invariants.{IsApart}
use Rattle.laws_locks.specs.Others.{recovers, turn_held, turn_request, writes_slot, may_lock_device, device_fits, OtherLocks}
use Rattle.laws_locks.proofs.Keeping.{not_of_rounds}

-- the other locks are the same
abbrev pub SameElse : (ℕ → Lock) → (ℕ → Lock) → Type 0
SameElse now locks = (r : ℕ) → is_of_rounds r ≡ false → now r ≡ locks r

-- one of the three is written
pub else_at : (locks : ℕ → Lock) (j : ℕ) (lock : Lock) → is_of_rounds j ≡ true → SameElse (with_at locks j lock) locks
else_at locks j lock e r f = by_test (r == j) (number_is r j)
  where
    number_is : (r j : ℕ) → (r == j) ≡ true → r ≡ j
    number_is r j e = grind (arith, nat_tests)

    by_test : (b : Bool) → (b ≡ true → r ≡ j) → (if b then lock else locks r) ≡ locks r
    by_test true is = let g : is_of_rounds r ≡ true = ap is_of_rounds (is refl) ∙ e in cc
    by_test false is = refl

pub record Unmoved (new core : Core) : Type 0 where
  pub locks : SameElse new.locks core.locks
  pub turn : (n : ℕ) → (new.copy n).turn ≡ (core.copy n).turn
  pub recovers : (n k : ℕ) → recovers (new.recovery n) k ≡ recovers (core.recovery n) k
  pub live : new.members.live ≡ core.members.live
  pub pending : new.members.pending ≡ core.members.pending
  pub state : new.state ≡ core.state
  pub sender : (n : ℕ) → (core.locks no_new_dev).held n ≡ Some EX → may_lock_device (core.sender n) ≡ true → may_lock_device (new.sender n) ≡ true
  pub offer : (n : ℕ) → offers is_unclean (new.offer n) ≡ true → (core.copy n).turn ≡ NotAsked

device_still : (state : NodeState) (s t : SenderPhase) (held : Option Mode) → (held ≡ Some EX → may_lock_device s ≡ true → may_lock_device t ≡ true) → device_fits state s held ≡ true → device_fits state t held ≡ true
device_still state s t held e f = grind arith

pub unmoved : (new core : Core) → Unmoved new core → OtherLocks core → OtherLocks new
unmoved new core u o = record {
  slots = record {
    held = λ n k lt. ap (λ l. l.held n) (u.locks k (not_of_rounds k lt)) ∙ o.slots.held n k lt ∙ sym (has_same n k);
    requests = λ k lt. ap (λ l. l.requests) (u.locks k (not_of_rounds k lt)) ∙ o.slots.requests k lt;
    conversions = λ k lt. ap (λ l. l.conversions) (u.locks k (not_of_rounds k lt)) ∙ o.slots.conversions k lt;
  };
  recoveries = record {
    other = λ n. u.recovers n n ∙ o.recoveries.other n;
    turn = λ n k e. u.turn n ∙ o.recoveries.turn n k (sym (u.recovers n k) ∙ e);
    pending = λ n k e. ap (λ f. f k) u.pending ∙ o.recoveries.pending n k (sym (u.recovers n k) ∙ e);
    out = λ d e. ap (λ f. f d) u.state ∙ o.recoveries.out d (sym (ap (λ f. f d) u.pending) ∙ e);
  };
  resync = record {
    held = λ n. ap (λ l. l.held n) (u.locks resync_res refl) ∙ o.resync.held n ∙ sym (ap turn_held (u.turn n));
    apart = subst (λ (l : Lock). IsApart l.held) (sym (u.locks resync_res refl)) o.resync.apart;
    requests = λ n. ap (λ l. asks_of n l.requests) (u.locks resync_res refl) ∙ o.resync.requests n ∙ sym (ap turn_request (u.turn n));
    conversions = ap (λ l. l.conversions) (u.locks resync_res refl) ∙ o.resync.conversions;
    still = λ n e. u.turn n ∙ o.resync.still n (ap (λ f. is_up (f n)) (sym u.state) ∙ e);
    unclean = λ n e. u.turn n ∙ u.offer n e;
  };
  device = record {
    fits = λ n. device_still (new.state n) (core.sender n) (new.sender n) _ (λ e. u.sender n (sym (ap (λ (l : Lock). l.held n) (u.locks no_new_dev refl)) ∙ e)) (same_fits n ∙ o.device.fits n);
    apart = subst (λ (l : Lock). IsApart l.held) (sym (u.locks no_new_dev refl)) o.device.apart;
    requests = ap (λ l. l.requests) (u.locks no_new_dev refl) ∙ o.device.requests;
    conversions = ap (λ l. l.conversions) (u.locks no_new_dev refl) ∙ o.device.conversions;
  };
}
  where
    has_same : (n k : ℕ) → writes_slot (((n == k) && new.members.live n) || recovers (new.recovery n) k) ≡ writes_slot (((n == k) && core.members.live n) || recovers (core.recovery n) k)
    has_same n k = ap (λ b. writes_slot (((n == k) && b) || recovers (new.recovery n) k)) (ap (λ f. f n) u.live) ∙ ap (λ b. writes_slot (((n == k) && core.members.live n) || b)) (u.recovers n k)

    same_fits : (n : ℕ) → device_fits (new.state n) (core.sender n) ((new.locks no_new_dev).held n) ≡ device_fits (core.state n) (core.sender n) ((core.locks no_new_dev).held n)
    same_fits n = ap (λ s. device_fits s (core.sender n) ((new.locks no_new_dev).held n)) (ap (λ f. f n) u.state) ∙ ap (λ (l : Lock). device_fits (core.state n) (core.sender n) (l.held n)) (u.locks no_new_dev refl)

-- changes at one node

pub turn_same : (copy : ℕ → Copy) (n : ℕ) (c : Copy) → c.turn ≡ (copy n).turn → (m : ℕ) → (with_at copy n c m).turn ≡ (copy m).turn
turn_same copy n c e m = by_test (m == n) (λ t. grind (arith, nat_tests))
  where
    by_test : (b : Bool) → (b ≡ true → m ≡ n) → (if b then c else copy m).turn ≡ (copy m).turn
    by_test true is = e ∙ ap (λ j. (copy j).turn) (sym (is refl))
    by_test false is = refl

pub recovers_same : (recovery : ℕ → Option Recovering) (n : ℕ) (x : Option Recovering) → ((k : ℕ) → recovers x k ≡ recovers (recovery n) k) → (m k : ℕ) → recovers (with_at recovery n x m) k ≡ recovers (recovery m) k
recovers_same recovery n x e m k = by_test (m == n) (λ t. grind (arith, nat_tests))
  where
    by_test : (b : Bool) → (b ≡ true → m ≡ n) → recovers (if b then x else recovery m) k ≡ recovers (recovery m) k
    by_test true is = e k ∙ ap (λ j. recovers (recovery j) k) (sym (is refl))
    by_test false is = refl

pub sender_same : (sender : ℕ → SenderPhase) (n : ℕ) (s : SenderPhase) (m : ℕ) → (may_lock_device (sender n) ≡ true → may_lock_device s ≡ true) → may_lock_device (sender m) ≡ true → may_lock_device (with_at sender n s m) ≡ true
sender_same sender n s m e f = grind (arith, nat_tests)

pub offer_same : (offer : ℕ → Option Offer) (n : ℕ) (x : Option Offer) (turn : ℕ → Copy) → ((m : ℕ) → offers is_unclean (offer m) ≡ true → (turn m).turn ≡ NotAsked) → (offers is_unclean x ≡ true → (turn n).turn ≡ NotAsked) → (m : ℕ) → offers is_unclean (with_at offer n x m) ≡ true → (turn m).turn ≡ NotAsked
offer_same offer n x turn i e m f = by_test (m == n) (λ t. grind (arith, nat_tests)) f
  where
    by_test : (b : Bool) → (b ≡ true → m ≡ n) → offers is_unclean (if b then x else offer m) ≡ true → (turn m).turn ≡ NotAsked
    by_test true is f = ap (λ j. (turn j).turn) (is refl) ∙ e f
    by_test false is f = i m f

-- A row that leaves even more as it was.
pub record Still (new core : Core) : Type 0 where
  pub locks : new.locks ≡ core.locks
  pub turn : (n : ℕ) → (new.copy n).turn ≡ (core.copy n).turn
  pub recovers : (n k : ℕ) → recovers (new.recovery n) k ≡ recovers (core.recovery n) k
  pub members : new.members ≡ core.members
  pub state : new.state ≡ core.state
  pub sender : new.sender ≡ core.sender
  pub offer : new.offer ≡ core.offer

pub still : (new core : Core) → Still new core → OtherLocks core → OtherLocks new
still new core s o = unmoved new core (record {
  locks = λ r e. ap (λ f. f r) s.locks;
  turn = s.turn;
  recovers = s.recovers;
  live = ap (λ m. m.live) s.members;
  pending = ap (λ m. m.pending) s.members;
  state = s.state;
  sender = λ n held may. ap (λ f. may_lock_device (f n)) s.sender ∙ may;
  offer = λ n e. o.resync.unclean n (ap (λ f. offers is_unclean (f n)) (sym s.offer) ∙ e);
}) o
