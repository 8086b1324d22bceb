-- The other locks at the opening, and along runs.
use Rattle.std.proofs.Common.{◌≡◌, ◌<◌, ◌≤◌, ◌^◌, ℕ, Bool, true, false, List, [], ◌∷◌, Some, None, refl, sym, ap, ◌∙◌, subst, arith, ◌==◌, ◌&&◌, ◌||◌, if◌then◌else◌}
use Rattle.std.specs.Prelude.{nat_lt}
use Rattle.std.proofs.lemmas.Bool.Decides.{nat_tests}
use Rattle.std.proofs.lemmas.Nat.Bits.{bit_at_above}
use Rattle.dlm_modes.specs.declared.mode.Mode.TheVariants.{CR, PW}
use Rattle.dlm_space.specs.Orderly.{agree}
use Rattle.mdc_types.specs.Bits.{has_bit}
use Rattle.mdc_types.specs.Geometry.{nodes_of, chunks_of}
use Rattle.mdc_types.specs.declared.outcomes.Entry.{Entry}
use Rattle.mdc_types.specs.declared.roles.NodeState.TheVariants as states
use Rattle.msg_rounds.specs.Locks.{ack_res}
use Rattle.msg_rounds.specs.declared.phases.SenderPhase.TheVariants as senders
use Rattle.cluster_model.specs.Phases.{is_up}
use Rattle.cluster_model.specs.Changes.{no_new_dev, resync_res}
use Rattle.cluster_model.specs.Opening.{Origin, IsOrigin, is_member, of_member, bitmap_lock, locks_at, core_at}
use Rattle.laws_locks.specs.Following.{core_after, AreAccepted, rounds_in}
use Rattle.laws_locks.specs.Others.{writes_slot, device_fits, OtherLocks}
use Rattle.laws_locks.specs.Laws.{OtherLocksHold, NothingIsBlocked, OnlyUpNodesWork}
use Rattle.laws_locks.specs.Empties.{UpOnly}
use Rattle.laws_locks.proofs.EmptyRows.{step_empty}
use Rattle.laws_locks.specs.Unblocked.{Unblocked}
use Rattle.laws_locks.proofs.Unblocking.{unblocked}
use Rattle.laws_locks.proofs.Runs.{run_kept, run_is, free_lock}
use Rattle.laws_locks.proofs.OtherRows.{step_other}

-- no member's slot is pending
abbrev pub MembersAreClean : Origin → Type 0
MembersAreClean o = (n : ℕ) → is_member o n ≡ true → has_bit o.pending n ≡ false

no_bit : (set k n : ℕ) → set < 2 ^ k → k ≤ n → has_bit set n ≡ false
no_bit set k n small past = grind (arith, nat_tests, bit_at_above set k n small past)

member_bit : (set k n : ℕ) → set < 2 ^ k → (nat_lt n k && has_bit set n) ≡ has_bit set n
member_bit set k n small = by_test (nat_lt n k) (λ e. no_bit set k n small (past n k e))
  where
    past : (n k : ℕ) → nat_lt n k ≡ false → k ≤ n
    past n k e = grind (arith, nat_tests)

    by_test : (b : Bool) → (b ≡ false → has_bit set n ≡ false) → (b && has_bit set n) ≡ has_bit set n
    by_test true none = refl
    by_test false none = sym (none refl)

-- a slot's lock at the opening
low_lock : (o : Origin) (k : ℕ) → k < 16 → locks_at o k ≡ bitmap_lock o k
low_lock o k lt = by_tests (k == ack_res) (k == no_new_dev) (not_ack k lt) (not_device k lt)
  where
    not_ack : (k : ℕ) → k < 16 → (k == ack_res) ≡ false
    not_ack k lt = grind (arith, nat_tests)

    not_device : (k : ℕ) → k < 16 → (k == no_new_dev) ≡ false
    not_device k lt = grind (arith, nat_tests)

    by_tests : (a b : Bool) → a ≡ false → b ≡ false → (if a then locks_at o ack_res else if b then locks_at o no_new_dev else bitmap_lock o k) ≡ bitmap_lock o k
    by_tests a b e f = rw e (rw f refl)

slot_at : (b c : Bool) → (if b && c then Some PW else None) ≡ writes_slot ((b && c) || false)
slot_at true true = refl
slot_at true false = refl
slot_at false c = refl

opening_held : (o : Origin) → IsOrigin o → (n k : ℕ) → k < 16 → (locks_at o k).held n ≡ writes_slot (((n == k) && has_bit o.members n) || false)
opening_held o is n k lt =
    ap (λ l. l.held n) (low_lock o k lt)
    ∙ slot_at (n == k) (is_member o n)
    ∙ ap (λ b. writes_slot (((n == k) && b) || false)) (member_bit o.members (nodes_of o.sizes) n is.members)

pending_out : (o : Origin) → MembersAreClean o → (d : ℕ) → has_bit o.pending d ≡ true → of_member o d states.Up states.Out ≡ states.Out
pending_out o clean d p = by_test (is_member o d) (clean d)
  where
    by_test : (b : Bool) → (b ≡ true → has_bit o.pending d ≡ false) → (if b then states.Up else states.Out) ≡ states.Out
    by_test true e = let no = e refl in cc
    by_test false e = refl

member_fits : (b : Bool) → device_fits (if b then states.Up else states.Out) senders.Idle (if b then Some CR else None) ≡ true
member_fits true = refl
member_fits false = refl

members_agree : (a b : Bool) → agree (if a then Some CR else None) (if b then Some CR else None) ≡ true
members_agree a b = grind arith

opening_others : (o : Origin) → IsOrigin o → MembersAreClean o → OtherLocks (core_at o)
opening_others o is clean = record {
  slots = record {
    held = opening_held o is;
    requests = λ k lt. ap (λ l. l.requests) (low_lock o k lt);
    conversions = λ k lt. ap (λ l. l.conversions) (low_lock o k lt);
  };
  recoveries = record {
    other = λ n. refl;
    turn = λ n k e. cc;
    pending = λ n k e. cc;
    out = pending_out o clean;
  };
  resync = record {
    held = λ n. ap (λ l. l.held n) (free_lock o resync_res (omega arith));
    apart = λ n m ne. ap (λ l. agree (l.held n) (l.held m)) (free_lock o resync_res (omega arith));
    requests = λ n. refl;
    conversions = refl;
    still = λ n e. refl;
    unclean = λ n e. refl;
  };
  device = record {
    fits = λ n. member_fits (is_member o n);
    apart = λ n m ne. members_agree (is_member o n) (is_member o m);
    requests = refl;
    conversions = refl;
  };
}

pub others_after : (o : Origin) → IsOrigin o → MembersAreClean o → (past : List Entry) → AreAccepted o past → OtherLocks (core_after o past)
others_after o is clean [] a = opening_others o is clean
others_after o is clean (x ∷ past) a = step_other (is_member o) (rounds_in o past) (core_after o past) (run_kept o is past a.0) (others_after o is clean past a.0) x.event x.outcome a.1

pub other_locks_hold : OtherLocksHold
other_locks_hold o start end past is opens run =
    let clean : MembersAreClean o = is.clean in
    let r = run_is o start opens past end run in
    subst OtherLocks (sym r.leads) (others_after o is clean past r.accepted)

pub nothing_is_blocked : NothingIsBlocked
nothing_is_blocked o start end past is opens run =
    let clean : MembersAreClean o = is.clean in
    let r = run_is o start opens past end run in
    subst Unblocked (sym r.leads)
    (unblocked (is_member o) (rounds_in o past) (core_after o past) (run_kept o is past r.accepted) (others_after o is clean past r.accepted))

-- who isn't a member is empty
opening_empty : (o : Origin) → UpOnly (core_at o)
opening_empty o = record {
  empty = λ n down. record {
    writes = refl;
    reads = refl;
    copy = refl;
    recovery = refl;
    set = λ c. no_marks (is_member o n) o.warm (nat_lt c (chunks_of o.sizes)) down;
    need = λ c. refl;
  };
  drained = λ n p f. record { writes = refl; reads = refl };
}
  where
    no_marks : (a b c : Bool) → is_up (if a then states.Up else states.Out) ≡ false → ((a && b) && c) ≡ false
    no_marks true b c e = cc
    no_marks false b c e = refl

pub empty_after : (o : Origin) → IsOrigin o → MembersAreClean o → (past : List Entry) → AreAccepted o past → UpOnly (core_after o past)
empty_after o is clean [] a = opening_empty o
empty_after o is clean (x ∷ past) a = step_empty (is_member o) (rounds_in o past) (core_after o past) (run_kept o is past a.0) (others_after o is clean past a.0) (empty_after o is clean past a.0) x.event x.outcome a.1

pub only_up : OnlyUpNodesWork
only_up o start end past is opens run =
    let clean : MembersAreClean o = is.clean in
    let r = run_is o start opens past end run in
    subst UpOnly (sym r.leads) (empty_after o is clean past r.accepted)
