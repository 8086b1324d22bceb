-- The opening, and runs.
use Rattle.std.proofs.Common.{◌≡◌, ◌<◌, ◌≤◌, ◌^◌, ℕ, Bool, true, false, not, List, [], ◌∷◌, Some, None, refl, sym, ap, ◌∙◌, subst, arith, ◌==◌, ◌&&◌, if◌then◌else◌}
use Rattle.std.specs.Prelude.{nat_lt}
use Rattle.std.proofs.lemmas.Bool.Decides.{nat_tests}
use Rattle.std.proofs.lemmas.Nat.Bits.{bit_at_above}
use Rattle.std.proofs.Math.Path.{fun_ext}
use Rattle.dlm_modes.specs.Points.{with_at}
use Rattle.dlm_modes.specs.declared.mode.Mode.TheVariants.{CR, PW}
use Rattle.dlm_space.specs.Locks.{new_lock, new_locks}
use Rattle.mdc_types.specs.Bits.{has_bit}
use Rattle.mdc_types.specs.Geometry.{Sizes, nodes_of}
use Rattle.mdc_types.specs.declared.outcomes.Entry.{Entry}
use Rattle.mdc_types.specs.declared.roles.NodeState.TheVariants as states
use Rattle.msg_rounds.specs.Locks.{token_res, message_res, ack_res}
use Rattle.laws_rounds.specs.Machine as rounds
use Rattle.laws_rounds.specs.News.{AllTold, GoesOnTold, ToldRoundsGoOn}
use Rattle.laws_rounds.specs.Following.{is_of_rounds, three_of}
use Rattle.laws_rounds.proofs.RunsSound.{rounds_are_sound}
use Rattle.laws_rounds.proofs.Tells.{told_opening}
use Rattle.laws_rounds.proofs.Three.{three_at}
use Rattle.laws_rounds.proofs.Follows.{same_three}
use Rattle.cluster_model.specs.State.{State, Core}
use Rattle.cluster_model.specs.Guards.{is_out}
use Rattle.cluster_model.specs.Table.{refusal}
use Rattle.cluster_model.specs.After.{after}
use Rattle.cluster_model.specs.Opening.{Origin, IsOrigin, is_member, bitmap_lock, locks_at, core_at}
use Rattle.cluster_model.specs.Run.{Run}
use Rattle.laws_locks.specs.Following.{core_after, AreAccepted, rounds_at, rounds_in}
use Rattle.laws_locks.specs.Rounded.{Rounded}
use Rattle.laws_locks.specs.Laws.{RoundsHold, RoundsFollow}
use Rattle.laws_locks.proofs.Keeping.{Kept}
use Rattle.laws_locks.proofs.Steps.{step_kept}
use Rattle.laws_locks.proofs.Facts.{rounded}

-- The opening.

few_nodes : (g : Sizes) → nodes_of g ≤ 16
few_nodes g = grind arith

below_16 : (n k : ℕ) (b : Bool) → k ≤ 16 → (nat_lt n 16 && (nat_lt n k && b)) ≡ (nat_lt n k && b)
below_16 n k b le = grind (arith, nat_tests)

pub member_below : (o : Origin) (n : ℕ) → (nat_lt n 16 && is_member o n) ≡ is_member o n
member_below o n = below_16 n (nodes_of o.sizes) (has_bit o.members n) (few_nodes o.sizes)

no_member : (r n k : ℕ) (b : Bool) → k ≤ 16 → 16 ≤ r → ((n == r) && (nat_lt n k && b)) ≡ false
no_member r n k b le ge = grind (arith, nat_tests)

-- no node has the number of a lock of rounds
pub free_lock : (o : Origin) (r : ℕ) → 16 ≤ r → bitmap_lock o r ≡ new_lock
free_lock o r ge = λ i. record new_lock {
  held = λ n. (let b : Bool = no_member r n (nodes_of o.sizes) (has_bit o.members n) (few_nodes o.sizes) ge i in if b then Some PW else None);
}

ack_lock : (o : Origin) → rounds.opening_locks (is_member o) ack_res ≡ locks_at o ack_res
ack_lock o = λ i. record new_lock { held = λ n. (let b : Bool = member_below o n i in if b then Some CR else None) }

three_new : three_of new_locks ≡ new_locks
three_new = fun_ext (λ r. by_test (is_of_rounds r))
  where
    by_test : (b : Bool) → (if b then new_lock else new_lock) ≡ new_lock
    by_test true = refl
    by_test false = refl

opening_three : (members : ℕ → Bool) → three_of (rounds.opening_locks members) ≡ rounds.opening_locks members
opening_three members = three_at new_locks ack_res (rounds.opening_locks members ack_res) refl ∙ ap (λ l. with_at l ack_res (rounds.opening_locks members ack_res)) three_new

opening_locks : (o : Origin) → rounds.opening_locks (is_member o) ≡ three_of (locks_at o)
opening_locks o =
    sym (opening_three (is_member o))
    ∙ same_three (rounds.opening_locks (is_member o)) (locks_at o) (sym (free_lock o token_res (omega arith))) (sym (free_lock o message_res (omega arith))) (ack_lock o)

opening_rounds : (o : Origin) → rounds.opening (is_member o) ≡ rounds_at (core_at o)
opening_rounds o = λ i. record (rounds_at (core_at o)) {
  state = λ n. (let b : Bool = member_below o n i in if b then states.Up else states.Out);
  locks = opening_locks o i;
}

up_where : (b : Bool) → b ≡ not (is_out (if b then states.Up else states.Out))
up_where true = refl
up_where false = refl

no_bit : (set k n : ℕ) → set < 2 ^ k → k ≤ n → has_bit set n ≡ false
no_bit set k n small past = grind (arith, nat_tests, bit_at_above set k n small past)

live_bits : (set k n : ℕ) → set < 2 ^ k → has_bit set n ≡ not (is_out (if nat_lt n k && has_bit set n then states.Up else states.Out))
live_bits set k n small = by_test (nat_lt n k) (λ e. no_bit set k n small (past n k e))
  where
    past : (n k : ℕ) → nat_lt n k ≡ false → k ≤ n
    past n k e = grind (arith, nat_tests)

    by_test : (b : Bool) → (b ≡ false → has_bit set n ≡ false) → has_bit set n ≡ not (is_out (if b && has_bit set n then states.Up else states.Out))
    by_test true none = up_where (has_bit set n)
    by_test false none = none refl

member_low : (n k : ℕ) (b : Bool) → is_out (if nat_lt n k && b then states.Up else states.Out) ≡ false → n < k
member_low n k b e = grind (arith, nat_tests)

opening_kept : (o : Origin) → IsOrigin o → Kept (is_member o) [] (core_at o)
opening_kept o is = record {
  follows = record {
    reaches = record { accepted = tt; leads = opening_rounds o };
    told = subst AllTold (opening_rounds o) (told_opening (is_member o));
  };
  offers = λ n. refl;
  block = λ n p e. cc;
  live = λ n. live_bits o.members (nodes_of o.sizes) n is.members;
  slots = λ n r e. cc;
  nodes = few_nodes o.sizes;
  low = λ n. member_low n (nodes_of o.sizes) (has_bit o.members n);
}

-- Runs.

pub run_kept : (o : Origin) → IsOrigin o → (past : List Entry) → AreAccepted o past → Kept (is_member o) (rounds_in o past) (core_after o past)
run_kept o is [] a = opening_kept o is
run_kept o is (x ∷ past) a = step_kept (is_member o) (rounds_in o past) (core_after o past) (run_kept o is past a.0) x.event x.outcome a.1

-- the events of a run were accepted, and lead to its core
pub record IsRun (o : Origin) (past : List Entry) (end : Core) : Type 0 where
  pub accepted : AreAccepted o past
  pub leads : end ≡ core_after o past

pub run_is : (o : Origin) (start : State) → start.core ≡ core_at o → (past : List Entry) (end : State) → Run start past end → IsRun o past end.core
run_is o start opens [] end run = record { accepted = tt; leads = ap (λ s. s.core) run ∙ opens }
run_is o start opens (x ∷ past) end run =
    let before = run_is o start opens past run.0 run.1 in
    record {
      accepted = (before.accepted, subst (λ c. refusal c x.event ≡ None) before.leads run.2.accepted);
      leads = run.2.core ∙ ap (λ c. after c x.event x.outcome) before.leads;
    }

pub holds_after : ToldRoundsGoOn → (o : Origin) → IsOrigin o → (past : List Entry) → AreAccepted o past → RoundsHold o past (core_after o past)
holds_after go_on o is past a =
    let k = run_kept o is past a in
    let r = k.follows.reaches in
    record {
      follows = r;
      sound = rounds_are_sound (is_member o) (rounds_in o past) r.accepted;
      going = subst GoesOnTold r.leads (go_on (is_member o) (rounds_in o past) r.accepted (subst AllTold (sym r.leads) k.follows.told));
      rounded = rounded (is_member o) (rounds_in o past) (core_after o past) k;
    }

pub rounds_follow : ToldRoundsGoOn → RoundsFollow
rounds_follow go_on o start end past is opens run =
    let r = run_is o start opens past end run in
    subst (RoundsHold o past) (sym r.leads) (holds_after go_on o is past r.accepted)

-- what the next laws need at each place
pub rounded_after : (o : Origin) → IsOrigin o → (past : List Entry) → AreAccepted o past → Rounded (core_after o past)
rounded_after o is past a = rounded (is_member o) (rounds_in o past) (core_after o past) (run_kept o is past a)
