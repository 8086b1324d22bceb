-- A round can go on, and its end comes nearer.
use Rattle.std.proofs.Common.{◌≡◌, ℕ, zero, suc, ◌+◌, ◌*◌, ◌≤◌, Bool, true, false, ◌&&◌, Option, List, refl, arith}
use Rattle.std.specs.Prelude.{if◌then◌else◌}
use Rattle.dlm_modes.specs.declared.mode.Mode.{Mode}
use Rattle.mdc_types.specs.declared.roles.NodeState.{NodeState}
use Rattle.msg_rounds.specs.Locks.{message_res, ack_res}
use Rattle.msg_rounds.specs.Phases.{is_idle}
use Rattle.msg_rounds.specs.declared.phases.SenderPhase.{SenderPhase}
use Rattle.msg_rounds.specs.declared.phases.ReceiverPhase.{ReceiverPhase}
use Rattle.msg_rounds.specs.declared.phases.ReceiverPhase.TheVariants as receivers
use Rattle.laws_rounds.specs.Machine.{Rounds, Entry, is_live, is_up, is_in}
use Rattle.laws_rounds.specs.Going.{GoesOn, is_cr, sender_rank, receiver_rank, another_published, rank_of, rank_below, live_below}
use Rattle.laws_rounds.specs.Invariants.{Inv, ack_fits, fits}
use Rattle.laws_rounds.proofs.Falling.{rank_falls}
use Rattle.laws_rounds.proofs.Unstuck.{can_go_on}

-- at a live node 8 at most, and at another none

most : (s : SenderPhase) (ack message : Option Mode) (r : ReceiverPhase) (another : Bool) → sender_rank s ack + receiver_rank r message + (if is_idle r && is_cr ack && another then 4 else 0) ≤ 8
most s ack message r another = grind arith

none_at : (state : NodeState) (s : SenderPhase) (ack message : Option Mode) (r : ReceiverPhase) (another : Bool) → is_live state ≡ false → fits state s ≡ true → r ≡ receivers.Idle → ack_fits (is_in state) s r ack ≡ true → sender_rank s ack + receiver_rank r message + (if is_idle r && is_cr ack && another then 4 else 0) ≡ 0
none_at state s ack message r another l f i a = grind arith

not_live_up : (state : NodeState) → is_live state ≡ false → is_up state ≡ false
not_live_up state l = grind arith

rank_most : (w : Rounds) (members : ℕ → Bool) (past : List Entry) (n : ℕ) → Inv w members past → rank_of w n ≤ 8 * (if is_live (w.state n) then 1 else 0)
rank_most w members past n i = by_test (is_live (w.state n)) refl
  where
    by_test : (live : Bool) → is_live (w.state n) ≡ live → rank_of w n ≤ 8 * (if live then 1 else 0)
    by_test true is = most (w.sender n) ((w.locks ack_res).held n) ((w.locks message_res).held n) (w.receiver n) (another_published w n)
    by_test false is =
        let none : rank_of w n ≡ 0 = none_at (w.state n) (w.sender n) ((w.locks ack_res).held n) ((w.locks message_res).held n) (w.receiver n) (another_published w n) is (i.members_are.fitting n) (i.members_are.idle n (not_live_up (w.state n) is)) (i.held.ack n) in
        omega (arith, none)

below_most : (w : Rounds) (members : ℕ → Bool) (past : List Entry) (k : ℕ) → Inv w members past → rank_below w k ≤ 8 * live_below w k
unfolding rank_below live_below
below_most w members past zero i = omega arith
below_most w members past (suc k) i = omega (arith, below_most w members past k i, rank_most w members past k i)

pub goes_on : (w : Rounds) (members : ℕ → Bool) (past : List Entry) → Inv w members past → GoesOn w
goes_on w members past i = record {
  unstuck = can_go_on w members past i;
  falls = rank_falls w members past i;
  bounded = below_most w members past 16 i;
}
