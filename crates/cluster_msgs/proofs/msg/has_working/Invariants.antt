use Rattle.std.proofs.Common.{◌≡◌, ◌-◌, ℕ, Bool}
use Rattle.dlm_modes.specs.First.{first_such}
use Rattle.mdc_types.specs.Roles.{role_of, is_working}
use Rattle.cluster_msgs.proofs.msg.has_working.Given as goal

abbrev pub invariant-loop-l : goal.invariant-loop-l
invariant-loop-l l =
    let works : ℕ → Bool = λ k. is_working (role_of l.roles k) in
    first_such works 0 8 ≡ first_such works l.l (8 - l.l)
