use Rattle.std.proofs.Common.{◌≡◌, ◌&&◌, nat_lt}
use Rattle.cluster_model.specs.Opening.{is_member}
use Rattle.world_state.specs.Kept.{core_of}
use Rattle.world_openings.specs.Members.{opened_with}
use Rattle.world_openings.proofs.opened.open_state.Given as goal

abbrev pub invariant-loop-n : goal.invariant-loop-n
invariant-loop-n l = core_of l.core ≡ opened_with l.opening (λ m. is_member l.opening m && nat_lt m l.n)
