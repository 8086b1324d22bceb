use Rattle.std.proofs.Common.{◌≡◌, subst, ◌∙◌}
use Rattle.dlm_modes.specs.First.{first_such}
use Rattle.cluster_model.specs.Writes.{any_of_sector}
use Rattle.fs_guard.specs.Writers.{holder}
use Rattle.node_requests.specs.Requests.{AllRequests, writes_of}
use Rattle.node_requests.proofs.Guarded.{knows}
use Rattle.node_requests.proofs.requests.Requests.writer_of.Goals as goal

pub returns : goal.returns
returns c = c.holder.ensures.node ∙ subst (λ (r : AllRequests). holder c.args.s c.self.inside.guard ≡ first_such (λ m. any_of_sector c.args.s (writes_of r m)) 0 16) c.self.view_is (knows _ _ c.args.s c.self.invariant)
