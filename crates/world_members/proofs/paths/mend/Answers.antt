use Rattle.std.proofs.Common.{◌≡◌, false, ap, subst}
use Rattle.cluster_model.specs.Granting.{path_is}
use Rattle.world_state.specs.contracts.state.CoreState.{the_view}
use Rattle.world_state.specs.Kept.{Kept, core_of}
use Rattle.world_members.proofs.Stepping.{path_mended}
use Rattle.world_members.proofs.paths.mend.Goals as goal

pub returns-clause-after : goal.returns-clause-after
returns-clause-after c =
    let k = the_view c.core.inside in
    let P : Kept → Type 0 = λ q. core_of (record k { paths = c.mend.new.self }) ≡ path_is (core_of q) c.args.n c.args.l false in
    subst P c.core.view_is (ap (λ f. record (core_of k) { cut = f }) (path_mended k.paths c.mend.new.self c.args.n c.args.l c.mend.ensures))
