use Rattle.std.proofs.Common.{ap, sym, ◌∙◌}
use Rattle.mdc_types.specs.declared.refusals.Refusal.TheVariants.{Missing}
use Rattle.cluster_model.specs.Guards.{refused_by}
use Rattle.cluster_model.specs.Joining.{missing_leg}
use Rattle.world_state.specs.Kept.{core_of}
use Rattle.world_members.proofs.joining.check_working.Goals as goal

pub returns-in-None : goal.returns-in-None
returns-in-None c =
    let tried = (core_of c.args.core.now).tried c.args.n in
    ap (refused_by Missing) (ap (missing_leg tried) (sym c.newest_state.ensures) ∙ sym c.in-None.ensures)
