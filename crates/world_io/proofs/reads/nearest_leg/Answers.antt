use Rattle.std.proofs.Common.{◌∙◌, ap, ℕ, Bool}
use Rattle.std.specs.Prelude.{get_or}
use Rattle.std.proofs.Math.Path.{fun_ext}
use Rattle.leg_failure.specs.Views.{works}
use Rattle.read_balance.specs.Choice.{nearest_leg}
use Rattle.world_state.specs.Kept.{core_of}
use Rattle.world_io.proofs.reads.nearest_leg.Goals as goal

pub returns : goal.returns
returns c =
    c.choose.ensures.chosen
    ∙ ap (λ (p : ℕ → Bool). nearest_leg p (λ l. get_or c.heads.result l 0) c.args.s) (fun_ext c.working-working.ensures ∙ ap works c.view.ensures)
    ∙ ap (λ (h : ℕ → ℕ). nearest_leg (works ((core_of c.args.core.now).view c.args.n)) h c.args.s) c.heads.ensures
