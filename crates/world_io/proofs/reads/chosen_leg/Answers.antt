use Rattle.std.proofs.Common.{◌∙◌, ap, ℕ, Bool}
use Rattle.std.specs.Prelude.{get_or}
use Rattle.std.proofs.Math.Path.{fun_ext}
use Rattle.leg_failure.specs.Views.{works}
use Rattle.read_balance.specs.Choice.{chosen_leg}
use Rattle.world_state.specs.Kept.{core_of}
use Rattle.world_io.proofs.reads.chosen_leg.Goals as goal

pub returns : goal.returns
returns c =
    c.choose.ensures.chosen
    ∙ ap (λ (p : ℕ → Bool). chosen_leg p (λ l. get_or c.heads.result l 0) c.args.s c.reads_first.result) (fun_ext c.working-working.ensures ∙ ap works c.view.ensures)
    ∙ ap (λ (h : ℕ → ℕ). chosen_leg (works ((core_of c.args.core.now).view c.args.n)) h c.args.s c.reads_first.result) c.heads.ensures
    ∙ ap (λ (b : Bool). chosen_leg (works ((core_of c.args.core.now).view c.args.n)) ((core_of c.args.core.now).head c.args.n) c.args.s b) c.reads_first.ensures
