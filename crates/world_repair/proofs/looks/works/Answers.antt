use Rattle.std.proofs.Common.{ap, ◌∙◌, ℕ, Bool}
use Rattle.world_repair.proofs.looks.works.Goals as goal

pub returns : goal.returns
returns c = c.has_leg.ensures ∙ ap (λ (f : ℕ → Bool). f c.args.l) c.working.ensures
