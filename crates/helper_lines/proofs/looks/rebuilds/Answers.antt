use Rattle.std.proofs.Common.{ℕ, Bool, ap, ◌∙◌}
use Rattle.std.specs.Prelude.{is_some}
use Rattle.dlm_modes.specs.First.{first_such}
use Rattle.helper_lines.proofs.looks.rebuilds.Goals as goal

pub returns : goal.returns
returns c = c.is_some.ensures ∙ ap is_some (c.least_leg.ensures ∙ ap (λ (p : ℕ → Bool). first_such p 0 8) c.rebuilding_legs.ensures)
