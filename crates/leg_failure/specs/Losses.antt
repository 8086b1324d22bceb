-- What comes of the loss of a leg.
use Rattle.std.specs.Prelude.{ℕ, if◌then◌else◌}
use Rattle.leg_failure.specs.Views.{NodeView, is_last}
use Rattle.leg_failure.specs.declared.view.Lose.{Lose}
use Rattle.leg_failure.specs.declared.view.Lose.TheVariants.{Lost, LastLeg}

-- the only leg that works stays
abbrev pub lose_answer : NodeView → ℕ → Lose
lose_answer v l = if is_last v l then LastLeg else Lost
