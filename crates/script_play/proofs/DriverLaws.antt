-- How a line ended whose events weren't all made.
use Rattle.std.proofs.Common.{◌≡◌, Result, Err, refl}
use Rattle.cluster_core.specs.declared.world.StepEnd.{StepEnd}
use Rattle.cluster_core.specs.declared.world.StepEnd.TheVariants as steps
use Rattle.script_play.specs.Drivers.{line_end}
use Rattle.script_play.specs.declared.playing.LineEnd.{LineEnd}
use Rattle.script_play.specs.declared.playing.LineEnd.TheVariants as lines

pub full_of : {A : Type 0} (why : StepEnd) (end : LineEnd) → end ≡ line_end why
    → ◌≡◌ {A = Result A LineEnd} (Err end) (Err lines.TraceFull) → why ≡ steps.TraceFull
full_of steps.TraceFull end is err = refl
full_of steps.Memory end is err = cc
full_of (steps.Refused why) end is err = cc
