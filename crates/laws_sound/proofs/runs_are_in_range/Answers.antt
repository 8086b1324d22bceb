use Rattle.laws_sound.proofs.Runs.{runs_are_in_range}
use Rattle.laws_sound.proofs.runs_are_in_range.Goals as goal

pub returns : goal.returns
returns c = runs_are_in_range
