use Rattle.laws_sound.proofs.Counts.{runs_are_counted}
use Rattle.laws_sound.proofs.runs_are_counted.Goals as goal

pub returns : goal.returns
returns c = runs_are_counted
