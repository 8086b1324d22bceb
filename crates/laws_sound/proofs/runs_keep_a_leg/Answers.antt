use Rattle.laws_sound.proofs.Runs.{runs_keep_a_leg}
use Rattle.laws_sound.proofs.runs_keep_a_leg.Goals as goal

pub returns : goal.returns
returns c = runs_keep_a_leg
