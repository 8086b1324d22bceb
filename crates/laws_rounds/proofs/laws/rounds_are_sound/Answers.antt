use Rattle.laws_rounds.proofs.RunsSound.{rounds_are_sound}
use Rattle.laws_rounds.proofs.laws.rounds_are_sound.Goals as goal

pub returns : goal.returns
returns c = rounds_are_sound
