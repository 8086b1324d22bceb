use Rattle.dlm_space.proofs.Told.{calls_are_sound}
use Rattle.dlm_space.proofs.laws.calls_are_sound.Goals as goal

pub returns : goal.returns
returns c = calls_are_sound
