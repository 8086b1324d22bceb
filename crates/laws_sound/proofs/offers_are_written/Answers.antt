use Rattle.laws_sound.proofs.Runs.{offers_are_written}
use Rattle.laws_sound.proofs.offers_are_written.Goals as goal

pub returns : goal.returns
returns c = offers_are_written
