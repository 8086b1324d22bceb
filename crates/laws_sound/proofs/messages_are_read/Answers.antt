use Rattle.laws_sound.proofs.Runs.{messages_are_read}
use Rattle.laws_sound.proofs.messages_are_read.Goals as goal

pub returns : goal.returns
returns c = messages_are_read
