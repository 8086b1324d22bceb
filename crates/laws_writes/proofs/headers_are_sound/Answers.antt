use Rattle.laws_writes.proofs.Headers.{headers_are_sound}
use Rattle.laws_writes.proofs.headers_are_sound.Goals as goal

pub returns : goal.returns
returns c = headers_are_sound
