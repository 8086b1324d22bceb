use Rattle.laws_wire.proofs.Tickets.{wires_are_sound}
use Rattle.laws_wire.proofs.laws.wires_are_sound.Goals as goal

pub returns : goal.returns
returns c = wires_are_sound
