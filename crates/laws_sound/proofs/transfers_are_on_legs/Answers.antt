use Rattle.laws_sound.proofs.Runs.{transfers_are_on_legs}
use Rattle.laws_sound.proofs.transfers_are_on_legs.Goals as goal

pub returns : goal.returns
returns c = transfers_are_on_legs
