use Rattle.slot_pages.proofs.Spelled.{spells_the_set}
use Rattle.slot_pages.proofs.laws.sets_are_spelled.Goals as goal

pub returns : goal.returns
returns c = spells_the_set
