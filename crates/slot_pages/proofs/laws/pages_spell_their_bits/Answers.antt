use Rattle.slot_pages.proofs.Spelled.{spells_its_bits}
use Rattle.slot_pages.proofs.laws.pages_spell_their_bits.Goals as goal

pub returns : goal.returns
returns c = spells_its_bits
