use Rattle.slot_pages.proofs.Spelled.{has_one_spelling}
use Rattle.slot_pages.proofs.laws.sets_have_one_spelling.Goals as goal

pub returns : goal.returns
returns c = has_one_spelling
