use Rattle.slot_pages.proofs.Spelled.{has_the_set}
use Rattle.slot_pages.proofs.laws.pages_have_their_set.Goals as goal

pub returns : goal.returns
returns c = has_the_set
