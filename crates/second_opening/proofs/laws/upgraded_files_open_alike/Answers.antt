use Rattle.second_opening.proofs.Stored.{files_open_alike}
use Rattle.second_opening.proofs.laws.upgraded_files_open_alike.Goals as goal

pub returns : goal.returns
returns c = files_open_alike
