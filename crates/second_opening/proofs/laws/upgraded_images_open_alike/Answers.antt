use Rattle.second_opening.proofs.Alike.{opens_alike}
use Rattle.second_opening.proofs.laws.upgraded_images_open_alike.Goals as goal

pub returns : goal.returns
returns c = opens_alike
