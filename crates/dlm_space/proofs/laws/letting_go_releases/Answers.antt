use Rattle.dlm_space.proofs.Releasing.{letting_go_releases}
use Rattle.dlm_space.proofs.laws.letting_go_releases.Goals as goal

pub returns : goal.returns
returns c = letting_go_releases
