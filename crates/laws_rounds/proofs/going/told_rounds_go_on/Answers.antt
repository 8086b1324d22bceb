use Rattle.laws_rounds.specs.Machine.{rounds_after}
use Rattle.laws_rounds.proofs.Runs.{inv_after}
use Rattle.laws_rounds.proofs.ToldGoing.{told_goes_on}
use Rattle.laws_rounds.proofs.going.told_rounds_go_on.Goals as goal

pub returns : goal.returns
returns c = λ members past accepted told. told_goes_on (rounds_after members past) members past (inv_after members past accepted) told
