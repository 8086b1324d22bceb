use Rattle.laws_rounds.specs.Machine.{rounds_after}
use Rattle.laws_rounds.proofs.Runs.{inv_after}
use Rattle.laws_rounds.proofs.Tells.{tells_grants}
use Rattle.laws_rounds.proofs.going.rounds_are_told.Goals as goal

pub returns : goal.returns
returns c = λ members past accepted. tells_grants (rounds_after members past) members past (inv_after members past accepted)
