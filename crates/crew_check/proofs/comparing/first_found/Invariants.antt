use Rattle.std.proofs.Common.{◌≡◌, drop}
use Rattle.dlm_modes.specs.Guards.{first_of}
use Rattle.crew_check.proofs.comparing.first_found.Given as goal

abbrev pub invariant-loop-place : goal.invariant-loop-place
invariant-loop-place l = first_of l.found ≡ first_of (drop l.place-index l.found)
