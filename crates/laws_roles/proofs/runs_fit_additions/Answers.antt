use Rattle.laws_roles.proofs.Promises.{runs_fit_additions}
use Rattle.laws_roles.proofs.runs_fit_additions.Goals as goal

pub returns : goal.returns
returns c = runs_fit_additions
