use Rattle.std.proofs.Common.{◌∙◌}
use Rattle.helper_wants.proofs.WantLaws.{judged}
use Rattle.helper_wants.proofs.wanting.may_want.Goals as goal

pub returns : goal.returns
returns c = c.is_ok.ensures.value ∙ judged c.check_want.result _ c.check_want.ensures
