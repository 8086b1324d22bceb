use Rattle.plain_history.proofs.values.is_candidate.Goals as goal
use Rattle.plain_history.proofs.Scans.{list_past}
use Rattle.plain_history.specs.History.{IsIn}
use Rattle.std.proofs.Common.{subst}
use Rattle.std.proofs.lemmas.Bool.{false≢true}

pub returns : goal.returns
returns c = (λ no. absurd (false≢true no), λ has. elim (subst (λ vs. IsIn c.args.v.now vs) (list_past (λ list. list.items) c.args.values.now c.args.s c.if-s-values.false) has) [ ])
