use Rattle.std.proofs.Common.{◌≡◌, true, subst, arith}
use Rattle.plain_history.specs.Tables.{IsTidy, LegalIn}
use Rattle.plain_history.proofs.Following.{LegalAfter-in, Follows-after}
use Rattle.plain_history.proofs.plain.Plain.run.Goals as goal

pub returns-in-Ok-clause-run : goal.returns-in-Ok-clause-run
returns-in-Ok-clause-run c base past follows =
    let tidy : IsTidy c.args.self.now = subst IsTidy c.self.view_is c.self.invariant in
    let passes : c.allows.result ≡ true = grind arith in
    let legal : LegalIn c.args.self.now c.args.e.now.event c.args.e.now.outcome = c.allows.ensures.0 passes in
    let x = c.args.e.now in
    record {
      legal = (LegalAfter-in base past c.args.self.now x follows tidy).1 legal;
      follows = rw c.in-Ok.ensures.ok (Follows-after base past c.args.self.now x follows tidy legal);
    }
