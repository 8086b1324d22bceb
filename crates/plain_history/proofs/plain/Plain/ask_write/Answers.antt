use Rattle.std.proofs.Common.{length, ap, arith}
use Rattle.plain_history.proofs.Following.{tidy-ask_write}
use Rattle.plain_history.proofs.plain.Plain.ask_write.Goals as goal

pub invariant_of-self-2 : goal.invariant_of-self-2
invariant_of-self-2 c =
    let same = ap (λ t. length t.values) c.self.view_is in
    rw (c.push_reserved.ensures.items, c.drop_write.ensures.items, c.in_ok-reserve.ensures.items) (tidy-ask_write _ c.self.invariant c.args.n c.args.k c.args.s c.args.v.now (omega (arith, same, c.requires)))
