use Rattle.std.proofs.Common.{◌≡◌, length, ap, sym, ◌∙◌, arith}
use Rattle.std.specs.Prelude.{None}
use Rattle.fs_guard.specs.Writers.{holder, holders_of}
use Rattle.fs_guard.proofs.Holders.{apart-begin, holders-begin}
use Rattle.fs_guard.proofs.Guard.begin.Goals as goal

pub invariant_of-self : goal.invariant_of-self
invariant_of-self c =
    let free : holder c.args.s c.self.inside.writers.items ≡ None = ap (holder c.args.s) c.self.view_is ∙ sym c.holder.ensures.node ∙ c.in_default.is in
    let same = ap length c.self.view_is in
    let room = c.requires (sym c.holder.ensures.node ∙ c.in_default.is) in
    (rw c.push.ensures.items (apart-begin c.args.s c.args.n c.self.inside.writers.items c.self.invariant.0 free), omega (arith, c.push.ensures.len, same, room))

pub returns-clause-holders : goal.returns-clause-holders
returns-clause-holders c =
    let free : holder c.args.s c.self.inside.writers.items ≡ None = ap (holder c.args.s) c.self.view_is ∙ sym c.holder.ensures.node ∙ c.in_default.is in
    rw (← c.self.view_is) (ap holders_of c.push.ensures.items ∙ holders-begin c.args.s c.args.n c.self.inside.writers.items free)
