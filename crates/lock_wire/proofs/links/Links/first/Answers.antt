use Rattle.std.proofs.Common.{subst}
use Rattle.lock_wire.specs.Parts.{IsFirstOn}
use Rattle.lock_wire.proofs.LinkLaws.{first_is, range_is}
use Rattle.lock_wire.proofs.links.Links.first.Goals as goal

pub returns-clause-first : goal.returns-clause-first
returns-clause-first c =
    let f : IsFirstOn c.self.inside.posts.items c.args.from c.args.to c.in_ok-at.at = subst (λ ps. IsFirstOn ps c.args.from c.args.to c.in_ok-at.at) c.deref.ensures.value c.in_ok-at.ensures.found in
    rw (← c.self.view_is) (first_is c.self.inside.posts.items c.args.from c.args.to c.in_ok-at.at c.index.result.now f c.index.ensures)

pub returns-clause-range : goal.returns-clause-range
returns-clause-range c =
    let f : IsFirstOn c.self.inside.posts.items c.args.from c.args.to c.in_ok-at.at = subst (λ ps. IsFirstOn ps c.args.from c.args.to c.in_ok-at.at) c.deref.ensures.value c.in_ok-at.ensures.found in
    range_is c.self.inside.posts.items c.args.from c.args.to c.in_ok-at.at c.index.result.now f c.index.ensures c.self.invariant
