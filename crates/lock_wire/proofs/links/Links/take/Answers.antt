use Rattle.std.proofs.Common.{subst}
use Rattle.lock_wire.specs.Parts.{IsFirstOn}
use Rattle.lock_wire.proofs.LinkLaws.{taken_off, resources-remove}
use Rattle.lock_wire.proofs.links.Links.take.Goals as goal

pub invariant_of-self : goal.invariant_of-self
invariant_of-self c = rw c.remove.ensures.items (resources-remove c.self.inside.posts.items c.in-Some.at c.self.invariant)

pub returns-in-Some-clause-taken : goal.returns-in-Some-clause-taken
returns-in-Some-clause-taken c =
    let f : IsFirstOn c.self.inside.posts.items c.args.from c.args.to c.in-Some.at = subst (λ ps. IsFirstOn ps c.args.from c.args.to c.in-Some.at) c.deref.ensures.value c.in-Some.ensures.found in
    rw (c.remove.ensures.items, ← c.self.view_is) (taken_off c.self.inside.posts.items c.args.from c.args.to c.in-Some.at f)
