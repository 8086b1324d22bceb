use Rattle.lock_wire.proofs.LinkLaws.{link-send, resources-push}
use Rattle.lock_wire.proofs.links.Links.send.Goals as goal

pub invariant_of-self : goal.invariant_of-self
invariant_of-self c = rw c.push_reserved.ensures.items (resources-push _ _ c.self.invariant c.requires.range)

pub returns-clause-sent : goal.returns-clause-sent
returns-clause-sent c = rw (c.push_reserved.ensures.items, ← c.self.view_is) (link-send c.self.inside.posts.items _)
