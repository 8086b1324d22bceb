use Rattle.std.proofs.Math.Path.{fun_ext}
use Rattle.lock_wire.proofs.LinkLaws.{link-without, resources-without}
use Rattle.lock_wire.proofs.links.Links.drop_node.Goals as goal

pub invariant_of-self : goal.invariant_of-self
invariant_of-self c = rw c.drop_posts.ensures.items (resources-without c.args.n c.self.inside.posts.items c.self.invariant)

pub returns-clause-gone : goal.returns-clause-gone
returns-clause-gone c =
    rw (c.drop_posts.ensures.items, ← c.self.view_is) (fun_ext (λ a. fun_ext (λ b. link-without c.args.n a b c.self.inside.posts.items)))
