use Rattle.std.proofs.Common.{rules, ◌∙◌, ◌≡◌, ◌==◌, ◌&&◌, not}
use Rattle.std.specs.Prelude.{filter}
use Rattle.std.proofs.lemmas.Fn.{filter_same}
use Rattle.lock_wire.proofs.LinkLaws.{without_posts-is}
use Rattle.lock_wire.proofs.links.drop_posts.Goals as goal

pub returns-clause-items : goal.returns-clause-items
returns-clause-items c =
    let e : c.retain.new.self.items ≡ filter (λ p. not (p.from == c.args.n) && not (p.to == c.args.n)) c.args.posts.now.items = filter_same _ _ _ (λ x b f' k. search rules) _ _ c.retain.ensures.filtered in
    e ∙ without_posts-is c.args.n c.args.posts.now.items
