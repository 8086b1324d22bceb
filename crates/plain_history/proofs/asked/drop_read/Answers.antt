use Rattle.std.proofs.Common.{rules, ◌∙◌, ◌≡◌, ◌==◌, ◌&&◌, not}
use Rattle.std.specs.Prelude.{filter}
use Rattle.std.proofs.lemmas.Fn.{filter_same}
use Rattle.plain_history.proofs.Recursions.{without_read-is}
use Rattle.plain_history.proofs.asked.drop_read.Goals as goal

pub returns-clause-items : goal.returns-clause-items
returns-clause-items c =
    let e : c.retain.new.self.items ≡ filter (λ x. not (x.node == c.args.n && x.number == c.args.k)) c.args.reads.now.items = filter_same _ _ _ (λ x b f' k. search rules) _ _ c.retain.ensures.filtered in
    e ∙ without_read-is c.args.n c.args.k c.args.reads.now.items
