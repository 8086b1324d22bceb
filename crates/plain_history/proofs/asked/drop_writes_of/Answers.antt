use Rattle.std.proofs.Common.{rules, ◌∙◌, ◌≡◌, ◌==◌, not}
use Rattle.std.specs.Prelude.{filter}
use Rattle.std.proofs.lemmas.Fn.{filter_same}
use Rattle.plain_history.proofs.Recursions.{without_writes_of-is}
use Rattle.plain_history.proofs.asked.drop_writes_of.Goals as goal

pub returns : goal.returns
returns c =
    let e : c.retain.new.self.items ≡ filter (λ x. not (x.node == c.args.n)) c.args.writes.now.items = filter_same _ _ _ (λ x b f' k. search rules) _ _ c.retain.ensures.filtered in
    e ∙ without_writes_of-is c.args.n c.args.writes.now.items
