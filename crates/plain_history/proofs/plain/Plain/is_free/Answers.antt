use Rattle.std.proofs.Common.{◌≡◌, ap, ◌∙◌}
use Rattle.plain_history.specs.Asked.{any_of_sector}
use Rattle.plain_history.proofs.Following.{free_test}
use Rattle.plain_history.proofs.plain.Plain.is_free.Goals as goal

pub returns : goal.returns
returns c =
    let e : c.any_of_sector.result ≡ any_of_sector c.args.s c.self.inside.writes.items = c.any_of_sector.ensures ∙ ap (any_of_sector c.args.s) c.deref.ensures.value in
    rw (e, ← c.self.view_is) (free_test _ c.args.s c.self.invariant)
