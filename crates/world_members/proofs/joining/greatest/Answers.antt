use Rattle.std.proofs.Common.{◌≡◌, ◌<◌, [], length, ap, ◌∙◌, subst, arith}
use Rattle.std.proofs.lemmas.List.{get_or_default}
use Rattle.cluster_model.specs.Joining.{greatest}
use Rattle.world_state.specs.Kept.{Kept, core_of}
use Rattle.world_members.specs.Tries.{tries_of}
use Rattle.world_members.proofs.joining.greatest.Goals as goal

pub returns : goal.returns
returns c =
    let n = c.args.n in
    let tried = c.core.inside.tried.items in
    let lt : n < length tried = omega (arith, c.core.invariant.tried) in
    let P : Kept → Type 0 = λ q. c.greatest.result ≡ greatest ((core_of q).tried n) in
    subst P c.core.view_is
    (c.greatest.ensures ∙ ap (λ xs. greatest (tries_of xs)) (c.index.ensures ∙ get_or_default tried n c.index.result.now [] lt))
