use Rattle.std.proofs.Common.{◌≡◌, ◌<◌, [], ◌∷◌, ◌++◌, length, refl, ◌∙◌, ap, arith, reverse}
use Rattle.std.proofs.lemmas.List.{reverse-append, length-reverse}
use Rattle.cluster_model.specs.Run.{entry}
use Rattle.cluster_core.specs.World.{trace_limit}
use Rattle.cluster_core.proofs.Readying.{ready}
use Rattle.cluster_core.proofs.Reaching.{same_sizes, one_more}
use Rattle.cluster_core.proofs.world.World.step.Goals as goal

pub may-requires : goal.may-requires
may-requires g c = ready c.told_rounds_go_on.ensures _ c.self.invariant

pub apply-outcome-requires-clause-ready : goal.apply-outcome-requires-clause-ready
apply-outcome-requires-clause-ready g c = ready c.told_rounds_go_on.ensures _ c.self.invariant

pub apply-outcome-requires-clause-fits : goal.apply-outcome-requires-clause-fits
apply-outcome-requires-clause-fits g c = same_sizes _ c.self.invariant

pub invariant_of-self-2 : goal.invariant_of-self-2
invariant_of-self-2 g c =
    let old = c.self.inside.trace.items in
    let this = entry c.args.e c.apply-outcome.result ∷ [] in
    let past : reverse c.push_reserved.new.self.items ≡ entry c.args.e c.apply-outcome.result ∷ reverse old = ap reverse (c.push_reserved.ensures.items ∙ ap (λ items. items ++ this) c.reserve.ensures.items) ∙ reverse-append old this in
    let room : length (reverse old) < trace_limit = omega (arith, length-reverse old, c.len.ensures, c.if-len-ge-TRACE_LIMIT.false) in
    one_more _ _ c.args.e c.apply-outcome.result c.self.invariant refl past room c.apply-outcome.ensures
