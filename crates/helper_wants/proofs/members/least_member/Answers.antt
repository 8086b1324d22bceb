use Rattle.std.proofs.Common.{◌≡◌, ℕ, Bool, ap, sym, ◌∙◌, arith}
use Rattle.dlm_modes.specs.First.{first_such}
use Rattle.dlm_modes.proofs.FirstLaws.{first_such_more, first_such_found, first_such_end, first_such_start}
use Rattle.mdc_types.specs.Geometry.{nodes_of}
use Rattle.cluster_model.specs.Phases.{is_up}
use Rattle.world_state.specs.Kept.{Kept, core_of}
use Rattle.helper_wants.proofs.members.least_member.Goals as goal

pub loop-m-init : goal.loop-m-init
loop-m-init c = first_such_start (λ k. is_up ((core_of c.args.core.now).state k)) c.nodes-nodes.result

pub loop-m-preserved : goal.loop-m-preserved
loop-m-preserved c = c.loop-m.invariant ∙ first_such_more (λ k. is_up ((core_of c.args.core.now).state k)) c.loop-m.m c.nodes-nodes.result (omega arith) (sym c.is_up.ensures ∙ c.if-is_up.false)

pub returns-then-is_up : goal.returns-then-is_up
returns-then-is_up c =
    let test : ℕ → Bool = λ k. is_up ((core_of c.args.core.now).state k) in
    let nodes = c.nodes-nodes.ensures ∙ ap (λ (q : Kept). nodes_of q.identity.geometry) c.core.view_is in
    sym (ap (first_such test 0) (sym nodes) ∙ c.loop-m.invariant ∙ first_such_found test c.loop-m.m c.nodes-nodes.result (omega arith) (sym c.is_up.ensures ∙ c.if-is_up.true))

pub returns : goal.returns
returns c =
    let test : ℕ → Bool = λ k. is_up ((core_of c.args.core.now).state k) in
    let nodes = c.nodes-nodes.ensures ∙ ap (λ (q : Kept). nodes_of q.identity.geometry) c.core.view_is in
    sym (ap (first_such test 0) (sym nodes) ∙ c.loop-m.invariant ∙ first_such_end test c.loop-m.m c.nodes-nodes.result (omega arith))
