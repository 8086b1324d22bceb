use Rattle.std.proofs.Common.{ℕ, sym, ap, ◌∙◌, arith}
use Rattle.dlm_modes.specs.First.{first_such}
use Rattle.dlm_modes.proofs.FirstLaws.{first_such_more, first_such_found, first_such_end, first_such_start}
use Rattle.cluster_model.specs.State.{Core}
use Rattle.driver_rules.specs.Lines.{may_begin}
use Rattle.world_state.specs.Kept.{core_of}
use Rattle.helper_lines.proofs.begins.slot_to_begin.Goals as goal

pub loop-d-init : goal.loop-d-init
loop-d-init c = first_such_start (may_begin (core_of c.args.core.now)) c.node_count-nodes.result

pub returns-then-may_begin : goal.returns-then-may_begin
returns-then-may_begin c =
    let core : Core = core_of c.args.core.now in
    sym (ap (λ (count : ℕ). first_such (may_begin core) 0 count) (sym c.node_count-nodes.ensures) ∙ c.loop-d.invariant
    ∙ first_such_found (may_begin core) c.loop-d.d c.node_count-nodes.result (omega arith) (sym c.may_begin.ensures ∙ c.if-may_begin.true))

pub loop-d-preserved : goal.loop-d-preserved
loop-d-preserved c =
    let core : Core = core_of c.args.core.now in
    c.loop-d.invariant ∙ first_such_more (may_begin core) c.loop-d.d c.node_count-nodes.result (omega arith) (sym c.may_begin.ensures ∙ c.if-may_begin.false)

pub returns : goal.returns
returns c =
    let core : Core = core_of c.args.core.now in
    sym (ap (λ (count : ℕ). first_such (may_begin core) 0 count) (sym c.node_count-nodes.ensures) ∙ c.loop-d.invariant
    ∙ first_such_end (may_begin core) c.loop-d.d c.node_count-nodes.result (omega arith))
