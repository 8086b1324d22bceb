use Rattle.std.proofs.Common.{◌≡◌, true, false, None, Some, Option, ℕ, sym, ap, ◌∙◌, arith}
use Rattle.dlm_modes.specs.First.{first_such}
use Rattle.dlm_modes.proofs.FirstLaws.{first_such_more, first_such_found, first_such_end, first_such_start}
use Rattle.cluster_model.specs.State.{Core}
use Rattle.driver_rules.specs.Helpers.{has_help, is_live, first_enabled, first_of_node}
use Rattle.world_state.specs.Kept.{core_of}
use Rattle.helper_list.proofs.ListLaws.{helps, helped_by, no_help}
use Rattle.helper_list.proofs.helped.next_help.Goals as goal

pub loop-n-init : goal.loop-n-init
loop-n-init c = first_such_start (has_help (core_of c.args.core.now)) c.node_count-nodes.result

pub returns-in-Some : goal.returns-in-Some
returns-in-Some c =
    let core : Core = core_of c.args.core.now in
    let is = sym c.help_of.ensures ∙ c.in-Some.is in
    let found = c.loop-n.invariant ∙ first_such_found (has_help core) c.loop-n.n c.node_count-nodes.result (omega arith) (helps (is_live core c.loop-n.n) (first_enabled core c.loop-n.n) c.in-Some.e is) in
    let here : first_enabled core c.loop-n.n ≡ Some c.in-Some.e = helped_by (is_live core c.loop-n.n) (first_enabled core c.loop-n.n) c.in-Some.e is in
    sym (ap (λ (count : ℕ). first_of_node core (first_such (has_help core) 0 count)) (sym c.node_count-nodes.ensures) ∙ ap (first_of_node core) found ∙ here)

pub loop-n-preserved : goal.loop-n-preserved
loop-n-preserved c =
    let core : Core = core_of c.args.core.now in
    c.loop-n.invariant ∙ first_such_more (has_help core) c.loop-n.n c.node_count-nodes.result (omega arith) (no_help (is_live core c.loop-n.n) (first_enabled core c.loop-n.n) (sym c.help_of.ensures ∙ c.in_default.is))

pub returns : goal.returns
returns c =
    let core : Core = core_of c.args.core.now in
    sym (ap (λ (count : ℕ). first_of_node core (first_such (has_help core) 0 count)) (sym c.node_count-nodes.ensures) ∙ ap (first_of_node core) (c.loop-n.invariant ∙ first_such_end (has_help core) c.loop-n.n c.node_count-nodes.result (omega arith)))
