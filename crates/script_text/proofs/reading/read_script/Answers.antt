use Rattle.std.proofs.Common.{ap, ◌∙◌}
use Rattle.script_text.specs.Script.{with_lines}
use Rattle.script_text.proofs.GrammarLaws.{IsSetup, script_is}
use Rattle.script_text.proofs.reading.read_script.Goals as goal

-- the array that was read, and its transfers that fail
made : (c : goal.In_ok-places) → IsSetup (record { start = c.in_ok-start-2.start; faults = c.in_ok-start-2.faults.items })
made c =
    script_is c.args.bytes.now _ (c.in_ok-start.ensures.found ∙ (c.in_ok-start-2.ensures.found
    ∙ ap (with_lines (record { start = c.in_ok-start-2.start; faults = c.in_ok-start-2.faults.items })) c.in_ok-places.ensures.1))

pub returns-clause-array : goal.returns-clause-array
returns-clause-array c = (made c).array

pub returns-clause-some_node : goal.returns-clause-some_node
returns-clause-some_node c = (made c).some_node

pub returns-clause-nodes : goal.returns-clause-nodes
returns-clause-nodes c = (made c).nodes

pub returns-clause-leg_0 : goal.returns-clause-leg_0
returns-clause-leg_0 c = (made c).leg_0

pub returns-clause-spares : goal.returns-clause-spares
returns-clause-spares c = (made c).spares

pub returns-clause-faults : goal.returns-clause-faults
returns-clause-faults c = (made c).faults
