use Rattle.std.proofs.Common.{ap}
use Rattle.std.specs.Result.{result_ok}
use Rattle.script_text.specs.Script.{fault_in}
use Rattle.script_text.proofs.PartLaws.{part_judged, part_images_judged, part_locks_judged, part_wire_judged}
use Rattle.script_text.proofs.reading.part_is_judged_as_all.Goals as goal

pub returns-clause-script : goal.returns-clause-script
returns-clause-script c bytes = ap result_ok (part_judged bytes)

pub returns-clause-fault : goal.returns-clause-fault
returns-clause-fault c bytes = ap fault_in (part_judged bytes)

pub returns-clause-images : goal.returns-clause-images
returns-clause-images c bytes = ap result_ok (part_images_judged bytes)

pub returns-clause-images_fault : goal.returns-clause-images_fault
returns-clause-images_fault c bytes = ap fault_in (part_images_judged bytes)

pub returns-clause-lock_script : goal.returns-clause-lock_script
returns-clause-lock_script c bytes = ap result_ok (part_locks_judged bytes)

pub returns-clause-lock_fault : goal.returns-clause-lock_fault
returns-clause-lock_fault c bytes = ap fault_in (part_locks_judged bytes)

pub returns-clause-wire_script : goal.returns-clause-wire_script
returns-clause-wire_script c bytes = ap result_ok (part_wire_judged bytes)

pub returns-clause-wire_fault : goal.returns-clause-wire_fault
returns-clause-wire_fault c bytes = ap fault_in (part_wire_judged bytes)
