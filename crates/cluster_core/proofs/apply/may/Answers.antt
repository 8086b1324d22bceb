use Rattle.cluster_core.proofs.apply.may.Goals as goal

pub returns-in-Leave : goal.returns-in-Leave
returns-in-Leave c = rw c.in-Leave.is c.may_leave.ensures

pub returns-in-AskWrite : goal.returns-in-AskWrite
returns-in-AskWrite c = rw c.in-AskWrite.is (c.may_ask_write.ensures c.in-AskWrite._value)

pub returns-in-SlotOut : goal.returns-in-SlotOut
returns-in-SlotOut c = rw c.in-SlotOut.is c.may_slot_out.ensures
