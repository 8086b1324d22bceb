use Rattle.std.proofs.Common.{ap, arith, subst, Ok}
use Rattle.image_faults.specs.Legs.{ReadsSlot}
use Rattle.image_faults.specs.Slots.{AddsSlot, JudgesSlot}
use Rattle.image_faults.proofs.LegLaws.{slot_read}
use Rattle.image_faults.proofs.legs.one_slot.Goals as goal

pub returns-then-branch-clause-judged : goal.returns-then-branch-clause-judged
returns-then-branch-clause-judged g c =
    let told = g.L.LegDev.contents c.first_of_slot.new.leg in
    let read = c.in_ok-read_slot.ensures in
    subst (λ t. ReadsSlot t c.args.g.now c.args.uuid.now c.args.k (Ok c.read_slot.new.set)) c.in_ok-page.ensures.contents
    (slot_read told c.args.g.now c.args.uuid.now c.args.k c.chunks.result c.read_slot.new.set (rw c.chunks.ensures.value at c.chunks.ensures.range.1)
    (subst (λ b. JudgesSlot told c.args.g.now c.args.uuid.now c.args.k b) c.if-branch.true read.judged)
    (subst (λ s. AddsSlot told c.args.g.now c.args.k s c.read_slot.new.set) c.in_ok-set.ensures (read.bits (ap Ok c.if-branch.true))))
