use Rattle.std.proofs.Common.{sym, ◌∙◌, subst, Ok, Err}
use Rattle.leg_store.specs.Leg.{Gives}
use Rattle.image_faults.specs.Legs.{ReadsSlots}
use Rattle.image_faults.proofs.LegLaws.{known, read_refused, read_ended, read_done, summed, fits_super, not_there}
use Rattle.image_faults.proofs.legs.read_leg.Goals as goal

pub returns-in-Err-sizes_of-clause-judged : goal.returns-in-Err-sizes_of-clause-judged
returns-in-Err-sizes_of-clause-judged g c =
    read_refused (g.L.LegDev.contents c.args.leg.now) c.args.chunk c.args.size c.in-Ok.superblock c.own_chunk.result _
    (known (g.L.LegDev.contents c.args.leg.now) c.args.chunk c.args.size c.in-Ok.superblock c.own_chunk.result c.in_ok-block.block c.in_ok-first.first
    c.in_ok-block.ensures.value
    (subst (λ t. Gives t 16 c.in_ok-first.first) c.in_ok-block.ensures.contents c.in_ok-first.ensures.value)
    (sym c.in-Ok.ensures.fault) c.in-Ok.ensures.value (sym c.length_fault.ensures ∙ not_there c.length_fault.result c.in_default.not-Some) c.own_chunk.ensures) c.in-Err-sizes_of.ensures

pub returns-in-Ok-read_slots-clause-judged : goal.returns-in-Ok-read_slots-clause-judged
returns-in-Ok-read_slots-clause-judged g c =
    read_done (g.L.LegDev.contents c.args.leg.now) c.args.chunk c.args.size c.in-Ok.superblock c.own_chunk.result c.sum_of.result c.in-Ok-sizes_of.geometry c.in-Ok-read_slots.slots
    (known (g.L.LegDev.contents c.args.leg.now) c.args.chunk c.args.size c.in-Ok.superblock c.own_chunk.result c.in_ok-block.block c.in_ok-first.first
    c.in_ok-block.ensures.value
    (subst (λ t. Gives t 16 c.in_ok-first.first) c.in_ok-block.ensures.contents c.in_ok-first.ensures.value)
    (sym c.in-Ok.ensures.fault) c.in-Ok.ensures.value (sym c.length_fault.ensures ∙ not_there c.length_fault.result c.in_default.not-Some) c.own_chunk.ensures) c.in-Ok-sizes_of.ensures
    (summed (g.L.LegDev.contents c.args.leg.now) c.sum_of.result c.in_ok-block.block c.in_ok-block.ensures.value (c.sum_of.ensures ∙ sym c.in-Ok.ensures.found.1.checksum))
    (subst (λ t. ReadsSlots t c.in-Ok-sizes_of.geometry c.in-Ok.superblock.uuid (Ok c.in-Ok-read_slots.slots.items))
    (c.in_ok-first.ensures.contents ∙ c.in_ok-block.ensures.contents) c.in-Ok-read_slots.ensures.judged)

pub returns-in-Err-read_slots-clause-judged : goal.returns-in-Err-read_slots-clause-judged
returns-in-Err-read_slots-clause-judged g c =
    read_ended (g.L.LegDev.contents c.args.leg.now) c.args.chunk c.args.size c.in-Ok.superblock c.own_chunk.result c.in-Ok-sizes_of.geometry c.in-Err-read_slots.end
    (known (g.L.LegDev.contents c.args.leg.now) c.args.chunk c.args.size c.in-Ok.superblock c.own_chunk.result c.in_ok-block.block c.in_ok-first.first
    c.in_ok-block.ensures.value
    (subst (λ t. Gives t 16 c.in_ok-first.first) c.in_ok-block.ensures.contents c.in_ok-first.ensures.value)
    (sym c.in-Ok.ensures.fault) c.in-Ok.ensures.value (sym c.length_fault.ensures ∙ not_there c.length_fault.result c.in_default.not-Some) c.own_chunk.ensures) c.in-Ok-sizes_of.ensures
    (subst (λ t. ReadsSlots t c.in-Ok-sizes_of.geometry c.in-Ok.superblock.uuid (Err c.in-Err-read_slots.end))
    (c.in_ok-first.ensures.contents ∙ c.in_ok-block.ensures.contents) c.in-Err-read_slots.ensures.judged)

pub returns-in-Ok-read_slots-clause-fits : goal.returns-in-Ok-read_slots-clause-fits
returns-in-Ok-read_slots-clause-fits g c =
    fits_super c.args.chunk c.args.size c.in-Ok.superblock c.own_chunk.result c.sum_of.result c.in-Ok-sizes_of.geometry c.in-Ok-read_slots.slots _
    c.in-Ok.ensures.found.0 (sym c.length_fault.ensures ∙ not_there c.length_fault.result c.in_default.not-Some) c.in-Ok-sizes_of.ensures c.own_chunk.ensures
    c.in-Ok-read_slots.ensures.sets
