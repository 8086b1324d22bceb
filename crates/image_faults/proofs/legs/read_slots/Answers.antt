use Rattle.std.proofs.Common.{sym, ◌∙◌, subst, arith, ◌+◌}
use Rattle.std.specs.Prelude.{Ok, Err}
use Rattle.mdc_types.specs.Geometry.{slot_pages}
use Rattle.image_faults.specs.Slots.{ArePages}
use Rattle.image_faults.specs.Legs.{ReadsSlot}
use Rattle.image_faults.proofs.LegLaws.{ReadsTo, sets_more, pages_more_slots, many_more, reads_more, reads_wrong, reads_all}
use Rattle.image_faults.proofs.legs.read_slots.Goals as goal

pub returns-in-Err-clause-judged : goal.returns-in-Err-clause-judged
returns-in-Err-clause-judged g c =
    reads_wrong (g.L.LegDev.contents c.args.leg.now) c.args.g.now c.args.uuid.now c.loop-k.k c.loop-k.slots.items c.in-Err.end (omega arith)
    (subst (λ t. ReadsSlot t c.args.g.now c.args.uuid.now c.loop-k.k (Err c.in-Err.end)) c.loop-k.invariant.contents c.in-Err.ensures.judged)
    c.loop-k.invariant.read

pub loop-k-preserved : goal.loop-k-preserved
loop-k-preserved g c =
    let told = g.L.LegDev.contents c.args.leg.now in
    record {
      contents = c.in-Ok.ensures.contents ∙ c.loop-k.invariant.contents;
      size = c.in-Ok.ensures.size ∙ c.loop-k.invariant.size;
      later = let e = c.in-Ok.ensures.cause.later in omega arith;
      many = many_more c.loop-k.slots.items _ c.in-Ok.set c.loop-k.k c.in_ok-add_slot-in-Ok.ensures c.loop-k.invariant.many;
      sets = sets_more c.args.g.now c.loop-k.slots.items _ c.in-Ok.set c.loop-k.k c.in_ok-add_slot-in-Ok.ensures c.loop-k.invariant.many c.in-Ok.ensures.chunks c.loop-k.invariant.sets;
      pages = pages_more_slots told c.args.g.now c.loop-k.k
          (subst (λ t. ArePages t c.args.g.now c.loop-k.k (slot_pages c.args.g.now)) c.loop-k.invariant.contents c.in-Ok.ensures.sectors) c.loop-k.invariant.pages;
      read = subst (λ slots. ReadsTo told c.args.g.now c.args.uuid.now (c.loop-k.k + 1) slots) (sym c.in_ok-add_slot-in-Ok.ensures)
          (reads_more told c.args.g.now c.args.uuid.now c.loop-k.k c.loop-k.slots.items c.in-Ok.set (omega arith)
          (subst (λ t. ReadsSlot t c.args.g.now c.args.uuid.now c.loop-k.k (Ok c.in-Ok.set)) c.loop-k.invariant.contents c.in-Ok.ensures.judged)
          c.loop-k.invariant.read);
    }

pub returns-clause-judged : goal.returns-clause-judged
returns-clause-judged g c = reads_all (g.L.LegDev.contents c.args.leg.now) c.args.g.now c.args.uuid.now c.loop-k.k c.loop-k.slots.items (omega arith) c.loop-k.invariant.read
