use Rattle.std.proofs.Common.{sym, ◌∙◌, subst, arith}
use Rattle.leg_store.specs.Leg.{Gives}
use Rattle.mdc_types.specs.Geometry.{page_sector}
use Rattle.slot_pages.specs.Faults.{slot_fault}
use Rattle.slot_pages.specs.Slot.{AddsPage}
use Rattle.image_faults.proofs.SlotLaws.{judges_more, judges_wrong, judges_all, adds_more, pages_more, fault_told, ok_has}
use Rattle.image_faults.proofs.slots.read_slot.Goals as goal

pub returns-then-is_err-clause-judged : goal.returns-then-is_err-clause-judged
returns-then-is_err-clause-judged g c =
    let page = c.in_ok-page.page in
    let gives = subst (λ t. Gives t (page_sector c.args.g.now c.args.k c.loop-p.p) page) c.loop-p.invariant.contents c.in_ok-page.ensures.value in
    judges_wrong (g.L.LegDev.contents c.args.leg.now) c.args.g.now c.args.uuid.now c.args.k c.loop-p.p page gives
    (fault_told c.read_page.result (slot_fault c.args.g.now c.args.uuid.now c.loop-p.p page.bytes) _ c.read_page.ensures.fault (sym c.is_err.ensures.value ∙ c.if-is_err.true))
    (omega arith) c.loop-p.invariant.judged

pub loop-p-preserved : goal.loop-p-preserved
loop-p-preserved g c =
    let page = c.in_ok-page.page in
    let gives = subst (λ t. Gives t (page_sector c.args.g.now c.args.k c.loop-p.p) page) c.loop-p.invariant.contents c.in_ok-page.ensures.value in
    let sound = sym c.is_err.ensures.value ∙ c.if-is_err.false in
    let added = ok_has c.read_page.result (AddsPage c.args.g.now c.loop-p.p page.bytes c.loop-p.set c.read_page.new.into) sound c.read_page.ensures.added in
    record {
      contents = c.in_ok-page.ensures.contents ∙ c.loop-p.invariant.contents;
      size = c.in_ok-page.ensures.size ∙ c.loop-p.invariant.size;
      later = let e = c.in_ok-page.ensures.cause.later in omega arith;
      chunks = added.chunks ∙ c.loop-p.invariant.chunks;
      judged = judges_more (g.L.LegDev.contents c.args.leg.now) c.args.g.now c.args.uuid.now c.args.k c.loop-p.p page gives
          (fault_told c.read_page.result (slot_fault c.args.g.now c.args.uuid.now c.loop-p.p page.bytes) _ c.read_page.ensures.fault sound)
          (omega arith) c.loop-p.invariant.judged;
      sectors = pages_more (g.L.LegDev.contents c.args.leg.now) c.args.g.now c.args.k c.loop-p.p page gives c.in_ok-page.ensures.sector c.loop-p.invariant.sectors;
      bits = adds_more (g.L.LegDev.contents c.args.leg.now) c.args.g.now c.args.k c.loop-p.p page c.args.set.now c.loop-p.set c.read_page.new.into
          gives added c.loop-p.invariant.bits;
    }

pub returns-clause-judged : goal.returns-clause-judged
returns-clause-judged g c = judges_all (g.L.LegDev.contents c.args.leg.now) c.args.g.now c.args.uuid.now c.args.k c.loop-p.p (omega arith) c.loop-p.invariant.judged
