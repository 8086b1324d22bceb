use Rattle.std.proofs.Common.{ap, arith}
use Rattle.slot_pages.specs.Slot.{page_start, chunk_bit}
use Rattle.node_bitmaps.specs.declared.cells.Cell.{Cell}
use Rattle.node_bitmaps.proofs.PageLaws.{joined, still}
use Rattle.node_bitmaps.proofs.cells.join.Goals as goal

pub loop-c-preserved : goal.loop-c-preserved
loop-c-preserved c = record {
  upto = omega arith;
  others = still c.args.cells.now c.loop-c.cells c.loop-c.c _ (omega arith)
      (record {
        writes = ap (λ (x : Cell). x.writes) c.with_chunk.ensures;
        marks = ap
            (λ (x : Cell). x.marks) c.with_chunk.ensures;
      }) c.loop-c.invariant.others;
  set = joined c.args.cells.now c.loop-c.cells (page_start c.args.p) c.loop-c.c
      (chunk_bit c.args.page.now.bytes) _ c.has_chunk.result (λ (x : Cell). x.set) (omega arith)
      (omega arith) c.has_chunk.ensures (ap (λ (x : Cell). x.set) c.with_chunk.ensures)
      c.loop-c.invariant.set;
  need = joined c.args.cells.now c.loop-c.cells (page_start c.args.p) c.loop-c.c
      (chunk_bit c.args.page.now.bytes) _ c.has_chunk.result (λ (x : Cell). x.needed) (omega arith)
      (omega arith) c.has_chunk.ensures (ap (λ (x : Cell). x.needed) c.with_chunk.ensures)
      c.loop-c.invariant.need;
}
