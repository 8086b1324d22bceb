use Rattle.std.proofs.Common.{List, Bool, length, get_or, false, sym, ap, ◌∙◌, arith}
use Rattle.std.proofs.lemmas.List.{length-set}
use Rattle.slot_pages.specs.Slot.{page_start, chunk_bit}
use Rattle.slot_pages.proofs.PageLaws.{adds_more, adds_none, ends_adding}
use Rattle.slot_pages.proofs.page_bits.Goals as goal
use Rattle.slot_pages.proofs.page_bits.Goals.{then-has_chunk, else-has_chunk}

pub loop-c-preserved : goal.loop-c-preserved
loop-c-preserved c =
    let bit = chunk_bit c.args.page.now.bytes in
    elim c.if-has_chunk.branch [
      | then-has_chunk w ↦ let e = w.into-is ∙ w.add.ensures in record {
        upto = omega arith;
        chunks = ap (length {A = Bool}) e ∙ length-set _ _ _ ∙ c.loop-c.invariant.chunks;
        each = λ k. ap (λ (xs : List Bool). get_or xs k false) e ∙ adds_more c.args.into.now c.loop-c.into (page_start c.args.p) c.loop-c.c bit (omega arith) (omega (arith, c.loop-c.invariant.chunks)) c.loop-c.invariant.each (sym c.has_chunk.ensures ∙ w.if-has_chunk.true) k;
      }
      | else-has_chunk w ↦ let e = w.into-is in record {
        upto = omega arith;
        chunks = ap (length {A = Bool}) e ∙ c.loop-c.invariant.chunks;
        each = λ k. ap (λ (xs : List Bool). get_or xs k false) e ∙ adds_none c.args.into.now c.loop-c.into (page_start c.args.p) c.loop-c.c bit c.loop-c.invariant.each (sym c.has_chunk.ensures ∙ w.if-has_chunk.false) k;
      }
    ]

pub returns : goal.returns
returns c =
    record {
      chunks = c.loop-c.invariant.chunks;
      each = ends_adding c.args.into.now c.loop-c.into c.args.p _ c.loop-c.c (chunk_bit c.args.page.now.bytes) (omega arith) (omega arith) (omega arith) c.loop-c.invariant.each;
    }
