use Rattle.std.proofs.Common.{ap, sym, ◌∙◌, subst, arith}
use Rattle.mdc_types.specs.declared.numbers.Sector.{Sector}
use Rattle.mdc_types.specs.Sectors.{IsSector}
use Rattle.slot_pages.proofs.PageLaws.{page_of-within}
use Rattle.slot_pages.proofs.GrammarLaws.{writes_more, writes_none, writes_all, keeps_header, one_spelling}
use Rattle.slot_pages.proofs.Spelled.{has_one_spelling}
use Rattle.slot_pages.proofs.page_of_flags.Goals as goal
use Rattle.slot_pages.proofs.page_of_flags.Goals.{then-flag, else-flag}

pub loop-c-preserved : goal.loop-c-preserved
loop-c-preserved g c =
    let here = page_of-within c.loop-c.c c.args.p (omega arith) (omega arith) in
    elim c.if-flag.branch [
      | then-flag w ↦
          let e = ap (λ (s : Sector). s.bytes) w.page-is ∙ w.set_bit.ensures.bytes in
          record {
            sector = subst (λ (s : Sector). IsSector s.bytes) (sym w.page-is) w.set_bit.ensures.sector;
            upto = omega arith;
            header = λ first i lt. rw e (keeps_header c.loop-c.page.bytes c.loop-c.c i (here ∙ first) lt ∙ c.loop-c.invariant.header first i lt);
            bits = λ k there. rw e (writes_more c.loop-c.page.bytes _ c.args.p c.loop-c.c c.loop-c.invariant.sector.size here (sym c.flag.ensures ∙ w.if-flag.true) c.loop-c.invariant.bits k there);
          }
      | else-flag w ↦
          let e = ap (λ (s : Sector). s.bytes) w.page-is in
          record {
            sector = subst (λ (s : Sector). IsSector s.bytes) (sym w.page-is) c.loop-c.invariant.sector;
            upto = omega arith;
            header = λ first i lt. rw e (c.loop-c.invariant.header first i lt);
            bits = λ k there. rw e (writes_none c.loop-c.page.bytes _ c.args.p c.loop-c.c (sym c.flag.ensures ∙ w.if-flag.false) c.loop-c.invariant.bits k there);
          }
    ]

pub returns-clause-grammar : goal.returns-clause-grammar
returns-clause-grammar g c = writes_all c.args.g.now c.args.uuid.now c.args.p c.loop-c.c _ c.loop-c.page.bytes c.requires.chunks (omega arith) (omega arith) (omega arith) c.loop-c.invariant.header c.loop-c.invariant.bits

pub returns-clause-only : goal.returns-clause-only
returns-clause-only g c = λ page sector spells. one_spelling c.args.g.now c.args.uuid.now c.args.p _ page c.loop-c.page.bytes sector c.loop-c.invariant.sector spells
    (writes_all c.args.g.now c.args.uuid.now c.args.p c.loop-c.c _ c.loop-c.page.bytes c.requires.chunks (omega arith) (omega arith) (omega arith) c.loop-c.invariant.header c.loop-c.invariant.bits)

pub returns-clause-bytes : goal.returns-clause-bytes
returns-clause-bytes g c = has_one_spelling c.args.g.now c.args.uuid.now c.args.p _ c.loop-c.page.bytes c.loop-c.invariant.sector (returns-clause-grammar g c)
