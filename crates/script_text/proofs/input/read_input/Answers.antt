use Rattle.std.proofs.Common.{[], ◌∷◌, ◌++◌, Result, Ok, Err, ap, sym, ◌∙◌, arith}
use Rattle.std.proofs.Common.{rules}
use Rattle.std.proofs.lemmas.Grind.{common_steps}
use Rattle.std.specs.Prelude.{OnErr}
use Rattle.script_text.specs.Outside.{with_front}
use Rattle.script_text.proofs.InputLaws.{begins, push_begins, at_end, open_next, open_at, part_at_end, part_full, part_is, part_ended, part_alone, took_is, taken_more, part_at_last, tested}
use Rattle.script_text.proofs.input.read_input.Goals as goal

on_err : {T E : Type 0} (r : Result T E) (P : Type 0) → P → OnErr r P
on_err (Ok x) P p = tt
on_err (Err e) P p = p

pub returns-in_err-byte-clause-err : goal.returns-in_err-byte-clause-err
returns-in_err-byte-clause-err g c =
    let i = c.loop-source.invariant in
    on_err _ _ (took_is _ _ _ (i.taken ∙ ap (with_front c.loop-source.bytes.items) (sym c.in_err-byte.ensures.err)) i.few (begins _ _ i.line))

pub returns-in_default-clause-part : goal.returns-in_default-clause-part
returns-in_default-clause-part g c =
    let i = c.loop-source.invariant in
    part_at_last _ _ _ i.taken (c.in_ok-byte.ensures.end (ap Ok c.in_default.is)) (part_at_end _ _ i.line i.few)

pub returns-in_default-clause-alone : goal.returns-in_default-clause-alone
returns-in_default-clause-alone g c = let i = c.loop-source.invariant in part_at_end _ _ i.line i.few

pub returns-in_err-push-clause-err : goal.returns-in_err-push-clause-err
returns-in_err-push-clause-err g c =
    let i = c.loop-source.invariant in
    on_err _ _ (took_is _ _ _ (taken_more _ _ _ _ _ c.in-Some.byte i.taken c.in_ok-byte.ensures.taken c.in-Some.is) (grind (arith, common_steps)) (push_begins _ _ i.line c.in-Some.byte))

pub returns-then-eq-clause-part : goal.returns-then-eq-clause-part
returns-then-eq-clause-part g c =
    let i = c.loop-source.invariant in
    let items_is = c.in_ok-push.ensures.items ∙ ap (λ b. c.loop-source.bytes.items ++ b ∷ []) c.if-byte-eq10.true in
    let last = tested c.loop-source.bytes.items c.deref.result.now c.loop-source.line_start c.in-Some.byte _ i.line.within (c.deref.ensures.value ∙ c.in_ok-push.ensures.items) c.if-byte-eq10.true c.if-eq.ensures in
    part_is _ _ c.push.new.self.items (taken_more _ _ _ _ _ c.in-Some.byte i.taken c.in_ok-byte.ensures.taken c.in-Some.is ∙ ap (λ bytes. with_front bytes (g.S.Source.left c.next_byte.new.source)) (sym c.in_ok-push.ensures.items))
    (λ rest is. part_ended _ _ items_is (at_end _ _ i.line last) (grind (arith, common_steps)) rest)

pub returns-then-eq-clause-alone : goal.returns-then-eq-clause-alone
returns-then-eq-clause-alone g c =
    let i = c.loop-source.invariant in
    let items_is = c.in_ok-push.ensures.items ∙ ap (λ b. c.loop-source.bytes.items ++ b ∷ []) c.if-byte-eq10.true in
    let last = tested c.loop-source.bytes.items c.deref.result.now c.loop-source.line_start c.in-Some.byte _ i.line.within (c.deref.ensures.value ∙ c.in_ok-push.ensures.items) c.if-byte-eq10.true c.if-eq.ensures in
    part_alone _ (part_ended _ _ items_is (at_end _ _ i.line last) (grind (arith, common_steps)))

pub loop-source-preserved-then-byte-eq10 : goal.loop-source-preserved-then-byte-eq10
loop-source-preserved-then-byte-eq10 g c =
    let i = c.loop-source.invariant in
    let items_is = c.in_ok-push.ensures.items ∙ ap (λ b. c.loop-source.bytes.items ++ b ∷ []) c.if-byte-eq10.true in
    let other = tested c.loop-source.bytes.items c.deref.result.now c.loop-source.line_start c.in-Some.byte _ i.line.within (c.deref.ensures.value ∙ c.in_ok-push.ensures.items) c.if-byte-eq10.true c.if-eq.ensures in
    record {
      taken = taken_more _ _ _ _ _ c.in-Some.byte i.taken c.in_ok-byte.ensures.taken c.in-Some.is ∙ ap (λ bytes. with_front bytes (g.S.Source.left c.next_byte.new.source)) (sym c.in_ok-push.ensures.items);
      line = open_at c.push.new.self.items _ c.len-line_start.result items_is (search rules) (open_next _ _ i.line other);
      few = grind (arith, common_steps);
      later = omega (arith, c.next_byte.ensures.cause);
    }

pub returns-clause-part : goal.returns-clause-part
returns-clause-part g c = let i = c.loop-source.invariant in part_is _ _ _ i.taken (λ rest is. part_full _ _ i.line (omega arith) rest)

pub returns-clause-alone : goal.returns-clause-alone
returns-clause-alone g c = let i = c.loop-source.invariant in part_alone _ (part_full _ _ i.line (omega arith))
