-- Text of which a front was written and the rest waits.
use Rattle.std.proofs.Common.{◌≡◌, ℕ, ◌+◌, List, [], ◌++◌, length, take, Option, Result, Ok, Err, refl, ap, sym, ◌∙◌, arith}
use Rattle.std.proofs.lemmas.List.{append_assoc, append-nil, length-append}
use Rattle.std.proofs.Math.Seq.{take-append-add}
use Rattle.std.specs.Result.{OnOk, OnErr}
use Rattle.script_text.specs.Outside.{with_back, WroteFront, IsDue}
use Rattle.script_text.proofs.OutsideLaws.{with_back-with_back, with_back-nil}

pub due_start : (before : Option (List ℕ)) → IsDue before [] [] before
due_start before = record { front = []; text_is = refl; written = sym (with_back-nil before) }

-- the text is a front of all that waited, and what waits now is the rest of that and of more
pub due_more : (before now later : Option (List ℕ)) (text waiting more rest : List ℕ) → IsDue before text waiting now → IsDue now (waiting ++ more) rest later → IsDue before (text ++ more) rest later
due_more before now later text waiting more rest d e = record {
  front = d.front ++ e.front;
  text_is = ap (λ t. t ++ more) d.text_is ∙ (append_assoc d.front waiting more ∙ (ap (λ t. d.front ++ t) e.text_is ∙ sym (append_assoc d.front e.front rest)));
  written = e.written ∙ (ap (λ o. with_back o e.front) d.written ∙ with_back-with_back before d.front e.front);
}

-- a write failed, and nothing of it waits
pub due_cut : (before now later : Option (List ℕ)) (text waiting more : List ℕ) → IsDue before text waiting now → WroteFront now (waiting ++ more) later → WroteFront before (text ++ more) later
due_cut before now later text waiting more d w =
    let all : text ++ more ≡ d.front ++ (waiting ++ more) = ap (λ t. t ++ more) d.text_is ∙ append_assoc d.front waiting more in (
      length d.front + w.0,
      omega (arith, w.1, ap length all, length-append d.front (waiting ++ more)),
      w.2 ∙ (ap (λ o. with_back o (take w.0 (waiting ++ more))) d.written ∙ (with_back-with_back before d.front (take w.0 (waiting ++ more))
          ∙ ap (with_back before) (sym (ap (take (length d.front + w.0)) all ∙ take-append-add d.front (waiting ++ more) w.0)))),
    )

pub due_cut_all : (before now later : Option (List ℕ)) (text waiting : List ℕ) → IsDue before text waiting now → WroteFront now waiting later → WroteFront before text later
due_cut_all before now later text waiting d w =
    let w2 : WroteFront now (waiting ++ []) later = rw (append-nil waiting) w in
    let r : WroteFront before (text ++ []) later = due_cut before now later text waiting [] d w2 in
    rw append-nil at r

-- all that waited was written
pub due_all : (before now later : Option (List ℕ)) (text waiting : List ℕ) → IsDue before text waiting now → later ≡ with_back now waiting → later ≡ with_back before text
due_all before now later text waiting d is =
    is ∙ (ap (λ o. with_back o waiting) d.written ∙ (with_back-with_back before d.front waiting ∙ ap (with_back before) (sym d.text_is)))

-- what waited was written, and then a text at once
module _ {A E : Type 0} (before now later : Option (List ℕ)) (waiting text : List ℕ) where
  pub flushed_ok : (rest : List ℕ) (r : Result A E) → now ≡ with_back before waiting → rest ≡ [] → OnOk r (later ≡ with_back now text) → OnOk r (IsDue before (waiting ++ text) rest later)
  flushed_ok rest (Ok x) is none all = record {
    front = waiting ++ text;
    text_is = sym (ap (λ r. (waiting ++ text) ++ r) none ∙ append-nil (waiting ++ text));
    written = all ∙ (ap (λ o. with_back o text) is ∙ with_back-with_back before waiting text);
  }
  flushed_ok rest (Err e) is none all = tt

  pub flushed_err : (r : Result A E) → now ≡ with_back before waiting → OnErr r (WroteFront now text later) → OnErr r (WroteFront before (waiting ++ text) later)
  flushed_err (Ok x) is cut = tt
  flushed_err (Err e) is cut = (
    length waiting + cut.0,
    omega (arith, cut.1, length-append waiting text),
    cut.2 ∙ (ap (λ o. with_back o (take cut.0 text)) is ∙ (with_back-with_back before waiting (take cut.0 text) ∙ ap (with_back before) (sym (take-append-add waiting text cut.0)))),
  )
