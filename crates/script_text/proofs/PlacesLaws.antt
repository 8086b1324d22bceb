-- Lines by where they begin.
use Rattle.std.proofs.Common.{◌≡◌, ℕ, zero, suc, ◌+◌, ◌<◌, true, false, List, [], ◌∷◌, ◌++◌, length, take, get_or, Option, Some, None, Result, Ok, Err, refl, ap, subst, sym, ◌∙◌, arith}
use Rattle.std.proofs.lemmas.List.{take_more}
use Rattle.std.proofs.lemmas.List.Elements.{filter_map-append}
use Rattle.std.specs.Borrow.{Bor}
use Rattle.std.specs.Prelude.{is_some, codes}
use Rattle.std.specs.List.{AllByRecursion, filter_map, slice_get}
use Rattle.std.specs.Option.{option_copied}
use Rattle.std.specs.Result.{result_ok}
use Rattle.std.specs.Str.{bytes_eq}
use Rattle.script_text.specs.declared.faults.FaultKind.{FaultKind}
use Rattle.script_text.specs.declared.faults.ScriptFault.{ScriptFault}
use Rattle.script_text.specs.Arguments.{alone}
use Rattle.script_text.specs.Judging.{at_line}
use Rattle.script_text.specs.Lines.{words_after}
use Rattle.script_text.specs.Places.{line_at, lines_at, AreLines}
use Rattle.script_text.specs.Reading.{HasLine, words_read, body_at}
use Rattle.script_text.specs.Script.{onto_lines}
use Rattle.script_text.proofs.ReadingLaws.{body_first, place_first, after_lines, after_lines-onto_lines, onto_lines-wrong}

module _ {L : Type 0} (f : ℕ → Option L) where
  abbrev Are : List ℕ → Type 0
  Are places = AllByRecursion (λ at. is_some (f at) ≡ true) places

  -- one place more
  pub are_push : (places : List ℕ) (at : ℕ) (x : L) → Are places → f at ≡ Some x → Are (places ++ at ∷ [])
  are_push [] at x are is = (ap is_some is, tt)
  are_push (p ∷ places) at x are is = (are.0, are_push places at x are.1 is)

  one_place : (at : ℕ) (x : L) → f at ≡ Some x → filter_map f (at ∷ []) ≡ x ∷ []
  one_place at x is = rw is refl

  pub lines_push : (places : List ℕ) (at : ℕ) (x : L) → f at ≡ Some x → filter_map f (places ++ at ∷ []) ≡ filter_map f places ++ x ∷ []
  lines_push places at x is = filter_map-append f places (at ∷ []) ∙ ap (λ lines. filter_map f places ++ lines) (one_place at x is)

  there : (o : Option L) → is_some o ≡ true → (x : L) × (o ≡ Some x)
  there None is = cc
  there (Some x) is = (x, refl)

  first_place : (p : ℕ) (places : List ℕ) (x : L) → f p ≡ Some x → filter_map f (p ∷ places) ≡ x ∷ filter_map f places
  first_place p places x is = rw is refl

  pub lines_length : (places : List ℕ) → Are places → length (filter_map f places) ≡ length places
  lines_length [] are = refl
  lines_length (p ∷ places) are =
      let x = there (f p) are.0 in
      ap length (first_place p places x.0 x.1) ∙ ap suc (lines_length places are.1)

  -- the line at a place of them
  pub some_line : (places : List ℕ) (i : ℕ) → Are places → i < length places → (x : L) × (f (get_or places i 0) ≡ Some x) × (slice_get (filter_map f places) i ≡ Some x)
  some_line [] i are lt = absurd (omega arith)
  some_line (p ∷ places) zero are lt =
      let x = there (f p) are.0 in
      (x.0, x.1, ap (λ lines. slice_get lines 0) (first_place p places x.0 x.1))
  some_line (p ∷ places) (suc i) are lt =
      let x = there (f p) are.0 in
      let y = some_line places i are.1 (omega arith) in
      (y.0, y.1, ap (λ lines. slice_get lines (suc i)) (first_place p places x.0 x.1) ∙ y.2)

-- Lines that begin at these places were read of all, and line n is next, at the last place.
pub record PlacesRead {L : Type 0} (of : List ℕ → List (List ℕ) → Result L FaultKind) (bytes : List ℕ) (whole : Result (List L) ScriptFault) (places : List ℕ) (at n : ℕ) : Type 0 where
  pub read : whole ≡ after_lines (lines_at of bytes places) (body_at of bytes at n)
  pub are : AreLines of bytes places

module _ {L : Type 0} (of : List ℕ → List (List ℕ) → Result L FaultKind) (bytes : List ℕ) (whole : Result (List L) ScriptFault) (places : List ℕ) (at n next : ℕ)
    (said : Option (Bor (List ℕ) × Option (Bor (List ℕ)))) (p : PlacesRead of bytes whole places at n) (h : HasLine bytes at (words_read said) next) where
  pub places_skip : said ≡ None → PlacesRead of bytes whole places next (n + 1)
  places_skip none =
      let found = subst (λ x. HasLine bytes at (words_read x) next) none h in
      record { read = p.read ∙ ap (after_lines (lines_at of bytes places)) (body_first bytes at n of [] next found); are = p.are }

  module _ (word : Bor (List ℕ)) (args : Option (Bor (List ℕ))) (some : said ≡ Some (word, args)) where
    found : HasLine bytes at (word.now ∷ words_after (option_copied args)) next
    found = subst (λ x. HasLine bytes at (words_read x) next) some h

    -- the line `end`
    pub places_end : true ≡ bytes_eq word.now (codes "end") → whole ≡ after_lines (lines_at of bytes places) (at_line n (alone [] (words_after (option_copied args))))
    places_end last =
        p.read ∙ ap (after_lines (lines_at of bytes places)) (body_first bytes at n of (word.now ∷ words_after (option_copied args)) next found ∙ rw (sym last) refl)

    module _ (other : false ≡ bytes_eq word.now (codes "end")) where
      at_words : whole ≡ after_lines (lines_at of bytes places) (onto_lines (at_line n (of word.now (words_after (option_copied args)))) (body_at of bytes next (n + 1)))
      at_words =
          p.read ∙ ap (after_lines (lines_at of bytes places)) (body_first bytes at n of (word.now ∷ words_after (option_copied args)) next found ∙ rw (sym other) refl)

      pub places_wrong : (fault : ScriptFault) → at_line n (of word.now (words_after (option_copied args))) ≡ Err fault → whole ≡ Err fault
      places_wrong fault there =
          at_words ∙ ap (after_lines (lines_at of bytes places)) (onto_lines-wrong (at_line n (of word.now (words_after (option_copied args)))) fault (body_at of bytes next (n + 1)) there)

      pub places_more : (line : L) → of word.now (words_after (option_copied args)) ≡ Ok line → PlacesRead of bytes whole (places ++ at ∷ []) next (n + 1)
      places_more line there =
          let here : line_at of bytes at ≡ Some line = place_first bytes at n of (word.now ∷ words_after (option_copied args)) next found ∙ ap result_ok there in
          record {
            read = at_words
                ∙ (after_lines-onto_lines (lines_at of bytes places) (at_line n (of word.now (words_after (option_copied args)))) line (body_at of bytes next (n + 1)) (ap (at_line n) there)
                ∙ ap (λ lines. after_lines lines (body_at of bytes next (n + 1))) (sym (lines_push (line_at of bytes) places at line here)));
            are = are_push (line_at of bytes) places at line p.are here;
          }

-- the line at the next of the places
pub lines_next : {L : Type 0} (f : ℕ → Option L) (places : List ℕ) (i : ℕ) (x : L) → i < length places → f (get_or places i 0) ≡ Some x
    → filter_map f (take (i + 1) places) ≡ filter_map f (take i places) ++ x ∷ []
lines_next f places i x lt is = ap (filter_map f) (take_more places i 0 lt) ∙ lines_push f (take i places) (get_or places i 0) x is
