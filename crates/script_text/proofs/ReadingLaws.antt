-- What a line says, and the lines after it.
use Rattle.std.proofs.Common.{◌≡◌, ℕ, ◌+◌, ◌-◌, ◌<◌, ◌≤◌, nat_lt, Bool, true, false, List, [], ◌∷◌, ◌++◌, length, drop, Option, Some, None, Result, Ok, Err, refl, ap, sym, subst, ◌∙◌, arith}
use Rattle.std.proofs.lemmas.Bool.Decides.{nat_tests}
use Rattle.std.proofs.lemmas.List.{append_assoc, drop_all, drop-drop, length-drop}
use Rattle.std.proofs.lemmas.Str.{IsUtf8-from_is_utf8, is_utf8-from_IsUtf8}
use Rattle.std.specs.Borrow.{Bor}
use Rattle.std.specs.Prelude.{is_some}
use Rattle.std.specs.Result.{MatchResult}
use Rattle.std.specs.Option.{option_copied}
use Rattle.std.specs.Str.{IsUtf8, is_utf8}
use Rattle.script_text.specs.declared.script.Start.{Start}
use Rattle.script_text.specs.declared.script.FaultLine.{FaultLine}
use Rattle.script_text.specs.declared.header.SetupLine.{SetupLine}
use Rattle.script_text.specs.declared.faults.FaultKind.{FaultKind}
use Rattle.script_text.specs.declared.faults.FaultKind.TheVariants as kinds
use Rattle.script_text.specs.declared.faults.ScriptFault.{ScriptFault}
use Rattle.script_text.specs.Arguments.{alone}
use Rattle.script_text.specs.Header.{Setup, start_of, is_setup, setup_line, with_line}
use Rattle.script_text.specs.Judging.{◌>>=◌, at_line}
use Rattle.script_text.specs.Lines.{lines_of, words_after, script_limit}
use Rattle.script_text.specs.Places.{line_in, first_line, line_at}
use Rattle.script_text.specs.Reading.{BeginsWithLine, HasFault, HasLine, ReadsLine, words_read, body_at, setup_at}
use Rattle.script_text.proofs.LinesLaws.{words_some}
use Rattle.script_text.specs.Script.{ScriptValue, said_by, words_said, line_of, line_then, onto_lines, body_of, with_lines, setup_then, setup_in, header_then, script_in, new_setup}

not_text : (bytes : List ℕ) → ¬ (IsUtf8 bytes) → is_utf8 bytes ≡ false
not_text bytes wrong = elim (is_utf8 bytes) as (λ b. is_utf8 bytes ≡ b → b ≡ false) [
  | true ↦ λ t. absurd (wrong (IsUtf8-from_is_utf8 bytes t))
  | false ↦ λ t. refl
] refl

-- the line at a place, of this text and size
module _ (bytes : List ℕ) (at : ℕ) (text : List ℕ) (size : ℕ) (b : BeginsWithLine (drop at bytes) text size) where
  pub too_long : script_limit - at < size → HasFault bytes at kinds.Long
  too_long long =
      let past : nat_lt (script_limit - at) (length b.line) ≡ true = grind (arith, nat_tests, b.size_is) in
      record { line = b.line; lines = lines_of (drop size (drop at bytes)); first = b.lines; said = rw past refl }

  module _ (fits : size ≤ script_limit - at) where
    within : nat_lt (script_limit - at) (length b.line) ≡ false
    within = grind (arith, nat_tests, b.size_is)

    pub wrong_text : {E : Type 0} (Q : E → Type 0) (r : Result (Bor (List ℕ)) E) → MatchResult r (λ s. (s.now ≡ text) × IsUtf8 text) (λ e. ¬ (IsUtf8 text) × Q e)
        → (e : E) → r ≡ Err e → HasFault bytes at kinds.Utf8
    wrong_text Q (Ok s) h e is = cc
    wrong_text Q (Err d) h e is =
        record { line = b.line; lines = lines_of (drop size (drop at bytes)); first = b.lines; said = rw (within, b.text_is, not_text text h.0) refl }

    pub right_text : {E : Type 0} (Q : E → Type 0) (r : Result (Bor (List ℕ)) E) → MatchResult r (λ s. (s.now ≡ text) × IsUtf8 text) (λ e. ¬ (IsUtf8 text) × Q e)
        → (s : Bor (List ℕ)) → r ≡ Ok s → said_by (script_limit - at) b.line ≡ Ok (words_said s.now)
    right_text Q (Ok t) h s is =
        let same : t ≡ s = cc in
        rw (within, b.text_is, is_utf8-from_IsUtf8 text h.1, sym same, h.0) refl
    right_text Q (Err e) h s is = cc

abbrev err_with : {E : Type 0} (A : Type 0) → E → Result A E
err_with A e = Err e

pub err_same : {A E : Type 0} {x y : E} → err_with A x ≡ err_with A y → x ≡ y
err_same is = cc

-- What was read of a line.
abbrev pub Found : Type 0
Found = Option (Bor (List ℕ) × Option (Bor (List ℕ))) × ℕ

pub found_line : (bytes : List ℕ) (at n : ℕ) (r : Result Found FaultKind) (x : Found) → ReadsLine bytes at r → at_line n r ≡ Ok x → HasLine bytes at (words_read x.0) x.1
found_line bytes at n (Err kind) x h is = cc
found_line bytes at n (Ok y) x h is = let same : y ≡ x = cc in subst (λ z. ReadsLine bytes at (Ok z)) same h

pub found_fault : (bytes : List ℕ) (at n : ℕ) (r : Result Found FaultKind) (fault : ScriptFault) → ReadsLine bytes at r → at_line n r ≡ Err fault
    → (kind : FaultKind) × HasFault bytes at kind × (at_line {A = Found} n (Err kind) ≡ Err fault)
found_fault bytes at n (Err kind) fault h is = (kind, h, is)
found_fault bytes at n (Ok y) fault h is = cc

-- words stand after the first
pub some_more : (args : Option (Bor (List ℕ))) {A : Type 0} (x : A) → true ≡ is_some args → alone x (words_after (option_copied args)) ≡ Err kinds.Count
some_more None x some = cc
some_more (Some more) x some = let w = words_some more.now in rw w.2 refl

-- none do
pub no_more : (args : Option (Bor (List ℕ))) {A : Type 0} (x : A) → false ≡ is_some args → alone x (words_after (option_copied args)) ≡ Ok x
no_more None x none = refl
no_more (Some more) x none = cc

-- nothing is left
none_left : (bytes : List ℕ) (at : ℕ) → length bytes ≤ at → lines_of (drop at bytes) ≡ []
none_left bytes at le = ap lines_of (drop_all at bytes le)

-- Line n stands at the place.
module _ (bytes : List ℕ) (at n : ℕ) where
  pub room_after : (words : List (List ℕ)) (next : ℕ) (h : HasLine bytes at words next) → script_limit - at - length h.line ≡ script_limit - next
  room_after words next h = omega (arith, h.next_is, h.room)

  pub script_first : (words : List (List ℕ)) (next : ℕ) → HasLine bytes at words next
      → script_in n (script_limit - at) (lines_of (drop at bytes))
      ≡ header_then start_of n (Ok words) (script_in (n + 1) (script_limit - next) (lines_of (drop next bytes))) (λ start. setup_at bytes (new_setup start) next (n + 1))
  script_first words next h =
      ap (script_in n (script_limit - at)) h.first
      ∙ (ap (λ said. header_then start_of n said (script_in (n + 1) (script_limit - at - length h.line) (lines_of (drop next bytes)))
      (λ start. setup_in true (new_setup start) (n + 1) (script_limit - at - length h.line) (lines_of (drop next bytes)))) h.said
      ∙ ap (λ room. header_then start_of n (Ok words) (script_in (n + 1) room (lines_of (drop next bytes))) (λ start. setup_in true (new_setup start) (n + 1) room (lines_of (drop next bytes))))
      (room_after words next h))

  pub script_fault : (kind : FaultKind) → HasFault bytes at kind → script_in n (script_limit - at) (lines_of (drop at bytes)) ≡ at_line n (Err kind)
  script_fault kind h =
      ap (script_in n (script_limit - at)) h.first
      ∙ ap (λ said. header_then start_of n said (script_in (n + 1) (script_limit - at - length h.line) h.lines)
      (λ start. setup_in true (new_setup start) (n + 1) (script_limit - at - length h.line) h.lines)) h.said

  pub setup_first : (first : Bool) (s : Setup) (words : List (List ℕ)) (next : ℕ) → HasLine bytes at words next
      → setup_in first s n (script_limit - at) (lines_of (drop at bytes))
      ≡ setup_then first s n (Ok words) (λ f t. setup_in f t (n + 1) (script_limit - next) (lines_of (drop next bytes))) (with_lines s (body_at line_of bytes at n))
  setup_first first s words next h =
      ap (setup_in first s n (script_limit - at)) h.first
      ∙ (ap (λ said. setup_then first s n said (λ f t. setup_in f t (n + 1) (script_limit - at - length h.line) (lines_of (drop next bytes)))
      (with_lines s (body_of line_of n (script_limit - at) (h.line ∷ lines_of (drop next bytes))))) h.said
      ∙ (ap (λ room. setup_then first s n (Ok words) (λ f t. setup_in f t (n + 1) room (lines_of (drop next bytes)))
      (with_lines s (body_of line_of n (script_limit - at) (h.line ∷ lines_of (drop next bytes))))) (room_after words next h)
      ∙ ap (λ lines. setup_then first s n (Ok words) (λ f t. setup_in f t (n + 1) (script_limit - next) (lines_of (drop next bytes)))
      (with_lines s (body_of line_of n (script_limit - at) lines))) (sym h.first)))

  pub setup_fault : (first : Bool) (s : Setup) (kind : FaultKind) → HasFault bytes at kind
      → setup_in first s n (script_limit - at) (lines_of (drop at bytes)) ≡ with_lines s (body_at line_of bytes at n)
  setup_fault first s kind h =
      ap (setup_in first s n (script_limit - at)) h.first
      ∙ (ap (λ said. setup_then first s n said (λ f t. setup_in f t (n + 1) (script_limit - at - length h.line) h.lines)
      (with_lines s (body_of line_of n (script_limit - at) (h.line ∷ h.lines)))) h.said
      ∙ ap (λ lines. with_lines s (body_of line_of n (script_limit - at) lines)) (sym h.first))

  pub setup_none : (first : Bool) (s : Setup) → length bytes ≤ at → setup_in first s n (script_limit - at) (lines_of (drop at bytes)) ≡ with_lines s (body_at line_of bytes at n)
  setup_none first s le =
      ap (setup_in first s n (script_limit - at)) (none_left bytes at le)
      ∙ ap (λ lines. with_lines s (body_of line_of n (script_limit - at) lines)) (sym (none_left bytes at le))

  pub script_none : length bytes ≤ at → script_in n (script_limit - at) (lines_of (drop at bytes)) ≡ at_line n (Err kinds.NoArray)
  script_none le = ap (script_in n (script_limit - at)) (none_left bytes at le)

  module _ {L : Type 0} (of : List ℕ → List (List ℕ) → Result L FaultKind) where
    pub body_first : (words : List (List ℕ)) (next : ℕ) → HasLine bytes at words next → body_at of bytes at n ≡ line_then of n (Ok words) (body_at of bytes next (n + 1))
    body_first words next h =
        ap (body_of of n (script_limit - at)) h.first
        ∙ (ap (λ said. line_then of n said (body_of of (n + 1) (script_limit - at - length h.line) (lines_of (drop next bytes)))) h.said
        ∙ ap (λ room. line_then of n (Ok words) (body_of of (n + 1) room (lines_of (drop next bytes)))) (room_after words next h))

    pub body_fault : (kind : FaultKind) → HasFault bytes at kind → body_at of bytes at n ≡ at_line n (Err kind)
    body_fault kind h =
        ap (body_of of n (script_limit - at)) h.first
        ∙ ap (λ said. line_then of n said (body_of of (n + 1) (script_limit - at - length h.line) h.lines)) h.said

    pub body_none : length bytes ≤ at → body_at of bytes at n ≡ at_line n (Err kinds.NoEnd)
    body_none le = ap (body_of of n (script_limit - at)) (none_left bytes at le)

    pub place_first : (words : List (List ℕ)) (next : ℕ) → HasLine bytes at words next → line_at of bytes at ≡ line_in of (Ok words)
    place_first words next h = ap (first_line of (script_limit - at)) h.first ∙ ap (line_in of) h.said

    pub place_fault : (kind : FaultKind) → HasFault bytes at kind → line_at of bytes at ≡ None
    place_fault kind h = ap (first_line of (script_limit - at)) h.first ∙ ap (line_in of) h.said

    pub place_none : length bytes ≤ at → line_at of bytes at ≡ None
    place_none le = ap (first_line of (script_limit - at)) (none_left bytes at le)

-- lines that were read, and those that are still to be read
abbrev pub after_lines : {L : Type 0} → List L → Result (List L) ScriptFault → Result (List L) ScriptFault
after_lines front (Err fault) = Err fault
after_lines front (Ok lines) = Ok (front ++ lines)

-- one line more
pub after_lines-onto_lines : {L : Type 0} (front : List L) (line : Result L ScriptFault) (first : L) (later : Result (List L) ScriptFault) → line ≡ Ok first
    → after_lines front (onto_lines line later) ≡ after_lines (front ++ first ∷ []) later
after_lines-onto_lines front (Err fault) first later is = cc
after_lines-onto_lines front (Ok line) first (Err fault) is = refl
after_lines-onto_lines front (Ok line) first (Ok lines) is = let same : line ≡ first = cc in rw same (ap Ok (sym (append_assoc front (first ∷ []) lines)))

pub onto_lines-wrong : {L : Type 0} (line : Result L ScriptFault) (fault : ScriptFault) (later : Result (List L) ScriptFault) → line ≡ Err fault → onto_lines line later ≡ Err fault
onto_lines-wrong (Err f) fault later is = ap Err (err_same is)
onto_lines-wrong (Ok line) fault later is = cc

-- The line of the given text at the place, and what was read of it.
module _ (bytes : List ℕ) (at : ℕ) (text : List ℕ) (size : ℕ) (b : BeginsWithLine (drop at bytes) text size) where
  pub line_read : (words : List (List ℕ)) → size ≤ script_limit - at → said_by (script_limit - at) b.line ≡ Ok words → HasLine bytes at words (at + size)
  line_read words fits said = record {
    line = b.line;
    first = b.lines ∙ ap (λ rest. b.line ∷ lines_of rest) (drop-drop size at bytes);
    said = said;
    next_is = omega (arith, b.size_is);
    later = omega (arith, b.some);
    within = omega (arith, b.within, b.some, length-drop at bytes);
    room = omega (arith, b.some);
  }

module _ (bytes : List ℕ) (at n : ℕ) (word : List ℕ) (args : List (List ℕ)) (next : ℕ) (h : HasLine bytes at (word ∷ args) next) where
  pub start_found : (whole : Result ScriptValue ScriptFault) (s : Start) → whole ≡ script_in n (script_limit - at) (lines_of (drop at bytes)) → at_line n (start_of word args) ≡ Ok s
      → whole ≡ setup_at bytes (new_setup s) next (n + 1)
  start_found whole s is there = is ∙ (script_first bytes at n (word ∷ args) next h ∙ ap (λ r. r >>= λ start. setup_at bytes (new_setup start) next (n + 1)) there)

  module _ (whole : Result ScriptValue ScriptFault) (first : Bool) (s : Setup) (is : whole ≡ setup_in first s n (script_limit - at) (lines_of (drop at bytes))) where
    abbrev later : Bool → Setup → Result ScriptValue ScriptFault
    later f t = setup_in f t (n + 1) (script_limit - next) (lines_of (drop next bytes))

    -- a line of the setup
    setup_is : is_setup first word ≡ true → whole ≡ (at_line n (setup_line s.start word args) >>= λ line. later false (with_line s line))
    setup_is test = is ∙ (setup_first bytes at n first s (word ∷ args) next h ∙ rw test refl)

    pub setup_more : (line : SetupLine) → is_setup first word ≡ true → at_line n (setup_line s.start word args) ≡ Ok line
        → whole ≡ setup_in false (with_line s line) (n + 1) (script_limit - next) (lines_of (drop next bytes))
    setup_more line test there = setup_is test ∙ ap (λ r. r >>= λ line. later false (with_line s line)) there

    pub setup_wrong : (fault : ScriptFault) → is_setup first word ≡ true → at_line n (setup_line s.start word args) ≡ Err fault → whole ≡ Err fault
    setup_wrong fault test there = setup_is test ∙ ap (λ r. r >>= λ line. later false (with_line s line)) there

    -- another line: the body begins
    pub setup_ends : is_setup first word ≡ false → whole ≡ with_lines s (body_at line_of bytes at n)
    setup_ends test = is ∙ (setup_first bytes at n first s (word ∷ args) next h ∙ rw test refl)

abbrev pub setup_with : Start → List FaultLine → Setup
setup_with start faults = record { start = start; faults = faults }

pub setup_same : (a b : Start) (xs ys : List FaultLine) → a ≡ b → xs ≡ ys → setup_with a xs ≡ setup_with b ys
setup_same a b xs ys e f = ap (λ s. setup_with s xs) e ∙ ap (setup_with b) f

-- What a loop over the lines of the setup has read before a line, and then after it.
module _ (bytes : List ℕ) (at n next : ℕ) (whole : Result ScriptValue ScriptFault) (first : Bool) (s : Setup) (said : Option (Bor (List ℕ) × Option (Bor (List ℕ))))
    (is : whole ≡ setup_in first s n (script_limit - at) (lines_of (drop at bytes))) (h : HasLine bytes at (words_read said) next) where
  pub setup_goes_on : (word : Bor (List ℕ)) (args : Option (Bor (List ℕ))) (line : SetupLine) (first₂ : Bool) (s₂ : Setup) → said ≡ Some (word, args) → is_setup first word.now ≡ true
      → at_line n (setup_line s.start word.now (words_after (option_copied args))) ≡ Ok line → first₂ ≡ false → with_line s line ≡ s₂
      → whole ≡ setup_in first₂ s₂ (n + 1) (script_limit - next) (lines_of (drop next bytes))
  setup_goes_on word args line first₂ s₂ some test there later after =
      let found = subst (λ x. HasLine bytes at (words_read x) next) some h in
      setup_more bytes at n word.now (words_after (option_copied args)) next found whole first s is line test there
      ∙ (ap (λ t. setup_in false t (n + 1) (script_limit - next) (lines_of (drop next bytes))) after
      ∙ ap (λ f. setup_in f s₂ (n + 1) (script_limit - next) (lines_of (drop next bytes))) (sym later))

  pub setup_skips : (first₂ : Bool) (s₂ : Setup) → said ≡ None → first₂ ≡ first → s ≡ s₂ → whole ≡ setup_in first₂ s₂ (n + 1) (script_limit - next) (lines_of (drop next bytes))
  setup_skips first₂ s₂ none same after =
      let found = subst (λ x. HasLine bytes at (words_read x) next) none h in
      is ∙ (setup_first bytes at n first s [] next found
      ∙ (ap (λ t. setup_in first t (n + 1) (script_limit - next) (lines_of (drop next bytes))) after
      ∙ ap (λ f. setup_in f s₂ (n + 1) (script_limit - next) (lines_of (drop next bytes))) (sym same)))
