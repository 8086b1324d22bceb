-- Reading up to the line `end`, a byte at a time.
use Rattle.std.proofs.Common.{◌≡◌, ℕ, suc, ◌+◌, ◌-◌, ◌≤◌, ◌==◌, Bool, true, false, not, cond, List, [], ◌∷◌, ◌++◌, length, take, drop, Option, Some, None, refl, ap, subst, sym, ◌∙◌, arith}
use Rattle.std.proofs.lemmas.Bool.Decides.{nat_tests}
use Rattle.std.proofs.lemmas.List.{append-nil, append_assoc, take_all, drop_all, take_at, take-append-le, drop-append-le, take-append-drop, take-take, take_rest, length_push}
use Rattle.std.specs.Option.{option_to_list}
use Rattle.script_text.proofs.OutsideLaws.{with_front-with_front}
use Rattle.std.specs.Prelude.{codes, IfSome}
use Rattle.std.specs.List.{onto_first, concat}
use Rattle.std.specs.Str.{bytes_eq}
use Rattle.script_text.specs.Lines.{lines_of, through_end, up_to_end, input_part, script_limit}
use Rattle.script_text.specs.Outside.{with_front, IsAtEnd, TookOfPart}
use Rattle.script_text.proofs.LinesLaws.{feed, lines_only}

-- no line feed
pub record IsText (text : List ℕ) : Type 0 where
  pub is : feed text ≡ length text

abbrev pub end_line : List ℕ
end_line = codes "end" ++ 10 ∷ []

pub IsText-tail : (b : ℕ) (text : List ℕ) → IsText (b ∷ text) → (b == 10 ≡ false) × IsText text
IsText-tail b text t =
    elim (b == 10) as (λ v. b == 10 ≡ v → cond (not v) (1 + feed text) 0 ≡ suc (length text) → (b == 10 ≡ false) × IsText text) [
      | true ↦ λ e is. absurd (omega (arith, is))
      | false ↦ λ e is. (e, record { is = omega (arith, is) })
    ] refl t.is

-- a line, and then a line feed
pub lines_at_feed : (text rest : List ℕ) → IsText text → lines_of (text ++ 10 ∷ rest) ≡ (text ++ 10 ∷ []) ∷ lines_of rest
lines_at_feed [] rest t = refl
lines_at_feed (b ∷ text) rest t =
    let h = IsText-tail b text t in
    rw h.0 (ap (onto_first b) (lines_at_feed text rest h.1))

-- a line that goes on
lines_some : (b : ℕ) (bytes : List ℕ) → (line : List ℕ) × (lines : List (List ℕ)) × (lines_of (b ∷ bytes) ≡ line ∷ lines)
lines_some b [] = elim (b == 10) as (λ v. (line : List ℕ) × (lines : List (List ℕ)) × (cond v ((b ∷ []) ∷ []) ((b ∷ []) ∷ []) ≡ line ∷ lines)) [
  | true ↦ (b ∷ [], [], refl)
  | false ↦ (b ∷ [], [], refl)
]
lines_some b (c ∷ bytes) =
    let s = lines_some c bytes in
    elim (b == 10) as (λ v. (line : List ℕ) × (lines : List (List ℕ)) × (cond v ((b ∷ []) ∷ lines_of (c ∷ bytes)) (onto_first b (lines_of (c ∷ bytes))) ≡ line ∷ lines)) [
      | true ↦ (b ∷ [], lines_of (c ∷ bytes), refl)
      | false ↦ (b ∷ s.0, s.1, ap (onto_first b) s.2)
    ]

lines_onto : (text rest first : List ℕ) (others : List (List ℕ)) → IsText text → lines_of rest ≡ first ∷ others → lines_of (text ++ rest) ≡ (text ++ first) ∷ others
lines_onto [] rest first others t is = is
lines_onto (b ∷ text) rest first others t is =
    let h = IsText-tail b text t in
    rw h.0 (ap (onto_first b) (lines_onto text rest first others h.1 is))

-- what is read is a text and more
text_then : (text first : List ℕ) (others : List (List ℕ)) → (more : List ℕ) × (concat (through_end ((text ++ first) ∷ others)) ≡ text ++ more)
text_then text first others =
    elim (bytes_eq (text ++ first) end_line) as (λ v. (more : List ℕ) × (concat (cond v ((text ++ first) ∷ []) ((text ++ first) ∷ through_end others)) ≡ text ++ more)) [
      | true ↦ (first ++ [], append_assoc text first [])
      | false ↦ (first ++ concat (through_end others), append_assoc text first (concat (through_end others)))
    ]

pub text_read : (text : List ℕ) → IsText text → up_to_end text ≡ text
text_read [] t = refl
text_read (b ∷ text) t =
    ap (λ lines. concat (through_end lines)) (lines_only (b ∷ text) (omega arith) t.is)
    ∙ elim (bytes_eq (b ∷ text) end_line) as (λ v. concat (cond v ((b ∷ text) ∷ []) ((b ∷ text) ∷ [])) ≡ b ∷ text) [
      | true ↦ append-nil (b ∷ text)
      | false ↦ append-nil (b ∷ text)
    ]

text_begins : (text rest : List ℕ) → IsText text → (more : List ℕ) × (up_to_end (text ++ rest) ≡ text ++ more)
text_begins text [] t = ([], ap up_to_end (append-nil text) ∙ (text_read text t ∙ sym (append-nil text)))
text_begins text (b ∷ rest) t =
    let s = lines_some b rest in
    let m = text_then text s.0 s.1 in
    (m.0, ap (λ lines. concat (through_end lines)) (lines_onto text (b ∷ rest) s.0 s.1 t s.2) ∙ m.1)

-- a line that isn't the last, and the line `end`
pub line_read : (text rest : List ℕ) → IsText text → bytes_eq (text ++ 10 ∷ []) end_line ≡ false → up_to_end (text ++ 10 ∷ rest) ≡ (text ++ 10 ∷ []) ++ up_to_end rest
line_read text rest t other = ap (λ lines. concat (through_end lines)) (lines_at_feed text rest t) ∙ rw other refl

pub end_read : (text rest : List ℕ) → IsText text → bytes_eq (text ++ 10 ∷ []) end_line ≡ true → up_to_end (text ++ 10 ∷ rest) ≡ text ++ 10 ∷ []
end_read text rest t last = ap (λ lines. concat (through_end lines)) (lines_at_feed text rest t) ∙ rw last (append-nil (text ++ 10 ∷ []))

-- The bytes so far end in a line that is open from start on, and reading goes on.
pub record IsOpen (bytes : List ℕ) (start : ℕ) : Type 0 where
  pub within : start ≤ length bytes
  pub text : IsText (drop start bytes)
  pub goes_on : (rest : List ℕ) → up_to_end (bytes ++ rest) ≡ take start bytes ++ up_to_end (drop start bytes ++ rest)

pub open_start : IsOpen [] 0
open_start = record { within = omega arith; text = record { is = refl }; goes_on = λ rest. refl }

rejoined : (bytes : List ℕ) (start : ℕ) (more : List ℕ) → take start bytes ++ (drop start bytes ++ more) ≡ bytes ++ more
rejoined bytes start more = sym (append_assoc (take start bytes) (drop start bytes) more) ∙ ap (λ xs. xs ++ more) (take-append-drop start bytes)

-- what is read begins with the bytes so far
pub begins : (bytes : List ℕ) (start : ℕ) → IsOpen bytes start → (rest : List ℕ) → (more : List ℕ) × (up_to_end (bytes ++ rest) ≡ bytes ++ more)
begins bytes start o rest =
    let t = text_begins (drop start bytes) rest o.text in
    (t.0, o.goes_on rest ∙ (ap (λ xs. take start bytes ++ xs) t.1 ∙ rejoined bytes start t.0))

IsText-push : (text : List ℕ) (b : ℕ) → IsText text → b == 10 ≡ false → IsText (text ++ b ∷ [])
IsText-push [] b t other = record { is = rw other refl }
IsText-push (c ∷ text) b t other =
    let h = IsText-tail c text t in
    let more = IsText-push text b h.1 other in
    record { is = rw h.0 (omega (arith, more.is)) }

module _ (bytes : List ℕ) (start : ℕ) (o : IsOpen bytes start) where
  push_goes_on : (b : ℕ) (rest : List ℕ) → up_to_end ((bytes ++ b ∷ []) ++ rest) ≡ take start bytes ++ up_to_end (drop start bytes ++ b ∷ rest)
  push_goes_on b rest = ap up_to_end (append_assoc bytes (b ∷ []) rest) ∙ o.goes_on (b ∷ rest)

  pub at_line : bytes_eq (drop start bytes ++ 10 ∷ []) end_line ≡ false → (rest : List ℕ) → up_to_end ((bytes ++ 10 ∷ []) ++ rest) ≡ (bytes ++ 10 ∷ []) ++ up_to_end rest
  at_line other rest =
      push_goes_on 10 rest ∙ (ap (λ xs. take start bytes ++ xs) (line_read (drop start bytes) rest o.text other)
      ∙ (ap (λ xs. take start bytes ++ xs) (append_assoc (drop start bytes) (10 ∷ []) (up_to_end rest))
      ∙ (rejoined bytes start (10 ∷ up_to_end rest) ∙ sym (append_assoc bytes (10 ∷ []) (up_to_end rest)))))

  pub at_end : bytes_eq (drop start bytes ++ 10 ∷ []) end_line ≡ true → (rest : List ℕ) → up_to_end ((bytes ++ 10 ∷ []) ++ rest) ≡ bytes ++ 10 ∷ []
  at_end last rest =
      push_goes_on 10 rest ∙ (ap (λ xs. take start bytes ++ xs) (end_read (drop start bytes) rest o.text last) ∙ rejoined bytes start (10 ∷ []))

  -- the next line is open
  pub open_next : bytes_eq (drop start bytes ++ 10 ∷ []) end_line ≡ false → IsOpen (bytes ++ 10 ∷ []) (length (bytes ++ 10 ∷ []))
  open_next other =
      let all = take_all (length (bytes ++ 10 ∷ [])) (bytes ++ 10 ∷ []) (omega arith) in
      let none = drop_all (length (bytes ++ 10 ∷ [])) (bytes ++ 10 ∷ []) (omega arith) in
      record {
        within = omega arith;
        text = rw none (record { is = refl });
        goes_on = λ rest. rw (all, none) (at_line other rest);
      }

  -- another byte
  pub open_more : (b : ℕ) → b == 10 ≡ false → IsOpen (bytes ++ b ∷ []) start
  open_more b other =
      let front = take-append-le start bytes (b ∷ []) o.within in
      let back = drop-append-le start bytes (b ∷ []) o.within in
      record {
        within = omega (arith, o.within, length_push bytes b);
        text = rw back (IsText-push (drop start bytes) b o.text other);
        goes_on = λ rest. rw (front, back) (push_goes_on b rest ∙ ap (λ xs. take start bytes ++ up_to_end xs) (sym (append_assoc (drop start bytes) (b ∷ []) rest)));
      }

  pub push_begins : (b : ℕ) (rest : List ℕ) → (more : List ℕ) × (up_to_end ((bytes ++ b ∷ []) ++ rest) ≡ (bytes ++ b ∷ []) ++ more)
  push_begins b rest =
      elim (b == 10) as (λ v. b == 10 ≡ v → (more : List ℕ) × (up_to_end ((bytes ++ b ∷ []) ++ rest) ≡ (bytes ++ b ∷ []) ++ more)) [
        | true ↦ λ t.
            let e : 10 ≡ b = grind (arith, nat_tests) in
            subst (λ n. (more : List ℕ) × (up_to_end ((bytes ++ n ∷ []) ++ rest) ≡ (bytes ++ n ∷ []) ++ more)) e
            (elim (bytes_eq (drop start bytes ++ 10 ∷ []) end_line) as (λ v. bytes_eq (drop start bytes ++ 10 ∷ []) end_line ≡ v
            → (more : List ℕ) × (up_to_end ((bytes ++ 10 ∷ []) ++ rest) ≡ (bytes ++ 10 ∷ []) ++ more)) [
              | true ↦ λ last. ([], at_end last rest ∙ sym (append-nil (bytes ++ 10 ∷ [])))
              | false ↦ λ other. (up_to_end rest, at_line other rest)
            ] refl)
        | false ↦ λ t. begins (bytes ++ b ∷ []) start (open_more b t) rest
      ] refl

  -- the input ends, or no more may be read
  pub part_at_end : length bytes ≤ script_limit + 1 → input_part bytes ≡ bytes
  part_at_end few =
      ap (take (script_limit + 1)) (ap up_to_end (sym (append-nil bytes)) ∙ (o.goes_on [] ∙ (ap (λ xs. take start bytes ++ xs)
      (ap up_to_end (append-nil (drop start bytes)) ∙ text_read (drop start bytes) o.text) ∙ take-append-drop start bytes)))
      ∙ take_all (script_limit + 1) bytes few

  pub part_full : length bytes ≡ script_limit + 1 → (rest : List ℕ) → input_part (bytes ++ rest) ≡ bytes
  part_full full rest = let b = begins bytes start o rest in ap (take (script_limit + 1)) b.1 ∙ take_at bytes b.0 (script_limit + 1) full

-- What is left, seen from before: these are the laws of the clauses.

pub part_is : (old new : Option (List ℕ)) (bytes : List ℕ) → old ≡ with_front bytes new → ((rest : List ℕ) → new ≡ Some rest → input_part (bytes ++ rest) ≡ bytes)
    → IfSome old (λ left. bytes ≡ input_part left)
part_is old None bytes is f = subst (λ o. IfSome o (λ left. bytes ≡ input_part left)) (sym is) tt
part_is old (Some rest) bytes is f = subst (λ o. IfSome o (λ left. bytes ≡ input_part left)) (sym is) (sym (f rest refl))

pub took_is : (old new : Option (List ℕ)) (bytes : List ℕ) → old ≡ with_front bytes new → length bytes ≤ script_limit + 1
    → ((rest : List ℕ) → (more : List ℕ) × (up_to_end (bytes ++ rest) ≡ bytes ++ more)) → TookOfPart old new
took_is old None bytes is few f = subst (λ o. TookOfPart o None) (sym is) refl
took_is old (Some rest) bytes is few f =
    let b = f rest in
    let front : take (length bytes) (input_part (bytes ++ rest)) ≡ bytes =
    ap (λ xs. take (length bytes) (take (script_limit + 1) xs)) b.1
    ∙ (take-take (length bytes) (script_limit + 1) (bytes ++ b.0) few ∙ take_at bytes b.0 (length bytes) refl) in
    subst (λ o. TookOfPart o (Some rest)) (sym is) (length bytes, ap (λ xs. Some (xs ++ rest)) (sym front))

pub taken_more : (old mid new : Option (List ℕ)) (bytes : List ℕ) (given : Option ℕ) (byte : ℕ) → old ≡ with_front bytes mid → mid ≡ with_front (option_to_list given) new → given ≡ Some byte
    → old ≡ with_front (bytes ++ byte ∷ []) new
taken_more old mid new bytes given byte is next some =
    is ∙ (ap (with_front bytes) (next ∙ ap (λ o. with_front (option_to_list o) new) some) ∙ with_front-with_front bytes (byte ∷ []) new)

pub part_at_last : (old mid : Option (List ℕ)) (bytes : List ℕ) → old ≡ with_front bytes mid → IsAtEnd mid → input_part bytes ≡ bytes → IfSome old (λ left. bytes ≡ input_part left)
part_at_last old None bytes is last whole = part_is old None bytes is (λ rest e. cc)
part_at_last old (Some left) bytes is last whole =
    part_is old (Some left) bytes is (λ rest e.
    let none : rest ≡ [] = cc in
    ap (λ r. input_part (bytes ++ r)) none ∙ (ap input_part (append-nil bytes) ∙ whole))

-- the test of the line that ends in a line feed
pub tested : (bytes items : List ℕ) (start byte : ℕ) (v : Bool) → start ≤ length bytes → items ≡ bytes ++ byte ∷ [] → byte ≡ 10
    → v ≡ bytes_eq (take (length items - start) (drop start items)) end_line → bytes_eq (drop start bytes ++ 10 ∷ []) end_line ≡ v
tested bytes items start byte v within is feed test =
    sym (test ∙ ap (λ line. bytes_eq line end_line) (take_rest items start ∙ (ap (drop start) (is ∙ ap (λ b. bytes ++ b ∷ []) feed) ∙ drop-append-le start bytes (10 ∷ []) within)))

-- the line `end` has come, and items are all the bytes
pub part_ended : (items bytes : List ℕ) → items ≡ bytes ++ 10 ∷ [] → ((rest : List ℕ) → up_to_end ((bytes ++ 10 ∷ []) ++ rest) ≡ bytes ++ 10 ∷ []) → length items ≤ script_limit + 1
    → (rest : List ℕ) → input_part (items ++ rest) ≡ items
part_ended items bytes is f few rest =
    ap (take (script_limit + 1)) (ap (λ xs. up_to_end (xs ++ rest)) is ∙ (f rest ∙ sym is)) ∙ take_all (script_limit + 1) items few

pub part_alone : (items : List ℕ) → ((rest : List ℕ) → input_part (items ++ rest) ≡ items) → input_part items ≡ items
part_alone items f = ap input_part (sym (append-nil items)) ∙ f []

pub open_at : (items bytes : List ℕ) (n : ℕ) → items ≡ bytes → n ≡ length items → IsOpen bytes (length bytes) → IsOpen items n
open_at items bytes n is size o = subst (λ m. IsOpen items m) (sym size) (subst (λ xs. IsOpen xs (length xs)) (sym is) o)
