-- What is taken of the input is judged as all of it.
use Rattle.std.proofs.Common.{◌≡◌, ◌⊎◌, inl, inr, ℕ, zero, suc, ◌+◌, ◌-◌, ◌<◌, ◌≤◌, ◌==◌, nat_lt, Bool, true, false, cond, List, [], ◌∷◌, ◌++◌, length, take, Result, Ok, Err, refl, ap, subst, sym, ◌∙◌, arith}
use Rattle.std.proofs.lemmas.Bool.Decides.{nat_tests}
use Rattle.std.proofs.lemmas.List.{append_assoc, take_all, take-append-le, length-append, length-take}
use Rattle.std.proofs.lemmas.Slice.Eq.{bytes_eq-Decides}
use Rattle.std.proofs.Math.Seq.{take-append-add}
use Rattle.std.specs.Str.{bytes_eq, is_utf8}
use Rattle.script_text.specs.declared.faults.FaultKind.{FaultKind}
use Rattle.script_text.specs.declared.faults.FaultKind.TheVariants as kinds
use Rattle.script_text.specs.declared.faults.ScriptFault.{ScriptFault}
use Rattle.script_text.specs.Judging.{◌>>=◌, at_line}
use Rattle.script_text.specs.Lines.{lines_of, text_of, through_end, up_to_end, input_part, script_limit}
use Rattle.script_text.specs.declared.script.Line.{Line}
use Rattle.script_text.specs.Images.{images_header, images_in, images_judged}
use Rattle.script_text.specs.Locks.{lock_line_of, locks_judged}
use Rattle.script_text.specs.Wire.{WireValue, nodes_of, wire_line_of, with_nodes, wire_in, wire_judged}
use Rattle.script_text.specs.declared.script.Start.{Start}
use Rattle.script_text.specs.Header.{Setup, start_of, is_setup, setup_line, with_line}
use Rattle.script_text.specs.Script.{ScriptValue, said_by, words_said, line_of, line_then, body_of, with_lines, setup_then, setup_in, new_setup, header_then, script_in, judged}
use Rattle.script_text.proofs.LinesLaws.{lines_only}
use Rattle.script_text.proofs.InputLaws.{IsText, IsText-tail, lines_at_feed, text_read, line_read, end_read, end_line}

-- two lists of lines of which the same is read, from line n on
record Same (n room : ℕ) (xs ys : List (List ℕ)) : Type 0 where
  body : body_of line_of n room xs ≡ body_of line_of n room ys
  locks : body_of lock_line_of n room xs ≡ body_of lock_line_of n room ys
  wire_body : body_of wire_line_of n room xs ≡ body_of wire_line_of n room ys
  wire : wire_in n room xs ≡ wire_in n room ys
  setup : (first : Bool) (s : Setup) → setup_in first s n room xs ≡ setup_in first s n room ys
  script : script_in n room xs ≡ script_in n room ys
  images : images_in n room xs ≡ images_in n room ys

-- the same comes after a line
bind_same : {A B E : Type 0} (r : Result A E) (f g : A → Result B E) → ((x : A) → f x ≡ g x) → (r >>= f) ≡ (r >>= g)
bind_same (Err e) f g same = refl
bind_same (Ok x) f g same = same x

cond_same : {A : Type 0} (b : Bool) (x y z w : A) → x ≡ z → y ≡ w → cond b x y ≡ cond b z w
cond_same true x y z w e f = e
cond_same false x y z w e f = f

setup_same : (first : Bool) (s : Setup) (n : ℕ) (said : Result (List (List ℕ)) FaultKind) (f g : Bool → Setup → Result ScriptValue ScriptFault) (x y : Result ScriptValue ScriptFault)
    → ((b : Bool) (t : Setup) → f b t ≡ g b t) → x ≡ y → setup_then first s n said f x ≡ setup_then first s n said g y
setup_same first s n (Err kind) f g x y same is = is
setup_same first s n (Ok []) f g x y same is = same first s
setup_same first s n (Ok (word ∷ args)) f g x y same is =
    cond_same (is_setup first word) _ _ _ _ (bind_same (at_line n (setup_line s.start word args)) _ _ (λ line. same false (with_line s line))) is

header_same : {H S : Type 0} (of : List ℕ → List (List ℕ) → Result H FaultKind) (n : ℕ) (said : Result (List (List ℕ)) FaultKind) (x y : Result S ScriptFault) (f g : H → Result S ScriptFault)
    → x ≡ y → ((h : H) → f h ≡ g h) → header_then of n said x f ≡ header_then of n said y g
header_same of n (Err kind) x y f g is same = refl
header_same of n (Ok []) x y f g is same = is
header_same of n (Ok (word ∷ args)) x y f g is same = bind_same (at_line n (of word args)) f g same

same_more : (n room : ℕ) (line : List ℕ) (xs ys : List (List ℕ)) → Same (n + 1) (room - length line) xs ys → Same n room (line ∷ xs) (line ∷ ys)
same_more n room line xs ys s =
    let body : body_of line_of n room (line ∷ xs) ≡ body_of line_of n room (line ∷ ys) = ap (line_then line_of n (said_by room line)) s.body in
    record {
      body = body;
      locks = ap (line_then lock_line_of n (said_by room line)) s.locks;
      wire_body = ap (line_then wire_line_of n (said_by room line)) s.wire_body;
      wire = header_same nodes_of n (said_by room line) _ _ _ _ s.wire (λ nodes. ap (with_nodes nodes) s.wire_body);
      setup = λ first t. setup_same first t n (said_by room line) _ _ _ _ s.setup (ap (with_lines t) body);
      script = header_same start_of n (said_by room line) _ _ _ _ s.script (λ start. s.setup true (new_setup start));
      images = header_same images_header n (said_by room line) _ _ _ _ s.images (λ header. s.body);
    }

-- there is no room for the line
said_long : (room : ℕ) (line : List ℕ) → room < length line → said_by room line ≡ Err kinds.Long
said_long room line long = let t : nat_lt room (length line) ≡ true = grind (arith, nat_tests) in rw t refl

body_long : {L : Type 0} (of : List ℕ → List (List ℕ) → Result L FaultKind) (n room : ℕ) (line : List ℕ) (xs : List (List ℕ)) → room < length line → body_of of n room (line ∷ xs) ≡ at_line n (Err kinds.Long)
body_long of n room line xs long = ap (λ said. line_then of n said (body_of of (n + 1) (room - length line) xs)) (said_long room line long)

setup_long : (first : Bool) (s : Setup) (n room : ℕ) (line : List ℕ) (xs : List (List ℕ)) → room < length line → setup_in first s n room (line ∷ xs) ≡ with_lines s (at_line n (Err kinds.Long))
setup_long first s n room line xs long =
    ap (λ said. setup_then first s n said (λ f t. setup_in f t (n + 1) (room - length line) xs) (with_lines s (body_of line_of n room (line ∷ xs)))) (said_long room line long)
    ∙ ap (with_lines s) (body_long line_of n room line xs long)

script_long : (n room : ℕ) (line : List ℕ) (xs : List (List ℕ)) → room < length line → script_in n room (line ∷ xs) ≡ at_line n (Err kinds.Long)
script_long n room line xs long =
    ap (λ said. header_then start_of n said (script_in (n + 1) (room - length line) xs) (λ start. setup_in true (new_setup start) (n + 1) (room - length line) xs)) (said_long room line long)

wire_long : (n room : ℕ) (line : List ℕ) (xs : List (List ℕ)) → room < length line → wire_in n room (line ∷ xs) ≡ at_line n (Err kinds.Long)
wire_long n room line xs long =
    ap (λ said. header_then nodes_of n said (wire_in (n + 1) (room - length line) xs) (λ nodes. with_nodes nodes (body_of wire_line_of (n + 1) (room - length line) xs))) (said_long room line long)

images_long : (n room : ℕ) (line : List ℕ) (xs : List (List ℕ)) → room < length line → images_in n room (line ∷ xs) ≡ at_line n (Err kinds.Long)
images_long n room line xs long =
    ap (λ said. header_then images_header n said (images_in (n + 1) (room - length line) xs) (λ header. body_of line_of (n + 1) (room - length line) xs)) (said_long room line long)

same_long : (n room : ℕ) (a b : List ℕ) (xs ys : List (List ℕ)) → room < length a → room < length b → Same n room (a ∷ xs) (b ∷ ys)
same_long n room a b xs ys long longer = record {
  body = body_long line_of n room a xs long ∙ sym (body_long line_of n room b ys longer);
  locks = body_long lock_line_of n room a xs long ∙ sym (body_long lock_line_of n room b ys longer);
  wire_body = body_long wire_line_of n room a xs long ∙ sym (body_long wire_line_of n room b ys longer);
  wire = wire_long n room a xs long ∙ sym (wire_long n room b ys longer);
  setup = λ first s. setup_long first s n room a xs long ∙ sym (setup_long first s n room b ys longer);
  script = script_long n room a xs long ∙ sym (script_long n room b ys longer);
  images = images_long n room a xs long ∙ sym (images_long n room b ys longer);
}

-- after the line `end` nothing is judged
abbrev end_said : Bool → Bool → Result (List (List ℕ)) FaultKind
end_said long text = cond long (Err kinds.Long) (cond text (Ok (words_said (text_of end_line))) (Err kinds.Utf8))

end_then : {L : Type 0} (of : List ℕ → List (List ℕ) → Result L FaultKind) (n : ℕ) (long text : Bool) (xs ys : Result (List L) ScriptFault) → line_then of n (end_said long text) xs ≡ line_then of n (end_said long text) ys
end_then of n true text xs ys = refl
end_then of n false true xs ys = refl
end_then of n false false xs ys = refl

end_setup : (first : Bool) (s : Setup) (n : ℕ) (long text : Bool) (f g : Bool → Setup → Result ScriptValue ScriptFault) (x y : Result ScriptValue ScriptFault) → x ≡ y
    → setup_then first s n (end_said long text) f x ≡ setup_then first s n (end_said long text) g y
end_setup first s n true text f g x y is = is
end_setup true s n false true f g x y is = is
end_setup false s n false true f g x y is = is
end_setup first s n false false f g x y is = is

end_first : (n : ℕ) (long text : Bool) (xs ys : Result ScriptValue ScriptFault) (f g : Start → Result ScriptValue ScriptFault)
    → header_then start_of n (end_said long text) xs f ≡ header_then start_of n (end_said long text) ys g
end_first n true text xs ys f g = refl
end_first n false true xs ys f g = refl
end_first n false false xs ys f g = refl

end_images : (n : ℕ) (long text : Bool) (xs ys : Result (List Line) ScriptFault) (f g : Unit {0} → Result (List Line) ScriptFault)
    → header_then images_header n (end_said long text) xs f ≡ header_then images_header n (end_said long text) ys g
end_images n true text xs ys f g = refl
end_images n false true xs ys f g = refl
end_images n false false xs ys f g = refl

end_wire : (n : ℕ) (long text : Bool) (xs ys : Result WireValue ScriptFault) (f g : ℕ → Result WireValue ScriptFault)
    → header_then nodes_of n (end_said long text) xs f ≡ header_then nodes_of n (end_said long text) ys g
end_wire n true text xs ys f g = refl
end_wire n false true xs ys f g = refl
end_wire n false false xs ys f g = refl

same_end : (n room : ℕ) (xs ys : List (List ℕ)) → Same n room (end_line ∷ xs) (end_line ∷ ys)
same_end n room xs ys =
    let long = nat_lt room (length end_line) in
    let text = is_utf8 (text_of end_line) in
    let body : body_of line_of n room (end_line ∷ xs) ≡ body_of line_of n room (end_line ∷ ys) = end_then line_of n long text _ _ in
    record {
      body = body;
      locks = end_then lock_line_of n long text _ _;
      wire_body = end_then wire_line_of n long text _ _;
      wire = end_wire n long text _ _ _ _;
      setup = λ first s. end_setup first s n long text _ _ _ _ (ap (with_lines s) body);
      script = end_first n long text _ _ _ _;
      images = end_images n long text _ _ _ _;
    }

same_refl : (n room : ℕ) (xs : List (List ℕ)) → Same n room xs xs
same_refl n room xs = record { body = refl; locks = refl; wire_body = refl; wire = refl; setup = λ first s. refl; script = refl; images = refl }

is_end_line : (line : List ℕ) → bytes_eq line end_line ≡ true → line ≡ end_line
is_end_line line is = grind (arith, bytes_eq-Decides line end_line)

-- the lines up to `end`, and all lines
same_through : (n room : ℕ) (lines : List (List ℕ)) → Same n room (through_end lines) lines
same_through n room [] = same_refl n room []
same_through n room (line ∷ lines) =
    elim (bytes_eq line end_line) as (λ b. bytes_eq line end_line ≡ b → Same n room (cond b (line ∷ []) (line ∷ through_end lines)) (line ∷ lines)) [
      | true ↦ λ t. subst (λ l. Same n room (l ∷ []) (l ∷ lines)) (sym (is_end_line line t)) (same_end n room [] lines)
      | false ↦ λ t. same_more n room line (through_end lines) lines (same_through (n + 1) (room - length line) lines)
    ] refl

-- Bytes are one text, or begin with a text and a line feed.
pub record Broken (bytes : List ℕ) : Type 0 where
  pub text : List ℕ
  pub rest : List ℕ
  pub is_text : IsText text
  pub is : bytes ≡ text ++ 10 ∷ rest

IsText-more : (b : ℕ) (text : List ℕ) → b == 10 ≡ false → IsText text → IsText (b ∷ text)
IsText-more b text t is = record { is = rw t (omega (arith, is.is)) }

IsText-take : (n : ℕ) (text : List ℕ) → IsText text → IsText (take n text)
IsText-take zero text t = record { is = refl }
IsText-take (suc n) [] t = record { is = refl }
IsText-take (suc n) (b ∷ text) t = let h = IsText-tail b text t in IsText-more b (take n text) h.0 (IsText-take n text h.1)

first_text : (bytes : List ℕ) → IsText bytes ⊎ Broken bytes
first_text [] = inl (record { is = refl })
first_text (b ∷ bytes) =
    elim (b == 10) as (λ v. b == 10 ≡ v → IsText (b ∷ bytes) ⊎ Broken (b ∷ bytes)) [
      | true ↦ λ t. let e : b ≡ 10 = grind (arith, nat_tests) in inr (record { text = []; rest = bytes; is_text = record { is = refl }; is = ap (λ c. c ∷ bytes) e })
      | false ↦ λ t. elim (first_text bytes) [
        | inl text ↦ inl (IsText-more b bytes t text)
        | inr broken ↦ inr (record { text = b ∷ broken.text; rest = broken.rest; is_text = IsText-more b broken.text t broken.is_text; is = ap (λ bs. b ∷ bs) broken.is })
      ]
    ] refl

-- The lines of what is taken are the lines up to `end`.

lines_text : (bytes : List ℕ) → IsText bytes → lines_of bytes ≡ through_end (lines_of bytes)
lines_text [] t = refl
lines_text (b ∷ bytes) t =
    let one : lines_of (b ∷ bytes) ≡ (b ∷ bytes) ∷ [] = lines_only (b ∷ bytes) (omega arith) t.is in
    one ∙ (elim (bytes_eq (b ∷ bytes) end_line) as (λ v. (b ∷ bytes) ∷ [] ≡ cond v ((b ∷ bytes) ∷ []) ((b ∷ bytes) ∷ [])) [ true ↦ refl | false ↦ refl ] ∙ ap through_end (sym one))

lines_broken : (text rest : List ℕ) → IsText text → lines_of (up_to_end rest) ≡ through_end (lines_of rest) → lines_of (up_to_end (text ++ 10 ∷ rest)) ≡ through_end (lines_of (text ++ 10 ∷ rest))
lines_broken text rest t is =
    elim (bytes_eq (text ++ 10 ∷ []) end_line) as (λ v. bytes_eq (text ++ 10 ∷ []) end_line ≡ v → lines_of (up_to_end (text ++ 10 ∷ rest)) ≡ through_end (lines_of (text ++ 10 ∷ rest))) [
      | true ↦ λ last.
          ap lines_of (end_read text rest t last) ∙ (lines_at_feed text [] t
          ∙ sym (ap through_end (lines_at_feed text rest t) ∙ ap (λ v. cond v ((text ++ 10 ∷ []) ∷ []) ((text ++ 10 ∷ []) ∷ through_end (lines_of rest))) last))
      | false ↦ λ other.
          ap lines_of (line_read text rest t other ∙ append_assoc text (10 ∷ []) (up_to_end rest)) ∙ (lines_at_feed text (up_to_end rest) t
          ∙ (ap (λ lines. (text ++ 10 ∷ []) ∷ lines) is
          ∙ sym (ap through_end (lines_at_feed text rest t) ∙ ap (λ v. cond v ((text ++ 10 ∷ []) ∷ []) ((text ++ 10 ∷ []) ∷ through_end (lines_of rest))) other)))
    ] refl

broken_less : (bytes : List ℕ) (b : Broken bytes) (n : ℕ) → length bytes < suc n → length b.rest < n
broken_less bytes b n lt = omega (arith, ap length b.is, length-append b.text (10 ∷ b.rest))

lines_taken : (n : ℕ) (bytes : List ℕ) → length bytes < n → lines_of (up_to_end bytes) ≡ through_end (lines_of bytes)
lines_taken zero bytes lt = absurd (omega arith)
lines_taken (suc n) bytes lt = elim (first_text bytes) [
  | inl text ↦ ap lines_of (text_read bytes text) ∙ lines_text bytes text
  | inr b ↦ subst (λ bs. lines_of (up_to_end bs) ≡ through_end (lines_of bs)) (sym b.is)
      (lines_broken b.text b.rest b.is_text (lines_taken n b.rest (broken_less bytes b n lt)))
]

-- One byte more than there is room for tells as much as all bytes do.

text_lines : (text : List ℕ) → IsText text → 0 < length text → lines_of text ≡ text ∷ []
text_lines text t some = lines_only text some t.is

le_cases : (m n : ℕ) → (m ≤ n) ⊎ (n < m)
le_cases m n = grind (arith, nat_tests)

same_of : (n room : ℕ) (xs ys zs : List (List ℕ)) → xs ≡ ys → Same n room ys zs → Same n room xs zs
same_of n room xs ys zs e s = subst (λ x. Same n room x zs) (sym e) s

cut_text : (n room : ℕ) (bytes : List ℕ) → IsText bytes → Same n room (lines_of (take (room + 1) bytes)) (lines_of bytes)
cut_text n room bytes t = elim (le_cases (length bytes) (room + 1)) [
  | inl few ↦ subst (λ bs. Same n room (lines_of bs) (lines_of bytes)) (sym (take_all (room + 1) bytes few)) (same_refl n room (lines_of bytes))
  | inr many ↦
      let size : length (take (room + 1) bytes) ≡ room + 1 = omega (arith, length-take (room + 1) bytes) in
      same_of n room _ _ _ (text_lines (take (room + 1) bytes) (IsText-take (room + 1) bytes t) (omega arith))
      (subst (λ ys. Same n room (take (room + 1) bytes ∷ []) ys) (sym (text_lines bytes t (omega arith))) (same_long n room (take (room + 1) bytes) bytes [] [] (omega arith) (omega arith)))
]

-- the line holds the last byte that is taken, and is too long
cut_line : (n room : ℕ) (text rest : List ℕ) → IsText text → room < length text + 1 → Same n room (lines_of (take (room + 1) (text ++ 10 ∷ rest))) (lines_of (text ++ 10 ∷ rest))
cut_line n room text rest t long =
    let all : lines_of (text ++ 10 ∷ rest) ≡ (text ++ 10 ∷ []) ∷ lines_of rest = lines_at_feed text rest t in
    let size : length (text ++ 10 ∷ []) ≡ length text + 1 = length-append text (10 ∷ []) in
    subst (λ ys. Same n room (lines_of (take (room + 1) (text ++ 10 ∷ rest))) ys) (sym all) (elim (le_cases (room + 1) (length text)) [
      | inl within ↦
          let front : take (room + 1) (text ++ 10 ∷ rest) ≡ take (room + 1) text = take-append-le (room + 1) text (10 ∷ rest) within in
          let size₂ : length (take (room + 1) text) ≡ room + 1 = omega (arith, length-take (room + 1) text) in
          same_of n room _ _ _ (ap lines_of front ∙ text_lines (take (room + 1) text) (IsText-take (room + 1) text t) (omega arith))
          (same_long n room (take (room + 1) text) (text ++ 10 ∷ []) [] (lines_of rest) (omega arith) (omega arith))
      | inr at ↦
          let front : take (room + 1) (text ++ 10 ∷ rest) ≡ text ++ 10 ∷ [] =
          ap (take (room + 1)) (sym (append_assoc text (10 ∷ []) rest)) ∙ (take-append-le (room + 1) (text ++ 10 ∷ []) rest (omega arith) ∙ take_all (room + 1) (text ++ 10 ∷ []) (omega arith)) in
          same_of n room _ _ _ (ap lines_of front ∙ lines_at_feed text [] t)
          (same_long n room (text ++ 10 ∷ []) (text ++ 10 ∷ []) [] (lines_of rest) (omega arith) (omega arith))
    ])

cut_later : (n room : ℕ) (text rest : List ℕ) → IsText text → length text + 1 ≤ room
    → Same (n + 1) (room - length (text ++ 10 ∷ [])) (lines_of (take (room - length (text ++ 10 ∷ []) + 1) rest)) (lines_of rest)
    → Same n room (lines_of (take (room + 1) (text ++ 10 ∷ rest))) (lines_of (text ++ 10 ∷ rest))
cut_later n room text rest t fits s =
    let size : length (text ++ 10 ∷ []) ≡ length text + 1 = length-append text (10 ∷ []) in
    let split : room + 1 ≡ length (text ++ 10 ∷ []) + (room - length (text ++ 10 ∷ []) + 1) = omega arith in
    let front : take (room + 1) (text ++ 10 ∷ rest) ≡ text ++ 10 ∷ take (room - length (text ++ 10 ∷ []) + 1) rest =
    ap (take (room + 1)) (sym (append_assoc text (10 ∷ []) rest)) ∙ (ap (λ m. take m ((text ++ 10 ∷ []) ++ rest)) split
    ∙ (take-append-add (text ++ 10 ∷ []) rest (room - length (text ++ 10 ∷ []) + 1) ∙ append_assoc text (10 ∷ []) (take (room - length (text ++ 10 ∷ []) + 1) rest))) in
    subst (λ ys. Same n room (lines_of (take (room + 1) (text ++ 10 ∷ rest))) ys) (sym (lines_at_feed text rest t))
    (same_of n room _ _ _ (ap lines_of front ∙ lines_at_feed text (take (room - length (text ++ 10 ∷ []) + 1) rest) t)
    (same_more n room (text ++ 10 ∷ []) (lines_of (take (room - length (text ++ 10 ∷ []) + 1) rest)) (lines_of rest) s))

same_cut : (k n room : ℕ) (bytes : List ℕ) → length bytes < k → Same n room (lines_of (take (room + 1) bytes)) (lines_of bytes)
same_cut zero n room bytes lt = absurd (omega arith)
same_cut (suc k) n room bytes lt = elim (first_text bytes) [
  | inl text ↦ cut_text n room bytes text
  | inr b ↦ subst (λ bs. Same n room (lines_of (take (room + 1) bs)) (lines_of bs)) (sym b.is) (elim (le_cases (length b.text + 1) room) [
    | inl fits ↦ cut_later n room b.text b.rest b.is_text fits (same_cut k (n + 1) (room - length (b.text ++ 10 ∷ [])) b.rest (broken_less bytes b k lt))
    | inr long ↦ cut_line n room b.text b.rest b.is_text long
  ])
]

-- the bytes that are taken, and all of them
part_same : (bytes : List ℕ) → Same 1 script_limit (lines_of (input_part bytes)) (lines_of (up_to_end bytes))
part_same bytes = same_cut (length (up_to_end bytes) + 1) 1 script_limit (up_to_end bytes) (omega arith)

pub part_judged : (bytes : List ℕ) → judged (input_part bytes) ≡ judged bytes
part_judged bytes =
    (part_same bytes).script
    ∙ (ap (script_in 1 script_limit) (lines_taken (length bytes + 1) bytes (omega arith)) ∙ (same_through 1 script_limit (lines_of bytes)).script)

pub part_images_judged : (bytes : List ℕ) → images_judged (input_part bytes) ≡ images_judged bytes
part_images_judged bytes =
    (part_same bytes).images
    ∙ (ap (images_in 1 script_limit) (lines_taken (length bytes + 1) bytes (omega arith)) ∙ (same_through 1 script_limit (lines_of bytes)).images)

pub part_locks_judged : (bytes : List ℕ) → locks_judged (input_part bytes) ≡ locks_judged bytes
part_locks_judged bytes =
    (part_same bytes).locks
    ∙ (ap (body_of lock_line_of 1 script_limit) (lines_taken (length bytes + 1) bytes (omega arith)) ∙ (same_through 1 script_limit (lines_of bytes)).locks)

pub part_wire_judged : (bytes : List ℕ) → wire_judged (input_part bytes) ≡ wire_judged bytes
part_wire_judged bytes =
    (part_same bytes).wire
    ∙ (ap (wire_in 1 script_limit) (lines_taken (length bytes + 1) bytes (omega arith)) ∙ (same_through 1 script_limit (lines_of bytes)).wire)
