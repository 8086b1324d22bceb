-- Texts with one line, or one leg, more.
use Rattle.std.proofs.Common.{◌≡◌, ℕ, suc, ◌+◌, ◌<◌, List, [], ◌∷◌, ◌++◌, length, take, get_or, refl, ap, sym, ◌∙◌, add-one, add-zero, zero-add, arith}
use Rattle.std.proofs.lemmas.List.{append_assoc, append-nil, take_more, length-take}
use Rattle.image_faults.specs.declared.legs.LegImage.{LegImage}
use Rattle.image_texts.specs.Lines.{lines_to, printed}
use Rattle.image_texts.specs.Shown.{leg_text, legs_text}

pub one_line_more : (line : ℕ → List ℕ) (n : ℕ) → lines_to line (n + 1) ≡ lines_to line n ++ printed (line n)
one_line_more line n = rw add-one refl

pub legs_text-append : (l : ℕ) (xs ys : List LegImage) → legs_text l (xs ++ ys) ≡ legs_text l xs ++ legs_text (l + length xs) ys
legs_text-append l [] ys = ap (λ k. legs_text k ys) (sym (add-zero l))
legs_text-append l (x ∷ xs) ys =
    let e : (l + 1) + length xs ≡ l + length (x ∷ xs) = omega arith in
    ap (λ t. leg_text l x ++ t) (legs_text-append (l + 1) xs ys ∙ ap (λ k. legs_text (l + 1) xs ++ legs_text k ys) e)
    ∙ sym (append_assoc (leg_text l x) (legs_text (l + 1) xs) (legs_text (l + length (x ∷ xs)) ys))

pub one_leg_more : (xs : List LegImage) (i : ℕ) (x : LegImage) → i < length xs → x ≡ get_or xs i x → legs_text 0 (take (i + 1) xs) ≡ legs_text 0 (take i xs) ++ leg_text i x
one_leg_more xs i x below is =
    let e : 0 + length (take i xs) ≡ i = grind (arith, length-take) in
    ap (legs_text 0) (take_more xs i x below ∙ ap (λ y. take i xs ++ y ∷ []) (sym is))
    ∙ (legs_text-append 0 (take i xs) (x ∷ [])
    ∙ ap (λ t. legs_text 0 (take i xs) ++ t) (ap (λ k. legs_text k (x ∷ [])) e ∙ append-nil (leg_text i x)))
