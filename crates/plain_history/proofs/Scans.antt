-- Loops over the candidates, and changes of one list of several.
use Rattle.std.proofs.Common.{◌≡◌, ◌≢◌, ℕ, zero, suc, ◌+◌, ◌<◌, ◌≤◌, Decides, List, [], ◌∷◌, map, length, drop, set, refl, sym, ◌∙◌, ap, subst, arith}
use Rattle.std.specs.Prelude.{get_or}
use Rattle.std.specs.Str.{bytes_eq}
use Rattle.std.proofs.lemmas.List.{get_or-map, get_or_past, length-map, map-set}
use Rattle.std.proofs.Math.Seq.{map-set_same}
use Rattle.std.proofs.lemmas.Slice.Eq.{bytes_eq-Decides}
use Rattle.mdc_types.specs.declared.numbers.Sector.{Sector}
use Rattle.plain_history.specs.History.{IsIn, here, there, values_at}

-- two sectors are the same exactly where their bytes are
pub same_sector : (u v : Sector) → Decides (bytes_eq u.bytes v.bytes) (u ≡ v)
same_sector u v =
    let d = bytes_eq-Decides u.bytes v.bytes in
    let sector : List ℕ → Sector = λ bytes. record { bytes = bytes } in
    (λ same. ap sector (d.0 same), λ same. d.1 (ap (λ w. w.bytes) same))

pub IsIn-at : (v d : Sector) (vs : List Sector) (i : ℕ) → i < length vs → get_or vs i d ≡ v → IsIn v vs
IsIn-at v d [] i lt is = absurd (omega (arith, lt))
IsIn-at v d (u ∷ vs) zero lt is = subst (λ w. IsIn w (u ∷ vs)) is here
IsIn-at v d (u ∷ vs) (suc i) lt is = there (IsIn-at v d vs i (omega (arith, lt)) is)

pub IsIn-more : (v d : Sector) (vs : List Sector) (i : ℕ) → i < length vs → get_or vs i d ≢ v → IsIn v (drop i vs) → IsIn v (drop (i + 1) vs)
IsIn-more v d [] i lt other has = absurd (omega (arith, lt))
IsIn-more v d (u ∷ vs) zero lt other here = absurd (other refl)
IsIn-more v d (u ∷ vs) zero lt other (there more) = more
IsIn-more v d (u ∷ vs) (suc i) lt other has =
    let e : suc i + 1 ≡ suc (i + 1) = omega arith in
    rw e (IsIn-more v d vs i (omega (arith, lt)) other has)

pub IsIn-end : (v : Sector) (vs : List Sector) (i : ℕ) → length vs ≤ i → IsIn v (drop i vs) → ⊥
IsIn-end v [] zero le has = elim has [ ]
IsIn-end v [] (suc i) le has = elim has [ ]
IsIn-end v (u ∷ vs) zero le has = omega (arith, le)
IsIn-end v (u ∷ vs) (suc i) le has = IsIn-end v vs i (omega (arith, le)) has

-- one of several lists

module _ {X : Type 0} (f : X → List Sector) (xs : List X) (s : ℕ) where
  pub list_at : (old : X) → s < length xs → old ≡ get_or xs s old → values_at (map f xs) s ≡ f old
  list_at old lt is = get_or-map f xs s old [] lt ∙ ap f (sym is)

  pub list_past : length xs ≤ s → values_at (map f xs) s ≡ []
  list_past le = get_or_past (map f xs) s [] (omega (arith, le, length-map xs f))

  pub list_kept : (old new : X) → old ≡ get_or xs s old → f new ≡ f old → map f (set xs s new) ≡ map f xs
  list_kept old new is same = map-set_same f xs s new old (same ∙ ap f is)

  pub list_changed : (new : X) (vs : List Sector) → f new ≡ vs → map f (set xs s new) ≡ set (map f xs) s vs
  list_changed new vs e = map-set f xs s new ∙ ap (set (map f xs) s) e
