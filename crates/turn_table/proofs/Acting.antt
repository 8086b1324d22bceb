-- What one turn leaves.
use Rattle.std.proofs.Common.{◌≡◌, ℕ, ◌+◌, ◌<◌, Bool, true, false, List, [], ◌∷◌, ◌++◌, refl, sym, ap, ◌∙◌, subst}
use Rattle.std.specs.Prelude.{MatchBool, Some, unwrap_or, ◌==◌}
use prog.Atomic.{either}
use Rattle.atomic_table.specs.Table.{State, Me, Allows}
use Rattle.turn_table.specs.Lists.{BeginsWith, own, Has, first_of, Adds}
use Rattle.turn_table.specs.Held.{Ran}
use Rattle.turn_table.specs.Rule.{Kept, Tries, Wins, Loses}
use Rattle.turn_table.specs.declared.stories.Story.{Ghosts}
use Rattle.turn_table.specs.declared.views.View.{View}
use Rattle.turn_table.proofs.ListLemmas.{own_here}
use Rattle.turn_table.proofs.Keeping.{tries}

-- the value in hand, or the first argument
hand : {T : Type 0} → T → List (ℕ × T) → T
hand y [] = y
hand y (x ∷ xs) = x.1

pub one_hand : {T : Type 0} (c : List (ℕ × T)) (y z : T) → c ≡ (0, y) ∷ [] → c ≡ (0, z) ∷ [] → y ≡ z
unfolding hand
one_hand c y z a b = ap (hand y) (sym a ∙ b)

module _ {T I O : Type 0} (g : Ghosts T I O) where
  -- a try, of a place with nothing in hand, by its own word
  pub tries_at : (origin : O) (seats slots id : ℕ) (me : Me T (View I O)) (word : ℕ) → me.1 ≡ [] → first_of me.0.numbers + 1 ≡ word
      → me.0.inside ≡ false → me.0.more ≡ [] → Has me.0.numbers (first_of me.0.numbers) → me.0.origin ≡ Some origin
      → Allows (Kept g.entries g.origin g.number origin seats) slots id me 1 (λ n. either (n == 0) word n)
      (λ found after. MatchBool (found == 0) (Wins g.entries g.origin g.number me after) (Loses g.entries g.origin g.number me found after))
  tries_at origin seats slots id me word empty is outside no_more has origin_is =
      subst (λ (n : ℕ). Allows (Kept g.entries g.origin g.number origin seats) slots id me 1 (λ m. either (m == 0) n m)
      (λ found after. MatchBool (found == 0) (Wins g.entries g.origin g.number me after) (Loses g.entries g.origin g.number me found after))) is
      (subst (λ (c : List (ℕ × T)). Allows (Kept g.entries g.origin g.number origin seats) slots id (me.0, c) 1 (λ m. either (m == 0) (first_of me.0.numbers + 1) m)
      (λ found after. MatchBool (found == 0) (Wins g.entries g.origin g.number (me.0, c) after) (Loses g.entries g.origin g.number (me.0, c) found after))) (sym empty)
      (tries g.entries g.origin g.number origin seats slots id me.0 outside no_more has origin_is))

  -- the turn was free
  pub won : (me after : Me T (View I O)) (found : ℕ) → found ≡ 0
      → MatchBool (found == 0) (Wins g.entries g.origin g.number me after) (Loses g.entries g.origin g.number me found after)
      → Wins g.entries g.origin g.number me after
  won me after found is h = subst (λ n. MatchBool (n == 0) (Wins g.entries g.origin g.number me after) (Loses g.entries g.origin g.number me n after)) is h

  pub acted : {A R : Type 0} (relation : A → A → O → List I → List I → R → Type 0) (adds : R → Bool)
      (origin : O) (act act' : A) (reply : R) (grew : Bool) (v w : View I O) (first : ℕ) (y z : T)
      → first ≡ first_of v.numbers → v.origin ≡ Some origin → v.origin ≡ Some (g.origin y) → BeginsWith (g.entries y) v.seen
      → own g.number (first_of v.numbers) v.seen ≡ own g.number (first_of v.numbers) (g.entries y)
      → Ran g first grew y z → relation act act' (g.origin y) (g.entries y) (g.entries z) reply → grew ≡ adds reply
      → w.seen ≡ g.entries z → w.numbers ≡ v.numbers
      → (before : List I) × BeginsWith before v.seen × relation act act' origin before w.seen reply
      × MatchBool (adds reply)
      ((x : I) × (g.number x ≡ first_of v.numbers) × (w.seen ≡ before ++ x ∷ [])
      × (own g.number (first_of w.numbers) w.seen ≡ own g.number (first_of v.numbers) v.seen ++ x ∷ []))
      ((w.seen ≡ before) × (own g.number (first_of w.numbers) w.seen ≡ own g.number (first_of v.numbers) v.seen))
  acted relation adds origin act act' reply grew v w first y z first_is origin_is origin_is' begins mine ran related told seen_is numbers_is =
      let same : g.origin y ≡ origin = ap (λ o. unwrap_or o origin) (sym origin_is' ∙ origin_is) in
      let k : ℕ = first_of v.numbers in
      let own_is : own g.number (first_of w.numbers) w.seen ≡ own g.number k (g.entries z) =
      (λ i. own g.number (first_of (numbers_is i)) (seen_is i)) in (
        g.entries y,
        begins,
        subst (λ o. relation act act' o (g.entries y) w.seen reply) same
            (subst (λ l. relation act act' (g.origin y) (g.entries y) l reply) (sym seen_is) related),
        subst (λ b. MatchBool b
            ((x : I) × (g.number x ≡ k) × (w.seen ≡ g.entries y ++ x ∷ []) × (own g.number (first_of w.numbers) w.seen ≡ own g.number k v.seen ++ x ∷ []))
            ((w.seen ≡ g.entries y) × (own g.number (first_of w.numbers) w.seen ≡ own g.number k v.seen)))
            told (either_way grew own_is ran.1),
      )
    where
      either_way : (b : Bool) → own g.number (first_of w.numbers) w.seen ≡ own g.number (first_of v.numbers) (g.entries z)
          → MatchBool b (Adds g.number first (g.entries y) (g.entries z)) (g.entries z ≡ g.entries y)
          → MatchBool b
          ((x : I) × (g.number x ≡ first_of v.numbers) × (w.seen ≡ g.entries y ++ x ∷ [])
          × (own g.number (first_of w.numbers) w.seen ≡ own g.number (first_of v.numbers) v.seen ++ x ∷ []))
          ((w.seen ≡ g.entries y) × (own g.number (first_of w.numbers) w.seen ≡ own g.number (first_of v.numbers) v.seen))
      either_way true own_is (x, names, grown) = (
        x,
        names ∙ first_is,
        seen_is ∙ grown,
        own_is ∙ ap (own g.number (first_of v.numbers)) grown
            ∙ own_here g.number (first_of v.numbers) (g.entries y) x (names ∙ first_is)
            ∙ ap (λ l. l ++ x ∷ []) (sym mine),
      )
      either_way false own_is same = (seen_is ∙ same, own_is ∙ ap (own g.number (first_of v.numbers)) same ∙ sym mine)
