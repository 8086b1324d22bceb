-- Each step keeps the turn's rule.
use Rattle.std.proofs.Common.{◌≡◌, ◌≢◌, ◌⊎◌, ℕ, zero, suc, ◌+◌, ◌%◌, ◌^◌, ◌<◌, ◌≤◌, Bool, true, false, true≢false, List, [], ◌∷◌, ◌++◌, length, set, refl, sym, ap, ◌∙◌, subst, inl, inr, ⊎_elim, arith, append-nil, length-append, eq-eqb, ne_eqb, eqb}
use Rattle.std.specs.Prelude.{All, MatchBool, ◌==◌, Option, Some, None, slice_index, unwrap_or}
use Rattle.std.proofs.lemmas.List.Elements.{All-append, All-nil, All-cons}
use mathlib.Core.Option.{some, none, some-injective, some-ne-none}
use Rattle.std.proofs.Math.Nat.{mod-eq_of_lt}
use mathlib.Core.Logic.{dite}
use native.Mathlib.Decide.{dec_le, ℕ_discrete}
use lib.ListN.{get_elem?}
use prog.Atomic.{either}
use Rattle.atomic_table.specs.Table.{State, Me, Step, step, Act, keeps, takes, gives, stepped, Allows, Splits, Joins, Final, Seen, opening, Valid, carried_after}
use Rattle.atomic_table.proofs.Lists.{at_set, at_snoc, at_longer, set_here, set_else, exchanged}
use Rattle.turn_table.specs.Lists.{BeginsWith, longer, own, times, Has, from, first_of, last_of, all_but_last}
use Rattle.turn_table.specs.Views.{opened, left, right, noted, told, spent, learned}
use Rattle.turn_table.specs.Rule.{total, once_below, has_times, how_many, Knows, AtHome, Out, Kept, in_hand, Wins, Loses, Tries, Counts, Frees, Learns}
use Rattle.turn_table.specs.declared.views.View.{View}
use Rattle.turn_table.proofs.ListLemmas.{begins_itself, begins_more, begins_through, longer_begins, own_between, own_here, own_else, times-append, times_cut, length_cut, times-from, length-from, some_below, is_below, no_times, at_most_once, has_length, total_set, total_snoc, total_one, total_two, total_alone}

-- there in a list of which one place was set
there_set : {A : Type 0} (xs : List A) (i j : ℕ) (a b : A) → i ≢ j → get_elem? xs j ≡ some b → get_elem? (set xs i a) j ≡ some b
there_set xs i j a b ne e = set_else xs i j a (λ s. ne (sym s)) ∙ e

in_bounds : {A : Type 0} (xs : List A) (i : ℕ) (a : A) → get_elem? xs i ≡ some a → i < length xs
in_bounds [] i a e = absurd (some-ne-none a (sym e))
in_bounds (x ∷ xs) zero a e = omega arith
in_bounds (x ∷ xs) (suc i) a e = let more = in_bounds xs i a e in omega arith

here_set : {A : Type 0} (xs : List A) (i : ℕ) (a b : A) → get_elem? xs i ≡ some a → get_elem? (set xs i b) i ≡ some b
here_set xs i a b e = set_here xs i b (in_bounds xs i a e)

one_more : (n : ℕ) → (n + 1 == 0) ≡ false
one_more n = ne_eqb (n + 1) 0 (λ e. omega arith)

module _ {T I O : Type 0} (entries : T → List I) (origin_of : T → O) (number : I → ℕ) (origin : O) (seats : ℕ) where
  -- no play here reads which step it was
  abbrev any : Step T
  any = step 0 0 0 0 none

  abbrev Fits : List I → ℕ → View I O → Type 0
  Fits log word v = Knows entries origin_of number origin seats log word v

  abbrev Rule : State T (View I O) → Type 0
  Rule s = Kept entries origin_of number origin seats s

  -- what holds of each view
  each_set : (F : View I O → Type 0) (views : List (View I O)) (id : ℕ) (w : View I O) → F w
      → ((j : ℕ) (u : View I O) → j ≢ id → get_elem? views j ≡ some u → F u)
      → (j : ℕ) (u : View I O) → get_elem? (set views id w) j ≡ some u → F u
  each_set F views id w mine others j u e =
      ⊎_elim (λ (x : (j ≡ id) × (w ≡ u)). subst F x.1 mine)
      (λ (x : (j ≢ id) × (get_elem? views j ≡ some u)). others j u x.0 x.1)
      (at_set views id j w u e)

  -- two views don't have one number
  apart : (s : State T (View I O)) → Rule s → (i j : ℕ) (v w : View I O) → i ≢ j
      → get_elem? s.views i ≡ some v → get_elem? s.views j ≡ some w
      → (n : ℕ) → 0 < has_times n v → 0 < has_times n w → ⊥
  apart s k i j v w ne e d n a b =
      let two = total_two (has_times n) s.views i j v w ne e d in
      let most = at_most_once n seats in
      let is : total (has_times n) s.views ≡ once_below n seats = k.dealt n in
      absurd (omega arith)

  match_map : (b : Bool) (P Q P' Q' : Type 0) → (P → P') → (Q → Q') → MatchBool b P Q → MatchBool b P' Q'
  match_map true P Q P' Q' f g h = f h
  match_map false P Q P' Q' f g h = g h

  the_same : (xs : List (View I O)) (i j : ℕ) (v u : View I O) → get_elem? xs i ≡ some v → get_elem? xs j ≡ some u → j ≡ i → u ≡ v
  the_same xs i j v u e d same = some-injective u v (sym d ∙ ap (get_elem? xs) same ∙ e)

  -- whoever was in the turn still is, after one view was changed
  out_set : (s : State T (View I O)) (id : ℕ) (v w : View I O) (ws : List ℕ) → get_elem? s.views id ≡ some v
      → (v.inside ≡ true → w.inside ≡ true)
      → Out entries origin_of number s → Out entries origin_of number record { words = ws; homes = s.homes; views = set s.views id w }
  out_set s id v w ws at stays out =
      let j = out.1.0 in let u = out.1.1 in
      dite (ℕ_discrete j id)
      (λ same. let u_is : u ≡ v = the_same s.views id j v u at out.1.2 same in
      (out.0, (id, w, here_set s.views id v w at, stays (ap (λ (x : View I O). x.inside) (sym u_is) ∙ out.1.3))))
      (λ ne. (out.0, (j, u, there_set s.views id j w u (λ e. ne (sym e)) out.1.2, out.1.3)))

  -- one view changes, and nothing else
  changed : (s : State T (View I O)) (k : Rule s) (id : ℕ) (v w : View I O) → get_elem? s.views id ≡ some v
      → (ws : List ℕ) → ws ≡ length k.log ∷ k.word ∷ [] → (Fits k.log k.word v → Fits k.log k.word w)
      → ((n : ℕ) → has_times n w ≡ has_times n v) → how_many w ≡ how_many v → (v.inside ≡ true → w.inside ≡ true)
      → Rule record { words = ws; homes = s.homes; views = set s.views id w }
  changed s k id v w at ws ws_are fits same_times same_many stays = record {
    log = k.log;
    word = k.word;
    words_are = ws_are;
    each = each_set (Fits k.log k.word) s.views id w (fits (k.each id v at)) (λ j u ne e. k.each j u e);
    dealt = λ n. let t = total_set (has_times n) s.views id v w at in let d = k.dealt n in let e = same_times n in omega arith;
    whole = (let t = total_set how_many s.views id v w at in let d = k.whole in omega arith);
    named = k.named;
    value = match_map (k.word == 0) _ _ _ _ (λ h. h) (out_set s id v w ws at stays) k.value;
  }

  -- the turn opens
  pub opens : (y : T) → entries y ≡ [] → origin_of y ≡ origin → Rule (opening (0 ∷ 0 ∷ []) (y ∷ []) (opened seats origin))
  opens y empty is = record {
    log = [];
    word = 0;
    words_are = refl;
    each = first;
    dealt = λ n. let t = times-from n seats in omega arith;
    whole = (let t = length-from 0 seats in omega arith);
    named = All-nil (λ x. number x < seats);
    value = (y, refl, empty, is);
  }
    where
      fits : Fits [] 0 (opened seats origin)
      fits = record {
        seen = begins_itself [];
        told = begins_itself [];
        own_seen = λ n h. refl;
        own_told = λ n h. refl;
        inside = λ e. absurd (true≢false (sym e));
        origin_is = λ o e. sym (ap (λ x. unwrap_or x o) e);
        seats_is = λ h. refl;
      }

      first : (j : ℕ) (v : View I O) → get_elem? (opened seats origin ∷ []) j ≡ some v → Fits [] 0 v
      first zero v e = subst (Fits [] 0) (some-injective _ _ e) fits
      first (suc j) v e = absurd (some-ne-none v (sym e))

  -- a view is cut in two, of which the second isn't in the turn
  parts : (s : State T (View I O)) (k : Rule s) (id : ℕ) (v l r : View I O) → get_elem? s.views id ≡ some v
      → (Fits k.log k.word v → Fits k.log k.word l × Fits k.log k.word r)
      → ((n : ℕ) → has_times n l + has_times n r ≡ has_times n v) → how_many l + how_many r ≡ how_many v
      → (v.inside ≡ true → l.inside ≡ true)
      → Rule record { words = s.words; homes = s.homes; views = set s.views id l ++ r ∷ [] }
  parts s k id v l r at fits same_times same_many stays = record {
    log = k.log;
    word = k.word;
    words_are = k.words_are;
    each = λ j u e. ⊎_elim
        (λ was. each_set (Fits k.log k.word) s.views id l (fits (k.each id v at)).0 (λ i x ne d. k.each i x d) j u was)
        (λ (same : r ≡ u). subst (Fits k.log k.word) same (fits (k.each id v at)).1)
        (at_snoc (set s.views id l) r u j e);
    dealt = λ n. let a = total_set (has_times n) s.views id v l at in let b = total_snoc (has_times n) (set s.views id l) r in
        let d = k.dealt n in let e = same_times n in omega arith;
    whole = (let a = total_set how_many s.views id v l at in let b = total_snoc how_many (set s.views id l) r in let d = k.whole in omega arith);
    named = k.named;
    value = match_map (k.word == 0) _ _ _ _ (λ h. h)
        (λ out. let o = out_set s id v l s.words at stays out in
        (o.0, (o.1.0, o.1.1, at_longer (set s.views id l) (r ∷ []) o.1.0 o.1.1 o.1.2, o.1.3)))
        k.value;
  }

  -- split: the last number goes to a new seat
  pub deals : (id : ℕ) (v : View I O) → v.inside ≡ false → v.more ≡ [] → 1 < length v.numbers
      → Splits Rule id v (left v) (right v)
  deals id v outside no_more two s k at =
      let nonempty : 0 < length v.numbers = omega arith in
      let more0 : (n : ℕ) → times n v.more ≡ 0 = λ n. ap (times n) no_more in
      let len0 : length v.more ≡ 0 = ap length no_more in
      parts s k id v (left v) (right v) at
      (λ f. (
        record {
          seen = f.seen;
          told = f.told;
          own_seen = λ n h. f.own_seen n (let t = times_cut n v.numbers nonempty in omega arith);
          own_told = f.own_told;
          origin_is = f.origin_is;
          inside = λ e. absurd (true≢false (sym e ∙ outside));
          seats_is = λ h. f.seats_is nonempty;
        },
        record {
          seen = f.seen;
          told = (k.log, refl);
          own_seen = λ n h. f.own_seen n (let t = times_cut n v.numbers nonempty in omega arith);
          own_told = λ n h. absurd (omega arith);
          inside = λ e. absurd (true≢false (sym e));
          origin_is = f.origin_is;
          seats_is = λ h. f.seats_is nonempty;
        },
      ))
      (λ n. let t = times_cut n v.numbers nonempty in let m = more0 n in omega arith)
      (let t = length_cut v.numbers nonempty in omega arith)
      (λ e. e)

  -- note: a view with the same seen list and no number
  pub notes : (id : ℕ) (v : View I O) → Splits Rule id v v (noted v)
  notes id v s k at =
      parts s k id v v (noted v) at
      (λ f. (
        f,
        record {
          seen = f.seen;
          told = (k.log, refl);
          own_seen = λ n h. absurd (omega arith);
          own_told = λ n h. absurd (omega arith);
          inside = λ e. absurd (true≢false (sym e));
          origin_is = f.origin_is;
          seats_is = λ h. absurd (omega arith);
        },
      ))
      (λ n. omega arith)
      (omega arith)
      (λ e. e)

  -- a load: what was told is taken in
  pub learns : (slots id : ℕ) (v : View I O) (c : List (ℕ × T)) → v.inside ≡ false → 0 < length v.numbers
      → Allows Rule slots id (v, c) 0 (λ n. n) (Learns entries origin_of number any (v, c))
  learns slots id v c outside nonempty s k len at lt =
      let f = k.each id v at in
      let both = longer_begins k.log v.seen v.told f.seen f.told in
      let most : List I = longer v.seen v.told in
      let old = λ (n : ℕ) (h : Has v.numbers n). own_between number n k.log most v.seen both.0 both.1 (f.own_seen n h) in
      let new = λ (n : ℕ) (h : Has v.more n). own_between number n k.log most v.told both.0 both.2 (f.own_told n h) in
      let either_way : (n : ℕ) → Has (v.numbers ++ v.more) n → own number n most ≡ own number n k.log = λ n h.
      dite (dec_le 1 (times n v.numbers)) (λ here. sym (old n here) ∙ f.own_seen n here)
      (λ no. let t = times-append n v.numbers v.more in let here : Has v.more n = omega arith in sym (new n here) ∙ f.own_told n here) in (
        learned v,
        keeps,
        tt,
        changed s k id v (learned v) at _ (ap (λ ws. set ws 0 (slice_index ws 0)) k.words_are)
            (λ _. record {
              seen = both.0;
              told = (k.log, refl);
              own_seen = either_way;
              own_told = λ n h. absurd (omega arith);
              inside = λ e. absurd (true≢false (sym e ∙ outside));
              origin_is = f.origin_is;
              seats_is = λ _. f.seats_is nonempty;
            })
            (λ n. let t = times-append n v.numbers v.more in omega arith)
            (omega (arith, length-append v.numbers v.more))
            (λ e. e),
        (refl, both.1, both.2, old, new),
      )

  -- join: a seat or a note is taken in
  pub takes_in : (id : ℕ) (v : View I O) (other : ℕ) (w : View I O) → v.inside ≡ false → v.more ≡ [] → w.inside ≡ false → w.more ≡ []
      → Joins Rule id v other w (told v w) spent
  takes_in id v other w outside no_more outside' no_more' s k at ne there =
      let was : get_elem? s.views other ≡ some w = ⊎_elim (λ x. absurd (ne x.0)) (λ x. x.1) (at_set s.views id other (told v w) w there) in
      let m : (n : ℕ) → times n v.more ≡ 0 = λ n. ap (times n) no_more in
      let m' : (n : ℕ) → times n w.more ≡ 0 = λ n. ap (times n) no_more' in
      let l : length v.more ≡ 0 = ap length no_more in
      let l' : length w.more ≡ 0 = ap length no_more' in
      let f = k.each id v at in
      let f' = k.each other w was in
      let fits : Fits k.log k.word (told v w) = record {
        seen = f.seen;
        told = f'.seen;
        own_seen = f.own_seen;
        own_told = f'.own_seen;
        inside = λ e. absurd (true≢false (sym e ∙ outside));
        origin_is = f.origin_is;
        seats_is = f.seats_is;
      } in
      let gone : Fits k.log k.word spent = record {
        seen = (k.log, refl);
        told = (k.log, refl);
        own_seen = λ n h. absurd (omega arith);
        own_told = λ n h. absurd (omega arith);
        inside = λ e. absurd (true≢false (sym e));
        origin_is = λ o e. absurd (cc);
        seats_is = λ h. absurd (omega arith);
      } in
      record {
        log = k.log;
        word = k.word;
        words_are = k.words_are;
        each = each_set (Fits k.log k.word) (set s.views id (told v w)) other spent gone
            (λ j u _ e. each_set (Fits k.log k.word) s.views id (told v w) fits (λ i x _ d. k.each i x d) j u e);
        dealt = λ n. let a = total_set (has_times n) s.views id v (told v w) at in
            let b = total_set (has_times n) (set s.views id (told v w)) other w spent there in
            let d = k.dealt n in let x = m n in let y = m' n in omega arith;
        whole = (let a = total_set how_many s.views id v (told v w) at in
            let b = total_set how_many (set s.views id (told v w)) other w spent there in let d = k.whole in omega arith);
        named = k.named;
        value = match_map (k.word == 0) _ _ _ _ (λ h. h)
            (λ out. out_set record { words = s.words; homes = s.homes; views = set s.views id (told v w) } other w spent s.words there
            (λ e. absurd (true≢false (sym e ∙ outside')))
            (out_set s id v (told v w) s.words at (λ e. e) out))
            k.value;
      }

  at_home : (s : State T (View I O)) (k : Rule s) → k.word ≡ 0 → AtHome entries origin_of number origin k.log s
  at_home s k z = subst (λ b. MatchBool b (AtHome entries origin_of number origin k.log s) (Out entries origin_of number s)) (eq-eqb k.word 0 z) k.value

  taken : (s : State T (View I O)) (k : Rule s) → k.word ≢ 0 → Out entries origin_of number s
  taken s k ne = subst (λ b. MatchBool b (AtHome entries origin_of number origin k.log s) (Out entries origin_of number s)) (ne_eqb k.word 0 ne) k.value

  not_in : (s : State T (View I O)) (id j : ℕ) (v u : View I O) → get_elem? s.views id ≡ some v → get_elem? s.views j ≡ some u
      → v.inside ≡ false → u.inside ≡ true → id ≢ j
  not_in s id j v u at there outside inside same =
      true≢false (sym inside ∙ ap (λ (x : View I O). x.inside) (the_same s.views id j v u at there (sym same)) ∙ outside)

  -- a compare-exchange of the turn's word
  pub tries : (slots id : ℕ) (v : View I O) → v.inside ≡ false → v.more ≡ [] → Has v.numbers (first_of v.numbers) → v.origin ≡ Some origin
      → Allows Rule slots id (v, []) 1 (λ n. either (n == 0) (first_of v.numbers + 1) n) (Tries entries origin_of number any (v, []))
  tries slots id v outside no_more has is s k len at lt =
      let first = first_of v.numbers in
      let f = k.each id v at in
      let n_is : slice_index s.words 1 ≡ k.word = ap (λ ws. slice_index ws 1) k.words_are in
      let Q : Bool → ℕ → Type 0 = λ b n. (w : View I O) × (a : Act T) × Valid s.homes [] a
      × Rule (stepped s 1 (either b (first + 1) n) id [] w a)
      × MatchBool b (Wins entries origin_of number (v, []) (w, carried_after [] a)) (Loses entries origin_of number (v, []) n (w, carried_after [] a)) in
      let free : k.word ≡ 0 → Q true 0 = λ z.
      let home = at_home s k z in
      let y = home.0 in
      let w : View I O = record v { seen = entries y; inside = true; words = v.words ++ 0 ∷ [] } in (
        w,
        takes 0 y,
        ap (λ hs. get_elem? hs 0) home.1,
        record {
          log = k.log;
          word = first + 1;
          words_are = ap (λ ws. set ws 1 (first + 1)) k.words_are;
          each = each_set (Fits k.log (first + 1)) s.views id w
              record {
                seen = ([], sym home.2 ∙ sym (append-nil (entries y)));
                told = f.told;
                own_seen = λ n h. ap (own number n) home.2;
                own_told = f.own_told;
                inside = λ _. (refl, has, home.2);
                origin_is = f.origin_is;
                seats_is = f.seats_is;
              }
              (λ j u ne e. let g = k.each j u e in record {
                seen = g.seen;
                told = g.told;
                own_seen = g.own_seen;
                own_told = g.own_told;
                inside = λ i. absurd (let x = (g.inside i).0 in omega arith);
                origin_is = g.origin_is;
                seats_is = g.seats_is;
              });
          dealt = λ n. let t = total_set (has_times n) s.views id v w at in let d = k.dealt n in omega arith;
          whole = (let t = total_set how_many s.views id v w at in let d = k.whole in omega arith);
          named = k.named;
          value = (let after = stepped s 1 (first + 1) id [] w (takes 0 y) in
              subst (λ b. MatchBool b (AtHome entries origin_of number origin k.log after) (Out entries origin_of number after))
              (sym (one_more first)) (ap (λ hs. set hs 0 none) home.1, (id, w, here_set s.views id v w at, refl)));
        },
        (
          y,
          refl,
          is ∙ ap Some (sym home.3),
          refl,
          (f.seen.0, home.2 ∙ f.seen.1),
          λ n h. f.own_seen n h ∙ ap (own number n) (sym home.2),
        ),
      ) in
      let lost : k.word ≢ 0 → Q false k.word = λ ne.
      let out = taken s k ne in
      let j = out.1.0 in let u = out.1.1 in let g = k.each j u out.1.2 in let there = g.inside out.1.3 in
      let other = not_in s id j v u at out.1.2 outside out.1.3 in
      let w : View I O = record v { words = v.words ++ k.word ∷ [] } in (
        w,
        keeps,
        tt,
        changed s k id v w at _ (ap (λ ws. set ws 1 k.word) k.words_are)
            (λ _. record {
              seen = f.seen;
              told = f.told;
              own_seen = f.own_seen;
              own_told = f.own_told;
              inside = f.inside;
              origin_is = f.origin_is;
              seats_is = f.seats_is;
            })
            (λ n. refl) refl (λ e. e),
        (
          refl,
          (λ e. apart s k id j v u other at out.1.2 first (omega arith)
              (let same : first_of u.numbers ≡ first = (let x = there.0 in omega arith) in
              let h = subst (λ m. Has u.numbers m) same there.1 in omega arith)),
          (λ e. let two = total_two how_many s.views id j v u other at out.1.2 in let all = k.whole in
              let mine = f.seats_is (has_length first v.numbers has) in
              let theirs = has_length (first_of u.numbers) u.numbers there.1 in omega arith),
        ),
      ) in
      subst (λ n. Q (n == 0) n) (sym n_is)
      (dite (ℕ_discrete k.word 0) (λ z. subst (λ n. Q (n == 0) n) (sym z) (free z)) (λ ne. subst (λ b. Q b k.word) (sym (ne_eqb k.word 0 ne)) (lost ne)))

  -- where one view is in the turn, no other is
  alone : (s : State T (View I O)) (k : Rule s) (id j : ℕ) (v u : View I O) → j ≢ id → get_elem? s.views id ≡ some v → get_elem? s.views j ≡ some u
      → v.inside ≡ true → u.inside ≡ true → ⊥
  alone s k id j v u ne at there inside inside' =
      let a = (k.each id v at).inside inside in
      let b = (k.each j u there).inside inside' in
      let same : first_of u.numbers ≡ first_of v.numbers = (let x = a.0 in let y = b.0 in omega arith) in
      let has : Has u.numbers (first_of v.numbers) = subst (λ m. Has u.numbers m) same b.1 in
      let mine : Has v.numbers (first_of v.numbers) = a.1 in
      apart s k id j v u (λ e. ne (sym e)) at there (first_of v.numbers) (omega arith) (omega arith)

  -- the entry in hand joins the list
  pub counts : (slots id : ℕ) (v : View I O) (y : T) (x : I) → v.inside ≡ true → v.more ≡ []
      → entries y ≡ v.seen ++ x ∷ [] → number x ≡ first_of v.numbers → length (entries y) < 18446744073709551616
      → Allows Rule slots id (v, (0, y) ∷ []) 0 (λ n. (n + 1) % 2 ^ 64) (Counts entries origin_of number any (v, (0, y) ∷ []))
  counts slots id v y x inside no_more grown names fits s k len at lt =
      let f = k.each id v at in
      let there = f.inside inside in
      let log_is : entries y ≡ k.log ++ x ∷ [] = grown ∙ ap (λ l. l ++ x ∷ []) there.2 in
      let n_is : slice_index s.words 0 ≡ length k.log = ap (λ ws. slice_index ws 0) k.words_are in
      let more : length (entries y) ≡ length k.log + 1 = ap length log_is ∙ length-append k.log (x ∷ []) in
      let sum : (length k.log + 1) % 2 ^ 64 ≡ length (entries y) =
      ap (λ n. n % 2 ^ 64) (sym more) ∙ mod-eq_of_lt fits in
      let w : View I O = record v { seen = entries y } in
      let mine : Has v.numbers (number x) = subst (λ m. Has v.numbers m) (sym names) there.1 in
      let below : number x < seats = some_below (number x) seats
      (let one = total_one (has_times (number x)) s.views id v at in let d = k.dealt (number x) in omega arith) in
      let P : I → Type 0 = λ z. number z < seats in
      let busy : k.word ≢ 0 = λ z. (let e = there.0 in omega arith) in
      let ws : List ℕ = set s.words 0 ((slice_index s.words 0 + 1) % 2 ^ 64) in
      let after : State T (View I O) = record { words = ws; homes = s.homes; views = set s.views id w } in (
        w,
        keeps,
        tt,
        record {
          log = entries y;
          word = k.word;
          words_are = ap (λ l. set l 0 ((slice_index l 0 + 1) % 2 ^ 64)) k.words_are ∙ ap (λ (m : ℕ). m ∷ k.word ∷ []) sum;
          each = each_set (Fits (entries y) k.word) s.views id w
              record {
                seen = begins_itself (entries y);
                told = subst (λ l. BeginsWith l v.told) (sym log_is) (begins_more k.log v.told (x ∷ []) f.told);
                own_seen = λ n h. refl;
                own_told = λ n h. absurd (let z : times n v.more ≡ 0 = ap (times n) no_more in omega arith);
                inside = λ _. (there.0, there.1, refl);
                origin_is = f.origin_is;
                seats_is = f.seats_is;
              }
              (λ j u ne e. let g = k.each j u e in
              let others : (n : ℕ) → 0 < has_times n u → own number n (entries y) ≡ own number n k.log = λ n h.
              ap (own number n) log_is ∙ own_else number n k.log x
              (λ same. apart s k id j v u (λ i. ne (sym i)) at e n (let m = subst (λ (i : ℕ). Has v.numbers i) same mine in omega arith) h) in
              record {
                seen = subst (λ l. BeginsWith l u.seen) (sym log_is) (begins_more k.log u.seen (x ∷ []) g.seen);
                told = subst (λ l. BeginsWith l u.told) (sym log_is) (begins_more k.log u.told (x ∷ []) g.told);
                own_seen = λ n h. g.own_seen n h ∙ sym (others n (omega arith));
                own_told = λ n h. g.own_told n h ∙ sym (others n (omega arith));
                inside = λ i. absurd (alone s k id j v u ne at e inside i);
                origin_is = g.origin_is;
                seats_is = g.seats_is;
              });
          dealt = λ n. let t = total_set (has_times n) s.views id v w at in let d = k.dealt n in omega arith;
          whole = (let t = total_set how_many s.views id v w at in let d = k.whole in omega arith);
          named = subst (All P) (sym log_is) (All-append P k.log (x ∷ []) k.named (All-cons P x [] below (All-nil P)));
          value = subst (λ b. MatchBool b (AtHome entries origin_of number origin (entries y) after) (Out entries origin_of number after))
              (sym (ne_eqb k.word 0 busy)) (out_set s id v w ws at (λ e. e) (taken s k busy));
        },
        refl,
      )

  -- the value goes home
  pub frees : (slots id : ℕ) (v : View I O) (y : T) → v.inside ≡ true → entries y ≡ v.seen → origin_of y ≡ origin
      → Allows Rule slots id (v, (0, y) ∷ []) 1 (λ _. 0) (Frees entries origin_of number any (v, (0, y) ∷ []))
  frees slots id v y inside is origin_is' s k len at lt =
      let f = k.each id v at in
      let there = f.inside inside in
      let busy : k.word ≢ 0 = λ z. (let e = there.0 in omega arith) in
      let w : View I O = record v { inside = false } in (
        w,
        gives,
        tt,
        record {
          log = k.log;
          word = 0;
          words_are = ap (λ ws. set ws 1 0) k.words_are;
          each = each_set (Fits k.log 0) s.views id w
              record {
                seen = f.seen;
                told = f.told;
                own_seen = f.own_seen;
                own_told = f.own_told;
                inside = λ e. absurd (true≢false (sym e));
                origin_is = f.origin_is;
                seats_is = f.seats_is;
              }
              (λ j u ne e. let g = k.each j u e in record {
                seen = g.seen;
                told = g.told;
                own_seen = g.own_seen;
                own_told = g.own_told;
                inside = λ i. absurd (alone s k id j v u ne at e inside i);
                origin_is = g.origin_is;
                seats_is = g.seats_is;
              });
          dealt = λ n. let t = total_set (has_times n) s.views id v w at in let d = k.dealt n in omega arith;
          whole = (let t = total_set how_many s.views id v w at in let d = k.whole in omega arith);
          named = k.named;
          value = (y, ap (λ hs. set hs 0 (some y)) (taken s k busy).0, is ∙ there.2, origin_is');
        },
        refl,
      )

  -- the same two, at what a place has in hand
  pub counts_at : (slots id : ℕ) (me : Me T (View I O)) (y : T) (x : I) → me.1 ≡ (0, y) ∷ [] → me.0.inside ≡ true → me.0.more ≡ []
      → entries y ≡ me.0.seen ++ x ∷ [] → number x ≡ first_of me.0.numbers → length (entries y) < 18446744073709551616
      → Allows Rule slots id me 0 (λ n. (n + 1) % 2 ^ 64) (Counts entries origin_of number any me)
  counts_at slots id me y x has inside no_more grown names fits =
      subst (λ (c : List (ℕ × T)). Allows Rule slots id (me.0, c) 0 (λ n. (n + 1) % 2 ^ 64) (Counts entries origin_of number any (me.0, c))) (sym has)
      (counts slots id me.0 y x inside no_more grown names fits)

  pub frees_at : (slots id : ℕ) (me : Me T (View I O)) (y : T) → me.1 ≡ (0, y) ∷ [] → me.0.inside ≡ true → entries y ≡ me.0.seen → origin_of y ≡ origin
      → Allows Rule slots id me 1 (λ _. 0) (Frees entries origin_of number any me)
  frees_at slots id me y has inside is origin_is' =
      subst (λ (c : List (ℕ × T)). Allows Rule slots id (me.0, c) 1 (λ _. 0) (Frees entries origin_of number any (me.0, c))) (sym has)
      (frees slots id me.0 y inside is origin_is')

  -- what the end shows to a view that has all numbers
  pub closes : (words : List ℕ) (xs : List T) (id : ℕ) (v : View I O) → v.inside ≡ false → v.more ≡ [] → length v.numbers ≡ seats
      → Final (Seen Rule id v) words xs
      → (y : T) × (get_elem? xs 0 ≡ some y) × (origin_of y ≡ origin) × BeginsWith (entries y) v.seen
      × ((n : ℕ) → Has v.numbers n → own number n v.seen ≡ own number n (entries y))
      × ((n : ℕ) → n < seats → Has v.numbers n) × All (λ x. number x < seats) (entries y)
  closes words xs id v outside no_more all end =
      let s = end.0 in let k = end.1.0 in let at = end.1.1 in
      let f = k.each id v at in
      let no_more' : length v.more ≡ 0 = ap length no_more in
      let z : k.word ≡ 0 = dite (ℕ_discrete k.word 0) (λ e. e) (λ ne.
      let out = taken s k ne in
      let j = out.1.0 in let u = out.1.1 in
      let there = (k.each j u out.1.2).inside out.1.3 in
      let two = total_two how_many s.views id j v u (not_in s id j v u at out.1.2 outside out.1.3) at out.1.2 in
      let w = k.whole in let theirs = has_length (first_of u.numbers) u.numbers there.1 in absurd (omega arith)) in
      let home = at_home s k z in
      let y = home.0 in
      let none : (n : ℕ) (u : View I O) → how_many u ≡ 0 → has_times n u ≡ 0 = λ n u e.
      no_times n u.numbers u.more (omega arith) (omega arith) in (
        y,
        end.4 0 y (ap (λ hs. get_elem? hs 0) home.1),
        home.3,
        (f.seen.0, home.2 ∙ f.seen.1),
        (λ n h. f.own_seen n h ∙ ap (own number n) (sym home.2)),
        (λ n h.
            let same = total_alone (has_times n) how_many (none n) s.views id v at (let w = k.whole in omega arith) in
            let d = k.dealt n in
            let o : once_below n seats ≡ 1 = is_below n seats h in
            let m : times n v.more ≡ 0 = ap (times n) no_more in omega arith),
        subst (All (λ x. number x < seats)) (sym home.2) k.named,
      )
