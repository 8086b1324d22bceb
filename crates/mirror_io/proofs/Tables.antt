-- What a table has after a change of it.
use Rattle.std.proofs.Common.{◌≡◌, ◌≢◌, ℕ, zero, suc, ◌+◌, ◌<◌, List, [], ◌∷◌, ◌++◌, Option, Some, None, length, get_or, set, refl, sym, ap, ◌∙◌, arith, is_some, true, IsSome, cond}
use Rattle.std.proofs.Common.{length-append}
use Rattle.std.proofs.lemmas.List.Edits.{length-remove}
use Rattle.slab.proofs.SlabLemmas.{Updates-with_value, ContainsKey-within}
use Rattle.std.proofs.lemmas.List.Sums.{sum_by-set}
use Rattle.std.specs.Prelude.{remove}
use Rattle.slab.specs.Slab.{Slab, get, ContainsKey, with_value, Updates, slab_len}
use Rattle.mirror_io.specs.Table.{with_first, values_at, HasNot, AreKeys, IsTable}

HasNot-push : (key new : ℕ) (keys : List ℕ) → HasNot key keys → new ≢ key → HasNot key (keys ++ new ∷ [])
HasNot-push key new [] not ne = (ne, tt)
HasNot-push key new (k ∷ keys) not ne = (not.0, HasNot-push key new keys not.1 ne)

HasNot-remove : (key : ℕ) (keys : List ℕ) (i : ℕ) → HasNot key keys → HasNot key (remove keys i)
HasNot-remove key [] zero not = tt
HasNot-remove key [] (suc i) not = tt
HasNot-remove key (k ∷ keys) zero not = not.1
HasNot-remove key (k ∷ keys) (suc i) not = (not.0, HasNot-remove key keys i not.1)

HasNot-at : (key : ℕ) (keys : List ℕ) (i : ℕ) → HasNot key keys → i < length keys → key ≢ get_or keys i 0
HasNot-at key [] i not lt = absurd (omega arith)
HasNot-at key (k ∷ keys) zero not lt = λ same. not.0 (sym same)
HasNot-at key (k ∷ keys) (suc i) not lt = HasNot-at key keys i not.1 (omega arith)

module _ {T : Type 0} where
  length-with_first : (o : Option T) (xs : List T) → IsSome o → length (with_first o xs) ≡ suc (length xs)
  length-with_first None xs some = cc
  length-with_first (Some x) xs some = refl

  pub length-values_at : (s : Slab T) (keys : List ℕ) → AreKeys s keys → length (values_at s keys) ≡ length keys
  length-values_at s [] are = refl
  length-values_at s (key ∷ keys) are = length-with_first (get s key) (values_at s keys) are.0 ∙ ap suc (length-values_at s keys are.2)

  -- each place has a key with a value
  pub key_at : (s : Slab T) (keys : List ℕ) (i : ℕ) → AreKeys s keys → i < length keys → ContainsKey s (get_or keys i 0)
  key_at s [] i are lt = absurd (omega arith)
  key_at s (key ∷ keys) zero are lt = are.0
  key_at s (key ∷ keys) (suc i) are lt = key_at s keys i are.2 (omega arith)

  -- that value stands at the place
  pub value_at : (s : Slab T) (keys : List ℕ) (i : ℕ) (v : T) → AreKeys s keys → i < length keys → get s (get_or keys i 0) ≡ Some v → get_or (values_at s keys) i v ≡ v
  value_at s [] i v are lt is = absurd (omega arith)
  value_at s (key ∷ keys) zero v are lt is = ap (λ o. get_or (with_first o (values_at s keys)) 0 v) is
  value_at s (key ∷ keys) (suc i) v are lt is = past (get s key) (values_at s keys) are.0 ∙ value_at s keys i v are.2 (omega arith) is
    where
      past : (o : Option T) (xs : List T) → IsSome o → get_or (with_first o xs) (suc i) v ≡ get_or xs i v
      past None xs some = absurd (cc)
      past (Some x) xs some = refl

  -- a change under a key that is not one of these
  pub values_at-other : (s new : Slab T) (key : ℕ) (slot : Option T) (keys : List ℕ) → Updates s new key slot → HasNot key keys → values_at new keys ≡ values_at s keys
  values_at-other s new key slot [] updates not = refl
  values_at-other s new key slot (k ∷ keys) updates not = rw (updates.others k not.0, values_at-other s new key slot keys updates not.1)

  pub AreKeys-other : (s new : Slab T) (key : ℕ) (slot : Option T) (keys : List ℕ) → Updates s new key slot → HasNot key keys → AreKeys s keys → AreKeys new keys
  AreKeys-other s new key slot [] updates not are = tt
  AreKeys-other s new key slot (k ∷ keys) updates not are = (ap is_some (updates.others k not.0) ∙ are.0, are.1, AreKeys-other s new key slot keys updates not.1 are.2)

  -- a key with no value is not one of these
  pub HasNot-vacant : (s : Slab T) (key : ℕ) (keys : List ℕ) → get s key ≡ None → AreKeys s keys → HasNot key keys
  HasNot-vacant s key [] none are = tt
  HasNot-vacant s key (k ∷ keys) none are = (λ same. let no : is_some (get s key) ≡ true = ap (λ j. is_some (get s j)) (sym same) ∙ are.0 in cc, HasNot-vacant s key keys none are.2)

  with_first-append : (o : Option T) (xs ys : List T) → with_first o (xs ++ ys) ≡ with_first o xs ++ ys
  with_first-append None xs ys = refl
  with_first-append (Some x) xs ys = refl

  values_at-append : (s : Slab T) (keys more : List ℕ) → values_at s (keys ++ more) ≡ values_at s keys ++ values_at s more
  values_at-append s [] more = refl
  values_at-append s (key ∷ keys) more = ap (with_first (get s key)) (values_at-append s keys more) ∙ with_first-append (get s key) (values_at s keys) (values_at s more)

  set-first : (o : Option T) (xs : List T) (v : T) → IsSome o → v ∷ xs ≡ set (with_first o xs) 0 v
  set-first None xs v some = absurd (cc)
  set-first (Some x) xs v some = refl

  set-later : (o : Option T) (xs : List T) (i : ℕ) (v : T) → IsSome o → with_first o (set xs i v) ≡ set (with_first o xs) (suc i) v
  set-later None xs i v some = absurd (cc)
  set-later (Some x) xs i v some = refl

  remove-first : (o : Option T) (xs : List T) → IsSome o → xs ≡ remove (with_first o xs) 0
  remove-first None xs some = absurd (cc)
  remove-first (Some x) xs some = refl

  remove-later : (o : Option T) (xs : List T) (i : ℕ) → IsSome o → with_first o (remove xs i) ≡ remove (with_first o xs) (suc i)
  remove-later None xs i some = absurd (cc)
  remove-later (Some x) xs i some = refl

  -- one value more
  pub values_at-push : (s new : Slab T) (key : ℕ) (v : T) (keys : List ℕ) → Updates s new key (Some v) → get s key ≡ None → AreKeys s keys → values_at new (keys ++ key ∷ []) ≡ values_at s keys ++ v ∷ []
  values_at-push s new key v keys updates none are =
      let last : values_at new (key ∷ []) ≡ v ∷ [] = ap (λ o. with_first o []) updates.changed in
      values_at-append new keys (key ∷ []) ∙ ap (λ xs. xs ++ values_at new (key ∷ [])) (values_at-other s new key (Some v) keys updates (HasNot-vacant s key keys none are)) ∙ ap (λ xs. values_at s keys ++ xs) last

  pub AreKeys-push : (s new : Slab T) (key : ℕ) (v : T) (keys : List ℕ) → Updates s new key (Some v) → get s key ≡ None → AreKeys s keys → AreKeys new (keys ++ key ∷ [])
  AreKeys-push s new key v [] updates none are = (ap is_some updates.changed, tt, tt)
  AreKeys-push s new key v (k ∷ keys) updates none are =
      let not = HasNot-vacant s key (k ∷ keys) none are in
      (ap is_some (updates.others k not.0) ∙ are.0, HasNot-push k key keys are.1 (λ same. not.0 (sym same)), AreKeys-push s new key v keys updates none are.2)

  -- another value at a place
  pub values_at-change : (s new : Slab T) (keys : List ℕ) (i : ℕ) (v : T) → AreKeys s keys → i < length keys → Updates s new (get_or keys i 0) (Some v) → values_at new keys ≡ set (values_at s keys) i v
  values_at-change s new [] i v are lt updates = absurd (omega arith)
  values_at-change s new (key ∷ keys) zero v are lt updates = rw (updates.changed, values_at-other s new key (Some v) keys updates are.1) (set-first (get s key) (values_at s keys) v are.0)
  values_at-change s new (key ∷ keys) (suc i) v are lt updates =
      rw (updates.others key (HasNot-at key keys i are.1 (omega arith)), values_at-change s new keys i v are.2 (omega arith) updates) (set-later (get s key) (values_at s keys) i v are.0)

  pub AreKeys-change : (s new : Slab T) (keys : List ℕ) (i : ℕ) (v : T) → AreKeys s keys → i < length keys → Updates s new (get_or keys i 0) (Some v) → AreKeys new keys
  AreKeys-change s new [] i v are lt updates = absurd (omega arith)
  AreKeys-change s new (key ∷ keys) zero v are lt updates = (ap is_some updates.changed, are.1, AreKeys-other s new key (Some v) keys updates are.1 are.2)
  AreKeys-change s new (key ∷ keys) (suc i) v are lt updates =
      (ap is_some (updates.others key (HasNot-at key keys i are.1 (omega arith))) ∙ are.0, are.1, AreKeys-change s new keys i v are.2 (omega arith) updates)

  -- a place less
  pub values_at-remove : (s new : Slab T) (keys : List ℕ) (i : ℕ) → AreKeys s keys → i < length keys → Updates s new (get_or keys i 0) None → values_at new (remove keys i) ≡ remove (values_at s keys) i
  values_at-remove s new [] i are lt updates = absurd (omega arith)
  values_at-remove s new (key ∷ keys) zero are lt updates = values_at-other s new key None keys updates are.1 ∙ remove-first (get s key) (values_at s keys) are.0
  values_at-remove s new (key ∷ keys) (suc i) are lt updates =
      rw (updates.others key (HasNot-at key keys i are.1 (omega arith)), values_at-remove s new keys i are.2 (omega arith) updates) (remove-later (get s key) (values_at s keys) i are.0)

  pub AreKeys-remove : (s new : Slab T) (keys : List ℕ) (i : ℕ) → AreKeys s keys → i < length keys → Updates s new (get_or keys i 0) None → AreKeys new (remove keys i)
  AreKeys-remove s new [] i are lt updates = absurd (omega arith)
  AreKeys-remove s new (key ∷ keys) zero are lt updates = AreKeys-other s new key None keys updates are.1 are.2
  AreKeys-remove s new (key ∷ keys) (suc i) are lt updates =
      (ap is_some (updates.others key (HasNot-at key keys i are.1 (omega arith))) ∙ are.0, HasNot-remove key keys i are.1, AreKeys-remove s new keys i are.2 (omega arith) updates)

  pub length-table : (s : Slab T) (keys : List ℕ) (xs : List T) → IsTable s keys → values_at s keys ≡ xs → length keys ≡ length xs
  length-table s keys xs is view = sym (length-values_at s keys is.are_keys) ∙ ap length view

  pub IsTable-push : (s new : Slab T) (key : ℕ) (v : T) (keys later : List ℕ) → IsTable s keys → length keys < 16 → get s key ≡ None → Updates s new key (Some v) → slab_len new ≡ slab_len s + 1 → new.capacity ≡ s.capacity
      → later ≡ keys ++ key ∷ [] → IsTable new later
  IsTable-push s new key v keys later is lt none updates len capacity e = rw e record {
    are_keys = AreKeys-push s new key v keys updates none is.are_keys;
    all = omega (arith, is.all, length-append keys (key ∷ []));
    most = omega (arith, length-append keys (key ∷ []));
    room = omega (arith, is.room);
  }

  slab_len-with_value : (s : Slab T) (key : ℕ) (v : T) → ContainsKey s key → slab_len (with_value s key v) ≡ slab_len s
  slab_len-with_value s key v has =
      let e = sum_by-set (λ (o : Option T). cond {A = ℕ} (is_some o) 1 0) s.slots key (Some v) None (ContainsKey-within s key has) in
      let one : cond {A = ℕ} (is_some (get s key)) 1 0 ≡ 1 = ap (λ b. cond {A = ℕ} b 1 0) has in
      omega (arith, e, one)

  -- a write through a reference to the value at a place
  pub IsTable-change : (s : Slab T) (keys : List ℕ) (i : ℕ) (v : T) → IsTable s keys → i < length keys → IsTable (with_value s (get_or keys i 0) v) keys
  IsTable-change s keys i v is lt =
      let key : ℕ = get_or keys i 0 in
      let has : ContainsKey s key = key_at s keys i is.are_keys lt in
      record {
        are_keys = AreKeys-change s (with_value s key v) keys i v is.are_keys lt (Updates-with_value s key v has);
        all = slab_len-with_value s key v has ∙ is.all;
        most = is.most;
        room = is.room;
      }

  pub values_at-with_value : (s : Slab T) (keys : List ℕ) (i : ℕ) (v : T) → IsTable s keys → i < length keys → values_at (with_value s (get_or keys i 0) v) keys ≡ set (values_at s keys) i v
  values_at-with_value s keys i v is lt = values_at-change s _ keys i v is.are_keys lt (Updates-with_value s (get_or keys i 0) v (key_at s keys i is.are_keys lt))

  pub IsTable-remove : (s new : Slab T) (keys later : List ℕ) (i : ℕ) → IsTable s keys → i < length keys → Updates s new (get_or keys i 0) None → slab_len new + 1 ≡ slab_len s → new.capacity ≡ s.capacity
      → later ≡ remove keys i → IsTable new later
  IsTable-remove s new keys later i is lt updates len capacity e = rw e record {
    are_keys = AreKeys-remove s new keys i is.are_keys lt updates;
    all = omega (arith, is.all, length-remove keys i lt);
    most = omega (arith, is.most, length-remove keys i lt);
    room = omega (arith, is.room);
  }
