-- Words of which one begins with `-` are no command.
use Rattle.std.proofs.Common.{◌≡◌, ◌⊎◌, inl, inr, ℕ, ◌==◌, Bool, true, false, not, ◌&&◌, List, [], ◌∷◌, length, Option, Some, None, refl, sym, ap, subst, codes}
use Rattle.std.specs.Prelude.{if◌then◌else◌}
use Rattle.std.specs.List.{list_all}
use Rattle.std.specs.Str.{bytes_eq}
use Rattle.std.proofs.lemmas.Bool.{eqb-true, false≢true}
use Rattle.script_text.specs.Numbers.{number_of, byte_of, hex_bytes}
use Rattle.script_text.specs.Steps.{◌>>=◌, guarded}
use Rattle.command_words.specs.Arrays.{sizes_of, uuid_of}
use Rattle.command_words.specs.Commands.{CommandValue, alone_of, created_of, create_of, show_of, play_of, upgrade_of, command_with}
use Rattle.command_words.specs.Commands.CommandValue.{Locks, Wire}
use Rattle.command_words.specs.Grammar.{is_plain}
use Rattle.command_words.specs.Names.{name_of}

-- Steps of which one comes to nothing.

none_first : {A B : Type 0} (x : Option A) (f : A → Option B) → x ≡ None → (x >>= f) ≡ None
none_first x f none = ap (λ o. o >>= f) none

none_then : {A B : Type 0} (x : Option A) (f : A → Option B) → ((a : A) → f a ≡ None) → (x >>= f) ≡ None
none_then None f none = refl
none_then (Some a) f none = none a

none_if : {A : Type 0} (b : Bool) (x y : Option A) → x ≡ None → y ≡ None → (if b then x else y) ≡ None
none_if true x y e g = e
none_if false x y e g = g

-- The words that begin with `-` (45).

is_dash : (b : ℕ) → not (b == 45) ≡ false → b ≡ 45
is_dash b e = eqb-true b 45 (go (b == 45) e)
  where
    go : (t : Bool) → not t ≡ false → t ≡ true
    go true e = refl
    go false e = cc

of_dashed : (P : List ℕ → Type 0) → ((rest : List ℕ) → P (45 ∷ rest)) → (word : List ℕ) → is_plain word ≡ false → P word
of_dashed P h [] e = cc
of_dashed P h (b ∷ rest) e = subst (λ x. P (x ∷ rest)) (sym (is_dash b e)) (h rest)

and_false : (b : Bool) → (b && false) ≡ false
and_false true = refl
and_false false = refl

no_name : (word : List ℕ) → is_plain word ≡ false → name_of word ≡ None
no_name = of_dashed (λ word. name_of word ≡ None) (λ rest. ap (λ b. guarded b (45 ∷ rest)) (and_false _))

no_number : (word : List ℕ) → is_plain word ≡ false → number_of word ≡ None
no_number = of_dashed (λ word. number_of word ≡ None) go
  where
    go : (rest : List ℕ) → number_of (45 ∷ rest) ≡ None
    go [] = refl
    go (e ∷ rest) = refl

no_byte : (word : List ℕ) → is_plain word ≡ false → byte_of word ≡ None
no_byte word e = none_first (number_of word) _ (no_number word e)

no_uuid : (word : List ℕ) → is_plain word ≡ false → uuid_of word ≡ None
no_uuid = of_dashed (λ word. uuid_of word ≡ None) (λ rest. none_if (length (45 ∷ rest) == 32) _ None (go rest) refl)
  where
    go : (rest : List ℕ) → hex_bytes (45 ∷ rest) ≡ None
    go [] = refl
    go (e ∷ rest) = refl

-- The commands.

split : (a : List ℕ) (rest : List (List ℕ)) → list_all is_plain (a ∷ rest) ≡ false → (is_plain a ≡ false) ⊎ (list_all is_plain rest ≡ false)
split a rest e = go (is_plain a) refl
  where
    go : (b : Bool) → is_plain a ≡ b → (is_plain a ≡ false) ⊎ (list_all is_plain rest ≡ false)
    go true is = inr (rw is at e)
    go false is = inl is

no_sizes_legs : (second : Bool) (l s r c : List ℕ) → is_plain l ≡ false → sizes_of second l s r c ≡ None
no_sizes_legs second l s r c e = none_first (byte_of l) _ (no_byte l e)

no_sizes_sectors : (second : Bool) (l s r c : List ℕ) → is_plain s ≡ false → sizes_of second l s r c ≡ None
no_sizes_sectors second l s r c e = none_then (byte_of l) _ (λ _. none_first (number_of s) _ (no_number s e))

no_sizes_room : (second : Bool) (l s r c : List ℕ) → is_plain r ≡ false → sizes_of second l s r c ≡ None
no_sizes_room second l s r c e = none_then (byte_of l) _ (λ _. none_then (number_of s) _ (λ _. none_first (number_of r) _ (no_number r e)))

no_sizes_chunk : (second : Bool) (l s r c : List ℕ) → is_plain c ≡ false → sizes_of second l s r c ≡ None
no_sizes_chunk second l s r c e =
    none_then (byte_of l) _ (λ _. none_then (number_of s) _ (λ _. none_then (number_of r) _ (λ _. none_first (number_of c) _ (no_number c e))))

created_sizes : (second : Bool) (n l s r c u : List ℕ) → sizes_of second l s r c ≡ None → created_of second n l s r c u ≡ None
created_sizes second n l s r c u e = none_then (name_of n) _ (λ _. none_first (sizes_of second l s r c) _ e)

created_none : (second : Bool) (n l s c u r : List ℕ) → list_all is_plain (n ∷ l ∷ s ∷ c ∷ u ∷ r ∷ []) ≡ false → created_of second n l s r c u ≡ None
created_none second n l s c u r e = elim (split n (l ∷ s ∷ c ∷ u ∷ r ∷ []) e) [
  | inl x ↦ none_first (name_of n) _ (no_name n x)
  | inr e₁ ↦ elim (split l (s ∷ c ∷ u ∷ r ∷ []) e₁) [
    | inl x ↦ created_sizes second n l s r c u (no_sizes_legs second l s r c x)
    | inr e₂ ↦ elim (split s (c ∷ u ∷ r ∷ []) e₂) [
      | inl x ↦ created_sizes second n l s r c u (no_sizes_sectors second l s r c x)
      | inr e₃ ↦ elim (split c (u ∷ r ∷ []) e₃) [
        | inl x ↦ created_sizes second n l s r c u (no_sizes_chunk second l s r c x)
        | inr e₄ ↦ elim (split u (r ∷ []) e₄) [
          | inl x ↦ none_then (name_of n) _ (λ _. none_then (sizes_of second l s r c) _ (λ _. none_first (uuid_of u) _ (no_uuid u x)))
          | inr e₅ ↦ elim (split r [] e₅) [
            | inl x ↦ created_sizes second n l s r c u (no_sizes_room second l s r c x)
            | inr e₆ ↦ absurd (false≢true (sym e₆))
          ]
        ]
      ]
    ]
  ]
]

-- without the room, which is the size
all_six : (n l s c u : List ℕ) → list_all is_plain (n ∷ l ∷ s ∷ c ∷ u ∷ []) ≡ false → list_all is_plain (n ∷ l ∷ s ∷ c ∷ u ∷ s ∷ []) ≡ false
all_six n l s c u e = go (is_plain n) (is_plain l) (is_plain s) (is_plain c) (is_plain u) e
  where
    go : (a b c d e : Bool) → (a && (b && (c && (d && (e && true))))) ≡ false → (a && (b && (c && (d && (e && (c && true)))))) ≡ false
    go false b c d e h = refl
    go true false c d e h = refl
    go true true false d e h = refl
    go true true true false e h = refl
    go true true true true false h = refl
    go true true true true true h = h

create_none : (second : Bool) (args : List (List ℕ)) → list_all is_plain args ≡ false → create_of second args ≡ None
create_none second [] e = refl
create_none second (n ∷ []) e = refl
create_none second (n ∷ l ∷ []) e = refl
create_none second (n ∷ l ∷ s ∷ []) e = refl
create_none second (n ∷ l ∷ s ∷ c ∷ []) e = refl
create_none second (n ∷ l ∷ s ∷ c ∷ u ∷ []) e = created_none second n l s c u s (all_six n l s c u e)
create_none second (n ∷ l ∷ s ∷ c ∷ u ∷ r ∷ []) e = created_none second n l s c u r e
create_none second (n ∷ l ∷ s ∷ c ∷ u ∷ r ∷ x ∷ rest) e = refl

alone_none : (command : CommandValue) (args : List (List ℕ)) → list_all is_plain args ≡ false → alone_of command args ≡ None
alone_none command [] e = cc
alone_none command (a ∷ rest) e = refl

show_none : (args : List (List ℕ)) → list_all is_plain args ≡ false → show_of args ≡ None
show_none [] e = refl
show_none (a ∷ []) e = elim (split a [] e) [
  | inl x ↦ none_first (name_of a) _ (no_name a x)
  | inr x ↦ absurd (false≢true (sym x))
]
show_none (a ∷ b ∷ rest) e = refl

play_none : (args : List (List ℕ)) → list_all is_plain args ≡ false → play_of args ≡ None
play_none [] e = cc
play_none (a ∷ []) e = elim (split a [] e) [
  | inl x ↦ none_first (name_of a) _ (no_name a x)
  | inr x ↦ absurd (false≢true (sym x))
]
play_none (a ∷ b ∷ rest) e = refl

upgrade_none : (args : List (List ℕ)) → list_all is_plain args ≡ false → upgrade_of args ≡ None
upgrade_none [] e = refl
upgrade_none (a ∷ []) e = refl
upgrade_none (a ∷ b ∷ []) e = elim (split a (b ∷ []) e) [
  | inl x ↦ none_first (name_of a) _ (no_name a x)
  | inr e₁ ↦ elim (split b [] e₁) [
    | inl x ↦ none_then (name_of a) _ (λ _. none_first (name_of b) _ (no_name b x))
    | inr x ↦ absurd (false≢true (sym x))
  ]
]
upgrade_none (a ∷ b ∷ x ∷ rest) e = refl

pub dashed_none : (word : List ℕ) (args : List (List ℕ)) → list_all is_plain args ≡ false → command_with word args ≡ None
dashed_none word args e =
    none_if (bytes_eq word (codes "create")) _ _ (create_none false args e)
    (none_if (bytes_eq word (codes "create2")) _ _ (create_none true args e)
    (none_if (bytes_eq word (codes "show")) _ _ (show_none args e)
    (none_if (bytes_eq word (codes "play")) _ _ (play_none args e)
    (none_if (bytes_eq word (codes "upgrade")) _ _ (upgrade_none args e)
    (none_if (bytes_eq word (codes "locks")) _ _ (alone_none Locks args e)
    (none_if (bytes_eq word (codes "wire")) _ _ (alone_none Wire args e) refl))))))
