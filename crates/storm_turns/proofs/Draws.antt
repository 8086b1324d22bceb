-- What is drawn, by its number.
use Rattle.std.specs.Prelude.{nat_lt, ◌&&◌, ◌||◌}
use Rattle.std.proofs.Common.{◌≡◌, ◌⊎◌, inl, inr, ℕ, zero, suc, ◌+◌, ◌-◌, ◌*◌, ◌/◌, ◌%◌, ◌^◌, ◌<◌, ◌≤◌, Bool, true, false, List, [], ◌∷◌, ◌++◌, length, get_or, Option, Some, None, refl, sym, ap, subst, ◌∙◌, arith}
use Rattle.std.proofs.lemmas.List.{get_or_default, get_or_append_left, length-append}
use Rattle.std.proofs.Math.Seq.{get_or-append_right}
use Rattle.mdc_types.specs.declared.events.Event.{Event}
use Rattle.mdc_types.specs.declared.roles.NodeState.{NodeState}
use Rattle.mdc_types.specs.declared.roles.NodeState.TheVariants as states
use Rattle.cluster_model.specs.Phases.{is_up, is_in}
use Rattle.cluster_model.specs.State.{Core}
use Rattle.storm_turns.specs.Choosing.{one_if}
use Rattle.storm_turns.proofs.NumberLists.{those_below_bound}
use Rattle.driver_rules.specs.Helpers.{enabled}
use Rattle.driver_rules.specs.Storms.{those_below}
use Rattle.driver_rules.specs.Storms.{Choice, Help, Writing, Reading, Drawn, helps, choice_if, choices, next_seed, drawn, of_choice, one_of, drawn_of}

-- A node that is up is in.
pub up_is_in : (s : NodeState) → is_up s ≡ true → is_in s ≡ true
up_is_in states.Out up = cc
up_is_in states.Joining up = cc
up_is_in states.Loaded up = refl
up_is_in states.Up up = refl

-- One of a list.

pub drawn_below : (x m : ℕ) → 0 < m → drawn x m < m
drawn_below x m some = omega arith

pub one_of-none : (core : Core) (n i x : ℕ) (cs : List Choice) → length cs ≡ 0 → one_of core n i x cs ≡ record { event = None; seed = x }
one_of-none core n i x [] none = refl
one_of-none core n i x (c ∷ cs) none = absurd (omega arith)

pub one_of-some : (core : Core) (n i x : ℕ) (cs : List Choice) (d : Choice) → 0 < length cs → one_of core n i x cs ≡ of_choice core n i (next_seed x) (get_or cs (drawn (next_seed x) (length cs)) d)
one_of-some core n i x [] d some = absurd (omega arith)
one_of-some core n i x (c ∷ cs) d some =
    ap (of_choice core n i (next_seed x)) (get_or_default (c ∷ cs) (drawn (next_seed x) (length (c ∷ cs))) c d (drawn_below (next_seed x) (length (c ∷ cs)) (omega arith)))

pub drawn_of-none : (core : Core) (i x : ℕ) (ns : List ℕ) → length ns ≡ 0 → drawn_of core i x ns ≡ record { event = None; seed = x }
drawn_of-none core i x [] none = refl
drawn_of-none core i x (m ∷ ms) none = absurd (omega arith)

pub drawn_of-some : (core : Core) (i x : ℕ) (ns : List ℕ) (d n : ℕ) → 0 < length ns → n ≡ get_or ns (drawn (next_seed x) (length ns)) d → drawn_of core i x ns ≡ one_of core n i (next_seed x) (choices core n)
drawn_of-some core i x [] d n some is = absurd (omega arith)
drawn_of-some core i x (m ∷ ms) d n some is =
    ap (λ k. one_of core k i (next_seed x) (choices core k))
    (get_or_default (m ∷ ms) (drawn (next_seed x) (length (m ∷ ms))) m d (drawn_below (next_seed x) (length (m ∷ ms)) (omega arith)) ∙ sym is)

-- A node's choices.

length-helps : (es : List Event) → length (helps es) ≡ length es
length-helps [] = refl
length-helps (e ∷ es) = ap suc (length-helps es)

get_or-helps : (es : List Event) (k : ℕ) (e : Event) (d : Choice) → k < length es → get_or (helps es) k d ≡ Help (get_or es k e)
get_or-helps [] k e d lt = absurd (omega arith)
get_or-helps (x ∷ es) zero e d lt = refl
get_or-helps (x ∷ es) (suc k) e d lt = get_or-helps es k e d (omega arith)

length-choice_if : (b : Bool) (c : Choice) → length (choice_if b c) ≡ one_if b
length-choice_if true c = refl
length-choice_if false c = refl

pub length-choices : (es : List Event) (w r : Bool) → length (helps es ++ choice_if w Writing ++ choice_if r Reading) ≡ length es + one_if w + one_if r
length-choices es w r = omega (arith, length-append (helps es ++ choice_if w Writing) (choice_if r Reading), length-append (helps es) (choice_if w Writing), length-helps es, length-choice_if w Writing, length-choice_if r Reading)

pub choice-help : (es : List Event) (w r : Bool) (k : ℕ) (e : Event) (d : Choice) → k < length es → Help (get_or es k e) ≡ get_or (helps es ++ choice_if w Writing ++ choice_if r Reading) k d
choice-help es w r k e d lt =
    let inner : k < length (helps es) = omega (arith, length-helps es) in
    let outer : k < length (helps es ++ choice_if w Writing) = omega (arith, length-append (helps es) (choice_if w Writing)) in
    sym (get_or_append_left (helps es ++ choice_if w Writing) (choice_if r Reading) d k outer
    ∙ get_or_append_left (helps es) (choice_if w Writing) d k inner
    ∙ get_or-helps es k e d lt)

pub choice-write : (es : List Event) (r : Bool) (k : ℕ) (d : Choice) → k ≡ length es → Writing ≡ get_or (helps es ++ choice_if true Writing ++ choice_if r Reading) k d
choice-write es r k d is =
    let outer : k < length (helps es ++ choice_if true Writing) = omega (arith, length-append (helps es) (choice_if true Writing), length-helps es) in
    let first : length (helps es) ≤ k = omega (arith, length-helps es) in
    let at : k - length (helps es) ≡ 0 = omega (arith, length-helps es) in
    sym (get_or_append_left (helps es ++ choice_if true Writing) (choice_if r Reading) d k outer
    ∙ get_or-append_right (helps es) (choice_if true Writing) k d first
    ∙ ap (λ j. get_or (choice_if true Writing) j d) at)

-- the last of them
pub choice-read : (es : List Event) (w r : Bool) (k : ℕ) (d : Choice) → k < length (helps es ++ choice_if w Writing ++ choice_if r Reading) → length es ≤ k → (w ≡ true → k ≡ length es → ⊥) → (Reading ≡ get_or (helps es ++ choice_if w Writing ++ choice_if r Reading) k d) × (r ≡ true)
choice-read es true false k d lt ge not_write = absurd (not_write refl (omega (arith, length-choices es true false)))
choice-read es false false k d lt ge not_write = absurd (omega (arith, length-choices es false false))
choice-read es w true k d lt ge not_write =
    let total = length-choices es w true in
    let inner = length-append (helps es) (choice_if w Writing) in
    let few = length-choice_if w Writing in
    let past : length (helps es ++ choice_if w Writing) ≤ k = past_writes w few inner not_write in
    let at : k - length (helps es ++ choice_if w Writing) ≡ 0 = omega (arith, length-helps es) in (
      sym (get_or-append_right (helps es ++ choice_if w Writing) (choice_if true Reading) k d past
          ∙ ap (λ j. get_or (choice_if true Reading) j d) at),
      refl,
    )
  where
    past_writes : (b : Bool) → length (choice_if b Writing) ≡ one_if b → length (helps es ++ choice_if b Writing) ≡ length (helps es) + length (choice_if b Writing) → (b ≡ true → k ≡ length es → ⊥) → length (helps es ++ choice_if b Writing) ≤ k
    past_writes true few inner other =
        let apart : (k ≡ length es) → ⊥ = other refl in
        omega (arith, length-helps es)
    past_writes false few inner other = omega (arith, length-helps es)

pub or_right_true : (w r : Bool) → r ≡ true → (w || r) ≡ true
or_right_true true r is = refl
or_right_true false r is = is

-- a sector is drawn for a node that is up
pub up_of : (up few_writes few_reads w r : Bool) → w ≡ (up && few_writes) → r ≡ (up && few_reads) → (w || r) ≡ true → up ≡ true
up_of true few_writes few_reads w r write read one = refl
up_of false few_writes few_reads w r write read one =
    let none : (w || r) ≡ false = ap (λ b. b || r) write ∙ read in
    cc

pub choices_are : (core : Core) (n : ℕ) (es : List Event) (w r : Bool) → es ≡ enabled core n
    → w ≡ (is_up (core.state n) && nat_lt (length (core.writes n)) 4) → r ≡ (is_up (core.state n) && nat_lt (length (core.reads n)) 4)
    → helps es ++ choice_if w Writing ++ choice_if r Reading ≡ choices core n
choices_are core n es w r events write read =
    ap (λ xs. helps xs ++ choice_if w Writing ++ choice_if r Reading) events
    ∙ ap (λ b. helps (enabled core n) ++ choice_if b Writing ++ choice_if r Reading) write
    ∙ ap (λ b. helps (enabled core n) ++ choice_if (is_up (core.state n) && nat_lt (length (core.writes n)) 4) Writing ++ choice_if b Reading) read

-- the choice that is drawn
pub one_of_is : (core : Core) (n i x seed count k : ℕ) (cs told : List Choice) (choice d : Choice) → told ≡ cs → seed ≡ next_seed x → count ≡ length cs → 0 < count
    → k ≡ drawn seed count → choice ≡ get_or told k d → of_choice core n i seed choice ≡ one_of core n i x cs
one_of_is core n i x seed count k cs told choice d same seeds counts some draws is =
    let place : k ≡ drawn (next_seed x) (length cs) = draws ∙ ap (λ s. drawn s count) seeds ∙ ap (drawn (next_seed x)) counts in
    let at : choice ≡ get_or cs (drawn (next_seed x) (length cs)) d = is ∙ ap (λ l. get_or l k d) same ∙ ap (λ j. get_or cs j d) place in
    ap (λ s. of_choice core n i s choice) seeds ∙ ap (of_choice core n i (next_seed x)) at ∙ sym (one_of-some core n i x cs d (omega arith))

-- the node that is drawn
pub node_below : (test : ℕ → Bool) (m x n : ℕ) (ns : List ℕ) → ns ≡ those_below test m → 0 < length ns → n ≡ get_or ns (drawn x (length ns)) 0 → n < m
node_below test m x n ns same some is =
    let inside : drawn x (length ns) < length (those_below test m) = subst (λ l. drawn x (length ns) < length l) same (drawn_below x (length ns) some) in
    let bound = those_below_bound test m (drawn x (length ns)) inside in
    subst (λ y. y < m) (sym (is ∙ ap (λ l. get_or l (drawn x (length ns)) 0) same)) bound

pub drawn_of_is : (core : Core) (i x seed n : ℕ) (ns told : List ℕ) → told ≡ ns → seed ≡ next_seed x → 0 < length told → n ≡ get_or told (drawn seed (length told)) 0
    → one_of core n i seed (choices core n) ≡ drawn_of core i x ns
drawn_of_is core i x seed n ns told same seeds some is =
    let more : 0 < length ns = subst (λ l. 0 < length l) same some in
    let at : n ≡ get_or ns (drawn (next_seed x) (length ns)) 0 =
    is ∙ ap (λ l. get_or l (drawn seed (length l)) 0) same ∙ ap (λ s. get_or ns (drawn s (length ns)) 0) seeds in
    ap (λ s. one_of core n i s (choices core n)) seeds ∙ sym (drawn_of-some core i x ns 0 n more at)
