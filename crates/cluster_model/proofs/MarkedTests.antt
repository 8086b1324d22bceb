-- Marks on legs, intent and what faulty legs missed: for each word a state in which it is true, and one in which it isn't.
use Rattle.std.proofs.Common.{◌≡◌, ◌==◌, ◌<◌, ◌≤◌, ℕ, zero, suc, true, false, List, [], ◌∷◌, None, inl, inr, if◌then◌else◌, length, refl, sym, subst, arith}
use Rattle.std.proofs.lemmas.Bool.{cases_eq}
use Rattle.std.proofs.lemmas.Bool.Decides.{nat_tests}
use Rattle.dlm_modes.specs.First.{first_such}
use Rattle.mdc_types.specs.Names.{name_length}
use Rattle.mdc_types.specs.declared.numbers.Sector.{Sector}
use Rattle.mdc_types.specs.declared.roles.Role.{Role}
use Rattle.mdc_types.specs.declared.roles.Role.TheVariants as roles
use Rattle.md_superblock.specs.Layout.{number_at, sum_below, is_named}
use Rattle.md_superblock.specs.Faults.{head_fault, array_fault, device_fault, state_fault, fault_of}
use Rattle.md_superblock.specs.Superblock.{super_of}
use Rattle.md_superblock.specs.Arrays.{super_in, says_in}
use Rattle.plain_history.specs.History.{IsIn, here}
use Rattle.cluster_model.specs.State.{State, Core}
use Rattle.cluster_model.specs.Stored.{super_on, data_on}
use Rattle.cluster_model.specs.Served.{CalledIn, CalledFaulty, Trusted, Marked, MarkedOnTrusted, Intent, Missed, Stale}
use Rattle.cluster_model.proofs.Small.{small, base, no_members, calls_leg}
use Rattle.cluster_model.proofs.Legs.{old, new, old_is_not_new, only_one, with_legs, all_old, marked_page, marked_below}

-- Intent: sector 5, in chunk 1, has two values.

abbrev two_at_five : ℕ → List Sector
two_at_five s = if s == 5 then old ∷ new ∷ [] else old ∷ []

only_five : (s : ℕ) → 2 ≤ length (two_at_five s) → s ≡ 5
only_five s two = elim (cases_eq s 5) [
  | inl is ↦ is
  | inr other ↦ grind (arith, nat_tests)
]

-- the superblocks of the legs are none
no_super : (legs l : ℕ) → super_on base.array (with_legs base (marked_below legs)).legs l ≡ None
unfolding first_such number_at sum_below is_named head_fault array_fault device_fault state_fault fault_of super_of super_in says_in name_length
no_super legs l = refl

none_called : (legs : ℕ) (role : Role) (l : ℕ)
    → ¬ CalledIn (with_legs base (marked_below legs)) role l
none_called legs role l c = let none = no_super legs c.leg in let stands = c.current.stands in cc

-- slot 0 has the bit on both legs that are read, and not on the spare
marked_on : (l : ℕ) → l < 3 → Trusted (with_legs base (marked_below 2)) l
    → Marked (with_legs base (marked_below 2)) 0 1 l
marked_on zero leg trusted = refl
marked_on (suc zero) leg trusted = refl
marked_on (suc (suc zero)) leg (inl s) = let w : false ≡ true = s.works in cc
marked_on (suc (suc zero)) leg (inr c) = absurd (none_called 2 roles.Working 2 c)
marked_on (suc (suc (suc l))) leg trusted = absurd (omega arith)

marks_on : (s : ℕ) → s ≡ 5 → MarkedOnTrusted (with_legs base (marked_below 2)) 0 s
marks_on s is = rw is (record { slot = omega arith; marked = marked_on })

intent_is_marked : Intent (with_legs base (marked_below 2)) two_at_five
intent_is_marked s within two = record { slot = 0; kept = inl refl; marks = marks_on s (only_five s two) }

first_served : (content : ℕ → ℕ → Sector) → Trusted (with_legs base content) 0
first_served content = inl (record { node = 0; up = refl; works = refl })

second_served : (content : ℕ → ℕ → Sector) → Trusted (with_legs base content) 1
second_served content = inl (record { node = 0; up = refl; works = refl })

-- it isn't where no slot has the bit, and where one of the two legs is without it
unmarked : ¬ Intent (with_legs base all_old) two_at_five
unmarked intent =
    let kept = intent 5 (omega arith) (omega arith) in
    let bit : false ≡ true = kept.marks.marked 0 (omega arith) (first_served all_old) in cc

-- the first leg alone has the bit
abbrev first_marked : ℕ → ℕ → Sector
first_marked zero at = if at == 16 then marked_page else old
first_marked (suc l) at = old

marked_on_one : ¬ Intent (with_legs base first_marked) two_at_five
marked_on_one intent =
    let kept = intent 5 (omega arith) (omega arith) in
    let bit : false ≡ true = kept.marks.marked 1 (omega arith) (second_served first_marked) in cc

-- nor where the slot with the bit is nobody's
abbrev nobodys : State
nobodys = with_legs (record base { members = no_members }) (marked_below 2)

not_kept : ¬ Intent nobodys two_at_five
not_kept intent = elim (intent 5 (omega arith) (omega arith)).kept [ inl live ↦ cc | inr pending ↦ cc ]

-- What faulty legs missed: leg 2 is called faulty, and there is one value.

abbrev faulty : Core
faulty = record base { view = λ n. calls_leg roles.Faulty }

abbrev one_value : ℕ → List Sector
one_value s = old ∷ []

called_faulty : (content : ℕ → ℕ → Sector) → CalledFaulty (with_legs faulty content) 2
called_faulty content = record { node = 0; up = refl; role = refl }

-- leg 2 has another value at sector 5
abbrev other_at_five : ℕ → ℕ → Sector
other_at_five (suc (suc l)) at = if at == 85 then new else old
other_at_five l at = old

-- and legs 0 and 1 have the bit of its chunk
abbrev missed_five : ℕ → ℕ → Sector
missed_five (suc (suc l)) at = if at == 85 then new else old
missed_five l at = if at == 16 then marked_page else old

no_super_on : (l : ℕ) → super_on base.array (with_legs faulty missed_five).legs l ≡ None
unfolding first_such number_at sum_below is_named head_fault array_fault device_fault state_fault fault_of super_of super_in says_in name_length
no_super_on zero = refl
no_super_on (suc zero) = refl
no_super_on (suc (suc l)) = refl

none_calls : (role : Role) (l : ℕ) → ¬ CalledIn (with_legs faulty missed_five) role l
none_calls role l c = let none = no_super_on c.leg in let stands = c.current.stands in cc

missed_on : (l : ℕ) → l < 3 → Trusted (with_legs faulty missed_five) l
    → Marked (with_legs faulty missed_five) 0 1 l
missed_on zero leg trusted = refl
missed_on (suc zero) leg trusted = refl
missed_on (suc (suc zero)) leg (inl s) = let w : false ≡ true = s.works in cc
missed_on (suc (suc zero)) leg (inr c) = absurd (none_calls roles.Working 2 c)
missed_on (suc (suc (suc l))) leg trusted = absurd (omega arith)

missed_marks : (s : ℕ) → s ≡ 5 → MarkedOnTrusted (with_legs faulty missed_five) 0 s
missed_marks s is = rw is (record { slot = omega arith; marked = missed_on })

else_old : (s : ℕ) → ¬ (s ≡ 5) → data_on small (with_legs faulty missed_five).legs 2 s ≡ old
else_old s other = grind (arith, nat_tests)

stale_is_marked : (s : ℕ) → Stale (with_legs faulty missed_five) one_value 2 s
    → (k : ℕ) × MarkedOnTrusted (with_legs faulty missed_five) k s
stale_is_marked s stale = elim (cases_eq s 5) [
  | inl is ↦ (0, missed_marks s is)
  | inr other ↦ absurd (stale (subst (λ v. IsIn v (old ∷ [])) (sym (else_old s other)) here))
]

missed_is_marked : Missed (with_legs faulty missed_five) one_value
missed_is_marked zero s leg sector (inl c) stale = let role : roles.Working ≡ roles.Faulty = c.role in cc
missed_is_marked (suc zero) s leg sector (inl c) stale = let role : roles.Working ≡ roles.Faulty = c.role in cc
missed_is_marked (suc (suc zero)) s leg sector (inl c) stale = stale_is_marked s stale
missed_is_marked (suc (suc (suc l))) s leg sector (inl c) stale = absurd (omega arith)
missed_is_marked l s leg sector (inr c) stale = absurd (none_calls roles.Faulty l c)

-- it isn't where no slot has the bit
missed_unmarked : ¬ Missed (with_legs faulty other_at_five) one_value
missed_unmarked missed =
    let marks = missed 2 5 (omega arith) (omega arith) (inl (called_faulty other_at_five)) (λ is. old_is_not_new (sym (only_one new old is))) in
    let bit : false ≡ true = marks.1.marked 0 (omega arith) (inl (record { node = 0; up = refl; works = refl })) in cc
