-- What a recovery leaves: a place of a run at which it holds, and one at which it doesn't.
use Rattle.std.proofs.Common.{◌≡◌, ℕ, ◌==◌, Bool, true, false, not, ◌&&◌, if◌then◌else◌, List, [], ◌∷◌, ◌++◌, Some, None, inl, inr, get_or, refl, sym, ap, subst, ◌∙◌, arith}
use Rattle.std.proofs.lemmas.Bool.{and_parts}
use Rattle.dlm_modes.specs.First.{first_such}
use Rattle.dlm_modes.specs.declared.mode.Mode.TheVariants.{EX}
use Rattle.mdc_types.specs.declared.numbers.Sector.{Sector}
use Rattle.mdc_types.specs.declared.events.Event.{Event}
use Rattle.mdc_types.specs.declared.events.Event.TheVariants.{Die, AskWrite, Out, AskResync, Grant, Recover, SlotIn, Recovered, FinishRound, Offer}
use Rattle.mdc_types.specs.declared.events.Wish.TheVariants.{Meta, Unclean}
use Rattle.mdc_types.specs.declared.outcomes.Outcome.TheVariants.{Done, Write, Granted, Page}
use Rattle.mdc_types.specs.declared.outcomes.Entry.{Entry}
use Rattle.mdc_types.specs.declared.resources.Res.TheVariants.{Resync}
use Rattle.leg_failure.specs.Views.{works}
use Rattle.slot_pages.specs.Slot.{page_has}
use Rattle.plain_history.specs.Seen.{OpenSince}
use Rattle.cluster_model.specs.State.{State, sizes}
use Rattle.cluster_model.specs.Run.{entry, Run}
use Rattle.cluster_model.specs.Stored.{data_on}
use Rattle.cluster_model.specs.Recovered.{slot_in, found_in, makes_pending, Pended, RecoveredEqual}
use Rattle.cluster_model.proofs.Legs.{new, with_legs, marked_page}
use Rattle.cluster_model.proofs.Player.{end_of, entries_after, script_is_run}
use Rattle.cluster_model.proofs.RowTests.{two_legs, opening}

-- A page with the bit of chunk 1 stands in slot 0 of both legs. Node 0 dies with a write open that is on one leg; node 1 reads its slot, and has
-- copied nothing.

abbrev blank : Sector
blank = record { bytes = 0 ∷ [] }

abbrev with_page : Sector → ℕ → ℕ → Sector
with_page page l at = if at == 16 then page else blank

abbrev start : Sector → State
start page = with_legs (opening 2 true).core (with_page page)

differ : (n m : ℕ) → n ≡ 0 → m ≡ 1 → n ≡ m → ⊥
differ n m zero_is one_is same = omega arith

blank_is_not_new : ¬ (blank ≡ new)
blank_is_not_new same = differ 0 1 refl refl (ap (λ (x : Sector). get_or x.bytes 0 0) same)

abbrev crash : List Event
crash = AskWrite 0 5 new ∷ Out 0 0 0 ∷ Die 0 ∷ []

abbrev before : List Entry
before = entry (Die 0) Done ∷ entry (Out 0 0 0) Done ∷ entry (AskWrite 0 5 new) (Write 0) ∷ []

abbrev crashed : Sector → State
crashed page = end_of (start page) crash

before_is : (page : Sector) → entries_after [] (start page) crash ≡ before
unfolding first_such
before_is page = refl

abbrev reading : List Event
reading = AskResync 1 ∷ Grant Resync ∷ Recover 1 0 ∷ SlotIn 1 0 0 ∷ SlotIn 1 0 1 ∷ []

abbrev later : Sector → List Entry
later page = entry (SlotIn 1 0 1) (Page page) ∷ entry (SlotIn 1 0 0) (Page page) ∷ entry (Recover 1 0) Done
    ∷ entry (Grant Resync) (Granted 1 EX) ∷ entry (AskResync 1) Done ∷ []

abbrev uncopied : Sector → State
uncopied page = end_of (crashed page) reading

later_is : (page : Sector) → entries_after [] (crashed page) reading ≡ later page
unfolding first_such
later_is page = refl

run_by : (mid end : State) (past : List Entry) (script : List Event) → end_of mid script ≡ end
    → entries_after [] mid script ≡ past → Run mid past end
run_by mid end past script ends is =
    subst (Run mid past) ends (subst (λ (es : List Entry). Run mid es (end_of mid script)) is (script_is_run mid [] mid script refl))

pended : (page : Sector) (mid end : State) → Run (start page) before mid
    → Run mid (later page) end → Pended (start page) before (later page) end 0
pended page mid end first second = record {
  place = record { state = mid; before = first; after = second };
  became = refl;
  last = (refl, (refl, (refl, (refl, (refl, tt)))));
}

slot_is_open : (page : Sector) → slot_in 1 (later page ++ before) ≡ Some 0
slot_is_open page = refl

chunk_is_found : (page : Sector) → page_has two_legs 0 page.bytes 1 ≡ true
    → found_in two_legs 1 (later page ++ before) 1 ≡ true
chunk_is_found page has = grind (arith, has)

some_page_has : page_has two_legs 0 marked_page.bytes 1 ≡ true
some_page_has = refl

-- No entry starts a write where none is a transfer of one.

abbrev is_transfer : Event → Bool
is_transfer (Out n k l) = true
is_transfer e = false

abbrev no_transfer : List Entry → Bool
no_transfer [] = true
no_transfer (x ∷ entries) = not (is_transfer x.event) && no_transfer entries

none_open : (entries past : List Entry) (s : ℕ) → no_transfer entries ≡ true
    → ¬ OpenSince entries past s
none_open [] past s none opened = opened
none_open (x ∷ entries) past s none (inl started) =
    let first = (and_parts (not (is_transfer x.event)) (no_transfer entries) none).0 in
    let transfer : is_transfer x.event ≡ true = ap is_transfer started.1.event in
    grind arith
none_open (x ∷ entries) past s none (inr earlier) =
    none_open entries past s (and_parts (not (is_transfer x.event)) (no_transfer entries) none).1 earlier.0

-- a state whose legs differ there isn't one in which the slot is recovered
unlike : (page : Sector) (end : State) → page_has two_legs 0 page.bytes 1 ≡ true
    → Pended (start page) before (later page) end 0 → sizes end.core ≡ two_legs
    → works (end.core.view 1) 0 ≡ true → works (end.core.view 1) 1 ≡ true
    → data_on (sizes end.core) end.legs 0 5 ≡ new → data_on (sizes end.core) end.legs 1 5 ≡ blank
    → ¬ RecoveredEqual (start page) (later page ++ before) end 1
unlike page end has pended is first second new_there old_there recovered =
    elim (recovered 0 1 5 before (later page) pended refl refl (rw is (omega arith)) (rw is refl) (inl (rw is (chunk_is_found page has)))) [
      | inl equal ↦ blank_is_not_new (sym old_there ∙ (sym (equal 0 1 first second) ∙ new_there))
      | inr opened ↦ none_open (later page) before 5 refl opened
    ]

its_sizes : (page : Sector) → sizes (uncopied page).core ≡ two_legs
unfolding first_such
its_sizes page = refl

its_first : (page : Sector) → works ((uncopied page).core.view 1) 0 ≡ true
unfolding first_such
its_first page = refl

its_second : (page : Sector) → works ((uncopied page).core.view 1) 1 ≡ true
unfolding first_such
its_second page = refl

new_on_first : (page : Sector) → data_on (sizes (uncopied page).core) (uncopied page).legs 0 5 ≡ new
unfolding first_such
new_on_first page = refl

old_on_second : (page : Sector)
    → data_on (sizes (uncopied page).core) (uncopied page).legs 1 5 ≡ blank
unfolding first_such
old_on_second page = refl

not_equal_yet : (page : Sector) → page_has two_legs 0 page.bytes 1 ≡ true
    → ¬ RecoveredEqual (start page) (later page ++ before) (uncopied page) 1
not_equal_yet page has = unlike page (uncopied page) has
    (pended page (crashed page) (uncopied page) (run_by (start page) (crashed page) before crash refl (before_is page))
    (run_by (crashed page) (uncopied page) (later page) reading refl (later_is page)))
    (its_sizes page) (its_first page) (its_second page) (new_on_first page) (old_on_second page)

-- where all legs hold the same a recovery may end
all_equal : (begun : State) (past : List Entry) (n : ℕ)
    → RecoveredEqual begun past (with_legs (opening 2 true).core (λ l at. blank)) n
all_equal begun past n d c s earlier since pended_then slot split within chunk found = inl (λ l k first second. refl)

-- A slot becomes pending by its node's death, or by the end of an unclean leaving.

death_makes_pending : makes_pending 0 [] (Die 0) ≡ true
death_makes_pending = refl

others_death_does_not : makes_pending 0 [] (Die 1) ≡ false
others_death_does_not = refl

unclean_makes_pending : makes_pending 0 (entry (Offer 0 Unclean) Done ∷ []) (FinishRound 0) ≡ true
unclean_makes_pending = refl

another_round_does_not : makes_pending 0 (entry (Offer 0 Meta) Done ∷ entry (Offer 0 Unclean) Done ∷ []) (FinishRound 0) ≡ false
another_round_does_not = refl

closed_after_its_end : slot_in 1 (entry (Recovered 1) Done ∷ entry (Recover 1 0) Done ∷ []) ≡ None
closed_after_its_end = refl
