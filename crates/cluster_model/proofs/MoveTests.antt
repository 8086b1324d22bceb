-- Moves, steps and runs: outcomes that a transfer may have, and such as it may not.
use Rattle.std.proofs.Common.{◌≡◌, ℕ, Bool, true, false, List, [], ◌∷◌, Some, if◌then◌else◌, refl, sym, ap, subst, ◌∙◌, arith}
use Rattle.dlm_modes.specs.First.{first_such}
use Rattle.mdc_types.specs.declared.numbers.Sector.{Sector}
use Rattle.mdc_types.specs.declared.events.Event.TheVariants.{AskWrite, Out, EndWrite, AskRead, In}
use Rattle.mdc_types.specs.declared.outcomes.Outcome.{Outcome}
use Rattle.mdc_types.specs.declared.outcomes.Outcome.TheVariants.{Done, Write, Read as Asked, Value, Lost, Io}
use Rattle.mdc_types.specs.declared.outcomes.Entry.{Entry}
use Rattle.leg_failure.specs.Views.{is_last}
use Rattle.mirror_io.specs.Flight.{new_write}
use Rattle.plain_history.specs.History.{values_at, Legal, here}
use Rattle.cluster_model.specs.State.{State, Core, Legs}
use Rattle.cluster_model.specs.Opening.{header_at}
use Rattle.cluster_model.specs.Transfers.{Transfer, writes_to, reads_from}
use Rattle.cluster_model.specs.Run.{put, Moves, Quiet, Written, Read, Failed, Left, Step, entry, Run}
use Rattle.cluster_model.proofs.Small.{base, fresh_bitmap, a_read}
use Rattle.cluster_model.proofs.Legs.{old, new, old_is_not_new, only_one, with_legs, all_old}
use Rattle.cluster_model.proofs.Player.{events_of, entries_after, after_script, script_is_run}
use Rattle.cluster_model.proofs.RowTests.{two_legs, opening, one_write}

-- Node 0 writes the new value to sector 5, and its write has number 7; all legs are old.

abbrev writing : Core
writing = record base { writes = λ n. new_write 7 5 new ∷ [] }

abbrev starts : State
starts = with_legs writing all_old

abbrev second : Transfer
second = writes_to 0 1 85 new

it_is_written : Moves starts (Out 0 7 1) Done (put starts.legs 1 85 new)
it_is_written = Written second new refl refl refl refl refl

-- the transfer may fail though the path is open, and leave either sector
nothing_is_left : Moves starts (Out 0 7 1) (Lost 1) starts.legs
unfolding first_such
nothing_is_left = Failed second refl refl refl

it_is_left : Moves starts (Out 0 7 1) (Lost 1) (put starts.legs 1 85 new)
unfolding first_such
it_is_left = Left second new refl refl refl refl refl

never_done : (b : Bool) (l : ℕ) → ¬ (Done ≡ (if b then Io l else Lost l))
never_done true l is = cc
never_done false l is = cc

never_a_value : (b : Bool) (k l : ℕ) (v : Sector) → ¬ (Value k v ≡ (if b then Io l else Lost l))
never_a_value true k l v is = cc
never_a_value false k l v is = cc

value_of : (t : Transfer) → Some second ≡ Some t
    → (second.leg ≡ t.leg) × (second.place ≡ t.place) × (second.value ≡ t.value)
value_of t is = let same : second ≡ t = cc in (ap (λ (x : Transfer). x.leg) same, ap (λ (x : Transfer). x.place) same, ap (λ (x : Transfer). x.value) same)

-- where it is done the value stands there
it_stands : (t : Transfer) (v : Sector) → Some second ≡ Some t → t.value ≡ Some v
    → starts.legs ≡ put starts.legs t.leg t.place v → ⊥
it_stands t v is value same =
    let parts = value_of t is in
    let at : old ≡ (put starts.legs t.leg t.place v).content 1 85 = ap (λ (legs : Legs). legs.content 1 85) same in
    old_is_not_new (grind arith)

not_done_for_nothing : ¬ Moves starts (Out 0 7 1) Done starts.legs
not_done_for_nothing (Quiet none is same) = cc
not_done_for_nothing (Written t v is value way o same) = it_stands t v is value same
not_done_for_nothing (Read t v is none way gives o same) = let parts = value_of t is in cc
not_done_for_nothing (Failed t is o same) = never_done (is_last (writing.view t.node) t.leg) t.leg o
not_done_for_nothing (Left t v is value way o same) = never_done (is_last (writing.view t.node) t.leg) t.leg o

-- over a cut path nothing is done
abbrev cut_off : State
cut_off = with_legs (record writing { cut = λ n l. true }) all_old

not_done : (after : Legs) → ¬ Moves cut_off (Out 0 7 1) Done after
not_done after (Quiet none is same) = cc
not_done after (Written t v is value way o same) = let shut : false ≡ true = way in cc
not_done after (Read t v is none way gives o same) = let shut : false ≡ true = way in cc
not_done after (Failed t is o same) = never_done (is_last (writing.view t.node) t.leg) t.leg o
not_done after (Left t v is value way o same) = let shut : false ≡ true = way in cc

-- Node 0 reads sector 5.

abbrev reading : Core
reading = record base { reads = λ n. a_read ∷ [] }

abbrev reads : State
reads = with_legs reading all_old

the_old_is_read : Moves reads (In 0 5) (Value 0 old) reads.legs
unfolding first_such
the_old_is_read = Read (reads_from 0 0 85) old refl refl refl (λ told. refl) refl refl

not_the_new : (after : Legs) → ¬ Moves reads (In 0 5) (Value 0 new) after
unfolding first_such
not_the_new after (Quiet none is same) = cc
not_the_new after (Written t v is value way o same) = cc
not_the_new after (Read t v is none way gives o same) = let stands : v ≡ old = gives refl in old_is_not_new (sym stands ∙ cc)
not_the_new after (Failed t is o same) = never_a_value (is_last (reading.view t.node) t.leg) 0 t.leg new o
not_the_new after (Left t v is value way o same) = never_a_value (is_last (reading.view t.node) t.leg) 0 t.leg new o

-- a leg that doesn't tell its contents gives anything
abbrev untold : State
untold = record { core = reading; legs = record { told = λ l. false; content = all_old } }

anything : (v : Sector) → Moves untold (In 0 5) (Value 0 v) untold.legs
unfolding first_such
anything v = Read (reads_from 0 0 85) v refl refl refl (λ told. cc) refl refl

-- Steps.

abbrev unmarked : State
unmarked = with_legs (record writing { bitmap = λ n. record fresh_bitmap { marks = λ c l. false } }) all_old

refused_is_no_step : (o : Outcome) (after : State) → ¬ Step unmarked (Out 0 7 0) o after
unfolding first_such
refused_is_no_step o after step = let none = step.accepted in cc

apart : (n m : ℕ) → n ≡ 8 → m ≡ 9 → n ≡ m → ⊥
apart n m eight nine same = omega arith

-- an accepted write is counted
not_the_same : (v : Sector) → ¬ Step starts (AskWrite 0 6 v) (Write 8) starts
not_the_same v step = apart 8 9 refl refl (ap (λ (core : Core). core.writes_made 0) step.core)

-- A run, and that its trace is legal.

abbrev before_read : Sector → List Entry
before_read v = entry (AskRead 0 5) (Asked 0) ∷ entry (EndWrite 0 0) Done ∷ entry (Out 0 0 1) Done ∷ entry (Out 0 0 0) Done
    ∷ entry (AskWrite 0 5 v) (Write 0) ∷ []

abbrev trace : Sector → List Entry
trace v = entry (In 0 0) (Value 0 v) ∷ before_read v

it_is_the_trace : (v : Sector)
    → entries_after [] (opening 1 true) (events_of (one_write v)) ≡ trace v
unfolding first_such
it_is_the_trace v = refl

one_write_runs : (v : Sector)
    → Run (opening 1 true) (trace v) (after_script (opening 1 true) (one_write v))
one_write_runs v =
    subst (λ past. Run (opening 1 true) past (after_script (opening 1 true) (one_write v))) (it_is_the_trace v)
    (script_is_run (opening 1 true) [] (opening 1 true) (events_of (one_write v)) refl)

abbrev base_values : ℕ → List Sector
base_values s = values_at (header_at two_legs 1 true 0).base s

one_write_is_legal : (v : Sector) → Legal base_values (trace v)
one_write_is_legal v = (here, (tt, (refl, (tt, (tt, (λ n k w none. cc, tt))))))

-- a read of the old value after the write's end isn't
old_is_not_legal : ¬ Legal base_values (entry (In 0 0) (Value 0 old) ∷ before_read new)
old_is_not_legal legal = old_is_not_new (only_one old new legal.0)
