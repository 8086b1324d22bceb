-- The tables follow the trace.
use Rattle.std.proofs.Common.{◌↔◌, ◌≢◌, not, IsTrue, ap, ◌≡◌, ℕ, zero, suc, ◌<◌, ◌==◌, ◌&&◌, Bool, true, false, List, [], ◌∷◌, Option, Some, None, length, refl, arith, if◌then◌else◌}
use Rattle.std.specs.Prelude.{slice_set}
use Rattle.std.proofs.Math.ListN.{length-set}
use Rattle.std.proofs.Math.Path.{fun_ext}
use Rattle.mdc_types.specs.declared.numbers.Sector.{Sector}
use Rattle.mdc_types.specs.declared.events.Event.{Event}
use Rattle.mdc_types.specs.declared.events.Event.TheVariants.{AskWrite, Out, EndWrite, BreakWrite, AskRead, In, Die, Settle}
use Rattle.mdc_types.specs.declared.outcomes.Outcome.{Outcome}
use Rattle.mdc_types.specs.declared.outcomes.Outcome.TheVariants.{Write, Read, Lost, Io, Settled}
use Rattle.mdc_types.specs.declared.outcomes.Entry.{Entry}
use Rattle.plain_history.specs.declared.asked.AskedWrite.{AskedWrite}
use Rattle.plain_history.specs.History.{PlainWrite, start, live_writes, asked_reads, candidates, LegalAfter, live_step, asked_step, values_step, with_start, with_end, IsIn, IsFree, values_at, LegalEntry}
use Rattle.plain_history.specs.Asked.{write_in, any_of_sector, start_in, new_write, without_write}
use Rattle.plain_history.specs.Tables.{Tables, plain_of, writes_of, reads_of, Agrees, Follows, IsTidy, IsWithin, LegalIn, ask_write, start_write, start_and_break, end_write, break_write, ask_read, end_read, die, settle, start_values, end_values, tables_after}
use Rattle.plain_history.proofs.Lookups.{any_of_sector-found, any_of_sector-none, write_in-without, write_in-without_of, write_in-start, write_in-last, read_in-without, read_in-without_of, read_in-last, values_at-set, distinct-without, distinct-without_of, distinct-start, distinct-last}

-- candidates have a sector with a list
pub within_from_candidate : (lists : List (List Sector)) (s : ℕ) (v : Sector) → IsIn v (values_at lists s) → s < length lists
within_from_candidate [] s v has = elim has [ ]
within_from_candidate (vs ∷ lists) zero v has = omega arith
within_from_candidate (vs ∷ lists) (suc s) v has = omega (arith, within_from_candidate lists s v has)

-- the candidates after the start and after the end of a write
values_at-start : (found : Option AskedWrite) (lists : List (List Sector)) (s : ℕ) → ((w : AskedWrite) → found ≡ Some w → w.sector < length lists) → with_start (plain_of found) s (values_at lists s) ≡ values_at (start_values found lists) s
values_at-start None lists s within = refl
values_at-start (Some w) lists s within = grind (arith, within w refl, values_at-set)

values_at-end : (found : Option AskedWrite) (lists : List (List Sector)) (s : ℕ) → ((w : AskedWrite) → found ≡ Some w → w.sector < length lists) → with_end (plain_of found) s (values_at lists s) ≡ values_at (end_values found lists) s
values_at-end None lists s within = refl
values_at-end (Some w) lists s within = grind (arith, within w refl, values_at-set)

length-start : (found : Option AskedWrite) (lists : List (List Sector)) → length (start_values found lists) ≡ length lists
length-start None lists = refl
length-start (Some w) lists = grind (arith, length-set)

length-end : (found : Option AskedWrite) (lists : List (List Sector)) → length (end_values found lists) ≡ length lists
length-end None lists = refl
length-end (Some w) lists = length-set lists w.sector (w.value ∷ [])

-- tables stay tidy

module _ (t : Tables) (i : IsTidy t) where
  pub tidy-ask_write : (n k s : ℕ) (v : Sector) → s < length t.values → IsTidy (ask_write t n k s v)
  tidy-ask_write n k s v lt = record {
    distinct = distinct-last (without_write n k t.writes) (new_write n k s v) (distinct-without n k t.writes i.distinct) (grind (arith, write_in-without));
    within = grind (arith, write_in-last, write_in-without);
  }

  pub tidy-start_write : (n k : ℕ) → IsTidy (start_write t n k)
  tidy-start_write n k = record {
    distinct = distinct-start n k t.writes i.distinct;
    within = grind (arith, write_in-start, length-start);
  }

  pub tidy-start_and_break : (n k : ℕ) → IsTidy (start_and_break t n k)
  tidy-start_and_break n k = record {
    distinct = distinct-without n k t.writes i.distinct;
    within = grind (arith, write_in-without, length-start);
  }

  pub tidy-end_write : (n k : ℕ) → IsTidy (end_write t n k)
  tidy-end_write n k = record {
    distinct = distinct-without n k t.writes i.distinct;
    within = grind (arith, write_in-without, length-end);
  }

  pub tidy-break_write : (n k : ℕ) → IsTidy (break_write t n k)
  tidy-break_write n k = record {
    distinct = distinct-without n k t.writes i.distinct;
    within = grind (arith, write_in-without);
  }

  pub tidy-ask_read : (n k s : ℕ) → IsTidy (ask_read t n k s)
  tidy-ask_read n k s = record { distinct = i.distinct; within = i.within }

  pub tidy-end_read : (n k : ℕ) → IsTidy (end_read t n k)
  tidy-end_read n k = record { distinct = i.distinct; within = i.within }

  pub tidy-die : (n : ℕ) → IsTidy (die t n)
  tidy-die n = record {
    distinct = distinct-without_of n t.writes i.distinct;
    within = grind (arith, write_in-without_of);
  }

  pub tidy-settle : (s : ℕ) (v : Sector) → IsTidy (settle t s v)
  tidy-settle s v = record { distinct = i.distinct; within = grind (arith, length-set) }

  -- one part of the change of a start or of an end
  pub tidy-started : (n k : ℕ) → IsTidy (record t { writes = start_in n k t.writes })
  tidy-started n k = record {
    distinct = distinct-start n k t.writes i.distinct;
    within = grind (arith, write_in-start);
  }

  pub tidy-decided : (n k s : ℕ) (vs : List Sector) → IsTidy (record t { writes = without_write n k t.writes; values = slice_set t.values s vs })
  tidy-decided n k s vs = record {
    distinct = distinct-without n k t.writes i.distinct;
    within = grind (arith, write_in-without, length-set);
  }

  pub tidy_after : (e : Event) (o : Outcome) → IsWithin (length t.values) e → IsTidy (tables_after t e o)
  tidy_after (AskWrite n s v) (Write k) lt = tidy-ask_write n k s v lt
  tidy_after (Out n k l) (Io h) lt = tidy-start_and_break n k
  tidy_after (Out n k l) o lt = tidy-start_write n k
  tidy_after (EndWrite n k) o lt = tidy-end_write n k
  tidy_after (BreakWrite n k) o lt = tidy-break_write n k
  tidy_after (AskRead n s) (Read k) lt = tidy-ask_read n k s
  tidy_after (In n k) (Lost l) lt = i
  tidy_after (In n k) o lt = tidy-end_read n k
  tidy_after (Die n) o lt = tidy-die n
  tidy_after (Settle n) (Settled s v) lt = tidy-settle s v
  tidy_after e o lt = i

-- there are as many lists of values as before
pub length-after : (t : Tables) (e : Event) (o : Outcome) → length (tables_after t e o).values ≡ length t.values
length-after t (AskWrite n s v) (Write k) = refl
length-after t (Out n k l) (Io h) = length-start (write_in n k t.writes) t.values
length-after t (Out n k l) o = length-start (write_in n k t.writes) t.values
length-after t (EndWrite n k) o = length-end (write_in n k t.writes) t.values
length-after t (BreakWrite n k) o = refl
length-after t (AskRead n s) (Read k) = refl
length-after t (In n k) (Lost l) = refl
length-after t (In n k) o = refl
length-after t (Die n) o = refl
length-after t (Settle n) (Settled s v) = length-set t.values s (v ∷ [])
length-after t e o = refl

-- the tables follow each entry

module _ (ws : ℕ → ℕ → Option PlainWrite) (rs : ℕ → ℕ → Option ℕ) (vs : ℕ → List Sector) (t : Tables) (i : Agrees ws rs vs t) (tidy : IsTidy t) where
  started_values : (n k s : ℕ) → with_start (ws n k) s (vs s) ≡ values_at (start_values (write_in n k t.writes) t.values) s
  started_values n k s = rw (i.writes_are n k, i.values_are s) (values_at-start (write_in n k t.writes) t.values s (tidy.within n k))

  ended_values : (n k s : ℕ) → with_end (ws n k) s (vs s) ≡ values_at (end_values (write_in n k t.writes) t.values) s
  ended_values n k s = rw (i.writes_are n k, i.values_are s) (values_at-end (write_in n k t.writes) t.values s (tidy.within n k))

  ask_write_agrees : (n k s : ℕ) (v : Sector) → Agrees (live_step (AskWrite n s v) (Write k) ws) rs vs (ask_write t n k s v)
  ask_write_agrees n k s v = grind (arith, write_in-last, write_in-without)

  start_write_agrees : (n k : ℕ) → Agrees (λ m j. if m == n && j == k then start (ws m j) else ws m j) rs (λ s. with_start (ws n k) s (vs s)) (start_write t n k)
  start_write_agrees n k = record { writes_are = grind (arith, i.writes_are, write_in-start); reads_are = i.reads_are; values_are = started_values n k }

  start_and_break_agrees : (n k : ℕ) → Agrees (λ m j. if m == n && j == k then None else ws m j) rs (λ s. with_start (ws n k) s (vs s)) (start_and_break t n k)
  start_and_break_agrees n k = record { writes_are = grind (arith, i.writes_are, write_in-without); reads_are = i.reads_are; values_are = started_values n k }

  end_write_agrees : (n k : ℕ) → Agrees (λ m j. if m == n && j == k then None else ws m j) rs (λ s. with_end (ws n k) s (vs s)) (end_write t n k)
  end_write_agrees n k = record { writes_are = grind (arith, i.writes_are, write_in-without); reads_are = i.reads_are; values_are = ended_values n k }

  break_write_agrees : (n k : ℕ) → Agrees (λ m j. if m == n && j == k then None else ws m j) rs vs (break_write t n k)
  break_write_agrees n k = grind (arith, write_in-without)

  ask_read_agrees : (n k s : ℕ) → Agrees ws (λ m j. if m == n && j == k then Some s else rs m j) vs (ask_read t n k s)
  ask_read_agrees n k s = grind (arith, read_in-last, read_in-without)

  end_read_agrees : (n k : ℕ) → Agrees ws (λ m j. if m == n && j == k then None else rs m j) vs (end_read t n k)
  end_read_agrees n k = grind (arith, read_in-without)

  die_agrees : (n : ℕ) → Agrees (λ m j. if m == n then None else ws m j) (λ m j. if m == n then None else rs m j) vs (die t n)
  die_agrees n = grind (arith, write_in-without_of, read_in-without_of)

  settle_agrees : (s : ℕ) (v : Sector) → s < length t.values → Agrees ws rs (λ u. if s == u then v ∷ [] else vs u) (settle t s v)
  settle_agrees s v lt = grind (arith, values_at-set)

  agrees_after : (e : Event) (o : Outcome) → LegalIn t e o → Agrees (live_step e o ws) (asked_step e o rs) (values_step e o ws vs) (tables_after t e o)
  agrees_after (AskWrite n s v) (Write k) legal = ask_write_agrees n k s v
  agrees_after (Out n k l) (Io h) legal = start_and_break_agrees n k
  agrees_after (Out n k l) o legal = start_write_agrees n k
  agrees_after (EndWrite n k) o legal = end_write_agrees n k
  agrees_after (BreakWrite n k) o legal = break_write_agrees n k
  agrees_after (AskRead n s) (Read k) legal = ask_read_agrees n k s
  agrees_after (In n k) (Lost l) legal = i
  agrees_after (In n k) o legal = end_read_agrees n k
  agrees_after (Die n) o legal = die_agrees n
  agrees_after (Settle n) (Settled s v) legal = settle_agrees s v (within_from_candidate t.values s v legal)
  agrees_after e o legal = i

  -- the tables tell what is legal
  writes_same : ws ≡ writes_of t
  writes_same = fun_ext (λ n. fun_ext (i.writes_are n))

  reads_same : rs ≡ reads_of t
  reads_same = fun_ext (λ n. fun_ext (i.reads_are n))

  values_same : vs ≡ values_at t.values
  values_same = fun_ext i.values_are

  legal_there : (e : Event) (o : Outcome) → LegalEntry ws rs vs e o → LegalIn t e o
  legal_there e o legal = rw (writes_same, reads_same, values_same) at legal

  legal_here : (e : Event) (o : Outcome) → LegalIn t e o → LegalEntry ws rs vs e o
  legal_here e o legal = rw (writes_same, reads_same, values_same) legal

-- what is legal after the trace is what the tables call legal
pub LegalAfter-in : (base : ℕ → List Sector) (past : List Entry) (t : Tables) (x : Entry) → Follows base past t → IsTidy t → LegalAfter base past x ↔ LegalIn t x.event x.outcome
LegalAfter-in base past t x follows tidy =
    let writes = live_writes past in
    let reads = asked_reads past in
    let values = candidates base past in
    (legal_there writes reads values t follows tidy x.event x.outcome, legal_here writes reads values t follows tidy x.event x.outcome)

pub Follows-after : (base : ℕ → List Sector) (past : List Entry) (t : Tables) (x : Entry) → Follows base past t → IsTidy t → LegalIn t x.event x.outcome → Follows base (x ∷ past) (tables_after t x.event x.outcome)
Follows-after base past t x follows tidy legal = agrees_after (live_writes past) (asked_reads past) (candidates base past) t follows tidy x.event x.outcome legal

-- whether a live write is of the sector

not_of_sector : (s : ℕ) (found : Option AskedWrite) (w : PlainWrite) → plain_of found ≡ Some w → ((a : AskedWrite) → found ≡ Some a → a.sector ≢ s) → w.sector ≢ s
not_of_sector s None w is other = cc
not_of_sector s (Some a) w is other = grind (arith, other a refl)

free_from : (t : Tables) (s : ℕ) (any : Bool) → any_of_sector s t.writes ≡ any → IsTidy t → IsTrue (not any) → IsFree (writes_of t) s
free_from t s false is tidy passes = λ n k w live. not_of_sector s (write_in n k t.writes) w live (λ a found. any_of_sector-none s n k t.writes a is found)
free_from t s true is tidy fails = cc

free_to : (t : Tables) (s : ℕ) (any : Bool) → any_of_sector s t.writes ≡ any → IsTidy t → IsFree (writes_of t) s → IsTrue (not any)
free_to t s false is tidy free = refl
free_to t s true is tidy free =
    let f = any_of_sector-found s t.writes tidy.distinct is in
    absurd (free f.node f.number _ (ap plain_of f.found) f.sector)

pub free_test : (t : Tables) (s : ℕ) → IsTidy t → IsTrue (not (any_of_sector s t.writes)) ↔ IsFree (writes_of t) s
free_test t s tidy = (free_from t s (any_of_sector s t.writes) refl tidy, free_to t s (any_of_sector s t.writes) refl tidy)
