-- The values of open writes are candidates.
use Rattle.std.proofs.Common.{◌≡◌, ℕ, ◌==◌, ◌&&◌, List, [], ◌∷◌, Option, Some, None, refl, arith, if◌then◌else◌}
use Rattle.std.proofs.lemmas.Bool.Decides.{nat_tests}
use Rattle.mdc_types.specs.declared.numbers.Sector.{Sector}
use Rattle.mdc_types.specs.declared.events.Event.{Event}
use Rattle.mdc_types.specs.declared.events.Event.TheVariants.{Out, EndWrite, Settle}
use Rattle.mdc_types.specs.declared.outcomes.Outcome.{Outcome}
use Rattle.mdc_types.specs.declared.outcomes.Outcome.TheVariants.{Settled}
use Rattle.mdc_types.specs.declared.outcomes.Entry.{Entry}
use Rattle.plain_history.specs.History.{PlainWrite, live_writes, candidates, values_step, with_start, with_end, IsIn}
use Rattle.plain_history.specs.Open.{open_step, open_by, close, close_by, open_writes, OpenWritesAreCandidates}
use Rattle.plain_history.proofs.Members.{IsIn-last, IsIn-kept}

-- each of these writes has its value among the values of its sector
pub record AreIn (writes : ℕ → ℕ → Option PlainWrite) (values : ℕ → List Sector) : Type 0 where
  pub are_in : (n k : ℕ) (w : PlainWrite) → writes n k ≡ Some w → IsIn w.value (values w.sector)

kept_at_start : (found : Option PlainWrite) (s : ℕ) (values : List Sector) (v : Sector) → IsIn v values → IsIn v (with_start found s values)
kept_at_start None s values v has = has
kept_at_start (Some w) s values v has = grind (arith, IsIn-kept)

opened_at_start : (found old : Option PlainWrite) (values : ℕ → List Sector) (w : PlainWrite) → ((u : PlainWrite) → old ≡ Some u → IsIn u.value (values u.sector)) → open_by found old ≡ Some w → IsIn w.value (with_start found w.sector (values w.sector))
opened_at_start None old values w before is = before w is
opened_at_start (Some u) old values w before is = grind (arith, nat_tests, IsIn-kept, IsIn-last)

kept_at_end : (found old : Option PlainWrite) (values : ℕ → List Sector) (w : PlainWrite) → ((u : PlainWrite) → old ≡ Some u → IsIn u.value (values u.sector)) → close_by found old ≡ Some w → IsIn w.value (with_end found w.sector (values w.sector))
kept_at_end None old values w before is = before w is
kept_at_end (Some u) None values w before is = cc
kept_at_end (Some u) (Some x) values w before is = grind (arith, nat_tests, before x refl)

kept_at_settle : (old : Option PlainWrite) (s : ℕ) (v : Sector) (values : ℕ → List Sector) (w : PlainWrite) → ((u : PlainWrite) → old ≡ Some u → IsIn u.value (values u.sector)) → close s old ≡ Some w → IsIn w.value (if s == w.sector then v ∷ [] else values w.sector)
kept_at_settle None s v values w before is = cc
kept_at_settle (Some x) s v values w before is = grind (arith, nat_tests, before x refl)

module _ (live writes : ℕ → ℕ → Option PlainWrite) (values : ℕ → List Sector) (i : AreIn writes values) where
  at_out : (m j n k : ℕ) (w : PlainWrite) → (if n == m && k == j then open_by (live n k) (writes n k) else writes n k) ≡ Some w → IsIn w.value (with_start (live m j) w.sector (values w.sector))
  at_out m j n k w is = grind (arith, nat_tests, opened_at_start (live n k) (writes n k) values w (i.are_in n k), kept_at_start (live m j) w.sector (values w.sector) w.value, i.are_in n k w)

  step : (e : Event) (o : Outcome) → AreIn (open_step e o live writes) (values_step e o live values)
  step (Out m j l) o = record { are_in = at_out m j }
  step (EndWrite m j) o = record { are_in = λ n k w. kept_at_end (live m j) (writes n k) values w (i.are_in n k) }
  step (Settle m) (Settled s v) = record { are_in = λ n k w. kept_at_settle (writes n k) s v values w (i.are_in n k) }
  step e o = i

pub are_candidates : (base : ℕ → List Sector) (past : List Entry) → AreIn (open_writes past) (candidates base past)
are_candidates base [] = record { are_in = λ n k w is. cc }
are_candidates base (x ∷ past) = step (live_writes past) (open_writes past) (candidates base past) (are_candidates base past) x.event x.outcome

pub open_writes_are_candidates : OpenWritesAreCandidates
open_writes_are_candidates base past = (are_candidates base past).are_in
