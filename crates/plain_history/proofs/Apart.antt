-- In a legal trace no two live writes are of one sector.
use Rattle.std.proofs.Common.{◌≡◌, ℕ, ◌==◌, ◌&&◌, List, [], ◌∷◌, Option, Some, None, arith, if◌then◌else◌}
use Rattle.mdc_types.specs.declared.numbers.Sector.{Sector}
use Rattle.mdc_types.specs.declared.events.Event.{Event}
use Rattle.mdc_types.specs.declared.events.Event.TheVariants.{AskWrite, Out, EndWrite, BreakWrite, Die}
use Rattle.mdc_types.specs.declared.outcomes.Outcome.{Outcome}
use Rattle.mdc_types.specs.declared.outcomes.Outcome.TheVariants.{Write, Io}
use Rattle.mdc_types.specs.declared.outcomes.Entry.{Entry}
use Rattle.plain_history.specs.History.{PlainWrite, asked, start, live_step, live_writes, IsFree, LegalEntry, Legal}

pub record AreApart (writes : ℕ → ℕ → Option PlainWrite) : Type 0 where
  pub apart : (n k m j : ℕ) (w u : PlainWrite) → writes n k ≡ Some w → writes m j ≡ Some u → w.sector ≡ u.sector → (n ≡ m) × (k ≡ j)

module _ (writes : ℕ → ℕ → Option PlainWrite) (i : AreApart writes) where
  asked_apart : (m j s : ℕ) (v : Sector) → IsFree writes s → AreApart (λ n k. if n == m && k == j then Some (asked s v) else writes n k)
  asked_apart m j s v free = grind arith

  started_apart : (m j : ℕ) → AreApart (λ n k. if n == m && k == j then start (writes n k) else writes n k)
  started_apart m j = grind arith

  ended_apart : (m j : ℕ) → AreApart (λ n k. if n == m && k == j then None else writes n k)
  ended_apart m j = grind arith

  died_apart : (m : ℕ) → AreApart (λ n k. if n == m then None else writes n k)
  died_apart m = grind arith

  apart_step : (reads : ℕ → ℕ → Option ℕ) (values : ℕ → List Sector) (e : Event) (o : Outcome) → LegalEntry writes reads values e o → AreApart (live_step e o writes)
  apart_step reads values (AskWrite m s v) (Write j) free = asked_apart m j s v free
  apart_step reads values (Out m j l) (Io h) legal = ended_apart m j
  apart_step reads values (Out m j l) o legal = started_apart m j
  apart_step reads values (EndWrite m j) o legal = ended_apart m j
  apart_step reads values (BreakWrite m j) o legal = ended_apart m j
  apart_step reads values (Die m) o legal = died_apart m
  apart_step reads values e o legal = i

pub live_apart : (base : ℕ → List Sector) (past : List Entry) → Legal base past → AreApart (live_writes past)
live_apart base [] legal = grind arith
live_apart base (x ∷ past) legal = apart_step (live_writes past) (live_apart base past legal.1) _ _ x.event x.outcome legal.0
