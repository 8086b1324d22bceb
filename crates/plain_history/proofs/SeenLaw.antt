-- Finished writes are seen.
use Rattle.std.proofs.Common.{◌≡◌, ◌⊎◌, inl, inr, refl, subst, ℕ, ◌==◌, ◌&&◌, false, true, List, [], ◌∷◌, ◌++◌, Option, Some, None, arith, if◌then◌else◌}
use Rattle.mdc_types.specs.declared.numbers.Sector.{Sector}
use Rattle.mdc_types.specs.declared.events.Event.{Event}
use Rattle.mdc_types.specs.declared.events.Event.TheVariants.{AskWrite, Out, EndWrite, BreakWrite, In, Die, Settle}
use Rattle.mdc_types.specs.declared.outcomes.Outcome.{Outcome}
use Rattle.mdc_types.specs.declared.outcomes.Outcome.TheVariants.{Write, Io, Settled}
use Rattle.mdc_types.specs.declared.outcomes.Entry.{Entry}
use Rattle.plain_history.specs.History.{PlainWrite, asked, start, live_step, live_writes, asked_reads, with_start, with_end, values_step, candidates, IsIn, HasBegun, IsReadable, LegalEntry, LegalAfter, Legal}
use Rattle.plain_history.specs.Seen.{Ends, Gives, StartedSince, FinishedWritesAreSeen}
use Rattle.plain_history.proofs.Apart.{AreApart, live_apart}
use Rattle.plain_history.proofs.Members.{IsIn-cases, IsIn-only}

-- each candidate is v or meets P, and so does the value of each live write of the sector that has started
pub record Covers (s : ℕ) (v : Sector) (P : Sector → Type 0) (writes : ℕ → ℕ → Option PlainWrite) (values : List Sector) : Type 0 where
  pub candidate : (u : Sector) → IsIn u values → (u ≡ v) ⊎ P u
  pub begun : (n k : ℕ) (w : PlainWrite) → writes n k ≡ Some w → w.sector ≡ s → w.begun ≡ true → P w.value

module _ (s : ℕ) (v : Sector) (P Q : Sector → Type 0) (more : (u : Sector) → P u → Q u) (writes : ℕ → ℕ → Option PlainWrite) (values : List Sector) (i : Covers s v P writes values) where
  start_covers : (m j : ℕ) (found : Option PlainWrite) → writes m j ≡ found → ((w : PlainWrite) → found ≡ Some w → w.begun ≡ false → w.sector ≡ s → Q w.value)
      → Covers s v Q (λ n k. if n == m && k == j then start (writes n k) else writes n k) (with_start found s values)
  start_covers m j None is new = grind arith
  start_covers m j (Some w) is new = grind (arith, IsIn-cases)

  ask_covers : (m j t : ℕ) (u : Sector) → Covers s v Q (λ n k. if n == m && k == j then Some (asked t u) else writes n k) values
  ask_covers m j t u = grind arith

  end_covers : (m j : ℕ) (found : Option PlainWrite) → writes m j ≡ found → HasBegun found → Covers s v Q (λ n k. if n == m && k == j then None else writes n k) (with_end found s values)
  end_covers m j None is begun = absurd begun
  end_covers m j (Some w) is begun = grind (arith, IsIn-only, i.begun m j w is)

  break_covers : (m j : ℕ) (found : Option PlainWrite) → ((w : PlainWrite) → found ≡ Some w → w.begun ≡ false → w.sector ≡ s → Q w.value)
      → Covers s v Q (λ n k. if n == m && k == j then None else writes n k) (with_start found s values)
  break_covers m j None new = grind arith
  break_covers m j (Some w) new = grind (arith, IsIn-cases)

  drop_covers : (m j : ℕ) → Covers s v Q (λ n k. if n == m && k == j then None else writes n k) values
  drop_covers m j = grind arith

  die_covers : (m : ℕ) → Covers s v Q (λ n k. if n == m then None else writes n k) values
  die_covers m = grind arith

  settle_covers : (t : ℕ) (u : Sector) → (t ≡ s → IsIn u values) → Covers s v Q writes (if t == s then u ∷ [] else values)
  settle_covers t u legal = grind (arith, IsIn-only)

  same_covers : Covers s v Q writes values
  same_covers = grind arith

-- one entry more
covers_step : (s : ℕ) (v : Sector) (P Q : Sector → Type 0) (more : (u : Sector) → P u → Q u) (writes : ℕ → ℕ → Option PlainWrite) (reads : ℕ → ℕ → Option ℕ) (values : ℕ → List Sector)
    → Covers s v P writes (values s) → (e : Event) (o : Outcome)
    → ((n k l : ℕ) (w : PlainWrite) → e ≡ Out n k l → writes n k ≡ Some w → w.begun ≡ false → w.sector ≡ s → Q w.value)
    → LegalEntry writes reads values e o → Covers s v Q (live_step e o writes) (values_step e o writes values s)
covers_step s v P Q more writes reads values i (AskWrite m t u) (Write j) new legal = ask_covers s v P Q more writes (values s) i m j t u
covers_step s v P Q more writes reads values i (Out m j l) (Io h) new legal = break_covers s v P Q more writes (values s) i m j (writes m j) (λ w. new m j l w refl)
covers_step s v P Q more writes reads values i (Out m j l) o new legal = start_covers s v P Q more writes (values s) i m j (writes m j) refl (λ w. new m j l w refl)
covers_step s v P Q more writes reads values i (EndWrite m j) o new legal = end_covers s v P Q more writes (values s) i m j (writes m j) refl legal
covers_step s v P Q more writes reads values i (BreakWrite m j) o new legal = drop_covers s v P Q more writes (values s) i m j
covers_step s v P Q more writes reads values i (Die m) o new legal = die_covers s v P Q more writes (values s) i m
covers_step s v P Q more writes reads values i (Settle m) (Settled t u) new legal = settle_covers s v P Q more writes (values s) i t u (λ same. subst (λ j. IsIn u (values j)) same legal)
covers_step s v P Q more writes reads values i e o new legal = same_covers s v P Q more writes (values s) i

-- at the end of a write its value is the only candidate, and no live write is of its sector
ended_covers : (s : ℕ) (v : Sector) (writes : ℕ → ℕ → Option PlainWrite) (values : List Sector) (m j : ℕ) (w : PlainWrite) (found : Option PlainWrite) → AreApart writes
    → writes m j ≡ found → found ≡ Some w → w.sector ≡ s → w.value ≡ v → Covers s v (λ _. ⊥) (λ n k. if n == m && k == j then None else writes n k) (with_end found s values)
ended_covers s v writes values m j w None i at is sector value = cc
ended_covers s v writes values m j w (Some u) i at is sector value = grind (arith, IsIn-only)

end_covers_at : (s : ℕ) (v : Sector) (base : ℕ → List Sector) (past : List Entry) (end : Entry) → Legal base past → Ends past end s v
    → Covers s v (λ _. ⊥) (live_writes (end ∷ past)) (candidates base (end ∷ past) s)
end_covers_at s v base past end legal is =
    rw is.event (ended_covers s v (live_writes past) (candidates base past s) is.node is.number is.write (live_writes past is.node is.number) (live_apart base past legal) refl is.live is.sector is.value)

-- what was legal at a place was so before
pub Legal-before : (base : ℕ → List Sector) (later past : List Entry) → Legal base (later ++ past) → Legal base past
Legal-before base [] past legal = legal
Legal-before base (x ∷ later) past legal = Legal-before base later past legal.1

covers_since : (s : ℕ) (v : Sector) (base : ℕ → List Sector) (past between : List Entry) (end : Entry) → Legal base (between ++ end ∷ past) → Ends past end s v
    → Covers s v (StartedSince between (end ∷ past) s) (live_writes (between ++ end ∷ past)) (candidates base (between ++ end ∷ past) s)
covers_since s v base past [] end legal is = end_covers_at s v base past end legal.1 is
covers_since s v base past (x ∷ between) end legal is =
    covers_step s v _ (StartedSince (x ∷ between) (end ∷ past) s) (λ u since. inr since) (live_writes (between ++ end ∷ past)) (asked_reads (between ++ end ∷ past)) (candidates base (between ++ end ∷ past))
    (covers_since s v base past between end legal.1 is) x.event x.outcome
    (λ n k l w event live first sector. inl (record { node = n; number = k; leg = l; write = w; event = event; live = live; first = first; sector = sector; value = refl })) legal.0

-- what a legal read gives is a candidate
pub read_gives : (base : ℕ → List Sector) (past : List Entry) (x : Entry) (s : ℕ) (v : Sector) → LegalAfter base past x → Gives past x s v → IsIn v (candidates base past s)
read_gives base past x s v legal is =
    let at_event : LegalEntry (live_writes past) (asked_reads past) (candidates base past) (In is.node is.number) x.outcome = subst (λ e. LegalEntry (live_writes past) (asked_reads past) (candidates base past) e x.outcome) is.event legal in
    let at_value : IsReadable v (candidates base past) (asked_reads past is.node is.number) = subst (λ o. LegalEntry (live_writes past) (asked_reads past) (candidates base past) (In is.node is.number) o) is.outcome at_event in
    subst (λ found. IsReadable v (candidates base past) found) is.asked at_value

pub finished_writes_are_seen : FinishedWritesAreSeen
finished_writes_are_seen base past between later end read s v u legal ends gives =
    let here : Legal base (read ∷ (between ++ end ∷ past)) = Legal-before base later (read ∷ (between ++ end ∷ past)) legal in
    (covers_since s v base past between end here.1 ends).candidate u (read_gives base (between ++ end ∷ past) read s u here.0 gives)
