-- Reads and settles give candidates, in one state.
use Rattle.std.proofs.Common.{◌≡◌, ℕ, Bool, true, false, if◌then◌else◌, List, Option, Some, None, refl, sym, ap, subst, ◌∙◌}
use Rattle.mdc_types.specs.declared.events.Event.{Event}
use Rattle.mdc_types.specs.declared.events.Event.TheVariants as events
use Rattle.mdc_types.specs.declared.numbers.Sector.{Sector}
use Rattle.mdc_types.specs.declared.outcomes.Outcome.{Outcome}
use Rattle.mdc_types.specs.declared.outcomes.Outcome.TheVariants as outcomes
use Rattle.leg_failure.specs.Views.{is_last}
use Rattle.mirror_io.specs.Flight.{read_in}
use Rattle.mirror_io.specs.declared.live.LiveRead.{LiveRead}
use Rattle.resync_worker.specs.declared.buffer.Buffer.{Buffer}
use Rattle.plain_history.specs.History.{PlainWrite, LegalEntry, IsReadable, IsAsked, IsIn}
use Rattle.cluster_model.specs.State.{State, Legs, sizes, place_of}
use Rattle.cluster_model.specs.Copying.{buffer_of, settled_with}
use Rattle.cluster_model.specs.Failures.{failure}
use Rattle.cluster_model.specs.Reads.{read_sector}
use Rattle.cluster_model.specs.Run.{Moves, Quiet, Written, Read, Failed, Left}
use Rattle.cluster_model.specs.Stored.{data_on}
use Rattle.cluster_model.specs.Transfers.{Transfer}
use Rattle.laws_recovery.specs.Laws.{Holds}
use Rattle.laws_recovery.proofs.Asked.{Reads, reading}

abbrev LegalHere : State → (ℕ → ℕ → Option PlainWrite) → (ℕ → List Sector) → Event → Outcome → Type 0
LegalHere old writes values e o = LegalEntry writes (reading old.core.reads) values e o

module _ (old : State) (writes : ℕ → ℕ → Option PlainWrite) (values : ℕ → List Sector) where
  asked_by : (n k : ℕ) (r : LiveRead) → read_in k (old.core.reads n) ≡ Some r → IsAsked (reading old.core.reads n k)
  asked_by n k r found = subst IsAsked (sym (ap read_sector found)) tt

  readable_by : (n k : ℕ) (r : LiveRead) (v : Sector) → read_in k (old.core.reads n) ≡ Some r → IsIn v (values r.sector) → IsReadable v values (reading old.core.reads n k)
  readable_by n k r v found has = subst (IsReadable v values) (sym (ap read_sector found)) has

  failed_legal : (n k : ℕ) (t : Transfer) (r : LiveRead) → read_in k (old.core.reads n) ≡ Some r → LegalHere old writes values (events.In n k) (failure old.core (events.In n k) t)
  failed_legal n k t r found = by (is_last (old.core.view t.node) t.leg)
    where
      by : (b : Bool) → LegalHere old writes values (events.In n k) (if b then outcomes.Io t.leg else outcomes.Lost t.leg)
      by true = asked_by n k r found
      by false = asked_by n k r found

  same_transfer : (s t : Transfer) → Some s ≡ Some t → s ≡ t
  same_transfer s t e = cc

  -- what is read is a candidate, where the leg that is read holds one and tells
  pub read_legal : (n k : ℕ) (o : Outcome) (new : Legs) (r : Reads old.core n k) → Holds old values r.leg r.read.sector × (old.legs.told r.leg ≡ true)
      → Moves old (events.In n k) o new → LegalHere old writes values (events.In n k) o
  read_legal n k o new r fresh (Quiet nothing is legs) = let t = r.transfer in cc
  read_legal n k o new r fresh (Written t v at value path is legs) = subst (LegalHere old writes values (events.In n k)) (sym is) (asked_by n k r.read r.found)
  read_legal n k o new r fresh (Read t v at value path gives is legs) =
      let here = same_transfer _ t (sym r.transfer ∙ at) in
      let leg : r.leg ≡ t.leg = ap (λ (x : Transfer). x.leg) here in
      let place : place_of old.core r.read.sector ≡ t.place = ap (λ (x : Transfer). x.place) here in
      let given : v ≡ data_on (sizes old.core) old.legs r.leg r.read.sector = gives (subst (λ l. old.legs.told l ≡ true) leg fresh.1) ∙ ap (λ l. old.legs.content l t.place) (sym leg) ∙ ap (old.legs.content r.leg) (sym place) in
      subst (LegalHere old writes values (events.In n k)) (sym is) (readable_by n k r.read v r.found (subst (λ u. IsIn u (values r.read.sector)) (sym given) fresh.0))
  read_legal n k o new r fresh (Failed t at is legs) = subst (LegalHere old writes values (events.In n k)) (sym is) (failed_legal n k t r.read r.found)
  read_legal n k o new r fresh (Left t v at value path is legs) = subst (LegalHere old writes values (events.In n k)) (sym is) (failed_legal n k t r.read r.found)

  settled_legal : (n : ℕ) (x : Option Buffer) → ((b : Buffer) → x ≡ Some b → IsIn b.value (values b.sector)) → LegalHere old writes values (events.Settle n) (settled_with x)
  settled_legal n None has = tt
  settled_legal n (Some b) has = has b refl

  -- what is settled is a candidate
  pub settle_legal : (n : ℕ) (o : Outcome) (new : Legs) → ((b : Buffer) → buffer_of old.core n ≡ Some b → IsIn b.value (values b.sector)) → Moves old (events.Settle n) o new → LegalHere old writes values (events.Settle n) o
  settle_legal n o new has (Quiet nothing is legs) = subst (LegalHere old writes values (events.Settle n)) (sym is) (settled_legal n (buffer_of old.core n) has)
  settle_legal n o new has (Written t v at value path is legs) = cc
  settle_legal n o new has (Read t v at value path gives is legs) = cc
  settle_legal n o new has (Failed t at is legs) = cc
  settle_legal n o new has (Left t v at value path is legs) = cc
