-- The laws.
use Rattle.std.proofs.Common.{◌≡◌, ◌⊎◌, ℕ, inl, inr, ◌<◌, true, List, [], ◌∷◌, None, sym, subst, ◌∙◌}
use Rattle.mdc_types.specs.Geometry.{chunk_of}
use Rattle.mdc_types.specs.declared.events.Event.{Event}
use Rattle.mdc_types.specs.declared.events.Event.TheVariants as events
use Rattle.mdc_types.specs.declared.outcomes.Outcome.{Outcome}
use Rattle.mdc_types.specs.declared.outcomes.Entry.{Entry}
use Rattle.md_superblock.specs.Arrays.{Array}
use Rattle.plain_history.specs.History.{Legal, LegalEntry, candidates, values_at, asked_reads}
use Rattle.cluster_model.specs.State.{State, sizes, place_of}
use Rattle.cluster_model.specs.Contents.{SoundOpening}
use Rattle.cluster_model.specs.Opening.{Origin, array_of}
use Rattle.cluster_model.specs.Run.{Run, Step}
use Rattle.cluster_model.specs.Served.{NoTrustedLegIsStale, Missed}
use Rattle.cluster_model.specs.Table.{refusal}
use Rattle.cluster_model.specs.Transfers.{reads_from}
use Rattle.laws_roles.specs.Agreed.{Agreed, agreed_in}
use Rattle.laws_roles.specs.Laws.{Tells}
use Rattle.laws_roles.proofs.Known.{known}
use Rattle.laws_roles.proofs.Parts.{ghost_in}
use Rattle.laws_roles.proofs.Parts as roles
use Rattle.laws_roles.proofs.Promises.{ghost_agreed}
use Rattle.laws_roles.proofs.Runs.{array_is}
use Rattle.laws_sound.proofs.Failing.{transfer_leg}
use Rattle.storage_ways.proofs.Flying.{flying, live_are}
use Rattle.storage_ways.proofs.Moving.{Traced, around}
use Rattle.storage_ways.proofs.Place.{here, Place, sound_of}
use Rattle.storage_ways.proofs.Runs as run_places
use Rattle.storage_ways.proofs.Runs.{around_on, traced_in, place, legs_tell}
use Rattle.laws_writes.proofs.Ghosts.{Ghost}
use Rattle.laws_writes.proofs.Legal.{write_legal}
use Rattle.laws_writes.proofs.Runs.{ghost_of}
use Rattle.laws_writes.proofs.Settled.{Since}
use Rattle.laws_recovery.specs.Laws.{RebuildHolds, AgainHolds, RecoveryHolds, RunsServeNoStaleLeg, RunsMarkWhatIsMissed, RunsAreLegal, RunsRebuild, RunsAddAgain, RunsRecover, Holds}
use Rattle.laws_recovery.proofs.Asked.{Reads, reading, in_reads, asked_are}
use Rattle.laws_recovery.proofs.Ghosts.{Hold}
use Rattle.laws_recovery.proofs.InState.{serves_fresh, marks_missed, rebuilds, adds_again, recovers_here, reads_here, served_holds}
use Rattle.laws_recovery.proofs.Known.{Known}
use Rattle.laws_recovery.proofs.Legal.{read_legal, settle_legal}
use Rattle.laws_recovery.proofs.Recovered.{Recovered, known_of}
use Rattle.laws_recovery.proofs.Runs.{hold_of, since_of, recovered}

-- At a place of a run.
module _ (o : Origin) (start end : State) (past : List Entry) (sound : SoundOpening o start) (tells : Tells o start) (run : Run start past end) where
  abbrev rg : roles.Ghost
  rg = ghost_in o (run_places.home o start sound.opens tells) past

  abbrev tr : Traced
  tr = traced_in o start sound.opens tells past

  abbrev g : Ghost
  g = ghost_of o start sound tells past end run

  abbrev h : Hold
  h = hold_of o start sound tells past end run

  abbrev z : Since
  z = since_of o start sound tells past end run

  array : end.core.array ≡ array_of o
  array = array_is o start end past sound.opens run

  place_here : Place end.core (around end.core end.legs rg tr)
  place_here = subst (λ (a : Array). Place end.core (around_on a end.legs rg tr)) (sym array) (place o start sound.opens tells past end run)

  recovered_here : Recovered (here end.core (around end.core end.legs rg tr)) g h z
  recovered_here = subst (λ (a : Array). Recovered (here end.core (around_on a end.legs rg tr)) g h z) (sym array) (recovered o start sound tells past end run)

  known_here : Known (here end.core (around end.core end.legs rg tr)) g h z
  known_here = known_of (here end.core (around end.core end.legs rg tr)) g h z (sound_of end.core (around end.core end.legs rg tr) place_here) recovered_here

  pub serves_here : NoTrustedLegIsStale end (candidates (values_at o.base) past)
  serves_here = serves_fresh end rg tr place_here g h z known_here recovered_here.written.values

  pub missed_here : Missed end (candidates (values_at o.base) past)
  missed_here = marks_missed end rg tr place_here g h z known_here recovered_here.written.values

  pub rebuild_here : RebuildHolds (candidates (values_at o.base) past) end
  rebuild_here = rebuilds end rg tr place_here g h z known_here recovered_here.written.values

  pub again_here : AgainHolds (agreed_in o past) (candidates (values_at o.base) past) end
  again_here = subst (λ (a : Agreed). AgainHolds a (candidates (values_at o.base) past) end) (ghost_agreed o (run_places.home o start sound.opens tells) past) (adds_again end rg tr place_here g h z known_here recovered_here.written.values)

  pub recovery_here : RecoveryHolds past end
  recovery_here = record {
    slot = λ n r is. (recovers_here end rg tr place_here g h z known_here recovered_here.written.values n r is).0;
    heir = λ n r is. (recovers_here end rg tr place_here g h z known_here recovered_here.written.values n r is).1;
    found = λ n c r is found. settled_or _ n c (reads_here end rg tr place_here g h z known_here recovered_here.written.values n c r is found);
  }
    where
      settled_or : (A : Type 0) (n c : ℕ) → A ⊎ ((s : ℕ) → s < (sizes end.core).room → chunk_of (sizes end.core) s ≡ c → z.since n s ≡ true) → A ⊎ ((s : ℕ) → s < (sizes end.core).room → chunk_of (sizes end.core) s ≡ c → tr.since n s ≡ true)
      settled_or A n c (inl a) = inl a
      settled_or A n c (inr f) = inr (λ s lt is. recovered_here.since n s (f s lt is))

  -- a leg that a read is given holds a candidate
  given_here : (n k : ℕ) → refusal end.core (events.In n k) ≡ None → (r : Reads end.core n k) → Holds end (candidates (values_at o.base) past) r.leg r.read.sector × (end.legs.told r.leg ≡ true)
  given_here n k ok r =
      let all = known o start end past sound.opens run in
      let below = ((all.range.flight.requests n).read_sectors k r.read r.found).0 in
      let leg = transfer_leg end.core (events.In n k) (reads_from n r.leg (place_of end.core r.read.sector)) all.range.legs ok r.transfer in (
        served_holds end rg tr place_here g h z known_here recovered_here.written.values n r.leg r.read.sector r.up r.works below,
        legs_tell start end past run r.leg ∙ tells.legs r.leg (subst (λ (a : Array). r.leg < a.sizes.legs) array leg),
      )

  entry_here : (new : State) (x : Entry) → Step end x.event x.outcome new → LegalEntry (flying end.core.writes) (reading end.core.reads) (candidates (values_at o.base) past) x.event x.outcome
  entry_here new x s = by x.event x.outcome s
    where
      by : (e : Event) (out : Outcome) → Step end e out new → LegalEntry (flying end.core.writes) (reading end.core.reads) (candidates (values_at o.base) past) e out
      by (events.In n k) out s = let r = in_reads end.core (known o start end past sound.opens run) n k s.accepted in
          read_legal end (flying end.core.writes) (candidates (values_at o.base) past) n k out new.legs r (given_here n k s.accepted r) s.moves
      by (events.Settle n) out s = settle_legal end (flying end.core.writes) (candidates (values_at o.base) past) n out new.legs (λ b is. rebuild_here.buffer n b is) s.moves
      by (events.AskWrite n t v) out s = write_legal end.core _ place_here g recovered_here.written.contents (events.AskWrite n t v) out (reading end.core.reads) (candidates (values_at o.base) past) tt s.accepted
      by (events.EndWrite n k) out s = write_legal end.core _ place_here g recovered_here.written.contents (events.EndWrite n k) out (reading end.core.reads) (candidates (values_at o.base) past) tt s.accepted
      by e out s = tt

legal_here : (o : Origin) (start end : State) (past : List Entry) → SoundOpening o start → Tells o start → Run start past end → Legal (values_at o.base) past
legal_here o start end [] sound tells run = tt
legal_here o start end (x ∷ past) sound tells run = (
  subst (λ f. LegalEntry f (asked_reads past) (candidates (values_at o.base) past) x.event x.outcome) (sym (live_are o start run.0 past sound.opens run.1))
      (subst (λ f. LegalEntry (flying run.0.core.writes) f (candidates (values_at o.base) past) x.event x.outcome) (sym (asked_are o start run.0 past sound.opens run.1))
      (entry_here o start run.0 past sound tells run.1 end x run.2)),
  legal_here o start run.0 past sound tells run.1,
)

-- The laws.

pub runs_serve_no_stale_leg : RunsServeNoStaleLeg
runs_serve_no_stale_leg o start end past sound tells run = serves_here o start end past sound tells run

pub runs_mark_what_is_missed : RunsMarkWhatIsMissed
runs_mark_what_is_missed o start end past sound tells run = missed_here o start end past sound tells run

pub runs_are_legal : RunsAreLegal
runs_are_legal o start end past sound tells run = legal_here o start end past sound tells run

pub runs_rebuild : RunsRebuild
runs_rebuild o start end past sound tells run = rebuild_here o start end past sound tells run

pub runs_add_again : RunsAddAgain
runs_add_again o start end past sound tells run = again_here o start end past sound tells run

pub runs_recover : RunsRecover
runs_recover o start end past sound tells run = recovery_here o start end past sound tells run
