-- What is known of stale legs, along each run.
use Rattle.std.proofs.Common.{List, [], ◌∷◌, refl, sym, subst}
use Rattle.mdc_types.specs.declared.outcomes.Entry.{Entry}
use Rattle.cluster_model.specs.State.{State}
use Rattle.cluster_model.specs.Contents.{SoundOpening}
use Rattle.cluster_model.specs.Opening.{Origin, array_of}
use Rattle.cluster_model.specs.Run.{Run}
use Rattle.laws_roles.specs.Laws.{Tells}
use Rattle.laws_roles.proofs.Parts.{supers}
use Rattle.storage_ways.proofs.Place.{here}
use Rattle.storage_ways.proofs.Runs as ways_runs
use Rattle.storage_ways.proofs.Runs.{around_at, At, run_ways}
use Rattle.laws_writes.proofs.Runs.{ghost_of, written}
use Rattle.laws_writes.proofs.Settled.{Since, Settled}
use Rattle.laws_recovery.proofs.FirstStale.{first_hold, first_since, first_stale, first_settled}
use Rattle.laws_recovery.proofs.Ghosts.{Hold}
use Rattle.laws_recovery.proofs.Recovered.{Recovered, hold_over, since_over, recovered_ways}
use Rattle.laws_recovery.proofs.Stale.{Stale}

module _ (o : Origin) (start : State) (sound : SoundOpening o start) (tells : Tells o start) where
  -- the ghosts at a place of a run
  abbrev pub hold_of : (past : List Entry) (end : State) → Run start past end → Hold
  hold_of [] end run = first_hold o start sound tells (supers (array_of o) start.legs) (ways_runs.home o start sound.opens tells)
  hold_of (x ∷ past) end run = hold_over (run_ways o start sound.opens tells past run.0 end x run.1 run.2) (ghost_of o start sound tells past run.0 run.1) (hold_of past run.0 run.1)

  abbrev pub since_of : (past : List Entry) (end : State) → Run start past end → Since
  since_of [] end run = first_since o start sound tells (supers (array_of o) start.legs) (ways_runs.home o start sound.opens tells)
  since_of (x ∷ past) end run = since_over (run_ways o start sound.opens tells past run.0 end x run.1 run.2) (since_of past run.0 run.1)

  first_recovered : Recovered (At o start sound.opens tells [] start) (ghost_of o start sound tells [] start refl) (hold_of [] start refl) (since_of [] start refl)
  first_recovered =
      let home = ways_runs.home o start sound.opens tells in
      let sup = supers (array_of o) start.legs in
      record {
        written = written o start sound tells [] start refl;
        settled = subst (λ c. Settled (here c (around_at o start sound.opens tells [] start)) (since_of [] start refl)) (sym sound.opens.core) (first_settled o start sound tells sup home);
        stale = subst (λ c. Stale (here c (around_at o start sound.opens tells [] start)) (ghost_of o start sound tells [] start refl) (hold_of [] start refl) (since_of [] start refl)) (sym sound.opens.core) (first_stale o start sound tells sup home);
        since = λ n s e. cc;
      }

  pub recovered : (past : List Entry) (end : State) (run : Run start past end) → Recovered (At o start sound.opens tells past end) (ghost_of o start sound tells past end run) (hold_of past end run) (since_of past end run)
  recovered [] end run = subst (λ s. Recovered (At o start sound.opens tells [] s) (ghost_of o start sound tells [] start refl) (hold_of [] start refl) (since_of [] start refl)) (sym run) first_recovered
  recovered (x ∷ past) end run =
      recovered_ways (At o start sound.opens tells past run.0) (At o start sound.opens tells (x ∷ past) end)
      (run_ways o start sound.opens tells past run.0 end x run.1 run.2) (ghost_of o start sound tells past run.0 run.1) (hold_of past run.0 run.1) (since_of past run.0 run.1) (recovered past run.0 run.1)
