-- What is known of writes, along each run.
use Rattle.std.proofs.Common.{◌≡◌, ℕ, ◌<◌, if◌then◌else◌, Bool, true, false, List, [], ◌∷◌, refl, sym, subst, arith}
use Rattle.std.specs.Prelude.{nat_lt}
use Rattle.std.proofs.lemmas.Bool.Decides.{nat_tests}
use Rattle.mdc_types.specs.Sectors.{zero_sector}
use Rattle.mdc_types.specs.declared.outcomes.Entry.{Entry}
use Rattle.plain_history.specs.History.{values_at}
use Rattle.cluster_model.specs.State.{State}
use Rattle.cluster_model.specs.Contents.{SoundOpening}
use Rattle.cluster_model.specs.Opening.{Origin, array_of}
use Rattle.cluster_model.specs.Run.{Run}
use Rattle.laws_roles.specs.Laws.{Tells}
use Rattle.laws_roles.proofs.Parts.{supers}
use Rattle.storage_ways.proofs.Place.{here}
use Rattle.storage_ways.proofs.Runs as ways_runs
use Rattle.storage_ways.proofs.Runs.{around_on, around_at, At, place, run_ways}
use Rattle.laws_writes.proofs.Ghosts.{Ghost}
use Rattle.laws_writes.proofs.First.{first_bits, first_windows, first_contents, first_pages, first_intents}
use Rattle.laws_writes.proofs.FirstKeepers.{first_ghost, first_values}
use Rattle.laws_writes.proofs.Written.{Written, ghost_over, written_ways}

module _ (o : Origin) (start : State) (sound : SoundOpening o start) (tells : Tells o start) where
  -- the ghosts of writes at a place of a run
  abbrev pub ghost_of : (past : List Entry) (end : State) → Run start past end → Ghost
  ghost_of [] end run = first_ghost o start.legs
  ghost_of (x ∷ past) end run = ghost_over (run_ways o start sound.opens tells past run.0 end x run.1 run.2) (ghost_of past run.0 run.1)

  first_values_are : (s : ℕ) → s < o.sizes.room → first_values o s ≡ values_at o.base s
  first_values_are s lt = by (nat_lt s o.sizes.room) (grind (arith, nat_tests))
    where
      by : (b : Bool) → b ≡ true → (if b then values_at o.base s else zero_sector ∷ []) ≡ values_at o.base s
      by true e = refl
      by false e = cc

  first_written : Written (At o start sound.opens tells [] start) (first_ghost o start.legs)
  first_written =
      let home = ways_runs.home o start sound.opens tells in
      let sup = supers (array_of o) start.legs in
      subst (λ c. Written (here c (around_at o start sound.opens tells [] start)) (first_ghost o start.legs)) (sym sound.opens.core)
      (record {
        bits = first_bits o start sound tells sup home;
        windows = first_windows o start sound tells sup home;
        contents = first_contents o start sound tells sup home;
        pages = first_pages o start sound tells sup home;
        intents = first_intents o start sound tells sup home;
        values = λ s lt. first_values_are s lt;
        broken = λ n s live e. cc;
      })

  pub written : (past : List Entry) (end : State) (run : Run start past end) → Written (At o start sound.opens tells past end) (ghost_of past end run)
  written [] end run = subst (λ s. Written (At o start sound.opens tells [] s) (first_ghost o start.legs)) (sym run) first_written
  written (x ∷ past) end run =
      written_ways (At o start sound.opens tells past run.0) (At o start sound.opens tells (x ∷ past) end)
      (run_ways o start sound.opens tells past run.0 end x run.1 run.2) (ghost_of past run.0 run.1) (written past run.0 run.1)
