-- The laws.
use Rattle.std.proofs.Common.{◌≡◌, List, [], ◌∷◌, refl, sym, subst}
use Rattle.mdc_types.specs.declared.outcomes.Entry.{Entry}
use Rattle.md_superblock.specs.Arrays.{Array}
use Rattle.plain_history.specs.History.{candidates, values_at, asked_reads, LegalEntry}
use Rattle.cluster_model.specs.State.{State}
use Rattle.cluster_model.specs.Contents.{SoundOpening}
use Rattle.cluster_model.specs.Opening.{Origin, array_of}
use Rattle.cluster_model.specs.Run.{Run}
use Rattle.cluster_model.specs.Served.{Intent}
use Rattle.laws_roles.specs.Laws.{Tells}
use Rattle.laws_roles.proofs.Parts.{ghost_in}
use Rattle.laws_roles.proofs.Parts as roles
use Rattle.laws_roles.proofs.Runs.{array_is}
use Rattle.storage_ways.proofs.Flying.{live_are}
use Rattle.storage_ways.proofs.Moving.{Traced, around}
use Rattle.storage_ways.proofs.Place.{here, Place}
use Rattle.storage_ways.proofs.Runs as run_places
use Rattle.storage_ways.proofs.Runs.{around_on, traced_in, place}
use Rattle.laws_writes.specs.Laws.{WritesHold, BitsHold, WindowsHold, CopiesHold, CopiesFreely, WritesAreLegal, RunsKeepTheIntent, RunsHoldWrites, RunsHoldBits, RunsHoldWindows, RunsCopyAlone, RunsCopyFreely, RunsWriteLegally}
use Rattle.laws_writes.proofs.Closed.{windows_hold}
use Rattle.laws_writes.proofs.Free.{copies_freely}
use Rattle.laws_writes.proofs.InState.{writes_hold, bits_hold, copies_hold}
use Rattle.laws_writes.proofs.Kept.{intent_holds}
use Rattle.laws_writes.proofs.Legal.{write_legal}
use Rattle.laws_writes.proofs.Runs.{ghost_of, written}
use Rattle.laws_writes.proofs.Written.{Written}

-- At a place of a run.
module _ (o : Origin) (start end : State) (past : List Entry) (sound : SoundOpening o start) (tells : Tells o start) (run : Run start past end) where
  abbrev rg : roles.Ghost
  rg = ghost_in o (run_places.home o start sound.opens tells) past

  abbrev tr : Traced
  tr = traced_in o start sound.opens tells past

  array : end.core.array ≡ array_of o
  array = array_is o start end past sound.opens run

  place_here : Place end.core (around end.core end.legs rg tr)
  place_here = subst (λ (a : Array). Place end.core (around_on a end.legs rg tr)) (sym array) (place o start sound.opens tells past end run)

  written_here : Written (here end.core (around end.core end.legs rg tr)) (ghost_of o start sound tells past end run)
  written_here = subst (λ (a : Array). Written (here end.core (around_on a end.legs rg tr)) (ghost_of o start sound tells past end run)) (sym array) (written o start sound tells past end run)

  pub intent_here : Intent end (candidates (values_at o.base) past)
  intent_here = intent_holds end rg tr place_here (ghost_of o start sound tells past end run) written_here.intents written_here.values

  pub writes_here : WritesHold end
  writes_here = writes_hold end (ghost_of o start sound tells past end run) (around end.core end.legs rg tr) place_here refl written_here.bits written_here.contents refl

  pub bits_here : BitsHold past end
  bits_here = bits_hold end (ghost_of o start sound tells past end run) (around end.core end.legs rg tr) place_here refl past refl written_here.bits written_here.contents written_here.broken

  pub windows_here : WindowsHold end
  windows_here = windows_hold end (around end.core end.legs rg tr) place_here written_here.windows

  pub freely_here : CopiesFreely end
  freely_here = copies_freely end (ghost_of o start sound tells past end run) (around end.core end.legs rg tr) place_here written_here.windows written_here.contents

  pub copies_here : CopiesHold end
  copies_here = copies_hold end (ghost_of o start sound tells past end run) (around end.core end.legs rg tr) place_here refl written_here.windows

legal_here : (o : Origin) (start end : State) (past : List Entry) → SoundOpening o start → Tells o start → Run start past end → WritesAreLegal (values_at o.base) past
legal_here o start end [] sound tells run = tt
legal_here o start end (x ∷ past) sound tells run = (
  λ of.
      subst (λ f. LegalEntry f (asked_reads past) (candidates (values_at o.base) past) x.event x.outcome) (sym (live_are o start run.0 past sound.opens run.1))
      (write_legal run.0.core _ (place_here o start run.0 past sound tells run.1) (ghost_of o start sound tells past run.0 run.1) (written_here o start run.0 past sound tells run.1).contents
      x.event x.outcome (asked_reads past) (candidates (values_at o.base) past) of run.2.accepted),
  legal_here o start run.0 past sound tells run.1,
)

-- The laws.

pub runs_keep_the_intent : RunsKeepTheIntent
runs_keep_the_intent o start end past sound tells run = intent_here o start end past sound tells run

pub runs_hold_writes : RunsHoldWrites
runs_hold_writes o start end past sound tells run = writes_here o start end past sound tells run

pub runs_hold_bits : RunsHoldBits
runs_hold_bits o start end past sound tells run = bits_here o start end past sound tells run

pub runs_hold_windows : RunsHoldWindows
runs_hold_windows o start end past sound tells run = windows_here o start end past sound tells run

pub runs_copy_alone : RunsCopyAlone
runs_copy_alone o start end past sound tells run = copies_here o start end past sound tells run

pub runs_copy_freely : RunsCopyFreely
runs_copy_freely o start end past sound tells run = freely_here o start end past sound tells run

pub runs_write_legally : RunsWriteLegally
runs_write_legally o start end past sound tells run = legal_here o start end past sound tells run
