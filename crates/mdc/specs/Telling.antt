-- How the last line of a call that comes to nothing was told.
use Rattle.std.specs.Prelude.{◌≡◌, ℕ, List, Option}
use Rattle.mdc_types.specs.Faults.{Rose}
use Rattle.script_text.specs.Outside.{with_back, WroteFront}
use Rattle.mdc.specs.Call.{Outside, Wrote, WroteLess, read_fault_line}
use Rattle.mdc.specs.declared.status.Status.{Status}
use Rattle.mdc.specs.declared.status.Status.TheVariants as statuses

-- all of the line was written; or a front of it, and not all, and then a write failed
pub data LineTold (line : List ℕ) (told : Status) (w now : Option (List ℕ)) (before after : ℕ)
    : Status → Type 0 where
  whole : now ≡ with_back w line → LineTold line told w now before after told
  short : Rose before after → WroteFront w line now
      → LineTold line told w now before after statuses.WriteFault

-- the input wasn't read
pub data InputTold (o : Outside) : Status → Type 0 where
  -- a read failed, and that was told
  failed : Rose o.source_faults o.source_faults_after → Wrote o read_fault_line
      → InputTold o statuses.ReadFault
  -- a read failed, and then a write
  cut : Rose o.source_faults o.source_faults_after → Rose o.sink_faults o.sink_faults_after
      → WroteLess o read_fault_line → InputTold o statuses.WriteFault
  wants_memory : o.written_after ≡ o.written → InputTold o statuses.Memory
