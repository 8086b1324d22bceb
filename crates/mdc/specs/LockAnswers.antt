-- What the program answers to the word `locks`, and when.
use Rattle.std.specs.Prelude.{◌≡◌, ◌⊎◌, ℕ, List, Option, None}
use Rattle.mdc_types.specs.Faults.{Rose}
use Rattle.script_text.specs.declared.faults.ScriptFault.{ScriptFault}
use Rattle.script_text.specs.declared.locks.LockLine.{LockLine}
use Rattle.script_text.specs.Locks.{IsLockScript, lock_script_of, lock_fault_of}
use Rattle.script_text.specs.Outside.{with_back, WroteFront}
use Rattle.lock_script.specs.Runs.{RanAll, RanSome, RanCut}
use Rattle.mdc.specs.Call.{Outside, Wrote, WroteLess, Reads, read_fault_line, script_line}
use Rattle.mdc.specs.declared.status.Status.{Status}
use Rattle.mdc.specs.declared.status.Status.TheVariants as statuses

-- the bytes that were taken are this lock script
pub record ReadsLocks (o : Outside) (script : List LockLine) : Type 0 where
  pub bytes : List ℕ
  pub reads : Reads o bytes
  pub is : IsLockScript bytes script

-- they are no lock script, with this fault
pub record ReadsNoLocks (o : Outside) (fault : ScriptFault) : Type 0 where
  pub bytes : List ℕ
  pub reads : Reads o bytes
  pub none : lock_script_of bytes ≡ None
  pub is : fault ≡ lock_fault_of bytes

-- a front of what was to be written was written, and not all: of a last line, or of the text of the first lines
pub data LocksCut (o : Outside) : Type 0 where
  at_input : Rose o.source_faults o.source_faults_after → WroteLess o read_fault_line → LocksCut o
  at_fault : {fault : ScriptFault} → ReadsNoLocks o fault → WroteLess o (script_line fault) → LocksCut o
  in_run : {script : List LockLine} → ReadsLocks o script → RanCut script o.written o.written_after → LocksCut o

-- what each status says
abbrev pub LockAnswers : Outside → Status → Type 0
-- the lock script was run to its end
LockAnswers o statuses.Done = (script : List LockLine) × (ReadsLocks o script × RanAll script o.written o.written_after)
-- the bytes are no lock script
LockAnswers o (statuses.Script fault) = ReadsNoLocks o fault × Wrote o (script_line fault)
-- a read failed
LockAnswers o statuses.ReadFault = Rose o.source_faults o.source_faults_after × Wrote o read_fault_line
-- a write failed
LockAnswers o statuses.WriteFault = Rose o.sink_faults o.sink_faults_after × LocksCut o
-- memory is wanting: nothing was written, or the text of the first lines
LockAnswers o statuses.Memory = (o.written_after ≡ o.written) ⊎ ((script : List LockLine) × (ReadsLocks o script × RanSome script o.written o.written_after))
LockAnswers o status = ⊥

-- how bytes were judged and run, and what was written
abbrev pub LocksJudged : List ℕ → Option (List ℕ) → Option (List ℕ) → Status → Type 0
LocksJudged bytes written now statuses.Done = (script : List LockLine) × (IsLockScript bytes script × RanAll script written now)
LocksJudged bytes written now (statuses.Script fault) = (lock_script_of bytes ≡ None) × (fault ≡ lock_fault_of bytes) × (now ≡ with_back written (script_line fault))
LocksJudged bytes written now statuses.WriteFault =
    ((fault : ScriptFault) × ((lock_script_of bytes ≡ None) × (fault ≡ lock_fault_of bytes) × WroteFront written (script_line fault) now))
    ⊎ ((script : List LockLine) × (IsLockScript bytes script × RanCut script written now))
LocksJudged bytes written now statuses.Memory = (now ≡ written) ⊎ ((script : List LockLine) × (IsLockScript bytes script × RanSome script written now))
LocksJudged bytes written now status = ⊥

-- what was told of a script that is none
abbrev pub FaultTold : ScriptFault → Option (List ℕ) → Option (List ℕ) → Status → Type 0
FaultTold fault written now (statuses.Script told) =
    (told ≡ fault) × (now ≡ with_back written (script_line fault))
FaultTold fault written now statuses.WriteFault = WroteFront written (script_line fault) now
FaultTold fault written now statuses.Memory = now ≡ written
FaultTold fault written now status = ⊥
