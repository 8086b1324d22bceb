-- What the program answers, and when.
use Rattle.std.specs.Prelude.{◌≡◌, ◌⊎◌, ℕ, List, Option, None, Result, Ok, Err}
use Rattle.mdc_types.specs.Faults.{Rose}
use Rattle.command_words.specs.Commands.{CommandValue}
use Rattle.command_words.specs.Commands.CommandValue.{Create, Show, Play, PlayImages, Upgrade, Locks, Wire}
use Rattle.command_words.specs.declared.command.WordsEnd.{WordsEnd}
use Rattle.image_ends.specs.Seen.{ShelfSeen}
use Rattle.script_text.specs.declared.faults.ScriptFault.{ScriptFault}
use Rattle.script_text.specs.Outside.{with_back, WroteFront}
use Rattle.script_text.specs.Script.{ScriptValue, IsScript, script_of, fault_of}
use Rattle.mdc.specs.Call.{Outside, Wrote, WroteLess, Reads, KeepsShelf, KeepsSource}
use Rattle.mdc.specs.Call.{usage_line, read_fault_line, script_line}
use Rattle.mdc.specs.ImageAnswers.{CreateAnswers, ShowAnswers, UpgradeAnswers, PlayImagesAnswers}
use Rattle.mdc.specs.LockAnswers.{LockAnswers}
use Rattle.cluster_core.specs.Stands.{Stand}
use Rattle.script_play.specs.Running.{RunText}
use Rattle.script_play.specs.declared.running.RunEnd.TheVariants as ends
use Rattle.mdc.specs.Playing.{Playing, RanTo}
use Rattle.mdc.specs.WireAnswers.{WireAnswers}
use Rattle.mdc.specs.declared.status.Status.{Status}
use Rattle.mdc.specs.declared.status.Status.TheVariants as statuses

-- Playing.

-- the bytes that were taken are this script
pub record ReadsScript (o : Outside) (script : ScriptValue) : Type 0 where
  pub bytes : List ℕ
  pub reads : Reads o bytes
  pub is : IsScript bytes script

-- they are no script, with this fault
pub record ReadsNone (o : Outside) (fault : ScriptFault) : Type 0 where
  pub bytes : List ℕ
  pub reads : Reads o bytes
  pub none : script_of bytes ≡ None
  pub is : fault ≡ fault_of bytes

-- how a script ran, and what was written of its text
abbrev pub RanScript : ScriptValue → Option (List ℕ) → Option (List ℕ) → Status → Type 0
-- to its end
RanScript script written now statuses.Done = RanTo script written now ends.Done
-- up to an event that found the trace full
RanScript script written now statuses.TraceFull = RanTo script written now ends.TraceFull
-- up to a write that failed: a front of the text was written, but not all
RanScript script written now statuses.WriteFault = RanTo script written now ends.Write
-- up to a want of memory: nothing was written, or the text of the first lines
RanScript script written now statuses.Memory = (now ≡ written) ⊎ RanTo script written now ends.Memory
RanScript script written now s = ⊥

-- what is to be written, as far as the call comes
pub data IsText (o : Outside) : List ℕ → Type 0 where
  no_input : Rose o.source_faults o.source_faults_after → IsText o read_fault_line
  no_script : {fault : ScriptFault} → ReadsNone o fault → IsText o (script_line fault)
  of_run : {script : ScriptValue} {last : Stand} {text : List ℕ} → ReadsScript o script
      → RunText (Playing script) script.lines last text → IsText o text

-- how bytes were judged and played, and what was written
abbrev pub Judged : List ℕ → Option (List ℕ) → Option (List ℕ) → Status → Type 0
Judged bytes written now (statuses.Script fault) =
    (script_of bytes ≡ None) × (fault ≡ fault_of bytes) × (now ≡ with_back written (script_line fault))
Judged bytes written now statuses.WriteFault =
    ((fault : ScriptFault) × ((script_of bytes ≡ None) × (fault ≡ fault_of bytes)
    × WroteFront written (script_line fault) now))
    ⊎ ((script : ScriptValue) × (IsScript bytes script × RanScript script written now statuses.WriteFault))
Judged bytes written now statuses.Memory =
    (now ≡ written)
    ⊎ ((script : ScriptValue) × (IsScript bytes script × RanScript script written now statuses.Memory))
Judged bytes written now status =
    (script : ScriptValue) × (IsScript bytes script × RanScript script written now status)

-- what each status says where the words are `play`
abbrev pub PlayAnswers : Outside → Status → Type 0
-- the script was played to its end
PlayAnswers o statuses.Done =
    (script : ScriptValue) × (ReadsScript o script × RanTo script o.written o.written_after ends.Done)
-- the bytes are no script
PlayAnswers o (statuses.Script fault) = ReadsNone o fault × Wrote o (script_line fault)
-- a read failed
PlayAnswers o statuses.ReadFault =
    Rose o.source_faults o.source_faults_after × Wrote o read_fault_line
-- a write failed, and a front of the text was written, but not all
PlayAnswers o statuses.WriteFault =
    Rose o.sink_faults o.sink_faults_after × ((text : List ℕ) × (IsText o text × WroteLess o text))
-- memory is wanting: nothing was written, or the text of the first lines
PlayAnswers o statuses.Memory =
    (o.written_after ≡ o.written)
    ⊎ ((script : ScriptValue)
    × (ReadsScript o script × RanTo script o.written o.written_after ends.Memory))
-- an event found the trace full
PlayAnswers o statuses.TraceFull =
    (script : ScriptValue)
    × (ReadsScript o script × RanTo script o.written o.written_after ends.TraceFull)
PlayAnswers o status = ⊥

-- Words.

-- where the words are no command, nothing was taken from the source
abbrev pub NoCommandAnswers : Outside → Status → Type 0
NoCommandAnswers o statuses.Usage = Wrote o usage_line × KeepsSource o
NoCommandAnswers o statuses.WriteFault =
    Rose o.sink_faults o.sink_faults_after × WroteLess o usage_line × KeepsSource o
NoCommandAnswers o status = ⊥

-- what each status says, by the command. The shelf is called for images alone
abbrev pub CommandAnswers : Result CommandValue WordsEnd → ShelfSeen → Outside → Status → Type 0
CommandAnswers (Ok (Create name sizes uuid)) h o status = CreateAnswers name sizes uuid h o status
CommandAnswers (Ok (Show name)) h o status = ShowAnswers name h o status
CommandAnswers (Ok Play) h o status = PlayAnswers o status × KeepsShelf h
CommandAnswers (Ok (PlayImages name)) h o status = PlayImagesAnswers name h o status
CommandAnswers (Ok (Upgrade name to)) h o status = UpgradeAnswers name to h o status
CommandAnswers (Ok Locks) h o status = LockAnswers o status × KeepsShelf h
CommandAnswers (Ok Wire) h o status = WireAnswers o status × KeepsShelf h
CommandAnswers (Err end) h o status = NoCommandAnswers o status × KeepsShelf h

-- memory was wanting before the words were read: nothing was done, and no count of faults rose
pub record UnreadAnswers (h : ShelfSeen) (o : Outside) (status : Status) : Type 0 where
  pub is : status ≡ statuses.Memory
  pub written : o.written_after ≡ o.written
  pub source : KeepsSource o
  pub shelf : KeepsShelf h
  pub source_faults : o.source_faults_after ≡ o.source_faults
  pub sink_faults : o.sink_faults_after ≡ o.sink_faults

-- what the program answers to the words of this command, or to those of none
abbrev pub Answers : Result CommandValue WordsEnd → ShelfSeen → Outside → Status → Type 0
Answers command h o status = CommandAnswers command h o status ⊎ UnreadAnswers h o status
