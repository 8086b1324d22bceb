-- What the program answers to the word `wire`, and when.
use Rattle.std.specs.Prelude.{◌≡◌, ◌⊎◌, ℕ, List, Option, None}
use Rattle.mdc_types.specs.Faults.{Rose}
use Rattle.script_text.specs.declared.faults.ScriptFault.{ScriptFault}
use Rattle.script_text.specs.Outside.{with_back, WroteFront}
use Rattle.script_text.specs.Wire.{WireValue, IsWireScript, wire_script_of, wire_fault_of}
use Rattle.wire_script.specs.Runs.{RanAll, RanShort, RanSome, RanCut}
use Rattle.mdc.specs.Call.{Outside, Wrote, WroteLess, Reads, read_fault_line, script_line}
use Rattle.mdc.specs.declared.status.Status.{Status}
use Rattle.mdc.specs.declared.status.Status.TheVariants as statuses

-- the bytes that were taken are this wire script
pub record ReadsWire (o : Outside) (script : WireValue) : Type 0 where
  pub bytes : List ℕ
  pub reads : Reads o bytes
  pub is : IsWireScript bytes script

-- they are no wire script, with this fault
pub record ReadsNoWire (o : Outside) (fault : ScriptFault) : Type 0 where
  pub bytes : List ℕ
  pub reads : Reads o bytes
  pub none : wire_script_of bytes ≡ None
  pub is : fault ≡ wire_fault_of bytes

-- a front of what was to be written was written, and not all: of a last line, or of the text of the
-- first lines
pub data WireCut (o : Outside) : Type 0 where
  at_input : Rose o.source_faults o.source_faults_after → WroteLess o read_fault_line → WireCut o
  at_fault : {fault : ScriptFault} → ReadsNoWire o fault → WroteLess o (script_line fault)
      → WireCut o
  in_run : {script : WireValue} → ReadsWire o script
      → RanCut script.nodes script.lines o.written o.written_after → WireCut o

-- what each status says
abbrev pub WireAnswers : Outside → Status → Type 0
-- the wire script was run to its end
WireAnswers o statuses.Done =
    (script : WireValue)
    × (ReadsWire o script × RanAll script.nodes script.lines o.written o.written_after)
-- the bytes are no wire script
WireAnswers o (statuses.Script fault) = ReadsNoWire o fault × Wrote o (script_line fault)
-- a read failed
WireAnswers o statuses.ReadFault =
    Rose o.source_faults o.source_faults_after × Wrote o read_fault_line
-- a write failed
WireAnswers o statuses.WriteFault = Rose o.sink_faults o.sink_faults_after × WireCut o
-- memory is wanting: nothing was written, or the text of the first lines
WireAnswers o statuses.Memory =
    (o.written_after ≡ o.written)
    ⊎ ((script : WireValue)
    × (ReadsWire o script × RanSome script.nodes script.lines o.written o.written_after))
WireAnswers o status = ⊥

-- how bytes were judged and run, and what was written
abbrev pub WireJudged : List ℕ → Option (List ℕ) → Option (List ℕ) → Status → Type 0
WireJudged bytes written now statuses.Done =
    (script : WireValue)
    × (IsWireScript bytes script × RanAll script.nodes script.lines written now)
WireJudged bytes written now (statuses.Script fault) =
    (wire_script_of bytes ≡ None) × (fault ≡ wire_fault_of bytes)
    × (now ≡ with_back written (script_line fault))
WireJudged bytes written now statuses.WriteFault =
    ((fault : ScriptFault)
    × ((wire_script_of bytes ≡ None) × (fault ≡ wire_fault_of bytes)
    × WroteFront written (script_line fault) now))
    ⊎ ((script : WireValue)
    × (IsWireScript bytes script × RanCut script.nodes script.lines written now))
WireJudged bytes written now statuses.Memory =
    (now ≡ written)
    ⊎ ((script : WireValue)
    × (IsWireScript bytes script × RanShort script.nodes script.lines written now))
WireJudged bytes written now status = ⊥
