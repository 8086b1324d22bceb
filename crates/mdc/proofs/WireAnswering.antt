-- From the lines of a wire script that were run to what the program answers.
use Rattle.std.proofs.Common.{◌≡◌, inl, inr, ℕ, List, Option, None, Ok, refl, sym, subst}
use Rattle.mdc_types.specs.Faults.{Rose}
use Rattle.script_text.specs.declared.faults.ScriptFault.{ScriptFault}
use Rattle.script_text.specs.Wire.{WireValue, IsWireScript, wire_script_of, wire_fault_of}
use Rattle.mdc.specs.Call.{Outside, Reads}
use Rattle.mdc.specs.LockAnswers.{FaultTold}
use Rattle.mdc.specs.WireAnswers.{ReadsWire, ReadsNoWire, WireJudged, WireAnswers}
use Rattle.mdc.specs.WireAnswers.WireCut.{at_fault, in_run}
use Rattle.mdc.specs.declared.status.Status.{Status}
use Rattle.mdc.specs.declared.status.Status.TheVariants as statuses

-- what was told of a script that is none
pub told_wire : (bytes : List ℕ) (w now : Option (List ℕ)) (fault : ScriptFault) (status : Status)
    → wire_script_of bytes ≡ None → fault ≡ wire_fault_of bytes → FaultTold fault w now status
    → WireJudged bytes w now status
told_wire bytes w now fault (statuses.Script told) none is t = rw t.0 (none, is, t.1)
told_wire bytes w now fault statuses.WriteFault none is t = inl (fault, (none, is, t))
told_wire bytes w now fault statuses.Memory none is t = inl t
told_wire bytes w now fault statuses.Done none is t = absurd t
told_wire bytes w now fault statuses.Usage none is t = absurd t
told_wire bytes w now fault statuses.ReadFault none is t = absurd t
told_wire bytes w now fault statuses.TraceFull none is t = absurd t
told_wire bytes w now fault (statuses.Image l f) none is t = absurd t
told_wire bytes w now fault (statuses.Shelf l) none is t = absurd t

-- what was judged of the bytes that were taken is the answer
module _ (o : Outside) (bytes : List ℕ) (reads : Reads o bytes) where
  wire_read : (script : WireValue) → IsWireScript bytes script → ReadsWire o script
  wire_read script is = record { bytes = bytes; reads = reads; is = is }

  no_wire_read : (fault : ScriptFault) → wire_script_of bytes ≡ None → fault ≡ wire_fault_of bytes
      → ReadsNoWire o fault
  no_wire_read fault none is = record { bytes = bytes; reads = reads; none = none; is = is }

  pub wire_answers_of : (status : Status) → WireJudged bytes o.written o.written_after status
      → (status ≡ statuses.WriteFault → Rose o.sink_faults o.sink_faults_after) → WireAnswers o status
  wire_answers_of statuses.Done judged rose = (judged.0, (wire_read judged.0 judged.1.0, judged.1.1))
  wire_answers_of (statuses.Script fault) judged rose = (no_wire_read fault judged.0 judged.1, judged.2)
  wire_answers_of statuses.WriteFault (inl none) rose =
      (rose refl, at_fault (no_wire_read none.0 none.1.0 none.1.1) none.1.2)
  wire_answers_of statuses.WriteFault (inr script) rose =
      (rose refl, in_run (wire_read script.0 script.1.0) script.1.1)
  wire_answers_of statuses.Memory (inl same) rose = inl same
  wire_answers_of statuses.Memory (inr script) rose = elim script.1.1 [
    | inl same ↦ inl same
    | inr some ↦ inr (script.0, (wire_read script.0 script.1.0, some))
  ]
  wire_answers_of statuses.Usage judged rose = absurd judged
  wire_answers_of statuses.ReadFault judged rose = absurd judged
  wire_answers_of statuses.TraceFull judged rose = absurd judged
  wire_answers_of (statuses.Image l f) judged rose = absurd judged
  wire_answers_of (statuses.Shelf l) judged rose = absurd judged
