-- From the lines that were played to what the program answers.
use Rattle.std.proofs.Common.{◌≡◌, inl, inr, ℕ, Option, Some, None, Ok, Err, List, length, take, refl, sym, ◌∙◌, ap, subst}
use Rattle.std.specs.Prelude.{IfSome}
use Rattle.std.proofs.Math.Seq.{take-length}
use Rattle.mdc_types.specs.Faults.{Rose}
use Rattle.script_text.specs.declared.locks.LockLine.{LockLine}
use Rattle.script_text.specs.declared.faults.ScriptFault.{ScriptFault}
use Rattle.script_text.specs.Locks.{IsLockScript, lock_script_of, lock_fault_of}
use Rattle.script_text.specs.Lines.{input_part}
use Rattle.script_text.specs.Outside.{with_front, TookOfPart}
use Rattle.script_text.specs.Script.{ScriptValue, IsScript, script_of, fault_of}
use Rattle.script_play.specs.declared.running.RunEnd.{RunEnd}
use Rattle.script_play.specs.declared.running.RunEnd.TheVariants as ends
use Rattle.mdc.specs.Call.{Outside, Reads, KeepsSource, usage_line, read_fault_line, script_line}
use Rattle.mdc.specs.Codes.{status_of}
use Rattle.mdc.specs.Playing.{RanTo}
use Rattle.mdc.specs.Answers.{Judged, PlayAnswers, NoCommandAnswers, RanScript, ReadsScript, ReadsNone}
use Rattle.mdc.specs.Answers.IsText.{no_input, no_script, of_run}
use Rattle.mdc.specs.LockAnswers.{ReadsLocks, ReadsNoLocks, LocksJudged, LockAnswers, FaultTold}
use Rattle.mdc.specs.LockAnswers.LocksCut.{at_input, at_fault, in_run}
use Rattle.mdc.specs.WireAnswers.{WireAnswers}
use Rattle.mdc.specs.WireAnswers.WireCut.{at_input as at_wire_input}
use Rattle.mdc.specs.Telling.{LineTold, InputTold}
use Rattle.mdc.specs.Telling.LineTold.{whole, short}
use Rattle.mdc.specs.Telling.InputTold.{failed as read_failed, cut as read_cut}
use Rattle.mdc.specs.declared.status.Status.{Status}
use Rattle.mdc.specs.declared.status.Status.TheVariants as statuses

-- how the lines ran is the answer
pub ran_script : (script : ScriptValue) (w now : Option (List ℕ)) (end : RunEnd)
    → RanTo script w now end → RanScript script w now (status_of end)
ran_script script w now ends.Done r = r
ran_script script w now ends.Write r = r
ran_script script w now ends.Memory r = inr r
ran_script script w now ends.TraceFull r = r

-- a write failed where the answer says so
pub write_of : (end : RunEnd) → status_of end ≡ statuses.WriteFault → end ≡ ends.Write
write_of ends.Done is = cc
write_of ends.Write is = refl
write_of ends.Memory is = cc
write_of ends.TraceFull is = cc

-- what was told of a script that is none
module _ (bytes : List ℕ) (w now : Option (List ℕ)) (fault : ScriptFault) where
  pub told_play : (status : Status) → script_of bytes ≡ None → fault ≡ fault_of bytes
      → FaultTold fault w now status → Judged bytes w now status
  told_play (statuses.Script told) none is t = rw t.0 (none, is, t.1)
  told_play statuses.WriteFault none is t = inl (fault, (none, is, t))
  told_play statuses.Memory none is t = inl t
  told_play statuses.Done none is t = absurd t
  told_play statuses.Usage none is t = absurd t
  told_play statuses.ReadFault none is t = absurd t
  told_play statuses.TraceFull none is t = absurd t
  told_play (statuses.Image l f) none is t = absurd t
  told_play (statuses.Shelf l) none is t = absurd t

  pub told_locks : (status : Status) → lock_script_of bytes ≡ None → fault ≡ lock_fault_of bytes
      → FaultTold fault w now status → LocksJudged bytes w now status
  told_locks (statuses.Script told) none is t = rw t.0 (none, is, t.1)
  told_locks statuses.WriteFault none is t = inl (fault, (none, is, t))
  told_locks statuses.Memory none is t = inl t
  told_locks statuses.Done none is t = absurd t
  told_locks statuses.Usage none is t = absurd t
  told_locks statuses.ReadFault none is t = absurd t
  told_locks statuses.TraceFull none is t = absurd t
  told_locks (statuses.Image l f) none is t = absurd t
  told_locks (statuses.Shelf l) none is t = absurd t

-- what was judged of the bytes that were taken is the answer
module _ (o : Outside) (bytes : List ℕ) (reads : Reads o bytes) where
  script_read : (script : ScriptValue) → IsScript bytes script → ReadsScript o script
  script_read script is = record { bytes = bytes; reads = reads; is = is }

  none_read : (fault : ScriptFault) → script_of bytes ≡ None → fault ≡ fault_of bytes → ReadsNone o fault
  none_read fault none is = record { bytes = bytes; reads = reads; none = none; is = is }

  pub play_answers_of : (status : Status) → Judged bytes o.written o.written_after status → (status ≡ statuses.WriteFault → Rose o.sink_faults o.sink_faults_after) → PlayAnswers o status
  play_answers_of statuses.Done judged rose = (judged.0, (script_read judged.0 judged.1.0, judged.1.1))
  play_answers_of statuses.TraceFull judged rose = (judged.0, (script_read judged.0 judged.1.0, judged.1.1))
  play_answers_of (statuses.Script fault) judged rose = (none_read fault judged.0 judged.1, judged.2)
  play_answers_of statuses.WriteFault (inl none) rose = (rose refl, (script_line none.0, (no_script (none_read none.0 none.1.0 none.1.1), none.1.2)))
  play_answers_of statuses.WriteFault (inr script) rose = (rose refl, (script.1.1.1.0, (of_run {last = script.1.1.0} (script_read script.0 script.1.0) script.1.1.1.1.0, script.1.1.1.1.1)))
  play_answers_of statuses.Memory (inl same) rose = inl same
  play_answers_of statuses.Memory (inr script) rose = elim script.1.1 [
    | inl same ↦ inl same
    | inr some ↦ inr (script.0, (script_read script.0 script.1.0, some))
  ]
  play_answers_of statuses.Usage judged rose = absurd judged.1.1
  play_answers_of statuses.ReadFault judged rose = absurd judged.1.1
  play_answers_of (statuses.Image l f) judged rose = absurd judged.1.1
  play_answers_of (statuses.Shelf l) judged rose = absurd judged.1.1

  locks_read : (script : List LockLine) → IsLockScript bytes script → ReadsLocks o script
  locks_read script is = record { bytes = bytes; reads = reads; is = is }

  no_locks_read : (fault : ScriptFault) → lock_script_of bytes ≡ None → fault ≡ lock_fault_of bytes → ReadsNoLocks o fault
  no_locks_read fault none is = record { bytes = bytes; reads = reads; none = none; is = is }

  pub lock_answers_of : (status : Status) → LocksJudged bytes o.written o.written_after status → (status ≡ statuses.WriteFault → Rose o.sink_faults o.sink_faults_after) → LockAnswers o status
  lock_answers_of statuses.Done judged rose = (judged.0, (locks_read judged.0 judged.1.0, judged.1.1))
  lock_answers_of (statuses.Script fault) judged rose = (no_locks_read fault judged.0 judged.1, judged.2)
  lock_answers_of statuses.WriteFault (inl none) rose = (rose refl, at_fault (no_locks_read none.0 none.1.0 none.1.1) none.1.2)
  lock_answers_of statuses.WriteFault (inr script) rose = (rose refl, in_run (locks_read script.0 script.1.0) script.1.1)
  lock_answers_of statuses.Memory (inl same) rose = inl same
  lock_answers_of statuses.Memory (inr script) rose = inr (script.0, (locks_read script.0 script.1.0, script.1.1))
  lock_answers_of statuses.Usage judged rose = absurd judged
  lock_answers_of statuses.ReadFault judged rose = absurd judged
  lock_answers_of statuses.TraceFull judged rose = absurd judged
  lock_answers_of (statuses.Image l f) judged rose = absurd judged
  lock_answers_of (statuses.Shelf l) judged rose = absurd judged

-- where no bytes were taken
module _ (o : Outside) (failed : Rose o.source_faults o.source_faults_after) where
  pub play_unread : {status : Status}
      → LineTold read_fault_line statuses.ReadFault o.written o.written_after o.sink_faults o.sink_faults_after status
      → PlayAnswers o status
  play_unread (whole wrote) = (failed, wrote)
  play_unread (short rose front) = (rose, (read_fault_line, (no_input failed, front)))

  pub locks_unread : {status : Status}
      → LineTold read_fault_line statuses.ReadFault o.written o.written_after o.sink_faults o.sink_faults_after status
      → LockAnswers o status
  locks_unread (whole wrote) = (failed, wrote)
  locks_unread (short rose front) = (rose, at_input failed front)

  pub wire_unread : {status : Status}
      → LineTold read_fault_line statuses.ReadFault o.written o.written_after o.sink_faults o.sink_faults_after status
      → WireAnswers o status
  wire_unread (whole wrote) = (failed, wrote)
  wire_unread (short rose front) = (rose, at_wire_input failed front)

  pub input_unread : {status : Status}
      → LineTold read_fault_line statuses.ReadFault o.written o.written_after o.sink_faults o.sink_faults_after status
      → InputTold o status
  input_unread (whole wrote) = read_failed failed wrote
  input_unread (short rose front) = read_cut failed rose front

-- no command
pub usage_told : (o : Outside) {status : Status} → KeepsSource o
    → LineTold usage_line statuses.Usage o.written o.written_after o.sink_faults o.sink_faults_after status
    → NoCommandAnswers o status
usage_told o kept (whole wrote) = (wrote, kept)
usage_told o kept (short rose front) = (rose, front, kept)

-- what was read is no more than the part
pub took : (old new : Option (List ℕ)) (bytes : List ℕ) → old ≡ with_front bytes new
    → IfSome old (λ left. bytes ≡ input_part left) → TookOfPart old new
took None None bytes is part = refl
took None (Some x) bytes is part = cc
took (Some left) new bytes is part = (
  length bytes,
  is ∙ ap (λ b. with_front b new) (sym (ap (take (length bytes)) (sym part) ∙ take-length bytes)),
)

-- nothing was
pub took_none : (left : Option (List ℕ)) → TookOfPart left left
took_none None = refl
took_none (Some left) = (0, refl)
