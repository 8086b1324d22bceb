-- What a call of the program sees of the outside, and the last lines of a call that comes to nothing.
use Rattle.std.specs.Prelude.{◌≡◌, ℕ, List, ◌++◌, codes, IfSome, Option}
use Rattle.std.specs.Fmt.{decimal}
use Rattle.script_text.specs.declared.faults.ScriptFault.{ScriptFault}
use Rattle.script_text.specs.Lines.{input_part}
use Rattle.script_text.specs.Outside.{with_front, with_back, WroteFront}
use Rattle.script_text.specs.Words.{fault_word}
use Rattle.script_play.specs.Texts.{printed}
use Rattle.image_ends.specs.Seen.{ShelfSeen, SinkSeen}

-- of the source and the sink what they tell and their counts of faults, before and after
pub record Outside : Type 0 where
  pub left : Option (List ℕ)
  pub left_after : Option (List ℕ)
  pub written : Option (List ℕ)
  pub written_after : Option (List ℕ)
  pub source_faults : ℕ
  pub source_faults_after : ℕ
  pub sink_faults : ℕ
  pub sink_faults_after : ℕ

-- the sink alone
abbrev pub sink_of : Outside → SinkSeen
sink_of o = record {
  written = o.written;
  written_after = o.written_after;
  faults = o.sink_faults;
  faults_after = o.sink_faults_after;
}

-- the shelf wasn't called
pub record KeepsShelf (h : ShelfSeen) : Type 0 where
  pub files : h.files_after ≡ h.files
  pub faults : h.faults_after ≡ h.faults
  pub leg_faults : h.leg_faults_after ≡ h.leg_faults

-- nothing was taken from the source
abbrev pub KeepsSource : Outside → Type 0
KeepsSource o = o.left_after ≡ o.left

-- just this text was written
abbrev pub Wrote : Outside → List ℕ → Type 0
Wrote o text = o.written_after ≡ with_back o.written text

-- a front of it was written, and not all
abbrev pub WroteLess : Outside → List ℕ → Type 0
WroteLess o text = WroteFront o.written text o.written_after

-- these bytes were taken from the source: up to the end of the script and no further
pub record Reads (o : Outside) (bytes : List ℕ) : Type 0 where
  pub given : o.left ≡ with_front bytes o.left_after
  pub part : IfSome o.left (λ left. bytes ≡ input_part left)
  pub alone : input_part bytes ≡ bytes

abbrev pub usage_line : List ℕ
usage_line = printed (codes "usage")

abbrev pub read_fault_line : List ℕ
read_fault_line = printed (codes "read-fault")

abbrev pub script_line : ScriptFault → List ℕ
script_line f = printed (codes "script " ++ decimal f.line ++ codes " " ++ fault_word f.kind)
