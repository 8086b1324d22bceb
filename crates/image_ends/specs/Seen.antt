-- What a command sees of its shelf and of its sink.
use Rattle.std.specs.Prelude.{◌≡◌, ℕ, List, Option}
use Rattle.mdc_types.specs.Faults.{Rose}
use Rattle.leg_shelf.specs.Shelves.{Files}
use Rattle.script_text.specs.Outside.{with_back, WroteFront}

-- what the shelf tells of its files, and its counts of faults, its own and that of the legs that it
-- got back, before and after
pub record ShelfSeen : Type 0 where
  pub files : Option Files
  pub files_after : Option Files
  pub faults : ℕ
  pub faults_after : ℕ
  pub leg_faults : ℕ
  pub leg_faults_after : ℕ

-- what the sink tells that was written, and its count of faults, before and after
pub record SinkSeen : Type 0 where
  pub written : Option (List ℕ)
  pub written_after : Option (List ℕ)
  pub faults : ℕ
  pub faults_after : ℕ

-- the shelf failed in a call
abbrev pub ShelfRose : ShelfSeen → Type 0
ShelfRose h = Rose h.faults h.faults_after

-- a write failed
abbrev pub SinkRose : SinkSeen → Type 0
SinkRose k = Rose k.faults k.faults_after

-- just this text was written
abbrev pub Wrote : SinkSeen → List ℕ → Type 0
Wrote k text = k.written_after ≡ with_back k.written text

-- a front of it was written, and not all
abbrev pub WroteLess : SinkSeen → List ℕ → Type 0
WroteLess k text = WroteFront k.written text k.written_after

abbrev pub WroteNothing : SinkSeen → Type 0
WroteNothing k = k.written_after ≡ k.written
