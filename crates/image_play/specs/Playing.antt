-- Lines of a script that were played over images.
use Rattle.std.specs.Prelude.{◌≤◌, ℕ, List, reverse, length, Option, Result}
use Rattle.leg_shelf.specs.Shelves.{Files}
use Rattle.cluster_model.specs.Opening.{Origin}
use Rattle.cluster_model.specs.Contents.{SoundOpening}
use Rattle.cluster_model.specs.Run.{Run}
use Rattle.laws_roles.specs.Laws.{Tells}
use Rattle.laws_promises.specs.Laws.{Promised}
use Rattle.cluster_core.specs.World.{trace_limit}
use Rattle.cluster_core.specs.Stands.{Stand, state_at}
use Rattle.script_text.specs.declared.script.Line.{Line}
use Rattle.image_faults.specs.declared.faults.ImageError.{ImageError}
use Rattle.image_files.specs.Names.{leg_names}
use Rattle.image_files.specs.Closed.{Closes}
use Rattle.script_play.specs.Playing.{Plays}
use Rattle.script_play.specs.QueryAnswers.{Checks, FindsLegal}
use Rattle.script_play.specs.Running.{Ran}
use Rattle.script_play.specs.declared.running.RunEnd.{RunEnd}
use Rattle.image_play.specs.Starts.{Starts}

-- There is one trace, no longer than it may be, and a run with just its entries. Where the images'
-- opening is sound and their legs tell what they hold, its reads and writes are one legal history, and
-- at each of its places all is as promised, whatever its events are and whichever transfers failed.
pub record Leads (o : Origin) (start end : Stand) : Type 0 where
  pub run : Run (state_at start) end.past (state_at end)
  pub few : length end.past ≤ trace_limit
  pub promised : SoundOpening o (state_at start) → Tells o (state_at start)
      → Promised o (state_at start) end.past (state_at end)

-- These lines were played from there. Where the opening is sound and the legs tell, `check` found all
-- entries legal.
pub record Playing (o : Origin) (start : Stand) (lines : List Line) (end : Stand) (text : List ℕ)
    : Type 0 where
  pub plays : Plays (Checks o) start (reverse lines) end text
  pub legal : SoundOpening o (state_at start) → Tells o (state_at start)
      → Plays FindsLegal start (reverse lines) end text
  pub leads : Leads o start end

-- the script was run over the images in these files, and then the legs of its last state were given
-- back, which leaves the files so
pub record Runs (files after : Option Files) (name : List ℕ) (lines : List Line)
    (written now : Option (List ℕ)) (end : RunEnd) (closed : Result (Unit {0}) ImageError) : Type 0
  where
    pub opening : Origin
    pub start : Stand
    pub starts : Starts files name opening start
    pub last : Stand
    pub leads : Leads opening start last
    pub ran : Ran (Playing opening start) lines last written now end
    pub closes : Closes (leg_names name) last.legs.contents opening.sizes.legs files closed after
