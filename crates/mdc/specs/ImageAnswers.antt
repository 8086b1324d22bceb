-- What the program answers to the commands on images, and when.
use Rattle.std.specs.Prelude.{◌≡◌, ℕ, List, Option, None}
use Rattle.mdc_types.specs.Faults.{Rose}
use Rattle.mdc_types.specs.Geometry.{Sizes}
use Rattle.cluster_model.specs.Opening.{Origin}
use Rattle.disk_image.specs.Files.{name_field}
use Rattle.disk_image.specs.Created.{created_at}
use Rattle.script_text.specs.declared.faults.ScriptFault.{ScriptFault}
use Rattle.script_text.specs.declared.script.Line.{Line}
use Rattle.script_text.specs.Images.{IsImageScript, images_of, images_fault_of}
use Rattle.image_ends.specs.Answers.{Answers}
use Rattle.image_ends.specs.Seen.{ShelfSeen, SinkSeen, WroteNothing}
use Rattle.image_ends.specs.declared.ends.CommandEnd.{CommandEnd}
use Rattle.image_commands.specs.Creating.{CreateEnds}
use Rattle.image_show.specs.Showing.{ShowEnds}
use Rattle.image_upgrade.specs.Upgrading.{UpgradeEnds}
use Rattle.image_play.specs.Ends.{Ends}
use Rattle.image_play.specs.declared.ends.ImagesEnd.{ImagesEnd}
use Rattle.mdc.specs.Call.{Outside, KeepsShelf, KeepsSource, Reads, sink_of}
use Rattle.mdc.specs.Codes.{command_status, images_status}
use Rattle.mdc.specs.LockAnswers.{FaultTold}
use Rattle.mdc.specs.Telling.{InputTold}
use Rattle.mdc.specs.declared.status.Status.{Status}
use Rattle.mdc.specs.declared.status.Status.TheVariants as statuses

-- the command came to this end, which says so much of the shelf and of its text, and nothing was taken
-- from the source
pub record EndsSo (Ends : CommandEnd → List ℕ → Type 0) (o : Outside) (status : Status) : Type 0 where
  pub end : CommandEnd
  pub answers : Answers Ends (sink_of o) end
  pub is : status ≡ command_status end
  pub source : KeepsSource o

-- what a new array opens with
abbrev pub new_array : List ℕ → Sizes → List ℕ → Origin
new_array name sizes uuid =
    created_at (record { sizes = sizes; name = name_field name; uuid = uuid })

abbrev pub CreateAnswers : List ℕ → Sizes → List ℕ → ShelfSeen → Outside → Status → Type 0
CreateAnswers name sizes uuid h o status =
    EndsSo (CreateEnds h name (new_array name sizes uuid)) o status

abbrev pub ShowAnswers : List ℕ → ShelfSeen → Outside → Status → Type 0
ShowAnswers name h o status = EndsSo (ShowEnds h name) o status

abbrev pub UpgradeAnswers : List ℕ → List ℕ → ShelfSeen → Outside → Status → Type 0
UpgradeAnswers name to h o status = EndsSo (UpgradeEnds h name to) o status

-- Scripts over images.

-- the bytes that were taken are this script of images
pub record ReadsImages (o : Outside) (lines : List Line) : Type 0 where
  pub bytes : List ℕ
  pub reads : Reads o bytes
  pub is : IsImageScript bytes lines

-- they are none, with this fault
pub record ReadsNoImages (o : Outside) (fault : ScriptFault) : Type 0 where
  pub bytes : List ℕ
  pub reads : Reads o bytes
  pub none : images_of bytes ≡ None
  pub is : fault ≡ images_fault_of bytes

-- how such a script was judged and played
pub data PlayImagesAnswers (name : List ℕ) (h : ShelfSeen) (o : Outside) : Status → Type 0 where
  -- the source wasn't read
  no_input : {status : Status} → InputTold o status → KeepsShelf h
      → PlayImagesAnswers name h o status
  -- the bytes are no script of images
  no_script : (fault : ScriptFault) {status : Status} → ReadsNoImages o fault
      → FaultTold fault o.written o.written_after status
      → (status ≡ statuses.WriteFault → Rose o.sink_faults o.sink_faults_after)
      → KeepsShelf h → PlayImagesAnswers name h o status
  -- memory is wanting for the script
  no_memory : WroteNothing (sink_of o) → KeepsShelf h
      → PlayImagesAnswers name h o statuses.Memory
  -- its lines were played over the images, as far as they could be
  played : (lines : List Line) (end : ImagesEnd) {status : Status} → ReadsImages o lines
      → Ends h name lines (sink_of o) end → status ≡ images_status end
      → PlayImagesAnswers name h o status

-- how bytes were judged and played, and what was written
pub data ImagesJudged (bytes name : List ℕ) (h : ShelfSeen) (k : SinkSeen) : Status → Type 0 where
  is_none : (fault : ScriptFault) {status : Status} → images_of bytes ≡ None
      → fault ≡ images_fault_of bytes → FaultTold fault k.written k.written_after status
      → (status ≡ statuses.WriteFault → Rose k.faults k.faults_after) → KeepsShelf h
      → ImagesJudged bytes name h k status
  wants_memory : WroteNothing k → KeepsShelf h → ImagesJudged bytes name h k statuses.Memory
  ran : (lines : List Line) (end : ImagesEnd) {status : Status} → IsImageScript bytes lines
      → Ends h name lines k end → status ≡ images_status end → ImagesJudged bytes name h k status
