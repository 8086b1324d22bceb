-- From how a command on images ended to what the program answers.
use Rattle.std.proofs.Common.{◌≡◌, ℕ, List, None, refl}
use Rattle.mdc_types.specs.Faults.{Rose}
use Rattle.script_text.specs.declared.faults.ScriptFault.{ScriptFault}
use Rattle.script_text.specs.Images.{images_of, images_fault_of}
use Rattle.image_ends.specs.Seen.{ShelfSeen}
use Rattle.mdc.specs.Call.{Outside, Reads, KeepsShelf, sink_of}
use Rattle.mdc.specs.ImageAnswers.{PlayImagesAnswers, ImagesJudged}
use Rattle.mdc.specs.ImageAnswers.PlayImagesAnswers.{no_input, no_script, no_memory, played}
use Rattle.mdc.specs.ImageAnswers.ImagesJudged.{is_none, wants_memory, ran}
use Rattle.mdc.specs.declared.status.Status.{Status}

-- the shelf wasn't called
pub kept : (h : ShelfSeen) → h.files_after ≡ h.files → h.faults_after ≡ h.faults
    → h.leg_faults_after ≡ h.leg_faults → KeepsShelf h
kept h files faults legs = record { files = files; faults = faults; leg_faults = legs }

-- what was judged of the bytes that were taken is the answer
pub images_answers : (name : List ℕ) (h : ShelfSeen) (o : Outside) (bytes : List ℕ) {status : Status}
    → Reads o bytes → ImagesJudged bytes name h (sink_of o) status
    → PlayImagesAnswers name h o status
images_answers name h o bytes reads (is_none fault none is told rose shelf) =
    no_script fault (record { bytes = bytes; reads = reads; none = none; is = is }) told rose shelf
images_answers name h o bytes reads (wants_memory nothing shelf) = no_memory nothing shelf
images_answers name h o bytes reads (ran lines end script ends is) =
    played lines end (record { bytes = bytes; reads = reads; is = script }) ends is
