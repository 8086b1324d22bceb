-- What `create_images` answers, by how the images were stored and how the text was printed.
use Rattle.std.proofs.Common.{◌≡◌, ℕ, ◌<◌, ◌≤◌, List, [], arith, refl, Option, Err, true}
use Rattle.mdc_types.specs.Faults.{HasCause}
use Rattle.leg_shelf.specs.Shelves.{OthersStay}
use Rattle.cluster_model.specs.Opening.{Origin}
use Rattle.disk_image.specs.Created.{LeavesImages, is_shelf_fault}
use Rattle.disk_image.specs.Files.{leg_name}
use Rattle.disk_image.proofs.Placed.{others_same}
use Rattle.image_faults.specs.declared.faults.ImageError.{ImageError}
use Rattle.image_faults.specs.declared.faults.ImageError.TheVariants as errors
use Rattle.image_files.specs.Ends.{IsOfLeg}
use Rattle.image_texts.specs.Lines.{created_text, shelf_text}
use Rattle.image_ends.specs.Answers.{Answers}
use Rattle.image_commands.specs.Creating.{AllStand, LowerStand, CreateEnds}
use Rattle.image_ends.specs.Seen.{ShelfSeen, SinkSeen, WroteNothing}
use Rattle.image_ends.specs.Told.{Told, TellsError}
use Rattle.image_ends.specs.declared.ends.CommandEnd.{CommandEnd}
use Rattle.image_ends.specs.declared.ends.CommandEnd.TheVariants as ends
use Rattle.image_ends.proofs.AnswerLaws.{told_answers, nothing_answers, text_answers}

-- nothing was stored
pub nothing_stands : (h : ShelfSeen) (k : SinkSeen) (name : List ℕ) (o : Origin) → 0 < o.sizes.legs
    → h.files_after ≡ h.files → WroteNothing k → Answers (CreateEnds h name o) k ends.Memory
nothing_stands h k name o some same nothing =
    let there : OthersStay h.files (leg_name name 0) h.files = others_same h.files (leg_name name 0) in
    (nothing, ((0, (some, (there.0, cc (same, there.1)))), refl))

-- the leg of the error is one of eight
pub of_leg : (h : ShelfSeen) (name : List ℕ) (o : Origin) (e : ImageError) → o.sizes.legs ≤ 8
    → LeavesImages h.files name o e h.files_after → IsOfLeg e
of_leg h name o (errors.Shelf l) few left = let lt : l < o.sizes.legs = left.0 in omega arith
of_leg h name o (errors.Memory e) few left = tt
of_leg h name o (errors.Image l f) few left = absurd left
of_leg h name o (errors.Device l) few left = absurd left

-- all were stored
pub all_answers : (h : ShelfSeen) (k : SinkSeen) (name : List ℕ) (o : Origin) (end : CommandEnd)
    → AllStand h name o → Told k (created_text name o.sizes.legs) ends.Done end → Answers (CreateEnds h name o) k end
all_answers h k name o end stand told =
    told_answers (CreateEnds h name o) k (created_text name o.sizes.legs) ends.Done end tt (stand, refl) told

-- the call on the images wasn't done
pub error_answers : (h : ShelfSeen) (k : SinkSeen) (name : List ℕ) (o : Origin) (e : ImageError) (end : CommandEnd)
    → LeavesImages h.files name o e h.files_after
    → HasCause {T = Unit {0}} is_shelf_fault h.faults h.faults_after (Err e) → TellsError k name e end
    → Answers (CreateEnds h name o) k end
error_answers h k name o (errors.Shelf l) end left cause told =
    text_answers (CreateEnds h name o) k (shelf_text name l) (ends.Shelf l) end tt
    (left, cause.failed (errors.Shelf l) refl refl, refl) ((l, left), refl) told
error_answers h k name o (errors.Memory e) end left cause told = nothing_answers (CreateEnds h name o) k end (left, refl) told
error_answers h k name o (errors.Image l f) end left cause told = absurd left
error_answers h k name o (errors.Device l) end left cause told = absurd left
