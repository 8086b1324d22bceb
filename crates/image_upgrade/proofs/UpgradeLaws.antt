-- What `upgrade_images` answers, by how the images were stored and given back and how the text was
-- printed.
use Rattle.std.proofs.Common.{ℕ, List, refl, inl, inr}
use Rattle.image_faults.specs.declared.faults.ImageError.TheVariants as errors
use Rattle.image_texts.specs.Lines.{image_text, shelf_text}
use Rattle.image_ends.specs.Answers.{Answers}
use Rattle.image_ends.specs.Seen.{ShelfSeen, SinkSeen}
use Rattle.image_ends.specs.Told.{Told}
use Rattle.image_ends.specs.declared.ends.CommandEnd.{CommandEnd}
use Rattle.image_ends.specs.declared.ends.CommandEnd.TheVariants as ends
use Rattle.image_ends.proofs.AnswerLaws.{told_answers, nothing_answers, text_answers}
use Rattle.image_upgrade.specs.Told.{TellsUpgrade}
use Rattle.image_upgrade.specs.Upgrading.{AreUpgraded, UpgradeEnds, UpgradeErrs}
use Rattle.image_upgrade.specs.declared.ends.UpgradeError.{UpgradeError}
use Rattle.image_upgrade.specs.declared.ends.UpgradeError.TheVariants.{Old, New}

-- all new images were stored
pub upgraded_answers : (h : ShelfSeen) (k : SinkSeen) (from to text : List ℕ) (end : CommandEnd)
    → AreUpgraded h from to text → Told k text ends.Done end → Answers (UpgradeEnds h from to) k end
upgraded_answers h k from to text end are told = told_answers (UpgradeEnds h from to) k text ends.Done end tt are told

-- they weren't
pub error_answers : (h : ShelfSeen) (k : SinkSeen) (from to : List ℕ) (e : UpgradeError) (end : CommandEnd)
    → UpgradeErrs h from to e → TellsUpgrade k from to e end → Answers (UpgradeEnds h from to) k end
error_answers h k from to (Old (errors.Image l f)) end so told =
    text_answers (UpgradeEnds h from to) k (image_text l f) (ends.Image l f) end tt (so.0, so.1, refl) (inl so.1, refl) told
error_answers h k from to (Old (errors.Shelf l)) end so told =
    text_answers (UpgradeEnds h from to) k (shelf_text from l) (ends.Shelf l) end tt (inl so.0, so.1, refl) (so.1, refl) told
error_answers h k from to (Old (errors.Device l)) end so told =
    text_answers (UpgradeEnds h from to) k (shelf_text from l) (ends.Shelf l) end tt (inr so.0, so.1, refl) (so.1, refl) told
error_answers h k from to (Old (errors.Memory e)) end so told = nothing_answers (UpgradeEnds h from to) k end (so, refl) told
error_answers h k from to (New l) end so told =
    text_answers (UpgradeEnds h from to) k (shelf_text to l) (ends.ShelfTo l) end tt (so.0, so.1, refl) (inr (l, so.1), refl) told
