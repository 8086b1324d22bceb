-- What `create_images` leaves on the shelf and prints, by its end.
use Rattle.std.specs.Prelude.{◌≡◌, ℕ, List, []}
use Rattle.cluster_model.specs.Opening.{Origin}
use Rattle.disk_image.specs.Created.{with_images, StandsTo}
use Rattle.image_texts.specs.Lines.{created_text, shelf_text}
use Rattle.image_ends.specs.Seen.{ShelfSeen, ShelfRose}
use Rattle.image_ends.specs.declared.ends.CommandEnd.{CommandEnd}
use Rattle.image_ends.specs.declared.ends.CommandEnd.TheVariants as ends

-- the images of all legs stand
abbrev pub AllStand : ShelfSeen → List ℕ → Origin → Type 0
AllStand h name o = h.files_after ≡ with_images h.files name o o.sizes.legs

-- those of the legs below l do, and of other names only that of leg l may have changed
abbrev pub LowerStand : ShelfSeen → List ℕ → Origin → ℕ → Type 0
LowerStand h name o l = StandsTo h.files name o l h.files_after

abbrev pub CreateEnds : ShelfSeen → List ℕ → Origin → CommandEnd → List ℕ → Type 0
-- all images were stored
CreateEnds h name o ends.Done text = AllStand h name o × (text ≡ created_text name o.sizes.legs)
-- the shelf failed in a call on this leg's file
CreateEnds h name o (ends.Shelf l) text =
    LowerStand h name o l × ShelfRose h × (text ≡ shelf_text name l)
-- memory is wanting: the images of some first legs may stand
CreateEnds h name o ends.Memory text = ((l : ℕ) × LowerStand h name o l) × (text ≡ [])
CreateEnds h name o ends.Write text = ⊥
CreateEnds h name o (ends.Image l f) text = ⊥
CreateEnds h name o (ends.ShelfTo l) text = ⊥
