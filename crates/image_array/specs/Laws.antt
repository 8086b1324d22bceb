-- The laws of all legs together: what they open with.
use Rattle.std.specs.Prelude.{◌≡◌, ℕ, ◌<◌, List, length, get_or}
use Rattle.mdc_types.specs.Sectors.{zero_sector}
use Rattle.mdc_types.specs.declared.numbers.Sector.{Sector}
use Rattle.image_faults.specs.declared.legs.LegImage.{LegImage}
use Rattle.cluster_model.specs.State.{Legs}
use Rattle.cluster_model.specs.Stored.{data_on}
use Rattle.cluster_model.specs.Contents.{HasImages}
use Rattle.image_array.specs.Legs.{AreAll, IsReadAs}
use Rattle.image_array.specs.Heads.{IsHead, origin_of}
use Rattle.image_array.specs.Values.{IsBase}
use Rattle.image_array.specs.declared.heads.Head.{Head}

-- the legs hold what was read of them
pub record AreRead (images : List LegImage) (legs : Legs) : Type 0 where
  pub leg : ℕ → List Sector
  pub size : ℕ → ℕ
  pub read : (l : ℕ) → l < length images → IsReadAs (leg l) (size l) images l
  pub content : (l at : ℕ) → l < length images → legs.content l at ≡ get_or (leg l) at zero_sector

-- what was read of legs without a fault, and found in their data, is what the legs open with
abbrev pub OpensImages : Type 0
OpensImages =
    (images : List LegImage) (h : Head) (base : List (List Sector)) (legs : Legs)
    → AreAll images → IsHead images h → AreRead images legs
    → IsBase h images (data_on h.geometry legs) h.geometry.room base
    → HasImages (origin_of h base) legs
