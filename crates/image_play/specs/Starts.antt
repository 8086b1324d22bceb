-- Where a script over images starts.
use Rattle.std.specs.Prelude.{◌≡◌, ℕ, List, [], Option}
use Rattle.mdc_types.specs.declared.numbers.Sector.{Sector}
use Rattle.leg_shelf.specs.Shelves.{Files}
use Rattle.cluster_model.specs.Opening.{Origin, IsOrigin}
use Rattle.cluster_model.specs.Contents.{Opens, IsImages, HasImages}
use Rattle.world_state.specs.Told.{Fits, legs_of}
use Rattle.cluster_core.specs.Stands.{Stand, state_at}
use Rattle.image_faults.specs.declared.legs.LegImage.{LegImage}
use Rattle.image_files.specs.Names.{leg_names}
use Rattle.image_opening.specs.Opened.{AreOpened, TellsFiles}

-- these legs were opened from the files under these names, and this is what they open with. It has no
-- members. Where the shelf tells its files, it is what their images hold
pub record AreImages (files : Option Files) (name : List ℕ) (o : Origin)
    (told : List (Option (List Sector))) (lengths : List ℕ) : Type 0 where
  pub origin : IsOrigin o
  pub nobody : o.members ≡ 0
  pub fits : Fits o.sizes lengths
  pub images : IsImages o (legs_of told)
  pub read : List LegImage
  pub opened : AreOpened files (leg_names name) read told lengths
  pub sound : TellsFiles files → HasImages o (legs_of told)

-- before the first line of a script over images
pub record Starts (files : Option Files) (name : List ℕ) (o : Origin) (start : Stand) : Type 0 where
  pub legs : AreImages files name o start.legs.contents start.legs.sizes
  pub opens : Opens o (state_at start)
  pub none : start.past ≡ []
