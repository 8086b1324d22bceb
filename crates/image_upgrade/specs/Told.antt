-- How it was printed why an array wasn't upgraded.
use Rattle.std.specs.Prelude.{ℕ, List}
use Rattle.image_texts.specs.Lines.{shelf_text}
use Rattle.image_ends.specs.Seen.{SinkSeen}
use Rattle.image_ends.specs.Told.{TellsError, ToldOrNot}
use Rattle.image_ends.specs.declared.ends.CommandEnd.{CommandEnd}
use Rattle.image_ends.specs.declared.ends.CommandEnd.TheVariants as ends
use Rattle.image_upgrade.specs.declared.ends.UpgradeError.{UpgradeError}
use Rattle.image_upgrade.specs.declared.ends.UpgradeError.TheVariants.{Old, New}

abbrev pub TellsUpgrade : SinkSeen → List ℕ → List ℕ → UpgradeError → CommandEnd → Type 0
TellsUpgrade k from to (Old e) result = TellsError k from e result
TellsUpgrade k from to (New l) result = ToldOrNot k (shelf_text to l) (ends.ShelfTo l) result
