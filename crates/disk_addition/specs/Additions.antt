-- What a node knows of a device that is on its way in or out, and what the rounds make of it.
use Rattle.std.specs.Prelude.{ℕ, ◌==◌, if◌then◌else◌}
use Rattle.mdc_types.specs.declared.events.Wish.{Wish}
use Rattle.mdc_types.specs.declared.events.Wish.TheVariants as wishes
use Rattle.mdc_types.specs.declared.refusals.Word.{Word}
use Rattle.mdc_types.specs.declared.refusals.Word.TheVariants as words
use Rattle.disk_addition.specs.declared.addition.Addition.{Addition}
use Rattle.disk_addition.specs.declared.addition.Addition.TheVariants.{Nothing, Announced, Removing, ReAdd, Again}

-- the word of an addition
abbrev pub word_of : Addition → Word
word_of Nothing = words.Nothing
word_of (Announced l) = words.Announced
word_of (Removing l) = words.Removing
word_of (ReAdd l) = words.ReAdd
word_of (Again l) = words.Again

-- what becomes of an addition when leg l rebuilds: a leg that was added again is copied what it missed
abbrev pub rebuilt : Addition → ℕ → Addition
rebuilt (ReAdd m) l = if m == l then Again l else Nothing
rebuilt a l = Nothing

-- what the finish of the wish's round makes of an addition
abbrev pub after : Addition → Wish → Addition
after a (wishes.Rebuild l) = rebuilt a l
after a (wishes.Range r) = a
after a (wishes.NewDisk l) = Announced l
after a (wishes.Remove l) = Removing l
after a (wishes.ReAdd l) = ReAdd l
after a wish = Nothing
