-- What a command answers, by what each of its ends says of the shelf and of its text.
use Rattle.std.specs.Prelude.{ℕ, List, []}
use Rattle.image_ends.specs.Seen.{SinkSeen, SinkRose, Wrote, WroteLess, WroteNothing}
use Rattle.image_ends.specs.declared.ends.CommandEnd.{CommandEnd}
use Rattle.image_ends.specs.declared.ends.CommandEnd.TheVariants as ends

-- `Ends end text` says that the calls on the shelf come to this end, whose text is this. Then the text
-- was written, or a front of it and not all where a write failed; and nothing for want of memory
abbrev pub Answers : (CommandEnd → List ℕ → Type 0) → SinkSeen → CommandEnd → Type 0
Answers Ends k ends.Write =
    SinkRose k × ((end : CommandEnd) × ((text : List ℕ) × (Ends end text × WroteLess k text)))
Answers Ends k ends.Memory = WroteNothing k × Ends ends.Memory []
Answers Ends k end = (text : List ℕ) × (Ends end text × Wrote k text)
