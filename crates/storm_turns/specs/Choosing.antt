-- What the code draws as what the rules draw.
use Rattle.std.specs.Prelude.{ℕ, Bool, true, false}
use Rattle.driver_rules.specs.Storms as rules
use Rattle.storm_turns.specs.declared.drawing.Choice.{Choice}
use Rattle.storm_turns.specs.declared.drawing.Choice.TheVariants.{Help, Write, Read}
use Rattle.storm_turns.specs.declared.turning.TurnKind.{TurnKind}
use Rattle.storm_turns.specs.declared.turning.TurnKind.TheVariants as names

abbrev pub choice_of : Choice → rules.Choice
choice_of (Help e) = rules.Help e
choice_of Write = rules.Writing
choice_of Read = rules.Reading

-- a sector is drawn for it
abbrev pub has_sector : Choice → Bool
has_sector (Help e) = false
has_sector Write = true
has_sector Read = true

abbrev pub name_of : TurnKind → rules.Named
name_of names.Death = rules.Death
name_of names.Cutting = rules.Cutting
name_of names.Mending = rules.Mending
name_of names.Drawing = rules.Drawing

-- how many choices one that may be there adds
abbrev pub one_if : Bool → ℕ
one_if true = 1
one_if false = 0
