-- The texts of lines as the code builds them.
use Rattle.std.specs.Prelude.{ℕ, List, [], ◌∷◌, decimal}
use Rattle.report_text.specs.declared.line.Field.{Field}
use Rattle.report_text.specs.declared.line.Field.TheVariants.{Number, Word, Lock, Value, Numbers, RoleLetters}
use Rattle.report_text.specs.declared.line.Line.{Line}
use Rattle.report_text.specs.declared.line.Line.TheVariants.{Name, One, Two, Three, Four}
use Rattle.report_text.specs.Lines.{line}
use Rattle.report_text.specs.Sets.{numbers_text, roles_text}
use Rattle.report_text.specs.Values.{value_text}
use Rattle.report_text.specs.Words.{res_word}

abbrev pub field_text : Field → List ℕ
field_text (Number n) = decimal n
field_text (Word word) = word.now
field_text (Lock res) = res_word res
field_text (Value sector) = value_text sector.now.bytes
field_text (Numbers numbers) = numbers_text numbers.now
field_text (RoleLetters roles legs) = roles_text roles.now legs

abbrev pub line_text : Line → List ℕ
line_text (Name name) = name.now
line_text (One name a) = line name.now (field_text a ∷ [])
line_text (Two name a b) = line name.now (field_text a ∷ field_text b ∷ [])
line_text (Three name a b c) = line name.now (field_text a ∷ field_text b ∷ field_text c ∷ [])
line_text (Four name a b c d) = line name.now (field_text a ∷ field_text b ∷ field_text c ∷ field_text d ∷ [])
