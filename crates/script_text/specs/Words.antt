-- The words of faults.
use Rattle.std.specs.Prelude.{ℕ, List, codes}
use Rattle.script_text.specs.declared.faults.FaultKind.{FaultKind}
use Rattle.script_text.specs.declared.faults.FaultKind.TheVariants.{Long, Utf8, NoArray, Word, Count, Number, Value, Range, NoEnd}

abbrev pub fault_word : FaultKind → List ℕ
fault_word Long = codes "long"
fault_word Utf8 = codes "utf8"
fault_word NoArray = codes "no-array"
fault_word Word = codes "word"
fault_word Count = codes "count"
fault_word Number = codes "number"
fault_word Value = codes "value"
fault_word Range = codes "range"
fault_word NoEnd = codes "no-end"
