use Rattle.std.proofs.Common.{refl}
use Rattle.script_text.specs.Numbers.{sector_of}
use Rattle.script_text.proofs.numbers.zero_sector.Goals as goal

pub returns : goal.returns
unfolding sector_of
returns c = refl
