use Rattle.std.proofs.Common.{◌≡◌, ◌++◌, take}
use Rattle.leg_shelf.specs.Images.{bytes_of}
use Rattle.leg_shelf.proofs.sectors.add_sectors.Given as goal

abbrev pub invariant-loop-sector : goal.invariant-loop-sector
invariant-loop-sector l = l.bytes.items ≡ l.initial.bytes.items ++ bytes_of (take l.sector-index l.sectors)
