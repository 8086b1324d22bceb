use Rattle.std.proofs.Common.{◌≡◌, ◌<◌, ℕ, length, get_or}
use Rattle.mdc_types.specs.Sectors.{zero_sector}
use Rattle.cluster_model.specs.Contents.{header_sector}
use Rattle.world_openings.proofs.header.header_leg.Given as goal

abbrev pub invariant-loop-at : goal.invariant-loop-at
invariant-loop-at i =
    (length i.sectors.items ≡ i.at)
    × ((k : ℕ) → k < i.at → get_or i.sectors.items k zero_sector ≡ header_sector i.opening i.l k)
