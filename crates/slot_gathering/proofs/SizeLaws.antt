-- How many pages all slots have.
use Rattle.std.proofs.Common.{◌≤◌, arith}
use Rattle.std.proofs.lemmas.Bool.Decides.{nat_tests}
use Rattle.mdc_types.specs.Geometry.{Sizes, chunks_of, most_chunks, pages_of}
use Rattle.slot_gathering.specs.Gatherings.{all_pages}

few_pages : (g : Sizes) → chunks_of g ≤ most_chunks g → pages_of g ≤ 16
few_pages g bits = grind (arith, nat_tests)

pub few_in_all : (g : Sizes) → chunks_of g ≤ most_chunks g → all_pages g ≤ 256
few_in_all g bits = let few = few_pages g bits in grind (arith, nat_tests)
