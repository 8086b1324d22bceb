use Rattle.std.proofs.Common.{arith}
use Rattle.md_superblock.proofs.NoFault.{fields_fit}
use Rattle.md_superblock.proofs.reading.super_of.Goals as goal

pub overflow_cast-result : goal.overflow_cast-result
overflow_cast-result c = let fits = fields_fit c.args.bytes.now c.requires in omega (arith, fits.legs, c.u32_at.ensures)

pub overflow_cast-result-2 : goal.overflow_cast-result-2
overflow_cast-result-2 c = let fits = fields_fit c.args.bytes.now c.requires in omega (arith, fits.sectors, c.u64_at.ensures)

pub overflow_cast-result-3 : goal.overflow_cast-result-3
overflow_cast-result-3 c = let fits = fields_fit c.args.bytes.now c.requires in omega (arith, fits.room, c.u64_at-2.ensures)

pub overflow_cast-result-4 : goal.overflow_cast-result-4
overflow_cast-result-4 c = let fits = fields_fit c.args.bytes.now c.requires in omega (arith, fits.device, c.u32_at-2.ensures)
