use Rattle.std.proofs.Common.{arith, refl, ◌≡◌}
use Rattle.image_files.proofs.RowLaws.{mapped_same, rose_at}
use Rattle.image_files.proofs.rows.read_row.Goals as goal

pub returns-in-Ok-clause-contents : goal.returns-in-Ok-clause-contents
returns-in-Ok-clause-contents g c =
    mapped_same g.L.LegDev.contents c.args.legs.now.items c.from.result c.index_mut-leg.result.now c.read_into.new.leg (omega (arith, c.requires.there, c.from.ensures))
    c.index_mut-leg.ensures.value c.read_into.ensures.contents

pub returns-in-Ok-clause-size : goal.returns-in-Ok-clause-size
returns-in-Ok-clause-size g c =
    mapped_same g.L.LegDev.size c.args.legs.now.items c.from.result c.index_mut-leg.result.now c.read_into.new.leg (omega (arith, c.requires.there, c.from.ensures))
    c.index_mut-leg.ensures.value c.read_into.ensures.size

pub returns-in-Err-clause-contents : goal.returns-in-Err-clause-contents
returns-in-Err-clause-contents g c =
    mapped_same g.L.LegDev.contents c.args.legs.now.items c.from.result c.index_mut-leg.result.now c.read_into.new.leg (omega (arith, c.requires.there, c.from.ensures))
    c.index_mut-leg.ensures.value c.read_into.ensures.contents

pub returns-in-Err-clause-size : goal.returns-in-Err-clause-size
returns-in-Err-clause-size g c =
    mapped_same g.L.LegDev.size c.args.legs.now.items c.from.result c.index_mut-leg.result.now c.read_into.new.leg (omega (arith, c.requires.there, c.from.ensures))
    c.index_mut-leg.ensures.value c.read_into.ensures.size

pub returns-in-Err-clause-end : goal.returns-in-Err-clause-end
returns-in-Err-clause-end g c =
    let same : c.from.result ≡ c.args.l = omega (arith, c.from.ensures) in (
      refl,
      rose_at g.L.LegDev.faults c.args.legs.now.items c.from.result c.args.l (g.L.LegDev.faults c.index_mut-leg.result.now) c.read_into.new.leg same
          (omega (arith, c.requires.there, same)) (c.in-Err.ensures.cause.failed c.in-Err.field-0 refl refl),
    )
