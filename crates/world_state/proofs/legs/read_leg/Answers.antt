use Rattle.std.proofs.Common.{None, map, ap, arith}
use Rattle.std.proofs.lemmas.List.{map-set, length-map}
use Rattle.world_state.proofs.LegLaws.{mapped_same, mapped_at, received_of, rose_if_not}
use Rattle.world_state.proofs.legs.read_leg.Goals as goal

pub returns : goal.returns
returns g c =
    let L = g.L.LegDev in
    let legs = c.args.legs.now.items in
    let was = c.index_mut-leg.result.now in
    let new = c.read.new.self in
    let l = c.args.l in
    let lt = c.requires.there in
    let value = c.index_mut-leg.ensures.value in
    let contents = mapped_at L.contents legs l was new lt value None in
    let plan = mapped_at L.plan legs l was new lt value None in
    let faults = mapped_at L.faults legs l was new lt value 0 in
    let size = mapped_at L.size legs l was new lt value 0 in
    let e = c.read.ensures in
    rw (mapped_same L.contents legs l was new lt value e.contents, map-set L.faults legs l new, map-set L.plan legs l new, mapped_same L.size legs l was new lt value e.size)
    (received_of (map L.contents legs) (map L.size legs) (map L.faults legs) (map L.plan legs) l c.args.at (L.size was) c.read.result
    (L.faults new) (L.plan new)
    (omega (arith, lt, length-map legs L.faults))
    (rw contents (g.met.L.LegDev.told_length was)) (omega (arith, c.requires.within, size))
    (rw contents e.value)
    (rw faults (rose_if_not c.read.result _ _ e.cause))
    (rw plan e.plan))
