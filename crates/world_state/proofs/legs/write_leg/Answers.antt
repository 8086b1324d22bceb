use Rattle.std.proofs.Common.{None, map, ap, inl, inr, arith, is_ok}
use Rattle.std.proofs.lemmas.List.{map-set, length-map}
use Rattle.world_state.proofs.LegLaws.{mapped_same, mapped_at, sent_of, rose_if_not, if_ok, either}
use Rattle.world_state.proofs.legs.write_leg.Goals as goal

pub returns : goal.returns
returns g c =
    let L = g.L.LegDev in
    let legs = c.args.legs.now.items in
    let was = c.index_mut-leg.result.now in
    let new = c.write.new.self in
    let l = c.args.l in
    let lt = c.requires.there in
    let value = c.index_mut-leg.ensures.value in
    let contents = mapped_at L.contents legs l was new lt value None in
    let plan = mapped_at L.plan legs l was new lt value None in
    let faults = mapped_at L.faults legs l was new lt value 0 in
    let size = mapped_at L.size legs l was new lt value 0 in
    let e = c.write.ensures in
    rw (map-set L.contents legs l new, map-set L.faults legs l new, map-set L.plan legs l new, mapped_same L.size legs l was new lt value e.size)
    (sent_of (map L.contents legs) (map L.size legs) (map L.faults legs) (map L.plan legs) l c.args.at (L.size was) c.args.value.now (is_ok c.write.result)
    (L.contents new) (L.faults new) (L.plan new)
    (omega (arith, lt, length-map legs L.contents)) (omega (arith, lt, length-map legs L.faults))
    (rw contents (g.met.L.LegDev.told_length was)) (omega (arith, c.requires.within, size))
    (rw contents (if_ok c.write.result _ _ _ e.contents (λ t h. h)))
    (rw contents (either c.write.result _ _ _ e.contents (λ t h. inr h) (λ t h. h)))
    (rw faults (rose_if_not c.write.result _ _ e.cause))
    (rw plan e.plan)
    (rw (plan, contents) e.left))
