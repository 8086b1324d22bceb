use Rattle.std.proofs.Common.{◌≡◌, ◌+◌, ◌<◌, ◌≤◌, length, sym, ◌∙◌, arith}
use Rattle.std.proofs.lemmas.Bool.{lt-ltb, le-ltb}
use Rattle.world_state.specs.Kept.{core_of}
use Rattle.storm_turns.proofs.Flights.{writes_left-all, writes_left-none, writes_left-next}
use Rattle.storm_turns.proofs.nodes.has_few_writes.Goals as goal

pub loop-seen-init : goal.loop-seen-init
loop-seen-init c =
    let rise = (c.requires.ready.range.flight.requests c.args.n).order.writes_rise in
    let all = writes_left-all ((core_of c.args.core.now).writes_made c.args.n) ((core_of c.args.core.now).writes c.args.n) rise in
    omega (arith, all)

pub loop-seen-preserved : goal.loop-seen-preserved
loop-seen-preserved c =
    let rise = (c.requires.ready.range.flight.requests c.args.n).order.writes_rise in
    let next = writes_left-next c.loop-seen.from c.in-Some.k 0 ((core_of c.args.core.now).writes_made c.args.n) ((core_of c.args.core.now).writes c.args.n) rise (sym c.write_from.ensures ∙ c.in-Some.is) in
    let before = c.loop-seen.invariant in
    omega (arith, next.0, before)

pub overflow_add-from : goal.overflow_add-from
overflow_add-from c =
    let rise = (c.requires.ready.range.flight.requests c.args.n).order.writes_rise in
    let next = writes_left-next c.loop-seen.from c.in-Some.k 0 ((core_of c.args.core.now).writes_made c.args.n) ((core_of c.args.core.now).writes c.args.n) rise (sym c.write_from.ensures ∙ c.in-Some.is) in
    let left = c.requires.ready.writes_left c.args.n in
    omega (arith, next.1, left)

pub returns-in-None : goal.returns-in-None
returns-in-None c =
    let none = writes_left-none c.loop-seen.from ((core_of c.args.core.now).writes c.args.n) (sym c.write_from.ensures ∙ c.in-None.is) in
    let before = c.loop-seen.invariant in
    let few : length ((core_of c.args.core.now).writes c.args.n) < 4 = omega (arith, none, before) in
    sym (lt-ltb (length ((core_of c.args.core.now).writes c.args.n)) 4 few)

pub returns : goal.returns
returns c =
    let before = c.loop-seen.invariant in
    let many : 4 ≤ length ((core_of c.args.core.now).writes c.args.n) = omega (arith, before) in
    sym (le-ltb (length ((core_of c.args.core.now).writes c.args.n)) 4 many)
