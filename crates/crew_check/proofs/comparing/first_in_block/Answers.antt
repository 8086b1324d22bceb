use Rattle.std.proofs.Common.{◌*◌, length, refl, arith}
use Rattle.crew_check.proofs.BlockLaws.{block_found, block_equal, block_within, block_begins}
use Rattle.crew_check.proofs.comparing.first_in_block.Goals as goal

pub overflow_add-result : goal.overflow_add-result
overflow_add-result c =
    let within = block_within c.args.a.now c.args.b.now (c.args.i * 64) c.min-end.result c.in-Some.place c.compare.result (omega (arith, c.min-end.ensures)) c.compare.ensures c.in-Some.is in
    let fits = c.min-end.type_inv in
    omega (arith, within, fits)

pub returns-in-Some : goal.returns-in-Some
returns-in-Some c =
    let begins = block_begins (length c.args.a.now) c.args.i c.requires.within in
    block_found c.args.a.now c.args.b.now c.args.i (c.args.i * 64) c.min-end.result c.in-Some.place c.compare.result refl c.min-end.ensures (omega (arith, begins, c.min-end.ensures)) c.compare.ensures c.in-Some.is

pub returns-in-None : goal.returns-in-None
returns-in-None c =
    let begins = block_begins (length c.args.a.now) c.args.i c.requires.within in
    block_equal c.args.a.now c.args.b.now c.args.i (c.args.i * 64) c.min-end.result c.compare.result refl c.min-end.ensures (omega (arith, begins, c.min-end.ensures)) c.compare.ensures c.in-None.is
