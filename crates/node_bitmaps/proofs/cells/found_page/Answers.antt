use Rattle.std.proofs.Common.{sym, ◌∙◌, arith}
use Rattle.node_bitmaps.proofs.PageLaws.{found_is}
use Rattle.node_bitmaps.proofs.cells.found_page.Goals as goal

pub returns-then-changes : goal.returns-then-changes
returns-then-changes c = λ g is. found_is g c.args.cells.now c.join.new.cells c.args.fresh.now
    c.args.p c.args.page.now.bytes is (omega arith) c.join.ensures.others c.join.ensures.set
    c.join.ensures.need (sym c.brings_new-changes.ensures ∙ c.if-changes.true)
