use Rattle.std.proofs.Common.{ap, ◌∙◌, ℕ}
use Rattle.std.proofs.Math.ListN.{set}
use Rattle.node_bitmaps.specs.Cells.{bits_of, cell_at}
use Rattle.node_bitmaps.proofs.MapLaws.{put_is}
use Rattle.node_bitmaps.proofs.cells.put.Goals as goal

pub returns-then-cell-set : goal.returns-then-cell-set
returns-then-cell-set c =
    ap (λ (p : ℕ). bits_of (set c.args.cells.now c.args.c (record (cell_at c.args.cells.now c.args.c) { set = c.args.set })) (set c.args.fresh.now p 0)) c.page_of.ensures
    ∙ put_is c.args.cells.now c.args.fresh.now c.args.c c.args.set c.requires.chunk c.requires.page c.if-cell-set.true
