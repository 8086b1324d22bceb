use Rattle.std.proofs.Common.{ap, ◌∙◌, length, subst, arith, ◌+◌}
use Rattle.std.proofs.lemmas.List.{length_push}
use Rattle.leg_store.specs.Leg.{Gives}
use Rattle.image_files.proofs.RowLaws.{row_more}
use Rattle.image_files.proofs.rows.read_into.Goals as goal

pub loop-i-preserved : goal.loop-i-preserved
loop-i-preserved g c =
    let at = c.loop-i in
    let v = c.in_ok-sector.sector in
    record {
      many = ap length c.push_reserved.ensures.items ∙ length_push at.row.items v ∙ ap (λ n. n + 1) at.invariant.many;
      room = c.push_reserved.ensures.capacity ∙ at.invariant.room;
      row = row_more (g.L.LegDev.contents c.args.leg.now) c.args.at at.i at.row.items c.push_reserved.new.self.items v at.invariant.row at.invariant.many
          (subst (λ t. Gives t (c.args.at + at.i) v) at.invariant.contents c.in_ok-sector.ensures.value) c.push_reserved.ensures.items;
      contents = c.read.ensures.contents ∙ at.invariant.contents;
      size = c.read.ensures.size ∙ at.invariant.size;
      later = let e = c.in_ok-sector.ensures.cause.later in omega arith;
    }
