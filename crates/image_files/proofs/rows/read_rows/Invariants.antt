use Rattle.std.proofs.Common.{◌≡◌, map, vec_capacity, vec_len, length}
use Rattle.image_files.proofs.RowLaws.{RowsTo}
use Rattle.image_files.proofs.rows.read_rows.Given as goal

abbrev pub invariant-loop-l : goal.invariant-loop-l
invariant-loop-l g i = record {
  rows : RowsTo (map g.L.LegDev.contents i.initial.legs.items) i.roles i.at i.count i.l (map (λ row. row.items) i.rows.items);
  many : vec_len i.rows ≡ i.l;
  room : vec_capacity i.rows ≡ length i.initial.legs.items;
  contents : map g.L.LegDev.contents i.legs.items ≡ map g.L.LegDev.contents i.initial.legs.items;
  size : map g.L.LegDev.size i.legs.items ≡ map g.L.LegDev.size i.initial.legs.items;
}
