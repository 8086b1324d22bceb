use Rattle.std.proofs.Common.{ap, sym, ◌∙◌}
use Rattle.map_index.proofs.Indexed.{new_indexed, few_chunks}
use Rattle.map_index.proofs.indexed_map.IndexedMap.new.Goals as goal

pub invariant_of-result : goal.invariant_of-result
invariant_of-result c = new_indexed c.in_ok-new.field-0 c.chunks.result c.in_ok-vec.field-0.items c.in_ok-vec-2.field-0.items
    (c.in_ok-new.ensures.size.set ∙ sym c.chunks.ensures.value) (few_chunks c.args.g.now c.chunks.result c.chunks.ensures.range.1) (sym c.in_ok-vec.field-0.ok.0 ∙ c.in_ok-vec.ensures.len) (sym c.in_ok-vec-2.field-0.ok.0 ∙ c.in_ok-vec-2.ensures.len)
    (ap (λ m. m.set) c.in_ok-new.ensures.bits) (ap (λ m. m.need) c.in_ok-new.ensures.bits)
