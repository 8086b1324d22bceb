use Rattle.std.proofs.Common.{◌≡◌, ◌+◌, ◌*◌, min, length, map, refl, ap, sym, subst, ◌∙◌, arith}
use Rattle.std.proofs.lemmas.List.{length-map}
use Rattle.image_opening.specs.Faults.{HaveBase}
use Rattle.image_opening.proofs.DataLaws.{base_begins}
use Rattle.image_opening.proofs.data.read_base.Goals as goal

pub loop-block-init : goal.loop-block-init
loop-block-init g c = record {
  base = base_begins (map g.L.LegDev.contents c.args.legs.now.items) c.args.head.now c.args.images.now (min 0 c.args.head.now.geometry.room) _ (omega arith)
      (ap (map (λ values. values.items)) c.in_ok-base.ensures.items);
  contents = refl;
  size = refl;
}

pub add_block-requires-clause-many : goal.add_block-requires-clause-many
add_block-requires-clause-many g c κs within =
    sym (length-map c.loop-block.legs.items g.L.LegDev.contents) ∙ ap length c.loop-block.invariant.contents
    ∙ length-map c.args.legs.now.items g.L.LegDev.contents ∙ c.requires.many

pub add_block-requires-clause-base : goal.add_block-requires-clause-base
add_block-requires-clause-base g c κs within =
    let room = c.args.head.now.geometry.room in
    let e : min (64 * c.loop-block.block) room ≡ 64 * c.loop-block.block = omega arith in
    subst (λ told. HaveBase told c.args.head.now c.args.images.now (64 * c.loop-block.block) (map (λ values. values.items) c.loop-block.base.items)) (sym c.loop-block.invariant.contents)
    (subst (λ n. HaveBase (map g.L.LegDev.contents c.args.legs.now.items) c.args.head.now c.args.images.now n (map (λ values. values.items) c.loop-block.base.items)) e
    c.loop-block.invariant.base)

pub loop-block-preserved : goal.loop-block-preserved
loop-block-preserved g c =
    let room = c.args.head.now.geometry.room in
    let e : 64 * c.loop-block.block + c.min-count.result ≡ min (64 * (c.loop-block.block + 1)) room = omega arith in
    record {
      base = subst (λ told. HaveBase told c.args.head.now c.args.images.now (min (64 * (c.loop-block.block + 1)) room) (map (λ values. values.items) c.add_block.new.base.items)) c.loop-block.invariant.contents
          (subst (λ n. HaveBase (map g.L.LegDev.contents c.loop-block.legs.items) c.args.head.now c.args.images.now n (map (λ values. values.items) c.add_block.new.base.items)) e
          c.in_ok-add_block.ensures.base);
      contents = c.in_ok-add_block.ensures.contents ∙ c.loop-block.invariant.contents;
      size = c.in_ok-add_block.ensures.size ∙ c.loop-block.invariant.size;
    }

pub returns-clause-base : goal.returns-clause-base
returns-clause-base g c =
    let room = c.args.head.now.geometry.room in
    let e : min (64 * c.loop-block.block) room ≡ room = omega arith in
    subst (λ n. HaveBase (map g.L.LegDev.contents c.args.legs.now.items) c.args.head.now c.args.images.now n (map (λ values. values.items) c.loop-block.base.items)) e
    c.loop-block.invariant.base
