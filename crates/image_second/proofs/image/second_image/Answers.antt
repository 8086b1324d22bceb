use Rattle.std.proofs.Common.{subst, arith, ◌∙◌}
use Rattle.image_second.specs.Second.{GivesSecond, read_of}
use Rattle.image_second.proofs.SecondLaws.{made_more}
use Rattle.image_second.proofs.image.second_image.Goals as goal

pub loop-at-preserved : goal.loop-at-preserved
loop-at-preserved g c =
    record {
      made = made_more (read_of c.args.image.now) (g.L.LegDev.contents c.args.leg.now) c.loop-at.at c.loop-at.bytes.items
          c.extend_from_slice.new.self.items c.in_ok-sector.sector c.loop-at.invariant.made
          (subst (λ told. GivesSecond (read_of c.args.image.now) told c.loop-at.at c.in_ok-sector.sector) c.loop-at.invariant.contents
          c.in_ok-sector.ensures.value)
          c.in_ok-extend_from_slice.ensures.items;
      contents = c.image_sector.ensures.contents ∙ c.loop-at.invariant.contents;
      size = c.image_sector.ensures.size ∙ c.loop-at.invariant.size;
      later = omega (arith, c.image_sector.ensures.cause.later, c.loop-at.invariant.later);
    }
