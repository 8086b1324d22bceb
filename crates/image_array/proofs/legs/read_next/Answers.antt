use Rattle.std.proofs.Common.{◌∙◌, subst, Some, Ok, Err}
use Rattle.image_faults.specs.Legs.{ReadsLeg, FitsSuper}
use Rattle.image_faults.proofs.LegLaws.{not_there}
use Rattle.image_array.proofs.NextLegs.{next_ok, next_disagrees, next_ended, read_more, legs_more, long_new, chunk_here, fault_here}
use Rattle.image_array.proofs.legs.read_next.Goals as goal

pub returns-in-Err-clause-judged : goal.returns-in-Err-clause-judged
returns-in-Err-clause-judged g c =
    next_ended (g.L.LegDev.contents c.args.leg.now) c.args.images.now.items c.args.size c.in-Err.end
    (subst (λ chunk. ReadsLeg (g.L.LegDev.contents c.args.leg.now) chunk c.args.size (Err c.in-Err.end)) (chunk_here c.as_slice-before.result.now c.args.images.now.items c.chunk_given.result c.as_slice-before.ensures.value c.chunk_given.ensures) c.in-Err.ensures.judged)

pub returns-in-Some-clause-judged : goal.returns-in-Some-clause-judged
returns-in-Some-clause-judged g c =
    next_disagrees (g.L.LegDev.contents c.args.leg.now) c.args.images.now.items c.args.size c.in-Ok.image c.in-Some.fault
    (subst (λ chunk. ReadsLeg (g.L.LegDev.contents c.args.leg.now) chunk c.args.size (Ok c.in-Ok.image)) (chunk_here c.as_slice-before.result.now c.args.images.now.items c.chunk_given.result c.as_slice-before.ensures.value c.chunk_given.ensures) c.in-Ok.ensures.judged)
    (fault_here c.as_slice-before.result.now c.args.images.now.items c.in-Ok.image.superblock (Some c.in-Some.fault) c.as_slice-before.ensures.value c.in-Some.ensures)

pub returns-clause-judged : goal.returns-clause-judged
returns-clause-judged g c =
    next_ok (g.L.LegDev.contents c.args.leg.now) c.args.images.now.items c.args.size c.in-Ok.image
    (subst (λ chunk. ReadsLeg (g.L.LegDev.contents c.args.leg.now) chunk c.args.size (Ok c.in-Ok.image)) (chunk_here c.as_slice-before.result.now c.args.images.now.items c.chunk_given.result c.as_slice-before.ensures.value c.chunk_given.ensures) c.in-Ok.ensures.judged)
    (fault_here c.as_slice-before.result.now c.args.images.now.items c.in-Ok.image.superblock c.agreement_fault.result c.as_slice-before.ensures.value c.agreement_fault.ensures
    ∙ not_there c.agreement_fault.result c.in_default.not-Some)

pub returns-clause-read : goal.returns-clause-read
returns-clause-read g c =
    read_more (g.L.LegDev.contents c.args.leg.now) c.args.size c.args.images.now.items _ c.in-Ok.image c.in_ok-add_image.ensures.ok
    (subst (λ chunk. ReadsLeg (g.L.LegDev.contents c.args.leg.now) chunk c.args.size (Ok c.in-Ok.image)) (chunk_here c.as_slice-before.result.now c.args.images.now.items c.chunk_given.result c.as_slice-before.ensures.value c.chunk_given.ensures) c.in-Ok.ensures.judged)
    c.in-Ok.ensures.pages

pub returns-clause-legs : goal.returns-clause-legs
returns-clause-legs g c =
    legs_more c.args.images.now.items _ c.in-Ok.image c.args.size c.in_ok-add_image.ensures.ok c.requires.legs
    (subst (λ chunk. FitsSuper chunk c.args.size c.in-Ok.image) (chunk_here c.as_slice-before.result.now c.args.images.now.items c.chunk_given.result c.as_slice-before.ensures.value c.chunk_given.ensures) c.in-Ok.ensures.fits)
    (fault_here c.as_slice-before.result.now c.args.images.now.items c.in-Ok.image.superblock c.agreement_fault.result c.as_slice-before.ensures.value c.agreement_fault.ensures
    ∙ not_there c.agreement_fault.result c.in_default.not-Some)

pub returns-clause-long : goal.returns-clause-long
returns-clause-long g c =
    long_new c.args.images.now.items _ c.in-Ok.image c.chunk_given.result c.args.size c.in_ok-add_image.ensures.ok c.in-Ok.ensures.fits
