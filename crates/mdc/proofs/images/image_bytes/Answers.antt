use Rattle.std.proofs.Common.{Err, refl, subst}
use Rattle.script_text.specs.Images.{ReadsImages}
use Rattle.mdc.specs.ImageAnswers.ImagesJudged.{is_none, wants_memory, ran}
use Rattle.mdc.proofs.ImageAnswering.{kept}
use Rattle.mdc.proofs.images.image_bytes.Goals as goal

pub returns-in-Ok-new : goal.returns-in-Ok-new
returns-in-Ok-new g c = ran c.in-Ok.lines c.play_images.result c.in-Ok.ensures c.play_images.ensures c.images_status.ensures

pub returns-in-Ok : goal.returns-in-Ok
returns-in-Ok g c = wants_memory refl (kept _ refl refl refl)

pub returns-in-Err-Fault : goal.returns-in-Err-Fault
returns-in-Err-Fault g c =
    let none = subst (λ e. ReadsImages (Err e) c.args.bytes.now) c.in-Err-Fault.field-0-is c.in-Err-Fault.ensures in
    is_none c.in-Err-Fault.fault none.0 none.1 c.tell_fault.ensures.told c.tell_fault.ensures.rose
    (kept _ refl refl refl)

pub returns : goal.returns
returns g c = wants_memory refl (kept _ refl refl refl)
