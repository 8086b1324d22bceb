use Rattle.std.proofs.Common.{ap, subst, refl, ◌∙◌}
use Rattle.script_text.specs.Outside.{with_back, WroteFront}
use Rattle.image_ends.specs.Told.Told.{all, less}
use Rattle.image_ends.proofs.telling.tell.Goals as goal

pub returns-in-Ok-clause-told : goal.returns-in-Ok-clause-told
returns-in-Ok-clause-told g c =
    all (c.in-Ok.ensures.ok ∙ ap (with_back (g.K.Sink.written c.args.sink.now)) c.as_bytes.ensures.value)

pub returns-in-Err-clause-told : goal.returns-in-Err-clause-told
returns-in-Err-clause-told g c =
    less (c.in-Err.ensures.cause.failed c.in-Err.field-0 refl refl)
    (subst (λ t. WroteFront (g.K.Sink.written c.args.sink.now) t (g.K.Sink.written c.write_all.new.sink)) c.as_bytes.ensures.value
    c.in-Err.ensures.err)
