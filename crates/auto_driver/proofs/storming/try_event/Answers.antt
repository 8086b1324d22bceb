use Rattle.std.proofs.Common.{◌≡◌, Err, ap, ◌∙◌}
use Rattle.cluster_core.specs.World.{Seen}
use Rattle.cluster_core.specs.Stands.{stand}
use Rattle.auto_driver.specs.Storming.{with_event, Refused, Made}
use Rattle.auto_driver.proofs.storming.try_event.Goals as goal

pub returns-in-Ok-clause-ok : goal.returns-in-Ok-clause-ok
returns-in-Ok-clause-ok g c =
    Made c.in-Ok.o (record { carries = c.in-Ok.ensures.carried; entries = c.in-Ok.ensures.entry })
    (c.count.ensures ∙ ap (with_event c.args.counts.now) c.counted_as.ensures)

pub returns-in-Err-Refused-clause-ok : goal.returns-in-Err-Refused-clause-ok
returns-in-Err-Refused-clause-ok g c =
    Refused c.in-Err-Refused.field-0-0
    (c.step.ensures.refused c.in-Err-Refused.field-0-0 (c.in-Err-Refused.is ∙ ap Err c.in-Err-Refused.field-0-is))
    (ap (λ (w : Seen). stand w) c.in-Err-Refused.ensures.err) c.count_refused.ensures
