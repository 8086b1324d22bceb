use Rattle.std.proofs.Common.{None, ap, ◌∙◌}
use Rattle.world_members.specs.Changes.{hears, view_resumed_if}
use Rattle.world_state.specs.Kept.{core_of}
use Rattle.world_members.proofs.Stepping.{resume_steps, resume_after}
use Rattle.world_members.proofs.Telling.{resume_at}
use Rattle.world_members.proofs.receiving.resume.Goals as goal

pub end_round-outcome-requires-clause-may : goal.end_round-outcome-requires-clause-may
end_round-outcome-requires-clause-may c =
    (resume_at (core_of c.args.core.now) c.args.n c.requires.ready.rounded c.requires.accepted).resumes

pub end_round-outcome-requires-clause-holds : goal.end_round-outcome-requires-clause-holds
end_round-outcome-requires-clause-holds c = (c.requires.ready.rounded.phased.holds c.args.n).receiver

pub end_round-outcome-requires-clause-free : goal.end_round-outcome-requires-clause-free
end_round-outcome-requires-clause-free c = c.requires.ready.unblocked.may_resume c.args.n c.requires.accepted

pub returns-clause-after : goal.returns-clause-after
returns-clause-after c =
    let n = c.args.n in
    let knows = c.knows_whole-knows.result in
    c.resume_view.ensures
    ∙ ap (λ x. view_resumed_if x n knows) (c.set_heard.ensures
    ∙ ap (λ x. hears x n None) c.end_round-outcome.ensures.core)
    ∙ resume_steps (core_of c.args.core.now) n knows c.knows_whole-knows.ensures
    ∙ resume_after (core_of c.args.core.now) n c.end_round-outcome.result c.end_round-outcome.ensures.outcome
