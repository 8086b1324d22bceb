use Rattle.std.proofs.Common.{ap, ◌∙◌}
use Rattle.dlm_space.specs.Parts.{locks_of}
use Rattle.msg_rounds.specs.Phases.{Receiving}
use Rattle.msg_rounds.proofs.Examples.{may_take_1, may_take_2, may_take_at, may_resume_at, sender_at, receiver_at, may_process_1, may_process_2, may_finish, ready_1, may_resume_1, waiting_2, may_resume_2, takes_1, takes_2, processes_1, acknowledges, tells, dies_after}
use Rattle.msg_rounds.proofs.tests.finished_round_is_whole.Goals as goal

pub take-requires-clause-may : goal.take-requires-clause-may
take-requires-clause-may g c =
    λ _. may_take_at _ _ 1 c.published-space.ensures.locks (may_take_1 _)

pub take-requires-2-clause-may : goal.take-requires-2-clause-may
take-requires-2-clause-may g c =
    let by_1 = takes_1 _ _ _ c.published-space.ensures.locks c.in-Ok.ensures.locks in
    λ _. may_take_at _ _ 2 by_1 (may_take_2 _)

pub drop_message-requires-clause-holds : goal.drop_message-requires-clause-holds
drop_message-requires-clause-holds g c =
    let by_1 = takes_1 _ _ _ c.published-space.ensures.locks c.in-Ok.ensures.locks in
    let by_2 = takes_2 _ _ _ by_1 c.in-Ok-take.ensures.locks in
    receiver_at _ _ 1 _ _ by_2 (ap (λ (r : Receiving). r.phase) (c.in-Ok.ensures.phase)) (may_process_1 _)

pub processed-requires-clause-holds : goal.processed-requires-clause-holds
processed-requires-clause-holds g c =
    let by_1 = takes_1 _ _ _ c.published-space.ensures.locks c.in-Ok.ensures.locks in
    let by_2 = takes_2 _ _ _ by_1 c.in-Ok-take.ensures.locks in
    let alive = ap locks_of c.in-Err-SenderLive-eq0.ensures.err.1 ∙ by_2 in
    receiver_at _ _ 1 _ _ alive (ap (λ (r : Receiving). r.phase) (c.in-Err-SenderLive-eq0.ensures.err.0) ∙ ap (λ (r : Receiving). r.phase) (c.in-Ok.ensures.phase)) (may_process_1 _)

pub processed-requires-2-clause-holds : goal.processed-requires-2-clause-holds
processed-requires-2-clause-holds g c =
    let by_1 = takes_1 _ _ _ c.published-space.ensures.locks c.in-Ok.ensures.locks in
    let by_2 = takes_2 _ _ _ by_1 c.in-Ok-take.ensures.locks in
    let alive = ap locks_of c.in-Err-SenderLive-eq0.ensures.err.1 ∙ by_2 in
    let done_1 = processes_1 _ _ _ alive c.in-Ok-processed.ensures.locks in
    let waits = ap locks_of c.ack_granted.ensures.space ∙ done_1 in
    receiver_at _ _ 2 _ _ waits (ap (λ (r : Receiving). r.phase) (c.in-Ok-take.ensures.phase)) (may_process_2 _)

pub finish-requires-clause-holds : goal.finish-requires-clause-holds
finish-requires-clause-holds g c =
    let by_1 = takes_1 _ _ _ c.published-space.ensures.locks c.in-Ok.ensures.locks in
    let by_2 = takes_2 _ _ _ by_1 c.in-Ok-take.ensures.locks in
    let alive = ap locks_of c.in-Err-SenderLive-eq0.ensures.err.1 ∙ by_2 in
    let done_1 = processes_1 _ _ _ alive c.in-Ok-processed.ensures.locks in
    let waits = ap locks_of c.ack_granted.ensures.space ∙ done_1 in
    let heard = acknowledges _ _ _ _ waits c.in-Ok-processed-2.ensures.locks c.in-Ok-grant.ensures.ok in
    let granted = ap locks_of c.pr_granted.ensures.space ∙ ap locks_of c.ack_granted-2.ensures.space ∙ heard in
    sender_at _ _ 0 _ _ granted c.in-Ok-ack_granted.ensures.phase (may_finish _)

pub resume-requires-clause-holds : goal.resume-requires-clause-holds
resume-requires-clause-holds g c =
    let by_1 = takes_1 _ _ _ c.published-space.ensures.locks c.in-Ok.ensures.locks in
    let by_2 = takes_2 _ _ _ by_1 c.in-Ok-take.ensures.locks in
    let alive = ap locks_of c.in-Err-SenderLive-eq0.ensures.err.1 ∙ by_2 in
    let done_1 = processes_1 _ _ _ alive c.in-Ok-processed.ensures.locks in
    let waits = ap locks_of c.ack_granted.ensures.space ∙ done_1 in
    let heard = acknowledges _ _ _ _ waits c.in-Ok-processed-2.ensures.locks c.in-Ok-grant.ensures.ok in
    let granted = ap locks_of c.pr_granted.ensures.space ∙ ap locks_of c.ack_granted-2.ensures.space ∙ heard in
    let over = ap locks_of c.pr_granted-2.ensures.space ∙ tells _ _ _ _ _ granted c.in-Ok-finish.ensures.locks c.in-Ok-grant-2.ensures.ok c.in-Ok-grant-3.ensures.ok in
    receiver_at _ _ 1 _ _ over (ap (λ (r : Receiving). r.phase) (c.in-Ok-pr_granted.ensures.phase)) (ready_1 _)

pub resume-requires-clause-may : goal.resume-requires-clause-may
resume-requires-clause-may g c =
    let by_1 = takes_1 _ _ _ c.published-space.ensures.locks c.in-Ok.ensures.locks in
    let by_2 = takes_2 _ _ _ by_1 c.in-Ok-take.ensures.locks in
    let alive = ap locks_of c.in-Err-SenderLive-eq0.ensures.err.1 ∙ by_2 in
    let done_1 = processes_1 _ _ _ alive c.in-Ok-processed.ensures.locks in
    let waits = ap locks_of c.ack_granted.ensures.space ∙ done_1 in
    let heard = acknowledges _ _ _ _ waits c.in-Ok-processed-2.ensures.locks c.in-Ok-grant.ensures.ok in
    let granted = ap locks_of c.pr_granted.ensures.space ∙ ap locks_of c.ack_granted-2.ensures.space ∙ heard in
    let over = ap locks_of c.pr_granted-2.ensures.space ∙ tells _ _ _ _ _ granted c.in-Ok-finish.ensures.locks c.in-Ok-grant-2.ensures.ok c.in-Ok-grant-3.ensures.ok in
    λ _. may_resume_at _ _ 1 over (may_resume_1 _)

pub resume-requires-2-clause-holds : goal.resume-requires-2-clause-holds
resume-requires-2-clause-holds g c =
    let by_1 = takes_1 _ _ _ c.published-space.ensures.locks c.in-Ok.ensures.locks in
    let by_2 = takes_2 _ _ _ by_1 c.in-Ok-take.ensures.locks in
    let alive = ap locks_of c.in-Err-SenderLive-eq0.ensures.err.1 ∙ by_2 in
    let done_1 = processes_1 _ _ _ alive c.in-Ok-processed.ensures.locks in
    let waits = ap locks_of c.ack_granted.ensures.space ∙ done_1 in
    let heard = acknowledges _ _ _ _ waits c.in-Ok-processed-2.ensures.locks c.in-Ok-grant.ensures.ok in
    let granted = ap locks_of c.pr_granted.ensures.space ∙ ap locks_of c.ack_granted-2.ensures.space ∙ heard in
    let over = ap locks_of c.pr_granted-2.ensures.space ∙ tells _ _ _ _ _ granted c.in-Ok-finish.ensures.locks c.in-Ok-grant-2.ensures.ok c.in-Ok-grant-3.ensures.ok in
    let died = dies_after _ _ _ _ over c.in-Ok-resume.ensures.locks c.die.ensures in
    receiver_at _ _ 2 _ _ died (ap (λ (r : Receiving). r.phase) (c.in-Ok-processed-2.ensures.phase)) (waiting_2 _)

pub resume-requires-2-clause-may : goal.resume-requires-2-clause-may
resume-requires-2-clause-may g c =
    let by_1 = takes_1 _ _ _ c.published-space.ensures.locks c.in-Ok.ensures.locks in
    let by_2 = takes_2 _ _ _ by_1 c.in-Ok-take.ensures.locks in
    let alive = ap locks_of c.in-Err-SenderLive-eq0.ensures.err.1 ∙ by_2 in
    let done_1 = processes_1 _ _ _ alive c.in-Ok-processed.ensures.locks in
    let waits = ap locks_of c.ack_granted.ensures.space ∙ done_1 in
    let heard = acknowledges _ _ _ _ waits c.in-Ok-processed-2.ensures.locks c.in-Ok-grant.ensures.ok in
    let granted = ap locks_of c.pr_granted.ensures.space ∙ ap locks_of c.ack_granted-2.ensures.space ∙ heard in
    let over = ap locks_of c.pr_granted-2.ensures.space ∙ tells _ _ _ _ _ granted c.in-Ok-finish.ensures.locks c.in-Ok-grant-2.ensures.ok c.in-Ok-grant-3.ensures.ok in
    let died = dies_after _ _ _ _ over c.in-Ok-resume.ensures.locks c.die.ensures in
    λ _. may_resume_at _ _ 2 died (may_resume_2 _)
