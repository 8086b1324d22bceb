use Rattle.std.proofs.Common.{ap, ◌∙◌}
use Rattle.dlm_space.specs.Parts.{locks_of}
use Rattle.msg_rounds.specs.Phases.{Receiving}
use Rattle.msg_rounds.proofs.Examples.{may_take_1, may_take_2, may_take_at, may_resume_at, idle_1, sender_at, receiver_at, may_process_1, may_drop_2, waiting_1, broken_may_resume, takes_1, takes_2, processes_1, dies_before, drops_2}
use Rattle.msg_rounds.proofs.tests.death_after_publish_breaks.Goals as goal

pub take-requires-clause-may : goal.take-requires-clause-may
take-requires-clause-may g c =
    λ _. may_take_at _ _ 1 c.published-space.ensures.locks (may_take_1 _)

pub take-requires-2-clause-may : goal.take-requires-2-clause-may
take-requires-2-clause-may g c =
    let by_1 = takes_1 _ _ _ c.published-space.ensures.locks c.in-Ok.ensures.locks in
    λ _. may_take_at _ _ 2 by_1 (may_take_2 _)

pub ask_token-requires-clause-holds : goal.ask_token-requires-clause-holds
ask_token-requires-clause-holds g c =
    let by_1 = takes_1 _ _ _ c.published-space.ensures.locks c.in-Ok.ensures.locks in
    let by_2 = takes_2 _ _ _ by_1 c.in-Ok-take.ensures.locks in
    sender_at _ _ 1 _ _ by_2 c.new-busy.ensures (idle_1 _)

pub processed-requires-clause-holds : goal.processed-requires-clause-holds
processed-requires-clause-holds g c =
    let by_1 = takes_1 _ _ _ c.published-space.ensures.locks c.in-Ok.ensures.locks in
    let by_2 = takes_2 _ _ _ by_1 c.in-Ok-take.ensures.locks in
    let same = ap locks_of c.in-Err-ReceiverBusy-Taken.ensures.err.1 ∙ by_2 in
    receiver_at _ _ 1 _ _ same (ap (λ (r : Receiving). r.phase) (c.in-Ok.ensures.phase)) (may_process_1 _)

pub processed-requires-2-clause-holds : goal.processed-requires-2-clause-holds
processed-requires-2-clause-holds g c =
    let by_1 = takes_1 _ _ _ c.published-space.ensures.locks c.in-Ok.ensures.locks in
    let by_2 = takes_2 _ _ _ by_1 c.in-Ok-take.ensures.locks in
    let same = ap locks_of c.in-Err-ReceiverBusy-Taken.ensures.err.1 ∙ by_2 in
    let done_1 = processes_1 _ _ _ same c.in-Ok-processed.ensures.locks in
    let died = ap locks_of c.sender_died-2.ensures.space ∙ ap locks_of c.sender_died.ensures.space ∙ dies_before _ _ _ done_1 c.die.ensures in
    receiver_at _ _ 2 _ _ died (ap (λ (r : Receiving). r.phase) (c.sender_died-2.ensures.receiver) ∙ ap (λ (r : Receiving). r.phase) (c.in-Ok-take.ensures.phase)) (may_drop_2 _)

pub drop_message-requires-clause-holds : goal.drop_message-requires-clause-holds
drop_message-requires-clause-holds g c =
    let by_1 = takes_1 _ _ _ c.published-space.ensures.locks c.in-Ok.ensures.locks in
    let by_2 = takes_2 _ _ _ by_1 c.in-Ok-take.ensures.locks in
    let same = ap locks_of c.in-Err-ReceiverBusy-Taken.ensures.err.1 ∙ by_2 in
    let done_1 = processes_1 _ _ _ same c.in-Ok-processed.ensures.locks in
    let died = ap locks_of c.sender_died-2.ensures.space ∙ ap locks_of c.sender_died.ensures.space ∙ dies_before _ _ _ done_1 c.die.ensures in
    let refused = ap locks_of c.in-Err-SenderGone-eq0.ensures.err.1 ∙ died in
    receiver_at _ _ 2 _ _ refused (ap (λ (r : Receiving). r.phase) (c.in-Err-SenderGone-eq0.ensures.err.0) ∙ ap (λ (r : Receiving). r.phase) (c.sender_died-2.ensures.receiver) ∙ ap (λ (r : Receiving). r.phase) (c.in-Ok-take.ensures.phase)) (may_drop_2 _)

pub resume-requires-clause-holds : goal.resume-requires-clause-holds
resume-requires-clause-holds g c =
    let by_1 = takes_1 _ _ _ c.published-space.ensures.locks c.in-Ok.ensures.locks in
    let by_2 = takes_2 _ _ _ by_1 c.in-Ok-take.ensures.locks in
    let same = ap locks_of c.in-Err-ReceiverBusy-Taken.ensures.err.1 ∙ by_2 in
    let done_1 = processes_1 _ _ _ same c.in-Ok-processed.ensures.locks in
    let died = ap locks_of c.sender_died-2.ensures.space ∙ ap locks_of c.sender_died.ensures.space ∙ dies_before _ _ _ done_1 c.die.ensures in
    let refused = ap locks_of c.in-Err-SenderGone-eq0.ensures.err.1 ∙ died in
    let free = drops_2 _ _ _ _ refused c.in-Ok-drop_message.ensures.locks c.in-Ok-grant.ensures.ok in
    receiver_at _ _ 1 _ _ free (ap (λ (r : Receiving). r.phase) (c.sender_died.ensures.receiver) ∙ ap (λ (r : Receiving). r.phase) (c.in-Ok-processed.ensures.phase)) (waiting_1 _)

pub resume-requires-clause-may : goal.resume-requires-clause-may
resume-requires-clause-may g c =
    let by_1 = takes_1 _ _ _ c.published-space.ensures.locks c.in-Ok.ensures.locks in
    let by_2 = takes_2 _ _ _ by_1 c.in-Ok-take.ensures.locks in
    let same = ap locks_of c.in-Err-ReceiverBusy-Taken.ensures.err.1 ∙ by_2 in
    let done_1 = processes_1 _ _ _ same c.in-Ok-processed.ensures.locks in
    let died = ap locks_of c.sender_died-2.ensures.space ∙ ap locks_of c.sender_died.ensures.space ∙ dies_before _ _ _ done_1 c.die.ensures in
    let refused = ap locks_of c.in-Err-SenderGone-eq0.ensures.err.1 ∙ died in
    let free = drops_2 _ _ _ _ refused c.in-Ok-drop_message.ensures.locks c.in-Ok-grant.ensures.ok in
    λ _. may_resume_at _ _ 1 free (broken_may_resume _)
