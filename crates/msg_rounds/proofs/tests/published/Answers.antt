use Rattle.std.proofs.Common.{ap, ◌∙◌}
use Rattle.dlm_space.specs.Parts.{locks_of}
use Rattle.msg_rounds.specs.Phases.{Receiving}
use Rattle.msg_rounds.proofs.Examples.{no_take, may_ask_token, may_ask_message, may_publish, sender_at, node_at, token_given, message_given, first_publishes}
use Rattle.msg_rounds.proofs.tests.published.Goals as goal

pub take-requires-clause-may : goal.take-requires-clause-may
take-requires-clause-may g c =
    no_take _ _ c.three_nodes-space.ensures c.new-receiver.ensures

pub ask_token-requires-clause-holds : goal.ask_token-requires-clause-holds
ask_token-requires-clause-holds g c =
    let up = ap locks_of c.in-Err-NotCalled.ensures.err.1 ∙ c.three_nodes-space.ensures in
    sender_at _ _ 0 _ _ up c.new-sender.ensures may_ask_token

pub ask_message-requires-clause-holds : goal.ask_message-requires-clause-holds
ask_message-requires-clause-holds g c =
    let up = ap locks_of c.in-Err-NotCalled.ensures.err.1 ∙ c.three_nodes-space.ensures in
    let token = token_given _ _ (locks_of c.grant.new.self) up (ap locks_of c.token_granted.ensures.space ∙ c.in-Ok.ensures.locks) c.in-Ok-grant.ensures.ok in
    let held = ap locks_of c.token_granted-2.ensures.space ∙ token in
    node_at _ _ 0 _ _ _ _ held c.in-Ok-token_granted.ensures.phase (ap (λ (r : Receiving). r.phase) (c.in-Err-NotCalled.ensures.err.0 ∙ c.new-receiver.ensures)) may_ask_message

pub publish-requires-clause-holds : goal.publish-requires-clause-holds
publish-requires-clause-holds g c =
    let up = ap locks_of c.in-Err-NotCalled.ensures.err.1 ∙ c.three_nodes-space.ensures in
    let token = token_given _ _ (locks_of c.grant.new.self) up (ap locks_of c.token_granted.ensures.space ∙ c.in-Ok.ensures.locks) c.in-Ok-grant.ensures.ok in
    let held = ap locks_of c.token_granted-2.ensures.space ∙ token in
    let message = message_given _ _ (locks_of c.grant-2.new.self) held c.in-Ok-ask_message.ensures.locks c.in-Ok-grant-2.ensures.ok in
    let offered = ap locks_of c.offer.ensures.space ∙ ap locks_of c.void.ensures.space ∙ ap locks_of c.message_granted.ensures.space ∙ message in
    sender_at _ _ 0 _ _ offered c.in-Ok-offer.ensures.phase may_publish

pub returns-clause-locks : goal.returns-clause-locks
returns-clause-locks g c =
    let up = ap locks_of c.in-Err-NotCalled.ensures.err.1 ∙ c.three_nodes-space.ensures in
    let token = token_given _ _ (locks_of c.grant.new.self) up (ap locks_of c.token_granted.ensures.space ∙ c.in-Ok.ensures.locks) c.in-Ok-grant.ensures.ok in
    let held = ap locks_of c.token_granted-2.ensures.space ∙ token in
    let message = message_given _ _ (locks_of c.grant-2.new.self) held c.in-Ok-ask_message.ensures.locks c.in-Ok-grant-2.ensures.ok in
    let offered = ap locks_of c.offer.ensures.space ∙ ap locks_of c.void.ensures.space ∙ ap locks_of c.message_granted.ensures.space ∙ message in
    first_publishes _ _ _ offered c.in-Ok-publish.ensures.locks
