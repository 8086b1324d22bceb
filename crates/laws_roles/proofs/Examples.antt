-- What is agreed on along a round: the opening's roles until it is whole.
use Rattle.std.proofs.Common.{◌≡◌, false, List, [], ◌∷◌, refl}
use Rattle.dlm_modes.specs.First.{first_such}
use Rattle.dlm_modes.specs.declared.mode.Mode.TheVariants.{EX}
use Rattle.mdc_types.specs.declared.events.Event.TheVariants.{Cut, Grant, AskToken, AskMessage, Offer, WriteSuper, Publish, FinishRound, Take, Processed, WritePage}
use Rattle.mdc_types.specs.declared.events.Wish.TheVariants.{Meta}
use Rattle.mdc_types.specs.declared.outcomes.Entry.{Entry}
use Rattle.mdc_types.specs.declared.outcomes.Outcome.TheVariants.{Done, Lost, Granted, Events, Message}
use Rattle.mdc_types.specs.declared.resources.Res.TheVariants.{Token, Message as MessageLock, Ack}
use Rattle.mdc_types.specs.declared.roles.Role.TheVariants.{Working, Faulty}
use Rattle.cluster_msgs.specs.Layout.{layout}
use Rattle.cluster_msgs.specs.Messages.{spelled}
use Rattle.cluster_msgs.specs.Reading.{roles_of, state_of, metadata_of, capacity_of, range_of, resyncing_of, leg_of, body_of, msg_of, fields_in, message_in}
use Rattle.cluster_model.specs.Opening.{Origin, header_at}
use Rattle.cluster_model.specs.Run.{entry}
use Rattle.laws_locks.specs.Following.{core_after}
use Rattle.laws_roles.specs.Agreed.{agreed_in}

-- two nodes over two legs
o : Origin
o = header_at (record { legs = 2; sectors = 16; room = 16; chunk = 4; second = false }) 2 false 0

-- node 0 loses leg 1, and tells node 1, which has taken the roles
abbrev told : List Entry
told =
    entry (Processed 1) Done
    ∷ entry (Take 1) (Message 0 0)
    ∷ entry (Publish 0) Done
    ∷ entry (WriteSuper 0 0) Done
    ∷ entry (Offer 0 Meta) (Events 2)
    ∷ entry (Grant MessageLock) (Granted 0 EX)
    ∷ entry (AskMessage 0) Done
    ∷ entry (Grant Token) (Granted 0 EX)
    ∷ entry (AskToken 0) Done
    ∷ entry (WritePage 0 0 1) (Lost 1)
    ∷ entry (Cut 0 1) Done
    ∷ []

taken_there : ((core_after o told).view 1).role 1 ≡ Faulty
unfolding o first_such layout spelled roles_of state_of metadata_of capacity_of range_of resyncing_of leg_of body_of msg_of fields_in message_in
taken_there = refl

not_agreed_yet : (agreed_in o told).role 1 ≡ Working
unfolding o first_such layout spelled roles_of state_of metadata_of capacity_of range_of resyncing_of leg_of body_of msg_of fields_in message_in
not_agreed_yet = refl

then_agreed : (agreed_in o (entry (FinishRound 0) Done ∷ entry (Grant Ack) (Granted 0 EX) ∷ told)).role 1 ≡ Faulty
unfolding o first_such layout spelled roles_of state_of metadata_of capacity_of range_of resyncing_of leg_of body_of msg_of fields_in message_in
then_agreed = refl
