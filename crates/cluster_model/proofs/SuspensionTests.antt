-- A range is suspended and opened again, and what is printed for each line.
use Rattle.std.proofs.Common.{false, List, [], ◌∷◌, refl}
use Rattle.dlm_modes.specs.First.{first_such}
use Rattle.dlm_modes.specs.declared.mode.Mode.TheVariants.{PR, EX}
use Rattle.mdc_types.specs.declared.numbers.Sector.{Sector}
use Rattle.mdc_types.specs.declared.events.Event.TheVariants.{Grant, AskToken, AskMessage, Offer, Publish, FinishRound, Take, Processed, Resume, AskWrite, AskResync, PassOwn}
use Rattle.mdc_types.specs.declared.events.Wish.TheVariants.{Range}
use Rattle.mdc_types.specs.declared.outcomes.Outcome.TheVariants.{Write, Granted, Message, Whole}
use Rattle.mdc_types.specs.declared.refusals.Refusal.TheVariants.{Suspended}
use Rattle.mdc_types.specs.declared.resources.Res.TheVariants.{Token, Message as MessageLock, Ack, Resync as ResyncLock}
use Rattle.cluster_msgs.specs.Layout.{layout}
use Rattle.cluster_msgs.specs.Messages.{spelled}
use Rattle.cluster_msgs.specs.Reading.{roles_of, state_of, metadata_of, capacity_of, range_of, resyncing_of, leg_of, body_of, msg_of, fields_in, message_in}
use Rattle.cluster_model.proofs.Player.{Line, done, says, refused, Plays}
use Rattle.cluster_model.proofs.RowTests.{opening}

-- writes into a range that another node copies are refused until it is closed
abbrev pub suspension : Sector → List Line
suspension v =
    done (AskResync 2)
    ∷ says (Grant ResyncLock) (Granted 2 EX)
    ∷ done (PassOwn 2)
    ∷ done (AskToken 2)
    ∷ says (Grant Token) (Granted 2 EX)
    ∷ done (AskMessage 2)
    ∷ says (Grant MessageLock) (Granted 2 EX)
    ∷ done (Offer 2 (Range (record { lo = 4; hi = 8 })))
    ∷ done (Publish 2)
    ∷ says (Take 0) (Message 1 2)
    ∷ done (Processed 0)
    ∷ says (Take 1) (Message 1 2)
    ∷ done (Processed 1)
    ∷ says (Grant Ack) (Granted 2 EX)
    ∷ done (FinishRound 2)
    ∷ says (Grant MessageLock) (Granted 0 PR)
    ∷ says (Grant MessageLock) (Granted 1 PR)
    ∷ says (Resume 0) Whole
    ∷ says (Resume 1) Whole
    ∷ refused (AskWrite 0 5 v) (Suspended 2)
    ∷ done (AskToken 2)
    ∷ says (Grant Token) (Granted 2 EX)
    ∷ done (AskMessage 2)
    ∷ says (Grant MessageLock) (Granted 2 EX)
    ∷ done (Offer 2 (Range (record { lo = 0; hi = 0 })))
    ∷ done (Publish 2)
    ∷ says (Take 0) (Message 1 2)
    ∷ done (Processed 0)
    ∷ says (Take 1) (Message 1 2)
    ∷ done (Processed 1)
    ∷ says (Grant Ack) (Granted 2 EX)
    ∷ done (FinishRound 2)
    ∷ says (Grant MessageLock) (Granted 0 PR)
    ∷ says (Grant MessageLock) (Granted 1 PR)
    ∷ says (Resume 0) Whole
    ∷ says (Resume 1) Whole
    ∷ says (AskWrite 0 5 v) (Write 0)
    ∷ []

suspension_plays : (v : Sector) → Plays (opening 3 false) (suspension v)
unfolding first_such layout spelled roles_of state_of metadata_of capacity_of range_of resyncing_of leg_of body_of msg_of fields_in message_in
suspension_plays v = refl
