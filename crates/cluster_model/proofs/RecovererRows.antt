-- A recoverer dies too, and what is printed for each line.
use Rattle.std.proofs.Common.{false, List, [], ◌∷◌, refl}
use Rattle.dlm_modes.specs.First.{first_such}
use Rattle.dlm_modes.specs.declared.mode.Mode.TheVariants.{EX}
use Rattle.mdc_types.specs.Sectors.{zero_sector}
use Rattle.mdc_types.specs.declared.numbers.Sector.{Sector}
use Rattle.mdc_types.specs.declared.events.Event.TheVariants.{Die, Grant, AskToken, AskMessage, Offer, Publish, FinishRound, AskWrite, WritePage, Out, AskRead, In, AskResync, PassOwn, CopyIn, CopyOut, Settle, EndPass, Recover, SlotIn, SlotOut, Recovered}
use Rattle.mdc_types.specs.declared.events.Wish.TheVariants.{Range}
use Rattle.mdc_types.specs.declared.outcomes.Outcome.TheVariants.{Write, Read, Value, Granted}
use Rattle.mdc_types.specs.declared.refusals.Refusal.TheVariants.{BitMissing, HeirPending}
use Rattle.mdc_types.specs.declared.resources.Res.TheVariants.{Token, Message as MessageLock, Ack, Resync as ResyncLock}
use Rattle.cluster_msgs.specs.Layout.{layout}
use Rattle.cluster_msgs.specs.Messages.{spelled}
use Rattle.cluster_msgs.specs.Reading.{roles_of, state_of, metadata_of, capacity_of, range_of, resyncing_of, leg_of, body_of, msg_of, fields_in, message_in}
use Rattle.slot_pages.specs.Slot.{bits_below, spelled_page}
use Rattle.cluster_model.proofs.Player.{Line, done, says, refused, Plays}
use Rattle.cluster_model.proofs.RowTests.{opening}

-- the recoverer dies too; its slot is recovered first
abbrev pub recoverer_dies : Sector → List Line
recoverer_dies v =
    says (AskWrite 0 5 v) (Write 0)
    ∷ done (WritePage 0 0 0)
    ∷ done (WritePage 0 0 1)
    ∷ done (Out 0 0 0)
    ∷ done (Die 0)
    ∷ says (AskRead 1 5) (Read 0)
    ∷ says (In 1 0) (Value 0 v)
    ∷ done (AskResync 1)
    ∷ says (Grant ResyncLock) (Granted 1 EX)
    ∷ done (Recover 1 0)
    ∷ done (SlotIn 1 0 0)
    ∷ done (SlotIn 1 0 1)
    ∷ refused (SlotOut 1 0 0) (BitMissing 0)
    ∷ done (WritePage 1 0 0)
    ∷ done (WritePage 1 0 1)
    ∷ done (SlotOut 1 0 0)
    ∷ done (Die 1)
    ∷ done (AskResync 2)
    ∷ says (Grant ResyncLock) (Granted 2 EX)
    ∷ refused (Recover 2 0) (HeirPending 1)
    ∷ done (Recover 2 1)
    ∷ done (SlotIn 2 0 0)
    ∷ done (SlotIn 2 0 1)
    ∷ done (WritePage 2 0 0)
    ∷ done (WritePage 2 0 1)
    ∷ done (SlotOut 2 0 0)
    ∷ done (SlotOut 2 0 1)
    ∷ done (PassOwn 2)
    ∷ done (AskToken 2)
    ∷ says (Grant Token) (Granted 2 EX)
    ∷ done (AskMessage 2)
    ∷ says (Grant MessageLock) (Granted 2 EX)
    ∷ done (Offer 2 (Range (record { lo = 4; hi = 8 })))
    ∷ done (Publish 2)
    ∷ says (Grant Ack) (Granted 2 EX)
    ∷ done (FinishRound 2)
    ∷ says (CopyIn 2) (Value 0 zero_sector)
    ∷ done (CopyOut 2 1)
    ∷ done (Settle 2)
    ∷ says (CopyIn 2) (Value 0 v)
    ∷ done (CopyOut 2 1)
    ∷ done (Settle 2)
    ∷ says (CopyIn 2) (Value 0 zero_sector)
    ∷ done (CopyOut 2 1)
    ∷ done (Settle 2)
    ∷ says (CopyIn 2) (Value 0 zero_sector)
    ∷ done (CopyOut 2 1)
    ∷ done (Settle 2)
    ∷ done (Recovered 2)
    ∷ done (AskToken 2)
    ∷ says (Grant Token) (Granted 2 EX)
    ∷ done (AskMessage 2)
    ∷ says (Grant MessageLock) (Granted 2 EX)
    ∷ done (Offer 2 (Range (record { lo = 0; hi = 0 })))
    ∷ done (Publish 2)
    ∷ says (Grant Ack) (Granted 2 EX)
    ∷ done (FinishRound 2)
    ∷ done (EndPass 2)
    ∷ done (AskResync 2)
    ∷ says (Grant ResyncLock) (Granted 2 EX)
    ∷ done (Recover 2 0)
    ∷ []

recoverer_dies_plays : (v : Sector) → Plays (opening 3 false) (recoverer_dies v)
unfolding first_such layout spelled roles_of state_of metadata_of capacity_of range_of resyncing_of leg_of body_of msg_of fields_in message_in bits_below spelled_page
recoverer_dies_plays v = refl
