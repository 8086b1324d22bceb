-- A dead node's slot is recovered, and what is printed for each line.
use Rattle.std.proofs.Common.{◌≡◌, false, List, [], ◌∷◌, None, refl}
use Rattle.dlm_modes.specs.First.{first_such}
use Rattle.dlm_modes.specs.declared.mode.Mode.TheVariants.{EX}
use Rattle.mdc_types.specs.Sectors.{zero_sector}
use Rattle.mdc_types.specs.declared.numbers.Sector.{Sector}
use Rattle.mdc_types.specs.declared.events.Event.TheVariants.{Die, Grant, AskToken, AskMessage, Offer, Publish, FinishRound, AskWrite, WritePage, Out, AskRead, In, AskResync, PassOwn, CopyIn, CopyOut, Settle, Recover, SlotIn, SlotOut, Recovered}
use Rattle.mdc_types.specs.declared.events.Wish.TheVariants.{Range}
use Rattle.mdc_types.specs.declared.outcomes.Outcome.TheVariants.{Write, Read, Value, Granted}
use Rattle.mdc_types.specs.declared.refusals.Refusal.TheVariants.{BitMissing, Needed}
use Rattle.mdc_types.specs.declared.resources.Res.TheVariants.{Token, Message as MessageLock, Ack, Resync as ResyncLock}
use Rattle.node_member.specs.Members.{first_pending}
use Rattle.cluster_msgs.specs.Layout.{layout}
use Rattle.cluster_msgs.specs.Messages.{spelled}
use Rattle.cluster_msgs.specs.Reading.{roles_of, state_of, metadata_of, capacity_of, range_of, resyncing_of, leg_of, body_of, msg_of, fields_in, message_in}
use Rattle.slot_pages.specs.Slot.{bits_below, spelled_page}
use Rattle.cluster_model.specs.Stored.{data_on, bit_on}
use Rattle.cluster_model.proofs.Player.{Line, done, says, refused, Plays, after_script}
use Rattle.cluster_model.proofs.RowTests.{two_legs, opening}

-- a dead node's open write is read, its slot recovered, its chunk copied
abbrev pub recovery : Sector → List Line
recovery v =
    says (AskWrite 0 5 v) (Write 0)
    ∷ done (WritePage 0 0 0)
    ∷ done (WritePage 0 0 1)
    ∷ done (Out 0 0 0)
    ∷ done (Die 0)
    ∷ says (AskRead 1 5) (Read 0)
    ∷ says (In 1 0) (Value 0 v)
    ∷ done (AskResync 1)
    ∷ says (Grant ResyncLock) (Granted 1 EX)
    ∷ done (Recover 1 0)
    ∷ done (SlotIn 1 0 0)
    ∷ done (SlotIn 1 0 1)
    ∷ refused (SlotOut 1 0 0) (BitMissing 0)
    ∷ done (WritePage 1 0 0)
    ∷ done (WritePage 1 0 1)
    ∷ done (SlotOut 1 0 0)
    ∷ done (SlotOut 1 0 1)
    ∷ done (PassOwn 1)
    ∷ refused (Recovered 1) (Needed 1)
    ∷ done (AskToken 1)
    ∷ says (Grant Token) (Granted 1 EX)
    ∷ done (AskMessage 1)
    ∷ says (Grant MessageLock) (Granted 1 EX)
    ∷ done (Offer 1 (Range (record { lo = 4; hi = 8 })))
    ∷ done (Publish 1)
    ∷ says (Grant Ack) (Granted 1 EX)
    ∷ done (FinishRound 1)
    ∷ says (CopyIn 1) (Value 0 zero_sector)
    ∷ done (CopyOut 1 1)
    ∷ done (Settle 1)
    ∷ says (CopyIn 1) (Value 0 v)
    ∷ done (CopyOut 1 1)
    ∷ done (Settle 1)
    ∷ says (CopyIn 1) (Value 0 zero_sector)
    ∷ done (CopyOut 1 1)
    ∷ done (Settle 1)
    ∷ says (CopyIn 1) (Value 0 zero_sector)
    ∷ done (CopyOut 1 1)
    ∷ done (Settle 1)
    ∷ done (Recovered 1)
    ∷ []

recovery_plays : (v : Sector) → Plays (opening 2 false) (recovery v)
unfolding first_such layout spelled roles_of state_of metadata_of capacity_of range_of resyncing_of leg_of body_of msg_of fields_in message_in bits_below spelled_page
recovery_plays v = refl

none_pending : (v : Sector) → first_pending (after_script (opening 2 false) (recovery v)).core.members ≡ None
unfolding first_such layout spelled roles_of state_of metadata_of capacity_of range_of resyncing_of leg_of body_of msg_of fields_in message_in bits_below spelled_page
none_pending v = refl

legs_equal : (v : Sector) → data_on two_legs (after_script (opening 2 false) (recovery v)).legs 1 5 ≡ v
unfolding first_such layout spelled roles_of state_of metadata_of capacity_of range_of resyncing_of leg_of body_of msg_of fields_in message_in bits_below spelled_page
legs_equal v = refl

bit_gone : (v : Sector) → bit_on two_legs (after_script (opening 2 false) (recovery v)).legs 0 1 1 ≡ false
unfolding first_such layout spelled roles_of state_of metadata_of capacity_of range_of resyncing_of leg_of body_of msg_of fields_in message_in bits_below spelled_page
bit_gone v = refl
