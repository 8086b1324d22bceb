-- Rounds that change what all know, and what is printed for each line.
use Rattle.std.proofs.Common.{◌≡◌, true, false, List, [], ◌∷◌, Some, refl}
use Rattle.dlm_modes.specs.First.{first_such}
use Rattle.dlm_modes.specs.declared.mode.Mode.TheVariants.{PR, EX}
use Rattle.mdc_types.specs.Sectors.{zero_sector}
use Rattle.mdc_types.specs.declared.numbers.Sector.{Sector}
use Rattle.mdc_types.specs.declared.events.Event.TheVariants.{Cut, Grant, Join, AskToken, AskMessage, Offer, WriteSuper, Publish, FinishRound, Take, Processed, Resume, AskWrite, WritePage, Out, EndWrite, AskRead, In}
use Rattle.mdc_types.specs.declared.events.Wish.TheVariants.{Meta, Unclean, Grow}
use Rattle.mdc_types.specs.declared.outcomes.Outcome.TheVariants.{Write, Read, Value, Lost, Io, Granted, Events, Message, Whole}
use Rattle.mdc_types.specs.declared.refusals.Refusal.TheVariants.{BitMissing, NoSector, NoSize, SlotPending}
use Rattle.mdc_types.specs.declared.resources.Res.TheVariants.{Token, Message as MessageLock, Ack}
use Rattle.node_member.specs.Members.{first_pending}
use Rattle.cluster_msgs.specs.Layout.{layout}
use Rattle.cluster_msgs.specs.Messages.{spelled}
use Rattle.cluster_msgs.specs.Reading.{roles_of, state_of, metadata_of, capacity_of, range_of, resyncing_of, leg_of, body_of, msg_of, fields_in, message_in}
use Rattle.md_superblock.specs.Layout.{number_at, bytes_of, with_bytes, sum_below, is_named}
use Rattle.md_superblock.specs.Pieces.{role_pieces}
use Rattle.md_superblock.specs.Faults.{head_fault, array_fault, device_fault, state_fault, fault_of}
use Rattle.md_superblock.specs.Superblock.{super_of}
use Rattle.mdc_types.specs.Names.{name_length}
use Rattle.md_superblock.specs.Arrays.{unsummed, spelled as spelled_super, super_in, says_in}
use Rattle.cluster_model.proofs.Player.{Line, done, says, refused, Plays, after_script}
use Rattle.cluster_model.proofs.RowTests.{opening, opening_of}

-- a node that lost the last working leg takes the loss back
abbrev pub withdrawal : Sector → Sector → List Line
withdrawal v w =
    done (Cut 0 1)
    ∷ done (Cut 1 0)
    ∷ says (AskWrite 0 1 v) (Write 0)
    ∷ says (WritePage 0 0 1) (Lost 1)
    ∷ says (AskWrite 1 9 w) (Write 0)
    ∷ says (WritePage 1 0 0) (Lost 0)
    ∷ done (AskToken 0)
    ∷ says (Grant Token) (Granted 0 EX)
    ∷ done (AskMessage 0)
    ∷ says (Grant MessageLock) (Granted 0 EX)
    ∷ says (Offer 0 Meta) (Events 2)
    ∷ done (WriteSuper 0 0)
    ∷ done (Publish 0)
    ∷ says (Take 1) (Message 0 0)
    ∷ done (Processed 1)
    ∷ says (Grant Ack) (Granted 0 EX)
    ∷ done (FinishRound 0)
    ∷ says (Grant MessageLock) (Granted 1 PR)
    ∷ says (Resume 1) Whole
    ∷ says (WritePage 1 0 0) (Io 0)
    ∷ refused (Out 1 0 0) (BitMissing 0)
    ∷ []

withdrawal_plays : (v w : Sector) → Plays (opening 2 false) (withdrawal v w)
unfolding first_such layout spelled roles_of state_of metadata_of capacity_of range_of resyncing_of leg_of body_of msg_of fields_in message_in number_at bytes_of with_bytes sum_below is_named role_pieces head_fault array_fault device_fault state_fault fault_of super_of unsummed spelled_super super_in says_in name_length
withdrawal_plays v w = refl

-- an unclean leave makes the slot pending
abbrev pub unclean : Sector → List Line
unclean v =
    says (AskWrite 1 5 v) (Write 0)
    ∷ done (WritePage 1 0 0)
    ∷ done (WritePage 1 0 1)
    ∷ done (Out 1 0 0)
    ∷ done (Out 1 0 1)
    ∷ done (EndWrite 1 0)
    ∷ done (AskToken 1)
    ∷ says (Grant Token) (Granted 1 EX)
    ∷ done (AskMessage 1)
    ∷ says (Grant MessageLock) (Granted 1 EX)
    ∷ done (Offer 1 Unclean)
    ∷ done (Publish 1)
    ∷ says (Take 0) (Message 5 1)
    ∷ done (Processed 0)
    ∷ says (Grant Ack) (Granted 1 EX)
    ∷ done (FinishRound 1)
    ∷ says (Grant MessageLock) (Granted 0 PR)
    ∷ says (Resume 0) Whole
    ∷ refused (Join 1) (SlotPending 1)
    ∷ []

unclean_plays : (v : Sector) → Plays (opening 2 false) (unclean v)
unfolding first_such layout spelled roles_of state_of metadata_of capacity_of range_of resyncing_of leg_of body_of msg_of fields_in message_in
unclean_plays v = refl

pending_left : (v : Sector) → first_pending (after_script (opening 2 false) (unclean v)).core.members ≡ Some 1
unfolding first_such layout spelled roles_of state_of metadata_of capacity_of range_of resyncing_of leg_of body_of msg_of fields_in message_in
pending_left v = refl

-- sectors past the old end are there when the round is whole
abbrev pub growth : Sector → List Line
growth v =
    refused (AskWrite 0 20 v) (NoSector 20)
    ∷ done (AskToken 0)
    ∷ says (Grant Token) (Granted 0 EX)
    ∷ done (AskMessage 0)
    ∷ says (Grant MessageLock) (Granted 0 EX)
    ∷ refused (Offer 0 (Grow 33)) (NoSize 33)
    ∷ says (Offer 0 (Grow 24)) (Events 2)
    ∷ done (WriteSuper 0 0)
    ∷ done (WriteSuper 0 1)
    ∷ done (Publish 0)
    ∷ says (Take 1) (Message 6 0)
    ∷ done (Processed 1)
    ∷ says (Grant Ack) (Granted 0 EX)
    ∷ done (FinishRound 0)
    ∷ refused (AskWrite 1 20 v) (NoSector 20)
    ∷ says (Grant MessageLock) (Granted 1 PR)
    ∷ says (Resume 1) Whole
    ∷ says (AskWrite 1 20 v) (Write 0)
    ∷ refused (AskWrite 0 24 v) (NoSector 24)
    ∷ []

growth_plays : (v : Sector) → Plays (opening_of (record { legs = 2; sectors = 16; room = 32; chunk = 4; second = false }) 2 false 0) (growth v)
unfolding first_such layout spelled roles_of state_of metadata_of capacity_of range_of resyncing_of leg_of body_of msg_of fields_in message_in number_at bytes_of with_bytes sum_below is_named role_pieces head_fault array_fault device_fault state_fault fault_of super_of unsummed spelled_super super_in says_in name_length
growth_plays v = refl

-- a read moves when its chosen leg is told as failed
abbrev pub chosen_read_moves : Sector → Sector → List Line
chosen_read_moves v w =
    says (AskWrite 2 15 v) (Write 0)
    ∷ done (Out 2 0 1)
    ∷ says (AskRead 2 14) (Read 0)
    ∷ done (Cut 1 1)
    ∷ says (AskWrite 1 3 w) (Write 0)
    ∷ says (Out 1 0 1) (Lost 1)
    ∷ done (AskToken 1)
    ∷ says (Grant Token) (Granted 1 EX)
    ∷ done (AskMessage 1)
    ∷ says (Grant MessageLock) (Granted 1 EX)
    ∷ says (Offer 1 Meta) (Events 2)
    ∷ done (WriteSuper 1 0)
    ∷ done (Publish 1)
    ∷ says (Take 0) (Message 0 1)
    ∷ done (Processed 0)
    ∷ says (Take 2) (Message 0 1)
    ∷ done (Processed 2)
    ∷ says (Grant Ack) (Granted 1 EX)
    ∷ done (FinishRound 1)
    ∷ says (Grant MessageLock) (Granted 0 PR)
    ∷ says (Grant MessageLock) (Granted 2 PR)
    ∷ says (Resume 0) Whole
    ∷ says (Resume 2) Whole
    ∷ says (In 2 0) (Value 0 zero_sector)
    ∷ []

chosen_read_moves_plays : (v w : Sector) → Plays (opening 3 true) (chosen_read_moves v w)
unfolding first_such layout spelled roles_of state_of metadata_of capacity_of range_of resyncing_of leg_of body_of msg_of fields_in message_in number_at bytes_of with_bytes sum_below is_named role_pieces head_fault array_fault device_fault state_fault fault_of super_of unsummed spelled_super super_in says_in name_length
chosen_read_moves_plays v w = refl
