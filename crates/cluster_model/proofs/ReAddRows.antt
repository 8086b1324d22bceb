-- A leg is added again, and what is printed for each line.
use Rattle.std.proofs.Common.{false, List, [], ◌∷◌, refl}
use Rattle.dlm_modes.specs.First.{first_such}
use Rattle.dlm_modes.specs.declared.mode.Mode.TheVariants.{EX}
use Rattle.mdc_types.specs.Sectors.{zero_sector}
use Rattle.mdc_types.specs.declared.numbers.Sector.{Sector}
use Rattle.mdc_types.specs.declared.events.Event.TheVariants.{Cut, Mend, Die, Grant, AskToken, AskMessage, Offer, WriteSuper, Publish, FinishRound, AskWrite, WritePage, Out, EndWrite, AskResync, Gather, PassAgain, CopyIn, CopyOut, Settle}
use Rattle.mdc_types.specs.declared.events.Wish.TheVariants.{Meta, Rebuild, Work, Range, ReAdd}
use Rattle.mdc_types.specs.declared.outcomes.Outcome.TheVariants.{Write, Value, Lost, Granted, Events}
use Rattle.mdc_types.specs.declared.refusals.Refusal.TheVariants.{NothingLeft, Pending}
use Rattle.mdc_types.specs.declared.resources.Res.TheVariants.{Token, Message as MessageLock, Ack, Resync as ResyncLock}
use Rattle.cluster_msgs.specs.Layout.{layout}
use Rattle.cluster_msgs.specs.Messages.{spelled}
use Rattle.cluster_msgs.specs.Reading.{roles_of, state_of, metadata_of, capacity_of, range_of, resyncing_of, leg_of, body_of, msg_of, fields_in, message_in}
use Rattle.slot_pages.specs.Slot.{bits_below, spelled_page}
use Rattle.md_superblock.specs.Layout.{number_at, bytes_of, with_bytes, sum_below, is_named}
use Rattle.md_superblock.specs.Pieces.{role_pieces}
use Rattle.md_superblock.specs.Faults.{head_fault, array_fault, device_fault, state_fault, fault_of}
use Rattle.md_superblock.specs.Superblock.{super_of}
use Rattle.mdc_types.specs.Names.{name_length}
use Rattle.md_superblock.specs.Arrays.{unsummed, spelled as spelled_super, super_in, says_in}
use Rattle.cluster_model.proofs.Player.{Line, done, says, refused, Plays}
use Rattle.cluster_model.proofs.RowTests.{opening}

-- a leg is added again while a dead node's slot is pending; it can't become working yet
abbrev pub re_add_while_pending : Sector → Sector → List Line
re_add_while_pending v w =
    says (AskWrite 1 9 v) (Write 0)
    ∷ done (WritePage 1 0 0)
    ∷ done (WritePage 1 0 1)
    ∷ done (Cut 0 1)
    ∷ says (AskWrite 0 5 w) (Write 0)
    ∷ done (WritePage 0 0 0)
    ∷ says (WritePage 0 0 1) (Lost 1)
    ∷ done (Die 1)
    ∷ done (AskToken 0)
    ∷ says (Grant Token) (Granted 0 EX)
    ∷ done (AskMessage 0)
    ∷ says (Grant MessageLock) (Granted 0 EX)
    ∷ says (Offer 0 Meta) (Events 2)
    ∷ done (WriteSuper 0 0)
    ∷ done (Publish 0)
    ∷ says (Grant Ack) (Granted 0 EX)
    ∷ done (FinishRound 0)
    ∷ done (Out 0 0 0)
    ∷ done (EndWrite 0 0)
    ∷ done (Mend 0 1)
    ∷ done (AskToken 0)
    ∷ says (Grant Token) (Granted 0 EX)
    ∷ done (AskMessage 0)
    ∷ says (Grant MessageLock) (Granted 0 EX)
    ∷ done (Offer 0 (ReAdd 1))
    ∷ done (Publish 0)
    ∷ says (Grant Ack) (Granted 0 EX)
    ∷ done (FinishRound 0)
    ∷ done (AskToken 0)
    ∷ says (Grant Token) (Granted 0 EX)
    ∷ done (AskMessage 0)
    ∷ says (Grant MessageLock) (Granted 0 EX)
    ∷ says (Offer 0 (Rebuild 1)) (Events 3)
    ∷ done (WriteSuper 0 0)
    ∷ done (WriteSuper 0 1)
    ∷ done (Publish 0)
    ∷ says (Grant Ack) (Granted 0 EX)
    ∷ done (FinishRound 0)
    ∷ done (AskResync 0)
    ∷ says (Grant ResyncLock) (Granted 0 EX)
    ∷ done (Gather 0)
    ∷ done (Gather 0)
    ∷ done (Gather 0)
    ∷ done (Gather 0)
    ∷ done (Gather 0)
    ∷ done (Gather 0)
    ∷ done (Gather 0)
    ∷ done (Gather 0)
    ∷ refused (Gather 0) NothingLeft
    ∷ done (PassAgain 0 1)
    ∷ done (AskToken 0)
    ∷ says (Grant Token) (Granted 0 EX)
    ∷ done (AskMessage 0)
    ∷ says (Grant MessageLock) (Granted 0 EX)
    ∷ done (Offer 0 (Range (record { lo = 4; hi = 12 })))
    ∷ done (Publish 0)
    ∷ says (Grant Ack) (Granted 0 EX)
    ∷ done (FinishRound 0)
    ∷ says (CopyIn 0) (Value 0 zero_sector)
    ∷ done (CopyOut 0 1)
    ∷ done (Settle 0)
    ∷ says (CopyIn 0) (Value 0 w)
    ∷ done (CopyOut 0 1)
    ∷ done (Settle 0)
    ∷ says (CopyIn 0) (Value 0 zero_sector)
    ∷ done (CopyOut 0 1)
    ∷ done (Settle 0)
    ∷ says (CopyIn 0) (Value 0 zero_sector)
    ∷ done (CopyOut 0 1)
    ∷ done (Settle 0)
    ∷ says (CopyIn 0) (Value 0 zero_sector)
    ∷ done (CopyOut 0 1)
    ∷ done (Settle 0)
    ∷ says (CopyIn 0) (Value 0 zero_sector)
    ∷ done (CopyOut 0 1)
    ∷ done (Settle 0)
    ∷ says (CopyIn 0) (Value 0 zero_sector)
    ∷ done (CopyOut 0 1)
    ∷ done (Settle 0)
    ∷ says (CopyIn 0) (Value 0 zero_sector)
    ∷ done (CopyOut 0 1)
    ∷ done (Settle 0)
    ∷ refused (CopyIn 0) NothingLeft
    ∷ done (AskToken 0)
    ∷ says (Grant Token) (Granted 0 EX)
    ∷ done (AskMessage 0)
    ∷ says (Grant MessageLock) (Granted 0 EX)
    ∷ done (Offer 0 (Range (record { lo = 0; hi = 0 })))
    ∷ done (Publish 0)
    ∷ says (Grant Ack) (Granted 0 EX)
    ∷ done (FinishRound 0)
    ∷ done (AskToken 0)
    ∷ says (Grant Token) (Granted 0 EX)
    ∷ done (AskMessage 0)
    ∷ says (Grant MessageLock) (Granted 0 EX)
    ∷ refused (Offer 0 (Work 1)) (Pending 1)
    ∷ []

re_add_while_pending_plays : (v w : Sector) → Plays (opening 2 false) (re_add_while_pending v w)
unfolding first_such layout spelled roles_of state_of metadata_of capacity_of range_of resyncing_of leg_of body_of msg_of fields_in message_in bits_below spelled_page number_at bytes_of with_bytes sum_below is_named role_pieces head_fault array_fault device_fault state_fault fault_of super_of unsummed spelled_super super_in says_in name_length
re_add_while_pending_plays v w = refl
