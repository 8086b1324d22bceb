-- A new device is added, and what is printed for each line.
use Rattle.std.proofs.Common.{◌≡◌, false, List, [], ◌∷◌, refl}
use Rattle.dlm_modes.specs.First.{first_such}
use Rattle.dlm_modes.specs.declared.mode.Mode.TheVariants.{PR, EX}
use Rattle.mdc_types.specs.declared.events.Event.TheVariants.{Cut, Mend, Grant, AskToken, AskMessage, Offer, WriteSuper, Publish, FinishRound, Take, Processed, Resume, LockDevice}
use Rattle.mdc_types.specs.declared.events.Wish.TheVariants.{Meta, Rebuild, NewDisk}
use Rattle.mdc_types.specs.declared.outcomes.Outcome.TheVariants.{Granted, Events, Message, Whole}
use Rattle.mdc_types.specs.declared.refusals.Refusal.TheVariants.{Blocked}
use Rattle.mdc_types.specs.declared.resources.Res.TheVariants.{Token, Message as MessageLock, Ack}
use Rattle.mdc_types.specs.declared.roles.Role.TheVariants.{Rebuilding}
use Rattle.cluster_msgs.specs.Layout.{layout}
use Rattle.cluster_msgs.specs.Messages.{spelled}
use Rattle.cluster_msgs.specs.Reading.{roles_of, state_of, metadata_of, capacity_of, range_of, resyncing_of, leg_of, body_of, msg_of, fields_in, message_in}
use Rattle.md_superblock.specs.Layout.{number_at, bytes_of, with_bytes, sum_below, is_named}
use Rattle.md_superblock.specs.Pieces.{role_pieces}
use Rattle.md_superblock.specs.Faults.{head_fault, array_fault, device_fault, state_fault, fault_of}
use Rattle.md_superblock.specs.Superblock.{super_of}
use Rattle.mdc_types.specs.Names.{name_length}
use Rattle.md_superblock.specs.Arrays.{unsummed, spelled as spelled_super, super_in, says_in}
use Rattle.cluster_model.proofs.Player.{Line, done, says, refused, Plays, after_script}
use Rattle.cluster_model.proofs.RowTests.{opening_of}

-- a new device is added only when each node sees it
abbrev pub addition : List Line
addition =
    done (Cut 3 2)
    ∷ done (AskToken 0)
    ∷ says (Grant Token) (Granted 0 EX)
    ∷ done (AskMessage 0)
    ∷ says (Grant MessageLock) (Granted 0 EX)
    ∷ done (Offer 0 (NewDisk 2))
    ∷ done (Publish 0)
    ∷ says (Take 1) (Message 2 0)
    ∷ done (Processed 1)
    ∷ says (Take 2) (Message 2 0)
    ∷ done (Processed 2)
    ∷ says (Take 3) (Message 2 0)
    ∷ done (Processed 3)
    ∷ says (Grant Ack) (Granted 0 EX)
    ∷ done (FinishRound 0)
    ∷ says (Grant MessageLock) (Granted 1 PR)
    ∷ says (Grant MessageLock) (Granted 2 PR)
    ∷ says (Grant MessageLock) (Granted 3 PR)
    ∷ says (Resume 1) Whole
    ∷ says (Resume 2) Whole
    ∷ says (Resume 3) Whole
    ∷ done (AskToken 0)
    ∷ says (Grant Token) (Granted 0 EX)
    ∷ refused (LockDevice 0) (Blocked 3)
    ∷ done (AskMessage 0)
    ∷ says (Grant MessageLock) (Granted 0 EX)
    ∷ says (Offer 0 Meta) (Events 2)
    ∷ done (WriteSuper 0 0)
    ∷ done (WriteSuper 0 1)
    ∷ done (Publish 0)
    ∷ says (Take 1) (Message 0 0)
    ∷ done (Processed 1)
    ∷ says (Take 2) (Message 0 0)
    ∷ done (Processed 2)
    ∷ says (Take 3) (Message 0 0)
    ∷ done (Processed 3)
    ∷ says (Grant Ack) (Granted 0 EX)
    ∷ done (FinishRound 0)
    ∷ says (Grant MessageLock) (Granted 1 PR)
    ∷ says (Grant MessageLock) (Granted 2 PR)
    ∷ says (Grant MessageLock) (Granted 3 PR)
    ∷ says (Resume 1) Whole
    ∷ says (Resume 2) Whole
    ∷ says (Resume 3) Whole
    ∷ done (Mend 3 2)
    ∷ done (AskToken 0)
    ∷ says (Grant Token) (Granted 0 EX)
    ∷ done (AskMessage 0)
    ∷ says (Grant MessageLock) (Granted 0 EX)
    ∷ done (Offer 0 (NewDisk 2))
    ∷ done (Publish 0)
    ∷ says (Take 1) (Message 2 0)
    ∷ done (Processed 1)
    ∷ says (Take 2) (Message 2 0)
    ∷ done (Processed 2)
    ∷ says (Take 3) (Message 2 0)
    ∷ done (Processed 3)
    ∷ says (Grant Ack) (Granted 0 EX)
    ∷ done (FinishRound 0)
    ∷ says (Grant MessageLock) (Granted 1 PR)
    ∷ says (Grant MessageLock) (Granted 2 PR)
    ∷ says (Grant MessageLock) (Granted 3 PR)
    ∷ says (Resume 1) Whole
    ∷ says (Resume 2) Whole
    ∷ says (Resume 3) Whole
    ∷ done (AskToken 0)
    ∷ says (Grant Token) (Granted 0 EX)
    ∷ done (LockDevice 0)
    ∷ done (AskMessage 0)
    ∷ says (Grant MessageLock) (Granted 0 EX)
    ∷ says (Offer 0 (Rebuild 2)) (Events 3)
    ∷ done (WriteSuper 0 0)
    ∷ done (WriteSuper 0 1)
    ∷ done (WriteSuper 0 2)
    ∷ done (Publish 0)
    ∷ says (Take 1) (Message 0 0)
    ∷ done (Processed 1)
    ∷ says (Take 2) (Message 0 0)
    ∷ done (Processed 2)
    ∷ says (Take 3) (Message 0 0)
    ∷ done (Processed 3)
    ∷ says (Grant Ack) (Granted 0 EX)
    ∷ done (FinishRound 0)
    ∷ says (Grant MessageLock) (Granted 1 PR)
    ∷ says (Grant MessageLock) (Granted 2 PR)
    ∷ says (Grant MessageLock) (Granted 3 PR)
    ∷ says (Resume 1) Whole
    ∷ says (Resume 2) Whole
    ∷ says (Resume 3) Whole
    ∷ []

addition_plays : Plays (opening_of (record { legs = 3; sectors = 16; room = 16; chunk = 4; second = false }) 4 false 4) addition
unfolding first_such layout spelled roles_of state_of metadata_of capacity_of range_of resyncing_of leg_of body_of msg_of fields_in message_in number_at bytes_of with_bytes sum_below is_named role_pieces head_fault array_fault device_fault state_fault fault_of super_of unsummed spelled_super super_in says_in name_length
addition_plays = refl

rebuilds : ((after_script (opening_of (record { legs = 3; sectors = 16; room = 16; chunk = 4; second = false }) 4 false 4) addition).core.view 3).role 2 ≡ Rebuilding
unfolding first_such layout spelled roles_of state_of metadata_of capacity_of range_of resyncing_of leg_of body_of msg_of fields_in message_in number_at bytes_of with_bytes sum_below is_named role_pieces head_fault array_fault device_fault state_fault fault_of super_of unsummed spelled_super super_in says_in name_length
rebuilds = refl
