-- Whole rounds and broken ones, and what is printed for each line.
use Rattle.std.proofs.Common.{◌≡◌, false, List, [], ◌∷◌, None, refl}
use Rattle.dlm_modes.specs.First.{first_such}
use Rattle.dlm_modes.specs.declared.mode.Mode.TheVariants.{CR, CW, PR, EX}
use Rattle.mdc_types.specs.declared.numbers.Sector.{Sector}
use Rattle.mdc_types.specs.declared.events.Event.TheVariants.{Cut, Die, Grant, AskToken, AskMessage, Offer, WriteSuper, Publish, FinishRound, Take, Processed, Resume, AskWrite, WritePage, Out, EndWrite}
use Rattle.mdc_types.specs.declared.events.Wish.TheVariants.{Meta}
use Rattle.mdc_types.specs.declared.outcomes.Outcome.TheVariants.{Write, Lost, Granted, Events, Message, Whole, Broken}
use Rattle.mdc_types.specs.declared.refusals.Refusal.TheVariants.{NotGrantable, NotWritten, Unacked}
use Rattle.mdc_types.specs.declared.resources.Res.TheVariants.{Token, Message as MessageLock, Ack}
use Rattle.mdc_types.specs.declared.roles.Role.TheVariants.{Faulty}
use Rattle.leg_failure.specs.Views.{unacked_leg}
use Rattle.cluster_msgs.specs.Layout.{layout}
use Rattle.cluster_msgs.specs.Messages.{spelled}
use Rattle.cluster_msgs.specs.Reading.{roles_of, state_of, metadata_of, capacity_of, range_of, resyncing_of, leg_of, body_of, msg_of, fields_in, message_in}
use Rattle.md_superblock.specs.Layout.{number_at, bytes_of, with_bytes, sum_below, is_named}
use Rattle.md_superblock.specs.Pieces.{role_pieces}
use Rattle.md_superblock.specs.Faults.{head_fault, array_fault, device_fault, state_fault, fault_of}
use Rattle.md_superblock.specs.Superblock.{super_of}
use Rattle.mdc_types.specs.Names.{name_length}
use Rattle.md_superblock.specs.Arrays.{unsummed, spelled as spelled_super, super_in, says_in}
use Rattle.cluster_model.proofs.Player.{Line, done, says, refused, Plays, after_script}
use Rattle.cluster_model.proofs.RowTests.{opening}

-- a whole round tells the others that a leg failed
abbrev pub whole_round : Sector → List Line
whole_round v =
    done (Cut 0 1)
    ∷ says (AskWrite 0 5 v) (Write 0)
    ∷ done (WritePage 0 0 0)
    ∷ says (WritePage 0 0 1) (Lost 1)
    ∷ done (AskToken 0)
    ∷ says (Grant Token) (Granted 0 EX)
    ∷ done (AskMessage 0)
    ∷ says (Grant MessageLock) (Granted 0 EX)
    ∷ says (Offer 0 Meta) (Events 2)
    ∷ refused (Publish 0) (NotWritten 0)
    ∷ done (WriteSuper 0 0)
    ∷ done (Publish 0)
    ∷ refused (Grant Ack) (NotGrantable 1 CR)
    ∷ says (Take 1) (Message 0 0)
    ∷ done (Processed 1)
    ∷ says (Take 2) (Message 0 0)
    ∷ done (Processed 2)
    ∷ says (Grant Ack) (Granted 0 EX)
    ∷ refused (Grant MessageLock) (NotGrantable 0 CW)
    ∷ done (FinishRound 0)
    ∷ says (Grant MessageLock) (Granted 1 PR)
    ∷ says (Grant MessageLock) (Granted 2 PR)
    ∷ says (Resume 1) Whole
    ∷ says (Resume 2) Whole
    ∷ done (Out 0 0 0)
    ∷ done (EndWrite 0 0)
    ∷ []

whole_round_plays : (v : Sector) → Plays (opening 3 false) (whole_round v)
unfolding first_such layout spelled roles_of state_of metadata_of capacity_of range_of resyncing_of leg_of body_of msg_of fields_in message_in number_at bytes_of with_bytes sum_below is_named role_pieces head_fault array_fault device_fault state_fault fault_of super_of unsummed spelled_super super_in says_in name_length
whole_round_plays v = refl

all_told : (v : Sector) → unacked_leg ((after_script (opening 3 false) (whole_round v)).core.view 2) ≡ None
unfolding first_such layout spelled roles_of state_of metadata_of capacity_of range_of resyncing_of leg_of body_of msg_of fields_in message_in number_at bytes_of with_bytes sum_below is_named role_pieces head_fault array_fault device_fault state_fault fault_of super_of unsummed spelled_super super_in says_in name_length
all_told v = refl

leg_faulty : (v : Sector) → ((after_script (opening 3 false) (whole_round v)).core.view 2).role 1 ≡ Faulty
unfolding first_such layout spelled roles_of state_of metadata_of capacity_of range_of resyncing_of leg_of body_of msg_of fields_in message_in number_at bytes_of with_bytes sum_below is_named role_pieces head_fault array_fault device_fault state_fault fault_of super_of unsummed spelled_super super_in says_in name_length
leg_faulty v = refl

-- the sender dies after publishing; the receiver must tell it again before it writes
abbrev pub sender_dies : Sector → Sector → List Line
sender_dies v w =
    done (Cut 0 1)
    ∷ says (AskWrite 0 5 v) (Write 0)
    ∷ done (WritePage 0 0 0)
    ∷ says (WritePage 0 0 1) (Lost 1)
    ∷ done (AskToken 0)
    ∷ says (Grant Token) (Granted 0 EX)
    ∷ done (AskMessage 0)
    ∷ says (Grant MessageLock) (Granted 0 EX)
    ∷ says (Offer 0 Meta) (Events 2)
    ∷ refused (Publish 0) (NotWritten 0)
    ∷ done (WriteSuper 0 0)
    ∷ done (Publish 0)
    ∷ says (Take 1) (Message 0 0)
    ∷ done (Processed 1)
    ∷ done (Die 0)
    ∷ says (Grant MessageLock) (Granted 1 PR)
    ∷ says (Resume 1) Broken
    ∷ says (AskWrite 1 9 w) (Write 0)
    ∷ done (WritePage 1 0 0)
    ∷ refused (Out 1 0 0) (Unacked 1)
    ∷ done (AskToken 1)
    ∷ says (Grant Token) (Granted 1 EX)
    ∷ done (AskMessage 1)
    ∷ says (Grant MessageLock) (Granted 1 EX)
    ∷ says (Offer 1 Meta) (Events 3)
    ∷ done (WriteSuper 1 0)
    ∷ done (Publish 1)
    ∷ says (Take 2) (Message 0 1)
    ∷ done (Processed 2)
    ∷ says (Grant Ack) (Granted 1 EX)
    ∷ done (FinishRound 1)
    ∷ says (Grant MessageLock) (Granted 2 PR)
    ∷ says (Resume 2) Whole
    ∷ done (Out 1 0 0)
    ∷ []

sender_dies_plays : (v w : Sector) → Plays (opening 3 false) (sender_dies v w)
unfolding first_such layout spelled roles_of state_of metadata_of capacity_of range_of resyncing_of leg_of body_of msg_of fields_in message_in number_at bytes_of with_bytes sum_below is_named role_pieces head_fault array_fault device_fault state_fault fault_of super_of unsummed spelled_super super_in says_in name_length
sender_dies_plays v w = refl
