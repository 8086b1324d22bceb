-- Nodes come in, and what is printed for each line.
use Rattle.std.proofs.Common.{true, false, List, [], ◌∷◌, refl}
use Rattle.dlm_modes.specs.First.{first_such}
use Rattle.dlm_modes.specs.declared.mode.Mode.TheVariants.{CR, CW, PR, EX}
use Rattle.mdc_types.specs.Sectors.{zero_sector}
use Rattle.mdc_types.specs.declared.numbers.Sector.{Sector}
use Rattle.mdc_types.specs.declared.events.Event.TheVariants.{Cut, Grant, Join, Load, Up, AskToken, AskMessage, Offer, WriteSuper, Publish, FinishRound, Quit, Take, Processed, Resume, AskWrite, WritePage, Out, EndWrite}
use Rattle.mdc_types.specs.declared.events.Wish.TheVariants.{Meta}
use Rattle.mdc_types.specs.declared.outcomes.Outcome.TheVariants.{Write, Lost, Granted, Events, Message, Whole, Super, Unread}
use Rattle.mdc_types.specs.declared.refusals.Refusal.TheVariants.{NotGrantable, NotLoaded, NotWritten, Stale}
use Rattle.mdc_types.specs.declared.resources.Res.TheVariants.{Token, Message as MessageLock, Ack}
use Rattle.cluster_msgs.specs.Layout.{layout}
use Rattle.cluster_msgs.specs.Messages.{spelled}
use Rattle.cluster_msgs.specs.Reading.{roles_of, state_of, metadata_of, capacity_of, range_of, resyncing_of, leg_of, body_of, msg_of, fields_in, message_in}
use Rattle.md_superblock.specs.Layout.{number_at, bytes_of, with_bytes, sum_below, is_named}
use Rattle.md_superblock.specs.Pieces.{role_pieces}
use Rattle.md_superblock.specs.Faults.{head_fault, array_fault, device_fault, state_fault, fault_of}
use Rattle.md_superblock.specs.Superblock.{super_of}
use Rattle.mdc_types.specs.Names.{name_length}
use Rattle.md_superblock.specs.Arrays.{unsummed, spelled as spelled_super, super_in, says_in}
use Rattle.cluster_model.proofs.Player.{Line, done, says, refused, Plays}
use Rattle.cluster_model.proofs.RowTests.{opening}

-- a joiner must have tried each leg
abbrev pub not_loaded : List Line
not_loaded =
    done (Join 2)
    ∷ says (Grant Token) (Granted 2 EX)
    ∷ says (Load 2 0) (Super 1 zero_sector)
    ∷ refused (Up 2) (NotLoaded 1)
    ∷ []

not_loaded_plays : Plays (opening 2 true) not_loaded
unfolding first_such number_at bytes_of with_bytes sum_below is_named role_pieces head_fault array_fault device_fault state_fault fault_of super_of unsummed spelled_super super_in says_in name_length
not_loaded_plays = refl

-- a third node joins and tells the others
abbrev pub join : List Line
join =
    done (Join 2)
    ∷ says (Grant Token) (Granted 2 EX)
    ∷ says (Load 2 0) (Super 1 zero_sector)
    ∷ says (Load 2 1) (Super 1 zero_sector)
    ∷ done (Up 2)
    ∷ done (AskMessage 2)
    ∷ says (Grant MessageLock) (Granted 2 EX)
    ∷ says (Offer 2 Meta) (Events 2)
    ∷ done (WriteSuper 2 0)
    ∷ done (WriteSuper 2 1)
    ∷ done (Publish 2)
    ∷ says (Take 0) (Message 0 2)
    ∷ done (Processed 0)
    ∷ says (Take 1) (Message 0 2)
    ∷ done (Processed 1)
    ∷ says (Grant Ack) (Granted 2 EX)
    ∷ done (FinishRound 2)
    ∷ says (Grant MessageLock) (Granted 0 PR)
    ∷ says (Grant MessageLock) (Granted 1 PR)
    ∷ says (Resume 0) Whole
    ∷ says (Resume 1) Whole
    ∷ []

join_plays : Plays (opening 2 true) join
unfolding first_such layout spelled roles_of state_of metadata_of capacity_of range_of resyncing_of leg_of body_of msg_of fields_in message_in number_at bytes_of with_bytes sum_below is_named role_pieces head_fault array_fault device_fault state_fault fault_of super_of unsummed spelled_super super_in says_in name_length
join_plays = refl

-- a joiner that can't read the leg of the last round is stale
abbrev pub stale_joiner : Sector → List Line
stale_joiner v =
    done (Cut 0 1)
    ∷ says (AskWrite 0 5 v) (Write 0)
    ∷ done (WritePage 0 0 0)
    ∷ says (WritePage 0 0 1) (Lost 1)
    ∷ done (AskToken 0)
    ∷ says (Grant Token) (Granted 0 EX)
    ∷ done (AskMessage 0)
    ∷ says (Grant MessageLock) (Granted 0 EX)
    ∷ says (Offer 0 Meta) (Events 2)
    ∷ refused (Publish 0) (NotWritten 0)
    ∷ done (WriteSuper 0 0)
    ∷ done (Publish 0)
    ∷ refused (Grant Ack) (NotGrantable 1 CR)
    ∷ says (Take 1) (Message 0 0)
    ∷ done (Processed 1)
    ∷ says (Take 2) (Message 0 0)
    ∷ done (Processed 2)
    ∷ says (Grant Ack) (Granted 0 EX)
    ∷ refused (Grant MessageLock) (NotGrantable 0 CW)
    ∷ done (FinishRound 0)
    ∷ says (Grant MessageLock) (Granted 1 PR)
    ∷ says (Grant MessageLock) (Granted 2 PR)
    ∷ says (Resume 1) Whole
    ∷ says (Resume 2) Whole
    ∷ done (Out 0 0 0)
    ∷ done (EndWrite 0 0)
    ∷ done (Cut 3 0)
    ∷ done (Join 3)
    ∷ says (Grant Token) (Granted 3 EX)
    ∷ says (Load 3 0) (Unread 0)
    ∷ says (Load 3 1) (Super 1 zero_sector)
    ∷ refused (Up 3) (Stale 1 2)
    ∷ done (Quit 3)
    ∷ []

stale_joiner_plays : (v : Sector) → Plays (opening 3 false) (stale_joiner v)
unfolding first_such layout spelled roles_of state_of metadata_of capacity_of range_of resyncing_of leg_of body_of msg_of fields_in message_in number_at bytes_of with_bytes sum_below is_named role_pieces head_fault array_fault device_fault state_fault fault_of super_of unsummed spelled_super super_in says_in name_length
stale_joiner_plays v = refl
