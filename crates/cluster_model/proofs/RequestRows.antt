-- Short scripts of requests, and what is printed for each line.
use Rattle.std.proofs.Common.{true, false, List, [], ◌∷◌, refl}
use Rattle.dlm_modes.specs.First.{first_such}
use Rattle.dlm_modes.specs.declared.mode.Mode.TheVariants.{PR, EX}
use Rattle.mdc_types.specs.Sectors.{zero_sector}
use Rattle.mdc_types.specs.declared.numbers.Sector.{Sector}
use Rattle.mdc_types.specs.declared.events.Event.TheVariants.{Die, Grant, Join, AskToken, AskMessage, Offer, WriteSuper, Publish, Take, Processed, Resume, AskWrite, Out, EndWrite, AskRead, In, Recover}
use Rattle.mdc_types.specs.declared.events.Wish.TheVariants.{Grow}
use Rattle.mdc_types.specs.declared.outcomes.Outcome.TheVariants.{Write, Read, Value, Granted, Events, Message, Broken}
use Rattle.mdc_types.specs.declared.refusals.Refusal.TheVariants.{Fenced, Full, InFlight, NoLeg, NoNode, NoRead, NoSector, NoSize, NoWrite, NotPhase, NotUp}
use Rattle.mdc_types.specs.declared.resources.Res.TheVariants.{Token, Message as MessageLock}
use Rattle.cluster_msgs.specs.Layout.{layout}
use Rattle.cluster_msgs.specs.Messages.{spelled}
use Rattle.cluster_msgs.specs.Reading.{roles_of, state_of, metadata_of, capacity_of, range_of, resyncing_of, leg_of, body_of, msg_of, fields_in, message_in}
use Rattle.md_superblock.specs.Layout.{number_at, bytes_of, with_bytes, sum_below, is_named}
use Rattle.md_superblock.specs.Pieces.{role_pieces}
use Rattle.md_superblock.specs.Faults.{head_fault, array_fault, device_fault, state_fault, fault_of}
use Rattle.md_superblock.specs.Superblock.{super_of}
use Rattle.mdc_types.specs.Names.{name_length}
use Rattle.md_superblock.specs.Arrays.{unsummed, spelled as spelled_super, super_in, says_in}
use Rattle.mdc_types.specs.declared.refusals.Part.TheVariants as parts
use Rattle.mdc_types.specs.declared.refusals.Word.TheVariants as words
use Rattle.cluster_model.proofs.Player.{Line, done, says, refused, Plays}
use Rattle.cluster_model.proofs.RowTests.{opening, opening_of}

-- unknown numbers, a second write of a sector, a read before the write went out
abbrev pub first_path : Sector → Sector → List Line
first_path v w =
    refused (EndWrite 0 0) (NoWrite 0)
    ∷ says (AskWrite 0 5 v) (Write 0)
    ∷ refused (AskWrite 0 5 w) (InFlight 0)
    ∷ says (AskRead 0 5) (Read 0)
    ∷ says (In 0 0) (Value 0 zero_sector)
    ∷ refused (In 0 0) (NoRead 0)
    ∷ []

first_path_plays : (v w : Sector) → Plays (opening 1 true) (first_path v w)
unfolding first_such
first_path_plays v w = refl

-- an open write is read old or new, by the leg that lies nearer
abbrev pub open_write_old_or_new : Sector → Sector → List Line
open_write_old_or_new v w =
    says (AskWrite 0 14 v) (Write 0)
    ∷ done (Out 0 0 0)
    ∷ says (AskWrite 1 15 w) (Write 0)
    ∷ done (Out 1 0 1)
    ∷ says (AskRead 1 14) (Read 0)
    ∷ says (In 1 0) (Value 1 zero_sector)
    ∷ says (AskRead 0 14) (Read 0)
    ∷ says (In 0 0) (Value 0 v)
    ∷ []

open_write_old_or_new_plays : (v w : Sector) → Plays (opening 2 true) (open_write_old_or_new v w)
unfolding first_such
open_write_old_or_new_plays v w = refl

-- sixteen writes in flight are all that a node can have
abbrev pub sixteen_writes : Sector → List Line
sixteen_writes v =
    says (AskWrite 0 0 v) (Write 0)
    ∷ says (AskWrite 0 1 v) (Write 1)
    ∷ says (AskWrite 0 2 v) (Write 2)
    ∷ says (AskWrite 0 3 v) (Write 3)
    ∷ says (AskWrite 0 4 v) (Write 4)
    ∷ says (AskWrite 0 5 v) (Write 5)
    ∷ says (AskWrite 0 6 v) (Write 6)
    ∷ says (AskWrite 0 7 v) (Write 7)
    ∷ says (AskWrite 0 8 v) (Write 8)
    ∷ says (AskWrite 0 9 v) (Write 9)
    ∷ says (AskWrite 0 10 v) (Write 10)
    ∷ says (AskWrite 0 11 v) (Write 11)
    ∷ says (AskWrite 0 12 v) (Write 12)
    ∷ says (AskWrite 0 13 v) (Write 13)
    ∷ says (AskWrite 0 14 v) (Write 14)
    ∷ says (AskWrite 0 15 v) (Write 15)
    ∷ refused (AskWrite 0 16 v) (Full 0)
    ∷ []

sixteen_writes_plays : (v : Sector) → Plays (opening_of (record { legs = 2; sectors = 131072; room = 131072; chunk = 8; second = false }) 1 true 0) (sixteen_writes v)
unfolding first_such
sixteen_writes_plays v = refl

-- a dead node does nothing and can't join; recovery needs the resync lock
abbrev pub fenced : Sector → List Line
fenced v =
    done (Die 1)
    ∷ refused (AskWrite 1 5 v) (Fenced 1)
    ∷ refused (Join 1) (Fenced 1)
    ∷ refused (Recover 0 1) (NotPhase parts.Copy words.Nothing)
    ∷ []

fenced_plays : (v : Sector) → Plays (opening 2 true) (fenced v)
unfolding first_such
fenced_plays v = refl

-- refusals for a node that isn't up, one out of range, a leg out of range
abbrev pub no_such : Sector → List Line
no_such v =
    refused (AskWrite 2 5 v) (NotUp 2)
    ∷ refused (AskWrite 8 5 v) (NoNode 8)
    ∷ refused (Out 0 0 2) (NoLeg 2)
    ∷ []

no_such_plays : (v : Sector) → Plays (opening 2 true) (no_such v)
unfolding first_such
no_such_plays v = refl

-- no node 15 in the first version
abbrev pub node_fifteen : Sector → List Line
node_fifteen v =
    refused (AskWrite 15 5 v) (NoNode 15)
    ∷ []

node_fifteen_plays : (v : Sector) → Plays (opening 8 true) (node_fifteen v)
unfolding first_such
node_fifteen_plays v = refl

-- the sender dies; the receiver has the new size, but isn't sure of it
abbrev pub growth_broken : Sector → List Line
growth_broken v =
    refused (AskWrite 0 20 v) (NoSector 20)
    ∷ done (AskToken 0)
    ∷ says (Grant Token) (Granted 0 EX)
    ∷ done (AskMessage 0)
    ∷ says (Grant MessageLock) (Granted 0 EX)
    ∷ refused (Offer 0 (Grow 33)) (NoSize 33)
    ∷ says (Offer 0 (Grow 24)) (Events 2)
    ∷ done (WriteSuper 0 0)
    ∷ done (WriteSuper 0 1)
    ∷ done (Publish 0)
    ∷ says (Take 1) (Message 6 0)
    ∷ done (Processed 1)
    ∷ done (Die 0)
    ∷ says (Grant MessageLock) (Granted 1 PR)
    ∷ says (Resume 1) Broken
    ∷ []

growth_broken_plays : (v : Sector) → Plays (opening_of (record { legs = 2; sectors = 16; room = 32; chunk = 4; second = false }) 2 false 0) (growth_broken v)
unfolding first_such layout spelled roles_of state_of metadata_of capacity_of range_of resyncing_of leg_of body_of msg_of fields_in message_in number_at bytes_of with_bytes sum_below is_named role_pieces head_fault array_fault device_fault state_fault fault_of super_of unsummed spelled_super super_in says_in name_length
growth_broken_plays v = refl
