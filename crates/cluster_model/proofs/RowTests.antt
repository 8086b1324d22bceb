-- Short scripts, and what is printed for each line.
use Rattle.std.proofs.Common.{ℕ, Bool, true, false, List, [], ◌∷◌, refl}
use Rattle.dlm_modes.specs.First.{first_such}
use Rattle.mdc_types.specs.Geometry.{Sizes}
use Rattle.mdc_types.specs.declared.numbers.Sector.{Sector}
use Rattle.mdc_types.specs.declared.events.Event.TheVariants.{Cut, Leave, AskWrite, WritePage, Out, EndWrite, BreakWrite, AskRead, In, Clear}
use Rattle.mdc_types.specs.declared.outcomes.Outcome.TheVariants.{Write, Read, Value, Lost}
use Rattle.mdc_types.specs.declared.refusals.Refusal.TheVariants.{BitMissing, Draining, InFlight, NoSector, NotNeeded, NotWritten, PageOld, Unacked}
use Rattle.cluster_model.specs.State.{State}
use Rattle.cluster_model.specs.Opening.{header_at, core_at}
use Rattle.cluster_model.specs.Contents.{header_sector}
use Rattle.cluster_model.proofs.Player.{Line, done, says, refused, Plays}

-- two legs of sixteen sectors in chunks of four
abbrev pub two_legs : Sizes
two_legs = record { legs = 2; sectors = 16; room = 16; chunk = 4; second = false }

-- a new array of so many nodes, with all bits set or none, and of the legs some spares
abbrev pub opening_of : Sizes → ℕ → Bool → ℕ → State
opening_of g nodes warm spares = record {
  core = core_at (header_at g nodes warm spares);
  legs = record { told = λ l. true; content = header_sector (header_at g nodes warm spares) };
}

abbrev pub opening : ℕ → Bool → State
opening nodes warm = opening_of two_legs nodes warm 0

-- one write goes to both legs, ends, and is read
abbrev pub one_write : Sector → List Line
one_write v =
    says (AskWrite 0 5 v) (Write 0)
    ∷ done (Out 0 0 0)
    ∷ done (Out 0 0 1)
    ∷ done (EndWrite 0 0)
    ∷ says (AskRead 0 5) (Read 0)
    ∷ says (In 0 0) (Value 0 v)
    ∷ []

one_write_plays : (v : Sector) → Plays (opening 1 true) (one_write v)
unfolding first_such
one_write_plays v = refl

-- a write can't end before each leg has it
abbrev pub ended_too_early : Sector → List Line
ended_too_early v =
    says (AskWrite 0 5 v) (Write 0)
    ∷ done (Out 0 0 0)
    ∷ refused (EndWrite 0 0) (NotWritten 1)
    ∷ []

ended_too_early_plays : (v : Sector) → Plays (opening 1 true) (ended_too_early v)
unfolding first_such
ended_too_early_plays v = refl

-- a second write of a sector in flight is refused
abbrev pub second_writer : Sector → Sector → List Line
second_writer v w =
    says (AskWrite 0 5 v) (Write 0)
    ∷ refused (AskWrite 1 5 w) (InFlight 0)
    ∷ []

second_writer_plays : (v w : Sector) → Plays (opening 2 true) (second_writer v w)
unfolding first_such
second_writer_plays v w = refl

-- a chunk isn't cleared while a second write of it is in flight
abbrev pub two_writes_one_chunk : Sector → Sector → List Line
two_writes_one_chunk v w =
    says (AskWrite 0 4 v) (Write 0)
    ∷ says (AskWrite 0 7 w) (Write 1)
    ∷ done (WritePage 0 0 0)
    ∷ done (WritePage 0 0 1)
    ∷ done (Out 0 0 0)
    ∷ done (Out 0 0 1)
    ∷ done (EndWrite 0 0)
    ∷ refused (Clear 0 1) (Draining 1)
    ∷ []

two_writes_one_chunk_plays : (v w : Sector) → Plays (opening 1 false) (two_writes_one_chunk v w)
unfolding first_such
two_writes_one_chunk_plays v w = refl

-- one node's loss is its own until it tells it; an unacked leg stops its writes
abbrev pub lost_leg : Sector → List Line
lost_leg v =
    done (Cut 0 1)
    ∷ says (AskWrite 0 5 v) (Write 0)
    ∷ says (Out 0 0 1) (Lost 1)
    ∷ refused (Out 0 0 0) (Unacked 1)
    ∷ done (BreakWrite 0 0)
    ∷ []

lost_leg_plays : (v : Sector) → Plays (opening 2 true) (lost_leg v)
unfolding first_such
lost_leg_plays v = refl

-- a write isn't broken without need
abbrev pub break_not_needed : Sector → List Line
break_not_needed v =
    says (AskWrite 2 5 v) (Write 0)
    ∷ refused (BreakWrite 2 0) NotNeeded
    ∷ []

break_not_needed_plays : (v : Sector) → Plays (opening 3 false) (break_not_needed v)
unfolding first_such
break_not_needed_plays v = refl

-- bits before the write, a bit cleared after it, fresh pages before leaving
abbrev pub bitmap : Sector → List Line
bitmap v =
    says (AskWrite 0 5 v) (Write 0)
    ∷ refused (Out 0 0 0) (BitMissing 0)
    ∷ done (WritePage 0 0 0)
    ∷ done (WritePage 0 0 1)
    ∷ done (Out 0 0 0)
    ∷ done (Out 0 0 1)
    ∷ refused (Clear 0 1) (Draining 0)
    ∷ done (EndWrite 0 0)
    ∷ done (Clear 0 1)
    ∷ refused (Leave 0) (PageOld 0)
    ∷ done (WritePage 0 0 0)
    ∷ done (WritePage 0 0 1)
    ∷ done (Leave 0)
    ∷ []

bitmap_plays : (v : Sector) → Plays (opening 1 false) (bitmap v)
unfolding first_such
bitmap_plays v = refl

-- sixteen nodes and the largest array
abbrev pub second_version : Sector → List Line
second_version v =
    says (AskWrite 15 131071 v) (Write 0)
    ∷ []

second_version_plays : (v : Sector) → Plays (opening_of (record { legs = 2; sectors = 131072; room = 131072; chunk = 4; second = true }) 16 true 0) (second_version v)
unfolding first_such
second_version_plays v = refl

-- the last sector of the largest array, and the first one past it
abbrev pub last_sector : Sector → List Line
last_sector v =
    says (AskWrite 0 131071 v) (Write 0)
    ∷ refused (AskWrite 0 131072 v) (NoSector 131072)
    ∷ []

last_sector_plays : (v : Sector) → Plays (opening_of (record { legs = 2; sectors = 131072; room = 131072; chunk = 8; second = false }) 1 true 0) (last_sector v)
unfolding first_such
last_sector_plays v = refl
