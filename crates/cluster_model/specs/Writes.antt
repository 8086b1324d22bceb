-- Writes of a node: `w`, `out`, `ok`, `break`.
use Rattle.std.specs.Prelude.{ℕ, ◌+◌, ◌==◌, nat_lt, length, Bool, true, false, not, ◌&&◌, ◌||◌}
use Rattle.std.specs.Prelude.{is_some, List, [], ◌∷◌, ◌++◌, Option, Some, None}
use Rattle.dlm_modes.specs.First.{first_such}
use Rattle.dlm_modes.specs.Guards.{unless}
use Rattle.dlm_modes.specs.Points.{with_at}
use Rattle.mdc_types.specs.Geometry.{chunk_of, nodes_of}
use Rattle.mdc_types.specs.declared.numbers.Sector.{Sector}
use Rattle.mdc_types.specs.declared.refusals.Refusal.{Refusal}
use Rattle.mdc_types.specs.declared.refusals.Refusal.TheVariants.{NoSector, NoWrite, NotNeeded}
use Rattle.mdc_types.specs.declared.refusals.Refusal.TheVariants.{NotWritten, BitMissing}
use Rattle.mdc_types.specs.declared.refusals.Refusal.TheVariants.{Suspended, InFlight, Full}
use Rattle.msg_rounds.specs.Phases.{has_published}
use Rattle.leg_failure.specs.Views.{is_target, unacked_leg}
use Rattle.node_bitmaps.specs.Bitmap.{Bitmap, with_set, with_need, entered, exited}
use Rattle.node_bitmaps.specs.Bitmap.{unmarked_target}
use Rattle.mirror_io.specs.Flight.{write_in, without_write, new_write, start_in, done_in}
use Rattle.mirror_io.specs.Flight.{missing_leg}
use Rattle.mirror_io.specs.declared.live.LiveWrite.{LiveWrite}
use Rattle.suspend_ranges.specs.Suspended.{covering}
use Rattle.cluster_model.specs.State.{Core, sizes}
use Rattle.cluster_model.specs.Guards.{refused_by, found_or, of_live, no_leg, not_target, unacked}
use Rattle.cluster_model.specs.Phases.{is_unclean, offers, needs_up, sender_is}
use Rattle.cluster_model.specs.Changes.{headed}

-- the node has not published that it leaves
abbrev pub not_leaving : Core → ℕ → Option Refusal
not_leaving core n =
    sender_is core n (not (has_published (core.sender n) && offers is_unclean (core.offer n)))

abbrev pub no_sector : Core → ℕ → ℕ → Option Refusal
no_sector core n s = unless (nat_lt s (core.view n).sure_size) (NoSector s)

abbrev pub full : ℕ → ℕ → Option Refusal
full n count = unless (nat_lt count 16) (Full n)

-- `w n s v`

-- one of the writes is of this sector
abbrev pub any_of_sector : ℕ → List LiveWrite → Bool
any_of_sector s [] = false
any_of_sector s (w ∷ ws) = (w.sector == s) || any_of_sector s ws

-- the least node with a live write of the sector
abbrev pub writer_of : Core → ℕ → Option ℕ
writer_of core s = first_such (λ m. any_of_sector s (core.writes m)) 0 (nodes_of (sizes core))

abbrev pub w_guards : Core → ℕ → ℕ → List (Option Refusal)
w_guards core n s = of_live core n (
    needs_up core n
    ∷ not_leaving core n
    ∷ no_sector core n s
    ∷ refused_by Suspended (covering (core.suspended n) s)
    ∷ refused_by InFlight (writer_of core s)
    ∷ full n (length (core.writes n))
    ∷ [])

-- its chunk joins the set
abbrev pub ask_write : Core → ℕ → ℕ → Sector → Core
ask_write core n s v = record core {
  writes = with_at core.writes n (core.writes n ++ new_write (core.writes_made n) s v ∷ []);
  writes_made = with_at core.writes_made n (core.writes_made n + 1);
  bitmap = with_at core.bitmap n
      (entered (with_set (core.bitmap n) (chunk_of (sizes core) s) true) (chunk_of (sizes core) s));
}

-- `out n k l`: the value goes to the leg, on all of whose targets the chunk's bit stands

abbrev pub no_write : ℕ → Option LiveWrite → Option Refusal
no_write k w = found_or w (NoWrite k)

-- the least target on which the bit of the write's chunk doesn't surely stand
abbrev pub unmarked_leg : Core → ℕ → Option LiveWrite → Option ℕ
unmarked_leg core n None = None
unmarked_leg core n (Some w) =
    unmarked_target (core.bitmap n) (is_target (core.view n)) (chunk_of (sizes core) w.sector)

abbrev pub out_guards : Core → ℕ → ℕ → ℕ → List (Option Refusal)
out_guards core n k l = of_live core n (
    no_leg core l
    ∷ needs_up core n
    ∷ no_write k (write_in k (core.writes n))
    ∷ not_target core n l
    ∷ unacked core n
    ∷ refused_by BitMissing (unmarked_leg core n (write_in k (core.writes n)))
    ∷ [])

-- the first try starts the write, whatever becomes of it
abbrev pub start_write : Core → ℕ → ℕ → Core
start_write core n k = record core { writes = with_at core.writes n (start_in k (core.writes n)) }

abbrev pub write_sector : Option LiveWrite → Option ℕ
write_sector None = None
write_sector (Some w) = Some w.sector

-- the leg has the value
abbrev pub out_done : Core → ℕ → ℕ → ℕ → Core
out_done core n k l = record (headed core n l (write_sector (write_in k (core.writes n)))) {
  writes = with_at core.writes n (done_in k l (start_in k (core.writes n)));
}

-- `ok n k`

-- the least target that doesn't have the write's value
abbrev pub unwritten_target : Core → ℕ → Option LiveWrite → Option ℕ
unwritten_target core n None = None
unwritten_target core n (Some w) = missing_leg (is_target (core.view n)) w

abbrev pub ok_guards : Core → ℕ → ℕ → List (Option Refusal)
ok_guards core n k = of_live core n (
    needs_up core n
    ∷ no_write k (write_in k (core.writes n))
    ∷ unacked core n
    ∷ refused_by NotWritten (unwritten_target core n (write_in k (core.writes n)))
    ∷ [])

-- the bitmap where the write ends, and where it is broken: then its chunk is to be copied
abbrev pub bitmap_ended : Core → ℕ → Option LiveWrite → Bool → Bitmap
bitmap_ended core n None broken = core.bitmap n
bitmap_ended core n (Some w) false = exited (core.bitmap n) (chunk_of (sizes core) w.sector)
bitmap_ended core n (Some w) true =
    let c : ℕ = chunk_of (sizes core) w.sector in
    with_need (exited (core.bitmap n) c) c true

abbrev pub write_ended : Core → ℕ → ℕ → Bool → Core
write_ended core n k broken = record core {
  writes = with_at core.writes n (without_write k (core.writes n));
  bitmap = with_at core.bitmap n (bitmap_ended core n (write_in k (core.writes n)) broken);
}

abbrev pub end_write : Core → ℕ → ℕ → Core
end_write core n k = write_ended core n k false

-- `break n k`: a write that a loss holds up

abbrev pub break_guards : Core → ℕ → ℕ → List (Option Refusal)
break_guards core n k = of_live core n (
    needs_up core n
    ∷ no_write k (write_in k (core.writes n))
    ∷ unless (is_some (unacked_leg (core.view n))) NotNeeded
    ∷ [])

abbrev pub break_write : Core → ℕ → ℕ → Core
break_write core n k = write_ended core n k true
