-- What the rounds don't see: writes, reads, bitmaps, copying and recoveries.
use Rattle.std.proofs.Common.{◌≡◌, ◌<◌, ℕ, Option, Some, None, refl}
use Rattle.mdc_types.specs.declared.events.Event.{Event}
use Rattle.mdc_types.specs.declared.events.Event.TheVariants as events
use Rattle.mdc_types.specs.declared.numbers.Sector.{Sector}
use Rattle.mdc_types.specs.declared.outcomes.Outcome.{Outcome}
use Rattle.mdc_types.specs.declared.outcomes.Outcome.TheVariants as outcomes
use Rattle.node_recovery.specs.Progress.{Recovering}
use Rattle.resync_worker.specs.declared.buffer.Buffer.{Buffer}
use Rattle.laws_rounds.proofs.Three.{three_else}
use Rattle.cluster_model.specs.State.{Core}
use Rattle.cluster_model.specs.Changes.{no_new_dev, resync_res, headed}
use Rattle.cluster_model.specs.Writes.{out_done, write_sector}
use Rattle.cluster_model.specs.Reads.{in_done, end_read, read_sector}
use Rattle.mirror_io.specs.Flight.{write_in, read_in}
use Rattle.cluster_model.specs.Gathering.{due_page, page_gathered}
use Rattle.cluster_model.specs.Copying.{next_sector, filled_with, buffer_of, buffer_sector, copied_out, settle_buffer}
use Rattle.cluster_model.specs.Recovering.{recover, page_found, page_cleared, slot_recovered}
use Rattle.cluster_model.specs.Failures.{tried, slot_failed, request_failed}
use Rattle.cluster_model.specs.After.{with_value, with_super, done}
use Rattle.laws_locks.proofs.Keeping.{SlotsFit, Quiet, rounds_on, not_of_rounds, slots_none, slots_some}

-- nothing that the rounds or the records name changes
same : (core : Core) → Quiet core core
same core = record { rounds = refl; offer = refl; live = refl; array = refl; slots = λ s. s }

pub super_quiet : (core : Core) (n l : ℕ) (o : Outcome) → Quiet (with_super core n l o) core
super_quiet core n l (outcomes.Super e v) = record { rounds = refl; offer = refl; live = refl; array = refl; slots = λ s. s }
super_quiet core n l o = record { rounds = refl; offer = refl; live = refl; array = refl; slots = λ s. s }

headed_quiet : (core : Core) (n l : ℕ) (s : Option ℕ) → Quiet (headed core n l s) core
headed_quiet core n l None = same core
headed_quiet core n l (Some s) = record { rounds = refl; offer = refl; live = refl; array = refl; slots = λ s. s }

pub out_quiet : (core : Core) (n k l : ℕ) → Quiet (out_done core n k l) core
out_quiet core n k l =
    let q = headed_quiet core n l (write_sector (write_in k (core.writes n))) in
    record { rounds = q.rounds; offer = q.offer; live = q.live; array = q.array; slots = q.slots }

in_quiet : (core : Core) (n k l : ℕ) → Quiet (in_done core n k l) core
in_quiet core n k l =
    let q = headed_quiet (end_read core n k) n l (read_sector (read_in k (core.reads n))) in
    record { rounds = q.rounds; offer = q.offer; live = q.live; array = q.array; slots = q.slots }

pub read_quiet : (core : Core) (n k : ℕ) (o : Outcome) → Quiet (with_value core (λ l v. in_done core n k l) o) core
read_quiet core n k (outcomes.Value l v) = in_quiet core n k l
read_quiet core n k o = same core

gathered_quiet : (core : Core) (n : ℕ) (due : Option (ℕ × ℕ)) (v : Sector) → Quiet (page_gathered core n due v) core
gathered_quiet core n None v = same core
gathered_quiet core n (Some due) v = record { rounds = refl; offer = refl; live = refl; array = refl; slots = λ s. s }

pub gather_quiet : (core : Core) (n : ℕ) (o : Outcome) → Quiet (done core (events.Gather n) o) core
gather_quiet core n (outcomes.Page v) = gathered_quiet core n (due_page core n) v
gather_quiet core n o = same core

filled_quiet : (core : Core) (n l : ℕ) (s : Option ℕ) (v : Sector) → Quiet (filled_with core n s l v) core
filled_quiet core n l None v = same core
filled_quiet core n l (Some s) v = record { rounds = refl; offer = refl; live = refl; array = refl; slots = λ s. s }

pub copy_in_quiet : (core : Core) (n : ℕ) (o : Outcome) → Quiet (done core (events.CopyIn n) o) core
copy_in_quiet core n (outcomes.Value l v) = filled_quiet core n l (next_sector core n) v
copy_in_quiet core n o = same core

pub copy_out_quiet : (core : Core) (n l : ℕ) → Quiet (copied_out core n l) core
copy_out_quiet core n l =
    let q = headed_quiet core n l (buffer_sector (buffer_of core n)) in
    record { rounds = q.rounds; offer = q.offer; live = q.live; array = q.array; slots = q.slots }

pub settled_quiet : (core : Core) (n : ℕ) (b : Option Buffer) → Quiet (settle_buffer core n b) core
settled_quiet core n None = same core
settled_quiet core n (Some b) = record { rounds = refl; offer = refl; live = refl; array = refl; slots = λ s. s }

-- The other locks.

pub resync_quiet : (core : Core) (n : ℕ) (o : Outcome) → Quiet (done core (events.AskResync n) o) core
resync_quiet core n o = record { rounds = rounds_on core _ (three_else core.locks resync_res _ refl); offer = refl; live = refl; array = refl; slots = λ s. s }

pub end_quiet : (core : Core) (n : ℕ) (o : Outcome) → Quiet (done core (events.EndPass n) o) core
end_quiet core n o = record { rounds = rounds_on core _ (three_else core.locks resync_res _ refl); offer = refl; live = refl; array = refl; slots = λ s. s }

pub device_quiet : (core : Core) (n : ℕ) (o : Outcome) → Quiet (done core (events.LockDevice n) o) core
device_quiet core n o = record { rounds = rounds_on core _ (three_else core.locks no_new_dev _ refl); offer = refl; live = refl; array = refl; slots = λ s. s }

pub recover_quiet : (core : Core) (n d : ℕ) → d < 16 → Quiet (recover core n d) core
recover_quiet core n d lt = record {
  rounds = rounds_on core _ (three_else core.locks d _ (not_of_rounds d lt));
  offer = refl;
  live = refl;
  array = refl;
  slots = slots_some core.recovery n _ lt;
}

found_quiet : (core : Core) (n : ℕ) (r : Option Recovering) (p l : ℕ) (v : Sector) → core.recovery n ≡ r → Quiet (page_found core n r p l v) core
found_quiet core n None p l v is = same core
found_quiet core n (Some r) p l v is = record { rounds = refl; offer = refl; live = refl; array = refl; slots = λ s. slots_some core.recovery n _ (s n r is) s }

pub slot_in_quiet : (core : Core) (n p l : ℕ) (o : Outcome) → Quiet (done core (events.SlotIn n p l) o) core
slot_in_quiet core n p l (outcomes.Page v) = found_quiet core n (core.recovery n) p l v refl
slot_in_quiet core n p l o = same core

pub cleared_quiet : (core : Core) (n : ℕ) (r : Option Recovering) (p l : ℕ) → core.recovery n ≡ r → Quiet (page_cleared core n r p l) core
cleared_quiet core n None p l is = same core
cleared_quiet core n (Some r) p l is = record { rounds = refl; offer = refl; live = refl; array = refl; slots = λ s. slots_some core.recovery n _ (s n r is) s }

pub recovered_quiet : (core : Core) (n : ℕ) (r : Option Recovering) → core.recovery n ≡ r → SlotsFit core.recovery → Quiet (slot_recovered core n r) core
recovered_quiet core n None is s = same core
recovered_quiet core n (Some r) is s = record {
  rounds = rounds_on core _ (three_else core.locks r.slot _ (not_of_rounds r.slot (s n r is)));
  offer = refl;
  live = refl;
  array = refl;
  slots = slots_none core.recovery n;
}

-- A failed try, and a request that it ends.

pub tried_quiet : (core : Core) (e : Event) → Quiet (tried core e) core
tried_quiet core (events.Out n k l) = record { rounds = refl; offer = refl; live = refl; array = refl; slots = λ s. s }
tried_quiet core (events.WritePage n p l) = record { rounds = refl; offer = refl; live = refl; array = refl; slots = λ s. s }
tried_quiet core (events.SlotOut n p l) = by_recovery (core.recovery n)
  where
    by_recovery : (r : Option Recovering) → Quiet (slot_failed core p l r) core
    by_recovery None = same core
    by_recovery (Some r) = record { rounds = refl; offer = refl; live = refl; array = refl; slots = λ s. s }
tried_quiet core e = same core

pub failed_quiet : (core : Core) (e : Event) → Quiet (request_failed core e) core
failed_quiet core (events.Out n k l) = record { rounds = refl; offer = refl; live = refl; array = refl; slots = λ s. s }
failed_quiet core (events.In n k) = record { rounds = refl; offer = refl; live = refl; array = refl; slots = λ s. s }
failed_quiet core e = same core
