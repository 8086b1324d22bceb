-- What is known of pending slots, along each run.
use Rattle.std.proofs.Common.{List, [], ◌∷◌, refl, sym, subst}
use Rattle.mdc_types.specs.declared.outcomes.Entry.{Entry}
use Rattle.cluster_model.specs.State.{State}
use Rattle.cluster_model.specs.Contents.{SoundOpening}
use Rattle.cluster_model.specs.Opening.{Origin, array_of}
use Rattle.cluster_model.specs.Run.{Run}
use Rattle.laws_roles.specs.Laws.{Tells}
use Rattle.laws_roles.proofs.Parts.{supers}
use Rattle.storage_ways.proofs.Opening.{begins}
use Rattle.storage_ways.proofs.Parts.{Part}
use Rattle.storage_ways.proofs.Place.{here}
use Rattle.storage_ways.proofs.Runs as ways_runs
use Rattle.storage_ways.proofs.Runs.{around_at, At, run_ways}
use Rattle.storage_ways.proofs.Sound.{Sound}
use Rattle.storage_ways.proofs.Ways as ways
use Rattle.storage_ways.proofs.Ways.{Way, Ways}
use Rattle.laws_writes.proofs.Ghosts.{Ghost}
use Rattle.laws_writes.proofs.First.{First}
use Rattle.laws_writes.proofs.Runs.{ghost_of}
use Rattle.laws_writes.proofs.Settled.{Since}
use Rattle.laws_writes.proofs.Written.{ghost_over}
use Rattle.laws_recovery.proofs.Ghosts.{Hold}
use Rattle.laws_recovery.proofs.Recovered.{Recovered, hold_over, since_over, recovered_way}
use Rattle.laws_recovery.proofs.Runs.{hold_of, since_of, recovered}
use Rattle.laws_pending.proofs.FirstPending.{first_pend, first_legs, first_pendings}
use Rattle.laws_pending.proofs.Ghosts.{Pend, pend_after}
use Rattle.laws_pending.proofs.Known.{Known}
use Rattle.laws_pending.proofs.Pending.{Pendings}
use Rattle.laws_pending.proofs.Step.{pendings_step}

pub known_of : (w : Part) (g : Ghost) (h : Hold) (z : Since) (p : Pend) → Sound w → Recovered w g h z → Pendings w g z p → Known w g z p
known_of w g h z p s r q = record {
  sound = s;
  bits = r.written.bits;
  pages = r.written.pages;
  settled = r.settled;
  pendings = q;
}

-- the ghosts after some ways
abbrev pub pend_over : {w v : Part} → Ways w v → Pend → Pend
pend_over ways.none p = p
pend_over (ways.more xs s x) p = pend_after x (pend_over xs p)

-- all that is known, of writes, stale legs and pending slots
pub record All (w : Part) (g : Ghost) (h : Hold) (z : Since) (p : Pend) : Type 0 where
  pub recovered : Recovered w g h z
  pub pendings : Pendings w g z p

pub all_ways : (w v : Part) (xs : Ways w v) (g : Ghost) (h : Hold) (z : Since) (p : Pend) → All w g h z p → All v (ghost_over xs g) (hold_over xs g h) (since_over xs z) (pend_over xs p)
all_ways w v ways.none g h z p a = a
all_ways w v (ways.more {u = u} xs s x) g h z p a =
    let b = all_ways w u xs g h z p a in
    record {
      recovered = recovered_way u v x (ghost_over xs g) (hold_over xs g h) (since_over xs z) s b.recovered;
      pendings = pendings_step u v x (ghost_over xs g) (since_over xs z) (pend_over xs p) (known_of u (ghost_over xs g) (hold_over xs g h) (since_over xs z) (pend_over xs p) s b.recovered b.pendings);
    }

module _ (o : Origin) (start : State) (sound : SoundOpening o start) (tells : Tells o start) where
  abbrev pub pend_of : (past : List Entry) (end : State) → Run start past end → Pend
  pend_of [] end run = first_pend (First o start sound tells (supers (array_of o) start.legs) (ways_runs.home o start sound.opens tells))
  pend_of (x ∷ past) end run = pend_over (run_ways o start sound.opens tells past run.0 end x run.1 run.2) (pend_of past run.0 run.1)

  first_at : Pendings (At o start sound.opens tells [] start) (ghost_of o start sound tells [] start refl) (since_of o start sound tells [] start refl) (pend_of [] start refl)
  first_at =
      let home = ways_runs.home o start sound.opens tells in
      let sup = supers (array_of o) start.legs in
      let here_sound : Sound (First o start sound tells sup home) = subst (λ c. Sound (here c (around_at o start sound.opens tells [] start))) sound.opens.core (ways_runs.sound o start sound.opens tells [] start refl) in
      subst (λ c. Pendings (here c (around_at o start sound.opens tells [] start)) (ghost_of o start sound tells [] start refl) (since_of o start sound tells [] start refl) (pend_of [] start refl)) (sym sound.opens.core)
      (first_pendings o start sound tells sup home here_sound (first_legs o (First o start sound tells sup home) refl here_sound.numbers.some_completed (begins o start sound.opens tells).super))

  pub all : (past : List Entry) (end : State) (run : Run start past end)
      → All (At o start sound.opens tells past end) (ghost_of o start sound tells past end run) (hold_of o start sound tells past end run) (since_of o start sound tells past end run) (pend_of past end run)
  all [] end run = subst (λ s. All (At o start sound.opens tells [] s) (ghost_of o start sound tells [] start refl) (hold_of o start sound tells [] start refl) (since_of o start sound tells [] start refl) (pend_of [] start refl)) (sym run)
      (record { recovered = recovered o start sound tells [] start refl; pendings = first_at })
  all (x ∷ past) end run =
      all_ways (At o start sound.opens tells past run.0) (At o start sound.opens tells (x ∷ past) end)
      (run_ways o start sound.opens tells past run.0 end x run.1 run.2) (ghost_of o start sound tells past run.0 run.1) (hold_of o start sound tells past run.0 run.1) (since_of o start sound tells past run.0 run.1) (pend_of past run.0 run.1)
      (all past run.0 run.1)
