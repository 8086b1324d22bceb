-- What an accepted event of a request tells, in a state that a run reached.
use Rattle.std.proofs.Common.{◌≡◌, ◌⊎◌, inl, inr, ℕ, zero, suc, ◌+◌, ◌<◌, ◌≤◌, Bool, true, false, List, [], ◌∷◌, length, Option, Some, None, IsSome, refl, ap, arith}
use Rattle.std.specs.Prelude.{is_some, nat_lt}
use Rattle.std.proofs.lemmas.Bool.Decides.{nat_tests}
use Rattle.dlm_modes.specs.First.{first_such}
use Rattle.dlm_modes.specs.Guards.{first_of, unless}
use Rattle.dlm_modes.proofs.FirstLaws.{first_such_none}
use Rattle.mdc_types.specs.Geometry.{Sizes, nodes_of, chunk_of, chunks_of, pages_of}
use Rattle.mdc_types.specs.declared.numbers.Sector.{Sector}
use Rattle.mdc_types.specs.declared.refusals.Refusal.{Refusal}
use Rattle.mdc_types.specs.declared.refusals.Refusal.TheVariants.{NoNode, NoSector, Suspended, InFlight, Full, NoWrite, NoRead, NoLeg, NoPage, NoChunk}
use Rattle.mdc_types.specs.declared.roles.NodeState.{NodeState}
use Rattle.mdc_types.specs.declared.roles.NodeState.TheVariants as states
use Rattle.mdc_types.specs.declared.events.Event.TheVariants.{AskWrite, WritePage, Out, EndWrite, BreakWrite, AskRead, In, Clear}
use Rattle.mirror_io.specs.declared.live.LiveWrite.{LiveWrite}
use Rattle.mirror_io.specs.declared.live.LiveRead.{LiveRead}
use Rattle.mirror_io.specs.Flight.{write_in, read_in}
use Rattle.suspend_ranges.specs.Suspended.{covering}
use Rattle.resync_worker.proofs.SectorLaws.{chunk_of-lt}
use Rattle.cluster_model.specs.State.{Core, sizes}
use Rattle.cluster_model.specs.Guards.{refused_by, found_or, of_live, no_node, no_leg, no_page, is_out}
use Rattle.cluster_model.specs.Phases.{needs_up, is_up}
use Rattle.cluster_model.specs.Table.{refusal}
use Rattle.cluster_model.specs.Writes.{not_leaving, no_sector, no_write, writer_of, any_of_sector, full}
use Rattle.laws_sound.specs.Requests.{writes_in}
use Rattle.laws_sound.proofs.Guarded.{first_none, unless_none, refused_none, living}
use Rattle.laws_sound.proofs.RequestSteps.{chunk_some, some_live}
use Rattle.world_state.specs.Ready.{Ready}

lt_from : (a b : ℕ) → nat_lt a b ≡ true → a < b
lt_from a b is = grind (arith, nat_tests)

pub record Found {A : Type 0} (x : Option A) : Type 0 where
  pub item : A
  pub is : x ≡ Some item

found_some : {A : Type 0} (x : Option A) (r : Refusal) → found_or x r ≡ None → Found x
found_some None r is = cc
found_some (Some a) r is = record { item = a; is = refl }

some_of : {A : Type 0} (x : Option A) (a : A) → x ≡ Some a → IsSome x
some_of x a is = ap is_some is

-- what the guards of a live node tell
pub record Live (core : Core) (n : ℕ) (rest : List (Option Refusal)) : Type 0 where
  pub node : n < 16
  pub there : n < nodes_of (sizes core)
  pub others : first_of rest ≡ None

live : (core : Core) (n : ℕ) (rest : List (Option Refusal)) → Ready core → first_of (of_live core n rest) ≡ None → Live core n rest
live core n rest ready ok =
    let l = living core n rest ready.rounded.numbered.nodes ok in
    let g = first_none (no_node core n) _ ok in
    record { node = l.node; there = lt_from n (nodes_of (sizes core)) (unless_none _ (NoNode n) g.0); others = l.rest }

-- the sectors that a node may use are those of the array
sector_there : (core : Core) (n s : ℕ) → Ready core → no_sector core n s ≡ None → s < (sizes core).room
sector_there core n s ready ok = omega (arith, lt_from s (core.view n).sure_size (unless_none _ (NoSector s) ok), (ready.range.legs.views n).sure_size)

chunk_below : (core : Core) (s : ℕ) → Ready core → s < (sizes core).room → chunk_of (sizes core) s < chunks_of (sizes core)
chunk_below core s ready lt = chunk_of-lt (sizes core) s (chunk_some (sizes core) ready.range.legs.sizes_fit) lt

-- A new write.

no_more : (g : Sizes) (c : ℕ) (ws : List LiveWrite) → writes_in g c ws ≤ length ws
no_more g c [] = omega arith
no_more g c (w ∷ ws) = grind (arith, nat_tests, no_more g c ws)

none_such : (p : ℕ → Bool) (i n : ℕ) → ((k : ℕ) → i ≤ k → k < i + n → p k ≡ false) → first_such p i n ≡ None
unfolding first_such
none_such p i zero fails = refl
none_such p i (suc n) fails =
    let here : p i ≡ false = fails i (omega arith) (omega arith) in
    rw here (none_such p (i + 1) n (λ k le lt. fails k (omega arith) (omega arith)))

below_or_not : (i k : ℕ) → (i < k) ⊎ (k ≤ i)
below_or_not i k = grind (arith, nat_tests)

not_up : (s : NodeState) → (is_out s ≡ false → ⊥) → is_up s ≡ false
not_up states.Out never = refl
not_up states.Joining never = absurd (never refl)
not_up states.Loaded never = absurd (never refl)
not_up states.Up never = absurd (never refl)

out_is : (core : Core) (m : ℕ) → Ready core → nodes_of (sizes core) ≤ m → is_up (core.state m) ≡ false
out_is core m ready past = not_up (core.state m) (λ e. omega (arith, ready.rounded.numbered.below m e))

not_of : (core : Core) (s m : ℕ) → Ready core → writer_of core s ≡ None → any_of_sector s (core.writes m) ≡ false
not_of core s m ready none = elim (below_or_not m (nodes_of (sizes core))) [
  | inl lt ↦ first_such_none (λ k. any_of_sector s (core.writes k)) 0 (nodes_of (sizes core)) none m (omega arith) (omega arith)
  | inr past ↦ rw (ready.range.flight.resting m (out_is core m ready past)).0 refl
]

pub record AskWriteAt (core : Core) (n s : ℕ) : Type 0 where
  pub node : n < 16
  pub there : n < nodes_of (sizes core)
  pub chunk : chunk_of (sizes core) s < chunks_of (sizes core)
  pub few : (core.bitmap n).writes (chunk_of (sizes core) s) < 16
  pub room : length (core.writes n) < 16
  pub free : first_such (λ m. any_of_sector s (core.writes m)) 0 16 ≡ None

pub ask_write_at : (core : Core) (n s : ℕ) (v : Sector) → Ready core → refusal core (AskWrite n s v) ≡ None → AskWriteAt core n s
ask_write_at core n s v ready ok =
    let g0 = live core n _ ready ok in
    let g1 = first_none (needs_up core n) _ g0.others in
    let g2 = first_none (not_leaving core n) _ g1.1 in
    let g3 = first_none (no_sector core n s) _ g2.1 in
    let g4 = first_none (refused_by Suspended (covering (core.suspended n) s)) _ g3.1 in
    let g5 = first_none (refused_by InFlight (writer_of core s)) _ g4.1 in
    let g6 = first_none (full n (length (core.writes n))) _ g5.1 in
    let none : writer_of core s ≡ None = refused_none InFlight _ g5.0 in
    let room : length (core.writes n) < 16 = lt_from _ 16 (unless_none _ (Full n) g6.0) in
    let c : ℕ = chunk_of (sizes core) s in
    record {
      node = g0.node;
      there = g0.there;
      chunk = chunk_below core s ready (sector_there core n s ready g3.0);
      few = omega (arith, (ready.range.flight.bitmaps n).counts c, no_more (sizes core) c (core.writes n), room);
      room = room;
      free = none_such _ 0 16 (λ m le lt. not_of core s m ready none);
    }

-- A live write.

pub record WriteAt (core : Core) (n k : ℕ) : Type 0 where
  pub node : n < 16
  pub there : n < nodes_of (sizes core)
  pub live : IsSome (write_in k (core.writes n))
  -- its sector and chunk, where it has this value
  pub sector : (w : LiveWrite) → write_in k (core.writes n) ≡ Some w → w.sector < (sizes core).room
  pub chunk : (w : LiveWrite) → write_in k (core.writes n) ≡ Some w → chunk_of (sizes core) w.sector < chunks_of (sizes core)
  pub counted : (w : LiveWrite) → write_in k (core.writes n) ≡ Some w → 0 < (core.bitmap n).writes (chunk_of (sizes core) w.sector)

write_at : (core : Core) (n k : ℕ) → Ready core → n < 16 → n < nodes_of (sizes core) → no_write k (write_in k (core.writes n)) ≡ None → WriteAt core n k
write_at core n k ready node there ok =
    let f = found_some _ (NoWrite k) ok in
    let sector : (w : LiveWrite) → write_in k (core.writes n) ≡ Some w → w.sector < (sizes core).room = λ w is. (ready.range.flight.requests n).write_sectors k w is in
    record {
      node = node;
      there = there;
      live = some_of _ f.item f.is;
      sector = sector;
      chunk = λ w is. chunk_below core w.sector ready (sector w is);
      counted = λ w is. omega (arith, (ready.range.flight.bitmaps n).counts (chunk_of (sizes core) w.sector), some_live (sizes core) k (core.writes n) w is);
    }

pub end_at : (core : Core) (n k : ℕ) → Ready core → refusal core (EndWrite n k) ≡ None → WriteAt core n k
end_at core n k ready ok =
    let g0 = live core n _ ready ok in
    let g1 = first_none (needs_up core n) _ g0.others in
    write_at core n k ready g0.node g0.there (first_none (no_write k (write_in k (core.writes n))) _ g1.1).0

pub break_at : (core : Core) (n k : ℕ) → Ready core → refusal core (BreakWrite n k) ≡ None → WriteAt core n k
break_at core n k ready ok =
    let g0 = live core n _ ready ok in
    let g1 = first_none (needs_up core n) _ g0.others in
    write_at core n k ready g0.node g0.there (first_none (no_write k (write_in k (core.writes n))) _ g1.1).0

leg_there : (core : Core) (l : ℕ) → Ready core → no_leg core l ≡ None → l < 8
leg_there core l ready ok = omega (arith, lt_from l (sizes core).legs (unless_none _ (NoLeg l) ok), ready.range.legs.sizes_fit.legs.1)

pub record OutAt (core : Core) (n k l : ℕ) : Type 0 where
  pub leg : l < 8
  pub write : WriteAt core n k

pub out_at : (core : Core) (n k l : ℕ) → Ready core → refusal core (Out n k l) ≡ None → OutAt core n k l
out_at core n k l ready ok =
    let g0 = live core n _ ready ok in
    let g1 = first_none (no_leg core l) _ g0.others in
    let g2 = first_none (needs_up core n) _ g1.1 in
    let g3 = first_none (no_write k (write_in k (core.writes n))) _ g2.1 in
    record { leg = leg_there core l ready g1.0; write = write_at core n k ready g0.node g0.there g3.0 }

-- Reads.

pub record AskReadAt (core : Core) (n : ℕ) : Type 0 where
  pub node : n < 16
  pub there : n < nodes_of (sizes core)
  pub room : length (core.reads n) < 16

pub ask_read_at : (core : Core) (n s : ℕ) → Ready core → refusal core (AskRead n s) ≡ None → AskReadAt core n
ask_read_at core n s ready ok =
    let g0 = live core n _ ready ok in
    let g1 = first_none (needs_up core n) _ g0.others in
    let g2 = first_none (not_leaving core n) _ g1.1 in
    let g3 = first_none (no_sector core n s) _ g2.1 in
    let g4 = first_none (full n (length (core.reads n))) _ g3.1 in
    record { node = g0.node; there = g0.there; room = lt_from _ 16 (unless_none _ (Full n) g4.0) }

pub record ReadAt (core : Core) (n k : ℕ) : Type 0 where
  pub node : n < 16
  pub there : n < nodes_of (sizes core)
  pub up : is_up (core.state n) ≡ true
  pub live : IsSome (read_in k (core.reads n))
  pub sector : (r : LiveRead) → read_in k (core.reads n) ≡ Some r → r.sector < (sizes core).room
  pub chosen : (r : LiveRead) → read_in k (core.reads n) ≡ Some r → r.chosen < 8

pub in_at : (core : Core) (n k : ℕ) → Ready core → refusal core (In n k) ≡ None → ReadAt core n k
in_at core n k ready ok =
    let g0 = live core n _ ready ok in
    let g1 = first_none (needs_up core n) _ g0.others in
    let g2 = first_none (found_or (read_in k (core.reads n)) (NoRead k)) _ g1.1 in
    let f = found_some _ (NoRead k) g2.0 in
    record {
      node = g0.node;
      there = g0.there;
      up = unless_none _ _ g1.0;
      live = some_of _ f.item f.is;
      sector = λ r is. ((ready.range.flight.requests n).read_sectors k r is).0;
      chosen = λ r is. ((ready.range.flight.requests n).read_sectors k r is).1;
    }

-- The bitmap.

pub record PageAt (core : Core) (n p l : ℕ) : Type 0 where
  pub node : n < 16
  pub there : n < nodes_of (sizes core)
  pub leg : l < 8
  pub page : p < pages_of (sizes core)

pub page_at : (core : Core) (n p l : ℕ) → Ready core → refusal core (WritePage n p l) ≡ None → PageAt core n p l
page_at core n p l ready ok =
    let g0 = live core n _ ready ok in
    let g1 = first_none (no_leg core l) _ g0.others in
    let g2 = first_none (needs_up core n) _ g1.1 in
    let g3 = first_none (no_page core p) _ g2.1 in
    record { node = g0.node; there = g0.there; leg = leg_there core l ready g1.0; page = lt_from _ _ (unless_none _ (NoPage p) g3.0) }

pub record ClearAt (core : Core) (n c : ℕ) : Type 0 where
  pub node : n < 16
  pub chunk : c < chunks_of (sizes core)

pub clear_at : (core : Core) (n c : ℕ) → Ready core → refusal core (Clear n c) ≡ None → ClearAt core n c
clear_at core n c ready ok =
    let g0 = live core n _ ready ok in
    let g1 = first_none (needs_up core n) _ g0.others in
    let g2 = first_none (unless (nat_lt c (chunks_of (sizes core))) (NoChunk c)) _ g1.1 in
    record { node = g0.node; chunk = lt_from _ _ (unless_none _ (NoChunk c) g2.0) }
