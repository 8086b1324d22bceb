-- What guards look up.
use Rattle.std.proofs.Common.{◌≡◌, ℕ, zero, suc, ◌+◌, ◌<◌, ◌≤◌, ◌||◌, Bool, true, false, Option, Some, None, refl, ap, sym, ◌∙◌, arith, if◌then◌else◌}
use Rattle.std.proofs.Math.Path.{fun_ext}
use Rattle.dlm_modes.specs.First.{first_such}
use Rattle.dlm_modes.proofs.FirstLaws.{first_such_some}
use Rattle.mdc_types.specs.Geometry.{Sizes, nodes_of, chunk_of, chunks_of}
use Rattle.mdc_types.specs.Roles.{role_of, is_faulty, is_rebuilding}
use Rattle.mdc_types.specs.declared.roles.Roles.{Roles}
use Rattle.resync_worker.proofs.SectorLaws.{chunk_of-lt}
use Rattle.laws_sound.proofs.RequestSteps.{chunk_some}
use Rattle.world_state.specs.Ready.{Ready}
use Rattle.mdc_types.specs.Bits.{has_bit}
use Rattle.mirror_io.specs.Flight.{write_in, missing_of, missing_leg}
use Rattle.mirror_io.specs.declared.live.LiveWrite.{LiveWrite}
use Rattle.leg_failure.specs.Views.{is_target}
use Rattle.node_bitmaps.specs.Bitmap.{unmarked_target}
use Rattle.cluster_model.specs.State.{Core, sizes}
use Rattle.cluster_model.specs.Writes.{unmarked_leg, unwritten_target, writer_of, any_of_sector}

-- the first among fewer numbers, where the first among more is known

pub first_within : (p : ℕ → Bool) (i n k m : ℕ) → n ≤ k → first_such p i k ≡ Some m → m < i + n → first_such p i n ≡ Some m
unfolding first_such
first_within p i zero k m le is lt = absurd (omega (arith, (first_such_some p i k m is).from))
first_within p i (suc n) zero m le is lt = absurd (omega arith)
first_within p i (suc n) (suc k) m le is lt =
    elim (p i) as (λ b. (if b then Some i else first_such p (i + 1) k) ≡ Some m → (if b then Some i else first_such p (i + 1) n) ≡ Some m) [
      | true ↦ λ e. e
      | false ↦ λ e. first_within p (i + 1) n k m (omega arith) e (omega arith)
    ] is

pub first_past : (p : ℕ → Bool) (i n k m : ℕ) → n ≤ k → first_such p i k ≡ Some m → i + n ≤ m → first_such p i n ≡ None
unfolding first_such
first_past p i zero k m le is past = refl
first_past p i (suc n) zero m le is past = absurd (omega arith)
first_past p i (suc n) (suc k) m le is past =
    elim (p i) as (λ b. (if b then Some i else first_such p (i + 1) k) ≡ Some m → (if b then Some i else first_such p (i + 1) n) ≡ None) [
      | true ↦ λ e. let same : i ≡ m = cc in absurd (omega arith)
      | false ↦ λ e. first_past p (i + 1) n k m (omega arith) e (omega arith)
    ] is

pub first_none : (p : ℕ → Bool) (i n k : ℕ) → n ≤ k → first_such p i k ≡ None → first_such p i n ≡ None
unfolding first_such
first_none p i zero k le is = refl
first_none p i (suc n) zero le is = absurd (omega arith)
first_none p i (suc n) (suc k) le is =
    elim (p i) as (λ b. (if b then Some i else first_such p (i + 1) k) ≡ None → (if b then Some i else first_such p (i + 1) n) ≡ None) [
      | true ↦ λ e. cc
      | false ↦ λ e. first_none p (i + 1) n k (omega arith) e
    ] is

few_nodes : (g : Sizes) → nodes_of g ≤ 16
few_nodes g = grind arith

module _ (core : Core) (s : ℕ) where
  abbrev writes_it : ℕ → Bool
  writes_it m = any_of_sector s (core.writes m)

  -- who writes the sector, by who of sixteen does
  pub no_writer : first_such writes_it 0 16 ≡ None → writer_of core s ≡ None
  no_writer is = first_none writes_it 0 (nodes_of (sizes core)) 16 (few_nodes (sizes core)) is

  pub a_writer : (m : ℕ) → first_such writes_it 0 16 ≡ Some m → m < nodes_of (sizes core) → writer_of core s ≡ Some m
  a_writer m is lt = first_within writes_it 0 (nodes_of (sizes core)) 16 m (few_nodes (sizes core)) is (omega arith)

  pub another_writer : (m : ℕ) → first_such writes_it 0 16 ≡ Some m → nodes_of (sizes core) ≤ m → writer_of core s ≡ None
  another_writer m is past = first_past writes_it 0 (nodes_of (sizes core)) 16 m (few_nodes (sizes core)) is (omega arith)

-- the least target without the write's value, by a set of targets

pub missing_same : (core : Core) (n targets : ℕ) (x : Option LiveWrite) → ((l : ℕ) → has_bit targets l ≡ is_target (core.view n) l) → missing_of targets x ≡ unwritten_target core n x
missing_same core n targets None same = refl
missing_same core n targets (Some w) same = ap (λ (p : ℕ → Bool). missing_leg p w) (fun_ext same)

-- the leg is faulty or rebuilding
abbrev pub lacks : Roles → ℕ → Bool
lacks roles l = is_faulty (role_of roles l) || is_rebuilding (role_of roles l)

-- a live write is of a chunk of the array
pub chunk_there : (core : Core) (n k : ℕ) (w : LiveWrite) → Ready core → write_in k (core.writes n) ≡ Some w → chunk_of (sizes core) w.sector < chunks_of (sizes core)
chunk_there core n k w ready found = chunk_of-lt (sizes core) w.sector (chunk_some (sizes core) ready.range.legs.sizes_fit) ((ready.range.flight.requests n).write_sectors k w found)

-- the least target without the mark of the write's chunk, by a set of targets
pub unmarked_same : (core : Core) (n c targets : ℕ) (x : Option LiveWrite) (w : LiveWrite) → x ≡ Some w → c ≡ chunk_of (sizes core) w.sector → ((l : ℕ) → has_bit targets l ≡ is_target (core.view n) l)
    → unmarked_target (core.bitmap n) (has_bit targets) c ≡ unmarked_leg core n x
unmarked_same core n c targets x w found chunk same =
    ap (λ (p : ℕ → Bool). unmarked_target (core.bitmap n) p c) (fun_ext same) ∙ ap (unmarked_target (core.bitmap n) (is_target (core.view n))) chunk ∙ ap (unmarked_leg core n) (sym found)
