-- The ghosts of pending slots: functions of the opening and the run.
use Rattle.std.specs.Prelude.{ℕ, ◌+◌, ◌==◌, nat_le, Bool, true, false, not, ◌&&◌, ◌||◌, if◌then◌else◌, Option, Some, None, is_some}
use Rattle.dlm_modes.specs.First.{first_such, each_such}
use Rattle.dlm_modes.specs.Points.{with_at}
use Rattle.mdc_types.specs.Roles.{is_working}
use Rattle.leg_failure.specs.Views.{works}
use Rattle.node_recovery.specs.Progress.{Recovering}
use Rattle.cluster_model.specs.Phases.{is_up}
use Rattle.laws_roles.proofs.Parts.{number, said_role, promotes, wished}
use Rattle.storage_ways.proofs.Parts.{Part}
use Rattle.storage_ways.proofs.Ways as ways
use Rattle.storage_ways.proofs.Ways.{Way}

-- the up node reads from the leg
abbrev pub serves : Part → ℕ → ℕ → Bool
serves w n l = is_up (w.state n) && works (w.view n) l

-- the superblock on leg k, as new as the last whole round, calls the leg working
abbrev pub calls : Part → ℕ → ℕ → Bool
calls w k l = nat_le w.completed (number (w.super k)) && is_working (said_role (w.super k) l)

-- some up node reads from the leg, or a node that comes in would
abbrev pub is_served : Part → ℕ → Bool
is_served w l = is_some (first_such (λ n. serves w n l) 0 16)

abbrev pub is_called : Part → ℕ → Bool
is_called w l = is_some (first_such (λ k. calls w k l) 0 w.geometry.legs)

abbrev pub is_trusted : Part → ℕ → Bool
is_trusted w l = is_served w l || is_called w l

-- the slot marks the chunk on each trusted leg, and on each good one
abbrev pub marks_trusted : Part → ℕ → ℕ → Bool
marks_trusted w d c = each_such (λ l. not (is_trusted w l) || w.bit d c l) 0 w.geometry.legs

abbrev pub marks_good : Part → ℕ → ℕ → Bool
marks_good w d c = each_such (λ l. not (w.ghost.good l) || w.bit d c l) 0 w.geometry.legs

-- some node's offer stands that the leg is to work
abbrev pub is_promoted : Part → ℕ → Bool
is_promoted w l = is_some (first_such (λ n. wished promotes (w.offer n) l) 0 16)

-- the slot that the node recovers
abbrev pub slot_of : Option Recovering → Option ℕ
slot_of None = None
slot_of (Some r) = Some r.slot

pub record Pend : Type 0 where
  -- how many slots have become pending
  pub count : ℕ
  -- by slot, since it is pending: its number in their order; the chunks that it marked then on each
  -- trusted leg, and on each good one; the leg that was to work then
  pub born : ℕ → ℕ
  pub owed : ℕ → ℕ → Bool
  pub full : ℕ → ℕ → Bool
  pub promoted : ℕ → ℕ → Bool
  -- by slot and chunk: a recovery that found the chunk has cleared a page of the slot
  pub moved : ℕ → ℕ → Bool
  -- by node: the slot that it recovered when it died
  pub was : ℕ → Option ℕ
  -- by slot and sector: a write of the sector started since, and nothing was decided since that
  pub young : ℕ → ℕ → Bool

-- the slot becomes pending, in the part after it
abbrev pub with_pending : Part → Pend → ℕ → Option ℕ → Pend
with_pending v g d slot = record {
  count = g.count + 1;
  born = with_at g.born d (g.count + 1);
  owed = λ e c. if e == d then marks_trusted v d c else g.owed e c;
  full = λ e c. if e == d then marks_good v d c else g.full e c;
  promoted = λ e l. if e == d then is_promoted v l else g.promoted e l;
  moved = λ e c. if e == d then false else g.moved e c;
  was = with_at g.was d slot;
  young = λ e s. if e == d then false else g.young e s;
}

abbrev pub with_start : Pend → ℕ → Bool → Pend
with_start g t begun = record g { young = λ d s. if (s == t) && not begun then true else g.young d s }

abbrev pub with_decided : Pend → ℕ → Pend
with_decided g t = record g { young = λ d s. if s == t then false else g.young d s }

abbrev pub with_moved : Pend → Recovering → Pend
with_moved g r = record g { moved = λ d c. if (d == r.slot) && r.found c then true else g.moved d c }

abbrev pub pend_after : {w v : Part} → Way w v → Pend → Pend
pend_after {w = w} {v = v} (ways.dies n told e) g = with_pending v g n (slot_of (w.recovery n))
pend_after {v = v} (ways.parts n o e) g = with_pending v g n None
pend_after (ways.outs n k l x t) g = with_start g x.sector x.started
pend_after (ways.misses n k l x left t) g = with_start g x.sector x.started
pend_after (ways.ends n k x e) g = with_decided g x.sector
pend_after (ways.settles n p b e) g = with_decided g b.sector
pend_after (ways.slot_clears n p l r e) g = with_moved g r
pend_after (ways.misses_slot n p l r left e) g = with_moved g r
pend_after x g = g
