-- At an opening a pending slot owes what it marks, has no heir, and nothing of it was moved.
use Rattle.std.proofs.Common.{◌≡◌, inl, inr, ℕ, ◌<◌, ◌≤◌, false, Option, None, sym, ap, subst, arith}
use Rattle.std.proofs.lemmas.Bool.{cases_lt}
use Rattle.mdc_types.specs.Roles.{is_working}
use Rattle.md_superblock.specs.Arrays.{Says}
use Rattle.leg_failure.specs.Views.{works}
use Rattle.cluster_model.specs.Phases.{is_up}
use Rattle.cluster_model.specs.State.{State}
use Rattle.cluster_model.specs.Contents.{SoundOpening}
use Rattle.cluster_model.specs.Opening.{Origin}
use Rattle.laws_roles.specs.Laws.{Tells}
use Rattle.laws_roles.proofs.Opening as role_opening
use Rattle.laws_roles.proofs.Parts.{number, said_role}
use Rattle.storage_ways.proofs.Parts.{Part}
use Rattle.storage_ways.proofs.Sound.{Sound}
use Rattle.laws_writes.proofs.First.{First}
use Rattle.laws_writes.proofs.FirstKeepers.{first_ghost}
use Rattle.laws_recovery.proofs.FirstStale.{first_since}
use Rattle.laws_pending.proofs.Ghosts.{Pend, marks_trusted, marks_good}
use Rattle.laws_pending.proofs.Gone.{marked_served, marked_called, marked_good}
use Rattle.laws_pending.proofs.MarkSteps.{below_sixteen}
use Rattle.laws_pending.proofs.Pending.{Pendings, SuperLeg}
use Rattle.laws_pending.proofs.Trust.{left, true_le}

-- the ghosts of a part where slots are pending that no node of the run left
abbrev pub first_pend : Part → Pend
first_pend w = record {
  count = 0;
  born = λ d. 0;
  owed = marks_trusted w;
  full = marks_good w;
  promoted = λ d l. false;
  moved = λ d c. false;
  was = λ d. None;
  young = λ d s. false;
}

-- current superblocks stand on legs that there are
pub first_legs : (o : Origin) (w : Part) → w.geometry ≡ o.sizes → 1 ≤ w.completed → role_opening.Begins o w.super → SuperLeg w
first_legs o w sizes some b k le = elim (cases_lt k o.sizes.legs) [
  | inl lt ↦ subst (λ g. k < g.legs) (sym sizes) lt
  | inr past ↦ let none : number (w.super k) ≡ 0 = ap number (b.past k past) in absurd (omega (arith, le, none, some))
]

module _ (o : Origin) (start : State) (sound : SoundOpening o start) (tells : Tells o start) (sup : ℕ → Option Says) (home : ℕ) where
  abbrev F : Part
  F = First o start sound tells sup home

  pub first_pendings : Sound F → SuperLeg F → Pendings F (first_ghost o start.legs) (first_since o start sound tells sup home) (first_pend F)
  first_pendings s legs = record {
    read_leg = λ n p l e. cc;
    super_leg = legs;
    born_now = λ d e. omega arith;
    line = λ d h e f. cc;
    since_line = λ d h k e f. cc;
    was_heir = λ n d e f. cc;
    since_young = λ d k e f. cc;
    work_pending = λ d n l e f. cc;
    one_promoted = λ d l k e f. cc;
    solo = λ d l x e f. cc;
    full = λ d c l e all stays good lt. marked_good F d c l all lt good;
    owed_served = λ d c l n e all stays r lt other. marked_served F d c l n all lt (below_sixteen (F.state n) n (s.phases.below n) (left (is_up (F.state n)) (works (F.view n) l) r)) r;
    owed_called = λ d c l k e all stays r lt other. marked_called F d c l k all lt (legs k (true_le F.completed (number (F.super k)) (left _ (is_working (said_role (F.super k) l)) r))) r;
    moved_found = λ d h k e lt f. cc;
    moved_kept = λ d h k e lt f. cc;
    moved_bit = λ d h k l e lt f. cc;
    moved_heir = λ d k e lt f. cc;
    moved_full = λ d h k e lt f. cc;
  }
