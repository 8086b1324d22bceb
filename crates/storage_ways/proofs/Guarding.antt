-- What the guards of several rows tell.
use Rattle.std.proofs.Common.{◌≡◌, inl, inr, ℕ, ◌<◌, ◌&&◌, ◌||◌, Bool, true, false, not, Option, Some, None, refl, arith, nat_lt}
use Rattle.std.specs.Prelude.{is_some}
use Rattle.std.proofs.lemmas.Bool.{cases_lt}
use Rattle.std.proofs.lemmas.Bool.Decides.{nat_tests}
use Rattle.dlm_modes.specs.First.{first_such}
use Rattle.dlm_modes.proofs.FirstLaws.{first_such_none}
use Rattle.mdc_types.specs.Geometry.{nodes_of}
use Rattle.mdc_types.specs.Roles.{is_working, is_written, is_faulty, is_rebuilding}
use Rattle.mdc_types.specs.declared.numbers.Range.{Range}
use Rattle.mdc_types.specs.declared.refusals.Refusal.TheVariants.{Unacked}
use Rattle.mdc_types.specs.declared.roles.Role.{Role}
use Rattle.mdc_types.specs.declared.roles.Role.TheVariants.{Spare}
use Rattle.leg_failure.specs.Views.{works, is_target, unacked_leg}
use Rattle.node_recovery.specs.Progress.{Recovering}
use Rattle.resync_worker.specs.Copying.{Passing}
use Rattle.resync_worker.specs.declared.buffer.Buffer.{Buffer}
use Rattle.cluster_model.specs.State.{Core, Turn, NotAsked, Asked, Held, sizes}
use Rattle.cluster_model.specs.Bits.{is_degraded}
use Rattle.cluster_model.specs.Guards.{unacked, is_out}
use Rattle.cluster_model.specs.Phases.{is_up, is_none, is_held, is_window, is_buffer, is_open, has_lock, has_pass as has_pass_word, turn_word, buffer_word, recovery_word}
use Rattle.laws_sound.proofs.Guarded.{refused_none}
use Rattle.laws_roles.proofs.WishGuards.{all_known}
use Rattle.storage_ways.proofs.Place.{Around, here, Place}
use Rattle.storage_ways.proofs.Ways.{Acked}

-- Copying.

pub not_asked : (t : Turn) (p : Option Passing) (w : Option Range) → is_none (turn_word t p w) ≡ true → t ≡ NotAsked
not_asked NotAsked p w e = refl
not_asked Asked p w e = cc
not_asked Held None w e = cc
not_asked Held (Some p) w e = by p.buffer w e
  where
    by : (b : Option Buffer) (w : Option Range) → is_none (buffer_word b w) ≡ true → Held ≡ NotAsked
    by (Some b) w e = cc
    by None None e = cc
    by None (Some r) e = cc

-- the lock alone
pub record LockAlone (t : Turn) (p : Option Passing) : Type 0 where
  pub turn : t ≡ Held
  pub pass : p ≡ None

pub lock_alone : (t : Turn) (p : Option Passing) (w : Option Range) → is_held (turn_word t p w) ≡ true → LockAlone t p
lock_alone NotAsked p w e = cc
lock_alone Asked p w e = cc
lock_alone Held None w e = record { turn = refl; pass = refl }
lock_alone Held (Some p) w e = by p.buffer w e
  where
    by : (b : Option Buffer) (w : Option Range) → is_held (buffer_word b w) ≡ true → LockAlone Held (Some p)
    by (Some b) w e = cc
    by None None e = cc
    by None (Some r) e = cc

-- a pass
pub record UnderPass (t : Turn) (p : Option Passing) : Type 0 where
  pub turn : t ≡ Held
  pub passing : Passing
  pub pass : p ≡ Some passing

pub under_pass : (t : Turn) (p : Option Passing) (w : Option Range) → has_pass_word (turn_word t p w) ≡ true → UnderPass t p
under_pass NotAsked p w e = cc
under_pass Asked p w e = cc
under_pass Held None w e = cc
under_pass Held (Some p) w e = record { turn = refl; passing = p; pass = refl }

-- an open window without a buffer
pub record InWindow (t : Turn) (p : Option Passing) (w : Option Range) : Type 0 where
  pub turn : t ≡ Held
  pub passing : Passing
  pub pass : p ≡ Some passing
  pub empty : passing.buffer ≡ None
  pub range : Range
  pub window : w ≡ Some range

pub in_window : (t : Turn) (p : Option Passing) (w : Option Range) → is_window (turn_word t p w) ≡ true → InWindow t p w
in_window NotAsked p w e = cc
in_window Asked p w e = cc
in_window Held None w e = cc
in_window Held (Some p) w e = by p.buffer w refl e
  where
    by : (b : Option Buffer) (w : Option Range) → p.buffer ≡ b → is_window (buffer_word b w) ≡ true → InWindow Held (Some p) w
    by (Some b) w is e = cc
    by None None is e = cc
    by None (Some r) is e = record { turn = refl; passing = p; pass = refl; empty = is; range = r; window = refl }

-- a buffer
pub record WithBuffer (t : Turn) (p : Option Passing) : Type 0 where
  pub turn : t ≡ Held
  pub passing : Passing
  pub pass : p ≡ Some passing
  pub buffer : Buffer
  pub is : passing.buffer ≡ Some buffer

pub with_buffer : (t : Turn) (p : Option Passing) (w : Option Range) → is_buffer (turn_word t p w) ≡ true → WithBuffer t p
with_buffer NotAsked p w e = cc
with_buffer Asked p w e = cc
with_buffer Held None w e = cc
with_buffer Held (Some p) w e = by p.buffer w refl e
  where
    by : (b : Option Buffer) (w : Option Range) → p.buffer ≡ b → is_buffer (buffer_word b w) ≡ true → WithBuffer Held (Some p)
    by (Some b) w is e = record { turn = refl; passing = p; pass = refl; buffer = b; is = is }
    by None None is e = cc
    by None (Some r) is e = cc

pub has_turn : (t : Turn) (p : Option Passing) (w : Option Range) → has_lock (turn_word t p w) ≡ true → t ≡ Held
has_turn NotAsked p w e = cc
has_turn Asked p w e = cc
has_turn Held p w e = refl

-- Recoveries.

pub none_open : (x : Option Recovering) → is_none (recovery_word x) ≡ true → x ≡ None
none_open None e = refl
none_open (Some r) e = cc

pub record OpenOne (x : Option Recovering) : Type 0 where
  pub recovering : Recovering
  pub is : x ≡ Some recovering

pub one_open : (x : Option Recovering) → is_open (recovery_word x) ≡ true → OpenOne x
one_open None e = cc
one_open (Some r) e = record { recovering = r; is = refl }

-- What was found.

pub record Found {A : Type 0} (x : Option A) : Type 0 where
  pub item : A
  pub is : x ≡ Some item

pub found_some : {A : Type 0} (x : Option A) → is_some x ≡ true → Found x
found_some None e = cc
found_some (Some a) e = record { item = a; is = refl }

-- Legs.

written_not_spare : (r : Role) → r ≡ Spare → is_written r ≡ true → ⊥
written_not_spare r e w = cc

working_not_spare : (r : Role) → r ≡ Spare → is_working r ≡ true → ⊥
working_not_spare r e w = cc

first_true : (b c : Bool) → (b && c) ≡ true → b ≡ true
first_true b c e = grind arith

spare_degraded : (r : Role) → r ≡ Spare → (is_faulty r || is_rebuilding r) ≡ false
spare_degraded r e = rw e refl

both_not : (b c : Bool) → (b && not c) ≡ false → b ≡ true → c ≡ true
both_not b c e f = grind arith

pub below_legs : (a b : ℕ) → nat_lt a b ≡ true → a < b
below_legs a b e = grind (arith, nat_tests)

pub both_nots : (a b : Bool) → (a && b) ≡ false → a ≡ true → b ≡ false
both_nots a b e f = grind arith

module _ (core : Core) (a : Around) (p : Place core a) where
  -- nothing is unacked
  pub acked_by : (n : ℕ) → unacked core n ≡ None → Acked (here core a) n
  acked_by n e l = all_known core p.known n (refused_none Unacked (unacked_leg (core.view n)) e) l

  pub target_leg : (n l : ℕ) → is_target (core.view n) l ≡ true → l < 8
  target_leg n l e = elim (cases_lt l 8) [
    | inl lt ↦ lt
    | inr past ↦
        let legs = p.known.range.legs.sizes_fit.legs.1 in
        absurd (written_not_spare ((core.view n).role l) ((p.known.range.legs.views n).roles l (omega (arith, past, legs))) (first_true (is_written ((core.view n).role l)) (not ((core.view n).lost l)) e))
  ]

  pub working_at : (n l : ℕ) → works (core.view n) l ≡ true → l < 8
  working_at n l e = elim (cases_lt l 8) [
    | inl lt ↦ lt
    | inr past ↦
        let legs = p.known.range.legs.sizes_fit.legs.1 in
        absurd (working_not_spare ((core.view n).role l) ((p.known.range.legs.views n).roles l (omega (arith, past, legs))) (first_true (is_working ((core.view n).role l)) (not ((core.view n).lost l)) e))
  ]

  -- each target passes the test where none was found that doesn't
  pub all_targets : (n : ℕ) (test : ℕ → Bool) → first_such (λ l. is_target (core.view n) l && not (test l)) 0 8 ≡ None → (l : ℕ) → is_target (core.view n) l ≡ true → test l ≡ true
  all_targets n test e l t = both_not (is_target (core.view n) l) (test l) (first_such_none (λ l. is_target (core.view n) l && not (test l)) 0 8 e l (omega arith) (let lt = target_leg n l t in omega (arith, lt))) t

  pub none_degraded : (n : ℕ) → first_such (is_degraded (core.view n)) 0 8 ≡ None → (l : ℕ) → is_degraded (core.view n) l ≡ false
  none_degraded n e l = elim (cases_lt l 8) [
    | inl lt ↦ first_such_none (is_degraded (core.view n)) 0 8 e l (omega arith) (omega (arith, lt))
    | inr past ↦
        let legs = p.known.range.legs.sizes_fit.legs.1 in
        spare_degraded ((core.view n).role l) ((p.known.range.legs.views n).roles l (omega (arith, past, legs)))
  ]

  -- a live node is one of the nodes
  pub live_node : (n : ℕ) → is_out (core.state n) ≡ false → n < 16
  live_node n e = let lt = p.known.rounded.numbered.below n e in let le = p.known.rounded.numbered.nodes in omega (arith, lt, le)

  pub up_node : (n : ℕ) → is_up (core.state n) ≡ true → n < nodes_of (sizes core)
  up_node n up = p.known.rounded.numbered.below n (grind arith)

  pub works_leg : (n l : ℕ) → works (core.view n) l ≡ true → l < (sizes core).legs
  works_leg n l e = elim (cases_lt l (sizes core).legs) [
    | inl lt ↦ lt
    | inr past ↦ absurd (working_not_spare ((core.view n).role l) ((p.known.range.legs.views n).roles l past) (first_true (is_working ((core.view n).role l)) (not ((core.view n).lost l)) e))
  ]
