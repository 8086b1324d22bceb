-- A pass is under a held turn, and pending slots are those of nodes: what each way keeps.
use Rattle.std.proofs.Common.{◌≡◌, ℕ, ◌<◌, Bool, true, false, Option, Some, None, refl}
use Rattle.std.specs.Prelude.{is_some, option_map}
use Rattle.dlm_modes.specs.Points.{with_at}
use Rattle.resync_worker.specs.Copying.{Passing, restarted}
use Rattle.cluster_model.specs.State.{Copy, Turn, NotAsked, Held}
use Rattle.cluster_model.specs.Changes.{no_copy, window_closed}
use Rattle.laws_sound.proofs.Points.{at_one}
use Rattle.storage_ways.proofs.Parts.{Part, has_pass}
use Rattle.storage_ways.proofs.Sound.{Sound}
use Rattle.storage_ways.proofs.Ways as ways
use Rattle.storage_ways.proofs.Ways.{Way, Ways}

abbrev pub PassHeld : Part → Type 0
PassHeld w = (n : ℕ) → has_pass (w.copy n) ≡ true → (w.copy n).turn ≡ Held

abbrev pub SlotsBelow : Part → Type 0
SlotsBelow w = (d : ℕ) → w.pending d ≡ true → d < 16

pub record Kept (w : Part) : Type 0 where
  pub pass : PassHeld w
  pub slots : SlotsBelow w

mapped : (f : Passing → Passing) (x : Option Passing) → is_some (option_map f x) ≡ true → is_some x ≡ true
mapped f None e = cc
mapped f (Some q) e = refl

not_both : (t : Turn) → t ≡ NotAsked → t ≡ Held → ⊥
not_both t e f = cc

-- a copy with a pass that comes from one
kept_at : (w : Part) (n : ℕ) (c : Copy) → Sound w → (has_pass c ≡ true → c.turn ≡ Held) → (m : ℕ) → has_pass (with_at w.copy n c m) ≡ true → (with_at w.copy n c m).turn ≡ Held
kept_at w n c s new = at_one (λ m (x : Copy). has_pass x ≡ true → x.turn ≡ Held) w.copy n c s.turns.pass new

mapped_at : (w : Part) (n : ℕ) (f : Passing → Passing) → Sound w → has_pass (record (w.copy n) { pass = option_map f (w.copy n).pass }) ≡ true → (w.copy n).turn ≡ Held
mapped_at w n f s e = s.turns.pass n (mapped f (w.copy n).pass e)

none_kept : (w : Part) (n : ℕ) → Sound w → (m : ℕ) → has_pass (with_at w.copy n no_copy m) ≡ true → (with_at w.copy n no_copy m).turn ≡ Held
none_kept w n s = kept_at w n no_copy s (λ e. cc)

pass_held : (w v : Part) → Way w v → Sound w → PassHeld v
pass_held w v (ways.shuts n r o told i t) s = kept_at w n (window_closed (w.copy n)) s (mapped_at w n restarted s)
pass_held w v (ways.opens n r o i e) s = kept_at w n _ s (s.turns.pass n)
pass_held w v (ways.finishes n o i e) s = kept_at w n _ s (λ h. mapped_at w n _ s h)
pass_held w v (ways.hears_roles n roles size o i e f) s = kept_at w n _ s (λ h. mapped_at w n _ s h)
pass_held w v (ways.comes n k says lost ranges i) s = kept_at w n _ s (λ h. mapped_at w n _ s h)
pass_held w v (ways.leaves n i) s = none_kept w n s
pass_held w v (ways.quits n i) s = none_kept w n s
pass_held w v (ways.parts n o i) s = none_kept w n s
pass_held w v (ways.dies n told i) s = none_kept w n s
pass_held w v (ways.turns n up none i) s = kept_at w n _ s (λ e. absurd (not_both (w.copy n).turn none (s.turns.pass n e)))
pass_held w v (ways.holds_turn n up asked free) s = kept_at w n _ s (λ e. refl)
pass_held w v (ways.passes_own n i) s = kept_at w n _ s (λ e. i.turn)
pass_held w v (ways.passes_full n i) s = kept_at w n _ s (λ e. i.turn)
pass_held w v (ways.passes_again n l i) s = kept_at w n _ s (λ e. i.passes.turn)
pass_held w v (ways.fills n t l u p r i) s = kept_at w n _ s (λ h. mapped_at w n _ s h)
pass_held w v (ways.copies n l p b i) s = kept_at w n _ s (λ h. mapped_at w n _ s h)
pass_held w v (ways.settles n p b i) s = kept_at w n _ s (λ h. mapped_at w n _ s h)
pass_held w v (ways.ends_pass n i) s = none_kept w n s
pass_held w v x s = s.turns.pass

below_at : (w : Part) (n : ℕ) (b : Bool) → Sound w → (b ≡ true → n < 16) → (d : ℕ) → with_at w.pending n b d ≡ true → d < 16
below_at w n b s new = at_one (λ d t. t ≡ true → d < 16) w.pending n b s.phases.slots new

slots_below : (w v : Part) → Way w v → Sound w → SlotsBelow v
slots_below w v (ways.leaves n i) s = below_at w n false s (λ e. cc)
slots_below w v (ways.quits n i) s = below_at w n false s (λ e. cc)
slots_below w v (ways.parts n o i) s = below_at w n true s (λ e. i.going.node)
slots_below w v (ways.dies n told i) s = below_at w n true s (λ e. i.node)
slots_below w v (ways.ends_recovery n r i) s = below_at w r.slot false s (λ e. cc)
slots_below w v x s = s.phases.slots

pub kept_ways : (w v : Part) → Ways w v → Kept w → Kept v
kept_ways w v ways.none k = k
kept_ways w v (ways.more {u = u} xs s x) k = record { pass = pass_held u v x s; slots = slots_below u v x s }
