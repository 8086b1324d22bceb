-- What a phase's word tells.
use Rattle.std.proofs.Common.{◌≡◌, true, false, Option, Some, None, refl}
use Rattle.mdc_types.specs.declared.numbers.Range.{Range}
use Rattle.node_recovery.specs.Progress.{Recovering}
use Rattle.resync_worker.specs.Copying.{Passing}
use Rattle.resync_worker.specs.declared.buffer.Buffer.{Buffer}
use Rattle.cluster_model.specs.State.{Turn, NotAsked, Asked, Held}
use Rattle.cluster_model.specs.Phases.{turn_word, pass_word, buffer_word, window_word, recovery_word, is_none, is_held, has_lock}

window_some : (w : Option Range) → is_none (window_word w) ≡ false
window_some None = refl
window_some (Some r) = refl

pass_some : (p : Option Passing) (w : Option Range) → is_none (pass_word p w) ≡ false
pass_some None w = refl
pass_some (Some p) w = by_buffer p.buffer
  where
    by_buffer : (b : Option Buffer) → is_none (buffer_word b w) ≡ false
    by_buffer None = window_some w
    by_buffer (Some b) = refl

pub no_turn : (t : Turn) (p : Option Passing) (w : Option Range) → is_none (turn_word t p w) ≡ true → t ≡ NotAsked
no_turn NotAsked p w e = refl
no_turn Asked p w e = cc
no_turn Held p w e = let no = pass_some p w in cc

pub lock_held : (t : Turn) (p : Option Passing) (w : Option Range) → has_lock (turn_word t p w) ≡ true → t ≡ Held
lock_held NotAsked p w e = cc
lock_held Asked p w e = cc
lock_held Held p w e = refl

pub turn_held_is : (t : Turn) (p : Option Passing) (w : Option Range) → is_held (turn_word t p w) ≡ true → t ≡ Held
turn_held_is NotAsked p w e = cc
turn_held_is Asked p w e = cc
turn_held_is Held p w e = refl

pub no_recovery : (r : Option Recovering) → is_none (recovery_word r) ≡ true → r ≡ None
no_recovery None e = refl
no_recovery (Some r) e = cc
