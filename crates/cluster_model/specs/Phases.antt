-- The phases of a node's parts, and what a row needs of them.
use Rattle.std.specs.Prelude.{ℕ, Bool, true, false, Option, Some, None}
use Rattle.dlm_modes.specs.Guards.{unless}
use Rattle.mdc_types.specs.Roles.{state_word}
use Rattle.mdc_types.specs.declared.events.Wish.{Wish}
use Rattle.mdc_types.specs.declared.events.Wish.TheVariants as wishes
use Rattle.mdc_types.specs.declared.numbers.Range.{Range}
use Rattle.mdc_types.specs.declared.refusals.Refusal.{Refusal}
use Rattle.mdc_types.specs.declared.refusals.Refusal.TheVariants.{NotPhase, ReceiverBusy}
use Rattle.mdc_types.specs.declared.refusals.Part.TheVariants as parts
use Rattle.mdc_types.specs.declared.refusals.Word.{Word}
use Rattle.mdc_types.specs.declared.refusals.Word.TheVariants as words
use Rattle.mdc_types.specs.declared.roles.NodeState.{NodeState}
use Rattle.mdc_types.specs.declared.roles.NodeState.TheVariants as states
use Rattle.msg_rounds.specs.Phases.{sender_word, receiver_word, is_idle}
use Rattle.resync_worker.specs.Copying.{Passing}
use Rattle.resync_worker.specs.declared.buffer.Buffer.{Buffer}
use Rattle.node_recovery.specs.Progress.{Recovering}
use Rattle.disk_addition.specs.Additions.{word_of}
use Rattle.cluster_model.specs.State.{Core, Copy, Offer, Turn, NotAsked, Asked, Held}

-- States.

abbrev pub is_up : NodeState → Bool
is_up states.Up = true
is_up s = false

abbrev pub is_joining : NodeState → Bool
is_joining states.Joining = true
is_joining s = false

-- loaded or up
abbrev pub is_in : NodeState → Bool
is_in states.Loaded = true
is_in states.Up = true
is_in s = false

abbrev pub state_is : Core → ℕ → (NodeState → Bool) → Option Refusal
state_is core n test =
    unless (test (core.state n)) (NotPhase parts.State (state_word (core.state n)))

abbrev pub needs_up : Core → ℕ → Option Refusal
needs_up core n = state_is core n is_up

-- Senders and receivers.

abbrev pub sender_is : Core → ℕ → Bool → Option Refusal
sender_is core n right = unless right (NotPhase parts.Sender (sender_word (core.sender n)))

abbrev pub receiver_is : Core → ℕ → Bool → Option Refusal
receiver_is core n right =
    unless right (NotPhase parts.Receiver (receiver_word (core.receiver n).phase))

abbrev pub receiver_busy : Core → ℕ → Option Refusal
receiver_busy core n =
    unless (is_idle (core.receiver n).phase) (ReceiverBusy (receiver_word (core.receiver n).phase))

-- the round changes the superblock
abbrev pub is_metadata : Wish → Bool
is_metadata wishes.Meta = true
is_metadata (wishes.Spare l) = true
is_metadata (wishes.Rebuild l) = true
is_metadata (wishes.Work l) = true
is_metadata (wishes.Grow z) = true
is_metadata wish = false

abbrev pub is_unclean : Wish → Bool
is_unclean wishes.Unclean = true
is_unclean wish = false

-- there is an offer, and its wish is of that kind
abbrev pub offers : (Wish → Bool) → Option Offer → Bool
offers test None = false
offers test (Some o) = test o.wish

-- Copying.

abbrev pub window_word : Option Range → Word
window_word None = words.Pass
window_word (Some r) = words.Window

abbrev pub buffer_word : Option Buffer → Option Range → Word
buffer_word None window = window_word window
buffer_word (Some b) window = words.Buffer

abbrev pub pass_word : Option Passing → Option Range → Word
pass_word None window = words.Held
pass_word (Some p) window = buffer_word p.buffer window

abbrev pub turn_word : Turn → Option Passing → Option Range → Word
turn_word NotAsked pass window = words.Nothing
turn_word Asked pass window = words.Asked
turn_word Held pass window = pass_word pass window

abbrev pub copy_word : Copy → Word
copy_word c = turn_word c.turn c.pass c.window

-- nothing of copying
abbrev pub is_none : Word → Bool
is_none words.Nothing = true
is_none w = false

-- the lock alone
abbrev pub is_held : Word → Bool
is_held words.Held = true
is_held w = false

-- an open window without a buffer
abbrev pub is_window : Word → Bool
is_window words.Window = true
is_window w = false

abbrev pub is_buffer : Word → Bool
is_buffer words.Buffer = true
is_buffer w = false

-- a pass, with or without a window
abbrev pub has_pass : Word → Bool
has_pass words.Pass = true
has_pass words.Window = true
has_pass words.Buffer = true
has_pass w = false

-- the lock, with or without a pass
abbrev pub has_lock : Word → Bool
has_lock words.Held = true
has_lock w = has_pass w

abbrev pub copy_is : Core → ℕ → (Word → Bool) → Option Refusal
copy_is core n test =
    unless (test (copy_word (core.copy n))) (NotPhase parts.Copy (copy_word (core.copy n)))

-- Recoveries and additions.

abbrev pub recovery_word : Option Recovering → Word
recovery_word None = words.Nothing
recovery_word (Some r) = words.Open

abbrev pub is_open : Word → Bool
is_open words.Open = true
is_open w = false

abbrev pub recovery_is : Core → ℕ → (Word → Bool) → Option Refusal
recovery_is core n test =
    unless (test (recovery_word (core.recovery n)))
    (NotPhase parts.Recovery (recovery_word (core.recovery n)))

abbrev pub addition_is : Core → ℕ → Bool → Option Refusal
addition_is core n right =
    unless right (NotPhase parts.Addition (word_of (core.adding n).addition))
