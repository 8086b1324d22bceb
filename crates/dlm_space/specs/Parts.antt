-- What a lock space keeps of its resources, as plain data, and the locks that it stands for.
use Rattle.std.specs.Prelude.{◌≡◌, ℕ, ◌≤◌, length, slice_index_or, Bool, true, List, [], Option, None}
use Rattle.dlm_modes.specs.declared.block.Block.{Block}
use Rattle.dlm_modes.specs.declared.mode.Mode.{Mode}
use Rattle.dlm_space.specs.Queues.{asks_of}
use Rattle.dlm_space.specs.Locks.{Lock, zero_block}
use Rattle.dlm_space.specs.declared.ask.Ask.{Ask}

pub record Part : Type 0 where
  -- by node
  pub held : List (Option Mode)
  pub conversions : List Ask
  pub requests : List Ask
  pub block : Block
  pub valid : Bool

abbrev pub lock_of : Part → Lock
lock_of p = record {
  held = λ n. slice_index_or p.held n None;
  conversions = p.conversions;
  requests = p.requests;
  block = p.block;
  valid = p.valid;
}

-- a resource that isn't there
abbrev pub no_part : Part
no_part = record { held = []; conversions = []; requests = []; block = zero_block; valid = true }

-- the locks of all resources, by number
abbrev pub locks_of : List Part → ℕ → Lock
locks_of parts r = lock_of (slice_index_or parts r no_part)

-- a queue of nodes below 16, in which each asks once at most
pub record IsQueue (queue : List Ask) : Type 0 where
  pub nodes : (n : ℕ) → 16 ≤ n → asks_of n queue ≡ []
  pub once : (n : ℕ) → length (asks_of n queue) ≤ 1
