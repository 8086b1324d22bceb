-- What a joining node has of the superblocks of the legs, as it lies in memory.
use Rattle.std.specs.Prelude.{ℕ, Bool, not, ◌&&◌, is_some, List, get_or}
use Rattle.mdc_types.specs.Roles.{role_of, is_written}
use Rattle.mdc_types.specs.declared.roles.Roles.{Roles}
use Rattle.cluster_model.specs.Joining.{says_of}
use Rattle.cluster_model.specs.State.{Tried}
use Rattle.world_state.specs.Kept.{tried_of}
use Rattle.world_state.specs.declared.attempt.Attempt.{Attempt}
use Rattle.world_state.specs.declared.attempt.Attempt.TheVariants.{Untried}

-- by leg
abbrev pub tries_of : List Attempt → ℕ → Tried
tries_of tried l = tried_of (get_or tried l Untried)

-- the roles want the leg written, and its superblock wasn't read
abbrev pub is_lost_leg : (ℕ → Tried) → Roles → ℕ → Bool
is_lost_leg tried roles l = is_written (role_of roles l) && not (is_some (says_of (tried l)))
