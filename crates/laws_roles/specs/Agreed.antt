-- The roles and the size of the last whole round that changed the superblock, at first the
-- opening's: what the nodes have agreed on.
use Rattle.std.specs.Prelude.{ℕ, if◌then◌else◌, List, [], ◌∷◌, Option, Some, None}
use Rattle.mdc_types.specs.Roles.{role_of}
use Rattle.mdc_types.specs.declared.events.Event.{Event}
use Rattle.mdc_types.specs.declared.events.Event.TheVariants.{FinishRound}
use Rattle.mdc_types.specs.declared.outcomes.Entry.{Entry}
use Rattle.mdc_types.specs.declared.roles.Role.{Role}
use Rattle.cluster_model.specs.State.{Core, Offer}
use Rattle.cluster_model.specs.Phases.{is_metadata}
use Rattle.cluster_model.specs.Opening.{Origin}
use Rattle.laws_locks.specs.Following.{core_after}

pub record Agreed : Type 0 where
  pub role : ℕ → Role
  pub size : ℕ

-- after a whole round of this offer
abbrev pub agreed_on : Agreed → Option Offer → Agreed
agreed_on a None = a
agreed_on a (Some o) =
    if is_metadata o.wish then record { role = o.role; size = o.size } else a

abbrev pub agreed_after : Core → Event → Agreed → Agreed
agreed_after core (FinishRound n) a = agreed_on a (core.offer n)
agreed_after core e a = a

-- after these entries, the newest first
abbrev pub agreed_in : Origin → List Entry → Agreed
agreed_in o [] = record { role = role_of o.roles; size = o.sizes.sectors }
agreed_in o (x ∷ past) = agreed_after (core_after o past) x.event (agreed_in o past)
