-- The outcomes of events that transfer nothing, and of those whose transfer succeeds.
use Rattle.std.specs.Prelude.{ℕ, Option, Some, None}
use Rattle.mdc_types.specs.declared.numbers.Sector.{Sector}
use Rattle.mdc_types.specs.declared.events.Event.{Event}
use Rattle.mdc_types.specs.declared.events.Event.TheVariants.{Grant, Load, Offer, Take, Resume}
use Rattle.mdc_types.specs.declared.events.Event.TheVariants.{AskWrite, AskRead, In, CopyIn}
use Rattle.mdc_types.specs.declared.events.Event.TheVariants.{Settle}
use Rattle.mdc_types.specs.declared.outcomes.Outcome.{Outcome}
use Rattle.mdc_types.specs.declared.outcomes.Outcome.TheVariants.{Done, Write, Read, Value}
use Rattle.mdc_types.specs.declared.outcomes.Outcome.TheVariants.{Granted, Super, Unread, Page}
use Rattle.dlm_space.specs.declared.ask.Ask.{Ask}
use Rattle.md_superblock.specs.Arrays.{Says, says_in}
use Rattle.cluster_model.specs.State.{Core}
use Rattle.cluster_model.specs.Granting.{asker}
use Rattle.cluster_model.specs.Wishes.{offer_outcome}
use Rattle.cluster_model.specs.Receiving.{take_outcome, resume_outcome}
use Rattle.cluster_model.specs.Copying.{settle_outcome}
use Rattle.cluster_model.specs.Transfers.{Transfer}

abbrev pub granted_to : Option Ask → Outcome
granted_to None = Done
granted_to (Some a) = Granted a.node a.mode

-- of an event without a transfer, and of a write that succeeds
abbrev pub outcome_of : Core → Event → Outcome
outcome_of core (Grant res) = granted_to (asker core res)
outcome_of core (Offer n wish) = offer_outcome core wish
outcome_of core (Take n) = take_outcome core n
outcome_of core (Resume n) = resume_outcome core n
outcome_of core (AskWrite n s v) = Write (core.writes_made n)
outcome_of core (AskRead n s) = Read (core.reads_made n)
outcome_of core (Settle n) = settle_outcome core n
outcome_of core e = Done

abbrev pub load_outcome : ℕ → Sector → Option Says → Outcome
load_outcome l v None = Unread l
load_outcome l v (Some says) = Super says.events v

-- of an event that read v
abbrev pub outcome_read : Core → Event → Transfer → Sector → Outcome
outcome_read core (Load n l) t v = load_outcome l v (says_in core.array l v.bytes)
outcome_read core (In n k) t v = Value t.leg v
outcome_read core (CopyIn n) t v = Value t.leg v
outcome_read core e t v = Page v
