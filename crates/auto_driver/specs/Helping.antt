-- Events that help, one after another.
use Rattle.std.specs.Prelude.{◌≡◌, ◌<◌, ◌≤◌, ℕ, zero, suc, Some, None}
use Rattle.mdc_types.specs.declared.events.Event.{Event}
use Rattle.mdc_types.specs.declared.outcomes.Outcome.{Outcome}
use Rattle.driver_rules.specs.Helpers.{next_help}
use Rattle.world_state.specs.Kept.{core_of}
use Rattle.cluster_core.specs.Stands.{Stand, Makes, FindsFull}

-- the next event that helps was made
pub record Helps (old new : Stand) : Type 0 where
  pub event : Event
  pub helps : next_help (core_of old.kept) ≡ Some event
  pub outcome : Outcome
  pub makes : Makes old event outcome new

-- so many events were made, each the next that helped
abbrev pub Helped : ℕ → Stand → Stand → Type 0
Helped zero start end = end ≡ start
Helped (suc made) start end = (mid : Stand) × Helped made start mid × Helps mid end

-- at most k events were made, and fewer only where then none helps
pub record HelpedUpTo (k made : ℕ) (start end : Stand) : Type 0 where
  pub few : made ≤ k
  pub helped : Helped made start end
  pub stops : made < k → next_help (core_of end.kept) ≡ None

-- fewer than k were made
pub record HelpedBelow (k : ℕ) (start end : Stand) : Type 0 where
  pub made : ℕ
  pub few : made < k
  pub helped : Helped made start end

-- fewer than k were made, and the next that helps finds the trace full
pub record HelpedTillFull (k : ℕ) (start end : Stand) : Type 0 where
  pub below : HelpedBelow k start end
  pub event : Event
  pub helps : next_help (core_of end.kept) ≡ Some event
  pub full : FindsFull end event
