-- Who isn't up has nothing in flight, copies and recovers nothing, and has no marks of its own.
use Rattle.std.specs.Prelude.{◌≡◌, ℕ, true, false, [], None}
use Rattle.msg_rounds.specs.Phases.{has_published}
use Rattle.cluster_model.specs.State.{Core}
use Rattle.cluster_model.specs.Phases.{is_up, is_unclean, offers}
use Rattle.cluster_model.specs.Changes.{no_copy}

pub record Empty (core : Core) (n : ℕ) : Type 0 where
  pub writes : core.writes n ≡ []
  pub reads : core.reads n ≡ []
  pub copy : core.copy n ≡ no_copy
  pub recovery : core.recovery n ≡ None
  pub set : (c : ℕ) → (core.bitmap n).set c ≡ false
  pub need : (c : ℕ) → (core.bitmap n).need c ≡ false

-- who has published that it leaves unclean has nothing in flight
pub record Drained (core : Core) (n : ℕ) : Type 0 where
  pub writes : core.writes n ≡ []
  pub reads : core.reads n ≡ []

pub record UpOnly (core : Core) : Type 0 where
  pub empty : (n : ℕ) → is_up (core.state n) ≡ false → Empty core n
  pub drained : (n : ℕ) → has_published (core.sender n) ≡ true
      → offers is_unclean (core.offer n) ≡ true → Drained core n
