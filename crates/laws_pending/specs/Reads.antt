-- What reads give while a slot waits for its recovery, along each run over legs that tell their
-- contents.
use Rattle.std.specs.Prelude.{◌≡◌, ℕ, ◌<◌, ◌==◌, Bool, true, false, List, [], ◌∷◌, ◌++◌, Option, Some, None}
use Rattle.mdc_types.specs.declared.events.Event.{Event}
use Rattle.mdc_types.specs.declared.events.Event.TheVariants.{Out, CopyOut}
use Rattle.mdc_types.specs.declared.numbers.Sector.{Sector}
use Rattle.mdc_types.specs.declared.outcomes.Entry.{Entry}
use Rattle.leg_failure.specs.Views.{works}
use Rattle.mirror_io.specs.Flight.{write_in}
use Rattle.plain_history.specs.Seen.{Gives}
use Rattle.cluster_model.specs.Copying.{buffer_of, buffer_sector}
use Rattle.cluster_model.specs.Run.{Run, Step}
use Rattle.cluster_model.specs.State.{State, Core}
use Rattle.cluster_model.specs.Writes.{write_sector}
use Rattle.laws_writes.specs.Laws.{Always}

-- after these entries, at this place, x gives v for a read of sector s, while some slot is pending
pub record PendingRead (past : List Entry) (place : State) (x : Entry) (after : State) (s : ℕ) (v : Sector) : Type 0 where
  pub gives : Gives past x s v
  pub step : Step place x.event x.outcome after
  pub slot : ℕ
  pub pending : place.core.members.pending slot ≡ true

-- the leg works for the node, and no lower one does
pub record IsFirstLeg (core : Core) (n l : ℕ) : Type 0 where
  pub chosen : works (core.view n) l ≡ true
  pub first : (k : ℕ) → k < l → works (core.view n) k ≡ false

-- each such read is of the node's first leg
abbrev pub RunsReadTheFirstLeg : Type 0
RunsReadTheFirstLeg = Always
    (λ o start past place. (x : Entry) (after : State) (s : ℕ) (v : Sector)
    (read : PendingRead past place x after s v)
    → IsFirstLeg place.core read.gives.node read.gives.leg)

-- Two such reads.

abbrev pub is_at : ℕ → Option ℕ → Bool
is_at s None = false
is_at s (Some t) = t == s

-- the event sends sector s to a leg, whatever comes of it: of a write, or of a copy
abbrev pub sends : Core → Event → ℕ → Bool
sends core (Out n k l) s = is_at s (write_sector (write_in k (core.writes n)))
sends core (CopyOut n l) s = is_at s (buffer_sector (buffer_of core n))
sends core e s = false

-- no entry of the run does
abbrev pub IsLeftAlone : ℕ → (start : State) (past : List Entry) (end : State) → Run start past end → Type 0
IsLeftAlone s start [] end run = Unit {0}
IsLeftAlone s start (x ∷ past) end run =
    IsLeftAlone s start past run.0 run.1 × (sends run.0.core x.event s ≡ false)

-- of one sector, by nodes that read from the same legs, with nothing sent there between: they give
-- the same
abbrev pub ReadsAgree : List Entry → State → Type 0
ReadsAgree past place =
    (x y : Entry) (after last end : State) (between : List Entry) (s : ℕ) (u v : Sector)
    (first : PendingRead past place x after s u) (run : Run after between last)
    (second : PendingRead (between ++ x ∷ past) last y end s v)
    → ((l : ℕ) → works (place.core.view first.gives.node) l
    ≡ works (last.core.view second.gives.node) l)
    → IsLeftAlone s after between last run → u ≡ v

abbrev pub RunsReadAlike : Type 0
RunsReadAlike = Always (λ o start past place. ReadsAgree past place)
