-- What recoveries have taken from the slot of a node that is gone: an heir of the slot marks it.
use Rattle.std.specs.Prelude.{◌≡◌, ◌⊎◌, ℕ, ◌<◌, ◌==◌, Bool, true, false, ◌&&◌, List, [], ◌∷◌, ◌++◌, Option, Some, None}
use Rattle.mdc_types.specs.Geometry.{Sizes, chunk_of}
use Rattle.mdc_types.specs.declared.events.Event.{Event}
use Rattle.mdc_types.specs.declared.events.Event.TheVariants.{SlotOut}
use Rattle.mdc_types.specs.declared.outcomes.Entry.{Entry}
use Rattle.node_member.specs.Members.{Members}
use Rattle.node_recovery.specs.Progress.{Recovering}
use Rattle.plain_history.specs.Seen.{Settles}
use Rattle.cluster_model.specs.Recovered.{Pended, slot_in, found_in}
use Rattle.cluster_model.specs.Served.{Trusted, Marked}
use Rattle.cluster_model.specs.State.{State, sizes}
use Rattle.laws_writes.specs.Laws.{Always}

-- node k is of the line of heirs of slot d: the slot's heir, the heir of that one's slot, and so on
pub data InLine (members : Members) : ℕ → ℕ → Type 0 where
  first : {d k : ℕ} → members.heir d ≡ Some k → InLine members d k
  further : {d e k : ℕ} → members.heir d ≡ Some e → InLine members e k → InLine members d k

-- What entries tell, the newest first.

abbrev pub is_slot : ℕ → Option ℕ → Bool
is_slot d None = false
is_slot d (Some k) = k == d

-- after these entries, a recovery of slot d that has found the chunk there cleans a page of the slot,
-- or tries to
abbrev pub takes : Sizes → ℕ → ℕ → List Entry → Event → Bool
takes g d c past (SlotOut n p l) = is_slot d (slot_in n past) && found_in g n past c
takes g d c past e = false

-- one of the later entries does, which stand after the past ones
abbrev pub TakenSince : Sizes → List Entry → List Entry → ℕ → ℕ → Type 0
TakenSince g [] past d c = ⊥
TakenSince g (x ∷ later) past d c =
    (takes g d c (later ++ past) x.event ≡ true) ⊎ TakenSince g later past d c

-- one of the entries settles the sector
abbrev pub SettledIn : List Entry → ℕ → Type 0
SettledIn [] s = ⊥
SettledIn (x ∷ later) s = Settles x s ⊎ SettledIn later s

-- some slot of the line of heirs marks the chunk on each leg that may be read
pub record HeirMarks (state : State) (d c : ℕ) : Type 0 where
  pub heir : ℕ
  pub line : InLine state.core.members d heir
  pub marked : (l : ℕ) → l < (sizes state.core).legs → Trusted state l → Marked state heir c l

pub record HeirsHold (start : State) (past : List Entry) (end : State) : Type 0 where
  -- each chunk that was taken from a slot since that is pending is marked by an heir, or each of its
  -- sectors was settled since
  pub taken : (d c : ℕ) (before later : List Entry) (pended : Pended start before later end d)
      → end.core.members.pending d ≡ true → past ≡ later ++ before
      → TakenSince (sizes end.core) later before d c
      → HeirMarks end d c
      ⊎ ((s : ℕ) → s < (sizes end.core).room → chunk_of (sizes end.core) s ≡ c → SettledIn later s)
  -- a node whose slot became pending while it recovered another is the heir of that, as long as its
  -- own is pending
  pub dead_recoverer : (n : ℕ) (x : Entry) (before later : List Entry)
      (pended : Pended start (x ∷ before) later end n) (r : Recovering)
      → end.core.members.pending n ≡ true → past ≡ later ++ x ∷ before
      → pended.place.before.0.core.recovery n ≡ Some r → end.core.members.heir r.slot ≡ Some n

abbrev pub RunsKeepHeirs : Type 0
RunsKeepHeirs = Always (λ o start past end. HeirsHold start past end)
