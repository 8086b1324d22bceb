-- What is promised at each place of a run, whichever legs failed and whoever died before.
use Rattle.std.specs.Prelude.{◌≡◌, ℕ, ◌<◌, List, Some, None}
use Rattle.mdc_types.specs.declared.events.Event.TheVariants.{Recovered}
use Rattle.mdc_types.specs.declared.events.Wish.TheVariants.{Work}
use Rattle.mdc_types.specs.declared.numbers.Sector.{Sector}
use Rattle.mdc_types.specs.declared.outcomes.Entry.{Entry}
use Rattle.cluster_model.specs.Recovered.{RecoveredEqual}
use Rattle.cluster_model.specs.State.{State, Offer, sizes}
use Rattle.cluster_model.specs.Served.{NoTrustedLegIsStale, Shut, Intent, Missed}
use Rattle.cluster_model.specs.Size.{Size}
use Rattle.cluster_model.specs.Table.{refusal}
use Rattle.laws_recovery.specs.Laws.{Holds}

-- while a node offers that leg l is to work, up to the end of that round: the leg holds one of the
-- values at each sector
abbrev pub Promoted : State → (ℕ → List Sector) → Type 0
Promoted here values = (n l s : ℕ) (o : Offer) → here.core.offer n ≡ Some o → o.wish ≡ Work l
    → s < (sizes here.core).room → Holds here values l s

-- where node n may end the recovery of a slot: each chunk that it found there, or that the slot had
-- marked when it became pending, is equal on all legs that it reads from, save under later open
-- writes
abbrev pub Recovers : State → List Entry → State → Type 0
Recovers start past here =
    (n : ℕ) → refusal here.core (Recovered n) ≡ None → RecoveredEqual start past here n

-- At the place `here`, after these entries. `values` has for each sector what a read may give.
pub record Promises (values : ℕ → List Sector) (start : State) (past : List Entry) (here : State)
    : Type 0 where
  -- each leg that a node reads from, or may come to read from, has one of the values
  pub fresh : NoTrustedLegIsStale here values
  -- a leg that an up node doesn't write, and whose loss all know of, is read by nobody
  pub shut : Shut here
  -- a sector that isn't decided has its chunk marked, where the recovery finds it
  pub intent : Intent here values
  -- and so has a sector that a faulty leg missed
  pub missed : Missed here values
  -- a leg isn't made to work before it has one of the values everywhere
  pub promoted : Promoted here values
  -- what a dead node left is equal on all legs again where its recovery ends
  pub recovered : Recovers start past here
  -- no node that is in falls behind a size that an up node was sure of
  pub size : Size start past here
