-- What holds where the recovery of a slot ends, along each run over legs that tell their contents.
use Rattle.std.specs.Prelude.{◌≡◌, ℕ, None}
use Rattle.mdc_types.specs.declared.events.Event.TheVariants.{Recovered}
use Rattle.cluster_model.specs.Recovered.{RecoveredEqual}
use Rattle.cluster_model.specs.Table.{refusal}
use Rattle.laws_writes.specs.Laws.{Always}

-- wherever a node may end its recovery
abbrev pub RunsRecoverEqual : Type 0
RunsRecoverEqual = Always
    (λ o start past end. (n : ℕ) → refusal end.core (Recovered n) ≡ None
    → RecoveredEqual start past end n)
