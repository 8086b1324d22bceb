-- Tables by node, as functions of the node, and the guards of one lock.
use Rattle.std.specs.Prelude.{ℕ, ◌==◌, ◌&&◌, if◌then◌else◌, List, [], ◌∷◌, Option, get_or}
use Rattle.dlm_space.specs.Locks.{Lock}
use Rattle.dlm_space.specs.Queues.{head}
use Rattle.mdc_types.specs.declared.numbers.Range.{Range}
use Rattle.mdc_types.specs.declared.refusals.Refusal.{Refusal}
use Rattle.mdc_types.specs.declared.refusals.Refusal.TheVariants.{NothingAsked}
use Rattle.mdc_types.specs.declared.resources.Res.{Res}
use Rattle.msg_rounds.specs.Phases.{Receiving, new_receiving}
use Rattle.msg_rounds.specs.declared.phases.SenderPhase.{SenderPhase}
use Rattle.msg_rounds.specs.declared.phases.SenderPhase.TheVariants.{Idle}
use Rattle.suspend_ranges.specs.Suspended.{ranges_of, entry_of}
use Rattle.cluster_model.specs.Guards.{found_or}
use Rattle.cluster_model.specs.Granting.{not_grantable}

abbrev pub senders_of : List SenderPhase → ℕ → SenderPhase
senders_of senders n = get_or senders n Idle

abbrev pub receivers_of : List Receiving → ℕ → Receiving
receivers_of receivers n = get_or receivers n new_receiving

-- by node and owner
abbrev pub suspended_of : List (List (Option Range)) → ℕ → ℕ → Option Range
suspended_of suspended n = ranges_of (get_or suspended n [])

-- the node's range is r, in its own list
abbrev pub suspended_with : (ℕ → ℕ → Option Range) → ℕ → Range → ℕ → ℕ → Option Range
suspended_with suspended n r m owner =
    if (m == n) && (owner == n) then entry_of r else suspended m owner

-- somebody waits for the resource, and no holder disagrees
abbrev pub serve_guards : Lock → Res → List (Option Refusal)
serve_guards lock res =
    found_or (head lock.conversions lock.requests) (NothingAsked res)
    ∷ not_grantable lock (head lock.conversions lock.requests) ∷ []
