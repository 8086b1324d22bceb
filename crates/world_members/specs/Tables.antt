-- Tables by node, as functions.
use Rattle.std.specs.Prelude.{ℕ, List, [], get_or, Option}
use Rattle.mdc_types.specs.declared.numbers.Range.{Range}
use Rattle.msg_rounds.specs.Phases.{Receiving, new_receiving}
use Rattle.msg_rounds.specs.declared.phases.SenderPhase.{SenderPhase}
use Rattle.msg_rounds.specs.declared.phases.SenderPhase.TheVariants.{Idle}
use Rattle.suspend_ranges.specs.Suspended.{ranges_of}
use Rattle.cluster_model.specs.State.{Tried}
use Rattle.world_state.specs.declared.attempt.Attempt.{Attempt}
use Rattle.world_members.specs.Tries.{tries_of}

abbrev pub senders_of : List SenderPhase → ℕ → SenderPhase
senders_of senders n = get_or senders n Idle

abbrev pub receivers_of : List Receiving → ℕ → Receiving
receivers_of receivers n = get_or receivers n new_receiving

abbrev pub heads_of : List (List ℕ) → ℕ → ℕ → ℕ
heads_of heads n l = get_or (get_or heads n []) l 0

abbrev pub all_tries : List (List Attempt) → ℕ → ℕ → Tried
all_tries tried n = tries_of (get_or tried n [])

abbrev pub suspended_of : List (List (Option Range)) → ℕ → ℕ → Option Range
suspended_of lists n = ranges_of (get_or lists n [])
