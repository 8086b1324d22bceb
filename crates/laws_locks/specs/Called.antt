-- The calls on the lock space that a run makes: each member's at the opening, and then each
-- row's, the newest first.
use Rattle.std.specs.Prelude.{ℕ, zero, suc, Bool, is_none, is_some, if◌then◌else◌, List, [], ◌∷◌, ◌++◌, Option, Some, None}
use Rattle.dlm_modes.specs.declared.mode.Mode.TheVariants.{CR, PW, EX}
use Rattle.dlm_space.specs.Locks.{Lock, zero_block, valid_block, grant_answer}
use Rattle.dlm_space.specs.Calls.{Call, Asks, AsksNow, Converts, ConvertsNow, Grants, Releases, Dies}
use Rattle.dlm_space.specs.Releasing.{releases_of}
use Rattle.dlm_space.specs.declared.answers.Converted.TheVariants.{Now}
use Rattle.dlm_space.specs.declared.answers.Granted.{Granted}
use Rattle.dlm_space.specs.declared.ask.Ask.{Ask}
use Rattle.cluster_msgs.specs.Ranges.{spelled_range}
use Rattle.cluster_msgs.specs.declared.msg.Body.{Body}
use Rattle.cluster_msgs.specs.declared.msg.Body.TheVariants as bodies
use Rattle.cluster_msgs.specs.declared.msg.Msg.{Msg}
use Rattle.mdc_types.specs.Resources.{number_of}
use Rattle.mdc_types.specs.declared.events.Event.{Event}
use Rattle.mdc_types.specs.declared.events.Event.TheVariants as events
use Rattle.mdc_types.specs.declared.events.Wish.{Wish}
use Rattle.mdc_types.specs.declared.events.Wish.TheVariants as wishes
use Rattle.mdc_types.specs.declared.outcomes.Entry.{Entry}
use Rattle.mdc_types.specs.declared.outcomes.Outcome.{Outcome}
use Rattle.mdc_types.specs.declared.outcomes.Outcome.TheVariants as outcomes
use Rattle.mdc_types.specs.declared.roles.NodeState.{NodeState}
use Rattle.mdc_types.specs.declared.roles.NodeState.TheVariants as states
use Rattle.msg_rounds.specs.Locks.{token_res, ack_res, published, finished, quitted}
use Rattle.msg_rounds.specs.Made.{token_ask, message_ask, publishing, finishing, quitting, taking, processing, resuming, dropping}
use Rattle.msg_rounds.specs.Refusals.{is_ex}
use Rattle.node_recovery.specs.Progress.{Recovering}
use Rattle.cluster_model.specs.State.{Core, Offer}
use Rattle.cluster_model.specs.Changes.{no_new_dev, resync_res}
use Rattle.cluster_model.specs.Granting.{asker}
use Rattle.cluster_model.specs.Publishing.{block_of}
use Rattle.cluster_model.specs.Opening.{Origin, is_member}
use Rattle.laws_locks.specs.Following.{core_after}

-- `no-new-dev`

-- from EX to CR, where the node holds EX
abbrev pub unlocking : (ℕ → Lock) → ℕ → List Call
unlocking locks n =
    if is_ex ((locks no_new_dev).held n) then Converts n no_new_dev CR None Now ∷ [] else []

-- CR, where it holds nothing
abbrev pub keeping : (ℕ → Lock) → ℕ → List Call
keeping locks n =
    if is_none ((locks no_new_dev).held n)
    then AsksNow n no_new_dev CR (valid_block (locks no_new_dev)) ∷ []
    else []

-- who sees the new device lets go, where it holds anything
abbrev pub seeing : (ℕ → Lock) → ℕ → Bool → List Call
seeing locks n cut =
    if cut then keeping locks n
    else if is_some ((locks no_new_dev).held n) then Releases n no_new_dev None ∷ [] else []

abbrev pub locking : (ℕ → Lock) → ℕ → List Call
locking locks n =
    if is_none ((locks no_new_dev).held n)
    then AsksNow n no_new_dev EX (valid_block (locks no_new_dev)) ∷ []
    else ConvertsNow n no_new_dev EX ∷ []

-- Rounds.

-- a range is written with the node's own bitmap lock
abbrev pub ranging : ℕ → Wish → List Call
ranging n (wishes.Range r) = Converts n n PW (Some (record { bytes = spelled_range r })) Now ∷ []
ranging n wish = []

abbrev pub publish_calls : Core → ℕ → Option Offer → List Call
publish_calls core n None = []
publish_calls core n (Some o) =
    ranging n o.wish
    ++ (unlocking (published core.locks n (block_of core n o)) n ++ publishing n (block_of core n o))

abbrev pub finish_calls : Core → ℕ → Wish → List Call
finish_calls core n wishes.Unclean = releases_of (finished core.locks n) n ++ finishing n
finish_calls core n wish = finishing n

abbrev pub finish_offer_calls : Core → ℕ → Option Offer → List Call
finish_offer_calls core n None = finishing n
finish_offer_calls core n (Some o) = finish_calls core n o.wish

abbrev pub quit_calls : Core → ℕ → NodeState → List Call
quit_calls core n states.Up =
    unlocking (quitted core.locks n (core.sender n)) n ++ quitting n (core.sender n)
quit_calls core n s = releases_of core.locks n

abbrev pub body_calls : Core → ℕ → Body → List Call
body_calls core n (bodies.Metadata events roles size) = keeping core.locks n
body_calls core n (bodies.Capacity events roles size) = keeping core.locks n
body_calls core n (bodies.NewDisk l uuid) = seeing core.locks n (core.cut n l)
body_calls core n body = []

abbrev pub message_calls : Core → ℕ → Option Msg → List Call
message_calls core n None = []
message_calls core n (Some m) = body_calls core n m.body

-- Grants and recoveries.

abbrev pub grant_calls : ℕ → Option Ask → Option Granted → List Call
grant_calls r (Some a) (Some g) = Grants r g ∷ []
grant_calls r a g = []

abbrev pub recovered_calls : ℕ → Option Recovering → List Call
recovered_calls n None = []
recovered_calls n (Some r) = Releases n r.slot None ∷ []

-- The calls of each row.

abbrev pub done_calls : Core → Event → List Call
done_calls core (events.Die n) = Dies n ∷ []
done_calls core (events.Grant res) =
    grant_calls (number_of res) (asker core res) (grant_answer (core.locks (number_of res)))
done_calls core (events.Join n) =
    Asks n token_res EX ∷ AsksNow n n PW (valid_block (core.locks n)) ∷ []
done_calls core (events.Up n) =
    AsksNow n no_new_dev CR (valid_block (core.locks no_new_dev))
    ∷ AsksNow n ack_res CR (valid_block (core.locks ack_res)) ∷ []
done_calls core (events.Leave n) = releases_of core.locks n
done_calls core (events.AskToken n) = token_ask n
done_calls core (events.AskMessage n) = message_ask n
done_calls core (events.Publish n) = publish_calls core n (core.offer n)
done_calls core (events.FinishRound n) = finish_offer_calls core n (core.offer n)
done_calls core (events.Quit n) = quit_calls core n (core.state n)
done_calls core (events.Take n) = taking core.locks n
done_calls core (events.Processed n) = processing n ++ message_calls core n (core.heard n)
done_calls core (events.Resume n) = resuming core.locks n
done_calls core (events.DropMessage n) = dropping n
done_calls core (events.AskResync n) = Asks n resync_res EX ∷ []
done_calls core (events.EndPass n) = Releases n resync_res None ∷ []
done_calls core (events.Recover n d) = AsksNow n d PW (valid_block (core.locks d)) ∷ []
done_calls core (events.Recovered n) = recovered_calls n (core.recovery n)
done_calls core (events.LockDevice n) = locking core.locks n
done_calls core e = []

-- a transfer makes no calls
abbrev pub calls_of : Core → Event → Outcome → List Call
calls_of core e (outcomes.Lost l) = []
calls_of core e (outcomes.Io l) = []
calls_of core e (outcomes.Unreached l) = []
calls_of core e o = done_calls core e

-- each member below k takes PW on its bitmap, and CR on `ack` and on `no-new-dev`, whose blocks
-- are zero
unfoldable pub opening_calls : Origin → ℕ → List Call
opening_calls o zero = []
opening_calls o (suc n) =
    if is_member o n
    then AsksNow n no_new_dev CR (Some zero_block) ∷ AsksNow n ack_res CR (Some zero_block)
    ∷ AsksNow n n PW (Some zero_block) ∷ opening_calls o n
    else opening_calls o n

abbrev pub calls_in : Origin → List Entry → List Call
calls_in o [] = opening_calls o 16
calls_in o (x ∷ past) = calls_of (core_after o past) x.event x.outcome ++ calls_in o past
