-- How a run of the mirror follows the message rounds: the rounds' events of each entry, and the
-- rounds in its core.
use Rattle.std.specs.Prelude.{◌≡◌, ℕ, List, [], ◌∷◌, Option, Some, None}
use Rattle.mdc_types.specs.declared.events.Event.{Event}
use Rattle.mdc_types.specs.declared.events.Event.TheVariants as events
use Rattle.mdc_types.specs.declared.events.Wish.{Wish}
use Rattle.mdc_types.specs.declared.events.Wish.TheVariants as wishes
use Rattle.mdc_types.specs.declared.outcomes.Outcome.{Outcome}
use Rattle.mdc_types.specs.declared.outcomes.Outcome.TheVariants as outcomes
use Rattle.mdc_types.specs.declared.outcomes.Entry.{Entry}
use Rattle.mdc_types.specs.declared.resources.Res.{Res}
use Rattle.mdc_types.specs.declared.resources.Res.TheVariants as resources
use Rattle.dlm_space.specs.declared.ask.Ask.{Ask}
use Rattle.msg_rounds.specs.Locks.{token_res, message_res, ack_res}
use Rattle.msg_rounds.specs.declared.phases.SenderPhase.{SenderPhase}
use Rattle.msg_rounds.specs.declared.phases.SenderPhase.TheVariants as senders
use Rattle.laws_rounds.specs.Machine as rounds
use Rattle.laws_rounds.specs.Following.{rounds_of, entry_of}
use Rattle.laws_rounds.specs.News.{news_at}
use Rattle.cluster_model.specs.State.{Core, Offer}
use Rattle.cluster_model.specs.Granting.{asker}
use Rattle.cluster_model.specs.Publishing.{block_of}
use Rattle.cluster_model.specs.Transfers.{Transfer, transfer_of}
use Rattle.cluster_model.specs.Table.{refusal}
use Rattle.cluster_model.specs.After.{after}
use Rattle.cluster_model.specs.Opening.{Origin, core_at}

-- The core, as a function of the opening and the entries, the newest first.

abbrev pub core_after : Origin → List Entry → Core
core_after o [] = core_at o
core_after o (x ∷ past) = after (core_after o past) x.event x.outcome

-- no event was refused in its turn
abbrev pub AreAccepted : Origin → List Entry → Type 0
AreAccepted o [] = Unit {0}
AreAccepted o (x ∷ past) = AreAccepted o past × (refusal (core_after o past) x.event ≡ None)

-- The rounds.

-- the rounds that a core has
abbrev pub rounds_at : Core → rounds.Rounds
rounds_at core = rounds_of core.state core.sender core.receiver core.locks

-- a grant of one of the three locks, and the news of it
abbrev pub grant_events : ℕ → Option Ask → List rounds.Event
grant_events r None = []
grant_events r (Some a) = rounds.Grant r ∷ news_at r a ∷ []

abbrev pub res_events : Core → Res → List rounds.Event
res_events core resources.Token = grant_events token_res (asker core resources.Token)
res_events core resources.Message = grant_events message_res (asker core resources.Message)
res_events core resources.Ack = grant_events ack_res (asker core resources.Ack)
res_events core res = []

abbrev pub publish_events : Core → ℕ → Option Offer → List rounds.Event
publish_events core n None = []
publish_events core n (Some o) = rounds.Publish n (block_of core n o) ∷ []

-- who finishes an unclean round leaves
abbrev pub finish_events : ℕ → Wish → List rounds.Event
finish_events n wishes.Unclean = rounds.Finish n ∷ rounds.Leave n ∷ []
finish_events n wish = rounds.Finish n ∷ []

abbrev pub finish_offer_events : ℕ → Option Offer → List rounds.Event
finish_offer_events n None = []
finish_offer_events n (Some o) = finish_events n o.wish

-- of an event whose transfer, if it has one, didn't fail
abbrev pub done_events : Core → Event → List rounds.Event
done_events core (events.Die n) = rounds.Die n ∷ []
done_events core (events.Grant res) = res_events core res
done_events core (events.Join n) = rounds.Join n ∷ []
done_events core (events.Up n) = rounds.ComeIn n ∷ []
done_events core (events.Leave n) = rounds.Leave n ∷ []
done_events core (events.AskToken n) = rounds.AskToken n ∷ []
done_events core (events.AskMessage n) = rounds.AskMessage n ∷ []
done_events core (events.Offer n wish) = rounds.Offer n ∷ []
done_events core (events.Publish n) = publish_events core n (core.offer n)
done_events core (events.FinishRound n) = finish_offer_events n (core.offer n)
done_events core (events.Quit n) = rounds.Quit n ∷ []
done_events core (events.Take n) = rounds.Take n ∷ []
done_events core (events.Processed n) = rounds.Processed n ∷ []
done_events core (events.Resume n) = rounds.Resume n ∷ []
done_events core (events.DropMessage n) = rounds.Drop n ∷ []
done_events core e = []

-- an offer that isn't published yet is void
abbrev pub voiding : ℕ → SenderPhase → List rounds.Event
voiding n senders.Offered = rounds.Void n ∷ []
voiding n s = []

abbrev pub failed_events : Core → Option Transfer → List rounds.Event
failed_events core None = []
failed_events core (Some t) = voiding t.node (core.sender t.node)

-- the rounds' events of a mirror's event, in their order
abbrev pub rounds_events : Core → Event → Outcome → List rounds.Event
rounds_events core e (outcomes.Lost l) = failed_events core (transfer_of core e)
rounds_events core e (outcomes.Io l) = []
rounds_events core e (outcomes.Unreached l) = failed_events core (transfer_of core e)
rounds_events core e o = done_events core e

-- the past with these events, which happen in this order from the given rounds on
abbrev pub with_events : rounds.Rounds → List rounds.Event → List rounds.Entry → List rounds.Entry
with_events w [] past = past
with_events w (e ∷ es) past = with_events (rounds.after w e) es (entry_of w e ∷ past)

-- the rounds' entries of a run
abbrev pub rounds_in : Origin → List Entry → List rounds.Entry
rounds_in o [] = []
rounds_in o (x ∷ past) =
    let core = core_after o past in
    with_events (rounds_at core) (rounds_events core x.event x.outcome) (rounds_in o past)
