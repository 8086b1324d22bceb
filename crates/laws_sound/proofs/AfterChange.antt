-- Each accepted event makes such changes.
use Rattle.std.proofs.Common.{◌≡◌, ℕ, ◌==◌, ◌&&◌, not, if◌then◌else◌, true, false, Option, Some, None, refl, subst}
use Rattle.dlm_modes.specs.Points.{with_at}
use Rattle.dlm_modes.specs.declared.mode.Mode.TheVariants.{EX, CR}
use Rattle.mdc_types.specs.declared.events.Event.{Event}
use Rattle.mdc_types.specs.declared.events.Event.TheVariants as events
use Rattle.mdc_types.specs.declared.events.Wish.{Wish}
use Rattle.mdc_types.specs.declared.outcomes.Outcome.{Outcome}
use Rattle.mdc_types.specs.declared.outcomes.Outcome.TheVariants as outcomes
use Rattle.mdc_types.specs.declared.resources.Res.TheVariants as resources
use Rattle.dlm_space.specs.Locks.{holding, asked, let_go}
use Rattle.dlm_space.specs.declared.ask.Ask.{Ask}
use Rattle.leg_failure.specs.Views.{is_last}
use Rattle.msg_rounds.specs.Locks.{token_res, message_res, token_asked, message_asked, message_taken, message_dropped}
use Rattle.msg_rounds.specs.declared.phases.SenderPhase.TheVariants as senders
use Rattle.cluster_model.specs.State.{Core}
use Rattle.cluster_model.specs.Changes.{no_new_dev}
use Rattle.cluster_model.specs.Granting.{asker, grant_to}
use Rattle.cluster_model.specs.Receiving.{called_by, told_state}
use Rattle.cluster_model.specs.Wishes.{offer_of}
use Rattle.cluster_model.specs.Transfers.{Transfer, transfer_of}
use Rattle.cluster_model.specs.Failures.{tried, request_failed}
use Rattle.cluster_model.specs.After.{after, done, after_loss, after_miss}
use Rattle.cluster_model.specs.Table.{refusal}
use Rattle.laws_locks.specs.Rounded.{Rounded, offering}
use Rattle.laws_sound.specs.Legs.{LegsFit}
use Rattle.laws_sound.specs.Requests.{InFlight}
use Rattle.laws_sound.proofs.RoundFacts.{here, same_at}
use Rattle.laws_sound.proofs.Change.{Changes, changed, still, quiet, dies, tells, takes, resumes, ends_read}
use Rattle.laws_sound.proofs.ChangeOf.{grant_change, join_change, load_change, come_change, leave_change, offer_change, super_change, publish_change, finish_change, quit_by, process_change, resume_by}
use Rattle.laws_sound.proofs.ChangeMore.{write_change, read_change, out_change, end_change, break_change, fail_change, in_change, written_change, clear_change, resync_change, own_change, full_change, again_change, end_pass_change, gather_change, copy_in_change, copy_out_change, settle_change, recover_change, slot_in_change, slot_out_change, recovered_change}
use Rattle.laws_sound.proofs.Failing.{tries, lose_change, void_by}

-- what is offered after the event fits its node
abbrev pub OffersLater : Core → Type 0
OffersLater core = (n : ℕ) → offering (core.state n) (core.sender n) (core.offer n) ≡ true

ack_later : (core : Core) (x : Option Ask) → OffersLater (grant_to core resources.Ack x) → (a : Ask) → x ≡ Some a → offering (core.state a.node) senders.Granted (core.offer a.node) ≡ true
ack_later core None later a e = cc
ack_later core (Some b) later a e =
    let same : b ≡ a = cc in
    subst (λ (y : Ask). offering (core.state y.node) senders.Granted (core.offer y.node) ≡ true) same
    (subst (λ s. offering (core.state b.node) s (core.offer b.node) ≡ true) (here core.sender b.node senders.Granted) (later b.node))

offer_later : (core : Core) (n : ℕ) (wish : Wish) → offering (core.state n) (with_at core.sender n senders.Offered n) (with_at core.offer n (Some (offer_of core n wish)) n) ≡ true → offering (core.state n) senders.Offered (Some (offer_of core n wish)) ≡ true
offer_later core n wish e =
    subst (λ x. offering (core.state n) senders.Offered x ≡ true) (here core.offer n (Some (offer_of core n wish)))
    (subst (λ s. offering (core.state n) s (with_at core.offer n (Some (offer_of core n wish)) n) ≡ true) (here core.sender n senders.Offered) e)

done_change : (core : Core) (e : Event) (o : Outcome) → Rounded core → OffersLater (done core e o) → InFlight core → refusal core e ≡ None → Changes core (done core e o)
done_change core (events.Cut n l) o r later f ok = changed (quiet core.head (λ m k. if (m == n) && (k == l) then true else core.cut m k) core.locks (λ k. refl))
done_change core (events.Mend n l) o r later f ok = changed (quiet core.head (λ m k. if (m == n) && (k == l) then false else core.cut m k) core.locks (λ k. refl))
done_change core (events.Die n) o r later f ok = changed (dies n)
done_change core (events.Grant resources.Ack) o r later f ok = grant_change core r resources.Ack (asker core resources.Ack) refl (λ a e is. ack_later core (asker core resources.Ack) later a is)
done_change core (events.Grant res) o r later f ok = grant_change core r res (asker core res) refl (λ a e is. cc)
done_change core (events.Join n) o r later f ok = join_change core r n ok
done_change core (events.Load n l) o r later f ok = load_change core r n l o
done_change core (events.Up n) o r later f ok = come_change core r n ok
done_change core (events.Leave n) o r later f ok = leave_change core r n ok
done_change core (events.AskToken n) o r later f ok = changed (tells n senders.TokenAsked (token_asked core.locks n) (same_at core.locks token_res (asked (core.locks token_res) n EX) refl) (λ e. cc))
done_change core (events.AskMessage n) o r later f ok = changed (tells n senders.MessageAsked (message_asked core.locks n) (same_at core.locks message_res (asked (core.locks message_res) n EX) refl) (λ e. cc))
done_change core (events.Offer n wish) o r later f ok = offer_change core r n wish (offer_later core n wish (later n)) ok
done_change core (events.WriteSuper n l) o r later f ok = super_change core r n l ok
done_change core (events.Publish n) o r later f ok = publish_change core r n ok
done_change core (events.FinishRound n) o r later f ok = finish_change core r n f ok
done_change core (events.Quit n) o r later f ok = quit_by core r n (core.state n) refl f
done_change core (events.Take n) o r later f ok = changed (takes n (called_by core n) (message_taken core.locks n) (same_at core.locks message_res (holding (core.locks message_res) n CR) refl))
done_change core (events.Processed n) o r later f ok = process_change core r n ok
done_change core (events.Resume n) o r later f ok = resume_by core r n (not (core.receiver n).gone && told_state (core.heard n))
done_change core (events.DropMessage n) o r later f ok = changed (resumes n (message_dropped core.locks n) (same_at core.locks message_res (let_go (core.locks message_res) n) refl))
done_change core (events.AskWrite n s v) o r later f ok = write_change core n s v ok
done_change core (events.WritePage n p l) o r later f ok = written_change core n p l
done_change core (events.Out n k l) o r later f ok = out_change core n k l ok
done_change core (events.EndWrite n k) o r later f ok = end_change core n k ok
done_change core (events.BreakWrite n k) o r later f ok = break_change core n k ok
done_change core (events.AskRead n s) o r later f ok = read_change core n s ok
done_change core (events.In n k) o r later f ok = in_change core n k o
done_change core (events.Clear n c) o r later f ok = clear_change core n c
done_change core (events.AskResync n) o r later f ok = resync_change core n
done_change core (events.Gather n) o r later f ok = gather_change core n o
done_change core (events.PassOwn n) o r later f ok = own_change core n
done_change core (events.PassFull n) o r later f ok = full_change core n
done_change core (events.PassAgain n l) o r later f ok = again_change core n l
done_change core (events.CopyIn n) o r later f ok = copy_in_change core n o
done_change core (events.CopyOut n l) o r later f ok = copy_out_change core n l
done_change core (events.Settle n) o r later f ok = settle_change core n
done_change core (events.EndPass n) o r later f ok = end_pass_change core n
done_change core (events.Recover n d) o r later f ok = recover_change core n d ok
done_change core (events.SlotIn n p l) o r later f ok = slot_in_change core n p l o
done_change core (events.SlotOut n p l) o r later f ok = slot_out_change core n p l
done_change core (events.Recovered n) o r later f ok = recovered_change core n
done_change core (events.LockDevice n) o r later f ok = changed (quiet core.head core.cut (with_at core.locks no_new_dev (holding (core.locks no_new_dev) n EX)) (same_at core.locks no_new_dev (holding (core.locks no_new_dev) n EX) refl))

-- where the outcome says that a leg was lost, it isn't the node's last
abbrev pub LosesNoLast : Core → Event → Outcome → Type 0
LosesNoLast core e (outcomes.Lost l) = (t : Transfer) → transfer_of core e ≡ Some t → is_last (core.view t.node) t.leg ≡ false
LosesNoLast core e o = Unit {0}

loss_by : (core : Core) (e : Event) (x : Option Transfer) → transfer_of core e ≡ x → LegsFit core → refusal core e ≡ None → ((t : Transfer) → transfer_of core e ≡ Some t → is_last (core.view t.node) t.leg ≡ false) → Changes core (after_loss (tried core e) x)
loss_by core e None is l ok last = (tries core e ok).changes
loss_by core e (Some t) is l ok last = lose_change core e t l ok is (last t is)

miss_by : (core : Core) (x : Option Transfer) → Changes core (after_miss core x)
miss_by core None = still
miss_by core (Some t) = void_by core t.node (core.sender t.node)

io_by : (core : Core) (e : Event) → refusal core e ≡ None → Changes core (request_failed (tried core e) e)
io_by core (events.Out n k l) ok = fail_change core n k l ok
io_by core (events.In n k) ok = changed (ends_read n k core.head)
io_by core (events.WritePage n p l) ok = (tries core (events.WritePage n p l) ok).changes
io_by core (events.SlotOut n p l) ok = (tries core (events.SlotOut n p l) ok).changes
io_by core e ok = still

pub after_change : (core : Core) (e : Event) (o : Outcome) → Rounded core → OffersLater (after core e o) → LegsFit core → InFlight core → LosesNoLast core e o → refusal core e ≡ None → Changes core (after core e o)
after_change core e (outcomes.Lost k) r later l f last ok = loss_by core e (transfer_of core e) refl l ok last
after_change core e (outcomes.Io k) r later l f last ok = io_by core e ok
after_change core e (outcomes.Unreached k) r later l f last ok = miss_by core (transfer_of core e)
after_change core e o r later l f last ok = done_change core e o r later f ok
