-- Which events change the reads in flight: the others leave them alone.
use Rattle.std.proofs.Common.{◌≡◌, ℕ, Bool, true, false, if◌then◌else◌, not, ◌&&◌, Option, Some, None, refl, ◌∙◌}
use Rattle.mdc_types.specs.declared.events.Event.{Event}
use Rattle.mdc_types.specs.declared.events.Event.TheVariants as events
use Rattle.mdc_types.specs.declared.events.Wish.{Wish}
use Rattle.mdc_types.specs.declared.events.Wish.TheVariants as wishes
use Rattle.mdc_types.specs.declared.outcomes.Outcome.{Outcome}
use Rattle.mdc_types.specs.declared.outcomes.Outcome.TheVariants as outcomes
use Rattle.mdc_types.specs.declared.numbers.Sector.{Sector}
use Rattle.mdc_types.specs.declared.resources.Res.{Res}
use Rattle.mdc_types.specs.declared.resources.Res.TheVariants as resources
use Rattle.mdc_types.specs.declared.roles.NodeState.{NodeState}
use Rattle.mdc_types.specs.declared.roles.NodeState.TheVariants as states
use Rattle.dlm_modes.specs.declared.mode.Mode.{Mode}
use Rattle.dlm_modes.specs.declared.mode.Mode.TheVariants.{PR}
use Rattle.dlm_space.specs.Locks.{Lock}
use Rattle.dlm_space.specs.declared.ask.Ask.{Ask}
use Rattle.cluster_msgs.specs.declared.msg.Msg.{Msg}
use Rattle.cluster_msgs.specs.declared.msg.Body.{Body}
use Rattle.cluster_msgs.specs.declared.msg.Body.TheVariants as bodies
use Rattle.msg_rounds.specs.declared.phases.SenderPhase.{SenderPhase}
use Rattle.msg_rounds.specs.declared.phases.SenderPhase.TheVariants as senders
use Rattle.node_recovery.specs.Progress.{Recovering}
use Rattle.resync_worker.specs.declared.buffer.Buffer.{Buffer}
use Rattle.cluster_model.specs.State.{Core, Offer}
use Rattle.cluster_model.specs.After.{after, done, after_loss, after_miss, with_super, with_value, with_page}
use Rattle.dlm_modes.specs.Points.{with_at}
use Rattle.leg_failure.specs.Views.{acknowledged}
use Rattle.cluster_model.specs.Changes.{voided, sender_now, headed, device_unlocked}
use Rattle.cluster_model.specs.Copying.{filled_with, settle_buffer, next_sector, buffer_of, buffer_sector, copied_in}
use Rattle.cluster_model.specs.Failures.{tried, request_failed, slot_failed}
use Rattle.cluster_model.specs.Finishing.{finish_offer, finish_wish, round_over}
use Rattle.cluster_model.specs.Gathering.{page_gathered, due_page, gather}
use Rattle.cluster_model.specs.Granting.{grant_to, goes_on, message_held, asker}
use Rattle.cluster_model.specs.Processing.{do_message, do_body}
use Rattle.cluster_model.specs.Publishing.{publish_offer, publish_wish, block_of}
use Rattle.msg_rounds.specs.Locks.{published}
use Rattle.cluster_model.specs.Receiving.{view_resumed, told_state}
use Rattle.cluster_model.specs.Recovering.{page_found, page_cleared, slot_recovered, slot_read}
use Rattle.cluster_model.specs.Writes.{out_done, write_ended, write_sector}
use Rattle.mirror_io.specs.Flight.{write_in}
use Rattle.cluster_model.specs.Rounds.{quit_from}
use Rattle.cluster_model.specs.Transfers.{Transfer, transfer_of}

abbrev pub changes_reads : Event → Bool
changes_reads (events.Die n) = true
changes_reads (events.AskRead n s) = true
changes_reads (events.In n k) = true
changes_reads e = false

abbrev Kept : Core → Core → Type 0
Kept core new = new.reads ≡ core.reads

-- By row.

held_kept : (core : Core) (n : ℕ) (m : Mode) → Kept core (message_held core n m)
held_kept core n PR = refl
held_kept core n m = refl

on_kept : (core : Core) (r : Res) (a : Ask) → Kept core (goes_on core r a)
on_kept core resources.Token a = refl
on_kept core resources.Message a = held_kept core a.node a.mode
on_kept core resources.Ack a = refl
on_kept core resources.Resync a = refl
on_kept core r a = refl

grant_kept : (core : Core) (r : Res) (x : Option Ask) → Kept core (grant_to core r x)
grant_kept core r None = refl
grant_kept core r (Some a) = on_kept core r a

published_kept : (core : Core) (n : ℕ) (locks : ℕ → Lock) (x : Wish) → (publish_wish (record (sender_now core n senders.Published) { locks = locks }) n x).reads ≡ core.reads
published_kept core n locks (wishes.Range r) = refl
published_kept core n locks x = refl

publish_kept : (core : Core) (n : ℕ) (x : Option Offer) → Kept core (publish_offer core n x)
publish_kept core n None = refl
publish_kept core n (Some o) = published_kept core n (device_unlocked (published core.locks n (block_of core n o)) n) o.wish

whole_kept : (core : Core) (n : ℕ) (o : Offer) (x : Wish) → Kept core (finish_wish core n o x)
whole_kept core n o (wishes.Range r) = refl
whole_kept core n o wishes.Unclean = refl
whole_kept core n o (wishes.NewDisk l) = refl
whole_kept core n o (wishes.Remove l) = refl
whole_kept core n o (wishes.ReAdd l) = refl
whole_kept core n o x = refl

finish_kept : (core : Core) (n : ℕ) (x : Option Offer) → Kept core (finish_offer core n x)
finish_kept core n None = refl
finish_kept core n (Some o) = whole_kept (round_over core n) n o o.wish

quit_kept : (core : Core) (n : ℕ) (s : NodeState) → Kept core (quit_from core n s)
quit_kept core n states.Up = refl
quit_kept core n s = refl

body_kept : (core : Core) (n m : ℕ) (b : Body) → Kept core (do_body core n m b)
body_kept core n m (bodies.Metadata events roles size) = refl
body_kept core n m (bodies.Capacity events roles size) = refl
body_kept core n m (bodies.Resyncing r) = refl
body_kept core n m (bodies.NewDisk l uuid) = refl
body_kept core n m b = refl

message_kept : (core : Core) (n : ℕ) (x : Option Msg) → Kept core (do_message core n x)
message_kept core n None = refl
message_kept core n (Some m) = body_kept core n _ m.body

resumed_kept : (core : Core) (n : ℕ) → Kept core (view_resumed core n)
resumed_kept core n = by (not (core.receiver n).gone && told_state (core.heard n))
  where
    by : (b : Bool) → Kept core (if b then record core { view = with_at core.view n (acknowledged (core.view n)) } else core)
    by true = refl
    by false = refl

voided_kept : (core : Core) (n : ℕ) (s : SenderPhase) → Kept core (voided core n s)
voided_kept core n senders.Offered = refl
voided_kept core n s = refl

gather_kept : (core : Core) (n : ℕ) (x : Option (ℕ × ℕ)) (v : Sector) → Kept core (page_gathered core n x v)
gather_kept core n None v = refl
gather_kept core n (Some due) v = refl

fill_kept : (core : Core) (n : ℕ) (x : Option ℕ) (l : ℕ) (v : Sector) → Kept core (filled_with core n x l v)
fill_kept core n None l v = refl
fill_kept core n (Some s) l v = refl

settle_kept : (core : Core) (n : ℕ) (x : Option Buffer) → Kept core (settle_buffer core n x)
settle_kept core n None = refl
settle_kept core n (Some b) = refl

found_kept : (core : Core) (n : ℕ) (x : Option Recovering) (p l : ℕ) (v : Sector) → Kept core (page_found core n x p l v)
found_kept core n None p l v = refl
found_kept core n (Some r) p l v = refl

cleared_kept : (core : Core) (n : ℕ) (x : Option Recovering) (p l : ℕ) → Kept core (page_cleared core n x p l)
cleared_kept core n None p l = refl
cleared_kept core n (Some r) p l = refl

recovered_kept : (core : Core) (n : ℕ) (x : Option Recovering) → Kept core (slot_recovered core n x)
recovered_kept core n None = refl
recovered_kept core n (Some r) = refl

slot_kept : (core : Core) (p l : ℕ) (x : Option Recovering) → Kept core (slot_failed core p l x)
slot_kept core p l None = refl
slot_kept core p l (Some r) = refl

super_kept : (core : Core) (n l : ℕ) (o : Outcome) → Kept core (with_super core n l o)
super_kept core n l (outcomes.Super events v) = refl
super_kept core n l o = refl

value_kept : (core : Core) (f : ℕ → Sector → Core) → ((l : ℕ) (v : Sector) → Kept core (f l v)) → (o : Outcome) → Kept core (with_value core f o)
value_kept core f h (outcomes.Value l v) = h l v
value_kept core f h o = refl

page_kept : (core : Core) (f : Sector → Core) → ((v : Sector) → Kept core (f v)) → (o : Outcome) → Kept core (with_page core f o)
page_kept core f h (outcomes.Page v) = h v
page_kept core f h o = refl

headed_kept : (core : Core) (n l : ℕ) (s : Option ℕ) → Kept core (headed core n l s)
headed_kept core n l None = refl
headed_kept core n l (Some s) = refl

out_kept : (core : Core) (n k l : ℕ) → Kept core (out_done core n k l)
out_kept core n k l = headed_kept core n l (write_sector (write_in k (core.writes n)))

ended_kept : (core : Core) (n k : ℕ) (b : Bool) → Kept core (write_ended core n k b)
ended_kept core n k b = refl

done_kept : (core : Core) (e : Event) (o : Outcome) → changes_reads e ≡ false → Kept core (done core e o)
done_kept core (events.Cut n l) o f = refl
done_kept core (events.Mend n l) o f = refl
done_kept core (events.Die n) o f = cc
done_kept core (events.Grant res) o f = grant_kept core res (asker core res)
done_kept core (events.Join n) o f = refl
done_kept core (events.Load n l) o f = super_kept core n l o
done_kept core (events.Up n) o f = refl
done_kept core (events.Leave n) o f = refl
done_kept core (events.AskToken n) o f = refl
done_kept core (events.AskMessage n) o f = refl
done_kept core (events.Offer n wish) o f = refl
done_kept core (events.WriteSuper n l) o f = refl
done_kept core (events.Publish n) o f = publish_kept core n (core.offer n)
done_kept core (events.FinishRound n) o f = finish_kept core n (core.offer n)
done_kept core (events.Quit n) o f = quit_kept core n (core.state n)
done_kept core (events.Take n) o f = refl
done_kept core (events.Processed n) o f = message_kept core n (core.heard n)
done_kept core (events.Resume n) o f = resumed_kept core n
done_kept core (events.DropMessage n) o f = refl
done_kept core (events.AskWrite n s v) o f = refl
done_kept core (events.WritePage n p l) o f = refl
done_kept core (events.Out n k l) o f = out_kept core n k l
done_kept core (events.EndWrite n k) o f = ended_kept core n k false
done_kept core (events.BreakWrite n k) o f = ended_kept core n k true
done_kept core (events.AskRead n s) o f = cc
done_kept core (events.In n k) o f = cc
done_kept core (events.Clear n c) o f = refl
done_kept core (events.AskResync n) o f = refl
done_kept core (events.Gather n) o f = page_kept core (gather core n) (gather_kept core n (due_page core n)) o
done_kept core (events.PassOwn n) o f = refl
done_kept core (events.PassFull n) o f = refl
done_kept core (events.PassAgain n l) o f = refl
done_kept core (events.CopyIn n) o f = value_kept core (copied_in core n) (fill_kept core n (next_sector core n)) o
done_kept core (events.CopyOut n l) o f = headed_kept core n l (buffer_sector (buffer_of core n))
done_kept core (events.Settle n) o f = settle_kept core n (buffer_of core n)
done_kept core (events.EndPass n) o f = refl
done_kept core (events.Recover n d) o f = refl
done_kept core (events.SlotIn n p l) o f = page_kept core (slot_read core n p l) (found_kept core n (core.recovery n) p l) o
done_kept core (events.SlotOut n p l) o f = cleared_kept core n (core.recovery n) p l
done_kept core (events.Recovered n) o f = recovered_kept core n (core.recovery n)
done_kept core (events.LockDevice n) o f = refl

-- Where a transfer failed.

pub loss_kept : (core : Core) (t : Option Transfer) → Kept core (after_loss core t)
loss_kept core None = refl
loss_kept core (Some t) = voided_kept core t.node (core.sender t.node)

miss_kept : (core : Core) (t : Option Transfer) → Kept core (after_miss core t)
miss_kept core None = refl
miss_kept core (Some t) = voided_kept core t.node (core.sender t.node)

tried_kept : (core : Core) (e : Event) → changes_reads e ≡ false → Kept core (tried core e)
tried_kept core (events.Out n k l) f = refl
tried_kept core (events.WritePage n p l) f = refl
tried_kept core (events.SlotOut n p l) f = slot_kept core p l (core.recovery n)
tried_kept core e f = refl

failed_kept : (core : Core) (e : Event) → changes_reads e ≡ false → Kept core (request_failed core e)
failed_kept core (events.Out n k l) f = ended_kept core n k true
failed_kept core (events.In n k) f = cc
failed_kept core e f = refl

pub reads_kept : (core : Core) (e : Event) (o : Outcome) → changes_reads e ≡ false → (after core e o).reads ≡ core.reads
reads_kept core e (outcomes.Lost l) f = loss_kept (tried core e) (transfer_of core e) ∙ tried_kept core e f
reads_kept core e (outcomes.Io l) f = failed_kept (tried core e) e f ∙ tried_kept core e f
reads_kept core e (outcomes.Unreached l) f = miss_kept core (transfer_of core e)
reads_kept core e o f = done_kept core e o f
