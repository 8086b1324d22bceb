-- A node was asked no more writes and reads than there are entries.
use Rattle.std.proofs.Common.{◌≡◌, ℕ, ◌+◌, ◌≤◌, ◌&&◌, not, if◌then◌else◌, Bool, true, false, List, [], ◌∷◌, length, Option, Some, None, refl, sym, ap, subst, ◌∙◌, arith}
use Rattle.std.proofs.lemmas.Bool.Decides.{nat_tests}
use Rattle.dlm_modes.specs.Points.{with_at}
use Rattle.dlm_modes.specs.declared.mode.Mode.{Mode}
use Rattle.dlm_modes.specs.declared.mode.Mode.TheVariants.{PR}
use Rattle.mdc_types.specs.declared.events.Event.{Event}
use Rattle.mdc_types.specs.declared.events.Event.TheVariants as events
use Rattle.mdc_types.specs.declared.events.Wish.{Wish}
use Rattle.mdc_types.specs.declared.events.Wish.TheVariants as wishes
use Rattle.mdc_types.specs.declared.numbers.Sector.{Sector}
use Rattle.mdc_types.specs.declared.outcomes.Outcome.{Outcome}
use Rattle.mdc_types.specs.declared.outcomes.Outcome.TheVariants as outcomes
use Rattle.mdc_types.specs.declared.outcomes.Entry.{Entry}
use Rattle.mdc_types.specs.declared.resources.Res.{Res}
use Rattle.mdc_types.specs.declared.resources.Res.TheVariants as resources
use Rattle.mdc_types.specs.declared.roles.NodeState.{NodeState}
use Rattle.mdc_types.specs.declared.roles.NodeState.TheVariants as states
use Rattle.dlm_space.specs.declared.ask.Ask.{Ask}
use Rattle.msg_rounds.specs.declared.phases.SenderPhase.{SenderPhase}
use Rattle.msg_rounds.specs.declared.phases.SenderPhase.TheVariants as senders
use Rattle.cluster_msgs.specs.declared.msg.Body.{Body}
use Rattle.cluster_msgs.specs.declared.msg.Body.TheVariants as bodies
use Rattle.cluster_msgs.specs.declared.msg.Msg.{Msg}
use Rattle.leg_failure.specs.Views.{acknowledged}
use Rattle.node_recovery.specs.Progress.{Recovering}
use Rattle.resync_worker.specs.declared.buffer.Buffer.{Buffer}
use Rattle.cluster_model.specs.State.{State, Core, Offer}
use Rattle.cluster_model.specs.Changes.{headed, voided}
use Rattle.cluster_model.specs.Granting.{asker, grant_to, message_held, goes_on}
use Rattle.cluster_model.specs.Publishing.{publish_wish, publish_offer}
use Rattle.cluster_model.specs.Finishing.{finish_wish, finish_offer, round_over}
use Rattle.cluster_model.specs.Rounds.{quit_from}
use Rattle.cluster_model.specs.Receiving.{told_state}
use Rattle.cluster_model.specs.Processing.{do_message, do_body}
use Rattle.cluster_model.specs.Reads.{in_done, end_read, read_sector}
use Rattle.mirror_io.specs.Flight.{read_in, write_in}
use Rattle.cluster_model.specs.Writes.{write_sector}
use Rattle.cluster_model.specs.Copying.{next_sector, filled_with, copied_in, buffer_sector, buffer_of, settle_buffer}
use Rattle.cluster_model.specs.Gathering.{due_page, page_gathered, gather}
use Rattle.cluster_model.specs.Recovering.{page_found, slot_read, page_cleared, slot_recovered}
use Rattle.cluster_model.specs.Transfers.{Transfer, transfer_of}
use Rattle.cluster_model.specs.Failures.{tried, slot_failed, request_failed}
use Rattle.cluster_model.specs.After.{after, done, with_super, with_value, with_page, after_loss, after_miss}
use Rattle.cluster_model.specs.Run.{Run}
use Rattle.laws_sound.specs.Requests.{Counted}
use Rattle.laws_sound.specs.Laws.{RunsAreCounted}

-- nothing new was asked
pub record Same (new core : Core) : Type 0 where
  pub writes : new.writes_made ≡ core.writes_made
  pub reads : new.reads_made ≡ core.reads_made

headed_same : (core : Core) (n l : ℕ) (x : Option ℕ) → Same (headed core n l x) core
headed_same core n l None = record { writes = refl; reads = refl }
headed_same core n l (Some s) = record { writes = refl; reads = refl }

voided_same : (core : Core) (n : ℕ) (s : SenderPhase) → Same (voided core n s) core
voided_same core n s = record { writes = by_writes s; reads = by_reads s }
  where
    by_writes : (s : SenderPhase) → (voided core n s).writes_made ≡ core.writes_made
    by_writes senders.Offered = refl
    by_writes s = refl

    by_reads : (s : SenderPhase) → (voided core n s).reads_made ≡ core.reads_made
    by_reads senders.Offered = refl
    by_reads s = refl

message_same : (core : Core) (n : ℕ) (m : Mode) → Same (message_held core n m) core
message_same core n PR = record { writes = refl; reads = refl }
message_same core n m = record { writes = refl; reads = refl }

goes_same : (core : Core) (res : Res) (a : Ask) → Same (goes_on core res a) core
goes_same core resources.Message a = message_same core a.node a.mode
goes_same core res a = record { writes = refl; reads = refl }

grant_same : (core : Core) (res : Res) (x : Option Ask) → Same (grant_to core res x) core
grant_same core res None = record { writes = refl; reads = refl }
grant_same core res (Some a) = let s = goes_same core res a in record { writes = s.writes; reads = s.reads }

super_same : (core : Core) (n l : ℕ) (o : Outcome) → Same (with_super core n l o) core
super_same core n l (outcomes.Super events v) = record { writes = refl; reads = refl }
super_same core n l o = record { writes = refl; reads = refl }

publish_wish_same : (core : Core) (n : ℕ) (w : Wish) → Same (publish_wish core n w) core
publish_wish_same core n (wishes.Range r) = record { writes = refl; reads = refl }
publish_wish_same core n w = record { writes = refl; reads = refl }

publish_same : (core : Core) (n : ℕ) (x : Option Offer) → Same (publish_offer core n x) core
publish_same core n None = record { writes = refl; reads = refl }
publish_same core n (Some o) = let s = publish_wish_same _ n o.wish in record { writes = s.writes; reads = s.reads }

finish_wish_same : (core : Core) (n : ℕ) (o : Offer) (w : Wish) → Same (finish_wish core n o w) core
finish_wish_same core n o w = record { writes = by_writes w; reads = by_reads w }
  where
    by_writes : (w : Wish) → (finish_wish core n o w).writes_made ≡ core.writes_made
    by_writes (wishes.Range r) = refl
    by_writes wishes.Unclean = refl
    by_writes w = refl

    by_reads : (w : Wish) → (finish_wish core n o w).reads_made ≡ core.reads_made
    by_reads (wishes.Range r) = refl
    by_reads wishes.Unclean = refl
    by_reads w = refl

finish_same : (core : Core) (n : ℕ) (x : Option Offer) → Same (finish_offer core n x) core
finish_same core n None = record { writes = refl; reads = refl }
finish_same core n (Some o) = let s = finish_wish_same (round_over core n) n o o.wish in record { writes = s.writes; reads = s.reads }

quit_same : (core : Core) (n : ℕ) (s : NodeState) → Same (quit_from core n s) core
quit_same core n states.Up = record { writes = refl; reads = refl }
quit_same core n s = record { writes = refl; reads = refl }

body_same : (core : Core) (n from : ℕ) (b : Body) → Same (do_body core n from b) core
body_same core n from (bodies.Resyncing r) = record { writes = refl; reads = refl }
body_same core n from b = record { writes = refl; reads = refl }

heard_same : (core : Core) (n : ℕ) (x : Option Msg) → Same (do_message core n x) core
heard_same core n None = record { writes = refl; reads = refl }
heard_same core n (Some m) = body_same core n (core.receiver n).from m.body

resume_same : (core : Core) (n : ℕ) (b : Bool) → Same (if b then record core { view = with_at core.view n (acknowledged (core.view n)) } else core) core
resume_same core n true = record { writes = refl; reads = refl }
resume_same core n false = record { writes = refl; reads = refl }

in_same : (core : Core) (n k : ℕ) (o : Outcome) → Same (with_value core (λ l v. in_done core n k l) o) core
in_same core n k (outcomes.Value l v) = let s = headed_same (end_read core n k) n l (read_sector (read_in k (core.reads n))) in record { writes = s.writes; reads = s.reads }
in_same core n k o = record { writes = refl; reads = refl }

filled_same : (core : Core) (n : ℕ) (x : Option ℕ) (l : ℕ) (v : Sector) → Same (filled_with core n x l v) core
filled_same core n None l v = record { writes = refl; reads = refl }
filled_same core n (Some s) l v = record { writes = refl; reads = refl }

copied_same : (core : Core) (n : ℕ) (o : Outcome) → Same (with_value core (copied_in core n) o) core
copied_same core n (outcomes.Value l v) = filled_same core n (next_sector core n) l v
copied_same core n o = record { writes = refl; reads = refl }

settle_same : (core : Core) (n : ℕ) (x : Option Buffer) → Same (settle_buffer core n x) core
settle_same core n None = record { writes = refl; reads = refl }
settle_same core n (Some b) = record { writes = refl; reads = refl }

page_same : (core : Core) (n : ℕ) (x : Option (ℕ × ℕ)) (v : Sector) → Same (page_gathered core n x v) core
page_same core n None v = record { writes = refl; reads = refl }
page_same core n (Some due) v = record { writes = refl; reads = refl }

gather_same : (core : Core) (n : ℕ) (o : Outcome) → Same (with_page core (gather core n) o) core
gather_same core n (outcomes.Page v) = page_same core n (due_page core n) v
gather_same core n o = record { writes = refl; reads = refl }

found_same : (core : Core) (n : ℕ) (x : Option Recovering) (p l : ℕ) (v : Sector) → Same (page_found core n x p l v) core
found_same core n None p l v = record { writes = refl; reads = refl }
found_same core n (Some r) p l v = record { writes = refl; reads = refl }

slot_same : (core : Core) (n p l : ℕ) (o : Outcome) → Same (with_page core (slot_read core n p l) o) core
slot_same core n p l (outcomes.Page v) = found_same core n (core.recovery n) p l v
slot_same core n p l o = record { writes = refl; reads = refl }

cleared_same : (core : Core) (n : ℕ) (x : Option Recovering) (p l : ℕ) → Same (page_cleared core n x p l) core
cleared_same core n None p l = record { writes = refl; reads = refl }
cleared_same core n (Some r) p l = record { writes = refl; reads = refl }

recovered_same : (core : Core) (n : ℕ) (x : Option Recovering) → Same (slot_recovered core n x) core
recovered_same core n None = record { writes = refl; reads = refl }
recovered_same core n (Some r) = record { writes = refl; reads = refl }

failed_same : (core : Core) (p l : ℕ) (x : Option Recovering) → Same (slot_failed core p l x) core
failed_same core p l None = record { writes = refl; reads = refl }
failed_same core p l (Some r) = record { writes = refl; reads = refl }

tried_same : (core : Core) (e : Event) → Same (tried core e) core
tried_same core (events.SlotOut n p l) = failed_same core p l (core.recovery n)
tried_same core (events.Out n k l) = record { writes = refl; reads = refl }
tried_same core (events.WritePage n p l) = record { writes = refl; reads = refl }
tried_same core e = record { writes = refl; reads = refl }

-- An event asks one write or read at most.

pub record AtMostOne (new core : Core) : Type 0 where
  pub writes : (n : ℕ) → new.writes_made n ≤ core.writes_made n + 1
  pub reads : (n : ℕ) → new.reads_made n ≤ core.reads_made n + 1

none_more : (new core : Core) → Same new core → AtMostOne new core
none_more new core s = record {
  writes = λ n. let e : new.writes_made n ≡ core.writes_made n = ap (λ f. f n) s.writes in omega arith;
  reads = λ n. let e : new.reads_made n ≡ core.reads_made n = ap (λ f. f n) s.reads in omega arith;
}

one_at : (f : ℕ → ℕ) (n m : ℕ) → with_at f n (f n + 1) m ≤ f m + 1
one_at f n m = grind (arith, nat_tests)

done_more : (core : Core) (e : Event) (o : Outcome) → AtMostOne (done core e o) core
done_more core (events.AskWrite n s v) o = record { writes = λ m. one_at core.writes_made n m; reads = λ m. omega arith }
done_more core (events.AskRead n s) o = record { writes = λ m. omega arith; reads = λ m. one_at core.reads_made n m }
done_more core (events.Grant res) o = none_more _ core (grant_same core res (asker core res))
done_more core (events.Load n l) o = none_more _ core (super_same core n l o)
done_more core (events.Publish n) o = none_more _ core (publish_same core n (core.offer n))
done_more core (events.FinishRound n) o = none_more _ core (finish_same core n (core.offer n))
done_more core (events.Quit n) o = none_more _ core (quit_same core n (core.state n))
done_more core (events.Processed n) o = let s = heard_same core n (core.heard n) in none_more _ core (record { writes = s.writes; reads = s.reads })
done_more core (events.Resume n) o = let s = resume_same core n (not (core.receiver n).gone && told_state (core.heard n)) in none_more _ core (record { writes = s.writes; reads = s.reads })
done_more core (events.Out n k l) o = let s = headed_same core n l (write_sector (write_in k (core.writes n))) in none_more _ core (record { writes = s.writes; reads = s.reads })
done_more core (events.In n k) o = none_more _ core (in_same core n k o)
done_more core (events.Gather n) o = none_more _ core (gather_same core n o)
done_more core (events.CopyIn n) o = none_more _ core (copied_same core n o)
done_more core (events.CopyOut n l) o = let s = headed_same core n l (buffer_sector (buffer_of core n)) in none_more _ core (record { writes = s.writes; reads = s.reads })
done_more core (events.Settle n) o = none_more _ core (settle_same core n (buffer_of core n))
done_more core (events.SlotIn n p l) o = none_more _ core (slot_same core n p l o)
done_more core (events.SlotOut n p l) o = none_more _ core (cleared_same core n (core.recovery n) p l)
done_more core (events.Recovered n) o = none_more _ core (recovered_same core n (core.recovery n))
done_more core e o = record { writes = λ n. omega arith; reads = λ n. omega arith }

loss_same : (core mid : Core) (x : Option Transfer) → Same mid core → Same (after_loss mid x) core
loss_same core mid None s = s
loss_same core mid (Some t) s = let v = voided_same mid t.node (mid.sender t.node) in record { writes = v.writes ∙ s.writes; reads = v.reads ∙ s.reads }

miss_same : (core : Core) (x : Option Transfer) → Same (after_miss core x) core
miss_same core None = record { writes = refl; reads = refl }
miss_same core (Some t) = voided_same core t.node (core.sender t.node)

request_same : (core mid : Core) (e : Event) → Same mid core → Same (request_failed mid e) core
request_same core mid (events.Out n k l) s = record { writes = s.writes; reads = s.reads }
request_same core mid (events.In n k) s = record { writes = s.writes; reads = s.reads }
request_same core mid e s = s

one_more : (core : Core) (e : Event) (o : Outcome) → AtMostOne (after core e o) core
one_more core e (outcomes.Lost l) = none_more _ core (loss_same core (tried core e) (transfer_of core e) (tried_same core e))
one_more core e (outcomes.Io l) = none_more _ core (request_same core (tried core e) e (tried_same core e))
one_more core e (outcomes.Unreached l) = none_more _ core (miss_same core (transfer_of core e))
one_more core e o = done_more core e o

counted_more : (core new : Core) (k : ℕ) → AtMostOne new core → Counted core k → Counted new (k + 1)
counted_more core new k one i = record {
  writes = λ n. omega (arith, one.writes n, i.writes n);
  reads = λ n. omega (arith, one.reads n, i.reads n);
}

counted : (start : State) (past : List Entry) (end : State) → Counted start.core 0 → Run start past end → Counted end.core (length past)
counted start [] end i run = subst (λ (s : State). Counted s.core 0) (sym run) i
counted start (x ∷ past) end i run =
    let e : length past + 1 ≡ length (x ∷ past) = omega arith in
    subst (Counted end.core) e (subst (λ c. Counted c (length past + 1)) (sym run.2.core) (counted_more run.0.core (after run.0.core x.event x.outcome) (length past) (one_more run.0.core x.event x.outcome) (counted start past run.0 i run.1)))

pub runs_are_counted : RunsAreCounted
runs_are_counted o start end past opens run =
    counted start past end (subst (λ c. Counted c 0) (sym opens.core) (record { writes = λ n. omega arith; reads = λ n. omega arith })) run
