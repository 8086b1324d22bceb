-- What each event keeps.
use Rattle.std.proofs.Common.{◌≡◌, ◌<◌, ℕ, Bool, true, false, List, Option, Some, None, refl, sym, ap, ◌∙◌, subst, arith, ◌==◌, if◌then◌else◌}
use Rattle.std.specs.Option.{option_map}
use Rattle.std.proofs.lemmas.Bool.Decides.{nat_tests}
use Rattle.dlm_modes.specs.Guards.{first_of}
use Rattle.dlm_modes.specs.Points.{with_at}
use Rattle.mdc_types.specs.declared.events.Event.{Event}
use Rattle.mdc_types.specs.declared.events.Event.TheVariants as events
use Rattle.mdc_types.specs.declared.outcomes.Outcome.{Outcome}
use Rattle.mdc_types.specs.declared.outcomes.Outcome.TheVariants as outcomes
use Rattle.mdc_types.specs.declared.roles.NodeState.{NodeState}
use Rattle.msg_rounds.specs.Locks.{message_res}
use Rattle.msg_rounds.specs.Phases.{has_published}
use Rattle.msg_rounds.specs.declared.phases.SenderPhase.{SenderPhase}
use Rattle.msg_rounds.specs.declared.phases.SenderPhase.TheVariants as senders
use Rattle.laws_rounds.specs.Machine as rounds
use Rattle.laws_rounds.proofs.Follows.{void_follows}
use Rattle.cluster_model.specs.State.{Core, Offer}
use Rattle.cluster_model.specs.Guards.{no_node}
use Rattle.cluster_model.specs.Phases.{needs_up, copy_is, recovery_is, is_held, is_none as is_none_word}
use Rattle.cluster_model.specs.Changes.{voided}
use Rattle.cluster_model.specs.Superblocks.{written_on, super_written}
use Rattle.cluster_model.specs.Publishing.{block_of}
use Rattle.cluster_model.specs.Copying.{buffer_of}
use Rattle.cluster_model.specs.Recovering.{rec_guards}
use Rattle.cluster_model.specs.Failures.{tried}
use Rattle.cluster_model.specs.Transfers.{Transfer, transfer_of}
use Rattle.cluster_model.specs.Table.{refusal}
use Rattle.cluster_model.specs.After.{done, after_loss, after_miss, after}
use Rattle.laws_locks.specs.Following.{rounds_at, with_events, done_events, voiding, failed_events, rounds_events}
use Rattle.laws_locks.specs.Rounded.{offering}
use Rattle.laws_locks.proofs.Guarded.{first_none, a_node, living}
use Rattle.laws_locks.proofs.Keeping.{Kept, follow_on, quiet_kept, offers_at, still_published, still_offered}
use Rattle.laws_locks.proofs.Sending.{token_kept, message_kept, offer_kept, publish_kept}
use Rattle.laws_locks.proofs.Finishing.{finish_kept, quit_kept}
use Rattle.laws_locks.proofs.Receiving.{take_kept, processed_kept, resume_kept, drop_kept}
use Rattle.laws_locks.proofs.Coming.{join_kept, up_kept, leave_kept, die_kept}
use Rattle.laws_locks.proofs.Granting.{grant_kept}
use Rattle.laws_locks.proofs.Unseen.{super_quiet, out_quiet, read_quiet, gather_quiet, copy_in_quiet, copy_out_quiet, settled_quiet, resync_quiet, end_quiet, device_quiet, recover_quiet, slot_in_quiet, cleared_quiet, recovered_quiet, tried_quiet, failed_quiet}

-- a superblock that was written changes nothing of what is said
written_offering : (s : NodeState) (sender : SenderPhase) (l : ℕ) (x : Option Offer) → offering s sender (option_map (written_on l) x) ≡ offering s sender x
written_offering s sender l None = refl
written_offering s sender l (Some o) = refl

written_block : (core : Core) (m l : ℕ) (x : Option Offer) (o : Offer) → option_map (written_on l) x ≡ Some o → (q : Offer) × (x ≡ Some q) × (block_of core m q ≡ block_of core m o)
written_block core m l None o e = cc
written_block core m l (Some q) o e = (q, refl, ap (block_of core m) (some_is e))
  where
    some_is : {a b : Offer} → Some a ≡ Some b → a ≡ b
    some_is e = cc

module _ (members : ℕ → Bool) (past : List rounds.Entry) (core : Core) (k : Kept members past core) where
  written_offers : (n l m : ℕ) → offering (core.state m) (core.sender m) (with_at core.offer n (option_map (written_on l) (core.offer n)) m) ≡ true
  written_offers n l m = by_test (m == n) (λ e. grind (arith, nat_tests))
    where
      by_test : (b : Bool) → (b ≡ true → m ≡ n) → offering (core.state m) (core.sender m) (if b then option_map (written_on l) (core.offer n) else core.offer m) ≡ true
      by_test true e = ap (λ j. offering (core.state m) (core.sender m) (option_map (written_on l) (core.offer j))) (sym (e refl)) ∙ written_offering _ _ l (core.offer m) ∙ k.offers m
      by_test false e = k.offers m

  super_kept : (n l : ℕ) → Kept members past (super_written core n l)
  super_kept n l = record {
    follows = k.follows;
    offers = written_offers n l;
    block = λ m o p f. at_node m o p (m == n) (λ e. grind (arith, nat_tests)) f;
    live = k.live;
    slots = k.slots;
    nodes = k.nodes;
    low = k.low;
  }
    where
      at_node : (m : ℕ) (o : Offer) → has_published (core.sender m) ≡ true → (b : Bool) → (b ≡ true → m ≡ n) → (if b then option_map (written_on l) (core.offer n) else core.offer m) ≡ Some o → (core.locks message_res).block ≡ block_of core m o
      at_node m o p true e f =
          let w = written_block core m l (core.offer n) o f in
          k.block m w.0 p (ap core.offer (e refl) ∙ w.1) ∙ w.2
      at_node m o p false e f = k.block m o p f

  recovered_slot : (n d : ℕ) → first_of (rec_guards core n d) ≡ None → d < 16
  recovered_slot n d e =
      let l = living core n _ k.nodes e in
      let a = first_none (needs_up core n) _ l.rest in
      let b = first_none (copy_is core n is_held) _ a.1 in
      let c = first_none (recovery_is core n is_none_word) _ b.1 in
      let g = first_none (no_node core d) _ c.1 in
      a_node core d k.nodes g.0

  pub done_kept : (x : Event) (o : Outcome) → refusal core x ≡ None → Kept members (with_events (rounds_at core) (done_events core x) past) (done core x o)
  done_kept (events.Cut n l) o e = quiet_kept members past _ core k (record { rounds = refl; offer = refl; live = refl; array = refl; slots = λ s. s })
  done_kept (events.Mend n l) o e = quiet_kept members past _ core k (record { rounds = refl; offer = refl; live = refl; array = refl; slots = λ s. s })
  done_kept (events.Die n) o e = die_kept members past core k n e
  done_kept (events.Grant res) o e = grant_kept members past core k res e
  done_kept (events.Join n) o e = join_kept members past core k n e
  done_kept (events.Load n l) o e = quiet_kept members past _ core k (super_quiet core n l o)
  done_kept (events.Up n) o e = up_kept members past core k n e
  done_kept (events.Leave n) o e = leave_kept members past core k n e
  done_kept (events.AskToken n) o e = token_kept members past core k n e
  done_kept (events.AskMessage n) o e = message_kept members past core k n e
  done_kept (events.Offer n wish) o e = offer_kept members past core k n wish e
  done_kept (events.WriteSuper n l) o e = super_kept n l
  done_kept (events.Publish n) o e = publish_kept members past core k n e
  done_kept (events.FinishRound n) o e = finish_kept members past core k n e
  done_kept (events.Quit n) o e = quit_kept members past core k n e
  done_kept (events.Take n) o e = take_kept members past core k n e
  done_kept (events.Processed n) o e = processed_kept members past core k n e
  done_kept (events.Resume n) o e = resume_kept members past core k n e
  done_kept (events.DropMessage n) o e = drop_kept members past core k n e
  done_kept (events.AskWrite n s v) o e = quiet_kept members past _ core k (record { rounds = refl; offer = refl; live = refl; array = refl; slots = λ s. s })
  done_kept (events.WritePage n p l) o e = quiet_kept members past _ core k (record { rounds = refl; offer = refl; live = refl; array = refl; slots = λ s. s })
  done_kept (events.Out n w l) o e = quiet_kept members past _ core k (out_quiet core n w l)
  done_kept (events.EndWrite n w) o e = quiet_kept members past _ core k (record { rounds = refl; offer = refl; live = refl; array = refl; slots = λ s. s })
  done_kept (events.BreakWrite n w) o e = quiet_kept members past _ core k (record { rounds = refl; offer = refl; live = refl; array = refl; slots = λ s. s })
  done_kept (events.AskRead n s) o e = quiet_kept members past _ core k (record { rounds = refl; offer = refl; live = refl; array = refl; slots = λ s. s })
  done_kept (events.In n w) o e = quiet_kept members past _ core k (read_quiet core n w o)
  done_kept (events.Clear n c) o e = quiet_kept members past _ core k (record { rounds = refl; offer = refl; live = refl; array = refl; slots = λ s. s })
  done_kept (events.AskResync n) o e = quiet_kept members past _ core k (resync_quiet core n o)
  done_kept (events.Gather n) o e = quiet_kept members past _ core k (gather_quiet core n o)
  done_kept (events.PassOwn n) o e = quiet_kept members past _ core k (record { rounds = refl; offer = refl; live = refl; array = refl; slots = λ s. s })
  done_kept (events.PassFull n) o e = quiet_kept members past _ core k (record { rounds = refl; offer = refl; live = refl; array = refl; slots = λ s. s })
  done_kept (events.PassAgain n l) o e = quiet_kept members past _ core k (record { rounds = refl; offer = refl; live = refl; array = refl; slots = λ s. s })
  done_kept (events.CopyIn n) o e = quiet_kept members past _ core k (copy_in_quiet core n o)
  done_kept (events.CopyOut n l) o e = quiet_kept members past _ core k (copy_out_quiet core n l)
  done_kept (events.Settle n) o e = quiet_kept members past _ core k (settled_quiet core n (buffer_of core n))
  done_kept (events.EndPass n) o e = quiet_kept members past _ core k (end_quiet core n o)
  done_kept (events.Recover n d) o e = quiet_kept members past _ core k (recover_quiet core n d (recovered_slot n d e))
  done_kept (events.SlotIn n p l) o e = quiet_kept members past _ core k (slot_in_quiet core n p l o)
  done_kept (events.SlotOut n p l) o e = quiet_kept members past _ core k (cleared_quiet core n (core.recovery n) p l refl)
  done_kept (events.Recovered n) o e = quiet_kept members past _ core k (recovered_quiet core n (core.recovery n) refl k.slots)
  done_kept (events.LockDevice n) o e = quiet_kept members past _ core k (device_quiet core n o)

  -- an offer that isn't published yet is void
  void_kept : (n : ℕ) (s : SenderPhase) → core.sender n ≡ s → Kept members (with_events (rounds_at core) (voiding n s) past) (voided core n s)
  void_kept n senders.Offered is = record {
    follows = follow_on members past (rounds_at core) (rounds_at (voided core n senders.Offered)) (rounds.Void n) refl k.follows
        (rw is refl)
        (void_follows core.state core.sender core.receiver core.locks core.locks n refl);
    offers = offers_at core.state core.sender core.offer n senders.MessageHeld None k.offers refl;
    block = λ m o p f. k.block m o (still_published core.sender n senders.MessageHeld refl m p) (still_offered core.offer n m o f);
    live = k.live;
    slots = k.slots;
    nodes = k.nodes;
    low = k.low;
  }
  void_kept n s is = k

  miss_kept : (t : Option Transfer) → Kept members (with_events (rounds_at core) (failed_events core t) past) (after_miss core t)
  miss_kept None = k
  miss_kept (Some t) = void_kept t.node (core.sender t.node) refl

  loss_kept : (t : Option Transfer) → Kept members (with_events (rounds_at core) (failed_events core t) past) (after_loss core t)
  loss_kept None = k
  loss_kept (Some t) = let v = void_kept t.node (core.sender t.node) refl in record {
    follows = v.follows;
    offers = v.offers;
    block = v.block;
    live = v.live;
    slots = v.slots;
    nodes = v.nodes;
    low = v.low;
  }

failed_same : (new core : Core) (t : Option Transfer) (past : List rounds.Entry) → rounds_at new ≡ rounds_at core → with_events (rounds_at new) (failed_events new t) past ≡ with_events (rounds_at core) (failed_events core t) past
failed_same new core None past e = refl
failed_same new core (Some t) past e = ap (λ w. with_events w (voiding t.node (w.sender t.node)) past) e

pub step_kept : (members : ℕ → Bool) (past : List rounds.Entry) (core : Core) → Kept members past core → (x : Event) (o : Outcome) → refusal core x ≡ None → Kept members (with_events (rounds_at core) (rounds_events core x o) past) (after core x o)
step_kept members past core k x (outcomes.Lost l) e =
    let q = tried_quiet core x in
    subst (λ es. Kept members es (after_loss (tried core x) (transfer_of core x))) (failed_same (tried core x) core (transfer_of core x) past q.rounds)
    (loss_kept members past (tried core x) (quiet_kept members past (tried core x) core k q) (transfer_of core x))
step_kept members past core k x (outcomes.Io l) e =
    let tries = quiet_kept members past (tried core x) core k (tried_quiet core x) in
    quiet_kept members past _ (tried core x) tries (failed_quiet (tried core x) x)
step_kept members past core k x (outcomes.Unreached l) e = miss_kept members past core k (transfer_of core x)
step_kept members past core k x o e = done_kept members past core k x o e
