use Rattle.std.proofs.Common.{◌≡◌, None, refl, sym, ap, ◌∙◌, subst}
use Rattle.msg_rounds.specs.Holds.{ReceiverHolds}
use Rattle.msg_rounds.specs.Refusals.{processed_refusal}
use Rattle.cluster_model.specs.State.{Core}
use Rattle.world_members.specs.Changes.{round_awaited}
use Rattle.world_state.specs.Kept.{core_of}
use Rattle.world_members.proofs.Stepping.{did_locks, did_receiver}
use Rattle.world_members.proofs.Telling.{processed_at, from_below, heard_in_range, receiver_still}
use Rattle.world_members.proofs.processing.processed.Goals as goal

pub do_message-requires-clause-sender : goal.do_message-requires-clause-sender
do_message-requires-clause-sender c =
    let core = core_of c.args.core.now in
    let r = c.requires.ready.rounded in
    from_below core c.args.n r (processed_at core c.args.n r c.requires.accepted)

pub do_message-requires-clause-heard : goal.do_message-requires-clause-heard
do_message-requires-clause-heard c =
    let core = core_of c.args.core.now in
    heard_in_range core c.args.n c.requires.ready.messages (processed_at core c.args.n c.requires.ready.rounded c.requires.accepted).taken

pub await_round-requires-clause-may : goal.await_round-requires-clause-may
await_round-requires-clause-may c =
    let core = core_of c.args.core.now in
    let n = c.args.n in
    let P : Core → Type 0 = λ x. processed_refusal (x.receiver n) ≡ None in
    subst P (sym c.do_message.ensures)
    (ap (λ f. processed_refusal (f n)) (did_receiver core n (core.heard n))
    ∙ (processed_at core n c.requires.ready.rounded c.requires.accepted).processes)

pub await_round-requires-clause-holds : goal.await_round-requires-clause-holds
await_round-requires-clause-holds c =
    let core = core_of c.args.core.now in
    let n = c.args.n in
    let P : Core → Type 0 = λ x. ReceiverHolds x.locks n (x.receiver n).phase in
    let did = did_receiver core n (core.heard n) in
    let held = receiver_still core.locks _ n (core.receiver n).phase (did_locks core n 17 (core.heard n) refl) (did_locks core n 18 (core.heard n) refl) (c.requires.ready.rounded.phased.holds n).receiver in
    subst P (sym c.do_message.ensures) (rw did held)

pub returns-clause-after : goal.returns-clause-after
returns-clause-after c = c.await_round.ensures ∙ ap (λ x. round_awaited x c.args.n) c.do_message.ensures
