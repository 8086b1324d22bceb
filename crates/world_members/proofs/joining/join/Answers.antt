use Rattle.std.proofs.Common.{◌≡◌, None, sym, ap, ◌∙◌, subst}
use Rattle.dlm_modes.specs.declared.mode.Mode.TheVariants.{PW}
use Rattle.dlm_space.specs.Locks.{ask_now_refusal}
use Rattle.mdc_types.specs.declared.roles.NodeState.TheVariants.{Joining}
use Rattle.msg_rounds.specs.Holds.{SenderHolds}
use Rattle.msg_rounds.specs.declared.phases.ReceiverPhase.TheVariants as receivers
use Rattle.msg_rounds.specs.declared.phases.SenderPhase.TheVariants as senders
use Rattle.cluster_model.specs.State.{Core}
use Rattle.world_members.specs.Changes.{in_state, heads_home, slot_taken, token_awaited}
use Rattle.world_state.specs.Kept.{core_of}
use Rattle.world_members.proofs.Telling.{join_at, slot_still}
use Rattle.world_members.proofs.joining.join.Goals as goal

pub take_slot-requires-clause-may : goal.take_slot-requires-clause-may
take_slot-requires-clause-may c =
    let P : Core → Type 0 = λ x. ask_now_refusal (x.locks c.args.n) c.args.n PW ≡ None in
    subst P (sym c.join_members.ensures) (c.requires.ready.unblocked.join c.args.n c.requires.accepted)

pub ask_token-requires-clause-holds : goal.ask_token-requires-clause-holds
ask_token-requires-clause-holds c =
    let core = core_of c.args.core.now in
    let n = c.args.n in
    let e = c.take_slot.ensures ∙ ap (λ x. slot_taken x n) c.join_members.ensures in
    let P : Core → Type 0 = λ x. SenderHolds x.locks n (x.sender n) in
    let at = join_at core n c.requires.ready.rounded c.requires.accepted in
    subst P (sym e) (slot_still core.locks n _ (core.sender n) at.node (c.requires.ready.rounded.phased.holds n).sender)

pub ask_token-requires-clause-sender : goal.ask_token-requires-clause-sender
ask_token-requires-clause-sender c =
    let n = c.args.n in
    let e = c.take_slot.ensures ∙ ap (λ x. slot_taken x n) c.join_members.ensures in
    let P : Core → Type 0 = λ x. x.sender n ≡ senders.Idle in
    subst P (sym e) (join_at (core_of c.args.core.now) n c.requires.ready.rounded c.requires.accepted).sender

pub ask_token-requires-clause-receiver : goal.ask_token-requires-clause-receiver
ask_token-requires-clause-receiver c =
    let n = c.args.n in
    let e = c.take_slot.ensures ∙ ap (λ x. slot_taken x n) c.join_members.ensures in
    let P : Core → Type 0 = λ x. (x.receiver n).phase ≡ receivers.Idle in
    subst P (sym e) (join_at (core_of c.args.core.now) n c.requires.ready.rounded c.requires.accepted).receiver

pub returns-clause-after : goal.returns-clause-after
returns-clause-after c =
    let n = c.args.n in
    c.set_state.ensures
    ∙ ap (λ x. in_state x n Joining) (c.reset_heads.ensures
    ∙ ap (λ x. heads_home x n) (c.ask_token.ensures
    ∙ ap (λ x. token_awaited x n) (c.take_slot.ensures
    ∙ ap (λ x. slot_taken x n) c.join_members.ensures)))
