-- What a row tells whose guards refuse nothing: no call that it makes is refused.
use Rattle.std.proofs.Common.{◌≡◌, ◌<◌, ◌≤◌, ◌==◌, ℕ, Bool, true, false, not, List, [], ◌∷◌, Option, Some, None, refl, sym, ap, ◌∙◌, arith, if◌then◌else◌}
use Rattle.std.specs.Prelude.{is_some, nat_lt, IfSome, length, get_or}
use Rattle.std.proofs.lemmas.Bool.Decides.{nat_tests}
use Rattle.dlm_modes.specs.Guards.{unless, or_then, first_of}
use Rattle.dlm_modes.specs.Points.{with_at}
use Rattle.mdc_types.specs.declared.events.Event.TheVariants as events
use Rattle.mdc_types.specs.declared.refusals.Refusal.TheVariants.{NotUp}
use Rattle.mdc_types.specs.declared.roles.NodeState.{NodeState}
use Rattle.mdc_types.specs.declared.roles.NodeState.TheVariants as states
use Rattle.dlm_space.specs.Locks.{Lock, caller}
use Rattle.node_member.specs.Members.{fenced, join_refusal, die_refusal}
use Rattle.msg_rounds.specs.Holds.{SenderHolds, ReceiverHolds}
use Rattle.msg_rounds.specs.Locks.{token_res, message_res, ack_res}
use Rattle.msg_rounds.specs.Phases.{is_idle, has_published}
use Rattle.msg_rounds.specs.Refusals.{take_refusal, processed_refusal, resume_refusal, drop_refusal, is_taken, is_pr, may_resume}
use Rattle.msg_rounds.specs.declared.phases.SenderPhase.{SenderPhase}
use Rattle.msg_rounds.specs.declared.phases.SenderPhase.TheVariants as senders
use Rattle.msg_rounds.specs.declared.phases.ReceiverPhase.{ReceiverPhase}
use Rattle.msg_rounds.specs.declared.phases.ReceiverPhase.TheVariants as receivers
use Rattle.cluster_msgs.specs.Messages.{IsInRange}
use Rattle.cluster_msgs.specs.Reading.{message_in}
use Rattle.cluster_msgs.specs.declared.msg.Msg.{Msg}
use Rattle.cluster_msgs.proofs.Said.{says_what_is_spelled}
use Rattle.cluster_model.specs.State.{Core, sizes}
use Rattle.cluster_model.specs.Transfers.{reads_from}
use Rattle.world_state.specs.Ready.{Ready}
use Rattle.world_state.specs.Told.{Fits}
use Rattle.cluster_model.specs.Guards.{no_node, is_out}
use Rattle.cluster_model.specs.Phases.{is_up}
use Rattle.cluster_model.specs.Table.{refusal}
use Rattle.laws_locks.specs.Rounded.{Rounded}
use Rattle.laws_sound.specs.Laws.{MessagesRead}
use Rattle.laws_locks.proofs.Guarded.{first_none, tested, a_node, living}
use Rattle.laws_locks.proofs.Told.{not_live}

both : {R : Type 0} (a b : Bool) (r s : R) → a ≡ true → b ≡ true → or_then (unless a r) (unless b s) ≡ None
both a b r s e f = rw e (rw f refl)

each_of_three : {R : Type 0} (a b c : Bool) (r s t : R) → a ≡ true → b ≡ true → c ≡ true
    → first_of (unless a r ∷ unless b s ∷ unless c t ∷ []) ≡ None
each_of_three a b c r s t e f g = rw e (rw f (rw g refl))

-- Nodes and legs.

pub record PathAt (core : Core) (n l : ℕ) : Type 0 where
  pub node : n < 16
  pub leg : l < core.array.sizes.legs

leg_is : (l legs : ℕ) → nat_lt l legs ≡ true → l < legs
leg_is l legs e = grind (arith, nat_tests)

-- Joining.

pub record JoinAt (core : Core) (n : ℕ) : Type 0 where
  pub node : n < 16
  pub joins : join_refusal core.members n ≡ None
  pub sender : core.sender n ≡ senders.Idle
  pub receiver : (core.receiver n).phase ≡ receivers.Idle

not_up : (s : NodeState) → s ≡ states.Out → is_up s ≡ false
not_up s e = grind arith

pub join_at : (core : Core) (n : ℕ) → Rounded core → refusal core (events.Join n) ≡ None → JoinAt core n
join_at core n r e =
    let a = first_none (no_node core n) _ e in
    let b = tested (not (fenced core.members n)) _ _ a.1 in
    let c = tested (not (core.members.live n)) _ _ b.1 in
    let d = tested (not (core.members.pending n)) _ _ c.1 in
    let out : core.state n ≡ states.Out = not_live _ _ (r.numbered.live n) c.0 in
    record {
      node = a_node core n r.numbered.nodes a.0;
      joins = each_of_three (not (fenced core.members n)) (not (core.members.live n)) (not (core.members.pending n)) _ _ _ b.0 c.0 d.0;
      sender = r.phased.out n out;
      receiver = r.phased.still n (not_up _ out);
    }

-- what a sender holds, where other locks change
pub sender_still : (old now : ℕ → Lock) (n : ℕ) (s : SenderPhase)
    → now token_res ≡ old token_res → now message_res ≡ old message_res → now ack_res ≡ old ack_res
    → SenderHolds old n s → SenderHolds now n s
sender_still old now n s t m a h = record {
  token = rw t h.token;
  token_requests = rw t h.token_requests;
  token_conversions = rw t h.token_conversions;
  message = rw m h.message;
  message_requests = rw m h.message_requests;
  message_conversions = rw m h.message_conversions;
  ack = rw a h.ack;
  ack_requests = rw a h.ack_requests;
  ack_conversions = rw a h.ack_conversions;
}

-- and what a receiver holds
pub receiver_still : (old now : ℕ → Lock) (n : ℕ) (r : ReceiverPhase)
    → now message_res ≡ old message_res → now ack_res ≡ old ack_res
    → ReceiverHolds old n r → ReceiverHolds now n r
receiver_still old now n r m a h = record {
  message = rw m h.message;
  message_requests = rw m h.message_requests;
  message_conversions = rw m h.message_conversions;
  ack = rw a h.ack;
  ack_requests = rw a h.ack_requests;
  ack_conversions = rw a h.ack_conversions;
}

-- a slot's lock is none of the rounds'
far : {A : Type 0} (n k : ℕ) (x y : A) → n < 16 → 16 ≤ k → (if k == n then x else y) ≡ y
far n k x y lt le = grind (arith, nat_tests)

pub slot_still : (locks : ℕ → Lock) (n : ℕ) (x : Lock) (s : SenderPhase) → n < 16
    → SenderHolds locks n s → SenderHolds (with_at locks n x) n s
slot_still locks n x s lt h = sender_still locks (with_at locks n x) n s
    (far n token_res x (locks token_res) lt (omega arith))
    (far n message_res x (locks message_res) lt (omega arith))
    (far n ack_res x (locks ack_res) lt (omega arith)) h

-- Receiving.

pub record ProcessedAt (core : Core) (n : ℕ) : Type 0 where
  pub node : n < 16
  pub taken : (core.receiver n).phase ≡ receivers.Taken
  pub here : (core.receiver n).gone ≡ false
  pub processes : processed_refusal (core.receiver n) ≡ None

taken_is : (x : ReceiverPhase) → is_taken x ≡ true → x ≡ receivers.Taken
taken_is x e = grind arith

not_false : (b : Bool) → not b ≡ true → b ≡ false
not_false b e = grind arith

pub processed_at : (core : Core) (n : ℕ) → Rounded core → refusal core (events.Processed n) ≡ None → ProcessedAt core n
processed_at core n r e =
    let l = living core n _ r.numbered.nodes e in
    let a = tested (is_taken (core.receiver n).phase) _ _ l.rest in
    let b = tested (not (core.receiver n).gone) _ _ a.1 in
    record {
      node = l.node;
      taken = taken_is _ a.0;
      here = not_false _ b.0;
      processes = both (is_taken (core.receiver n).phase) (not (core.receiver n).gone) _ _ a.0 b.0;
    }

-- the sender of a message that was taken, and isn't gone, is a node
published_below : (s : NodeState) (sender : SenderPhase) → (s ≡ states.Out → sender ≡ senders.Idle) → s ≡ states.Out
    → has_published sender ≡ true → ⊥
published_below s sender idle out e = grind (arith, idle out)

pub from_below : (core : Core) (n : ℕ) → Rounded core → ProcessedAt core n → (core.receiver n).from < 16
from_below core n r p = by_test (nat_lt (core.receiver n).from 16) refl
  where
    lt : (m : ℕ) → nat_lt m 16 ≡ true → m < 16
    lt m e = grind (arith, nat_tests)

    le : (m : ℕ) → nat_lt m 16 ≡ false → 16 ≤ m
    le m e = grind (arith, nat_tests)

    by_test : (b : Bool) → nat_lt (core.receiver n).from 16 ≡ b → (core.receiver n).from < 16
    by_test true e = lt _ e
    by_test false e = absurd (published_below (core.state (core.receiver n).from) (core.sender (core.receiver n).from)
        (r.phased.out (core.receiver n).from) (r.numbered.beyond (core.receiver n).from (le _ e))
        (r.phased.calls n p.taken p.here))

-- what was heard is a message
in_range : (bytes : List ℕ) (x : Option Msg) → x ≡ message_in bytes → IfSome x (λ m. IsInRange m)
in_range bytes None e = tt
in_range bytes (Some m) e = ((says_what_is_spelled bytes m).0 (sym e)).message.ranges

pub heard_in_range : (core : Core) (n : ℕ) → MessagesRead core → (core.receiver n).phase ≡ receivers.Taken
    → IfSome (core.heard n) (λ m. IsInRange m)
heard_in_range core n m e = in_range (core.locks message_res).block.bytes (core.heard n) (m.heard n (ap is_idle e))

pub record ResumeAt (core : Core) (n : ℕ) : Type 0 where
  pub node : n < 16
  pub resumes : resume_refusal core.locks n (core.receiver n) ≡ None

pub resume_at : (core : Core) (n : ℕ) → Rounded core → refusal core (events.Resume n) ≡ None → ResumeAt core n
resume_at core n r e =
    let l = living core n _ r.numbered.nodes e in
    let a = tested (may_resume (core.receiver n).phase) _ _ l.rest in
    let b = tested (is_pr ((core.locks message_res).held n)) _ _ a.1 in
    record {
      node = l.node;
      resumes = both (may_resume (core.receiver n).phase) (is_pr ((core.locks message_res).held n)) _ _ a.0 b.0;
    }

-- Paths, and the superblocks of a joining node.

pub load_at : (core : Core) (n l : ℕ) → Rounded core → refusal core (events.Load n l) ≡ None → PathAt core n l
load_at core n l r e =
    let v = living core n _ r.numbered.nodes e in
    let b = tested (nat_lt l core.array.sizes.legs) _ _ v.rest in
    record { node = v.node; leg = leg_is _ _ b.0 }

-- The superblock of a leg.
pub record LoadAt (core : Core) (n l : ℕ) (lengths : List ℕ) : Type 0 where
  pub node : n < 16
  pub leg : l < 8
  pub there : l < length lengths
  pub within : 8 < get_or lengths l 0

pub loads_at : (core : Core) (n l : ℕ) (lengths : List ℕ) → Ready core → refusal core (events.Load n l) ≡ None → Fits (sizes core) lengths
    → LoadAt core n l lengths
loads_at core n l lengths r e f =
    let p = load_at core n l r.rounded e in
    let on = r.on_legs (events.Load n l) (reads_from n l 8) e refl in
    record {
      node = p.node;
      leg = omega (arith, p.leg, r.range.legs.sizes_fit.legs.1);
      there = omega (arith, p.leg, f.count);
      within = omega (arith, f.each l p.leg, on.place);
    }
