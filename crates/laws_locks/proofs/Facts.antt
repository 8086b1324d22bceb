-- What is kept tells the facts on phases and locks.
use Rattle.std.proofs.Common.{◌≡◌, ◌≢◌, ℕ, Bool, true, false, List, Option, Some, None, refl, sym, ap, ◌∙◌, subst, arith}
use Rattle.std.proofs.lemmas.Bool.Decides.{nat_tests}
use Rattle.dlm_modes.specs.declared.mode.Mode.TheVariants.{EX}
use Rattle.mdc_types.specs.declared.roles.NodeState.{NodeState}
use Rattle.mdc_types.specs.declared.roles.NodeState.TheVariants as states
use Rattle.msg_rounds.specs.Locks.{ack_res}
use Rattle.msg_rounds.specs.Phases.{is_idle, has_message, has_published, has_processed}
use Rattle.msg_rounds.specs.declared.phases.SenderPhase.{SenderPhase}
use Rattle.msg_rounds.specs.declared.phases.SenderPhase.TheVariants as senders
use Rattle.msg_rounds.specs.declared.phases.ReceiverPhase.{ReceiverPhase}
use Rattle.msg_rounds.specs.declared.phases.ReceiverPhase.TheVariants as receivers
use Rattle.laws_rounds.specs.Machine as rounds
use Rattle.laws_rounds.specs.Traces.{Said, Fate, NotYet, Open, Finished, SenderDied, fate_in, said_in}
use Rattle.laws_rounds.specs.Invariants.{Apart, Held, Members, Told, Inv, fits, is_published_fate, is_finished_fate, is_dead_fate, sender_said}
use Rattle.laws_rounds.specs.Sound.{SoundAt}
use Rattle.laws_rounds.proofs.Follows.{reached_sound, node_holds}
use Rattle.cluster_model.specs.State.{Core}
use Rattle.cluster_model.specs.Phases.{is_up, is_in}
use Rattle.laws_locks.specs.Following.{rounds_at}
use Rattle.laws_locks.specs.Rounded.{has_token, Rounded}
use Rattle.laws_locks.proofs.Keeping.{Kept, inv_at}
use Rattle.laws_locks.proofs.Sending.{alone}

-- while one has `message` and has published nothing nobody receives
calm : (w : rounds.Rounds) (n : ℕ) → Apart w → Held w → Members w → has_message (w.sender n) ≡ true → (m : ℕ) → w.receiver m ≡ receivers.Idle
calm w n ap he me s m = grind (arith, nat_tests, ap.message n m, he.message n, he.message m, me.sending n, me.sending m)

ack_held : (w : rounds.Rounds) (n : ℕ) → Held w → Members w → w.sender n ≡ senders.Granted → (w.locks ack_res).held n ≡ Some EX
ack_held w n he me s = grind (arith, he.ack n, me.fitting n, me.sending n)

all_done : (w : rounds.Rounds) (n : ℕ) → Apart w → Held w → (w.locks ack_res).held n ≡ Some EX → (m : ℕ) → m ≢ n → rounds.is_in (w.state m) ≡ true → has_processed (w.receiver m) ≡ true
all_done w n ap he e m ne i = grind (arith, ap.ack n m, he.ack m)

loaded_token : (s : NodeState) (sender : SenderPhase) → fits s sender ≡ true → s ≡ states.Loaded → has_token sender ≡ true
loaded_token s sender f e = grind arith

not_up : (s : NodeState) → is_up s ≡ false → rounds.is_up s ≡ false
not_up s e = grind arith

in_of : (s : NodeState) → is_in s ≡ true → rounds.is_in s ≡ true
in_of s e = grind arith

busy : (r : ReceiverPhase) → r ≡ receivers.Taken → is_idle r ≡ false
busy r e = grind arith

-- the sender of a message that was taken, where it isn't gone
calling : (w : rounds.Rounds) (members : ℕ → Bool) (past : List rounds.Entry) → Told w members past → (m : ℕ) → w.receiver m ≡ receivers.Taken → w.gone m ≡ false → has_published (w.sender (w.from m)) ≡ true
calling w members past t m r g = by_fate (fate_in past) refl (t.some_round m (busy _ r)) (t.taken m r) (sym (t.gone m (busy _ r)) ∙ g)
  where
    said_by : (said : Option Said) (n : ℕ) (x : Said) → sender_said said n ≡ true → said ≡ Some x → x.sender ≡ n
    said_by None n x e f = cc
    said_by (Some s) n x e f = grind (arith, nat_tests)

    by_fate : (x : Fate) → fate_in past ≡ x → is_published_fate x ≡ true → is_finished_fate x ≡ false → is_dead_fate x ≡ false → has_published (w.sender (w.from m)) ≡ true
    by_fate NotYet is p f d = cc
    by_fate Finished is p f d = cc
    by_fate SenderDied is p f d = cc
    by_fate (Open k) is p f d =
        let here = t.open_fate k is in
        let same : k ≡ w.from m = said_by (said_in past) (w.from m) _ (t.from m (busy _ r)) (t.block k here) in
        subst (λ j. has_published (w.sender j) ≡ true) same here

pub rounded : (members : ℕ → Bool) (past : List rounds.Entry) (core : Core) → Kept members past core → Rounded core
rounded members past core k = record {
  phased = record {
    holds = λ n. node_holds core.locks n (core.sender n) (core.receiver n).phase (sound.holds n);
    alone = λ n m. alone (rounds_at core) members past n m i;
    sending = λ n. (sound.senders n).sending;
    calm = λ n m s. calm (rounds_at core) n i.apart i.held i.members_are s m;
    out = λ n. (sound.states_hold n).out;
    still = λ n d. (sound.states_hold n).still (not_up _ d);
    loaded = λ n. loaded_token (core.state n) (core.sender n) (i.members_are.fitting n);
    calls = λ m. calling (rounds_at core) members past i.told m;
    processed = λ n m g ne inside. all_done (rounds_at core) n i.apart i.held (ack_held (rounds_at core) n i.held i.members_are g) m ne (in_of _ inside);
  };
  offering = record {
    offers = k.offers;
    block = k.block;
    valid = λ n. (sound.senders n).valid;
  };
  numbered = record {
    nodes = k.nodes;
    beyond = i.members_are.below;
    live = k.live;
    slots = k.slots;
    below = k.low;
  };
}
  where
    i : Inv (rounds_at core) members past
    i = inv_at members past (rounds_at core) k.follows.reaches

    sound : SoundAt (rounds_at core) members past
    sound = reached_sound members past (rounds_at core) k.follows.reaches
