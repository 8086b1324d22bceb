-- What is kept when a node comes in, leaves or dies.
use Rattle.std.proofs.Common.{◌≡◌, ◌<◌, ℕ, Bool, true, false, not, List, [], ◌∷◌, Option, None, refl, sym, ap, ◌∙◌, arith}
use Rattle.std.proofs.lemmas.Bool.Decides.{nat_tests}
use Rattle.dlm_modes.specs.Guards.{first_of}
use Rattle.dlm_modes.specs.Points.{with_at}
use Rattle.dlm_modes.specs.declared.mode.Mode.{Mode}
use Rattle.dlm_modes.specs.declared.mode.Mode.TheVariants.{PW, CR}
use Rattle.dlm_space.specs.Locks.{Lock, holding, all_died}
use Rattle.mdc_types.specs.declared.roles.NodeState.TheVariants as states
use Rattle.msg_rounds.specs.Holds.{HasJust, NodeHolds, holds_token}
use Rattle.msg_rounds.specs.Locks.{token_res, ack_res, token_asked}
use Rattle.msg_rounds.specs.Phases.{is_idle}
use Rattle.msg_rounds.specs.Refusals.{is_sender_idle, is_token_held}
use Rattle.msg_rounds.specs.declared.phases.SenderPhase.{SenderPhase}
use Rattle.msg_rounds.specs.declared.phases.SenderPhase.TheVariants as senders
use Rattle.laws_rounds.specs.Machine as rounds
use Rattle.laws_rounds.specs.Following.{three_of, SameThree, entry_of}
use Rattle.laws_rounds.proofs.Three.{three_else, three_token_asked}
use Rattle.laws_rounds.proofs.Follows.{reached_sound, join_follows, come_in_follows, leave_follows, die_follows, leaving_lets_go}
use Rattle.cluster_model.specs.State.{Core}
use Rattle.cluster_model.specs.Guards.{no_node, not_fenced}
use Rattle.cluster_model.specs.Phases.{is_up, is_joining}
use Rattle.cluster_model.specs.Changes.{no_new_dev}
use Rattle.cluster_model.specs.Joining.{join_guards, join, up_guards, up}
use Rattle.cluster_model.specs.Leaving.{leave_guards, leave, die_guards, die}
use Rattle.laws_locks.specs.Following.{rounds_at}
use Rattle.laws_locks.specs.Rounded.{stands, offering}
use Rattle.laws_locks.proofs.Guarded.{first_none, a_node, in_range, tested, living}
use Rattle.laws_locks.proofs.Told.{up_is, joining_is, live_is, idle_is, token_is, quiet_is, token_offers, out_offers, not_live}
use Rattle.laws_locks.proofs.Keeping.{Kept, inv_at, follow_on, not_of_rounds, offers_state, offers_come, still_published, still_offered, live_same, live_at, low_at, slots_none}
use Rattle.laws_locks.proofs.Finishing.{offers_out}

idle_stands : (s : SenderPhase) → s ≡ senders.Idle → stands s ≡ false
idle_stands s e = grind arith

-- PW on the bitmap is none of the three
three_joined : (locks : ℕ → Lock) (n : ℕ) → n < 16 → SameThree (token_asked (with_at locks n (holding (locks n) n PW)) n) (token_asked locks n)
three_joined locks n lt =
    three_token_asked (with_at locks n (holding (locks n) n PW)) n
    ∙ ap (λ l. token_asked l n) (three_else locks n (holding (locks n) n PW) (not_of_rounds n lt))
    ∙ sym (three_token_asked locks n)

none_held : (s : SenderPhase) (held : Option Mode) → holds_token s held ≡ true → s ≡ senders.Idle → held ≡ None
none_held s held e f = grind arith

module _ (members : ℕ → Bool) (past : List rounds.Entry) (core : Core) (k : Kept members past core) where
  pub join_kept : (n : ℕ) → first_of (join_guards core n) ≡ None → Kept members (entry_of (rounds_at core) (rounds.Join n) ∷ past) (join core n)
  join_kept n e =
      let i = inv_at members past (rounds_at core) k.follows.reaches in
      let a = first_none (no_node core n) _ e in
      let b = first_none (not_fenced core n) _ a.1 in
      let c = tested (not (core.members.live n)) _ _ b.1 in
      let lt = a_node core n k.nodes a.0 in
      let out = not_live _ (core.state n) (k.live n) c.0 in
      let idle = out_offers _ (core.sender n) (i.members_are.fitting n) out in
      record {
        follows = follow_on members past (rounds_at core) (rounds_at (join core n)) (rounds.Join n) refl k.follows
            (lt, out)
            (join_follows core.state core.sender core.receiver core.locks (join core n).locks n (three_joined core.locks n lt));
        offers = offers_come core.state core.sender core.offer n states.Joining senders.TokenAsked k.offers (idle_stands _ idle) refl;
        block = λ m o p f. same_block n lt ∙ k.block m o (still_published core.sender n senders.TokenAsked refl m p) f;
        live = live_at core.members.live core.state n states.Joining true k.live refl;
        slots = k.slots;
        nodes = k.nodes;
        low = low_at core.state n states.Joining _ k.low (λ e. in_range core n a.0);
      }
    where
      same_block : (n : ℕ) → n < 16 → ((join core n).locks 17).block ≡ (core.locks 17).block
      same_block n lt = ap (λ l. (l 17).block) (three_joined core.locks n lt)

  pub up_kept : (n : ℕ) → first_of (up_guards core n) ≡ None → Kept members (entry_of (rounds_at core) (rounds.ComeIn n) ∷ past) (up core n)
  up_kept n e =
      let l = living core n _ k.nodes e in
      let a = tested (is_joining (core.state n)) _ _ l.rest in
      let b = tested (is_token_held (core.sender n)) _ _ a.1 in
      record {
        follows = follow_on members past (rounds_at core) (rounds_at (up core n)) (rounds.ComeIn n) refl k.follows
            (joining_is _ a.0, token_is _ b.0)
            (come_in_follows core.state core.sender core.receiver core.locks (up core n).locks n
            (three_else (with_at core.locks ack_res (holding (core.locks ack_res) n CR)) no_new_dev (holding (core.locks no_new_dev) n CR) refl));
        offers = offers_state core.state core.sender core.offer n states.Loaded k.offers (token_offers _ b.0);
        block = k.block;
        live = live_same core.members.live core.state n states.Loaded k.live (sym l.live);
        slots = k.slots;
        nodes = k.nodes;
        low = low_at core.state n states.Loaded _ k.low (λ e. k.low n l.live);
      }

  pub leave_kept : (n : ℕ) → first_of (leave_guards core n) ≡ None → Kept members (entry_of (rounds_at core) (rounds.Leave n) ∷ past) (leave core n)
  leave_kept n e =
      let l = living core n _ k.nodes e in
      let a = tested (is_up (core.state n)) _ _ l.rest in
      let b = tested (is_sender_idle (core.sender n)) _ _ a.1 in
      let c = tested (is_idle (core.receiver n).phase) _ _ b.1 in
      let idle = idle_is _ b.0 in
      let holds = (reached_sound members past (rounds_at core) k.follows.reaches).holds n in
      record {
        follows = follow_on members past (rounds_at core) (rounds_at (leave core n)) (rounds.Leave n) refl k.follows
            (up_is _ a.0, idle, quiet_is _ c.0)
            (leave_follows core.state core.sender core.receiver core.locks (leave core n).locks n
            (leaving_lets_go core.locks n (no_token n idle holds) (holds.calm (rw idle refl) c.0)));
        offers = λ m. leave_offers n idle m;
        block = λ m o p f. k.block m o p (still_offered core.offer n m o f);
        live = live_at core.members.live core.state n states.Out false k.live refl;
        slots = slots_none core.recovery n k.slots;
        nodes = k.nodes;
        low = low_at core.state n states.Out _ k.low (λ e. cc);
      }
    where
      no_token : (n : ℕ) → core.sender n ≡ senders.Idle → NodeHolds (three_of core.locks) n (core.sender n) (core.receiver n).phase → HasJust (core.locks token_res) n None [] []
      no_token n idle h = (none_held _ _ h.sender.token idle, h.sender.token_requests ∙ rw idle refl, h.sender.token_conversions)

      leave_offers : (n : ℕ) → core.sender n ≡ senders.Idle → (m : ℕ) → offering (with_at core.state n states.Out m) (core.sender m) (with_at core.offer n None m) ≡ true
      leave_offers n idle m = grind (arith, nat_tests, k.offers m)

  pub die_kept : (n : ℕ) → first_of (die_guards core n) ≡ None → Kept members (entry_of (rounds_at core) (rounds.Die n) ∷ past) (die core n)
  die_kept n e =
      let l = living core n _ k.nodes e in
      record {
        follows = follow_on members past (rounds_at core) (rounds_at (die core n)) (rounds.Die n) refl k.follows
            (live_is _ l.live)
            (die_follows core.state core.sender core.receiver core.locks (all_died core.locks n) n refl);
        offers = offers_out core.state core.sender core.offer n k.offers;
        block = λ m o p f. k.block m o (still_published core.sender n senders.Idle refl m p) (still_offered core.offer n m o (still_offered (with_at core.offer n None) n m o f));
        live = live_at core.members.live core.state n states.Out false k.live refl;
        slots = slots_none core.recovery n k.slots;
        nodes = k.nodes;
        low = low_at core.state n states.Out _ k.low (λ e. cc);
      }
