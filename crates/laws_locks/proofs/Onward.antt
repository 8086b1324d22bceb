-- That something can be done while a round is open: what the rounds' own guards let happen, the
-- mirror's do, but that a receiver waits for its own writes.
use Rattle.std.proofs.Common.{◌≡◌, ◌<◌, ◌⊎◌, inl, inr, ℕ, Bool, true, false, not, ◌&&◌, List, [], ◌∷◌, Option, Some, None, refl, ◌∙◌, subst, arith}
use Rattle.std.specs.Prelude.{is_some, nat_lt}
use Rattle.std.proofs.lemmas.Bool.Decides.{nat_tests}
use Rattle.dlm_modes.specs.Guards.{or_then, first_of}
use Rattle.dlm_space.specs.declared.ask.Ask.{Ask}
use Rattle.dlm_space.specs.Locks.{Lock, blocker, caller, head_refusal, grant_refusal}
use Rattle.dlm_space.specs.Locks as space
use Rattle.cluster_msgs.specs.declared.msg.Body.{Body}
use Rattle.cluster_msgs.specs.declared.msg.Body.TheVariants as bodies
use Rattle.cluster_msgs.specs.declared.msg.Msg.{Msg}
use Rattle.mdc_types.specs.Geometry.{nodes_of}
use Rattle.mdc_types.specs.declared.events.Event.{Event}
use Rattle.mdc_types.specs.declared.events.Event.TheVariants as events
use Rattle.mdc_types.specs.declared.refusals.Refusal.{Refusal}
use Rattle.mdc_types.specs.declared.refusals.Refusal.TheVariants.{NothingAsked, Draining}
use Rattle.mdc_types.specs.declared.resources.Res.{Res}
use Rattle.mdc_types.specs.declared.resources.Res.TheVariants as resources
use Rattle.mdc_types.specs.declared.roles.NodeState.{NodeState}
use Rattle.mdc_types.specs.declared.roles.NodeState.TheVariants as states
use Rattle.msg_rounds.specs.Locks.{message_res, ack_res}
use Rattle.msg_rounds.specs.Phases.{is_idle}
use Rattle.msg_rounds.specs.Refusals.{is_granted, is_taken, may_resume, is_pr}
use Rattle.msg_rounds.specs.declared.phases.SenderPhase.{SenderPhase}
use Rattle.msg_rounds.specs.declared.phases.SenderPhase.TheVariants as senders
use Rattle.msg_rounds.specs.declared.phases.ReceiverPhase.{ReceiverPhase}
use Rattle.msg_rounds.specs.declared.phases.ReceiverPhase.TheVariants as receivers
use Rattle.laws_rounds.specs.Machine as rounds
use Rattle.laws_rounds.specs.News.{EndsTold}
use Rattle.mirror_io.specs.Flight.{write_within}
use Rattle.node_member.specs.Members.{fenced}
use Rattle.cluster_model.specs.State.{Core, sizes}
use Rattle.cluster_model.specs.Guards.{found_or, refused_by, is_out, of_live}
use Rattle.cluster_model.specs.Phases.{is_up}
use Rattle.cluster_model.specs.Granting.{not_grantable}
use Rattle.cluster_model.specs.Processing.{draining_body, draining_by}
use Rattle.cluster_model.specs.Table.{refusal}
use Rattle.laws_locks.specs.Following.{rounds_at}
use Rattle.laws_locks.specs.Rounded.{Rounded}
use Rattle.laws_locks.specs.Others.{OtherLocks}
use Rattle.laws_locks.specs.Going.{EndsRound, Drains}
use Rattle.laws_locks.proofs.Guarded.{unless_none}

or_none : {R : Type 0} (a b : Option R) → or_then a b ≡ None → (a ≡ None) × (b ≡ None)
or_none None b e = (refl, e)
or_none (Some r) b e = cc

-- A grant.

head_passes : (lock : Lock) (res : Res) (x : Option Ask) → head_refusal lock x ≡ None → first_of (found_or x (NothingAsked res) ∷ not_grantable lock x ∷ []) ≡ None
head_passes lock res None e = cc
head_passes lock res (Some a) e = by_blocker (blocker lock a.node a.mode) refl e
  where
    by_blocker : (y : Option ℕ) → blocker lock a.node a.mode ≡ y → space.not_grantable lock y ≡ None → first_of (found_or (Some a) (NothingAsked res) ∷ not_grantable lock (Some a) ∷ []) ≡ None
    by_blocker None is e = rw is refl
    by_blocker (Some m) is e = cc

-- A live node.

low_test : (n k : ℕ) → n < k → nat_lt n k ≡ true
low_test n k lt = grind (arith, nat_tests)

-- a pending slot's node is out
not_pending : (pending : Bool) (s : NodeState) → (pending ≡ true → s ≡ states.Out) → is_out s ≡ false → pending ≡ false
not_pending true s e f = let out = e refl in grind arith
not_pending false s e f = refl

not_both : (a b : Bool) → b ≡ false → (a && b) ≡ false
not_both a b e = grind arith

busy_up : (s : NodeState) (r : ReceiverPhase) → (is_up s ≡ false → r ≡ receivers.Idle) → is_idle r ≡ false → is_up s ≡ true
busy_up states.Up r e f = refl
busy_up states.Out r e f = let idle = e refl in grind arith
busy_up states.Joining r e f = let idle = e refl in grind arith
busy_up states.Loaded r e f = let idle = e refl in grind arith

up_test : (s : NodeState) → s ≡ states.Up → is_up s ≡ true
up_test s e = grind arith

up_in : (s : NodeState) → is_up s ≡ true → is_out s ≡ false
up_in s e = grind arith

granted_in : (s : NodeState) (x : SenderPhase) → (s ≡ states.Out → x ≡ senders.Idle) → is_granted x ≡ true → is_out s ≡ false
granted_in states.Out x e f = let idle = e refl in grind arith
granted_in states.Up x e f = refl
granted_in states.Joining x e f = refl
granted_in states.Loaded x e f = refl

taken_busy : (r : ReceiverPhase) → is_taken r ≡ true → is_idle r ≡ false
taken_busy r e = grind arith

resumes_busy : (r : ReceiverPhase) → may_resume r ≡ true → is_idle r ≡ false
resumes_busy r e = grind arith

-- What the message asks of the receiver's own writes.

drained_body : (core : Core) (n : ℕ) (b : Body) → (first_of (draining_body core n b) ≡ None) ⊎ ((k : ℕ) × (first_of (draining_body core n b) ≡ Some (Draining k)))
drained_body core n (bodies.Resyncing r) = by_write (write_within r.lo r.hi (core.writes n))
  where
    by_write : (x : Option ℕ) → (first_of (refused_by Draining x ∷ []) ≡ None) ⊎ ((k : ℕ) × (first_of (refused_by Draining x ∷ []) ≡ Some (Draining k)))
    by_write None = inl refl
    by_write (Some k) = inr (k, refl)
drained_body core n b = inl refl

drained_by : (core : Core) (n : ℕ) (m : Option Msg) → (first_of (draining_by core n m) ≡ None) ⊎ ((k : ℕ) × (first_of (draining_by core n m) ≡ Some (Draining k)))
drained_by core n None = inl refl
drained_by core n (Some m) = drained_body core n m.body

-- What may be done.

abbrev pub Onward : Core → Type 0
Onward core = (e : Event) × (EndsRound core e × ((refusal core e ≡ None) ⊎ Drains core e))

module _ (core : Core) (r : Rounded core) (others : OtherLocks core) where
  live_passes : (n : ℕ) (gs : List (Option Refusal)) → is_out (core.state n) ≡ false → first_of (of_live core n gs) ≡ first_of gs
  live_passes n gs live =
      let low : nat_lt n (nodes_of (sizes core)) ≡ true = low_test n _ (r.numbered.below n live) in
      let free : fenced core.members n ≡ false = not_both (core.members.dead n) (core.members.pending n) (not_pending _ _ (others.recoveries.out n) live) in
      rw low (rw free (rw live refl))

  up_where_busy : (n : ℕ) → is_idle (core.receiver n).phase ≡ false → is_out (core.state n) ≡ false
  up_where_busy n busy = up_in _ (busy_up (core.state n) (core.receiver n).phase (r.phased.still n) busy)

  finishes : (n : ℕ) → is_granted (core.sender n) ≡ true → refusal core (events.FinishRound n) ≡ None
  finishes n g = live_passes n _ (granted_in _ _ (r.phased.out n) g) ∙ rw g refl

  takes : (n : ℕ) → is_up (core.state n) ≡ true → is_idle (core.receiver n).phase ≡ true → is_some (caller (core.locks ack_res) n) ≡ true → refusal core (events.Take n) ≡ None
  takes n up idle called = live_passes n _ (up_in _ up) ∙ rw up (rw idle (rw called refl))

  resumes : (n : ℕ) → may_resume (core.receiver n).phase ≡ true → is_pr ((core.locks message_res).held n) ≡ true → refusal core (events.Resume n) ≡ None
  resumes n may pr = live_passes n _ (up_where_busy n (resumes_busy _ may)) ∙ rw may (rw pr refl)

  drops : (n : ℕ) → is_taken (core.receiver n).phase ≡ true → (core.receiver n).gone ≡ true → refusal core (events.DropMessage n) ≡ None
  drops n taken gone = live_passes n _ (up_where_busy n (taken_busy _ taken)) ∙ rw taken (rw gone refl)

  processes : (n : ℕ) → is_taken (core.receiver n).phase ≡ true → not (core.receiver n).gone ≡ true → (refusal core (events.Processed n) ≡ None) ⊎ Drains core (events.Processed n)
  processes n taken here = by_writes (drained_by core n (core.heard n))
    where
      same : refusal core (events.Processed n) ≡ first_of (draining_by core n (core.heard n))
      same = live_passes n _ (up_where_busy n (taken_busy _ taken)) ∙ rw taken (rw here refl)

      by_writes : (first_of (draining_by core n (core.heard n)) ≡ None) ⊎ ((k : ℕ) × (first_of (draining_by core n (core.heard n)) ≡ Some (Draining k))) → (refusal core (events.Processed n) ≡ None) ⊎ Drains core (events.Processed n)
      by_writes (inl none) = inl (same ∙ none)
      by_writes (inr (k, some)) = inr (k, same ∙ some)

  pub onward : (e : rounds.Event) → EndsTold (rounds_at core) e → rounds.May (rounds_at core) e → Onward core
  onward (rounds.Grant k) (inl is) may =
      (events.Grant resources.Ack, (tt, inl (head_passes (core.locks ack_res) resources.Ack _ (subst (λ j. grant_refusal ((rounds_at core).locks j) ≡ None) is may.1))))
  onward (rounds.Grant k) (inr (is, ne)) may =
      (events.Grant resources.Message, (ne, inl (head_passes (core.locks message_res) resources.Message _ (subst (λ j. grant_refusal ((rounds_at core).locks j) ≡ None) is may.1))))
  onward (rounds.Finish n) ends may = (events.FinishRound n, (tt, inl (finishes n (unless_none _ _ may))))
  onward (rounds.Take n) ends may =
      let g = or_none _ _ may.1 in
      (events.Take n, (tt, inl (takes n (up_test _ may.0) (unless_none _ _ g.0) (unless_none _ _ g.1))))
  onward (rounds.Processed n) ends may =
      let g = or_none _ _ may in
      (events.Processed n, (tt, processes n (unless_none _ _ g.0) (unless_none _ _ g.1)))
  onward (rounds.Resume n) ends may =
      let g = or_none _ _ may in
      (events.Resume n, (tt, inl (resumes n (unless_none _ _ g.0) (unless_none _ _ g.1))))
  onward (rounds.Drop n) ends may =
      let g = or_none _ _ may in
      (events.DropMessage n, (tt, inl (drops n (unless_none _ _ g.0) (unless_none _ _ g.1))))
  onward e ends may = absurd ends
