-- What is known at each place of a run: phases and locks, ranges, messages, and who hears whom.
use Rattle.std.proofs.Common.{◌≡◌, inl, inr, ℕ, Bool, true, false, List, [], ◌∷◌, Option, Some, None, refl, sym, subst, ◌∙◌, arith}
use Rattle.std.proofs.lemmas.Bool.{cases_lt}
use Rattle.std.proofs.lemmas.Bool.Decides.{nat_tests}
use Rattle.dlm_modes.specs.declared.mode.Mode.{Mode}
use Rattle.dlm_modes.specs.declared.mode.Mode.TheVariants.{CR, PR, EX}
use Rattle.dlm_space.specs.Queues.{asks_of}
use Rattle.mdc_types.specs.Roles.{role_of, eight}
use Rattle.mdc_types.proofs.RolesLaws.{role_of-eight, role_of-eight_past}
use Rattle.mdc_types.specs.Geometry.{Sizes, IsGeometry}
use Rattle.mdc_types.specs.declared.events.Wish.{Wish}
use Rattle.mdc_types.specs.declared.events.Wish.TheVariants as wishes
use Rattle.mdc_types.specs.declared.outcomes.Entry.{Entry}
use Rattle.mdc_types.specs.declared.roles.Role.{Role}
use Rattle.msg_rounds.specs.Holds.{token_request, message_request, message_conversion, ack_conversion}
use Rattle.msg_rounds.specs.Locks.{token_res, message_res, ack_res}
use Rattle.msg_rounds.specs.Phases.{is_idle, has_published}
use Rattle.msg_rounds.specs.Refusals.{is_pr}
use Rattle.msg_rounds.specs.declared.phases.SenderPhase.{SenderPhase}
use Rattle.msg_rounds.specs.declared.phases.SenderPhase.TheVariants as senders
use Rattle.msg_rounds.specs.declared.phases.ReceiverPhase.{ReceiverPhase}
use Rattle.msg_rounds.specs.declared.phases.ReceiverPhase.TheVariants as receivers
use Rattle.laws_rounds.specs.Invariants.{Inv, fits}
use Rattle.laws_rounds.specs.Machine as rounds
use Rattle.cluster_model.specs.State.{State, Core, Offer}
use Rattle.cluster_model.specs.Phases.{is_metadata}
use Rattle.cluster_model.specs.Opening.{Origin, is_member}
use Rattle.cluster_model.specs.Contents.{Opens}
use Rattle.cluster_model.specs.Publishing.{body_of}
use Rattle.cluster_model.specs.Receiving.{is_state_body}
use Rattle.cluster_model.specs.Run.{Run}
use Rattle.laws_locks.specs.Following.{rounds_at, core_after, AreAccepted, rounds_in}
use Rattle.laws_locks.specs.Empties.{UpOnly}
use Rattle.laws_locks.specs.Rounded.{Rounded}
use Rattle.laws_locks.proofs.OtherRuns.{only_up}
use Rattle.laws_locks.proofs.Keeping.{Kept, inv_at}
use Rattle.laws_locks.proofs.Runs.{run_kept, run_is}
use Rattle.laws_locks.proofs.Facts.{rounded}
use Rattle.laws_sound.specs.Laws.{InRange, KeepsALeg, MessagesRead, OffersWritten}
use Rattle.laws_sound.specs.Legs.{SpareBeyond}
use Rattle.laws_sound.proofs.Runs.{runs_are_in_range, runs_keep_a_leg, messages_are_read, offers_are_written}
use Rattle.laws_roles.proofs.Parts.{body_role, body_size}
use Rattle.laws_roles.proofs.Ways.{AreEight}

-- who asks for a lock, by its queues
pub record Askers (core : Core) : Type 0 where
  pub token : (n : ℕ) (m : Mode) (ms : List Mode)
      → asks_of n (core.locks token_res).requests ≡ m ∷ ms → core.sender n ≡ senders.TokenAsked
  pub token_none : (core.locks token_res).conversions ≡ []
  pub message : (n : ℕ) (m : Mode) (ms : List Mode)
      → asks_of n (core.locks message_res).requests ≡ m ∷ ms
      → (core.sender n ≡ senders.MessageAsked) × (m ≡ EX)
  pub converts : (n : ℕ) (m : Mode) (ms : List Mode)
      → asks_of n (core.locks message_res).conversions ≡ m ∷ ms
      → ((core.receiver n).phase ≡ receivers.Waiting) × (m ≡ PR)
  pub ack : (n : ℕ) (m : Mode) (ms : List Mode)
      → asks_of n (core.locks ack_res).conversions ≡ m ∷ ms → core.sender n ≡ senders.Published
  pub ack_none : (core.locks ack_res).requests ≡ []
  -- what a sender may be doing in a state
  pub fits : (n : ℕ) → fits (core.state n) (core.sender n) ≡ true

-- who hears a published message
pub record Heard (core : Core) : Type 0 where
  pub from : (n m : ℕ) → has_published (core.sender n) ≡ true
      → is_idle (core.receiver m).phase ≡ false → (core.receiver m).from ≡ n
  pub gone : (n m : ℕ) → has_published (core.sender n) ≡ true
      → is_idle (core.receiver m).phase ≡ false → (core.receiver m).gone ≡ false
  -- with PR on `message` nobody has published
  pub read : (n : ℕ) → is_pr ((core.locks message_res).held n) ≡ true
      → (m : ℕ) → has_published (core.sender m) ≡ false

pub record Known (core : Core) : Type 0 where
  pub rounded : Rounded core
  pub askers : Askers core
  pub heard : Heard core
  pub range : InRange core
  pub leg : KeepsALeg core
  pub read : MessagesRead core
  pub written : OffersWritten core
  pub empty : UpOnly core

-- Askers.

asks_token : (s : SenderPhase) (held : Option Mode) (m : Mode) (ms : List Mode) → token_request s held ≡ m ∷ ms → s ≡ senders.TokenAsked
asks_token senders.TokenAsked held m ms e = refl
asks_token s held m ms e = cc

asks_message : (s : SenderPhase) (held : Option Mode) (m : Mode) (ms : List Mode) → message_request s held ≡ m ∷ ms → (s ≡ senders.MessageAsked) × (m ≡ EX)
asks_message senders.MessageAsked None m ms e = (refl, cc)
asks_message senders.MessageAsked (Some h) m ms e = cc
asks_message s held m ms e = cc

converts_message : (r : ReceiverPhase) (held : Option Mode) (m : Mode) (ms : List Mode) → message_conversion r held ≡ m ∷ ms → (r ≡ receivers.Waiting) × (m ≡ PR)
converts_message receivers.Waiting (Some CR) m ms e = (refl, cc)
converts_message receivers.Waiting (Some h) m ms e = cc
converts_message r held m ms e = cc

asks_ack : (s : SenderPhase) (held : Option Mode) (m : Mode) (ms : List Mode) → ack_conversion s held ≡ m ∷ ms → s ≡ senders.Published
asks_ack senders.Published held m ms e = refl
asks_ack s held m ms e = cc

askers : (core : Core) (members : ℕ → Bool) (past : List rounds.Entry) → Inv (rounds_at core) members past → Askers core
askers core members past i = record {
  token = λ n m ms e. asks_token (core.sender n) ((core.locks token_res).held n) m ms (sym (i.queues.token_requests n) ∙ e);
  token_none = i.queues.token_conversions;
  message = λ n m ms e. asks_message (core.sender n) ((core.locks message_res).held n) m ms (sym (i.queues.message_requests n) ∙ e);
  converts = λ n m ms e. converts_message (core.receiver n).phase ((core.locks message_res).held n) m ms (sym (i.queues.message_conversions n) ∙ e);
  ack = λ n m ms e. asks_ack (core.sender n) ((core.locks ack_res).held n) m ms (sym (i.queues.ack_conversions n) ∙ e);
  ack_none = i.queues.ack_requests;
  fits = i.members_are.fitting;
}

-- Hearers.

hears_from : (w : rounds.Rounds) (members : ℕ → Bool) (past : List rounds.Entry) → Inv w members past → (n m : ℕ) → has_published (w.sender n) ≡ true → is_idle (w.receiver m) ≡ false → w.from m ≡ n
hears_from w members past i n m p b = grind (arith, nat_tests, i.told.block n p, i.told.from m b)

hears_gone : (w : rounds.Rounds) (members : ℕ → Bool) (past : List rounds.Entry) → Inv w members past → (n m : ℕ) → has_published (w.sender n) ≡ true → is_idle (w.receiver m) ≡ false → w.gone m ≡ false
hears_gone w members past i n m p b = grind (arith, i.told.fate_open n p, i.told.gone m b)

pr_alone : (w : rounds.Rounds) (members : ℕ → Bool) (past : List rounds.Entry) → Inv w members past → (n : ℕ) → is_pr ((w.locks message_res).held n) ≡ true → (m : ℕ) → has_published (w.sender m) ≡ false
pr_alone w members past i n pr m = grind (arith, nat_tests, i.apart.message n m, i.held.message n, i.held.message m, i.members_are.sending m)

heard : (core : Core) (members : ℕ → Bool) (past : List rounds.Entry) → Inv (rounds_at core) members past → Heard core
heard core members past i = record {
  from = hears_from (rounds_at core) members past i;
  gone = hears_gone (rounds_at core) members past i;
  read = pr_alone (rounds_at core) members past i;
}

-- Messages.

pub state_body : (core : Core) (o : Offer) (w : Wish) → is_state_body (body_of core o w) ≡ is_metadata w
state_body core o wishes.Meta = refl
state_body core o (wishes.Spare l) = refl
state_body core o (wishes.Rebuild l) = refl
state_body core o (wishes.Work l) = refl
state_body core o (wishes.Range r) = refl
state_body core o (wishes.NewDisk l) = refl
state_body core o (wishes.Remove l) = refl
state_body core o (wishes.ReAdd l) = refl
state_body core o wishes.Unclean = refl
state_body core o (wishes.Grow z) = refl

pub state_role : (core : Core) (o : Offer) (w : Wish) (l : ℕ) → is_metadata w ≡ true → body_role (body_of core o w) l ≡ role_of (eight o.role) l
state_role core o wishes.Meta l e = refl
state_role core o (wishes.Spare k) l e = refl
state_role core o (wishes.Rebuild k) l e = refl
state_role core o (wishes.Work k) l e = refl
state_role core o (wishes.Grow z) l e = refl
state_role core o w l e = cc

pub state_size : (core : Core) (o : Offer) (w : Wish) → is_metadata w ≡ true → body_size (body_of core o w) ≡ o.size
state_size core o wishes.Meta e = refl
state_size core o (wishes.Spare k) e = refl
state_size core o (wishes.Rebuild k) e = refl
state_size core o (wishes.Work k) e = refl
state_size core o (wishes.Grow z) e = refl
state_size core o w e = cc

-- roles that are spare past the legs are told by eight
pub are_eight : (g : Sizes) (role : ℕ → Role) → IsGeometry g → SpareBeyond g role → AreEight role
are_eight g role i spare l = elim (cases_lt l 8) [
  | inl lt ↦ role_of-eight role l lt
  | inr past ↦ role_of-eight_past role l past ∙ sym (spare l (omega (arith, past, i.legs.1)))
]

-- Along runs.

known_at : (o : Origin) (start end : State) (past : List Entry) → Opens o start → Run start past end → (accepted : AreAccepted o past) → end.core ≡ core_after o past → Known end.core
known_at o start end past opens run accepted leads =
    let k : Kept (is_member o) (rounds_in o past) end.core = subst (Kept (is_member o) (rounds_in o past)) (sym leads) (run_kept o opens.origin past accepted) in
    let i = inv_at (is_member o) (rounds_in o past) (rounds_at end.core) k.follows.reaches in
    record {
      rounded = rounded (is_member o) (rounds_in o past) end.core k;
      askers = askers end.core (is_member o) (rounds_in o past) i;
      heard = heard end.core (is_member o) (rounds_in o past) i;
      range = runs_are_in_range o start end past opens run;
      leg = runs_keep_a_leg o start end past opens run;
      read = messages_are_read o start end past opens run;
      written = offers_are_written o start end past opens run;
      empty = only_up o start end past opens.origin opens.core run;
    }

pub known : (o : Origin) (start end : State) (past : List Entry) → Opens o start → Run start past end → Known end.core
known o start end past opens run =
    let r = run_is o start opens.core past end run in known_at o start end past opens run r.accepted r.leads
