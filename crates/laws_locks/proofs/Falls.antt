-- That each event which brings a round nearer to its end lowers the rank.
use Rattle.std.proofs.Common.{◌≡◌, ◌<◌, ◌≤◌, inl, inr, ℕ, zero, suc, Bool, true, false, List, ◌∷◌, Option, Some, None, refl, sym, ap, ◌∙◌, subst, arith, if◌then◌else◌}
use Rattle.std.specs.Prelude.{is_some}
use Rattle.std.proofs.lemmas.Bool.Decides.{nat_tests}
use Rattle.dlm_modes.specs.Guards.{first_of}
use Rattle.dlm_space.specs.declared.ask.Ask.{Ask}
use Rattle.mdc_types.specs.declared.events.Event.{Event}
use Rattle.mdc_types.specs.declared.events.Event.TheVariants as events
use Rattle.mdc_types.specs.declared.events.Wish.{Wish}
use Rattle.mdc_types.specs.declared.events.Wish.TheVariants as wishes
use Rattle.mdc_types.specs.declared.outcomes.Outcome.{Outcome}
use Rattle.mdc_types.specs.declared.outcomes.Outcome.TheVariants as outcomes
use Rattle.mdc_types.specs.declared.refusals.Refusal.TheVariants.{NothingAsked}
use Rattle.mdc_types.specs.declared.resources.Res.{Res}
use Rattle.mdc_types.specs.declared.resources.Res.TheVariants as resources
use Rattle.msg_rounds.specs.Locks.{message_res, ack_res}
use Rattle.msg_rounds.specs.Refusals.{is_granted}
use Rattle.laws_rounds.specs.Machine as rounds
use Rattle.laws_rounds.specs.Following.{Reaches, entry_of}
use Rattle.laws_rounds.specs.News.{heads, after_grant, told_rank_of, told_rank_below, told_rank, EndsTold, GoesOnTold}
use Rattle.laws_rounds.proofs.Follows.{reached_goes_on}
use Rattle.cluster_model.specs.State.{State, Core, Offer}
use Rattle.cluster_model.specs.Guards.{found_or}
use Rattle.cluster_model.specs.Granting.{asker, grant_guards, grant_to}
use Rattle.cluster_model.specs.Finishing.{finish_offer}
use Rattle.cluster_model.specs.Transfers.{transfer_of}
use Rattle.cluster_model.specs.Outcomes.{granted_to, outcome_of}
use Rattle.cluster_model.specs.Table.{refusal}
use Rattle.cluster_model.specs.After.{done, after}
use Rattle.cluster_model.specs.Run.{Moves, Quiet, Written, Read, Failed, Left, Step}
use Rattle.laws_locks.specs.Following.{rounds_at, with_events, grant_events, finish_events, finish_offer_events}
use Rattle.laws_locks.specs.Going.{EndsRound, round_rank}
use Rattle.laws_locks.proofs.Guarded.{first_none, found_none, tested, living}
use Rattle.laws_locks.proofs.Told.{no_offer}
use Rattle.laws_locks.proofs.Keeping.{Kept, is_call, call_told}
use Rattle.laws_locks.proofs.Finishing.{granted_stands}
use Rattle.laws_locks.proofs.Steps.{done_kept}

-- Events without a transfer don't fail.

abbrev pub is_plain : Outcome → Bool
is_plain (outcomes.Lost l) = false
is_plain (outcomes.Io l) = false
is_plain (outcomes.Unreached l) = false
is_plain o = true

plain_after : (core : Core) (e : Event) (o : Outcome) → is_plain o ≡ true → after core e o ≡ done core e o
plain_after core e (outcomes.Lost l) p = cc
plain_after core e (outcomes.Io l) p = cc
plain_after core e (outcomes.Unreached l) p = cc
plain_after core e o p = refl

plain_moves : (old : State) (e : Event) (o : Outcome) (new : State) → transfer_of old.core e ≡ None → is_plain (outcome_of old.core e) ≡ true → Moves old e o new.legs → is_plain o ≡ true
plain_moves old e o new t p (Quiet u is l) = ap is_plain is ∙ p
plain_moves old e o new t p (Written x v u a b is l) = cc
plain_moves old e o new t p (Read x v u a b g is l) = cc
plain_moves old e o new t p (Failed x u is l) = cc
plain_moves old e o new t p (Left x v u a b is l) = cc

granted_plain : (x : Option Ask) → is_plain (granted_to x) ≡ true
granted_plain None = refl
granted_plain (Some a) = refl

resumed_plain : (b : Bool) → is_plain (if b then outcomes.Broken else outcomes.Whole) ≡ true
resumed_plain true = refl
resumed_plain false = refl

plain_outcome : (core : Core) (e : Event) → EndsRound core e → (transfer_of core e ≡ None) × (is_plain (outcome_of core e) ≡ true)
plain_outcome core (events.Grant res) ends = (refl, granted_plain (asker core res))
plain_outcome core (events.FinishRound n) ends = (refl, refl)
plain_outcome core (events.Take n) ends = (refl, refl)
plain_outcome core (events.Processed n) ends = (refl, refl)
plain_outcome core (events.Resume n) ends = (refl, resumed_plain (core.receiver n).gone)
plain_outcome core (events.DropMessage n) ends = (refl, refl)
plain_outcome core e ends = absurd ends

pub step_done : (old : State) (e : Event) (o : Outcome) (new : State) → EndsRound old.core e → Step old e o new → new.core ≡ done old.core e o
step_done old e o new ends step =
    let p = plain_outcome old.core e ends in
    step.core ∙ plain_after old.core e o (plain_moves old e o new p.0 p.1 step.moves)

-- Who leaves adds nothing.

below_told_le : (v w : rounds.Rounds) (k : ℕ) → ((n : ℕ) → told_rank_of v n ≤ told_rank_of w n) → told_rank_below v k ≤ told_rank_below w k
unfolding told_rank_below
below_told_le v w zero le = omega arith
below_told_le v w (suc k) le = omega (arith, le k, below_told_le v w k le)

leave_le : (w : rounds.Rounds) (n m : ℕ) → told_rank_of (rounds.after w (rounds.Leave n)) m ≤ told_rank_of w m
leave_le w n m = grind (arith, nat_tests)

le_less : (a b c : ℕ) → a ≤ b → b < c → a < c
le_less a b c p q = omega arith

module _ (members : ℕ → Bool) (past : List rounds.Entry) (core : Core) (k : Kept members past core) where
  reaches : Reaches members past (rounds_at core)
  reaches = k.follows.reaches

  pub going : GoesOnTold (rounds_at core)
  going = reached_goes_on members past (rounds_at core) reaches k.follows.told

  -- one event of the rounds
  call_falls : (e : rounds.Event) (new : Core) → Kept members (entry_of (rounds_at core) e ∷ past) new → EndsTold (rounds_at core) e → is_call e ≡ true → round_rank new < round_rank core
  call_falls e new n ends call =
      let r = n.follows.reaches in
      let may = subst (λ w. rounds.May w e) reaches.leads r.accepted.1.may in
      let is : rounds.after (rounds_at core) e ≡ rounds_at new = ap (λ w. rounds.after w e) (sym reaches.leads) ∙ r.leads in
      going.falls e (rounds_at new) ends may (call_told (rounds_at core) (rounds_at new) e call is)

  -- a grant and its news
  grant_falls : (r : ℕ) (a : Ask) (new : Core) → Kept members (with_events (rounds_at core) (grant_events r (Some a)) past) new → heads (rounds_at core) r ≡ Some a → EndsTold (rounds_at core) (rounds.Grant r) → round_rank new < round_rank core
  grant_falls r a new n h ends =
      let f = n.follows.reaches in
      let may = subst (λ w. rounds.May w (rounds.Grant r)) reaches.leads f.accepted.0.1.may in
      let is : after_grant (rounds_at core) r a ≡ rounds_at new = ap (λ w. after_grant w r a) (sym reaches.leads) ∙ f.leads in
      going.falls (rounds.Grant r) (rounds_at new) ends may (a, (h, sym is))

  asked_falls : (r : ℕ) (res : Res) (x : Option Ask) → Kept members (with_events (rounds_at core) (grant_events r x) past) (grant_to core res x) → is_some x ≡ true → heads (rounds_at core) r ≡ x → EndsTold (rounds_at core) (rounds.Grant r) → round_rank (grant_to core res x) < round_rank core
  asked_falls r res None n s h ends = cc
  asked_falls r res (Some a) n s h ends = grant_falls r a (grant_to core res (Some a)) n h ends

  is_asked : (res : Res) → first_of (grant_guards core res) ≡ None → is_some (asker core res) ≡ true
  is_asked res e = found_none (asker core res) (NothingAsked res) (first_none (found_or (asker core res) (NothingAsked res)) _ e).0

  -- a finish, and then maybe a leave
  finish_falls : (n : ℕ) (w : Wish) (new : Core) → Kept members (with_events (rounds_at core) (finish_events n w) past) new → round_rank new < round_rank core
  finish_falls n wishes.Unclean new f =
      let r = f.follows.reaches in
      let may = subst (λ w. rounds.May w (rounds.Finish n)) reaches.leads r.accepted.0.1.may in
      let mid : rounds.Rounds = rounds.after (rounds_at core) (rounds.Finish n) in
      let is : rounds.after mid (rounds.Leave n) ≡ rounds_at new = ap (λ w. rounds.after (rounds.after w (rounds.Finish n)) (rounds.Leave n)) (sym reaches.leads) ∙ r.leads in
      let first : told_rank mid < round_rank core = going.falls (rounds.Finish n) mid tt may refl in
      let second : told_rank (rounds.after mid (rounds.Leave n)) ≤ told_rank mid = below_told_le _ mid 16 (leave_le mid n) in
      subst (λ w. told_rank w < round_rank core) is (le_less _ _ _ second first)
  finish_falls n w new f = call_falls (rounds.Finish n) new f tt refl

  offer_falls : (n : ℕ) (x : Option Offer) → core.offer n ≡ x → is_granted (core.sender n) ≡ true → Kept members (with_events (rounds_at core) (finish_offer_events n x) past) (finish_offer core n x) → round_rank (finish_offer core n x) < round_rank core
  offer_falls n None is g f = absurd (no_offer _ _ _ (k.offers n) (granted_stands _ g) is)
  offer_falls n (Some o) is g f = finish_falls n o.wish _ f

  pub done_falls : (e : Event) (o : Outcome) → EndsRound core e → refusal core e ≡ None → round_rank (done core e o) < round_rank core
  done_falls (events.Grant resources.Ack) o ends ok = asked_falls ack_res resources.Ack (asker core resources.Ack) (done_kept members past core k (events.Grant resources.Ack) o ok) (is_asked resources.Ack ok) refl (inl refl)
  done_falls (events.Grant resources.Message) o ends ok = asked_falls message_res resources.Message (asker core resources.Message) (done_kept members past core k (events.Grant resources.Message) o ok) (is_asked resources.Message ok) refl (inr (refl, ends))
  done_falls (events.FinishRound n) o ends ok =
      let l = living core n _ k.nodes ok in
      let g = tested (is_granted (core.sender n)) _ _ l.rest in
      offer_falls n (core.offer n) refl g.0 (done_kept members past core k (events.FinishRound n) o ok)
  done_falls (events.Take n) o ends ok = call_falls (rounds.Take n) _ (done_kept members past core k (events.Take n) o ok) tt refl
  done_falls (events.Processed n) o ends ok = call_falls (rounds.Processed n) _ (done_kept members past core k (events.Processed n) o ok) tt refl
  done_falls (events.Resume n) o ends ok = call_falls (rounds.Resume n) _ (done_kept members past core k (events.Resume n) o ok) tt refl
  done_falls (events.DropMessage n) o ends ok = call_falls (rounds.Drop n) _ (done_kept members past core k (events.DropMessage n) o ok) tt refl
  done_falls e o ends ok = absurd ends
