-- Where a way settles a sector, the entry does. And what a node recovered when its slot became pending is
-- remembered.
use Rattle.std.proofs.Common.{◌≡◌, ◌⊎◌, inl, inr, ℕ, ◌==◌, Bool, true, false, not, if◌then◌else◌, List, ◌∷◌, Option, Some, None, refl, sym, ap, subst, ◌∙◌, arith}
use Rattle.std.proofs.lemmas.Bool.Decides.{nat_tests}
use Rattle.dlm_modes.specs.Points.{with_at}
use Rattle.mdc_types.specs.declared.events.Event.{Event}
use Rattle.mdc_types.specs.declared.events.Event.TheVariants as events
use Rattle.mdc_types.specs.declared.events.Wish.{Wish}
use Rattle.mdc_types.specs.declared.events.Wish.TheVariants as wishes
use Rattle.mdc_types.specs.declared.outcomes.Entry.{Entry}
use Rattle.mdc_types.specs.declared.outcomes.Outcome.{Outcome}
use Rattle.mdc_types.specs.declared.outcomes.Outcome.TheVariants as outcomes
use Rattle.msg_rounds.specs.Refusals.{is_message_held, is_granted}
use Rattle.msg_rounds.specs.declared.phases.SenderPhase.{SenderPhase}
use Rattle.msg_rounds.specs.declared.phases.SenderPhase.TheVariants as senders
use Rattle.node_recovery.specs.Progress.{Recovering}
use Rattle.resync_worker.specs.Copying.{Passing}
use Rattle.resync_worker.specs.declared.buffer.Buffer.{Buffer}
use Rattle.plain_history.specs.Seen.{Settles as SettlesSector}
use Rattle.cluster_model.specs.After.{after, done}
use Rattle.cluster_model.specs.Contents.{SoundOpening}
use Rattle.cluster_model.specs.Copying.{buffer_of, settled_with}
use Rattle.cluster_model.specs.Finishing.{finish_offer, finish_wish, round_over}
use Rattle.cluster_model.specs.Guards.{is_out}
use Rattle.cluster_model.specs.Opening.{Origin}
use Rattle.cluster_model.specs.Outcomes.{outcome_of}
use Rattle.cluster_model.specs.Run.{Run, Step, entry}
use Rattle.cluster_model.specs.State.{State, Core, Offer}
use Rattle.cluster_model.specs.Table.{guards}
use Rattle.cluster_model.specs.Transfers.{transfer_of}
use Rattle.laws_roles.specs.Laws.{Tells}
use Rattle.laws_sound.proofs.Guarded.{all_none, unless_none}
use Rattle.storage_ways.proofs.Moving.{quiet_of, quiet_well, done_when}
use Rattle.storage_ways.proofs.Parts.{Part, buffer_in}
use Rattle.storage_ways.proofs.Place.{Around, Place}
use Rattle.storage_ways.proofs.Runs.{around_at, At, place, sound}
use Rattle.storage_ways.proofs.SectorRows.{Settled, settled}
use Rattle.storage_ways.proofs.Sound.{Sound}
use Rattle.storage_ways.proofs.Ways as ways
use Rattle.storage_ways.proofs.Ways.{Way, Ways, Settles}
use Rattle.storage_ways.specs.Moments.{is_moment}
use Rattle.laws_writes.proofs.Settled.{Since, since_after}
use Rattle.laws_recovery.proofs.Recovered.{since_over}
use Rattle.laws_pending.proofs.Ghosts.{Pend, pend_after, slot_of}
use Rattle.laws_pending.proofs.Offers.{no_more, calm_first, calm_last}
use Rattle.laws_pending.proofs.Points.{at_point, same_point, clash, by_test}
use Rattle.laws_pending.proofs.Runs.{pend_over}

-- What a way settles.

pub record SettlesAt (w v : Part) (s : ℕ) : Type 0 where
  pub node : ℕ
  pub passing : Passing
  pub buffer : Buffer
  pub settles : Settles w node passing buffer
  pub sector : buffer.sector ≡ s
  pub sender : v.sender ≡ w.sender
  pub live : v.live ≡ w.live

forgets : (b c : Bool) → (if b then false else c) ≡ true → c ≡ true
forgets true c e = cc
forgets false c e = e

pub settling : (w v : Part) (x : Way w v) (z : Since) (d s : ℕ) → (since_after x z).since d s ≡ true → (z.since d s ≡ true) ⊎ SettlesAt w v s
settling w v (ways.settles n q b x) z d s e = by_test (s == b.sector)
    (λ t. inr (record { node = n; passing = q; buffer = b; settles = x; sector = sym (same_point s b.sector t); sender = refl; live = refl }))
    (λ f. inl (sym (ap (λ c. if c then true else z.since d s) f) ∙ e))
settling w v (ways.dies n told x) z d s e = inl (forgets (d == n) (z.since d s) e)
settling w v (ways.parts n o x) z d s e = inl (forgets (d == n) (z.since d s) e)
settling w v (ways.recovers_slot n k x) z d s e = inl (forgets (d == n) (z.since d s) e)
settling w v x z d s e = inl e

-- ways that count no moment settle nothing
still_way : (w v : Part) (x : Way w v) (z : Since) (d s : ℕ) → v.moments ≡ w.moments → (since_after x z).since d s ≡ true → z.since d s ≡ true
still_way w v (ways.settles n q b x) z d s calm e = no_more w.moments calm
still_way w v (ways.dies n told x) z d s calm e = forgets (d == n) (z.since d s) e
still_way w v (ways.parts n o x) z d s calm e = forgets (d == n) (z.since d s) e
still_way w v (ways.recovers_slot n k x) z d s calm e = forgets (d == n) (z.since d s) e
still_way w v x z d s calm e = e

pub still_over : (w v : Part) (xs : Ways w v) (z : Since) (d s : ℕ) → v.moments ≡ w.moments → (since_over xs z).since d s ≡ true → z.since d s ≡ true
still_over w v ways.none z d s calm e = e
still_over w v (ways.more {u = u} xs y x) z d s calm e =
    still_over w u xs z d s (calm_first w u v xs x calm) (still_way u v x (since_over xs z) d s (calm_last w u v xs x calm) e)

-- What a node recovered when its slot became pending.

none_slot : (x : Option Recovering) → x ≡ None → None ≡ slot_of x
none_slot x e = sym (ap slot_of e)

new_at : (pending : ℕ → Bool) (n d : ℕ) → pending d ≡ false → with_at pending n true d ≡ true → d ≡ n
new_at pending n d was e = by_test (d == n) (λ t. same_point d n t) (λ f. absurd (clash (pending d) (sym (ap (λ b. if b then true else pending d) f) ∙ e) was))

none_new : {P : Type 0} (pending : ℕ → Bool) (n d : ℕ) → pending d ≡ false → with_at pending n false d ≡ true → P
none_new {P = P} pending n d was = at_point (λ (b : Bool). b ≡ true → P) pending n false d (λ is e. cc) (λ apart e. absurd (clash (pending d) e was))

set_was : (was : ℕ → Option ℕ) (n d : ℕ) (x y : Option ℕ) → d ≡ n → x ≡ y → with_at was n x d ≡ y
set_was was n d x y same is = ap (λ b. if b then x else was d) here ∙ is
  where
    here : (d == n) ≡ true
    here = grind (arith, nat_tests)

pub new_was : (w v : Part) (x : Way w v) (p : Pend) (d : ℕ) → w.pending d ≡ false → v.pending d ≡ true → (pend_after x p).was d ≡ slot_of (w.recovery d)
new_was w v (ways.leaves n x) p d was e = none_new w.pending n d was e
new_was w v (ways.quits n x) p d was e = none_new w.pending n d was e
new_was w v (ways.parts n o x) p d was e =
    let same = new_at w.pending n d was e in
    set_was p.was n d None (slot_of (w.recovery d)) same (none_slot (w.recovery d) (subst (λ k. w.recovery k ≡ None) (sym same) x.going.recovery))
new_was w v (ways.dies n told x) p d was e =
    let same = new_at w.pending n d was e in
    set_was p.was n d (slot_of (w.recovery n)) (slot_of (w.recovery d)) same (ap (λ k. slot_of (w.recovery k)) (sym same))
new_was w v (ways.ends_recovery n r x) p d was e = none_new w.pending r.slot d was e
new_was w v x p d was e = absurd (clash (w.pending d) e was)

live_apart : (w : Part) → Sound w → (n d : ℕ) → w.live n ≡ true → w.pending d ≡ true → (d == n) ≡ false
live_apart w s n d live pend = by_test (d == n)
    (λ t. absurd (out (w.live d) (is_out (w.state d)) (subst (λ k. w.live k ≡ true) (sym (same_point d n t)) live) (s.phases.live d) (ap is_out (s.phases.pending d pend))))
    (λ f. f)
  where
    out : (a b : Bool) → a ≡ true → a ≡ not b → b ≡ true → ⊥
    out a b e f g = grind arith

keeps_was : (was : ℕ → Option ℕ) (n d : ℕ) (x : Option ℕ) → (d == n) ≡ false → with_at was n x d ≡ was d
keeps_was was n d x apart = ap (λ b. if b then x else was d) apart

pub was_way : (w v : Part) (x : Way w v) (p : Pend) (d : ℕ) → Sound w → w.pending d ≡ true → (pend_after x p).was d ≡ p.was d
was_way w v (ways.parts n o x) p d s pend = keeps_was p.was n d None (live_apart w s n d x.going.live pend)
was_way w v (ways.dies n told x) p d s pend = keeps_was p.was n d (slot_of (w.recovery n)) (live_apart w s n d x.live pend)
was_way w v x p d s pend = refl

calm_was : (w v : Part) (x : Way w v) (p : Pend) (d : ℕ) → v.moments ≡ w.moments → (pend_after x p).was d ≡ p.was d
calm_was w v (ways.parts n o x) p d calm = no_more w.moments calm
calm_was w v (ways.dies n told x) p d calm = no_more w.moments calm
calm_was w v x p d calm = refl

pub was_over : (w v : Part) (xs : Ways w v) (p : Pend) (d : ℕ) → v.moments ≡ w.moments → (pend_over xs p).was d ≡ p.was d
was_over w v ways.none p d calm = refl
was_over w v (ways.more {u = u} xs y x) p d calm =
    calm_was u v x (pend_over xs p) d (calm_last w u v xs x calm) ∙ was_over w u xs p d (calm_first w u v xs x calm)

-- The entry that settles.

core_of : (mid end : State) (e : Event) (out : Outcome) → Step mid e out end → transfer_of mid.core e ≡ None → end.core ≡ done mid.core e (outcome_of mid.core e)
core_of mid end e out s none =
    s.core
    ∙ ap (after mid.core e) (quiet_of mid e out end.legs none s.moves).is
    ∙ done_when mid.core e (outcome_of mid.core e) (quiet_well mid.core e)

self : (n : ℕ) → (n == n) ≡ true
self n = grind (arith, nat_tests)

-- of a death and of a round the members or the sender tell
dead_there : (live : ℕ → Bool) (n : ℕ) → with_at live n false n ≡ false
dead_there live n = ap (λ b. if b then false else live n) (self n)

sent_there : (sender : ℕ → SenderPhase) (n : ℕ) (x : SenderPhase) → with_at sender n x n ≡ x
sent_there sender n x = ap (λ b. if b then x else sender n) (self n)

whole_idle : (core : Core) (n : ℕ) (o : Offer) (x : Wish) → (finish_wish core n o x).sender ≡ core.sender
whole_idle core n o (wishes.Range r) = refl
whole_idle core n o wishes.Unclean = refl
whole_idle core n o (wishes.NewDisk l) = refl
whole_idle core n o (wishes.Remove l) = refl
whole_idle core n o (wishes.ReAdd l) = refl
whole_idle core n o x = refl

over_idle : (core : Core) (n : ℕ) (x : Option Offer) → (finish_offer core n x).sender n ≡ senders.Idle
over_idle core n None = sent_there core.sender n senders.Idle
over_idle core n (Some o) = ap (λ f. f n) (whole_idle (round_over core n) n o o.wish) ∙ sent_there core.sender n senders.Idle

is_live : (a b : Bool) → b ≡ false → a ≡ not b → a ≡ true
is_live a b e f = grind arith

not_so : (b : Bool) → not b ≡ true → b ≡ false
not_so b e = grind arith

same_buffer : (x y : Option Passing) (p : Passing) (b c : Buffer) → x ≡ y → y ≡ Some p → p.buffer ≡ Some b → buffer_in x ≡ Some c → b ≡ c
same_buffer x y p b c same is at of =
    let here : Some b ≡ Some c = sym at ∙ sym (ap buffer_in (same ∙ is)) ∙ of in cc

module _ (o : Origin) (start : State) (opening : SoundOpening o start) (tells : Tells o start) (past : List Entry) (mid end : State) (run : Run start past mid) (out : Outcome) where
  abbrev W : Part
  W = At o start opening.opens tells past mid

  abbrev V : Event → Part
  V e = At o start opening.opens tells (entry e out ∷ past) end

  known : Sound W
  known = sound o start opening.opens tells past mid run

  settle_entry : (n k : ℕ) (s : Step mid (events.Settle n) out end) → SettlesAt W (V (events.Settle n)) k → SettlesSector (entry (events.Settle n) out) k
  settle_entry n k s x =
      let r : Settled mid.core (around_at o start opening.opens tells past mid) (place o start opening.opens tells past mid run) n
      = settled mid.core (around_at o start opening.opens tells past mid) (place o start opening.opens tells past mid run) n s.accepted in
      let node = known.turns.one n x.node r.settles.buffers.turn x.settles.buffers.turn in
      let same = same_buffer (mid.core.copy n).pass (mid.core.copy x.node).pass x.passing x.buffer r.it.buffer (ap (λ m. (mid.core.copy m).pass) node) x.settles.buffers.pass x.settles.buffers.buffer r.it.of in
      let told = (quiet_of mid (events.Settle n) out end.legs refl s.moves).is ∙ ap settled_with r.it.of in
      record {
        node = n;
        value = x.buffer.value;
        event = refl;
        outcome = told ∙ ap (λ (b : Buffer). outcomes.Settled b.sector b.value) (sym same) ∙ ap (λ t. outcomes.Settled t x.buffer.value) x.sector;
      }

  dies_not : (n k : ℕ) (s : Step mid (events.Die n) out end) → SettlesAt W (V (events.Die n)) k → ⊥
  dies_not n k s x =
      let gone = ap (λ (c : Core). c.members.live n) (core_of mid end (events.Die n) out s refl) ∙ dead_there mid.core.members.live n in
      let was = not_so (is_out (mid.core.state n)) (unless_none (not (is_out (mid.core.state n))) _ (all_none (guards mid.core (events.Die n)) s.accepted).1.1.0) in
      clash (mid.core.members.live n) (is_live (mid.core.members.live n) (is_out (mid.core.state n)) was (known.phases.live n)) (sym (ap (λ f. f n) x.live) ∙ gone)

  offers_not : (n k : ℕ) (wish : Wish) (s : Step mid (events.Offer n wish) out end) → SettlesAt W (V (events.Offer n wish)) k → ⊥
  offers_not n k wish s x =
      let now = ap (λ (c : Core). c.sender n) (core_of mid end (events.Offer n wish) out s refl) ∙ sent_there mid.core.sender n senders.Offered in
      let was = unless_none (is_message_held (mid.core.sender n)) _ (all_none (guards mid.core (events.Offer n wish)) s.accepted).1.1.1.1.0 in
      clash (is_message_held (mid.core.sender n)) was (ap is_message_held (sym (ap (λ f. f n) x.sender) ∙ now))

  finishes_not : (n k : ℕ) (s : Step mid (events.FinishRound n) out end) → SettlesAt W (V (events.FinishRound n)) k → ⊥
  finishes_not n k s x =
      let now = ap (λ (c : Core). c.sender n) (core_of mid end (events.FinishRound n) out s refl) ∙ over_idle mid.core n (mid.core.offer n) in
      let was = unless_none (is_granted (mid.core.sender n)) _ (all_none (guards mid.core (events.FinishRound n)) s.accepted).1.1.1.0 in
      clash (is_granted (mid.core.sender n)) was (ap is_granted (sym (ap (λ f. f n) x.sender) ∙ now))

  -- the entry settles the sector
  pub settled_by : (e : Event) (s : Step mid e out end) (k : ℕ) → is_moment e ≡ true → SettlesAt W (V e) k → SettlesSector (entry e out) k
  settled_by (events.Settle n) s k moment x = settle_entry n k s x
  settled_by (events.Die n) s k moment x = absurd (dies_not n k s x)
  settled_by (events.Offer n wish) s k moment x = absurd (offers_not n k wish s x)
  settled_by (events.FinishRound n) s k moment x = absurd (finishes_not n k s x)
  settled_by e s k moment x = cc
