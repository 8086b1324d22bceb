-- Offers that stand tell what their nodes offered last, and a slot becomes pending where its entries
-- say so.
use Rattle.std.proofs.Common.{◌≡◌, ℕ, suc, ◌==◌, ◌≤◌, ◌&&◌, Bool, true, false, if◌then◌else◌, List, [], ◌∷◌, Option, Some, None, refl, sym, ap, subst, ◌∙◌, arith}
use Rattle.std.proofs.lemmas.Bool.Decides.{nat_tests}
use Rattle.dlm_modes.specs.Points.{with_at}
use Rattle.mdc_types.specs.declared.events.Event.{Event}
use Rattle.mdc_types.specs.declared.events.Event.TheVariants as events
use Rattle.mdc_types.specs.declared.events.Wish.{Wish}
use Rattle.mdc_types.specs.declared.events.Wish.TheVariants as wishes
use Rattle.mdc_types.specs.declared.outcomes.Entry.{Entry}
use Rattle.mdc_types.specs.declared.outcomes.Outcome.{Outcome}
use Rattle.node_member.specs.Members.{Members, drawn_one}
use Rattle.resync_worker.specs.declared.buffer.Buffer.{Buffer}
use Rattle.cluster_model.specs.After.{after, done}
use Rattle.cluster_model.specs.Contents.{Opens}
use Rattle.cluster_model.specs.Copying.{settle_buffer, buffer_of}
use Rattle.cluster_model.specs.Finishing.{finish_offer, finish_wish, round_over}
use Rattle.cluster_model.specs.Opening.{Origin}
use Rattle.cluster_model.specs.Outcomes.{outcome_of}
use Rattle.cluster_model.specs.Phases.{is_metadata, is_unclean}
use Rattle.cluster_model.specs.Recovered.{makes_pending, offered_unclean, wish_step, wish_in}
use Rattle.cluster_model.specs.Run.{Run, Step}
use Rattle.cluster_model.specs.State.{State, Core, Offer}
use Rattle.cluster_model.specs.Superblocks.{written_on}
use Rattle.cluster_model.specs.Transfers.{transfer_of}
use Rattle.cluster_model.specs.Wishes.{offer_of}
use Rattle.laws_roles.specs.Laws.{Tells}
use Rattle.storage_ways.proofs.Moving.{quiet_of, quiet_well, done_when}
use Rattle.storage_ways.proofs.Parts.{Part}
use Rattle.storage_ways.proofs.Runs.{At, run_ways}
use Rattle.storage_ways.proofs.Ways as ways
use Rattle.storage_ways.proofs.Ways.{Way, Ways}
use Rattle.storage_ways.specs.Moments.{is_moment, moments_in}
use Rattle.laws_pending.proofs.Points.{at_point, same_point, clash, by_test}

-- Ways that count no moment.

pub no_more : {P : Type 0} (k : ℕ) → suc k ≡ k → P
no_more k e = absurd (omega (arith, e))

one_more : (k : ℕ) → k ≤ suc k
one_more k = omega arith

no_less : (k : ℕ) → k ≤ k
no_less k = omega arith

pub grows : (w v : Part) (x : Way w v) → w.moments ≤ v.moments
grows w v (ways.offers n o x) = one_more w.moments
grows w v (ways.opens n r o x e) = one_more w.moments
grows w v (ways.announces n o x a b c) = one_more w.moments
grows w v (ways.finishes n o x e) = one_more w.moments
grows w v (ways.parts n o x) = one_more w.moments
grows w v (ways.dies n told x) = one_more w.moments
grows w v (ways.settles n p b x) = one_more w.moments
grows w v x = no_less w.moments

pub grow : (w v : Part) (xs : Ways w v) → w.moments ≤ v.moments
grow w v ways.none = no_less w.moments
grow w v (ways.more {u = u} xs s x) = let a = grow w u xs in let b = grows u v x in omega (arith, a, b)

-- of ways that count none, neither the first nor the last does
pub calm_first : (w u v : Part) (xs : Ways w u) (x : Way u v) → v.moments ≡ w.moments → u.moments ≡ w.moments
calm_first w u v xs x calm = let a = grow w u xs in let b = grows u v x in omega (arith, a, b, calm)

pub calm_last : (w u v : Part) (xs : Ways w u) (x : Way u v) → v.moments ≡ w.moments → v.moments ≡ u.moments
calm_last w u v xs x calm = let a = grow w u xs in let b = grows u v x in omega (arith, a, b, calm)

-- the offer stood, maybe on fewer legs
pub record Stood (x : Option Offer) (q : Offer) : Type 0 where
  pub offer : Offer
  pub is : x ≡ Some offer
  pub wish : offer.wish ≡ q.wish

-- what stands, stood, and what is pending was
pub record Less (w v : Part) : Type 0 where
  pub offers : (m : ℕ) (q : Offer) → v.offer m ≡ Some q → Stood (w.offer m) q
  pub pending : (d : ℕ) → v.pending d ≡ true → w.pending d ≡ true

stood : (x : Option Offer) (q : Offer) → x ≡ Some q → Stood x q
stood x q e = record { offer = q; is = e; wish = refl }

none_stands : (offer : ℕ → Option Offer) (n m : ℕ) (q : Offer) → with_at offer n None m ≡ Some q → offer m ≡ Some q
none_stands offer n m q = at_point (λ (x : Option Offer). x ≡ Some q → offer m ≡ Some q) offer n None m (λ is e. cc) (λ apart e. e)

none_pends : (pending : ℕ → Bool) (n d : ℕ) → with_at pending n false d ≡ true → pending d ≡ true
none_pends pending n d = at_point (λ (b : Bool). b ≡ true → pending d ≡ true) pending n false d (λ is e. cc) (λ apart e. e)

written_stood : (offer : ℕ → Option Offer) (n l m : ℕ) (o q : Offer) → offer n ≡ Some o → with_at offer n (Some (written_on l o)) m ≡ Some q → Stood (offer m) q
written_stood offer n l m o q at = at_point (λ (x : Option Offer). x ≡ Some q → Stood (offer m) q) offer n (Some (written_on l o)) m
    (λ is e. record { offer = o; is = ap offer is ∙ at; wish = same e })
    (λ apart e. stood (offer m) q e)
  where
    same : Some (written_on l o) ≡ Some q → o.wish ≡ q.wish
    same e = let is : written_on l o ≡ q = cc in ap (λ (x : Offer). x.wish) is

offers_less : (w v : Part) (x : Way w v) → v.moments ≡ w.moments → (m : ℕ) (q : Offer) → v.offer m ≡ Some q → Stood (w.offer m) q
offers_less w v (ways.voids n s a b c) calm m q e = stood (w.offer m) q (none_stands w.offer n m q e)
offers_less w v (ways.offers n o x) calm m q e = no_more w.moments calm
offers_less w v (ways.opens n r o x is) calm m q e = no_more w.moments calm
offers_less w v (ways.announces n o x a b c) calm m q e = no_more w.moments calm
offers_less w v (ways.finishes n o x is) calm m q e = no_more w.moments calm
offers_less w v (ways.writes_super n l o x) calm m q e = written_stood w.offer n l m o q x.offer e
offers_less w v (ways.leaves n x) calm m q e = stood (w.offer m) q (none_stands w.offer n m q e)
offers_less w v (ways.quits n x) calm m q e = stood (w.offer m) q (none_stands w.offer n m q e)
offers_less w v (ways.parts n o x) calm m q e = no_more w.moments calm
offers_less w v (ways.dies n told x) calm m q e = no_more w.moments calm
offers_less w v x calm m q e = stood (w.offer m) q e

pending_less : (w v : Part) (x : Way w v) → v.moments ≡ w.moments → (d : ℕ) → v.pending d ≡ true → w.pending d ≡ true
pending_less w v (ways.leaves n x) calm d e = none_pends w.pending n d e
pending_less w v (ways.quits n x) calm d e = none_pends w.pending n d e
pending_less w v (ways.parts n o x) calm d e = no_more w.moments calm
pending_less w v (ways.dies n told x) calm d e = no_more w.moments calm
pending_less w v (ways.ends_recovery n r x) calm d e = none_pends w.pending r.slot d e
pending_less w v x calm d e = e

stood_before : (x y : Option Offer) (q : Offer) → Stood y q → ((p : Offer) → y ≡ Some p → Stood x p) → Stood x q
stood_before x y q s before = let old = before s.offer s.is in record { offer = old.offer; is = old.is; wish = old.wish ∙ s.wish }

less_over : (w v : Part) (xs : Ways w v) → v.moments ≡ w.moments → Less w v
less_over w v ways.none calm = record { offers = λ m q e. stood (w.offer m) q e; pending = λ d e. e }
less_over w v (ways.more {u = u} xs s x) calm =
    let old = less_over w u xs (calm_first w u v xs x calm) in
    let last = calm_last w u v xs x calm in
    record {
      offers = λ m q e. stood_before (w.offer m) (u.offer m) q (offers_less u v x last m q e) (old.offers m);
      pending = λ d e. old.pending d (pending_less u v x last d e);
    }

-- Moments.

moment_quiet : (core : Core) (e : Event) → is_moment e ≡ true → transfer_of core e ≡ None
moment_quiet core (events.Die n) m = refl
moment_quiet core (events.Offer n wish) m = refl
moment_quiet core (events.FinishRound n) m = refl
moment_quiet core (events.Settle n) m = refl
moment_quiet core e m = cc

-- a moment does what its event does where nothing fails
moment_core : (mid end : State) (x : Entry) → Step mid x.event x.outcome end → is_moment x.event ≡ true → end.core ≡ done mid.core x.event (outcome_of mid.core x.event)
moment_core mid end x s m =
    s.core
    ∙ ap (after mid.core x.event) (quiet_of mid x.event x.outcome end.legs (moment_quiet mid.core x.event m) s.moves).is
    ∙ done_when mid.core x.event (outcome_of mid.core x.event) (quiet_well mid.core x.event)

-- each node's offer has the wish that it offered last
abbrev pub Fits : List Entry → (ℕ → Option Offer) → Type 0
Fits past offer = (m : ℕ) (q : Offer) → offer m ≡ Some q → wish_in m past ≡ Some q.wish

same_wish : (e : Event) (m : ℕ) (last : Option Wish) → is_moment e ≡ false → wish_step m e last ≡ last
same_wish (events.Offer n wish) m last calm = cc
same_wish e m last calm = refl

offered_fits : (core : Core) (n m : ℕ) (wish : Wish) (last : Option Wish) (q : Offer) → (core.offer m ≡ Some q → last ≡ Some q.wish) → with_at core.offer n (Some (offer_of core n wish)) m ≡ Some q → (if n == m then Some wish else last) ≡ Some q.wish
offered_fits core n m wish last q old = at_point (λ (x : Option Offer). x ≡ Some q → (if n == m then Some wish else last) ≡ Some q.wish) core.offer n (Some (offer_of core n wish)) m
    (λ is e. ap (λ b. if b then Some wish else last) (self is) ∙ ap Some (same e))
    (λ apart e. ap (λ b. if b then Some wish else last) (turned apart) ∙ old e)
  where
    same : Some (offer_of core n wish) ≡ Some q → wish ≡ q.wish
    same e = let is : offer_of core n wish ≡ q = cc in ap (λ (x : Offer). x.wish) is

    self : m ≡ n → (n == m) ≡ true
    self is = grind (arith, nat_tests)

    turned : (m == n) ≡ false → (n == m) ≡ false
    turned e = grind (arith, nat_tests)

finish_stands : (core : Core) (n : ℕ) (o : Offer) (x : Wish) (m : ℕ) (q : Offer) → (finish_wish core n o x).offer m ≡ Some q → core.offer m ≡ Some q
finish_stands core n o (wishes.Range r) m q e = e
finish_stands core n o wishes.Unclean m q e = none_stands core.offer n m q e
finish_stands core n o (wishes.NewDisk l) m q e = e
finish_stands core n o (wishes.Remove l) m q e = e
finish_stands core n o (wishes.ReAdd l) m q e = e
finish_stands core n o x m q e = e

over_stands : (core : Core) (n : ℕ) (x : Option Offer) (m : ℕ) (q : Offer) → (finish_offer core n x).offer m ≡ Some q → core.offer m ≡ Some q
over_stands core n None m q e = none_stands core.offer n m q e
over_stands core n (Some o) m q e = none_stands core.offer n m q (finish_stands (round_over core n) n o o.wish m q e)

settle_stands : (core : Core) (n : ℕ) (x : Option Buffer) (m : ℕ) (q : Offer) → (settle_buffer core n x).offer m ≡ Some q → core.offer m ≡ Some q
settle_stands core n None m q e = e
settle_stands core n (Some b) m q e = e

fits_done : (past : List Entry) (core : Core) (e : Event) (o : Outcome) → Fits past core.offer → is_moment e ≡ true → (m : ℕ) (q : Offer) → (done core e o).offer m ≡ Some q → wish_step m e (wish_in m past) ≡ Some q.wish
fits_done past core (events.Die n) o fits moment m q e = fits m q (none_stands core.offer n m q (none_stands (with_at core.offer n None) n m q e))
fits_done past core (events.Offer n wish) o fits moment m q e = offered_fits core n m wish (wish_in m past) q (fits m q) e
fits_done past core (events.FinishRound n) o fits moment m q e = fits m q (over_stands core n (core.offer n) m q e)
fits_done past core (events.Settle n) o fits moment m q e = fits m q (settle_stands core n (buffer_of core n) m q e)
fits_done past core e o fits moment m q is = cc

-- A slot that is pending was, or its entries say that it has become so.

drawn_pends : (b : Bool) (m : Members) → (if b then drawn_one m else m).pending ≡ m.pending
drawn_pends true m = refl
drawn_pends false m = refl

settle_pends : (core : Core) (n : ℕ) (x : Option Buffer) → (settle_buffer core n x).members.pending ≡ core.members.pending
settle_pends core n None = refl
settle_pends core n (Some b) = refl

new_pends : (pending : ℕ → Bool) (n d : ℕ) → (n == d) ≡ false → with_at pending n true d ≡ true → pending d ≡ true
new_pends pending n d other = at_point (λ (b : Bool). b ≡ true → pending d ≡ true) pending n true d (λ is e. absurd (clash (n == d) (self is) other)) (λ apart e. e)
  where
    self : d ≡ n → (n == d) ≡ true
    self is = grind (arith, nat_tests)

and_false : (a b : Bool) → (a && b) ≡ false → b ≡ true → a ≡ false
and_false a b e f = grind arith

finish_pends : (core : Core) (n d : ℕ) (o : Offer) (x : Wish) → (is_unclean x ≡ true → (n == d) ≡ false) → (finish_wish core n o x).members.pending d ≡ true → core.members.pending d ≡ true
finish_pends core n d o (wishes.Range r) other e = e
finish_pends core n d o wishes.Unclean other e = new_pends core.members.pending n d (other refl) e
finish_pends core n d o (wishes.NewDisk l) other e = e
finish_pends core n d o (wishes.Remove l) other e = e
finish_pends core n d o (wishes.ReAdd l) other e = e
finish_pends core n d o x other e = e

over_pends : (past : List Entry) (core : Core) (n d : ℕ) (x : Option Offer) → Fits past core.offer → core.offer n ≡ x → ((n == d) && offered_unclean (wish_in d past)) ≡ false → (finish_offer core n x).members.pending d ≡ true → core.members.pending d ≡ true
over_pends past core n d None fits is not_made e = e
over_pends past core n d (Some o) fits is not_made e = finish_pends (round_over core n) n d o o.wish other e
  where
    other : is_unclean o.wish ≡ true → (n == d) ≡ false
    other unclean = by_test (n == d)
        (λ t. and_false (n == d) (offered_unclean (wish_in d past)) not_made (ap offered_unclean (subst (λ k. wish_in k past ≡ Some o.wish) (same_point n d t) (fits n o is)) ∙ unclean))
        (λ f. f)

back_done : (past : List Entry) (core : Core) (e : Event) (o : Outcome) (d : ℕ) → Fits past core.offer → is_moment e ≡ true → makes_pending d past e ≡ false → (done core e o).members.pending d ≡ true → core.members.pending d ≡ true
back_done past core (events.Die n) o d fits moment not_made e = new_pends core.members.pending n d not_made e
back_done past core (events.Offer n wish) o d fits moment not_made e = sym (ap (λ f. f d) (drawn_pends (is_metadata wish) core.members)) ∙ e
back_done past core (events.FinishRound n) o d fits moment not_made e = over_pends past core n d (core.offer n) fits refl not_made e
back_done past core (events.Settle n) o d fits moment not_made e = sym (ap (λ f. f d) (settle_pends core n (buffer_of core n))) ∙ e
back_done past core e o d fits moment not_made is = cc

-- Along a run.

module _ (o : Origin) (start : State) (opens : Opens o start) (tells : Tells o start) where
  pub same_moments : (past : List Entry) (mid end : State) (x : Entry) → is_moment x.event ≡ false → (At o start opens tells (x ∷ past) end).moments ≡ (At o start opens tells past mid).moments
  same_moments past mid end x calm = ap (λ b. if b then suc (moments_in past) else moments_in past) calm

  pub less : (past : List Entry) (mid end : State) (x : Entry) → Run start past mid → Step mid x.event x.outcome end → is_moment x.event ≡ false → Less (At o start opens tells past mid) (At o start opens tells (x ∷ past) end)
  less past mid end x run s calm = less_over (At o start opens tells past mid) (At o start opens tells (x ∷ past) end) (run_ways o start opens tells past mid end x run s) (same_moments past mid end x calm)

  stood_fits : (past : List Entry) (mid : State) (x : Entry) (m : ℕ) (q : Offer) → Fits past mid.core.offer → is_moment x.event ≡ false → Stood (mid.core.offer m) q → wish_step m x.event (wish_in m past) ≡ Some q.wish
  stood_fits past mid x m q fits calm s = same_wish x.event m (wish_in m past) calm ∙ fits m s.offer s.is ∙ ap Some s.wish

  pub fits_at : (past : List Entry) (end : State) → Run start past end → Fits past end.core.offer
  fits_at [] end run = subst (λ (c : Core). Fits [] c.offer) (sym (ap (λ (s : State). s.core) run ∙ opens.core)) (λ m q e. cc)
  fits_at (x ∷ past) end run = λ m q e. by_test (is_moment x.event)
      (λ moment. fits_done past run.0.core x.event (outcome_of run.0.core x.event) (fits_at past run.0 run.1) moment m q
      (sym (ap (λ (c : Core). c.offer m) (moment_core run.0 end x run.2 moment)) ∙ e))
      (λ calm. stood_fits past run.0 x m q (fits_at past run.0 run.1) calm ((less past run.0 end x run.1 run.2 calm).offers m q e))

  -- a slot that is pending was, where the entry doesn't make it so
  pub pending_before : (past : List Entry) (mid end : State) (x : Entry) → Run start past mid → Step mid x.event x.outcome end → (d : ℕ) → makes_pending d past x.event ≡ false → end.core.members.pending d ≡ true → mid.core.members.pending d ≡ true
  pending_before past mid end x run s d not_made e = by_test (is_moment x.event)
      (λ moment. back_done past mid.core x.event (outcome_of mid.core x.event) d (fits_at past mid run) moment not_made
      (sym (ap (λ (c : Core). c.members.pending d) (moment_core mid end x s moment)) ∙ e))
      (λ calm. (less past mid end x run s calm).pending d e)
