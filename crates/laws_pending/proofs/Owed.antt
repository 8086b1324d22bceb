-- How ways change what a pending slot has to say, and what was settled since.
use Rattle.std.proofs.Common.{◌≡◌, ◌⊎◌, inl, inr, ℕ, ◌+◌, ◌==◌, ◌&&◌, Bool, true, false, not, if◌then◌else◌, List, ◌∷◌, Option, None, [], refl, sym, ap, subst, ◌∙◌, arith}
use Rattle.std.proofs.lemmas.Bool.Decides.{nat_tests}
use Rattle.dlm_modes.specs.Points.{with_at}
use Rattle.mdc_types.specs.declared.numbers.Sector.{Sector}
use Rattle.node_recovery.specs.Progress.{Recovering}
use Rattle.cluster_model.specs.Guards.{is_out}
use Rattle.storage_ways.proofs.Parts.{Part}
use Rattle.storage_ways.proofs.Sound.{Sound}
use Rattle.storage_ways.proofs.Ways as ways
use Rattle.storage_ways.proofs.Ways.{Way, Ways}
use Rattle.laws_writes.proofs.Ghosts.{is_open}
use Rattle.laws_writes.proofs.Settled.{Since, since_after, with_settled, unsettled}
use Rattle.laws_recovery.proofs.Recovered.{since_over}
use Rattle.laws_pending.proofs.Ghosts.{Pend, pend_after, with_pending, with_moved, with_start, with_decided, slot_of, marks_trusted, marks_good, is_promoted}
use Rattle.laws_pending.proofs.Offers.{no_more, calm_first, calm_last}
use Rattle.laws_pending.proofs.Points.{at_point, either_if, same_point, clash, by_test}
use Rattle.laws_pending.proofs.Runs.{pend_over}

forgets : (b c : Bool) → (if b then false else c) ≡ true → c ≡ true
forgets true c e = cc
forgets false c e = e

-- The slot becomes pending.

-- it owes what it marks on each trusted leg, and nothing is settled since
pub record New (v : Part) (z : Since) (p : Pend) (d : ℕ) : Type 0 where
  pub owed : (c : ℕ) → p.owed d c ≡ marks_trusted v d c
  pub since : (s : ℕ) → z.since d s ≡ false

new_owed : (v : Part) (p : Pend) (n d : ℕ) (slot : Option ℕ) → (d == n) ≡ true → (c : ℕ) → (with_pending v p n slot).owed d c ≡ marks_trusted v d c
new_owed v p n d slot same c = ap (λ b. if b then marks_trusted v n c else p.owed d c) same ∙ ap (λ k. marks_trusted v k c) (sym (same_point d n same))

new_at : (pending : ℕ → Bool) (n d : ℕ) → pending d ≡ false → with_at pending n true d ≡ true → (d == n) ≡ true
new_at pending n d was e = by_test (d == n) (λ t. t) (λ f. absurd (clash (pending d) (sym (ap (λ b. if b then true else pending d) f) ∙ e) was))

none_new : {P : Type 0} (pending : ℕ → Bool) (n d : ℕ) → pending d ≡ false → with_at pending n false d ≡ true → P
none_new {P = P} pending n d was = at_point (λ (b : Bool). b ≡ true → P) pending n false d (λ is e. cc) (λ apart e. absurd (clash (pending d) e was))

pub new_way : (w v : Part) (x : Way w v) (z : Since) (p : Pend) (d : ℕ) → w.pending d ≡ false → v.pending d ≡ true → New v (since_after x z) (pend_after x p) d
new_way w v (ways.leaves n x) z p d was e = none_new w.pending n d was e
new_way w v (ways.quits n x) z p d was e = none_new w.pending n d was e
new_way w v (ways.parts n o x) z p d was e =
    let same = new_at w.pending n d was e in
    record { owed = new_owed v p n d None same; since = λ s. ap (λ b. if b then false else z.since d s) same }
new_way w v (ways.dies n told x) z p d was e =
    let same = new_at w.pending n d was e in
    record { owed = new_owed v p n d (slot_of (w.recovery n)) same; since = λ s. ap (λ b. if b then false else z.since d s) same }
new_way w v (ways.ends_recovery n r x) z p d was e = none_new w.pending r.slot d was e
new_way w v x z p d was e = absurd (clash (w.pending d) e was)

-- It stays pending.

-- it has to say what it had, and more of it may have moved; what is settled since was before, or has
-- one value
pub record Stays (v : Part) (z after : Since) (p next : Pend) (d : ℕ) : Type 0 where
  pub born : next.born d ≡ p.born d
  pub owed : (c : ℕ) → next.owed d c ≡ p.owed d c
  pub full : (c : ℕ) → next.full d c ≡ p.full d c
  pub promoted : (l : ℕ) → next.promoted d l ≡ p.promoted d l
  pub moved : (c : ℕ) → p.moved d c ≡ true → next.moved d c ≡ true
  pub since : (s : ℕ) → after.since d s ≡ true → (z.since d s ≡ true) ⊎ (is_open (v.values s) ≡ false)

-- nothing of it changes
same_stays : (v : Part) (z after : Since) (p next : Pend) (d : ℕ) → next.born ≡ p.born → next.owed ≡ p.owed → next.full ≡ p.full → next.promoted ≡ p.promoted → ((c : ℕ) → p.moved d c ≡ true → next.moved d c ≡ true)
    → ((s : ℕ) → after.since d s ≡ true → (z.since d s ≡ true) ⊎ (is_open (v.values s) ≡ false)) → Stays v z after p next d
same_stays v z after p next d a b c e moved since = record {
  born = ap (λ f. f d) a;
  owed = λ k. ap (λ f. f d k) b;
  full = λ k. ap (λ f. f d k) c;
  promoted = λ k. ap (λ f. f d k) e;
  moved = moved;
  since = since;
}

live_apart : (w : Part) → Sound w → (n d : ℕ) → w.live n ≡ true → w.pending d ≡ true → (d == n) ≡ false
live_apart w s n d live pend = by_test (d == n)
    (λ t. absurd (out (w.live d) (is_out (w.state d)) (subst (λ k. w.live k ≡ true) (sym (same_point d n t)) live) (s.phases.live d) (ap is_out (s.phases.pending d pend))))
    (λ f. f)
  where
    out : (a b : Bool) → a ≡ true → a ≡ not b → b ≡ true → ⊥
    out a b e f g = grind arith

-- another slot becomes pending
other_stays : (v u : Part) (z : Since) (p : Pend) (n d : ℕ) (slot : Option ℕ) → (d == n) ≡ false → Stays v z (unsettled z n) p (with_pending u p n slot) d
other_stays v u z p n d slot apart = record {
  born = ap (λ b. if b then p.count + 1 else p.born d) apart;
  owed = λ c. ap (λ b. if b then marks_trusted u n c else p.owed d c) apart;
  full = λ c. ap (λ b. if b then marks_good u n c else p.full d c) apart;
  promoted = λ l. ap (λ b. if b then is_promoted u l else p.promoted d l) apart;
  moved = λ c e. ap (λ b. if b then false else p.moved d c) apart ∙ e;
  since = λ t e. inl (forgets (d == n) (z.since d t) e);
}

settled_one : (t s : ℕ) (v : Sector) (since : Bool) (vs : List Sector) → (if s == t then true else since) ≡ true → (since ≡ true) ⊎ (is_open (if t == s then v ∷ [] else vs) ≡ false)
settled_one t s v since vs e = by (s == t) refl e
  where
    turned : (s == t) ≡ true → (t == s) ≡ true
    turned f = grind (arith, nat_tests)

    by : (b : Bool) → (s == t) ≡ b → (if b then true else since) ≡ true → (since ≡ true) ⊎ (is_open (if t == s then v ∷ [] else vs) ≡ false)
    by true f e = inr (ap (λ b. is_open (if b then v ∷ [] else vs)) (turned f))
    by false f e = inl e

-- more is moved
moves : (p : Pend) (r : Recovering) (d c : ℕ) → p.moved d c ≡ true → (with_moved p r).moved d c ≡ true
moves p r d c e = either_if (λ (b : Bool). b ≡ true) ((d == r.slot) && r.found c) true (p.moved d c) (λ t. refl) (λ f. e)

pub stays_way : (w v : Part) (x : Way w v) (z : Since) (p : Pend) (d : ℕ) → Sound w → w.pending d ≡ true → Stays v z (since_after x z) p (pend_after x p) d
stays_way w v (ways.parts n o x) z p d s pend = other_stays v v z p n d None (live_apart w s n d x.going.live pend)
stays_way w v (ways.dies n told x) z p d s pend = other_stays v v z p n d (slot_of (w.recovery n)) (live_apart w s n d x.live pend)
stays_way w v (ways.settles n q b x) z p d s pend = same_stays v z (with_settled z b.sector) p (with_decided p b.sector) d refl refl refl refl (λ c e. e) (λ t e. settled_one b.sector t b.value (z.since d t) (w.values t) e)
stays_way w v (ways.recovers_slot n k x) z p d s pend = same_stays v z (unsettled z n) p p d refl refl refl refl (λ c e. e) (λ t e. inl (forgets (d == n) (z.since d t) e))
stays_way w v (ways.slot_clears n q l r x) z p d s pend = same_stays v z z p (with_moved p r) d refl refl refl refl (moves p r d) (λ t e. inl e)
stays_way w v (ways.misses_slot n q l r left x) z p d s pend = same_stays v z z p (with_moved p r) d refl refl refl refl (moves p r d) (λ t e. inl e)
stays_way w v (ways.outs n k l y x) z p d s pend = same_stays v z z p (with_start p y.sector y.started) d refl refl refl refl (λ c e. e) (λ t e. inl e)
stays_way w v (ways.misses n k l y left x) z p d s pend = same_stays v z z p (with_start p y.sector y.started) d refl refl refl refl (λ c e. e) (λ t e. inl e)
stays_way w v (ways.ends n k y x) z p d s pend = same_stays v z z p (with_decided p y.sector) d refl refl refl refl (λ c e. e) (λ t e. inl e)
stays_way w v x z p d s pend = same_stays v z z p p d refl refl refl refl (λ c e. e) (λ t e. inl e)

-- No moment is counted: nothing more is settled.
record Calm (z after : Since) (p next : Pend) (d : ℕ) : Type 0 where
  born : next.born ≡ p.born
  owed : next.owed ≡ p.owed
  full : next.full ≡ p.full
  promoted : next.promoted ≡ p.promoted
  moved : (c : ℕ) → p.moved d c ≡ true → next.moved d c ≡ true
  since : (s : ℕ) → after.since d s ≡ true → z.since d s ≡ true

calm_of : (z after : Since) (p next : Pend) (d : ℕ) → next.born ≡ p.born → next.owed ≡ p.owed → next.full ≡ p.full → next.promoted ≡ p.promoted → ((c : ℕ) → p.moved d c ≡ true → next.moved d c ≡ true) → ((s : ℕ) → after.since d s ≡ true → z.since d s ≡ true) → Calm z after p next d
calm_of z after p next d a b c e moved since = record { born = a; owed = b; full = c; promoted = e; moved = moved; since = since }

calm_way : (w v : Part) (x : Way w v) (z : Since) (p : Pend) (d : ℕ) → v.moments ≡ w.moments → Calm z (since_after x z) p (pend_after x p) d
calm_way w v (ways.parts n o x) z p d calm = no_more w.moments calm
calm_way w v (ways.dies n told x) z p d calm = no_more w.moments calm
calm_way w v (ways.settles n q b x) z p d calm = no_more w.moments calm
calm_way w v (ways.recovers_slot n k x) z p d calm = calm_of z (unsettled z n) p p d refl refl refl refl (λ c e. e) (λ t e. forgets (d == n) (z.since d t) e)
calm_way w v (ways.slot_clears n q l r x) z p d calm = calm_of z z p (with_moved p r) d refl refl refl refl (moves p r d) (λ t e. e)
calm_way w v (ways.misses_slot n q l r left x) z p d calm = calm_of z z p (with_moved p r) d refl refl refl refl (moves p r d) (λ t e. e)
calm_way w v (ways.outs n k l y x) z p d calm = calm_of z z p (with_start p y.sector y.started) d refl refl refl refl (λ c e. e) (λ t e. e)
calm_way w v (ways.misses n k l y left x) z p d calm = calm_of z z p (with_start p y.sector y.started) d refl refl refl refl (λ c e. e) (λ t e. e)
calm_way w v (ways.ends n k y x) z p d calm = calm_of z z p (with_decided p y.sector) d refl refl refl refl (λ c e. e) (λ t e. e)
calm_way w v x z p d calm = calm_of z z p p d refl refl refl refl (λ c e. e) (λ t e. e)

calm_over : (w v : Part) (xs : Ways w v) (z : Since) (p : Pend) (d : ℕ) → v.moments ≡ w.moments → Calm z (since_over xs z) p (pend_over xs p) d
calm_over w v ways.none z p d calm = calm_of z z p p d refl refl refl refl (λ c e. e) (λ t e. e)
calm_over w v (ways.more {u = u} xs s x) z p d calm =
    let old = calm_over w u xs z p d (calm_first w u v xs x calm) in
    let last = calm_way u v x (since_over xs z) (pend_over xs p) d (calm_last w u v xs x calm) in
    calm_of z (since_after x (since_over xs z)) p (pend_after x (pend_over xs p)) d (last.born ∙ old.born) (last.owed ∙ old.owed) (last.full ∙ old.full) (last.promoted ∙ old.promoted) (λ c e. last.moved c (old.moved c e)) (λ t e. old.since t (last.since t e))

pub calm_stays : (w v : Part) (xs : Ways w v) (z : Since) (p : Pend) (d : ℕ) → v.moments ≡ w.moments → Stays v z (since_over xs z) p (pend_over xs p) d
calm_stays w v xs z p d calm =
    let c = calm_over w v xs z p d calm in
    same_stays v z (since_over xs z) p (pend_over xs p) d c.born c.owed c.full c.promoted c.moved (λ t e. inl (c.since t e))
