-- Each way keeps, of the leg that is to work, that it is the one that was when a slot became pending.
use Rattle.std.proofs.Common.{◌≡◌, ℕ, ◌==◌, ◌<◌, Bool, true, false, if◌then◌else◌, Option, Some, None, refl, sym, ap, subst, ◌∙◌, arith}
use Rattle.std.specs.Prelude.{is_some}
use Rattle.std.proofs.lemmas.Bool.Decides.{nat_tests}
use Rattle.dlm_modes.specs.Points.{with_at}
use Rattle.mdc_types.specs.Roles.{is_working, is_rebuilding}
use Rattle.mdc_types.specs.declared.events.Wish.{Wish}
use Rattle.mdc_types.specs.declared.events.Wish.TheVariants as wishes
use Rattle.mdc_types.specs.declared.roles.NodeState.{NodeState}
use Rattle.mdc_types.specs.declared.roles.Role.{Role}
use Rattle.msg_rounds.specs.declared.phases.SenderPhase.{SenderPhase}
use Rattle.laws_locks.specs.Rounded.{has_token, stands}
use Rattle.cluster_model.specs.Guards.{is_out}
use Rattle.cluster_model.specs.Phases.{is_in, is_metadata}
use Rattle.cluster_model.specs.State.{Offer}
use Rattle.laws_roles.proofs.Parts.{promotes, wished, with_wish, with_promoted}
use Rattle.storage_ways.proofs.Parts.{Part}
use Rattle.storage_ways.proofs.Sound.{Sound}
use Rattle.storage_ways.proofs.Ways as ways
use Rattle.storage_ways.proofs.Ways.{Way}
use Rattle.laws_writes.proofs.Ghosts.{Ghost}
use Rattle.laws_writes.proofs.Settled.{Since}
use Rattle.laws_pending.proofs.Ghosts.{Pend, pend_after, is_promoted}
use Rattle.laws_pending.proofs.Known.{Known}
use Rattle.laws_pending.proofs.MarkSteps.{wish_good}
use Rattle.laws_pending.proofs.Pending.{WorkPending, OnePromoted, Solo}
use Rattle.laws_pending.proofs.Points.{at_point, clash, same_point, by_test, has_such, such_one, if_true, if_false}

wished_some : (x : Option Offer) (l : ℕ) → wished promotes x l ≡ true → is_some x ≡ true
wished_some None l e = cc
wished_some (Some o) l e = refl

pub one_leg : (x : Wish) (l k : ℕ) → promotes x l ≡ true → promotes x k ≡ true → l ≡ k
one_leg (wishes.Work i) l k e f = same_point l i e ∙ sym (same_point k i f)
one_leg x l k e f = cc

wished_leg : (x : Option Offer) (l k : ℕ) → wished promotes x l ≡ true → wished promotes x k ≡ true → l ≡ k
wished_leg None l k e f = cc
wished_leg (Some o) l k e f = one_leg o.wish l k e f

in_not_out : (x : NodeState) → is_in x ≡ true → is_out x ≡ false
in_not_out x e = grind arith

stands_token : (s : SenderPhase) → stands s ≡ true → has_token s ≡ true
stands_token s e = grind arith

not_both : (r : Role) → is_rebuilding r ≡ true → is_working r ≡ true → ⊥
not_both r e f = grind arith

to_true : (b x y : Bool) → b ≡ true → x ≡ true → (if b then x else y) ≡ true
to_true b x y t e = grind arith

to_false : (b x y : Bool) → b ≡ false → y ≡ true → (if b then x else y) ≡ true
to_false b x y f e = grind arith

module _ (w : Part) (s : Sound w) where
  -- who offers is a node
  pub offerer : (n l : ℕ) → wished promotes (w.offer n) l ≡ true → n < 16
  offerer n l e = s.phases.below n (in_not_out (w.state n) (s.phases.offering n (wished_some (w.offer n) l e)))

  -- one node offers
  pub one_offers : (n m l k : ℕ) → wished promotes (w.offer n) l ≡ true → wished promotes (w.offer m) k ≡ true → l ≡ k
  one_offers n m l k e f =
      let token : (j i : ℕ) → wished promotes (w.offer j) i ≡ true → has_token (w.sender j) ≡ true
      = λ j i t. stands_token (w.sender j) (sym (s.phases.stands j) ∙ wished_some (w.offer j) i t) in
      let same = s.phases.alone n m (token n l e) (token m k f) in
      wished_leg (w.offer m) l k (subst (λ j. wished promotes (w.offer j) l ≡ true) same e) f

-- an offer is gone at one node
gone_was : (offer : ℕ → Option Offer) (n m l : ℕ) → wished promotes (with_at offer n None m) l ≡ true → wished promotes (offer m) l ≡ true
gone_was offer n m l = at_point (λ y. wished promotes y l ≡ true → wished promotes (offer m) l ≡ true) offer n None m (λ is e. cc) (λ apart e. e)

module _ (w : Part) (g : Ghost) (z : Since) (p : Pend) (a : Known w g z p) where
  -- the leg that is to work in a part whose offers all stood before
  promoted_was : (v : Part) (l : ℕ) → ((m k : ℕ) → wished promotes (v.offer m) k ≡ true → wished promotes (w.offer m) k ≡ true) → is_promoted v l ≡ true → (m : ℕ) × (wished promotes (w.offer m) l ≡ true)
  promoted_was v l was e = let one = has_such (λ m. wished promotes (v.offer m) l) 16 e in (one.0, was one.0 l one.1.1)

  now_promoted : (v : Part) (m l : ℕ) → ((m k : ℕ) → wished promotes (v.offer m) k ≡ true → wished promotes (w.offer m) k ≡ true) → wished promotes (v.offer m) l ≡ true → is_promoted v l ≡ true
  now_promoted v m l was e = such_one (λ m. wished promotes (v.offer m) l) 16 m (offerer w a.sound m l (was m l e)) e

  one_now : (v : Part) (l k : ℕ) → ((m k : ℕ) → wished promotes (v.offer m) k ≡ true → wished promotes (w.offer m) k ≡ true) → is_promoted v l ≡ true → is_promoted v k ≡ true → l ≡ k
  one_now v l k was e f = let m = promoted_was v l was e in let n = promoted_was v k was f in one_offers w a.sound m.0 n.0 l k m.1 n.1

  -- it rebuilds still
  solo_now : (v : Part) (l : ℕ) → ((m k : ℕ) → wished promotes (v.offer m) k ≡ true → wished promotes (w.offer m) k ≡ true) → is_promoted v l ≡ true → is_working (w.ghost.agreed.role l) ≡ true → ⊥
  solo_now v l was e working = let m = promoted_was v l was e in not_both (w.ghost.agreed.role l) (a.sound.additions.work_rebuilding m.0 l m.1) working

  agreed_same : (x : Wish) → (with_wish w.ghost x).agreed ≡ w.ghost.agreed
  agreed_same x = by (is_metadata x)
    where
      by : (b : Bool) → (if b then with_promoted w.ghost x else w.ghost).agreed ≡ w.ghost.agreed
      by true = refl
      by false = refl

pub work_pending : (w v : Part) (x : Way w v) (g : Ghost) (z : Since) (p : Pend) → Known w g z p → WorkPending v (pend_after x p)
work_pending w v (ways.voids n s pub_no off not_pub) g z p a d m l pend e = a.pendings.work_pending d m l pend (gone_was w.offer n m l e)
work_pending w v (ways.offers n o x) g z p a d m l pend e = at_point (λ y. wished promotes y l ≡ true → p.promoted d l ≡ true) w.offer n (Some o) m
    (λ is e. absurd (clash (w.pending d) pend (x.none_pending l d e))) (λ apart e. a.pendings.work_pending d m l pend e) e
work_pending w v (ways.opens n r o x wish) g z p a d m l pend e = a.pendings.work_pending d m l pend (gone_was w.offer n m l e)
work_pending w v (ways.announces n o x known meta range) g z p a d m l pend e = a.pendings.work_pending d m l pend (gone_was w.offer n m l e)
work_pending w v (ways.finishes n o x meta) g z p a d m l pend e = a.pendings.work_pending d m l pend (gone_was w.offer n m l e)
work_pending w v (ways.writes_super n i o x) g z p a d m l pend e = at_point (λ y. wished promotes y l ≡ true → p.promoted d l ≡ true) w.offer n _ m
    (λ is e. a.pendings.work_pending d n l pend (ap (λ y. wished promotes y l) x.offer ∙ e)) (λ apart e. a.pendings.work_pending d m l pend e) e
work_pending w v (ways.leaves n x) g z p a d m l pend e = a.pendings.work_pending d m l (grind (arith, nat_tests)) (gone_was w.offer n m l e)
work_pending w v (ways.quits n x) g z p a d m l pend e = a.pendings.work_pending d m l (grind (arith, nat_tests)) (gone_was w.offer n m l e)
work_pending w v (ways.parts n o x) g z p a d m l pend e = by_test (d == n)
    (λ t. to_true (d == n) (is_promoted v l) (p.promoted d l) t (now_promoted w g z p a v m l (λ i k. gone_was w.offer n i k) e))
    (λ f. to_false (d == n) (is_promoted v l) (p.promoted d l) f (a.pendings.work_pending d m l (if_false (d == n) true (w.pending d) true f pend) (gone_was w.offer n m l e)))
work_pending w v (ways.dies n told x) g z p a d m l pend e = by_test (d == n)
    (λ t. to_true (d == n) (is_promoted v l) (p.promoted d l) t (now_promoted w g z p a v m l (λ i k. gone_was w.offer n i k) e))
    (λ f. to_false (d == n) (is_promoted v l) (p.promoted d l) f (a.pendings.work_pending d m l (if_false (d == n) true (w.pending d) true f pend) (gone_was w.offer n m l e)))
work_pending w v (ways.ends_recovery n r x) g z p a d m l pend e = a.pendings.work_pending d m l (grind (arith, nat_tests)) e
work_pending w v x g z p a d m l pend e = a.pendings.work_pending d m l pend e

pub one_promoted : (w v : Part) (x : Way w v) (g : Ghost) (z : Since) (p : Pend) → Known w g z p → OnePromoted v (pend_after x p)
one_promoted w v (ways.leaves n x) g z p a d l k pend e f = a.pendings.one_promoted d l k (grind (arith, nat_tests)) e f
one_promoted w v (ways.quits n x) g z p a d l k pend e f = a.pendings.one_promoted d l k (grind (arith, nat_tests)) e f
one_promoted w v (ways.parts n o x) g z p a d l k pend e f = by_test (d == n)
    (λ t. one_now w g z p a v l k (λ i j. gone_was w.offer n i j) (if_true (d == n) (is_promoted v l) (p.promoted d l) t e) (if_true (d == n) (is_promoted v k) (p.promoted d k) t f))
    (λ t. a.pendings.one_promoted d l k (if_false (d == n) true (w.pending d) true t pend) (if_false (d == n) (is_promoted v l) (p.promoted d l) true t e) (if_false (d == n) (is_promoted v k) (p.promoted d k) true t f))
one_promoted w v (ways.dies n told x) g z p a d l k pend e f = by_test (d == n)
    (λ t. one_now w g z p a v l k (λ i j. gone_was w.offer n i j) (if_true (d == n) (is_promoted v l) (p.promoted d l) t e) (if_true (d == n) (is_promoted v k) (p.promoted d k) t f))
    (λ t. a.pendings.one_promoted d l k (if_false (d == n) true (w.pending d) true t pend) (if_false (d == n) (is_promoted v l) (p.promoted d l) true t e) (if_false (d == n) (is_promoted v k) (p.promoted d k) true t f))
one_promoted w v (ways.ends_recovery n r x) g z p a d l k pend e f = a.pendings.one_promoted d l k (grind (arith, nat_tests)) e f
one_promoted w v x g z p a d l k pend e f = a.pendings.one_promoted d l k pend e f

pub solo : (w v : Part) (x : Way w v) (g : Ghost) (z : Since) (p : Pend) → Known w g z p → Solo v (pend_after x p)
solo w v (ways.offers n o x) g z p a d l i pend e working good =
    let same = agreed_same w g z p a o.wish in
    ap (λ y. is_working (y.role i)) same ∙ a.pendings.solo d l i pend e (sym (ap (λ y. is_working (y.role l)) same) ∙ working) (wish_good w g z p a n d o x pend i good)
solo w v (ways.finishes n o x meta) g z p a d l i pend e working good = good
solo w v (ways.leaves n x) g z p a d l i pend e working good = a.pendings.solo d l i (grind (arith, nat_tests)) e working good
solo w v (ways.quits n x) g z p a d l i pend e working good = a.pendings.solo d l i (grind (arith, nat_tests)) e working good
solo w v (ways.parts n o x) g z p a d l i pend e working good = by_test (d == n)
    (λ t. absurd (solo_now w g z p a v l (λ i j. gone_was w.offer n i j) (if_true (d == n) (is_promoted v l) (p.promoted d l) t e) working))
    (λ t. a.pendings.solo d l i (if_false (d == n) true (w.pending d) true t pend) (if_false (d == n) (is_promoted v l) (p.promoted d l) true t e) working good)
solo w v (ways.dies n told x) g z p a d l i pend e working good = by_test (d == n)
    (λ t. absurd (solo_now w g z p a v l (λ i j. gone_was w.offer n i j) (if_true (d == n) (is_promoted v l) (p.promoted d l) t e) working))
    (λ t. a.pendings.solo d l i (if_false (d == n) true (w.pending d) true t pend) (if_false (d == n) (is_promoted v l) (p.promoted d l) true t e) working good)
solo w v (ways.ends_recovery n r x) g z p a d l i pend e working good = a.pendings.solo d l i (grind (arith, nat_tests)) e working good
solo w v x g z p a d l i pend e working good = a.pendings.solo d l i pend e working good
