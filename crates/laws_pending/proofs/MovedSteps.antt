-- Each way keeps what a recovery moved from a pending slot: its heir has it on its own page.
use Rattle.std.proofs.Common.{◌≡◌, ℕ, ◌==◌, ◌<◌, ◌&&◌, ◌||◌, Bool, true, false, if◌then◌else◌, Option, Some, None, refl, sym, ap, subst, ◌∙◌, arith}
use Rattle.std.specs.Prelude.{is_some}
use Rattle.std.proofs.lemmas.Bool.Decides.{nat_tests}
use Rattle.dlm_modes.specs.Points.{with_at}
use Rattle.node_recovery.specs.Progress.{Recovering, begun}
use Rattle.cluster_model.specs.Phases.{is_up}
use Rattle.storage_ways.proofs.Parts.{Part, chunk_in, recovers, found_in}
use Rattle.storage_ways.proofs.Roled.{good_target}
use Rattle.storage_ways.proofs.Ways as ways
use Rattle.storage_ways.proofs.Ways.{Way, Recovers, SlotClears, EndsRecovery, AllRead}
use Rattle.laws_writes.proofs.Ghosts.{Ghost}
use Rattle.laws_writes.proofs.Recoverers.{turn_held}
use Rattle.laws_writes.proofs.Settled.{Since, since_after}
use Rattle.laws_pending.proofs.Found.{up_settled, live_settled, heir_there, same_slot}
use Rattle.laws_pending.proofs.Ghosts.{Pend, pend_after}
use Rattle.laws_pending.proofs.Gone.{full_found}
use Rattle.laws_pending.proofs.Known.{Known}
use Rattle.laws_pending.proofs.Pending.{MovedFound}
use Rattle.laws_pending.proofs.Points.{at_point, clash, same_point, apart_sym, by_test, if_false}

-- what is moved, and not settled
pub record Moved (w : Part) (z : Since) (p : Pend) (d s : ℕ) : Type 0 where
  pub pending : w.pending d ≡ true
  pub within : s < w.geometry.room
  pub moved : p.moved d (chunk_in w s) ≡ true
  pub unsettled : z.since d s ≡ false

or_right : (a b : Bool) → b ≡ true → (a || b) ≡ true
or_right a b e = grind arith

or_left : (a b : Bool) → a ≡ true → (a || b) ≡ true
or_left a b e = grind arith

pub not_since : (a b : Bool) → (a ≡ true → b ≡ true) → b ≡ false → a ≡ false
not_since true b f e = absurd (clash b (f refl) e)
not_since false b f e = refl

module _ (w : Part) (g : Ghost) (z : Since) (p : Pend) (a : Known w g z p) where
  -- what wasn't settled since the slot is pending wasn't since its recovery began
  pub fresh : (d n s : ℕ) → w.pending d ≡ true → w.heir d ≡ Some n → recovers (w.recovery n) d ≡ true → z.since d s ≡ false → z.since n s ≡ false
  fresh d n s pend heir rec e = not_since (z.since n s) (z.since d s) (a.pendings.since_line d n s pend heir (or_right (w.pending n) (recovers (w.recovery n) d) rec)) e

  -- a live heir needs what was moved, so its page has it
  pub heir_needs : (d n s : ℕ) → Moved w z p d s → w.heir d ≡ Some n → w.pending n ≡ false → (w.bitmap n).need (chunk_in w s) ≡ true
  heir_needs d n s m heir live =
      let rec = a.pendings.moved_found d n s m.pending m.within m.moved m.unsettled heir live in
      let kept = a.pendings.moved_kept d n s m.pending m.within m.moved m.unsettled heir live in
      a.settled.read_need n s m.within kept (fresh d n s m.pending heir rec m.unsettled)

  -- nothing was moved that isn't settled where a recovery begins
  pub none_moved : (n d s : ℕ) → Recovers w n d → Moved w z p d s → ⊥
  none_moved n d s x m = by (w.heir d) refl
    where
      none : (y : Option Recovering) → y ≡ None → recovers y d ≡ true → ⊥
      none y e rec = clash (recovers y d) rec (ap (λ r. recovers r d) e)

      by : (h : Option ℕ) → w.heir d ≡ h → ⊥
      by None e = clash (is_some (w.heir d)) (a.pendings.moved_heir d s m.pending m.within m.moved m.unsettled) (ap is_some e)
      by (Some h) e =
          let rec = a.pendings.moved_found d h s m.pending m.within m.moved m.unsettled e (x.heir h e) in
          let same = a.sound.turns.one h n (turn_held w a.sound h d rec) x.turn in
          none (w.recovery n) x.recovery (subst (λ j. recovers (w.recovery j) d ≡ true) same rec)

  -- a recovery that has all found has a chunk that is to be copied, of each sector that was moved to the
  -- recovered slot and isn't settled
  pub line_ends : (n e s : ℕ) (r : Recovering) → EndsRecovery w n r → Moved w z p e s → w.heir e ≡ Some r.slot → ⊥
  line_ends n e s r x m heir =
      let rec : recovers (w.recovery n) r.slot ≡ true = ap (λ y. recovers y r.slot) x.all.opened.recovery ∙ same_slot r in
      let pend = x.all.opened.pending in
      let all = a.pendings.moved_full e r.slot s m.pending m.within m.moved m.unsettled heir pend in
      let first = not_since (z.since r.slot s) (z.since e s) (a.pendings.since_line e r.slot s m.pending heir (or_left (w.pending r.slot) (recovers (w.recovery r.slot) e) pend)) m.unsettled in
      let here = heir_there w g z p a n r x.all.opened.recovery in
      let then_fresh = fresh r.slot n s pend here rec first in
      let found : r.found (chunk_in w s) ≡ true = by_test (p.moved r.slot (chunk_in w s))
      (λ t. sym (ap (λ y. found_in y (chunk_in w s)) x.all.opened.recovery) ∙ a.pendings.moved_kept r.slot n s pend m.within t first here (up_settled w g z p a n x.all.opened.up))
      (λ f. full_found w g z p a n r x.all (chunk_in w s) all f) in
      let need = a.settled.read_need n s m.within (ap (λ y. found_in y (chunk_in w s)) x.all.opened.recovery ∙ found) then_fresh in
      clash ((w.bitmap n).need (chunk_in w s)) need (x.met (chunk_in w s) found)

  -- a recovery marks what it found, where it isn't settled since, before it clears
  pub found_marked : (n q i s l : ℕ) (r : Recovering) → SlotClears w n q i r → s < w.geometry.room → z.since r.slot s ≡ false → r.found (chunk_in w s) ≡ true → w.ghost.good l ≡ true → w.bit n (chunk_in w s) l ≡ true
  found_marked n q i s l r x lt unsettled found good =
      let rec = x.all.opened.recovery in
      let here = heir_there w g z p a n r rec in
      let then_fresh = fresh r.slot n s x.all.opened.pending here (ap (λ y. recovers y r.slot) rec ∙ same_slot r) unsettled in
      let need = a.settled.read_need n s lt (ap (λ y. found_in y (chunk_in w s)) rec ∙ found) then_fresh in
      a.bits.mark_bit n (chunk_in w s) l (x.marked (chunk_in w s) l found (a.bits.need_set n (chunk_in w s) need) (good_target w a.sound n l x.all.opened.up x.all.acked good))

  -- the slot is its heir's, and no other's
  pub same_heir : (n h : ℕ) (r : Recovering) → w.recovery n ≡ Some r → w.heir r.slot ≡ Some h → h ≡ n
  same_heir n h r rec heir = let there = heir_there w g z p a n r rec in same_some h n (sym heir ∙ there)
    where
      same_some : (h n : ℕ) → Some h ≡ Some n → h ≡ n
      same_some h n e = cc

pub not_died : (pending : ℕ → Bool) (n h : ℕ) → with_at pending n true h ≡ false → (h == n) ≡ false
not_died pending n h e = grind arith

absent : (b x : Bool) → b ≡ true → (if b then false else x) ≡ true → ⊥
absent b x t e = grind arith

pub moved_or : {P : Type 0} (here found old : Bool) → (if here && found then true else old) ≡ true → (here ≡ true → found ≡ true → P) → (old ≡ true → P) → P
moved_or true true old e new before = new refl refl
moved_or true false old e new before = before e
moved_or false found old e new before = before e

pub settled_else : (b old : Bool) → (if b then true else old) ≡ false → old ≡ false
settled_else b old e = grind arith

module _ (w : Part) (g : Ghost) (z : Since) (p : Pend) (a : Known w g z p) where
  -- an up node, or one that has no recovery, is the heir of nothing that was moved and isn't settled
  not_heir : (n d s : ℕ) → w.recovery n ≡ None → w.pending n ≡ false → Moved w z p d s → w.heir d ≡ Some n → ⊥
  not_heir n d s none settled m heir =
      clash (recovers (w.recovery n) d) (a.pendings.moved_found d n s m.pending m.within m.moved m.unsettled heir settled) (ap (λ y. recovers y d) none)

  pub heir_else : (n d h s : ℕ) → w.recovery n ≡ None → w.pending n ≡ false → Moved w z p d s → w.heir d ≡ Some h → (h == n) ≡ false
  heir_else n d h s none settled m heir = by_test (h == n) (λ t. absurd (not_heir n d s none settled m (heir ∙ ap Some (same_point h n t)))) (λ f. f)

  pub heir_ends : (n d h s : ℕ) (r : Recovering) → EndsRecovery w n r → Moved w z p d s → w.heir d ≡ Some h → (h == r.slot) ≡ false
  heir_ends n d h s r x m heir = by_test (h == r.slot) (λ t. absurd (line_ends w g z p a n d s r x m (heir ∙ ap Some (same_point h r.slot t)))) (λ f. f)

  -- what was moved before a way
  pub old_moved : (d s : ℕ) → w.pending d ≡ true → s < w.geometry.room → p.moved d (chunk_in w s) ≡ true → z.since d s ≡ false → Moved w z p d s
  old_moved d s e lt f h = record { pending = e; within = lt; moved = f; unsettled = h }

  abbrev pub Begun : ℕ → ℕ → ℕ → Type 0
  Begun n d s = Moved w z p d s × ((d == n) ≡ false)

  pub gone_moved : (n d s : ℕ) → with_at w.pending n false d ≡ true → s < w.geometry.room → p.moved d (chunk_in w s) ≡ true → z.since d s ≡ false → Moved w z p d s
  gone_moved n d s e lt f h = old_moved d s (grind (arith, nat_tests)) lt f h

  pub died_moved : (n d s : ℕ) → with_at w.pending n true d ≡ true → s < w.geometry.room → (if d == n then false else p.moved d (chunk_in w s)) ≡ true → (if d == n then false else z.since d s) ≡ false → Begun n d s
  died_moved n d s e lt f h = (old_moved d s (grind (arith, nat_tests)) lt (grind (arith, nat_tests)) (grind (arith, nat_tests)), grind (arith, nat_tests))

  pub begun_moved : (n d s : ℕ) → is_up (w.state n) ≡ true → w.pending d ≡ true → s < w.geometry.room → p.moved d (chunk_in w s) ≡ true → (if d == n then false else z.since d s) ≡ false → Moved w z p d s
  begun_moved n d s up e lt f h = let settled = up_settled w g z p a n up in old_moved d s e lt f (grind (arith, nat_tests))

-- Recoveries after a way.

pub recovers_else : (recovery : ℕ → Option Recovering) (n m d : ℕ) (y : Option Recovering) → (m == n) ≡ false → recovers (recovery m) d ≡ true → recovers (with_at recovery n y m) d ≡ true
recovers_else recovery n m d y apart old = grind (arith, apart)

pub recovers_kept : (recovery : ℕ → Option Recovering) (n m d : ℕ) (r y : Recovering) → recovery n ≡ Some r → y.slot ≡ r.slot → recovers (recovery m) d ≡ true → recovers (with_at recovery n (Some y) m) d ≡ true
recovers_kept recovery n m d r y rec same = at_point (λ x. recovers (recovery m) d ≡ true → recovers x d ≡ true) recovery n (Some y) m
    (λ is old. ap (λ k. k == d) same ∙ sym (ap (λ x. recovers x d) rec) ∙ sym (ap (λ j. recovers (recovery j) d) is) ∙ old) (λ apart old. old)

recovers_now : (recovery : ℕ → Option Recovering) (n m d : ℕ) (y : Recovering) → m ≡ n → d ≡ y.slot → recovers (with_at recovery n (Some y) m) d ≡ true
recovers_now recovery n m d y is slot = grind (arith, nat_tests)

recovers_there : (recovery : ℕ → Option Recovering) (n m d : ℕ) (r : Recovering) → recovery n ≡ Some r → m ≡ n → d ≡ r.slot → recovers (recovery m) d ≡ true
recovers_there recovery n m d r rec is slot = ap (λ j. recovers (recovery j) d) is ∙ ap (λ x. recovers x d) rec ∙ ap (λ k. recovers (Some r) k) slot ∙ same_slot r

pub moved_found : (w v : Part) (x : Way w v) (g : Ghost) (z : Since) (p : Pend) → Known w g z p → MovedFound v (since_after x z) (pend_after x p)
moved_found w v (ways.leaves n x) g z p a d h s pend lt moved new heir settled =
    let m = gone_moved w g z p a n d s pend lt moved new in
    let apart = heir_else w g z p a n d h s x.going.recovery (live_settled w g z p a n x.going.live) m heir in
    recovers_else w.recovery n h d None apart (a.pendings.moved_found d h s m.pending lt moved new heir (if_false (h == n) false (w.pending h) false apart settled))
moved_found w v (ways.quits n x) g z p a d h s pend lt moved new heir settled =
    let m = gone_moved w g z p a n d s pend lt moved new in
    let apart = heir_else w g z p a n d h s x.going.recovery (live_settled w g z p a n x.going.live) m heir in
    recovers_else w.recovery n h d None apart (a.pendings.moved_found d h s m.pending lt moved new heir (if_false (h == n) false (w.pending h) false apart settled))
moved_found w v (ways.parts n o x) g z p a d h s pend lt moved new heir settled =
    let m = (died_moved w g z p a n d s pend lt moved new).0 in
    let apart = not_died w.pending n h settled in
    recovers_else w.recovery n h d None apart (a.pendings.moved_found d h s m.pending lt m.moved m.unsettled heir (if_false (h == n) true (w.pending h) false apart settled))
moved_found w v (ways.dies n told x) g z p a d h s pend lt moved new heir settled =
    let m = (died_moved w g z p a n d s pend lt moved new).0 in
    let apart = not_died w.pending n h settled in
    recovers_else w.recovery n h d None apart (a.pendings.moved_found d h s m.pending lt m.moved m.unsettled heir (if_false (h == n) true (w.pending h) false apart settled))
moved_found w v (ways.settles n q b x) g z p a d h s pend lt moved new heir settled = a.pendings.moved_found d h s pend lt moved (settled_else (s == b.sector) (z.since d s) new) heir settled
moved_found w v (ways.recovers_slot n e x) g z p a d h s pend lt moved new heir settled =
    let m = begun_moved w g z p a n d s x.up pend lt moved new in
    by_test (d == e)
    (λ t. absurd (none_moved w g z p a n e s x (subst (λ k. Moved w z p k s) (same_point d e t) m)))
    (λ f. let old : w.heir d ≡ Some h = heir_old (w.heir d) f heir in
    let apart = heir_else w g z p a n d h s x.recovery (up_settled w g z p a n x.up) m old in
    recovers_else w.recovery n h d (Some (begun e)) apart (a.pendings.moved_found d h s m.pending lt moved m.unsettled old settled))
  where
    heir_old : (y : Option ℕ) → (d == e) ≡ false → (if d == e then Some n else y) ≡ Some h → y ≡ Some h
    heir_old y f t = grind arith
moved_found w v (ways.slot_reads n q i r has x) g z p a d h s pend lt moved new heir settled = recovers_kept w.recovery n h d r _ x.opened.recovery refl (a.pendings.moved_found d h s pend lt moved new heir settled)
moved_found w v (ways.slot_clears n q i r x) g z p a d h s pend lt moved new heir settled = moved_or (d == r.slot) (r.found (chunk_in w s)) (p.moved d (chunk_in w s)) moved
    (λ t found. let same = same_heir w g z p a n h r x.all.opened.recovery (subst (λ k. w.heir k ≡ Some h) (same_point d r.slot t) heir) in recovers_now w.recovery n h d _ same (same_point d r.slot t))
    (λ old. recovers_kept w.recovery n h d r _ x.all.opened.recovery refl (a.pendings.moved_found d h s pend lt old new heir settled))
moved_found w v (ways.misses_slot n q i r some x) g z p a d h s pend lt moved new heir settled = moved_or (d == r.slot) (r.found (chunk_in w s)) (p.moved d (chunk_in w s)) moved
    (λ t found. let same = same_heir w g z p a n h r x.all.opened.recovery (subst (λ k. w.heir k ≡ Some h) (same_point d r.slot t) heir) in recovers_there w.recovery n h d r x.all.opened.recovery same (same_point d r.slot t))
    (λ old. a.pendings.moved_found d h s pend lt old new heir settled)
moved_found w v (ways.ends_recovery n r x) g z p a d h s pend lt moved new heir settled =
    let m = gone_moved w g z p a r.slot d s pend lt moved new in
    let apart = heir_ends w g z p a n d h s r x m (heir_old (w.heir d) pend heir) in
    let was = a.pendings.moved_found d h s m.pending lt moved new (heir_old (w.heir d) pend heir) (if_false (h == r.slot) false (w.pending h) false apart settled) in
    recovers_else w.recovery n h d None (not_ended (w.recovery h) was (λ t. ap (λ j. w.recovery j) (same_point h n t) ∙ x.all.opened.recovery) (if_true_not (d == r.slot) (w.pending d) pend)) was
  where
    if_true_not : (b y : Bool) → (if b then false else y) ≡ true → b ≡ false
    if_true_not b y e = grind arith

    not_ended : (y : Option Recovering) → recovers y d ≡ true → ((h == n) ≡ true → y ≡ Some r) → (d == r.slot) ≡ false → (h == n) ≡ false
    not_ended y e is apart = by_test (h == n) (λ t. let same : (r.slot == d) ≡ true = sym (ap (λ x. recovers x d) (is t)) ∙ e in absurd (clash (r.slot == d) same (apart_sym d r.slot apart))) (λ f. f)

    heir_old : (y : Option ℕ) → (if d == r.slot then false else w.pending d) ≡ true → (if d == r.slot then None else y) ≡ Some h → y ≡ Some h
    heir_old y e t = grind arith
moved_found w v x g z p a d h s pend lt moved new heir settled = a.pendings.moved_found d h s pend lt moved new heir settled
