-- Each way keeps what is known of the sectors that were settled since a recovery began.
use Rattle.std.proofs.Common.{◌≡◌, ℕ, ◌+◌, ◌-◌, ◌*◌, ◌/◌, ◌==◌, ◌<◌, ◌≤◌, ◌&&◌, Bool, true, false, if◌then◌else◌, Option, Some, None, refl, sym, ap, subst, ◌∙◌, arith}
use Rattle.std.specs.Prelude.{is_some, option_map}
use Rattle.std.proofs.Math.Nat.{lt-div-mul-add}
use Rattle.std.proofs.lemmas.Bool.Decides.{nat_tests}
use Rattle.std.proofs.lemmas.Nat.{div-mul-add}
use Rattle.dlm_modes.specs.Points.{with_at}
use Rattle.mdc_types.specs.Geometry.{Sizes, chunk_of, chunk_start}
use Rattle.mdc_types.specs.Ranges.{holds}
use Rattle.node_recovery.specs.Progress.{Recovering}
use Rattle.resync_worker.specs.Copying.{Passing, settled_at, restarted, filled, copied}
use Rattle.resync_worker.specs.Sectors.{is_behind, reached_after, ends_chunk}
use Rattle.resync_worker.specs.declared.buffer.Buffer.{Buffer}
use Rattle.resync_worker.proofs.SectorLaws.{is_behind-restarted, is_behind-settled}
use Rattle.cluster_model.specs.Changes.{no_copy}
use Rattle.cluster_model.specs.State.{Copy}
use Rattle.storage_ways.proofs.Parts.{Part, has_pass, reached_in}
use Rattle.storage_ways.proofs.Sound.{Sound}
use Rattle.storage_ways.proofs.Ways as ways
use Rattle.storage_ways.proofs.Ways.{Way, Settles}
use Rattle.laws_writes.proofs.Contents.{Contents}
use Rattle.laws_writes.proofs.Ghosts.{Ghost}
use Rattle.laws_writes.proofs.Places.{before_next, chunk_some}
use Rattle.laws_writes.proofs.Points.{at_point, either_if, same_point, clash}
use Rattle.laws_writes.proofs.Settled.{Since, since_after, Settled, SincePass, SinceSettled}

still_some : (f : Passing → Passing) (x : Option Passing) → is_some x ≡ true → is_some (option_map f x) ≡ true
still_some f None e = cc
still_some f (Some p) e = refl

some_left : (recovery : ℕ → Option Recovering) (n m : ℕ) → is_some (with_at recovery n None m) ≡ true → is_some (recovery m) ≡ true
some_left recovery n m = at_point (λ y. is_some y ≡ true → is_some (recovery m) ≡ true) recovery n None m (λ is e. cc) (λ apart e. e)

some_else : (recovery : ℕ → Option Recovering) (n m : ℕ) (x : Option Recovering) → is_some (recovery n) ≡ true → is_some (with_at recovery n x m) ≡ true → is_some (recovery m) ≡ true
some_else recovery n m x here = at_point (λ y. is_some y ≡ true → is_some (recovery m) ≡ true) recovery n x m (λ is e. subst (λ q. is_some (recovery q) ≡ true) (sym is) here) (λ apart e. e)

-- a node's pass, where the node changes how it copies
pass_at : (copy : ℕ → Copy) (n m : ℕ) (y : Copy) → (has_pass (copy n) ≡ true → has_pass y ≡ true) → has_pass (copy m) ≡ true → has_pass (with_at copy n y m) ≡ true
pass_at copy n m y more old = at_point (λ x. has_pass x ≡ true) copy n y m (λ is. more (subst (λ j. has_pass (copy j) ≡ true) is old)) (λ apart. old)

module _ (w : Part) (z : Since) (s : Sound w) (a : Settled w z) where
  gone_pass : (n m t : ℕ) → is_some (with_at w.recovery n None m) ≡ true → (((m == n) ≡ false) → z.since m t ≡ true) → has_pass (with_at w.copy n no_copy m) ≡ true
  gone_pass n m t some since = either_if (λ (y : Copy). has_pass y ≡ true) (m == n) no_copy (w.copy m)
      (λ e. let none = gone e in cc)
      (λ e. a.since_pass m t (some_left w.recovery n m some) (since e))
    where
      gone : (m == n) ≡ true → is_some (with_at w.recovery n None m) ≡ false
      gone e = grind arith

not_begun : (b c : Bool) → (if b then false else c) ≡ true → b ≡ false → c ≡ true
not_begun b c e f = grind arith

pub since_pass : (w v : Part) (x : Way w v) → Sound w → (z : Since) → Settled w z → SincePass v (since_after x z)
since_pass w v (ways.shuts n r o told e same) s z a m t some since = pass_at w.copy n m _ (λ h. still_some _ (w.copy n).pass h) (a.since_pass m t some since)
since_pass w v (ways.opens n r o e wish) s z a m t some since = pass_at w.copy n m _ (λ h. h) (a.since_pass m t some since)
since_pass w v (ways.finishes n o e meta) s z a m t some since = pass_at w.copy n m _ (λ h. still_some _ (w.copy n).pass h) (a.since_pass m t some since)
since_pass w v (ways.hears_roles n roles size o e meta same) s z a m t some since = pass_at w.copy n m _ (λ h. still_some _ (w.copy n).pass h) (a.since_pass m t some since)
since_pass w v (ways.comes n k says lost ranges e) s z a m t some since = pass_at w.copy n m _ (λ h. still_some _ (w.copy n).pass h) (a.since_pass m t some since)
since_pass w v (ways.leaves n x) s z a m t some since = gone_pass w z s a n m t some (λ e. since)
since_pass w v (ways.quits n x) s z a m t some since = gone_pass w z s a n m t some (λ e. since)
since_pass w v (ways.parts n o x) s z a m t some since = gone_pass w z s a n m t some (not_begun (m == n) (z.since m t) since)
since_pass w v (ways.dies n told x) s z a m t some since = gone_pass w z s a n m t some (not_begun (m == n) (z.since m t) since)
since_pass w v (ways.turns n up turn stays) s z a m t some since = pass_at w.copy n m _ (λ h. h) (a.since_pass m t some since)
since_pass w v (ways.holds_turn n up turn alone) s z a m t some since = pass_at w.copy n m _ (λ h. h) (a.since_pass m t some since)
since_pass w v (ways.passes_own n e) s z a m t some since = pass_at w.copy n m _ (λ h. refl) (a.since_pass m t some since)
since_pass w v (ways.passes_full n e) s z a m t some since = pass_at w.copy n m _ (λ h. refl) (a.since_pass m t some since)
since_pass w v (ways.passes_again n k e) s z a m t some since = pass_at w.copy n m _ (λ h. refl) (a.since_pass m t some since)
since_pass w v (ways.fills n u i y p r e) s z a m t some since = pass_at w.copy n m _ (λ h. still_some _ (w.copy n).pass h) (a.since_pass m t some since)
since_pass w v (ways.copies n i p b e) s z a m t some since = pass_at w.copy n m _ (λ h. still_some _ (w.copy n).pass h) (a.since_pass m t some since)
since_pass w v (ways.settles n p b e) s z a m t some since = pass_at w.copy n m _ (λ h. still_some _ (w.copy n).pass h)
    (subst (λ j. has_pass (w.copy j) ≡ true) (sym (s.turns.one m n (s.turns.recovery m some) e.buffers.turn)) (ap is_some e.buffers.pass))
since_pass w v (ways.ends_pass n e) s z a m t some since = either_if (λ (y : Copy). has_pass y ≡ true) (m == n) no_copy (w.copy m)
    (λ is. absurd (clash (is_some (w.recovery m)) some (ap (λ j. is_some (w.recovery j)) (same_point m n is) ∙ ap is_some e.recovery)))
    (λ apart. a.since_pass m t some since)
since_pass w v (ways.recovers_slot n d e) s z a m t some since = either (m == n) refl
  where
    either : (b : Bool) → (m == n) ≡ b → has_pass (w.copy m) ≡ true
    either true is = let none = not_begun (m == n) (z.since m t) since in grind (arith, none)
    either false apart = a.since_pass m t (begun_else apart) (not_begun (m == n) (z.since m t) since apart)
      where
        begun_else : (m == n) ≡ false → is_some (w.recovery m) ≡ true
        begun_else e = grind arith
since_pass w v (ways.slot_reads n p i r has e) s z a m t some since = a.since_pass m t (some_else w.recovery n m _ (ap is_some e.opened.recovery) some) since
since_pass w v (ways.slot_clears n p i r e) s z a m t some since = a.since_pass m t (some_else w.recovery n m _ (ap is_some e.all.opened.recovery) some) since
since_pass w v (ways.ends_recovery n r e) s z a m t some since = a.since_pass m t (some_left w.recovery n m some) since
since_pass w v x s z a m t some since = a.since_pass m t some since

-- Where a pass stands.

abbrev settled_in : Sizes → Copy → ℕ → Bool
settled_in g y t = has_pass y && is_behind g (reached_in y.pass) t

-- a node's place, where the node changes how it copies
place_at : (g : Sizes) (copy : ℕ → Copy) (n m t : ℕ) (y : Copy) → (settled_in g y t ≡ true → settled_in g (copy n) t ≡ true) → settled_in g (with_at copy n y m) t ≡ true → settled_in g (copy m) t ≡ true
place_at g copy n m t y less = at_point (λ x. settled_in g x t ≡ true → settled_in g (copy m) t ≡ true) copy n y m
    (λ is e. subst (λ j. settled_in g (copy j) t ≡ true) (sym is) (less e)) (λ apart e. e)

and_false : (a b : Bool) → b ≡ false → (a && b) ≡ true → ⊥
and_false a b f e = grind arith

and_left : (a b : Bool) → (a && b) ≡ true → a ≡ true
and_left a b e = grind arith

and_right : (a b : Bool) → (a && b) ≡ true → b ≡ true
and_right a b e = grind arith

-- a pass that keeps its place
same_place : (g : Sizes) (f : Passing → Passing) (y : Copy) (t : ℕ) → ((p : Passing) → (f p).reached ≡ p.reached) → settled_in g (record y { pass = option_map f y.pass }) t ≡ true → settled_in g y t ≡ true
same_place g f y t same e = by y.pass e
  where
    by : (x : Option Passing) → (is_some (option_map f x) && is_behind g (reached_in (option_map f x)) t) ≡ true → (is_some x && is_behind g (reached_in x) t) ≡ true
    by None e = e
    by (Some p) e = subst (λ r. is_behind g r t ≡ true) (same p) e

-- a pass at its beginning
first_place : (g : Sizes) (x : Option Passing) (b : Bool) (t : ℕ) → reached_in x ≡ 0 → (b && is_behind g (reached_in x) t) ≡ true → ⊥
first_place g x b t zero e = and_false b (is_behind g (reached_in x) t) (ap (λ r. is_behind g r t) zero ∙ is_behind-restarted g t) e

restarted_place : (x : Option Passing) (f : Passing → Passing) → ((p : Passing) → (f p).reached ≡ 0) → reached_in (option_map f x) ≡ 0
restarted_place None f none = refl
restarted_place (Some p) f none = none p

lower : (i s t : ℕ) → holds i (s + 1) t ≡ true → (t == s) ≡ false → t < s
lower i s t e apart = grind (arith, nat_tests)

from_start : (i s t : ℕ) → holds i (s + 1) t ≡ true → i ≤ t
from_start i s t e = grind (arith, nat_tests)

same_chunk : (g : Sizes) (s t : ℕ) → 0 < g.chunk → chunk_start g (chunk_of g s) ≤ t → t < s → chunk_of g t ≡ chunk_of g s
same_chunk g s t some from below =
    let end : s < chunk_of g s * g.chunk + g.chunk = lt-div-mul-add some in
    let split : t ≡ chunk_of g s * g.chunk + (t - chunk_of g s * g.chunk) = omega arith in
    let rest : t - chunk_of g s * g.chunk < g.chunk = omega arith in
    ap (λ x. x / g.chunk) split ∙ div-mul-add (chunk_of g s) g.chunk (t - chunk_of g s * g.chunk) rest

module _ (w : Part) (g : Ghost) (z : Since) (s : Sound w) (c : Contents w g) (a : Settled w z) where
  -- where a sector is settled: it, and those of its chunk that were settled before
  settled_since : (n : ℕ) (p : Passing) (b : Buffer) → Settles w n p b → (t : ℕ) → is_some (w.recovery n) ≡ true → is_behind w.geometry (reached_after w.geometry b.sector) t ≡ true → (if t == b.sector then true else z.since n t) ≡ true
  settled_since n p b e t some behind = by (ends_chunk w.geometry b.sector) refl
    where
      below : ends_chunk w.geometry b.sector ≡ false → holds (chunk_start w.geometry (chunk_of w.geometry b.sector)) (b.sector + 1) t ≡ true
      below more = sym (is_behind-settled w.geometry b.sector t (chunk_some w.geometry s.within.geometry) e.buffers.sector more) ∙ behind

      earlier : ends_chunk w.geometry b.sector ≡ false → (t == b.sector) ≡ false → z.since n t ≡ true
      earlier more apart =
          let under = lower (chunk_start w.geometry (chunk_of w.geometry b.sector)) b.sector t (below more) apart in
          let from = from_start (chunk_start w.geometry (chunk_of w.geometry b.sector)) b.sector t (below more) in
          let same = same_chunk w.geometry b.sector t (chunk_some w.geometry s.within.geometry) from under in
          a.since_settled n t some (before_next w n t b.sector s.within.geometry (ap is_some e.buffers.pass) (c.buffer_place n p b e.buffers.pass e.buffers.buffer) same under)

      by : (x : Bool) → ends_chunk w.geometry b.sector ≡ x → (if t == b.sector then true else z.since n t) ≡ true
      by true last = absurd (clash (is_behind w.geometry (reached_after w.geometry b.sector) t) behind (ap (λ r. is_behind w.geometry r t) (ended last) ∙ is_behind-restarted w.geometry t))
        where
          ended : ends_chunk w.geometry b.sector ≡ true → reached_after w.geometry b.sector ≡ 0
          ended e = grind arith
      by false more = either_if (λ y. y ≡ true) (t == b.sector) true (z.since n t) (λ e. refl) (λ apart. earlier more apart)

  settled_place : (n m : ℕ) (p : Passing) (b : Buffer) → Settles w n p b → (t : ℕ) → is_some (w.recovery m) ≡ true
      → settled_in w.geometry (with_at w.copy n (record (w.copy n) { pass = option_map (λ q. settled_at w.geometry q b) (w.copy n).pass }) m) t ≡ true
      → (if t == b.sector then true else z.since m t) ≡ true
  settled_place n m p b e t some = at_point (λ y. settled_in w.geometry y t ≡ true → (if t == b.sector then true else z.since m t) ≡ true) w.copy n _ m
      (λ is here. subst (λ j. (if t == b.sector then true else z.since j t) ≡ true) (sym is)
      (settled_since n p b e t (subst (λ j. is_some (w.recovery j) ≡ true) is some) (reached (w.copy n).pass here)))
      (λ apart here. either_if (λ y. y ≡ true) (t == b.sector) true (z.since m t) (λ e. refl) (λ other. a.since_settled m t some here))
    where
      reached : (x : Option Passing) → (is_some (option_map (λ q. settled_at w.geometry q b) x) && is_behind w.geometry (reached_in (option_map (λ q. settled_at w.geometry q b) x)) t) ≡ true
          → is_behind w.geometry (reached_after w.geometry b.sector) t ≡ true
      reached None e = absurd (and_false false _ refl e)
      reached (Some q) e = e

begun_or : (b c : Bool) → (b ≡ false → c ≡ true) → (b ≡ true → ⊥) → (if b then false else c) ≡ true
begun_or true c f no_more = absurd (no_more refl)
begun_or false c f no_more = f refl

none_left : (recovery : ℕ → Option Recovering) (n m : ℕ) → is_some (with_at recovery n None m) ≡ true → (m == n) ≡ true → ⊥
none_left recovery n m some e = grind arith

pub since_settled : (w v : Part) (x : Way w v) → Sound w → (g : Ghost) → Contents w g → (z : Since) → Settled w z → SinceSettled v (since_after x z)
since_settled w v (ways.shuts n r o told e same) s g c z a m t some place = at_point (λ (y : Copy). settled_in w.geometry y t ≡ true → z.since m t ≡ true) w.copy n _ m
    (λ is e. absurd (first_place w.geometry (option_map restarted (w.copy n).pass) (is_some (option_map restarted (w.copy n).pass)) t (restarted_place (w.copy n).pass restarted (λ p. refl)) e)) (λ apart. a.since_settled m t some) place
since_settled w v (ways.opens n r o e wish) s g c z a m t some place = a.since_settled m t some (place_at w.geometry w.copy n m t _ (λ e. e) place)
since_settled w v (ways.finishes n o e meta) s g c z a m t some place = a.since_settled m t some (place_at w.geometry w.copy n m t _ (same_place w.geometry _ (w.copy n) t (λ p. refl)) place)
since_settled w v (ways.hears_roles n roles size o e meta same) s g c z a m t some place = a.since_settled m t some (place_at w.geometry w.copy n m t _ (same_place w.geometry _ (w.copy n) t (λ p. refl)) place)
since_settled w v (ways.comes n k says lost ranges e) s g c z a m t some place = a.since_settled m t some (place_at w.geometry w.copy n m t _ (same_place w.geometry _ (w.copy n) t (λ p. refl)) place)
since_settled w v (ways.leaves n x) s g c z a m t some place = a.since_settled m t (some_left w.recovery n m some) (place_at w.geometry w.copy n m t no_copy (λ e. cc) place)
since_settled w v (ways.quits n x) s g c z a m t some place = a.since_settled m t (some_left w.recovery n m some) (place_at w.geometry w.copy n m t no_copy (λ e. cc) place)
since_settled w v (ways.parts n o x) s g c z a m t some place =
    begun_or (m == n) (z.since m t) (λ apart. a.since_settled m t (some_left w.recovery n m some) (place_at w.geometry w.copy n m t no_copy (λ e. cc) place)) (none_left w.recovery n m some)
since_settled w v (ways.dies n told x) s g c z a m t some place =
    begun_or (m == n) (z.since m t) (λ apart. a.since_settled m t (some_left w.recovery n m some) (place_at w.geometry w.copy n m t no_copy (λ e. cc) place)) (none_left w.recovery n m some)
since_settled w v (ways.turns n up turn stays) s g c z a m t some place = a.since_settled m t some (place_at w.geometry w.copy n m t _ (λ e. e) place)
since_settled w v (ways.holds_turn n up turn alone) s g c z a m t some place = a.since_settled m t some (place_at w.geometry w.copy n m t _ (λ e. e) place)
since_settled w v (ways.passes_own n e) s g c z a m t some place = at_point (λ (y : Copy). settled_in w.geometry y t ≡ true → z.since m t ≡ true) w.copy n _ m
    (λ is e. absurd (and_false true (is_behind w.geometry 0 t) (is_behind-restarted w.geometry t) e)) (λ apart. a.since_settled m t some) place
since_settled w v (ways.passes_full n e) s g c z a m t some place = at_point (λ (y : Copy). settled_in w.geometry y t ≡ true → z.since m t ≡ true) w.copy n _ m
    (λ is e. absurd (and_false true (is_behind w.geometry 0 t) (is_behind-restarted w.geometry t) e)) (λ apart. a.since_settled m t some) place
since_settled w v (ways.passes_again n k e) s g c z a m t some place = at_point (λ (y : Copy). settled_in w.geometry y t ≡ true → z.since m t ≡ true) w.copy n _ m
    (λ is e. absurd (and_false true (is_behind w.geometry 0 t) (is_behind-restarted w.geometry t) e)) (λ apart. a.since_settled m t some) place
since_settled w v (ways.fills n u i y p r e) s g c z a m t some place = a.since_settled m t some (place_at w.geometry w.copy n m t _ (same_place w.geometry (λ q. filled q u y i) (w.copy n) t (λ p. refl)) place)
since_settled w v (ways.copies n i p b e) s g c z a m t some place = a.since_settled m t some (place_at w.geometry w.copy n m t _ (same_place w.geometry (λ q. copied q i) (w.copy n) t (λ p. refl)) place)
since_settled w v (ways.settles n p b e) s g c z a m t some place = settled_place w g z s c a n m p b e t some place
since_settled w v (ways.ends_pass n e) s g c z a m t some place = a.since_settled m t some (place_at w.geometry w.copy n m t no_copy (λ e. cc) place)
since_settled w v (ways.recovers_slot n d e) s g c z a m t some place = begun_or (m == n) (z.since m t) (λ apart. a.since_settled m t (begun_else apart) place)
    (λ is. let none : has_pass (w.copy m) ≡ false = ap (λ j. has_pass (w.copy j)) (same_point m n is) ∙ ap is_some e.pass in
    clash (has_pass (w.copy m)) (and_left (has_pass (w.copy m)) _ place) none)
  where
    begun_else : (m == n) ≡ false → is_some (w.recovery m) ≡ true
    begun_else e = grind arith
since_settled w v (ways.slot_reads n p i r has e) s g c z a m t some place = a.since_settled m t (some_else w.recovery n m _ (ap is_some e.opened.recovery) some) place
since_settled w v (ways.slot_clears n p i r e) s g c z a m t some place = a.since_settled m t (some_else w.recovery n m _ (ap is_some e.all.opened.recovery) some) place
since_settled w v (ways.ends_recovery n r e) s g c z a m t some place = a.since_settled m t (some_left w.recovery n m some) place
since_settled w v x s g c z a m t some place = a.since_settled m t some place
