-- Each way keeps good legs from being stale, and the buffer's value one that may be read.
use Rattle.std.proofs.Common.{◌≡◌, ℕ, ◌==◌, ◌&&◌, ◌||◌, Bool, true, false, not, if◌then◌else◌, List, [], ◌∷◌, ◌++◌, Option, Some, None, refl, sym, ap, subst, ◌∙◌, arith}
use Rattle.std.specs.Prelude.{is_some, nat_lt, option_map}
use Rattle.std.proofs.lemmas.Bool.Decides.{nat_tests}
use Rattle.mdc_types.specs.Geometry.{Sizes}
use Rattle.mdc_types.specs.declared.numbers.Range.{Range}
use Rattle.mdc_types.specs.declared.numbers.Sector.{Sector}
use Rattle.mirror_io.specs.Flight.{write_in}
use Rattle.mirror_io.specs.declared.live.LiveWrite.{LiveWrite}
use Rattle.node_recovery.specs.Progress.{Recovering}
use Rattle.resync_worker.specs.Copying.{Passing, restarted, settled_at, covering_only, filled, copied, done_on}
use Rattle.resync_worker.specs.declared.buffer.Buffer.{Buffer}
use Rattle.cluster_model.specs.State.{Offer, Copy}
use Rattle.cluster_model.specs.Copying.{next_for}
use Rattle.laws_sound.proofs.CopySteps.{next_below}
use Rattle.storage_ways.proofs.Parts.{Part, chunk_in, todo, todo_in, found_in, buffer_in, writes_at}
use Rattle.storage_ways.proofs.Roled.{good_written, up_served_good}
use Rattle.storage_ways.proofs.Ways as ways
use Rattle.storage_ways.proofs.Ways.{Way, Offering, Fills}
use Rattle.laws_roles.proofs.Parts.{promotes}
use Rattle.laws_writes.proofs.Ghosts.{Ghost, ghost_after, is_among}
use Rattle.laws_writes.proofs.Races.{no_write_buffer}
use Rattle.laws_writes.proofs.Settled.{Since}
use Rattle.laws_recovery.proofs.Ghosts.{Hold}
use Rattle.laws_recovery.proofs.Known.{Known}
use Rattle.laws_recovery.proofs.Lacks.{lacks_tried, lacks_copied, decides_end, decides_settle, lacked_written, buffer_is}
use Rattle.laws_recovery.proofs.Stale.{NotStale, BufferValue, lacks, arm}
use Rattle.laws_recovery.proofs.Marked.{apart_sym}
use Rattle.laws_writes.proofs.Points.{at_point, fails, clash}
use Rattle.laws_recovery.proofs.Values.{among_more}

found_some : (x : Option Recovering) (c : ℕ) → found_in x c ≡ true → is_some x ≡ true
found_some None c e = cc
found_some (Some r) c e = refl

-- no slot is pending, so none has an arm
pub no_arm : (w : Part) (g : Ghost) (h : Hold) (z : Since) → Known w g h z → ((d : ℕ) → w.pending d ≡ false) → (k c : ℕ) → arm w k c ≡ false
no_arm w g h z a none k c = by (w.recovery k) refl
  where
    by : (x : Option Recovering) → w.recovery k ≡ x → (w.pending k || found_in (w.recovery k) c) ≡ false
    by None e = grind (arith, none k, ap (λ x. found_in x c) e)
    by (Some r) e = grind (arith, none r.slot, a.sound.turns.slot k r e)

not_todo : (w : Part) (n c : ℕ) → ((p : _) → (w.copy n).pass ≡ Some p → p.todo c ≡ false) → todo w n c ≡ false
not_todo w n c f = by (w.copy n).pass refl
  where
    by : (x : _) → (w.copy n).pass ≡ x → todo_in (w.copy n).pass c ≡ false
    by None e = ap (λ x. todo_in x c) e
    by (Some p) e = ap (λ x. todo_in x c) e ∙ f p e

-- a leg that is to work was copied whole
promoted_holds : (w : Part) (g : Ghost) (h : Hold) (z : Since) → Known w g h z → (n : ℕ) (o : Offer) → Offering w n o → (l s : ℕ) → promotes o.wish l ≡ true → lacks w g l s ≡ false
promoted_holds w g h z a n o x l s e = by (lacks w g l s) refl
  where
    by : (b : Bool) → lacks w g l s ≡ b → lacks w g l s ≡ false
    by false lack = lack
    by true lack =
        let some = a.stale.covered_arm n l s (x.covered l e) lack (not_todo w n (chunk_in w s) (λ p is. x.nothing_left l (chunk_in w s) p e is)) in
        let none = no_arm w g h z a (λ d. x.none_pending l d e) (h.hold l s) (chunk_in w s) in
        cc

pub not_stale : (w v : Part) (x : Way w v) (g : Ghost) (h : Hold) (z : Since) → Known w g h z → NotStale v (ghost_after x g)
not_stale w v (ways.offers n o x) g h z a l s good = grind (arith, a.stale.not_stale l s, promoted_holds w g h z a n o x l s)
not_stale w v (ways.finishes n o x meta) g h z a l s good = grind (arith, a.stale.not_stale l s, a.sound.roles.offer_good n l, x.offer, meta)
not_stale w v (ways.outs n k l' x t) g h z a l s good = fails _ _ (lacks_tried w g a.contents n k l' x true t l s) (a.stale.not_stale l s good)
not_stale w v (ways.misses n k l' x left t) g h z a l s good = fails _ _ (lacks_tried w g a.contents n k l' x left t l s) (a.stale.not_stale l s good)
not_stale w v (ways.ends n k x e) g h z a l s good = fails _ _ (lacked_written w g a.sound n x.sector x.value (decides_end w g a.sound a.contents n k x e) l s (good_written w a.sound l good)) (a.stale.not_stale l s good)
not_stale w v (ways.copies n l' p b e) g h z a l s good = fails _ _ (lacks_copied w g l' b.sector b.value true (a.stale.buffer_value n b (buffer_is w n p b e.buffers)) l s) (a.stale.not_stale l s good)
not_stale w v (ways.misses_copy n l' p b left e) g h z a l s good = fails _ _ (lacks_copied w g l' b.sector b.value left (a.stale.buffer_value n b (buffer_is w n p b e.buffers)) l s) (a.stale.not_stale l s good)
not_stale w v (ways.settles n p b e) g h z a l s good = fails _ _ (lacked_written w g a.sound n b.sector b.value (decides_settle w g a.contents a.stale.buffer_value n p b e) l s (good_written w a.sound l good)) (a.stale.not_stale l s good)
not_stale w v x g h z a l s good = a.stale.not_stale l s good

-- Buffers.

abbrev Fits : Ghost → Buffer → Copy → Type 0
Fits g b c = buffer_in c.pass ≡ Some b → is_among b.value (g.values b.sector) ≡ true

same_node : (m n : ℕ) → m ≡ n → (m == n) ≡ true
same_node m n e = grind (arith, nat_tests)

has_buffer : (x : Option Passing) (b : Buffer) → buffer_in x ≡ Some b → is_some x ≡ true
has_buffer None b e = cc
has_buffer (Some p) b e = refl

no_restarted : (x : Option Passing) {b : Buffer} {A : Type 0} → buffer_in (option_map restarted x) ≡ Some b → A
no_restarted None e = cc
no_restarted (Some p) e = cc

no_settled : (g : Sizes) (x : Option Passing) (c : Buffer) {b : Buffer} {A : Type 0} → buffer_in (option_map (λ q. settled_at g q c) x) ≡ Some b → A
no_settled g None c e = cc
no_settled g (Some p) c e = cc

covering_buffer : (x : Option Passing) (legs : ℕ → Bool) {b : Buffer} {A : Type 0} → (buffer_in x ≡ Some b → A) → buffer_in (option_map (λ p. covering_only p legs) x) ≡ Some b → A
covering_buffer None legs f e = f e
covering_buffer (Some p) legs f e = f e

filled_buffer : (g : Ghost) (x : Option Passing) (s : ℕ) (u : Sector) (l : ℕ) (b : Buffer) → is_among u (g.values s) ≡ true → buffer_in (option_map (λ q. filled q s u l) x) ≡ Some b → is_among b.value (g.values b.sector) ≡ true
filled_buffer g None s u l b known e = cc
filled_buffer g (Some p) s u l b known e =
    let value : u ≡ b.value = cc in
    let sector : s ≡ b.sector = cc in
    subst (λ y. is_among y (g.values b.sector) ≡ true) value (subst (λ y. is_among u (g.values y) ≡ true) sector known)

copied_buffer : (g : Ghost) (x : Option Passing) (l : ℕ) (b : Buffer) → ((d : Buffer) → buffer_in x ≡ Some d → is_among d.value (g.values d.sector) ≡ true)
    → buffer_in (option_map (λ q. copied q l) x) ≡ Some b → is_among b.value (g.values b.sector) ≡ true
copied_buffer g None l b known e = cc
copied_buffer g (Some p) l b known e = by p.buffer refl e
  where
    by : (y : Option Buffer) → p.buffer ≡ y → option_map (done_on l) y ≡ Some b → is_among b.value (g.values b.sector) ≡ true
    by None is e = cc
    by (Some d) is e =
        let value : d.value ≡ b.value = cc in
        let sector : d.sector ≡ b.sector = cc in
        subst (λ y. is_among y (g.values b.sector) ≡ true) value (subst (λ y. is_among d.value (g.values y) ≡ true) sector (known d is))

-- what is read from a working leg may be read
value_read : (w : Part) (g : Ghost) (h : Hold) (z : Since) → Known w g h z → (n s l : ℕ) (u : Sector) (p : Passing) (r : Range) → Fills w n s l u p r → is_among u (g.values s) ≡ true
value_read w g h z a n s l u p r e =
    let place : next_for w.geometry (w.copy n).pass (w.copy n).window ≡ Some s = ap (λ x. next_for w.geometry x (w.copy n).window) e.pass ∙ ap (λ x. next_for w.geometry (Some p) x) e.window ∙ e.next in
    let below = next_below w.geometry (w.copy n).pass (w.copy n).window s a.sound.within.geometry place in
    let good = up_served_good w a.sound n l e.up e.works in
    let here = a.stale.not_stale l s good in
    subst (λ y. is_among y (g.values s) ≡ true) (sym e.value) (fresh (nat_lt s w.geometry.room) (is_among (w.stored l s) (g.values s)) (grind (arith, nat_tests)) here)
  where
    fresh : (a b : Bool) → a ≡ true → (a && not b) ≡ false → b ≡ true
    fresh a b t e = grind arith

tried_value : (us : List Sector) (b : Bool) (v u : Sector) → is_among v us ≡ true → is_among v (if b then us ++ u ∷ [] else us) ≡ true
tried_value us true v u e = among_more v u us e
tried_value us false v u e = e

kept_value : (c : Bool) (us ys : List Sector) (v : Sector) → c ≡ false → is_among v ys ≡ true → is_among v (if c then us else ys) ≡ true
kept_value c us ys v other e = grind arith

no_true : (b : Bool) → (b ≡ true → ⊥) → b ≡ false
no_true true f = absurd (f refl)
no_true false f = refl

-- no live write is of the buffer's sector
other_sector : (w : Part) (g : Ghost) (h : Hold) (z : Since) → Known w g h z → (m n k : ℕ) (b : Buffer) (x : LiveWrite) → write_in k (w.writes n) ≡ Some x → buffer_in (w.copy m).pass ≡ Some b → (b.sector == x.sector) ≡ false
other_sector w g h z a m n k b x here is = by (w.copy m).pass refl
  where
    by : (y : Option Passing) → (w.copy m).pass ≡ y → (b.sector == x.sector) ≡ false
    by None e = let none = sym (ap buffer_in e) ∙ is in cc
    by (Some p) e =
        let race = no_write_buffer w g a.sound a.windows a.contents m n k p b e (sym (ap buffer_in e) ∙ is) in
        apart_sym x.sector b.sector (no_true (x.sector == b.sector) (λ same. race (ap (λ y. writes_at y b.sector) here ∙ same)))

-- the buffer of a pass that goes on, and there are no others
pub buffer_value : (w v : Part) (x : Way w v) (g : Ghost) (h : Hold) (z : Since) → Known w g h z → BufferValue v (ghost_after x g)
buffer_value w v (ways.shuts n r o told e same) g h z a m b = at_point (Fits g b) w.copy n _ m (λ is. no_restarted (w.copy n).pass) (λ e. a.stale.buffer_value m b)
buffer_value w v (ways.opens n r o e wish) g h z a m b = at_point (Fits g b) w.copy n _ m (λ is. a.stale.buffer_value n b) (λ e. a.stale.buffer_value m b)
buffer_value w v (ways.finishes n o e meta) g h z a m b = at_point (Fits g b) w.copy n _ m (λ is. covering_buffer (w.copy n).pass _ (a.stale.buffer_value n b)) (λ e. a.stale.buffer_value m b)
buffer_value w v (ways.hears_roles n roles size o e meta same) g h z a m b = at_point (Fits g b) w.copy n _ m (λ is. covering_buffer (w.copy n).pass _ (a.stale.buffer_value n b)) (λ e. a.stale.buffer_value m b)
buffer_value w v (ways.comes n k says lost ranges e) g h z a m b = at_point (Fits g b) w.copy n _ m (λ is. covering_buffer (w.copy n).pass _ (a.stale.buffer_value n b)) (λ e. a.stale.buffer_value m b)
buffer_value w v (ways.leaves n e) g h z a m b = at_point (Fits g b) w.copy n _ m (λ is e. cc) (λ e. a.stale.buffer_value m b)
buffer_value w v (ways.quits n e) g h z a m b = at_point (Fits g b) w.copy n _ m (λ is e. cc) (λ e. a.stale.buffer_value m b)
buffer_value w v (ways.parts n o e) g h z a m b = at_point (Fits g b) w.copy n _ m (λ is e. cc) (λ e. a.stale.buffer_value m b)
buffer_value w v (ways.dies n told e) g h z a m b = at_point (Fits g b) w.copy n _ m (λ is e. cc) (λ e. a.stale.buffer_value m b)
buffer_value w v (ways.turns n up turn stays) g h z a m b = at_point (Fits g b) w.copy n _ m (λ is. a.stale.buffer_value n b) (λ e. a.stale.buffer_value m b)
buffer_value w v (ways.holds_turn n up turn alone) g h z a m b = at_point (Fits g b) w.copy n _ m (λ is. a.stale.buffer_value n b) (λ e. a.stale.buffer_value m b)
buffer_value w v (ways.passes_own n e) g h z a m b = at_point (Fits g b) w.copy n _ m (λ is e. cc) (λ e. a.stale.buffer_value m b)
buffer_value w v (ways.passes_full n e) g h z a m b = at_point (Fits g b) w.copy n _ m (λ is e. cc) (λ e. a.stale.buffer_value m b)
buffer_value w v (ways.passes_again n l e) g h z a m b = at_point (Fits g b) w.copy n _ m (λ is e. cc) (λ e. a.stale.buffer_value m b)
buffer_value w v (ways.ends_pass n e) g h z a m b = at_point (Fits g b) w.copy n _ m (λ is e. cc) (λ e. a.stale.buffer_value m b)
buffer_value w v (ways.fills n s l u p r e) g h z a m b = at_point (Fits g b) w.copy n _ m
    (λ is. filled_buffer g (w.copy n).pass s u l b (value_read w g h z a n s l u p r e)) (λ e. a.stale.buffer_value m b)
buffer_value w v (ways.copies n l p c e) g h z a m b = at_point (Fits g b) w.copy n _ m (λ is. copied_buffer g (w.copy n).pass l b (λ d. a.stale.buffer_value n d)) (λ e. a.stale.buffer_value m b)
buffer_value w v (ways.outs n k l x t) g h z a m b = λ is. tried_value (g.values b.sector) _ b.value x.value (a.stale.buffer_value m b is)
buffer_value w v (ways.misses n k l x left t) g h z a m b = λ is. tried_value (g.values b.sector) _ b.value x.value (a.stale.buffer_value m b is)
buffer_value w v (ways.settles n p c e) g h z a m b = at_point (Fits (ghost_after (ways.settles n p c e) g) b) w.copy n _ m
    (λ is. no_settled w.geometry (w.copy n).pass c)
    (λ apart is. absurd (clash (m == n) (same_node m n (a.sound.turns.one m n (a.sound.turns.pass m (has_buffer (w.copy m).pass b is)) e.buffers.turn)) apart))
buffer_value w v (ways.ends n k x e) g h z a m b = λ is. kept_value (b.sector == x.sector) _ _ b.value (other_sector w g h z a m n k b x e.ending.write is) (a.stale.buffer_value m b is)
buffer_value w v x g h z a m b = a.stale.buffer_value m b
