-- What was settled in a window stays as it is: it was settled before a way, or is settled in it, and
-- nothing else happens there.
use Rattle.std.proofs.Common.{◌≡◌, ◌⊎◌, inl, inr, ℕ, ◌==◌, ◌&&◌, if◌then◌else◌, Bool, true, false, Option, Some, None, ◌∷◌, [], ◌++◌, option_map, refl, sym, ap, subst, ◌∙◌, arith}
use Rattle.std.specs.Prelude.{is_some, not}
use Rattle.mdc_types.specs.Geometry.{Sizes, IsGeometry}
use Rattle.mdc_types.specs.declared.numbers.Sector.{Sector}
use Rattle.mirror_io.specs.declared.live.LiveWrite.{LiveWrite}
use Rattle.resync_worker.specs.Copying.{Passing, covering_only}
use Rattle.resync_worker.specs.Sectors.{is_behind, reached_after}
use Rattle.resync_worker.specs.declared.buffer.Buffer.{Buffer}
use Rattle.cluster_model.specs.State.{Copy}
use Rattle.cluster_model.specs.Copying.{next_for}
use Rattle.laws_roles.proofs.Parts as roles
use Rattle.storage_ways.proofs.Parts.{Part, writes_at, write_of, has_pass, reached_in, with_data, with_data_if}
use Rattle.storage_ways.proofs.Sound.{Sound}
use Rattle.storage_ways.proofs.Ways.{Way, Trying, Buffers}
use Rattle.storage_ways.proofs.Ways as ways
use Rattle.laws_writes.proofs.Ghosts.{Ghost, ghost_after, with_try, with_value}
use Rattle.laws_writes.proofs.Windows.{Windows}
use Rattle.laws_writes.proofs.Contents.{Contents, is_settled}
use Rattle.laws_writes.proofs.Flights.{is_same, write_there}
use Rattle.laws_writes.proofs.Chunks.{behind_after, behind_reached, next_not_behind}
use Rattle.laws_writes.proofs.Places.{before_next}
use Rattle.laws_writes.proofs.Races.{no_write_settled}
use Rattle.laws_writes.proofs.Moves.{Move, Settling, moves, same_geometry}
use Rattle.laws_writes.proofs.Moves as move

abbrev pass_behind : Sizes → Option Passing → ℕ → Bool
pass_behind g p s = is_some p && is_behind g (reached_in p) s

behind_covered : (g : Sizes) (legs : ℕ → Bool) (p : Option Passing) (s : ℕ) → pass_behind g (option_map (λ q. covering_only q legs) p) s ≡ pass_behind g p s
behind_covered g legs None s = refl
behind_covered g legs (Some p) s = refl

pub both : (a b : Bool) → (a && b) ≡ true → (a ≡ true) × (b ≡ true)
both a b e = (grind arith, grind arith)

behind_none : (g : Sizes) (p : Option Passing) (s : ℕ) → reached_in p ≡ 0 → pass_behind g p s ≡ true → ⊥
behind_none g p s none e = let lt = behind_reached g (reached_in p) s (both (is_some p) (is_behind g (reached_in p) s) e).1 in omega (arith, lt, none)

settled_move : (w : Part) (stored : ℕ → ℕ → Sector) (n : ℕ) (d : Copy) (Is : ℕ → Type 0) → IsGeometry w.geometry → Move w.geometry stored (w.copy n) d Is
    → ((p : Passing) (b : Buffer) → (w.copy n).pass ≡ Some p → p.buffer ≡ Some b → next_for w.geometry (w.copy n).pass (w.copy n).window ≡ Some b.sector)
    → (s : ℕ) → pass_behind w.geometry d.pass s ≡ true → (is_settled w n s ≡ true) ⊎ Is s
settled_move w stored n d Is i (move.keeps p r) next s e = inl (ap (λ x. pass_behind w.geometry x s) (sym p) ∙ e)
settled_move w stored n d Is i (move.covers legs p r) next s e = inl (sym (behind_covered w.geometry legs (w.copy n).pass s) ∙ ap (λ x. pass_behind w.geometry x s) (sym p) ∙ e)
settled_move w stored n d Is i (move.restarts none empty) next s e = absurd (behind_none w.geometry d.pass s none e)
settled_move w stored n d Is i (move.opens shut p) next s e = inl (ap (λ x. pass_behind w.geometry x s) (sym p) ∙ e)
settled_move w stored n d Is i (move.fills t l v p is q r there has) next s e = inl (ap (λ x. pass_behind w.geometry x s) is ∙ ap (λ x. pass_behind w.geometry x s) (sym q) ∙ e)
settled_move w stored n d Is i (move.copies l p b is there has q r) next s e = inl (ap (λ x. pass_behind w.geometry x s) is ∙ ap (λ x. pass_behind w.geometry x s) (sym q) ∙ e)
settled_move w stored n d Is i (move.settles p b is there room at q r) next s e =
    elim (behind_after w.geometry b.sector s i room (both true (is_behind w.geometry (reached_after w.geometry b.sector) s) (ap (λ x. pass_behind w.geometry x s) (sym q) ∙ e)).1) [
      | inl same ↦ inr (subst Is (sym (is_same s b.sector same)) at)
      | inr before ↦ inl (before_next w n s b.sector i (ap is_some is) (next p b is there) before.0 before.1)
    ]

pub settled_was : (w v : Part) (x : Way w v) (g : Ghost) → Sound w → Windows w → Contents w g → (a s : ℕ) → is_settled v a s ≡ true → (is_settled w a s ≡ true) ⊎ Settling x a s
settled_was w v x g sound win con a s e =
    settled_move w v.stored a (v.copy a) (Settling x a) sound.within.geometry (moves w v x sound win a) (con.buffer_place a) s
    (ap (λ z. pass_behind z (v.copy a).pass s) (sym (same_geometry w v x)) ∙ e)

-- what a pass covers where something was settled it covered before

covered_less : (legs : ℕ → Bool) (p : Option Passing) (l : ℕ) → roles.covered_by (option_map (λ q. covering_only q legs) p) l ≡ true → roles.covered_by p l ≡ true
covered_less legs None l e = cc
covered_less legs (Some p) l e = (both (p.covered l) (legs l) e).0

covers_move : (g : Sizes) (stored : ℕ → ℕ → Sector) (c d : Copy) (Is : ℕ → Type 0) → Move g stored c d Is → (l s : ℕ) → roles.covered_by d.pass l ≡ true → pass_behind g d.pass s ≡ true → roles.covered_by c.pass l ≡ true
covers_move g stored c d Is (move.keeps p r) l s h e = ap (λ x. roles.covered_by x l) (sym p) ∙ h
covers_move g stored c d Is (move.covers legs p r) l s h e = covered_less legs c.pass l (ap (λ x. roles.covered_by x l) (sym p) ∙ h)
covers_move g stored c d Is (move.restarts none empty) l s h e = absurd (behind_none g d.pass s none e)
covers_move g stored c d Is (move.opens shut p) l s h e = ap (λ x. roles.covered_by x l) (sym p) ∙ h
covers_move g stored c d Is (move.fills t k v p is q r there has) l s h e = ap (λ x. roles.covered_by x l) is ∙ ap (λ x. roles.covered_by x l) (sym q) ∙ h
covers_move g stored c d Is (move.copies k p b is there has q r) l s h e = ap (λ x. roles.covered_by x l) is ∙ ap (λ x. roles.covered_by x l) (sym q) ∙ h
covers_move g stored c d Is (move.settles p b is there room at q r) l s h e = ap (λ x. roles.covered_by x l) is ∙ ap (λ x. roles.covered_by x l) (sym q) ∙ h

pub covered_was : (w v : Part) (x : Way w v) → Sound w → Windows w → (a l s : ℕ) → roles.covers (v.copy a) l ≡ true → is_settled v a s ≡ true → roles.covers (w.copy a) l ≡ true
covered_was w v x sound win a l s h e =
    covers_move w.geometry v.stored (w.copy a) (v.copy a) (Settling x a) (moves w v x sound win a) l s h
    (ap (λ z. pass_behind z (v.copy a).pass s) (sym (same_geometry w v x)) ∙ e)

-- Nothing happens where something was settled.

pub data_kept : (stored : ℕ → ℕ → Sector) (l t : ℕ) (v : Sector) (j s : ℕ) → (s == t) ≡ false → with_data stored l t v j s ≡ stored j s
data_kept stored l t v j s other = by (j == l) (s == t) other
  where
    by : (a b : Bool) → b ≡ false → (if a && b then v else stored j s) ≡ stored j s
    by a b e = grind arith

pub data_kept_if : (left : Bool) (stored : ℕ → ℕ → Sector) (l t : ℕ) (v : Sector) (j s : ℕ) → (s == t) ≡ false → with_data_if left stored l t v j s ≡ stored j s
data_kept_if left stored l t v j s other = by left (j == l) (s == t) other
  where
    by : (c a b : Bool) → b ≡ false → (if c && a && b then v else stored j s) ≡ stored j s
    by c a b e = grind arith

pub differs : (s t : ℕ) → ((s ≡ t) → ⊥) → (s == t) ≡ false
differs s t apart = by (s == t) refl
  where
    by : (b : Bool) → (s == t) ≡ b → b ≡ false
    by true e = absurd (apart (is_same s t e))
    by false e = refl

module _ (w : Part) (g : Ghost) (sound : Sound w) (win : Windows w) (con : Contents w g) where
  -- no write, and no buffer, is of a sector that was settled
  pub no_write_here : (a s n k : ℕ) (x : LiveWrite) → is_settled w a s ≡ true → write_of w n k ≡ Some x → (s == x.sector) ≡ false
  no_write_here a s n k x e is = differs s x.sector (λ same. no_write_settled w g sound win con a n k s e (subst (λ t. writes_at (write_of w n k) t ≡ true) (sym same) (write_there w n k x is)))

  pub one_copier : (a n : ℕ) → has_pass (w.copy a) ≡ true → has_pass (w.copy n) ≡ true → a ≡ n
  one_copier a n h e = sound.turns.one a n (sound.turns.pass a h) (sound.turns.pass n e)

  pub no_buffer_here : (a s n : ℕ) (p : Passing) (b : Buffer) → is_settled w a s ≡ true → Buffers w n p b → (s == b.sector) ≡ false
  no_buffer_here a s n p b e u = differs s b.sector (λ same.
      let h = both (has_pass (w.copy a)) (is_behind w.geometry (reached_in (w.copy a).pass) s) e in
      let one : a ≡ n = one_copier a n h.0 (ap is_some u.pass) in
      let here : is_behind w.geometry (reached_in (w.copy n).pass) b.sector ≡ true = subst (λ m. is_behind w.geometry (reached_in (w.copy m).pass) b.sector ≡ true) one (subst (λ t. is_behind w.geometry (reached_in (w.copy a).pass) t ≡ true) same h.1) in
      let not_here = next_not_behind w.geometry (w.copy n).pass (w.copy n).window b.sector sound.within.geometry (con.reached_within n) (con.buffer_place n p b u.pass u.buffer) in
      clash (sym here ∙ not_here))
    where
      clash : true ≡ false → ⊥
      clash f = cc

-- contents and values there stay
pub stays_stored : (w v : Part) (x : Way w v) (g : Ghost) → Sound w → Windows w → Contents w g → (a s l : ℕ) → is_settled w a s ≡ true → v.stored l s ≡ w.stored l s
stays_stored w v (ways.outs n k j x t) g sound win con a s l e = data_kept w.stored j x.sector x.value l s (no_write_here w g sound win con a s n k x e t.write)
stays_stored w v (ways.misses n k j x left t) g sound win con a s l e = data_kept_if left w.stored j x.sector x.value l s (no_write_here w g sound win con a s n k x e t.write)
stays_stored w v (ways.copies n j p b z) g sound win con a s l e = data_kept w.stored j b.sector b.value l s (no_buffer_here w g sound win con a s n p b e z.buffers)
stays_stored w v (ways.misses_copy n j p b left z) g sound win con a s l e = data_kept_if left w.stored j b.sector b.value l s (no_buffer_here w g sound win con a s n p b e z.buffers)
stays_stored w v x g sound win con a s l e = refl

pub try_kept : (g : Ghost) (n k : ℕ) (x : LiveWrite) (s : ℕ) → (s == x.sector) ≡ false → (with_try g n k x).values s ≡ g.values s
try_kept g n k x s other = by (s == x.sector) x.started other
  where
    by : (b c : Bool) → b ≡ false → (if b && not c then g.values s ++ x.value ∷ [] else g.values s) ≡ g.values s
    by b c e = grind arith

pub value_kept : (g : Ghost) (t : ℕ) (v : Sector) (s : ℕ) → (s == t) ≡ false → (with_value g t v).values s ≡ g.values s
value_kept g t v s other = grind arith

pub stays_decided : (w v : Part) (x : Way w v) (g : Ghost) → Sound w → Windows w → Contents w g → (a s : ℕ) → is_settled w a s ≡ true → (ghost_after x g).values s ≡ g.values s
stays_decided w v (ways.outs n k j x t) g sound win con a s e = try_kept g n k x s (no_write_here w g sound win con a s n k x e t.write)
stays_decided w v (ways.misses n k j x left t) g sound win con a s e = try_kept g n k x s (no_write_here w g sound win con a s n k x e t.write)
stays_decided w v (ways.ends n k x z) g sound win con a s e = value_kept g x.sector x.value s (no_write_here w g sound win con a s n k x e z.ending.write)
stays_decided w v (ways.settles n p b z) g sound win con a s e = value_kept g b.sector b.value s (no_buffer_here w g sound win con a s n p b e z.buffers)
stays_decided w v x g sound win con a s e = refl
