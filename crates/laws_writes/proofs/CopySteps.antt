-- Each way keeps what is known of what was settled in a window, and of a buffer.
use Rattle.std.proofs.Common.{◌≡◌, inl, inr, ℕ, ◌==◌, ◌&&◌, ◌||◌, not, if◌then◌else◌, Bool, true, false, Option, Some, None, ◌∷◌, [], option_map, refl, sym, ap, ap₂, subst, ◌∙◌, arith}
use Rattle.std.specs.Prelude.{is_some}
use Rattle.std.proofs.lemmas.Slice.Eq.{bytes_eq-Decides}
use Rattle.mdc_types.specs.Bits.{has_bit, with_bit}
use Rattle.mdc_types.specs.Geometry.{Sizes}
use Rattle.mdc_types.specs.declared.numbers.Sector.{Sector}
use Rattle.mdc_types.proofs.BitsLaws.{has_bit-with_bit}
use Rattle.leg_failure.proofs.SetLaws.{single_bit}
use Rattle.mirror_io.specs.declared.live.LiveWrite.{LiveWrite}
use Rattle.resync_worker.specs.Copying.{Passing, covering_only, copied, filled, done_on}
use Rattle.resync_worker.specs.declared.buffer.Buffer.{Buffer}
use Rattle.cluster_model.specs.State.{Copy}
use Rattle.storage_ways.proofs.Parts.{Part, write_of, writes_at, buffer_in, with_data, with_data_if, covers}
use Rattle.storage_ways.proofs.Sound.{Sound}
use Rattle.storage_ways.proofs.Roled.{covers_target}
use Rattle.storage_ways.proofs.Ways.{Way, Buffers}
use Rattle.storage_ways.proofs.Ways as ways
use Rattle.laws_writes.proofs.Ghosts.{Ghost, ghost_after, undecided, is_among, is_open, same_sector}
use Rattle.laws_writes.proofs.Windows.{Windows}
use Rattle.laws_writes.proofs.Contents.{Contents, SettledDecided, CoveredSettled, BufferDone, is_stale}
use Rattle.laws_writes.proofs.Flights.{is_same, same_nat, write_there}
use Rattle.laws_writes.proofs.Races.{no_write_buffer}
use Rattle.laws_writes.proofs.Moves.{Move, Settling, moves}
use Rattle.laws_writes.proofs.Moves as move
use Rattle.laws_writes.proofs.Behind.{settled_was, covered_was, stays_stored, stays_decided, data_kept, data_kept_if, differs, one_copier}

-- Values.

pub same_value : (v : Sector) → same_sector v v ≡ true
same_value v = (bytes_eq-Decides v.bytes v.bytes).1 refl

pub among_one : (v u : Sector) → v ≡ u → is_among v (u ∷ []) ≡ true
among_one v u e = ap (λ x. is_among x (u ∷ [])) e ∙ one (same_sector u u) (same_value u)
  where
    one : (b : Bool) → b ≡ true → (b || false) ≡ true
    one b e = grind arith

value_here : (g : Ghost) (t s : ℕ) (v : Sector) → s ≡ t → (if s == t then v ∷ [] else g.values s) ≡ v ∷ []
value_here g t s v e = ap (λ b. if b then v ∷ [] else g.values s) (ap (λ x. x == t) e ∙ same_nat t)

pub settled_decided : (w v : Part) (x : Way w v) (g : Ghost) → Sound w → Windows w → Contents w g → SettledDecided v (ghost_after x g)
settled_decided w v x g sound win con a s e = elim (settled_was w v x g sound win con a s e) [
  | inl before ↦ ap is_open (stays_decided w v x g sound win con a s before) ∙ con.settled_decided a s before
  | inr now ↦ here w v x now
]
  where
    here : (w v : Part) (x : Way w v) → Settling x a s → undecided (ghost_after x g) s ≡ false
    here w v (ways.settles n p b z) now = ap is_open (value_here g b.sector s b.value now.1)
    here w v x now = absurd now

fresh_not : (b : Bool) → b ≡ true → not b ≡ false
fresh_not b e = grind arith

fresh_is : (b : Bool) → not b ≡ false → b ≡ true
fresh_is b e = grind arith

pub covered_settled : (w v : Part) (x : Way w v) (g : Ghost) → Sound w → Windows w → Contents w g → CoveredSettled v (ghost_after x g)
covered_settled w v x g sound win con a l s h e = elim (settled_was w v x g sound win con a s e) [
  | inl before ↦
      ap₂ (λ y z. not (is_among y z)) (stays_stored w v x g sound win con a s l before) (stays_decided w v x g sound win con a s before)
      ∙ con.covered_settled a l s covered before
  | inr now ↦ here w v x sound con covered now
]
  where
    covered : covers w a l ≡ true
    covered = covered_was w v x sound win a l s h e

    here : (w v : Part) (x : Way w v) → Sound w → Contents w g → covers w a l ≡ true → Settling x a s → is_stale v (ghost_after x g) l s ≡ false
    here w v (ways.settles n p b z) sound con over now =
        let target = covers_target w sound a n l over z.buffers.up z.buffers.acked in
        let there = con.buffer_done n l p b z.buffers.pass z.buffers.buffer (z.done l target) in
        let stored : w.stored l s ≡ b.value = ap (w.stored l) now.1 ∙ there in
        ap₂ (λ y us. not (is_among y us)) refl (value_here g b.sector s b.value now.1) ∙ fresh_not (is_among (w.stored l s) (b.value ∷ [])) (among_one (w.stored l s) b.value stored)
    here w v x sound con over now = absurd now

-- The buffer.

pub data_either : (stored : ℕ → ℕ → Sector) (j t : ℕ) (v : Sector) (l s : ℕ) (u : Sector) → ((s == t) ≡ true → v ≡ u) → stored l s ≡ u → with_data stored j t v l s ≡ u
data_either stored j t v l s u new old = by (l == j) (s == t) refl
  where
    by : (a b : Bool) → (s == t) ≡ b → (if a && b then v else stored l s) ≡ u
    by true true e = new e
    by false b e = old
    by true false e = old

pub data_either_if : (left : Bool) (stored : ℕ → ℕ → Sector) (j t : ℕ) (v : Sector) (l s : ℕ) (u : Sector) → ((s == t) ≡ true → v ≡ u) → stored l s ≡ u → with_data_if left stored j t v l s ≡ u
data_either_if false stored j t v l s u new old = old
data_either_if true stored j t v l s u new old = data_either stored j t v l s u new old

abbrev HoldsBuffer : (ℕ → ℕ → Sector) → Option Passing → Type 0
HoldsBuffer stored p = (b : Buffer) (l : ℕ) → buffer_in p ≡ Some b → has_bit b.done l ≡ true → stored l b.sector ≡ b.value

some_same : (x y : Buffer) → Some x ≡ Some y → x ≡ y
some_same x y e = cc

held_covered : (stored : ℕ → ℕ → Sector) (legs : ℕ → Bool) (p : Option Passing) → HoldsBuffer stored p → HoldsBuffer stored (option_map (λ q. covering_only q legs) p)
held_covered stored legs None h = h
held_covered stored legs (Some p) h = h

held_filled : (stored : ℕ → ℕ → Sector) (p : Passing) (s l : ℕ) (v : Sector) → stored l s ≡ v → HoldsBuffer stored (Some (filled p s v l))
held_filled stored p s l v is b j e done = subst (λ x. has_bit x.done j ≡ true → stored j x.sector ≡ x.value) (some_same (record { sector = s; value = v; done = with_bit 0 l }) b e) here done
  where
    by : (b : Bool) → (j == l) ≡ b → (if b then true else false) ≡ true → stored j s ≡ v
    by true t h = ap (λ k. stored k s) (is_same j l t) ∙ is
    by false t h = cc

    here : has_bit (with_bit 0 l) j ≡ true → stored j s ≡ v
    here h = by (j == l) refl (sym (single_bit l j) ∙ h)

held_copied : (stored : ℕ → ℕ → Sector) (p : Passing) (b : Buffer) (l : ℕ) → p.buffer ≡ Some b → stored l b.sector ≡ b.value → HoldsBuffer stored (Some p) → HoldsBuffer stored (Some (copied p l))
held_copied stored p b l is there old x j e done = subst (λ y. has_bit y.done j ≡ true → stored j y.sector ≡ y.value) (some_same (done_on l b) x (sym (ap (option_map (done_on l)) is) ∙ e)) here done
  where
    by : (c : Bool) → (j == l) ≡ c → (if c then true else has_bit b.done j) ≡ true → stored j b.sector ≡ b.value
    by true t h = ap (λ k. stored k b.sector) (is_same j l t) ∙ there
    by false t h = old b j is h

    here : has_bit (with_bit b.done l) j ≡ true → stored j b.sector ≡ b.value
    here h = by (j == l) refl (sym (has_bit-with_bit b.done l j) ∙ h)

held_none : (stored : ℕ → ℕ → Sector) (p : Option Passing) → buffer_in p ≡ None → HoldsBuffer stored p
held_none stored p none b l e done = let both : None ≡ Some b = sym none ∙ e in cc

held_move : (g : Sizes) (stored : ℕ → ℕ → Sector) (c d : Copy) (Is : ℕ → Type 0) → Move g stored c d Is → HoldsBuffer stored c.pass → HoldsBuffer stored d.pass
held_move g stored c d Is (move.keeps p r) old = subst (HoldsBuffer stored) (sym p) old
held_move g stored c d Is (move.covers legs p r) old = subst (HoldsBuffer stored) (sym p) (held_covered stored legs c.pass old)
held_move g stored c d Is (move.restarts none empty) old = held_none stored d.pass empty
held_move g stored c d Is (move.opens shut p) old = subst (HoldsBuffer stored) (sym p) old
held_move g stored c d Is (move.fills t k v p is q r there has) old = subst (HoldsBuffer stored) (sym q) (held_filled stored p t k v has)
held_move g stored c d Is (move.copies k p b is there has q r) old = subst (HoldsBuffer stored) (sym q) (held_copied stored p b k there has (subst (HoldsBuffer stored) is old))
held_move g stored c d Is (move.settles p b is there room at q r) old = held_none stored d.pass (ap buffer_in q)

-- the buffers that there are keep what stands of them on legs
module _ (w : Part) (g : Ghost) (sound : Sound w) (win : Windows w) (con : Contents w g) where
  apart_write : (a n k : ℕ) (p : Passing) (b : Buffer) (x : LiveWrite) → (w.copy a).pass ≡ Some p → p.buffer ≡ Some b → write_of w n k ≡ Some x → (b.sector == x.sector) ≡ false
  apart_write a n k p b x is there write =
      differs b.sector x.sector (λ same. no_write_buffer w g sound win con a n k p b is there (subst (λ t. writes_at (write_of w n k) t ≡ true) (sym same) (write_there w n k x write)))

  same_buffer : (a n : ℕ) (p q : Passing) (b c : Buffer) → (w.copy a).pass ≡ Some p → p.buffer ≡ Some b → Buffers w n q c → c.value ≡ b.value
  same_buffer a n p q b c is there u =
      let one : a ≡ n = one_copier w g sound win con a n (ap is_some is) (ap is_some u.pass) in
      let mine : buffer_in (w.copy n).pass ≡ Some b = ap (λ m. buffer_in (w.copy m).pass) (sym one) ∙ ap buffer_in is ∙ there in
      ap (λ (y : Buffer). y.value) (some_same c b (sym (ap buffer_in u.pass ∙ u.buffer) ∙ mine))

stays_buffer : (w v : Part) → Way w v → (g : Ghost) → Sound w → Windows w → Contents w g → (a : ℕ) (p : Passing) (b : Buffer) (l : ℕ)
    → (w.copy a).pass ≡ Some p → p.buffer ≡ Some b → w.stored l b.sector ≡ b.value → v.stored l b.sector ≡ b.value
stays_buffer w v (ways.outs n k j x t) g sound win con a p b l is there old = data_kept w.stored j x.sector x.value l b.sector (apart_write w g sound win con a n k p b x is there t.write) ∙ old
stays_buffer w v (ways.misses n k j x left t) g sound win con a p b l is there old = data_kept_if left w.stored j x.sector x.value l b.sector (apart_write w g sound win con a n k p b x is there t.write) ∙ old
stays_buffer w v (ways.copies n j q c z) g sound win con a p b l is there old = data_either w.stored j c.sector c.value l b.sector b.value (λ e. same_buffer w g sound win con a n p q b c is there z.buffers) old
stays_buffer w v (ways.misses_copy n j q c left z) g sound win con a p b l is there old = data_either_if left w.stored j c.sector c.value l b.sector b.value (λ e. same_buffer w g sound win con a n p q b c is there z.buffers) old
stays_buffer w v x g sound win con a p b l is there old = old

pub buffer_done : (w v : Part) → Way w v → (g : Ghost) → Sound w → Windows w → Contents w g → BufferDone v
buffer_done w v x g sound win con a l p b is there done =
    held_move w.geometry v.stored (w.copy a) (v.copy a) (Settling x a) (moves w v x sound win a) (by (w.copy a).pass refl) b l (ap buffer_in is ∙ there) done
  where
    by : (q : Option Passing) → (w.copy a).pass ≡ q → HoldsBuffer v.stored q
    by None e = λ c k f done. held_none v.stored None refl c k f done
    by (Some q) e = λ c k f done. stays_buffer w v x g sound win con a q c k e f (con.buffer_done a k q c e f done)
