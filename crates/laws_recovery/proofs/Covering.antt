-- What passes cover, and what they have still to copy.
use Rattle.std.proofs.Common.{◌≡◌, ◌≢◌, ℕ, suc, ◌+◌, ◌*◌, ◌==◌, ◌<◌, ◌≤◌, ◌&&◌, ◌||◌, not, Bool, true, false, Option, Some, None, refl, sym, ap, subst, ◌∙◌, arith}
use Rattle.std.specs.Prelude.{is_some, nat_lt, option_map}
use Rattle.std.proofs.Math.Nat.{mul-le-mul_right, suc-mul}
use Rattle.std.proofs.lemmas.Bool.Decides.{nat_tests}
use Rattle.mdc_types.specs.Geometry.{chunk_of, chunks_of, nodes_of, page_of, pages_of}
use Rattle.mdc_types.specs.declared.roles.NodeState.{NodeState}
use Rattle.mdc_types.specs.declared.roles.NodeState.TheVariants as states
use Rattle.node_recovery.specs.Progress.{Recovering}
use Rattle.resync_worker.specs.Copying.{Passing, settled_at}
use Rattle.resync_worker.specs.Sectors.{ends_chunk}
use Rattle.resync_worker.specs.declared.buffer.Buffer.{Buffer}
use Rattle.cluster_model.specs.Gathering.{is_again_of}
use Rattle.cluster_model.specs.Guards.{is_out}
use Rattle.cluster_model.specs.State.{Held}
use Rattle.laws_roles.proofs.Parts.{covered_by}
use Rattle.storage_ways.proofs.Parts.{Part, chunk_in, covers, todo, todo_in, has_pass, found_in}
use Rattle.storage_ways.proofs.Roled.{good_target}
use Rattle.storage_ways.proofs.Ways.{Settles, PassesAgain, Going, SlotClears, EndsRecovery}
use Rattle.laws_writes.proofs.Ghosts.{Ghost}
use Rattle.laws_writes.proofs.Contents.{is_stale}
use Rattle.laws_writes.proofs.Intent.{place_of}
use Rattle.laws_writes.proofs.Places.{before_next, past_last, chunk_lt, page_lt}
use Rattle.laws_writes.proofs.Settled.{Since}
use Rattle.laws_writes.proofs.Settling.{todo_at}
use Rattle.laws_recovery.proofs.Found.{reads_working, covered_found}
use Rattle.laws_recovery.proofs.Ghosts.{Hold}
use Rattle.laws_recovery.proofs.Known.{Known}
use Rattle.laws_recovery.proofs.Lacks.{lacks_below}
use Rattle.laws_writes.proofs.Points.{clash, same_point}
use Rattle.laws_recovery.proofs.Stale.{lacks, arm}

-- what a pass tells of a covered leg and a chunk that isn't to be copied
abbrev pub Tells : Option Passing → ℕ → ℕ → Type 0 → Type 0
Tells x l c A = covered_by x l ≡ true → todo_in x c ≡ false → A

pub mapped : (f : Passing → Passing) (x : Option Passing) (l c : ℕ) (A : Type 0)
    → ((p : Passing) → (f p).covered l ≡ true → p.covered l ≡ true) → ((p : Passing) → (f p).todo c ≡ false → p.todo c ≡ false)
    → Tells x l c A → Tells (option_map f x) l c A
mapped f None l c A covered left old e copied = cc
mapped f (Some p) l c A covered left old e copied = old (covered p e) (left p copied)

covered_pass : (x : Option Passing) (l : ℕ) → covered_by x l ≡ true → is_some x ≡ true
covered_pass None l e = cc
covered_pass (Some p) l e = refl

not_out : (x : NodeState) (b : Bool) → b ≡ true → b ≡ not (is_out x) → x ≡ states.Out → ⊥
not_out x b t e out = grind (arith, ap is_out out)

place_below : (k count size q : ℕ) → k < count → q < size → k * size + q < count * size
place_below k count size q lt below =
    let whole : suc k * size ≤ count * size = mul-le-mul_right size lt in
    let next : suc k * size ≡ k * size + size = suc-mul k size in
    omega (arith, whole, next, below)

module _ (w : Part) (g : Ghost) (h : Hold) (z : Since) (a : Known w g h z) where
  pub covers_held : (m l : ℕ) → covers w m l ≡ true → (w.copy m).turn ≡ Held
  covers_held m l e = a.sound.turns.pass m (covered_pass (w.copy m).pass l e)

  -- who recovers copies too
  pub recoverer : (m n l : ℕ) → covers w m l ≡ true → is_some (w.recovery n) ≡ true → m ≡ n
  recoverer m n l e some = a.sound.turns.one m n (covers_held m l e) (a.sound.turns.recovery n some)

  -- when a chunk's last sector is settled a covered leg lacks nothing else of the chunk
  pub still_todo : (n : ℕ) (p : Passing) (b : Buffer) → Settles w n p b → (l s : ℕ) → covers w n l ≡ true → lacks w g l s ≡ true → (s == b.sector) ≡ false
      → (q : Passing) → (settled_at w.geometry q b).todo (chunk_in w s) ≡ false → q.todo (chunk_in w s) ≡ false
  still_todo n p b e l s covered lack apart q left = sym (todo_at w.geometry q b (chunk_in w s) other) ∙ left
    where
      settled : chunk_in w s ≡ chunk_in w b.sector → ends_chunk w.geometry b.sector ≡ true → ⊥
      settled same last =
          let differ : s ≢ b.sector = grind (arith, nat_tests) in
          let lower = past_last w.geometry s b.sector a.sound.within.geometry last same (lacks_below w g l s lack) differ in
          let next = a.contents.buffer_place n p b e.buffers.pass e.buffers.buffer in
          let done = before_next w n s b.sector a.sound.within.geometry (ap is_some e.buffers.pass) next same lower in
          stale (nat_lt s w.geometry.room) (is_stale w g l s) lack (a.contents.covered_settled n l s covered done)
        where
          stale : (c d : Bool) → (c && d) ≡ true → d ≡ false → ⊥
          stale c d t f = grind arith

      other : ends_chunk w.geometry b.sector ≡ true → (chunk_in w s == chunk_of w.geometry b.sector) ≡ false
      other last = by (chunk_in w s == chunk_of w.geometry b.sector) refl
        where
          by : (x : Bool) → (chunk_in w s == chunk_of w.geometry b.sector) ≡ x → x ≡ false
          by false t = refl
          by true t = absurd (settled (same_point (chunk_in w s) (chunk_of w.geometry b.sector) t) last)

  -- a pass of the whole room has each chunk of the room to copy
  pub whole_todo : (l s : ℕ) → lacks w g l s ≡ true → nat_lt (chunk_in w s) (chunks_of w.geometry) ≡ false → ⊥
  whole_todo l s lack left = above (chunk_in w s) (chunks_of w.geometry) (chunk_lt w.geometry s a.sound.within.geometry (lacks_below w g l s lack)) left
    where
      above : (i j : ℕ) → i < j → nat_lt i j ≡ false → ⊥
      above i j lt e = grind (arith, nat_tests)

  -- all pages are gathered
  pub all_past : (n k : ℕ) → PassesAgain w n k → (l s : ℕ) → is_again_of (w.adding n).addition l ≡ true → lacks w g l s ≡ true → place_of w (h.hold l s) (chunk_in w s) < (w.adding n).gathering.next
  all_past n k e l s again lack =
      let c = chunk_in w s in
      let leg = reads_working w g h z a n e.passes.up e.passes.acked in
      let bit = a.stale.holder_working l s _ (a.sound.additions.again_missed n l again) lack leg in
      let page = page_lt w.geometry c (a.sound.within.bits (h.hold l s) c _ bit) in
      let slot = a.sound.within.slots (h.hold l s) c _ bit in
      let below = place_below (h.hold l s) (nodes_of w.geometry) (pages_of w.geometry) (page_of c) slot page in
      let all = e.all in
      omega (arith, below, all)

  -- who has no pass has settled nothing in a recovery
  pub no_since : (n s : ℕ) → (w.copy n).pass ≡ None → is_some (w.recovery n) ≡ true → z.since n s ≡ false
  no_since n s none some = by (z.since n s) refl
    where
      by : (b : Bool) → z.since n s ≡ b → b ≡ false
      by false e = refl
      by true e = absurd (clash (has_pass (w.copy n)) (a.settled.since_pass n s some e) (ap is_some none))

  -- who goes in peace has no arm
  pub goes_armless : (n k c : ℕ) → Going w n → arm w k c ≡ true → (k == n) ≡ false
  goes_armless n k c e armed = by (k == n) refl
    where
      pending : (b : Bool) → w.pending n ≡ b → (b || found_in (w.recovery n) c) ≡ true → ⊥
      pending true is t = not_out (w.state n) (w.live n) e.live (a.sound.phases.live n) (a.sound.phases.pending n is)
      pending false is t = clash (found_in (w.recovery n) c) t (ap (λ x. found_in x c) e.recovery)

      by : (b : Bool) → (k == n) ≡ b → b ≡ false
      by false t = refl
      by true t = absurd (pending (w.pending n) refl (subst (λ j. arm w j c ≡ true) (same_point k n t) armed))

  -- What a recovery found that its own pass doesn't copy any more.

  pub found_need : (m n l s : ℕ) → covers w m l ≡ true → lacks w g l s ≡ true → found_in (w.recovery n) (chunk_in w s) ≡ true → (w.bitmap n).need (chunk_in w s) ≡ true
  found_need m n l s covered lack found =
      let some = found_some (w.recovery n) (chunk_in w s) found in
      let same = recoverer m n l covered some in
      let fresh = a.stale.covered_fresh m l s covered lack (subst (λ j. is_some (w.recovery j) ≡ true) (sym same) some) in
      a.settled.read_need n s (lacks_below w g l s lack) found (subst (λ j. z.since j s ≡ false) same fresh)
    where
      found_some : (x : Option Recovering) (c : ℕ) → found_in x c ≡ true → is_some x ≡ true
      found_some None c e = cc
      found_some (Some r) c e = refl

  pub met_covered : (m n l s : ℕ) (r : Recovering) → EndsRecovery w n r → covers w m l ≡ true → lacks w g l s ≡ true → found_in (w.recovery n) (chunk_in w s) ≡ true → ⊥
  met_covered m n l s r e covered lack found =
      clash ((w.bitmap n).need (chunk_in w s)) (found_need m n l s covered lack found) (e.met (chunk_in w s) (sym (ap (λ y. found_in y (chunk_in w s)) e.all.opened.recovery) ∙ found))

  pub covered_bit : (m n p i l s j : ℕ) (r : Recovering) → SlotClears w n p i r → covers w m l ≡ true → lacks w g l s ≡ true → todo w m (chunk_in w s) ≡ false → h.hold l s ≡ r.slot → w.ghost.good j ≡ true
      → w.bit n (chunk_in w s) j ≡ true
  covered_bit m n p i l s j r e covered lack copied is good =
      let found = covered_found w g h z a n m l s r e.all covered lack copied is in
      let need = found_need m n l s covered lack (ap (λ y. found_in y (chunk_in w s)) e.all.opened.recovery ∙ found) in
      a.bits.mark_bit n (chunk_in w s) j (e.marked (chunk_in w s) j found (a.bits.need_set n (chunk_in w s) need) (good_target w a.sound n j e.all.opened.up e.all.acked good))
