-- What follows in one state.
use Rattle.std.proofs.Common.{◌≡◌, ℕ, ◌==◌, ◌&&◌, if◌then◌else◌, Bool, true, false, List, Option, Some, None, refl, sym, ap, subst, ◌∙◌, arith}
use Rattle.std.specs.Prelude.{is_some, nat_lt}
use Rattle.std.proofs.lemmas.Bool.Decides.{nat_tests}
use Rattle.dlm_modes.specs.declared.mode.Mode.{Mode}
use Rattle.dlm_modes.specs.declared.mode.Mode.TheVariants.{EX}
use Rattle.mdc_types.specs.Geometry.{nodes_of}
use Rattle.mdc_types.specs.Ranges.{holds}
use Rattle.mdc_types.specs.declared.numbers.Range.{Range}
use Rattle.mirror_io.specs.Flight.{write_in}
use Rattle.mirror_io.specs.declared.live.LiveWrite.{LiveWrite}
use Rattle.suspend_ranges.specs.Suspended.{entry_of, suspends}
use Rattle.cluster_model.specs.State.{State, Core, Turn, Held, sizes}
use Rattle.cluster_model.specs.Copying.{buffer_of, buffer_in}
use Rattle.cluster_model.specs.Stored.{data_on}
use Rattle.laws_locks.specs.Others.{turn_held}
use Rattle.storage_ways.proofs.Parts.{Part, bits_on, writes_at}
use Rattle.storage_ways.proofs.Place.{Around, here, Place, sound_of}
use Rattle.storage_ways.specs.Broken.{broken_in}
use Rattle.mdc_types.specs.declared.outcomes.Entry.{Entry}
use Rattle.laws_writes.specs.Laws.{WritesHold, BitsHold, CopiesHold}
use Rattle.laws_writes.proofs.Ghosts.{Ghost}
use Rattle.laws_writes.proofs.Bits.{Bits}
use Rattle.laws_writes.proofs.Windows.{Windows}
use Rattle.laws_writes.proofs.Contents.{Contents}
use Rattle.laws_writes.proofs.Values.{BrokenAre}

pub found_there : (x : Option LiveWrite) (w : LiveWrite) → x ≡ Some w → writes_at x w.sector ≡ true
found_there x w e = ap (λ y. writes_at y w.sector) e ∙ same w.sector
  where
    same : (s : ℕ) → (s == s) ≡ true
    same s = grind (arith, nat_tests)

same_number : (a b : ℕ) → (a == b) ≡ true → a ≡ b
same_number a b e = grind (arith, nat_tests)

both_true : (a b : Bool) → (a && b) ≡ true → b ≡ true
both_true a b e = grind arith

turn_is : (core : Core) (n : ℕ) (x : Option Mode) → x ≡ turn_held (core.copy n).turn → (core.copy n).turn ≡ Held → x ≡ Some EX
turn_is core n x is e = is ∙ ap turn_held e

held_turn : (t : Turn) → turn_held t ≡ Some EX → t ≡ Held
held_turn Held e = refl
held_turn t e = cc

some_buffer : (state : State) (n : ℕ) → is_some (buffer_of state.core n) ≡ true → is_some (state.core.copy n).pass ≡ true
some_buffer state n e = by (state.core.copy n).pass e
  where
    by : (p : Option _) → is_some (buffer_in p) ≡ true → is_some p ≡ true
    by None e = cc
    by (Some p) e = refl

-- of a range that isn't empty its entry holds what it holds
pub entry_holds : (r : Range) (s : ℕ) → suspends s (entry_of r) ≡ false → holds r.lo r.hi s ≡ false
entry_holds r s e = by (nat_lt r.lo r.hi) refl e
  where
    by : (b : Bool) → nat_lt r.lo r.hi ≡ b → suspends s (if b then Some r else None) ≡ false → holds r.lo r.hi s ≡ false
    by true t e = e
    by false t e = grind (arith, nat_tests)

module _ (state : State) (g : Ghost) (a : Around) (p : Place state.core a) (bit_is : a.bit ≡ bits_on (sizes state.core) state.legs) where
  abbrev pub W : Part
  W = here state.core a

  pub writes_hold : Bits W → Contents W g → a.stored ≡ data_on (sizes state.core) state.legs → WritesHold state
  writes_hold b c stored_is = record {
    done = λ n k l w is e. ap (λ f. f l w.sector) (sym stored_is) ∙ c.done_holds n k l w is e;
    apart = λ n m k j w u is it same.
        let first = found_there (write_in k (state.core.writes n)) w is in
        let second = subst (λ s. writes_at (write_in j (state.core.writes m)) s ≡ true) (sym same) (found_there (write_in j (state.core.writes m)) u it) in
        (same_number n m (b.one_writer n m k j w.sector first second), same_number k j (b.one_write n m k j w.sector first second));
  }

  pub bits_hold : (past : List Entry) → a.broken ≡ broken_in past → Bits W → Contents W g → BrokenAre W g → BitsHold past state
  bits_hold past broken_is b c broken = record {
    marks = λ n c l e. both_true (nat_lt n (nodes_of (sizes state.core))) _ (ap (λ f. f n c l) (sym bit_is) ∙ b.mark_bit n c l e);
    writes = λ n k w is. b.write_set n k w.sector (found_there (write_in k (state.core.writes n)) w is);
    need = λ n c e. b.need_set n c e;
    broken = λ n s live e. c.broke_need n s (broken n s live (ap (λ f. f n s) broken_is ∙ e));
  }

  pub copies_hold : Windows W → CopiesHold state
  copies_hold w =
      let s = sound_of state.core a p in
      let held = p.others.resync.held in
      record {
        alone = λ n m e f. s.turns.one n m (held_turn (state.core.copy n).turn (sym (held n) ∙ e)) (held_turn (state.core.copy m).turn (sym (held m) ∙ f));
        pass = λ n e. turn_is state.core n _ (held n) (s.turns.pass n e);
        window = λ n e. turn_is state.core n _ (held n) (s.turns.pass n (w.window_pass n e));
        buffer = λ n e. turn_is state.core n _ (held n) (s.turns.pass n (some_buffer state n e));
        recovery = λ n e. turn_is state.core n _ (held n) (s.turns.recovery n e);
      }
