-- The ways of requests: writes are asked, tried, ended and broken.
use Rattle.std.proofs.Common.{◌≡◌, inl, inr, ℕ, ◌<◌, ◌≤◌, ◌+◌, ◌==◌, ◌||◌, Bool, true, false, not, if◌then◌else◌, List, [], ◌∷◌, ◌++◌, Option, Some, None, refl, sym, ap, subst, ◌∙◌, arith, nat_lt}
use Rattle.std.proofs.lemmas.Bool.{cases_lt}
use Rattle.std.proofs.lemmas.Bool.Decides.{nat_tests}
use Rattle.dlm_modes.proofs.FirstLaws.{first_such_none}
use Rattle.dlm_modes.specs.Guards.{first_of}
use Rattle.dlm_modes.specs.Points.{with_at}
use Rattle.mdc_types.specs.Geometry.{chunk_of, nodes_of}
use Rattle.mdc_types.specs.declared.numbers.Sector.{Sector}
use Rattle.mdc_types.specs.declared.refusals.Refusal.TheVariants.{Suspended, InFlight, NoWrite, NotWritten, BitMissing, NoSector, NoLeg}
use Rattle.mdc_types.specs.declared.roles.NodeState.{NodeState}
use Rattle.leg_failure.specs.Views.{is_target}
use Rattle.mirror_io.specs.Flight.{write_in, is_done, new_write, started, done_on, start_in, done_in, missing_leg, WritesRise}
use Rattle.mirror_io.specs.declared.live.LiveWrite.{LiveWrite}
use Rattle.mirror_io.proofs.Lookups.{started_option, done_option, write_in-push, write_in-without, write_in-start, write_in-done}
use Rattle.suspend_ranges.specs.Suspended.{covering, suspends}
use Rattle.cluster_model.specs.State.{Core, sizes}
use Rattle.cluster_model.specs.Changes.{headed}
use Rattle.cluster_model.specs.Guards.{is_out}
use Rattle.cluster_model.specs.Phases.{is_up}
use Rattle.cluster_model.specs.Writes.{w_guards, out_guards, ok_guards, break_guards, ask_write, start_write, out_done, end_write, break_write, write_ended, bitmap_ended, write_sector, writer_of, any_of_sector, unmarked_leg, unwritten_target}
use Rattle.laws_sound.proofs.Guarded.{all_none, unless_none, refused_none, found_none}
use Rattle.laws_sound.proofs.RoundFacts.{here as same_point}
use Rattle.storage_ways.proofs.Parts.{with_data, with_data_if, tried_values, decided_values, broken_there, decided_there}
use Rattle.storage_ways.proofs.Place.{Around, here, Place}
use Rattle.storage_ways.proofs.Guarding.{found_some, acked_by, all_targets, below_legs}
use Rattle.storage_ways.proofs.Ways.{Way, Finds, Asking, Trying, Finishing, asks, outs, misses, ends, breaks}

-- Writes in flight.

pub no_number : (lo hi k : ℕ) (ws : List LiveWrite) → WritesRise lo hi ws → hi ≤ k → write_in k ws ≡ None
no_number lo hi k [] r le = refl
no_number lo hi k (w ∷ ws) r le = other (w.number == k) (not_same w.number k (omega (arith, r.1, le))) (no_number (w.number + 1) hi k ws r.2 le)
  where
    not_same : (a b : ℕ) → a < b → (a == b) ≡ false
    not_same a b lt = grind (arith, nat_tests)

    other : (b : Bool) → b ≡ false → write_in k ws ≡ None → (if b then Some w else write_in k ws) ≡ None
    other true e rest = cc
    other false e rest = rest

none_of_sector : (s j : ℕ) (ws : List LiveWrite) (x : LiveWrite) → any_of_sector s ws ≡ false → write_in j ws ≡ Some x → (x.sector == s) ≡ false
none_of_sector s j [] x e found = cc
none_of_sector s j (w ∷ ws) x e found = by (w.number == j) (none_of_sector s j ws x (head (w.sector == s) (any_of_sector s ws) e).1) found
  where
    head : (a b : Bool) → (a || b) ≡ false → (a ≡ false) × (b ≡ false)
    head a b e = grind arith

    by : (b : Bool) → (write_in j ws ≡ Some x → (x.sector == s) ≡ false) → (if b then Some w else write_in j ws) ≡ Some x → (x.sector == s) ≡ false
    by true rest is = let same : w ≡ x = cc in subst (λ (y : LiveWrite). (y.sector == s) ≡ false) same (head (w.sector == s) (any_of_sector s ws) e).0
    by false rest is = rest is

same_number : (j k : ℕ) → (j == k) ≡ true → k ≡ j
same_number j k e = grind (arith, nat_tests)

started_found : (ws : List LiveWrite) (k : ℕ) (x : LiveWrite) → write_in k ws ≡ Some x → Finds (start_in k ws) ws k (Some (started x))
started_found ws k x found j = write_in-start j k ws ∙ by (j == k) refl
  where
    by : (b : Bool) → (j == k) ≡ b → (if b then started_option (write_in j ws) else write_in j ws) ≡ (if b then Some (started x) else write_in j ws)
    by true e = ap started_option (ap (λ i. write_in i ws) (sym (same_number j k e)) ∙ found)
    by false e = refl

done_found : (ws : List LiveWrite) (k l : ℕ) (x : LiveWrite) → write_in k ws ≡ Some x → Finds (done_in k l (start_in k ws)) ws k (Some (done_on l (started x)))
done_found ws k l x found j = write_in-done j k l (start_in k ws) ∙ by (j == k) refl
  where
    by : (b : Bool) → (j == k) ≡ b → (if b then done_option l (write_in j (start_in k ws)) else write_in j (start_in k ws)) ≡ (if b then Some (done_on l (started x)) else write_in j ws)
    by true e = ap (done_option l) (started_found ws k x found j ∙ ap (λ b. if b then Some (started x) else write_in j ws) e)
    by false e = started_found ws k x found j ∙ ap (λ b. if b then Some (started x) else write_in j ws) e

start_itself : (ws : List LiveWrite) (k : ℕ) (x : LiveWrite) → write_in k ws ≡ Some x → write_in k (start_in k ws) ≡ Some (started x)
start_itself ws k x found = let e : (k == k) ≡ true = grind (arith, nat_tests) in started_found ws k x found k ∙ ap (λ b. if b then Some (started x) else write_in k ws) e

not_true : (b : Bool) → not b ≡ true → b ≡ false
not_true b e = grind arith

down_out : (s : NodeState) → is_out s ≡ true → is_up s ≡ false
down_out s e = grind arith

module _ (core : Core) (a : Around) (p : Place core a) where
  -- A write is asked.

  nobody_writes : (s : ℕ) → writer_of core s ≡ None → (m j : ℕ) (x : LiveWrite) → write_in j (core.writes m) ≡ Some x → (x.sector == s) ≡ false
  nobody_writes s none m j x found = elim (cases_lt m (nodes_of (sizes core))) [
    | inl lt ↦ none_of_sector s j (core.writes m) x (first_such_none (λ i. any_of_sector s (core.writes i)) 0 (nodes_of (sizes core)) none m (omega arith) (omega (arith, lt))) found
    | inr past ↦
        let down = past_down m (is_out (core.state m)) refl past in
        let none : None ≡ Some x = sym (ap (write_in j) (p.known.empty.empty m down).writes) ∙ found in cc
  ]
    where
      past_down : (m : ℕ) (b : Bool) → is_out (core.state m) ≡ b → nodes_of (sizes core) ≤ m → is_up (core.state m) ≡ false
      past_down m true e past = down_out (core.state m) e
      past_down m false e past = let lt = p.known.rounded.numbered.below m e in absurd (omega (arith, lt, past))

  pub asking : (n s : ℕ) (v : Sector) → first_of (w_guards core n s) ≡ None → Asking (here core a) n s (core.writes_made n) v (core.writes n ++ new_write (core.writes_made n) s v ∷ [])
  asking n s v ok =
      let g = (all_none (w_guards core n s) ok).1.1.1 in
      let none = no_number 0 (core.writes_made n) (core.writes_made n) (core.writes n) (p.known.range.flight.requests n).order.writes_rise (omega arith) in
      let fits = (p.known.range.legs.views n).sure_size in
      let lt = below_legs s (core.view n).sure_size (unless_none (nat_lt s (core.view n).sure_size) (NoSector s) g.1.1.0) in
      record {
        up = unless_none (is_up (core.state n)) _ g.0;
        sector = omega (arith, fits, lt);
        finds = λ j. write_in-push j (core.writes n) (new_write (core.writes_made n) s v) none;
        number = none;
        free = λ m lt. first_such_none (λ owner. suspends s (core.suspended n owner)) 0 16 (refused_none Suspended (covering (core.suspended n) s) g.1.1.1.0) m (omega arith) (omega (arith, lt));
        alone = nobody_writes s (refused_none InFlight (writer_of core s) g.1.1.1.1.0);
        stays = not_true _ (unless_none _ _ g.1.0);
      }

  pub ask_way : (n s : ℕ) (v : Sector) → first_of (w_guards core n s) ≡ None → Way (here core a) (here (ask_write core n s v) a)
  ask_way n s v ok = asks n s (core.writes_made n) v (core.writes n ++ new_write (core.writes_made n) s v ∷ []) (asking n s v ok)

  -- A write is tried.

  pub record Tries (n k l : ℕ) : Type 0 where
    pub write : LiveWrite
    pub found : write_in k (core.writes n) ≡ Some write
    pub trying : Trying (here core a) n k l write

  marked_all : (n k l : ℕ) (x : Option LiveWrite) (w : LiveWrite) → x ≡ Some w → unmarked_leg core n x ≡ None → (j : ℕ) → is_target (core.view n) j ≡ true → (core.bitmap n).marks (chunk_of (sizes core) w.sector) j ≡ true
  marked_all n k l None w is none j t = cc
  marked_all n k l (Some x) w is none j t =
      let same : x ≡ w = cc in
      subst (λ (y : LiveWrite). (core.bitmap n).marks (chunk_of (sizes core) y.sector) j ≡ true) same
      (all_targets core a p n ((core.bitmap n).marks (chunk_of (sizes core) x.sector)) none j t)

  pub tries : (n k l : ℕ) → first_of (out_guards core n k l) ≡ None → Tries n k l
  tries n k l ok =
      let g = (all_none (out_guards core n k l) ok).1.1.1 in
      let f = found_some (write_in k (core.writes n)) (found_none (write_in k (core.writes n)) (NoWrite k) g.1.1.0) in
      record {
        write = f.item;
        found = f.is;
        trying = record {
          up = unless_none (is_up (core.state n)) _ g.1.0;
          write = f.is;
          sector = (p.known.range.flight.requests n).write_sectors k f.item f.is;
          leg = below_legs l (sizes core).legs (unless_none (nat_lt l (sizes core).legs) (NoLeg l) g.0);
          target = unless_none (is_target (core.view n) l) _ g.1.1.1.0;
          acked = acked_by core a p n g.1.1.1.1.0;
          marked = marked_all n k l (write_in k (core.writes n)) f.item f.is (refused_none BitMissing (unmarked_leg core n (write_in k (core.writes n))) g.1.1.1.1.1.0);
          starts = started_found (core.writes n) k f.item f.is;
          does = done_found (core.writes n) k l f.item f.is;
        };
      }

  out_by : (n k l : ℕ) (t : Tries n k l) (x : Option ℕ) → Way (here core a) (here (record (headed core n l x) { writes = with_at core.writes n (done_in k l (start_in k (core.writes n))) }) (record a { stored = with_data a.stored l t.write.sector t.write.value; values = tried_values a.values t.write }))
  out_by n k l t None = outs n k l t.write t.trying
  out_by n k l t (Some s) = outs n k l t.write t.trying

  pub out_way : (n k l : ℕ) (t : Tries n k l) → Way (here core a) (here (out_done core n k l) (record a { stored = with_data a.stored l t.write.sector t.write.value; values = tried_values a.values t.write }))
  out_way n k l t = out_by n k l t (write_sector (write_in k (core.writes n)))

  pub missed_way : (n k l : ℕ) (t : Tries n k l) (left : Bool) → Way (here core a) (here (start_write core n k) (record a { stored = with_data_if left a.stored l t.write.sector t.write.value; values = tried_values a.values t.write }))
  missed_way n k l t left = misses n k l t.write left t.trying

  pub tried_found : (n k l : ℕ) (t : Tries n k l) → write_in k ((start_write core n k).writes n) ≡ Some (started t.write)
  tried_found n k l t = ap (write_in k) (same_point core.writes n (start_in k (core.writes n))) ∙ start_itself (core.writes n) k t.write t.found

  -- A write ends.

  pub record Ended (n k : ℕ) : Type 0 where
    pub write : LiveWrite
    pub finishing : Finishing (here core a) n k write

  pub ended : (n k : ℕ) → first_of (ok_guards core n k) ≡ None → Ended n k
  ended n k ok =
      let g = (all_none (ok_guards core n k) ok).1.1.1 in
      let f = found_some (write_in k (core.writes n)) (found_none (write_in k (core.writes n)) (NoWrite k) g.1.0) in
      let done : missing_leg (is_target (core.view n)) f.item ≡ None = subst (λ y. unwritten_target core n y ≡ None) f.is (refused_none NotWritten (unwritten_target core n (write_in k (core.writes n))) g.1.1.1.0) in
      record {
        write = f.item;
        finishing = record {
          ending = record {
            up = unless_none (is_up (core.state n)) _ g.0;
            write = f.is;
            sector = (p.known.range.flight.requests n).write_sectors k f.item f.is;
            finds = λ j. write_in-without j k (core.writes n);
          };
          acked = acked_by core a p n g.1.1.0;
          done = all_targets core a p n (is_done f.item) done;
        };
      }

  pub end_way : (n k : ℕ) (e : Ended n k) → Way (here core a) (here (end_write core n k) (record a { values = decided_values a.values e.write.sector e.write.value; broken = decided_there a.broken e.write.sector }))
  end_way n k e =
      subst (λ y. Way (here core a) (record (here (end_write core n k) (record a { values = decided_values a.values e.write.sector e.write.value; broken = decided_there a.broken e.write.sector })) { bitmap = with_at core.bitmap n (bitmap_ended core n y false) })) (sym e.finishing.ending.write)
      (ends n k e.write e.finishing)

-- a write that isn't ended is broken
pub broken_from : (core : Core) (a : Around) (n k : ℕ) (x : LiveWrite) → is_up (core.state n) ≡ true → write_in k (core.writes n) ≡ Some x → x.sector < (sizes core).room → Way (here core a) (here (write_ended core n k true) (record a { broken = broken_there a.broken n x }))
broken_from core a n k x up found lt =
    subst (λ y. Way (here core a) (record (here (write_ended core n k true) (record a { broken = broken_there a.broken n x })) { bitmap = with_at core.bitmap n (bitmap_ended core n y true) })) (sym found)
    (breaks n k x (record { up = up; write = found; sector = lt; finds = λ j. write_in-without j k (core.writes n) }))

pub record Broken (core : Core) (n k : ℕ) : Type 0 where
  pub write : LiveWrite
  pub up : is_up (core.state n) ≡ true
  pub found : write_in k (core.writes n) ≡ Some write
  pub sector : write.sector < (sizes core).room

pub broken : (core : Core) (a : Around) (p : Place core a) (n k : ℕ) → first_of (break_guards core n k) ≡ None → Broken core n k
broken core a p n k ok =
    let g = (all_none (break_guards core n k) ok).1.1.1 in
    let f = found_some (write_in k (core.writes n)) (found_none (write_in k (core.writes n)) (NoWrite k) g.1.0) in
    record { write = f.item; up = unless_none (is_up (core.state n)) _ g.0; found = f.is; sector = (p.known.range.flight.requests n).write_sectors k f.item f.is }

pub break_way : (core : Core) (a : Around) (n k : ℕ) (b : Broken core n k) → Way (here core a) (here (break_write core n k) (record a { broken = broken_there a.broken n b.write }))
break_way core a n k b = broken_from core a n k b.write b.up b.found b.sector
