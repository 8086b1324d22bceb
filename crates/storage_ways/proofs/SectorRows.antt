-- The ways of the sectors that a pass copies.
use Rattle.std.proofs.Common.{◌≡◌, ℕ, suc, Bool, true, Option, Some, None, sym, ap, subst, ◌∙◌, arith, nat_lt}
use Rattle.dlm_modes.proofs.FirstLaws.{first_such_some}
use Rattle.dlm_modes.specs.Guards.{first_of}
use Rattle.mdc_types.specs.Bits.{has_bit}
use Rattle.mdc_types.specs.declared.numbers.Range.{Range}
use Rattle.mdc_types.specs.declared.numbers.Sector.{Sector}
use Rattle.mdc_types.specs.declared.refusals.Refusal.TheVariants.{NotWritten, NothingLeft, NoLeg}
use Rattle.leg_failure.specs.Views.{works, is_target, working_leg}
use Rattle.resync_worker.specs.Copying.{Passing, copied, next_in, missing_target}
use Rattle.resync_worker.specs.declared.buffer.Buffer.{Buffer}
use Rattle.cluster_model.specs.State.{Core, sizes}
use Rattle.cluster_model.specs.Changes.{headed}
use Rattle.cluster_model.specs.Copying.{ci_guards, co_guards, settle_guards, next_for, next_sector, filled_with, copied_in, copied_out, buffer_in, buffer_of, buffer_sector, with_pass, settle, settle_buffer, uncopied_target}
use Rattle.cluster_model.specs.Phases.{is_in, is_up}
use Rattle.laws_sound.proofs.Guarded.{all_none, unless_none, refused_none, found_none}
use Rattle.storage_ways.proofs.Parts.{with_data, with_data_if, decided_values, decided_there, settled_there}
use Rattle.storage_ways.proofs.Place.{Around, here, Place}
use Rattle.storage_ways.proofs.Guarding.{found_some, acked_by, all_targets, below_legs, in_window, InWindow, with_buffer, WithBuffer}
use Rattle.storage_ways.proofs.Ways.{Way, Acked, Buffers, Copies, Settles, fills, copies, misses_copy, settles}
use Rattle.mdc_types.specs.declared.roles.NodeState.{NodeState}

up_inside : (s : NodeState) → is_up s ≡ true → is_in s ≡ true
up_inside s up = grind arith

module _ (core : Core) (a : Around) (p : Place core a) where
  -- Sectors.

  -- the sector that comes next, and the leg from which it is read
  pub record SectorDue (n : ℕ) : Type 0 where
    pub up : is_up (core.state n) ≡ true
    pub at : InWindow (core.copy n).turn (core.copy n).pass (core.copy n).window
    pub acked : Acked (here core a) n
    pub sector : ℕ
    pub next : next_sector core n ≡ Some sector
    pub leg : ℕ
    pub reads : working_leg (core.view n) ≡ Some leg
    pub works : works (core.view n) leg ≡ true

  pub sector_due : (n : ℕ) → first_of (ci_guards core n) ≡ None → SectorDue n
  sector_due n ok =
      let g = (all_none (ci_guards core n) ok).1.1.1 in
      let c = core.copy n in
      let up = unless_none (is_up (core.state n)) _ g.0 in
      let s = found_some (next_sector core n) (found_none (next_sector core n) NothingLeft g.1.1.1.0) in
      let l = found_some (working_leg (core.view n)) (p.known.leg.leg n (up_inside (core.state n) up)) in
      record {
        up = up;
        at = in_window c.turn c.pass c.window (unless_none _ _ g.1.0);
        acked = acked_by core a p n g.1.1.0;
        sector = s.item;
        next = s.is;
        leg = l.item;
        reads = l.is;
        works = (first_such_some (works (core.view n)) 0 8 l.item l.is).passes;
      }

  next_is : (x : Option Passing) (w : Option Range) (q : Passing) (r : Range) (s : ℕ) → x ≡ Some q → w ≡ Some r → next_for (sizes core) x w ≡ Some s → next_in (sizes core) q r ≡ Some s
  next_is x w q r s e f next = rw (e, f) at next

  pub fill_way : (n : ℕ) (d : SectorDue n) (v : Sector) → v ≡ a.stored d.leg d.sector → Way (here core a) (here (copied_in core n d.leg v) a)
  fill_way n d v value =
      subst (λ x. Way (here core a) (here (filled_with core n x d.leg v) a)) (sym d.next)
      (fills n d.sector d.leg v d.at.passing d.at.range (record {
        up = d.up;
        turn = d.at.turn;
        pass = d.at.pass;
        empty = d.at.empty;
        window = d.at.window;
        next = next_is (core.copy n).pass (core.copy n).window d.at.passing d.at.range d.sector d.at.pass d.at.window d.next;
        acked = d.acked;
        works = d.works;
        value = value;
      }))

  -- a buffer
  pub record Buffered (n : ℕ) : Type 0 where
    pub passing : Passing
    pub buffer : Buffer
    pub of : buffer_of core n ≡ Some buffer
    pub buffers : Buffers (here core a) n passing buffer

  buffered : (n : ℕ) → is_up (core.state n) ≡ true → WithBuffer (core.copy n).turn (core.copy n).pass → Acked (here core a) n → Buffered n
  buffered n up b acked = record {
    passing = b.passing;
    buffer = b.buffer;
    of = ap buffer_in b.pass ∙ b.is;
    buffers = record {
      up = up;
      turn = b.turn;
      pass = b.pass;
      buffer = b.is;
      sector = ((p.known.range.room.copies n).pass b.passing b.pass).buffer b.buffer b.is;
      acked = acked;
    };
  }

  pub record Copied (n l : ℕ) : Type 0 where
    pub it : Buffered n
    pub copies : Copies (here core a) n l it.passing it.buffer

  pub to_copy : (n l : ℕ) → first_of (co_guards core n l) ≡ None → Copied n l
  to_copy n l ok =
      let g = (all_none (co_guards core n l) ok).1.1.1 in
      let c = core.copy n in
      let b = buffered n (unless_none (is_up (core.state n)) _ g.1.0) (with_buffer c.turn c.pass c.window (unless_none _ _ g.1.1.0)) (acked_by core a p n g.1.1.1.1.0) in
      record {
        it = b;
        copies = record {
          buffers = b.buffers;
          leg = below_legs l (sizes core).legs (unless_none (nat_lt l (sizes core).legs) (NoLeg l) g.0);
          target = unless_none (is_target (core.view n) l) _ g.1.1.1.0;
        };
      }

  copy_by : (n l : ℕ) (c : Copied n l) (x : Option ℕ) → Way (here core a) (here (with_pass (headed core n l x) n (λ q. copied q l)) (record a { stored = with_data a.stored l c.it.buffer.sector c.it.buffer.value }))
  copy_by n l c None = copies n l c.it.passing c.it.buffer c.copies
  copy_by n l c (Some s) = copies n l c.it.passing c.it.buffer c.copies

  pub copy_way : (n l : ℕ) (c : Copied n l) → Way (here core a) (here (copied_out core n l) (record a { stored = with_data a.stored l c.it.buffer.sector c.it.buffer.value }))
  copy_way n l c = copy_by n l c (buffer_sector (buffer_of core n))

  pub missed_copy_way : (n l : ℕ) (c : Copied n l) (left : Bool) → Way (here core a) (here core (record a { stored = with_data_if left a.stored l c.it.buffer.sector c.it.buffer.value }))
  missed_copy_way n l c left = misses_copy n l c.it.passing c.it.buffer left c.copies

  pub record Settled (n : ℕ) : Type 0 where
    pub it : Buffered n
    pub settles : Settles (here core a) n it.passing it.buffer

  pub settled : (n : ℕ) → first_of (settle_guards core n) ≡ None → Settled n
  settled n ok =
      let g = (all_none (settle_guards core n) ok).1.1.1 in
      let c = core.copy n in
      let b = buffered n (unless_none (is_up (core.state n)) _ g.0) (with_buffer c.turn c.pass c.window (unless_none _ _ g.1.0)) (acked_by core a p n g.1.1.0) in
      let done : missing_target (is_target (core.view n)) b.buffer ≡ None = subst (λ x. uncopied_target core n x ≡ None) b.of (refused_none NotWritten (uncopied_target core n (buffer_of core n)) g.1.1.1.0) in
      record { it = b; settles = record { buffers = b.buffers; done = all_targets core a p n (has_bit b.buffer.done) done } }

  pub settle_way : (n : ℕ) (s : Settled n) → Way (here core a) (here (settle core n) (record a { values = decided_values a.values s.it.buffer.sector s.it.buffer.value; broken = decided_there a.broken s.it.buffer.sector; since = settled_there a.since s.it.buffer.sector; moments = suc a.moments }))
  settle_way n s =
      subst (λ x. Way (here core a) (here (settle_buffer core n x) (record a { values = decided_values a.values s.it.buffer.sector s.it.buffer.value; broken = decided_there a.broken s.it.buffer.sector; since = settled_there a.since s.it.buffer.sector; moments = suc a.moments }))) (sym s.it.of)
      (settles n s.it.passing s.it.buffer s.settles)
