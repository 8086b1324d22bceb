-- The ways of bitmaps: a page is written, and a chunk leaves the set.
use Rattle.std.proofs.Common.{◌≡◌, ℕ, ◌<◌, ◌≤◌, ◌==◌, Bool, true, false, not, Some, None, refl, subst, arith, nat_lt}
use Rattle.std.proofs.Math.Nat.{div-mul-le_self}
use Rattle.resync_worker.proofs.SectorLaws.{lt-chunk_end}
use Rattle.std.proofs.lemmas.Bool.Decides.{nat_tests}
use Rattle.dlm_modes.specs.First.{first_such}
use Rattle.dlm_modes.specs.Guards.{first_of}
use Rattle.mdc_types.specs.Geometry.{Sizes, IsGeometry, chunk_of, chunks_of, chunk_start, chunk_end, pages_of, chunk_size_test}
use Rattle.mdc_types.specs.Ranges.{holds}
use Rattle.mdc_types.specs.declared.refusals.Refusal.TheVariants.{NoChunk, NoLeg, NoPage, Needed, Draining, Degraded}
use Rattle.leg_failure.specs.Views.{is_target}
use Rattle.mirror_io.specs.Flight.{write_in, write_within}
use Rattle.mirror_io.specs.declared.live.LiveWrite.{LiveWrite}
use Rattle.mirror_io.proofs.Lookups.{write_within-none}
use Rattle.cluster_model.specs.State.{Core, sizes}
use Rattle.cluster_model.specs.Bits.{bit_guards, clear_guards, page_written, page_failed, clear, is_degraded}
use Rattle.cluster_model.specs.Phases.{is_up}
use Rattle.laws_sound.proofs.Guarded.{all_none, unless_none, refused_none}
use Rattle.storage_ways.proofs.Parts.{with_page, with_page_if}
use Rattle.storage_ways.proofs.Place.{Around, here, Place}
use Rattle.storage_ways.proofs.Guarding.{acked_by, none_degraded, below_legs}
use Rattle.storage_ways.proofs.Ways.{Way, PageTo, marks, misses_page, clears}

not_true : (b : Bool) → not b ≡ true → b ≡ false
not_true b e = grind arith

-- a sector of the chunk lies between its ends
some_sectors : (c : ℕ) → chunk_size_test c ≡ true → 1 ≤ c
some_sectors c e = grind (arith, nat_tests)

both_hold : (lo hi s : ℕ) → lo ≤ s → s < hi → holds lo hi s ≡ true
both_hold lo hi s le lt = grind (arith, nat_tests)

chunk_holds : (g : Sizes) (s c : ℕ) → IsGeometry g → s < g.room → (chunk_of g s == c) ≡ true → holds (chunk_start g c) (chunk_end g c) s ≡ true
chunk_holds g s c i lt e =
    let same : chunk_of g s ≡ c = grind (arith, nat_tests) in
    subst (λ d. holds (chunk_start g d) (chunk_end g d) s ≡ true) same
    (both_hold (chunk_start g (chunk_of g s)) (chunk_end g (chunk_of g s)) s (div-mul-le_self s g.chunk) (lt-chunk_end g s (some_sectors g.chunk i.chunk) lt))

module _ (core : Core) (a : Around) (p : Place core a) where
  pub page_to : (n q l : ℕ) → first_of (bit_guards core n q l) ≡ None → PageTo (here core a) n q l
  page_to n q l ok =
      let g = (all_none (bit_guards core n q l) ok).1.1.1 in
      record {
        up = unless_none (is_up (core.state n)) _ g.1.0;
        page = below_legs q (pages_of (sizes core)) (unless_none (nat_lt q (pages_of (sizes core))) (NoPage q) g.1.1.0);
        leg = below_legs l (sizes core).legs (unless_none (nat_lt l (sizes core).legs) (NoLeg l) g.0);
        target = unless_none (is_target (core.view n) l) _ g.1.1.1.0;
      }

  pub page_way : (n q l : ℕ) → PageTo (here core a) n q l → Way (here core a) (here (page_written core n q l) (record a { bit = with_page a.bit n q l (core.bitmap n).set }))
  page_way n q l t = marks n q l t

  pub missed_page_way : (n q l : ℕ) (left : Bool) → PageTo (here core a) n q l → Way (here core a) (here (page_failed core n q l) (record a { bit = with_page_if left a.bit n q l (core.bitmap n).set }))
  missed_page_way n q l left t = misses_page n q l left t

  no_write_there : (n c : ℕ) → write_within (chunk_start (sizes core) c) (chunk_end (sizes core) c) (core.writes n) ≡ None → (k : ℕ) (x : LiveWrite) → write_in k (core.writes n) ≡ Some x → (chunk_of (sizes core) x.sector == c) ≡ false
  no_write_there n c none k x found = by (chunk_of (sizes core) x.sector == c) refl
    where
      by : (b : Bool) → (chunk_of (sizes core) x.sector == c) ≡ b → b ≡ false
      by false e = refl
      by true e =
          let here = chunk_holds (sizes core) x.sector c p.known.range.legs.sizes_fit ((p.known.range.flight.requests n).write_sectors k x found) e in
          let out = write_within-none (chunk_start (sizes core) c) (chunk_end (sizes core) c) k (core.writes n) x none found in cc

  pub clear_way : (n c : ℕ) → first_of (clear_guards core n c) ≡ None → Way (here core a) (here (clear core n c) a)
  clear_way n c ok =
      let g = (all_none (clear_guards core n c) ok).1.1.1 in
      clears n c (record {
        up = unless_none (is_up (core.state n)) _ g.0;
        chunk = below_legs c (chunks_of (sizes core)) (unless_none (nat_lt c (chunks_of (sizes core))) (NoChunk c) g.1.0);
        none = no_write_there n c (refused_none Draining (write_within (chunk_start (sizes core) c) (chunk_end (sizes core) c) (core.writes n)) g.1.1.1.0);
        need = not_true ((core.bitmap n).need c) (unless_none (not ((core.bitmap n).need c)) (Needed c) g.1.1.1.1.0);
        acked = acked_by core a p n g.1.1.1.1.1.0;
        whole = none_degraded core a p n (refused_none Degraded (first_such (is_degraded (core.view n)) 0 8) g.1.1.1.1.1.1.0);
      })
