-- An heir marks what was taken from a pending slot.
use Rattle.std.proofs.Common.{◌≡◌, ◌⊎◌, inl, inr, ℕ, ◌<◌, ◌==◌, ◌&&◌, ◌||◌, not, Bool, true, false, List, ◌∷◌, ◌++◌, Option, Some, None, refl, sym, ap, subst, ◌∙◌, arith}
use Rattle.std.specs.Prelude.{is_some, nat_lt}
use Rattle.std.proofs.lemmas.Bool.Decides.{nat_tests}
use Rattle.dlm_modes.proofs.FirstLaws.{first_such_none, first_such_some}
use Rattle.dlm_modes.specs.First.{first_such}
use Rattle.mdc_types.specs.Geometry.{Sizes, chunk_of, nodes_of}
use Rattle.mdc_types.specs.declared.outcomes.Entry.{Entry}
use Rattle.md_superblock.specs.Arrays.{Array}
use Rattle.node_member.specs.Members.{Members}
use Rattle.node_recovery.specs.Progress.{Recovering}
use Rattle.cluster_model.specs.Contents.{SoundOpening}
use Rattle.cluster_model.specs.Opening.{Origin}
use Rattle.cluster_model.specs.Recovered.{Pended}
use Rattle.cluster_model.specs.Run.{Run}
use Rattle.cluster_model.specs.Served.{Trusted, Marked}
use Rattle.cluster_model.specs.State.{State, sizes}
use Rattle.cluster_model.specs.Stored.{bit_on}
use Rattle.laws_roles.specs.Laws.{Tells}
use Rattle.laws_roles.proofs.Parts.{ghost_in}
use Rattle.laws_roles.proofs.Parts as roles
use Rattle.laws_roles.proofs.Runs.{array_is}
use Rattle.storage_ways.proofs.Moving.{Traced, around}
use Rattle.storage_ways.proofs.Parts.{Part}
use Rattle.storage_ways.proofs.Place.{here, Place}
use Rattle.storage_ways.proofs.Runs as ways_runs
use Rattle.storage_ways.proofs.Runs.{around_on, traced_in, place, At}
use Rattle.laws_writes.proofs.Kept.{trusted_good}
use Rattle.laws_pending.specs.Heirs.{InLine, first, further, TakenSince, SettledIn, HeirMarks, HeirsHold, RunsKeepHeirs}
use Rattle.laws_pending.proofs.Ghosts.{slot_of}
use Rattle.laws_pending.proofs.Known.{Known}
use Rattle.laws_pending.proofs.Line as line
use Rattle.laws_pending.proofs.Line.{Marks, line_marks}
use Rattle.laws_pending.proofs.Lineage.{Told, told, left_with}
use Rattle.laws_pending.proofs.Points.{clash, by_test, same_point}
use Rattle.laws_pending.proofs.Runs.{known_of}
use Rattle.laws_pending.proofs.Untouched.{join}

both : (a b : Bool) → (a && b) ≡ true → (a ≡ true) × (b ≡ true)
both a b e = grind arith

-- the line, by the members
in_line : (members : Members) (d k : ℕ) → line.InLine members.heir d k → InLine members d k
in_line members d k (line.next e) = first e
in_line members d k (line.later e x) = further e (in_line members _ k x)

-- a sector of the chunk that fails a test, or all pass
some_or_all : (f : ℕ → Bool) (n : ℕ) → ((s : ℕ) × (s < n) × (f s ≡ false)) ⊎ ((s : ℕ) → s < n → f s ≡ true)
some_or_all f n = by (first_such (λ s. not (f s)) 0 n) refl
  where
    not_so : (b : Bool) → not b ≡ true → b ≡ false
    not_so b e = grind arith

    so : (b : Bool) → not b ≡ false → b ≡ true
    so b e = grind arith

    by : (x : Option ℕ) → first_such (λ s. not (f s)) 0 n ≡ x → ((s : ℕ) × (s < n) × (f s ≡ false)) ⊎ ((s : ℕ) → s < n → f s ≡ true)
    by None e = inr (λ s lt. so (f s) (first_such_none (λ t. not (f t)) 0 n e s (omega arith) (omega (arith, lt))))
    by (Some s) e =
        let found = first_such_some (λ t. not (f t)) 0 n s e in
        inl (s, omega (arith, found.below), not_so (f s) found.passes)

other_chunk : (g : Sizes) (c s : ℕ) (settled : Bool) → (not (chunk_of g s == c) || settled) ≡ true → chunk_of g s ≡ c → settled ≡ true
other_chunk g c s settled e is = grind (arith, nat_tests)

this_chunk : (g : Sizes) (c s : ℕ) (settled : Bool) → (not (chunk_of g s == c) || settled) ≡ false → (chunk_of g s ≡ c) × (settled ≡ false)
this_chunk g c s settled e = (grind (arith, nat_tests), grind (arith, nat_tests))

module _ (o : Origin) (start end : State) (opening : SoundOpening o start) (tells : Tells o start) (d : ℕ) (before after : List Entry) (pended : Pended start before after end d) (pend : end.core.members.pending d ≡ true) where
  whole : Run start (after ++ before) end
  whole = join start pended.place.state end before after pended.place.before pended.place.after

  t : Told o start opening tells d before (left_with o start opening tells d before pended.place.state pended.place.before) after end
  t = told o start opening tells d before pended.place.state pended.place.before pended.became after end pended.place.after pended.last pend

  abbrev W : Part
  W = At o start opening.opens tells (after ++ before) end

  known : Known W t.ghost t.since t.pend
  known = known_of W t.ghost t.hold t.since t.pend (ways_runs.sound o start opening.opens tells (after ++ before) end whole) t.all.recovered t.all.pendings

  abbrev rg : roles.Ghost
  rg = ghost_in o (ways_runs.home o start opening.opens tells) (after ++ before)

  abbrev tr : Traced
  tr = traced_in o start opening.opens tells (after ++ before)

  same : end.core.array.sizes ≡ o.sizes
  same = ap (λ (a : Array). a.sizes) (array_is o start end (after ++ before) opening.opens whole)

  place_here : Place end.core (around end.core end.legs rg tr)
  place_here = subst (λ (a : Array). Place end.core (around_on a end.legs rg tr)) (sym (array_is o start end (after ++ before) opening.opens whole)) (place o start opening.opens tells (after ++ before) end whole)

  stands : (k c l : ℕ) → W.bit k c l ≡ true → Marked end k c l
  stands k c l e = subst (λ g. bit_on g end.legs k c l ≡ true) (sym same) (both (nat_lt k (nodes_of o.sizes)) (bit_on o.sizes end.legs k c l) e).1

  marked_by : (c : ℕ) → Marks W d c → HeirMarks end d c
  marked_by c m = record {
    heir = m.slot;
    line = in_line end.core.members d m.slot m.line;
    marked = λ l lt trusted. stands m.slot c l (m.marks l (trusted_good end rg tr place_here l trusted) lt);
  }

  pub taken_kept : (c : ℕ) → TakenSince (sizes end.core) after before d c → HeirMarks end d c ⊎ ((s : ℕ) → s < (sizes end.core).room → chunk_of (sizes end.core) s ≡ c → SettledIn after s)
  taken_kept c taken = by (some_or_all (λ s. not (chunk_of (sizes end.core) s == c) || t.since.since d s) (sizes end.core).room)
    where
      moved : t.pend.moved d c ≡ true
      moved = t.taken c (subst (λ g. TakenSince g after before d c) same taken)

      by : ((s : ℕ) × (s < (sizes end.core).room) × ((not (chunk_of (sizes end.core) s == c) || t.since.since d s) ≡ false)) ⊎ ((s : ℕ) → s < (sizes end.core).room → (not (chunk_of (sizes end.core) s == c) || t.since.since d s) ≡ true)
          → HeirMarks end d c ⊎ ((s : ℕ) → s < (sizes end.core).room → chunk_of (sizes end.core) s ≡ c → SettledIn after s)
      by (inl x) =
          let two = this_chunk (sizes end.core) c x.0 (t.since.since d x.0) x.2 in
          inl (marked_by c (subst (λ k. Marks W d k) two.0 (line_marks W t.ghost t.since t.pend known d x.0
          (record { pending = pend; within = x.1; moved = subst (λ k. t.pend.moved d k ≡ true) (sym two.0) moved; unsettled = two.1 }))))
      by (inr f) = inr (λ s lt is. t.settled s (other_chunk (sizes end.core) c s (t.since.since d s) (f s lt) is))

  pub dead_heir : (k : ℕ) → left_with o start opening tells d before pended.place.state pended.place.before ≡ Some k → end.core.members.heir k ≡ Some d
  dead_heir k e = known.pendings.was_heir d k pend (t.was k e)

pub runs_keep_heirs : RunsKeepHeirs
runs_keep_heirs o start end past opening tells run = record {
  taken = λ d c before after pended pend split taken. taken_kept o start end opening tells d before after pended pend c taken;
  dead_recoverer = λ n x before after pended r pend split is. dead_heir o start end opening tells n (x ∷ before) after pended pend r.slot (ap slot_of is);
}
