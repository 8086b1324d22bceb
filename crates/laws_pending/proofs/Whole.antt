-- Where a recovery ends, the legs that its node reads from are equal also where the slot was marked when
-- it became pending.
use Rattle.std.proofs.Common.{◌≡◌, ◌⊎◌, inl, inr, ℕ, ◌<◌, true, false, List, ◌++◌, Some, None, sym, ap, subst, ◌∙◌}
use Rattle.mdc_types.specs.Geometry.{Sizes, chunk_of, nodes_of}
use Rattle.mdc_types.specs.declared.events.Event.TheVariants as events
use Rattle.mdc_types.specs.declared.outcomes.Entry.{Entry}
use Rattle.md_superblock.specs.Arrays.{Array}
use Rattle.leg_failure.specs.Views.{works}
use Rattle.plain_history.specs.History.{candidates, values_at}
use Rattle.plain_history.specs.Seen.{OpenSince}
use Rattle.cluster_model.specs.Contents.{SoundOpening}
use Rattle.cluster_model.specs.Opening.{Origin}
use Rattle.cluster_model.specs.Recovered.{Pended, WasMarked, AreEqual, slot_in}
use Rattle.cluster_model.specs.Run.{Run}
use Rattle.cluster_model.specs.State.{State, sizes}
use Rattle.cluster_model.specs.Stored.{data_on}
use Rattle.cluster_model.specs.Table.{refusal}
use Rattle.laws_roles.specs.Laws.{Tells}
use Rattle.laws_roles.proofs.Known.{known}
use Rattle.laws_roles.proofs.Parts.{ghost_in}
use Rattle.laws_roles.proofs.Runs.{array_is}
use Rattle.storage_ways.proofs.Place.{here, Place}
use Rattle.storage_ways.proofs.RecoveryRows.{Ended, ended}
use Rattle.storage_ways.proofs.Runs as ways_runs
use Rattle.storage_ways.proofs.Runs.{around_at, around_on, traced_in, At}
use Rattle.laws_writes.proofs.Ghosts.{is_open}
use Rattle.laws_pending.specs.Laws.{RunsRecoverEqual}
use Rattle.laws_pending.proofs.Equal.{found_is_equal, one_value, ends}
use Rattle.laws_pending.proofs.Ghosts.{marks_trusted}
use Rattle.laws_pending.proofs.Known.{Known}
use Rattle.laws_pending.proofs.Line.{owed_same}
use Rattle.laws_pending.proofs.Points.{by_test}
use Rattle.laws_pending.proofs.Reflect.{was_marked}
use Rattle.laws_pending.proofs.Runs.{known_of}
use Rattle.laws_pending.proofs.Tied.{Tied, tied, joined}
use Rattle.laws_pending.proofs.Tracing.{traced_run}

some_slot : (a d : ℕ) → Some a ≡ Some d → a ≡ d
some_slot a d e = cc

module _ (o : Origin) (start : State) (opening : SoundOpening o start) (tells : Tells o start) where
  -- what the slot marked on each trusted leg, in the ghosts' words
  marks_there : (before : List Entry) (place : State) → Run start before place → (d c : ℕ) → d < nodes_of (sizes place.core) → WasMarked place d c → marks_trusted (At o start opening.opens tells before place) d c ≡ true
  marks_there before place run d c slot marked =
      let rg = ghost_in o (ways_runs.home o start opening.opens tells) before in
      let tr = traced_in o start opening.opens tells before in
      let some = (ways_runs.sound o start opening.opens tells before place run).numbers.some_completed in
      subst (λ (a : Array). marks_trusted (here place.core (around_on a place.legs rg tr)) d c ≡ true) (array_is o start place before opening.opens run)
      (was_marked place rg tr some d c slot marked)

  module _ (n d c s : ℕ) (before later : List Entry) (end : State) (pended : Pended start before later end d) where
    run : Run start (later ++ before) end
    run = joined start pended.place.state end before later pended.place.before pended.place.after

    same : sizes end.core ≡ o.sizes
    same = ap (λ (a : Array). a.sizes) (array_is o start end (later ++ before) opening.opens run)

    same_place : sizes pended.place.state.core ≡ o.sizes
    same_place = ap (λ (a : Array). a.sizes) (array_is o start pended.place.state before opening.opens pended.place.before)

    marked_is_equal : refusal end.core (events.Recovered n) ≡ None → slot_in n (later ++ before) ≡ Some d → s < (sizes end.core).room → chunk_of (sizes end.core) s ≡ c → WasMarked pended.place.state d c → AreEqual end n s ⊎ OpenSince later before s
    marked_is_equal ok slot lt is marked =
        by_test (is_open (candidates (values_at o.base) (later ++ before) s))
        (λ two. by_test (t.since.since d s) (λ e. inr (t.opened s e two)) (λ e. inl (λ l k el ek. ap (λ j. data_on (sizes end.core) end.legs j s) (one_leg e l k el ek))))
        (λ one. inl (one_value o start end (later ++ before) opening tells run n (ends end.core n ok).up s lt one))
      where
        p : Place end.core (around_at o start opening.opens tells (later ++ before) end)
        p = ways_runs.place o start opening.opens tells (later ++ before) end run

        x : Ended end.core (around_at o start opening.opens tells (later ++ before) end) p n
        x = ended end.core (around_at o start opening.opens tells (later ++ before) end) p n ok

        slot_is : x.recovering.slot ≡ d
        slot_is = some_slot x.recovering.slot d (sym (traced_run o start opening.opens (later ++ before) end run n x.recovering x.is).0 ∙ slot)

        pend : end.core.members.pending d ≡ true
        pend = subst (λ k. end.core.members.pending k ≡ true) slot_is x.ends.all.opened.pending

        t : Tied o start opening tells d before pended.place.state later end
        t = tied o start opening tells d before pended.place.state pended.place.before pended.became later end pended.place.after pended.last pend

        slot_below : d < nodes_of (sizes pended.place.state.core)
        slot_below = subst (λ (g : Sizes). d < nodes_of g) (same ∙ sym same_place)
            (subst (λ k. k < nodes_of (sizes end.core)) slot_is ((known o start end (later ++ before) opening.opens run).range.room.recoveries n x.recovering x.is).slot)

        owed : t.pend.owed x.recovering.slot (chunk_of (sizes end.core) s) ≡ true
        owed = subst (λ k. t.pend.owed k (chunk_of (sizes end.core) s) ≡ true) (sym slot_is)
            (subst (λ k. t.pend.owed d k ≡ true) (sym is)
            (t.owed c ∙ marks_there before pended.place.state pended.place.before d c slot_below marked))

        k : Known (At o start opening.opens tells (later ++ before) end) t.ghost t.since t.pend
        k = known_of (At o start opening.opens tells (later ++ before) end) t.ghost t.hold t.since t.pend (ways_runs.sound o start opening.opens tells (later ++ before) end run) t.all.recovered t.all.pendings

        one_leg : t.since.since d s ≡ false → (l j : ℕ) → works (end.core.view n) l ≡ true → works (end.core.view n) j ≡ true → l ≡ j
        one_leg e l j = owed_same (At o start opening.opens tells (later ++ before) end) t.ghost t.since t.pend k n x.recovering x.ends s l j lt owed (subst (λ i. t.since.since i s ≡ false) (sym slot_is) e)

pub runs_recover_equal : RunsRecoverEqual
runs_recover_equal o start end past opening tells led n ok d c s before later pended slot split lt is (inl found) =
    found_is_equal o start end past opening tells led n ok d c s before later pended slot split lt is found
runs_recover_equal o start end past opening tells led n ok d c s before later pended slot split lt is (inr marked) =
    marked_is_equal o start opening tells n d c s before later end pended ok (subst (λ p. slot_in n p ≡ Some d) split slot) lt is marked
