-- How a script over images ends, by how its lines ran, how the legs were given back and what was told.
use Rattle.std.proofs.Common.{◌≡◌, ◌∙◌, ◌≤◌, ℕ, inl, inr, List, [], length, map, Option, Result, Ok, Err, refl, sym, ap, subst, arith}
use Rattle.std.specs.Prelude.{reverse, true, min, ◌+◌, ◌-◌, ◌^◌}
use Rattle.std.proofs.lemmas.List.{length-map}
use Rattle.mdc_types.specs.Faults.{Rose}
use Rattle.mdc_types.specs.declared.numbers.Sector.{Sector}
use Rattle.leg_store.specs.Plans.{Plan}
use Rattle.leg_shelf.specs.Shelves.{Files}
use Rattle.cluster_model.specs.Opening.{Origin, core_at}
use Rattle.cluster_model.specs.Run.{Run}
use Rattle.laws_promises.proofs.Promises.{promised}
use Rattle.world_state.specs.Kept.{core_of}
use Rattle.world_state.specs.Told.{Fits, LegsSeen, seen_of}
use Rattle.cluster_core.specs.World.{Seen, trace_limit}
use Rattle.cluster_core.specs.Stands.{Stand, stand, state_at}
use Rattle.script_text.specs.declared.script.Line.{Line}
use Rattle.script_play.specs.Playing.{Played}
use Rattle.script_play.specs.QueryAnswers.{Checks}
use Rattle.script_play.specs.Running.{Ran}
use Rattle.script_play.specs.declared.running.RunEnd.{RunEnd}
use Rattle.script_play.specs.declared.running.RunEnd.TheVariants as runs
use Rattle.script_play.proofs.Played.{run_of}
use Rattle.script_play.proofs.Ran.{ran_also, ran_run}
use Rattle.script_play.proofs.Sound.{all_legal}
use Rattle.image_faults.specs.declared.faults.ImageError.{ImageError}
use Rattle.image_faults.specs.declared.faults.ImageError.TheVariants as errors
use Rattle.image_files.specs.Names.{leg_names}
use Rattle.image_files.specs.Closed.{Closes, is_shelf_fault}
use Rattle.image_opening.specs.Faults.{TellsFault}
use Rattle.image_opening.specs.declared.versions.Versions.TheVariants.{Any}
use Rattle.image_ends.specs.Seen.{ShelfSeen, SinkSeen, ShelfRose}
use Rattle.image_ends.specs.Told.{TellsError}
use Rattle.image_ends.specs.Told.Told.{all, less}
use Rattle.image_ends.specs.declared.ends.CommandEnd.{CommandEnd}
use Rattle.image_ends.specs.declared.ends.CommandEnd.TheVariants as commands
use Rattle.image_show.specs.Showing.{ShowErrs, OthersStand}
use Rattle.image_play.specs.Starts.{AreImages, Starts}
use Rattle.image_play.specs.Playing.{Leads, Playing, Runs}
use Rattle.image_play.specs.Ends.{Ends, Finishes, FailsClosing, AtLeg, Cut, NoMemory, images_end}
use Rattle.image_play.specs.Ends.AtLeg.{opening, reading, closing}
use Rattle.image_play.specs.Ends.Cut.{of_error, of_lines, of_closing}
use Rattle.image_play.specs.Ends.NoMemory.{before, in_line, closing as closing_memory}
use Rattle.image_play.specs.declared.ends.ImagesEnd.{ImagesEnd}
use Rattle.image_play.specs.declared.ends.ImagesEnd.TheVariants as ends

-- a world over the legs of images is where a script starts
pub starts_of : {L : Type 0} (contents : L → Option (List Sector)) (size faults : L → ℕ)
    (plan : L → Option Plan) (legs : List L) (files : Option Files) (name : List ℕ) (o : Origin)
    (w : Seen) → AreImages files name o (map contents legs) (map size legs) → w.origin ≡ o
    → core_of w.kept ≡ core_at o → w.legs ≡ seen_of contents size faults plan legs → w.past ≡ []
    → Starts files name w.origin (stand w)
starts_of contents size faults plan legs files name o w are is core is_legs none = record {
  legs = rw (is, is_legs) are;
  opens = rw is (record { origin = are.origin; core = core; contents = rw is_legs (inr are.images) });
  none = none;
}

-- the legs that the world gave back are those of its state
pub closes_of : {L : Type 0} (contents : L → Option (List Sector)) (size faults : L → ℕ)
    (plan : L → Option Plan) (legs : List L) (w : Seen) (o : Origin) (names : List (List ℕ))
    (name : List ℕ) (old : Option Files) (closed : Result (Unit {0}) ImageError)
    (new : Option Files) → seen_of contents size faults plan legs ≡ w.legs
    → Fits w.origin.sizes w.legs.sizes → w.origin ≡ o → names ≡ leg_names name
    → Closes names (map contents legs) (length legs) old closed new
    → Closes (leg_names name) w.legs.contents o.sizes.legs old closed new
closes_of contents size faults plan legs w o names name old closed new is fits origin names_are closes =
    let told : map contents legs ≡ w.legs.contents = ap (λ (x : LegsSeen). x.contents) is in
    let many : length legs ≡ o.sizes.legs = sym (length-map legs size) ∙ ap (λ (x : LegsSeen). length x.sizes) is ∙ fits.count ∙ ap (λ (o : Origin). o.sizes.legs) origin in
    subst (λ n. Closes (leg_names name) w.legs.contents n old closed new) many
    (subst (λ t. Closes (leg_names name) t (length legs) old closed new) told
    (subst (λ n. Closes n (map contents legs) (length legs) old closed new) names_are closes))

-- why the images weren't opened
pub opening_errs : (h : ShelfSeen) (name : List ℕ) (e : ImageError)
    → TellsFault h.files (leg_names name) Any e → OthersStand h name
    → (is_shelf_fault e ≡ true → ShelfRose h)
    → ((l : ℕ) → e ≡ errors.Device l → Rose h.leg_faults h.leg_faults_after) → ShowErrs h name e
opening_errs h name (errors.Image l f) told others shelf device = (told, others)
opening_errs h name (errors.Shelf l) told others shelf device = (shelf refl, others)
opening_errs h name (errors.Device l) told others shelf device = (device l refl, others)
opening_errs h name (errors.Memory e) told others shelf device = others

module _ (h : ShelfSeen) (name : List ℕ) (lines : List Line) where
  module _ (o : Origin) (start : Stand) (starts : Starts h.files name o start) where
    leads_to : (end : Stand) → Run (state_at start) end.past (state_at end)
        → length end.past ≤ trace_limit → Leads o start end
    leads_to end run few = record {
      run = run;
      few = few;
      promised = λ sound tells. promised o (state_at start) sound tells (state_at end) end.past run;
    }

    playing_of : (some : List Line) (end : Stand) (text : List ℕ)
        → Played (Checks o) start some end text → Playing o start some end text
    playing_of some end text p = record {
      plays = p.plays;
      legal = λ sound tells. all_legal o start starts.none sound tells (reverse some) end text p.plays;
      leads = leads_to end (run_of (Checks o) start starts.none (reverse some) end text p.plays) p.few;
    }

    -- the lines ran, and the legs were given back
    pub runs_of : (last : Stand) → length last.past ≤ trace_limit → (w now : Option (List ℕ))
        (end : RunEnd) (closed : Result (Unit {0}) ImageError)
        → Ran (Played (Checks o) start) lines last w now end
        → Closes (leg_names name) last.legs.contents o.sizes.legs h.files closed h.files_after
        → Runs h.files h.files_after name lines w now end closed
    runs_of last few w now end closed ran closes = record {
      opening = o;
      start = start;
      starts = starts;
      last = last;
      leads = leads_to last (ran_run (Checks o) start starts.none lines last w now end ran) few;
      ran = ran_also (Played (Checks o) start) (Playing o start) playing_of lines last w now end ran;
      closes = closes;
    }

  -- the images weren't opened
  pub not_opened : (k : SinkSeen) (e : ImageError) (end : CommandEnd) → ShowErrs h name e
      → TellsError k name e end → Ends h name lines k (images_end end)
  not_opened k (errors.Image l f) end so (inl (all wrote)) = (so, wrote)
  not_opened k (errors.Image l f) end so (inl (less rose front)) =
      (rose, of_error (errors.Image l f) so front)
  not_opened k (errors.Image l f) end so (inr t) = rw t.0 (before t.1 so.1)
  not_opened k (errors.Shelf l) end so (inl (all wrote)) = opening so wrote
  not_opened k (errors.Shelf l) end so (inl (less rose front)) =
      (rose, of_error (errors.Shelf l) so front)
  not_opened k (errors.Shelf l) end so (inr t) = rw t.0 (before t.1 so.1)
  not_opened k (errors.Device l) end so (inl (all wrote)) = reading so wrote
  not_opened k (errors.Device l) end so (inl (less rose front)) =
      (rose, of_error (errors.Device l) so front)
  not_opened k (errors.Device l) end so (inr t) = rw t.0 (before t.1 so.1)
  not_opened k (errors.Memory e) end so t = rw t.0 (before t.1 so)

  later_rose : (a b c : ℕ) → a ≤ b → Rose b c → Rose a c
  later_rose a b c le rose = omega (arith, le, rose)

  rose_later : (a b c : ℕ) → Rose a b → b ≤ c → Rose a c
  rose_later a b c rose le = omega (arith, rose, le)

  -- the lines ran, and the legs were given back, and then the last words were told
  module _ (k : SinkSeen) (mid : Option (List ℕ)) (faults : ℕ) (later : k.faults ≤ faults) where
    -- from there on
    abbrev pub rest : SinkSeen
    rest = record {
      written = mid;
      written_after = k.written_after;
      faults = faults;
      faults_after = k.faults_after;
    }

    same : (end : RunEnd) (closed : Result (Unit {0}) ImageError)
        → Runs h.files h.files_after name lines k.written mid end closed → k.written_after ≡ mid
        → Runs h.files h.files_after name lines k.written k.written_after end closed
    same end closed r is = rw is r

    pub ended : (end : RunEnd) (closed : Result (Unit {0}) ImageError) (result : ImagesEnd)
        → Runs h.files h.files_after name lines k.written mid end closed
        → (end ≡ runs.Write → Rose k.faults faults) → faults ≤ k.faults_after
        → ((l : ℕ) → closed ≡ Err (errors.Shelf l) → ShelfRose h)
        → Finishes rest name end closed result → Ends h name lines k result
    ended runs.Done (Ok u) result r rose after shelf f = rw f.0 (same runs.Done (Ok u) r f.1)
    ended runs.Done (Err (errors.Shelf l)) result r rose after shelf (end, (inl (all wrote), is)) =
        rw is (closing mid (record { runs = r; rose = shelf l refl }) wrote)
    ended runs.Done (Err (errors.Shelf l)) result r rose after shelf (end, (inl (less cut front), is)) =
        rw is (later_rose k.faults faults k.faults_after later cut, of_closing mid l (record { runs = r; rose = shelf l refl }) front)
    ended runs.Done (Err (errors.Shelf l)) result r rose after shelf (end, (inr t, is)) =
        rw (is, t.0) (closing_memory (errors.Shelf l) (same runs.Done (Err (errors.Shelf l)) r t.1))
    ended runs.Done (Err (errors.Memory e)) result r rose after shelf f =
        rw (f.1.1, f.1.0.0) (closing_memory (errors.Memory e) (same runs.Done (Err (errors.Memory e)) r f.1.0.1))
    ended runs.Done (Err (errors.Image l i)) result r rose after shelf f = absurd r.closes
    ended runs.Done (Err (errors.Device l)) result r rose after shelf f = absurd r.closes
    ended runs.Write closed result r rose after shelf f =
        rw f.0 (rose_later k.faults faults k.faults_after (rose refl) after, of_lines closed (same runs.Write closed r f.1))
    ended runs.Memory closed result r rose after shelf f = rw f.0 (in_line closed (same runs.Memory closed r f.1))
    ended runs.TraceFull closed result r rose after shelf f = rw f.0 (closed, same runs.TraceFull closed r f.1)

-- The same from before the images were opened.
module _ (h : ShelfSeen) (count : ℕ) (le : h.faults ≤ count) (name : List ℕ) (lines : List Line)
    (k : SinkSeen) where
  -- once they were
  abbrev opened : ShelfSeen
  opened = record h { faults = count }

  shelf_rose : ShelfRose opened → ShelfRose h
  shelf_rose rose = let le = le in omega (arith, le, rose)

  errs_before : (e : ImageError) → ShowErrs opened name e → ShowErrs h name e
  errs_before (errors.Image l f) so = so
  errs_before (errors.Shelf l) so = (shelf_rose so.0, so.1)
  errs_before (errors.Device l) so = so
  errs_before (errors.Memory e) so = so

  closing_before : (mid : Option (List ℕ)) (l : ℕ) → FailsClosing opened name lines k mid l
      → FailsClosing h name lines k mid l
  closing_before mid l f = record { runs = f.runs; rose = shelf_rose f.rose }

  cut_before : Cut opened name lines k → Cut h name lines k
  cut_before (of_error e so front) = of_error e (errs_before e so) front
  cut_before (of_lines closed r) = of_lines closed r
  cut_before (of_closing mid l f front) = of_closing mid l (closing_before mid l f) front

  leg_before : (l : ℕ) → AtLeg opened name lines k l → AtLeg h name lines k l
  leg_before l (opening so wrote) = opening (errs_before (errors.Shelf l) so) wrote
  leg_before l (reading so wrote) = reading (errs_before (errors.Device l) so) wrote
  leg_before l (closing mid f wrote) = closing mid (closing_before mid l f) wrote

  memory_before : NoMemory opened name lines k → NoMemory h name lines k
  memory_before (before nothing others) = before nothing others
  memory_before (in_line closed r) = in_line closed r
  memory_before (closing_memory e r) = closing_memory e r

  pub ends_before : (result : ImagesEnd) → Ends (record h { faults = count }) name lines k result
      → Ends h name lines k result
  ends_before ends.Done e = e
  ends_before ends.TraceFull e = e
  ends_before (ends.Image l f) e = (errs_before (errors.Image l f) e.0, e.1)
  ends_before (ends.Shelf l) e = leg_before l e
  ends_before ends.Write e = (e.0, cut_before e.1)
  ends_before ends.Memory e = memory_before e

-- what was seen of the shelf from then on, as it was seen from before
pub from_opened : (h then : ShelfSeen) (name : List ℕ) (lines : List Line) (k : SinkSeen)
    (result : ImagesEnd) → then.files ≡ h.files → then.files_after ≡ h.files_after
    → h.faults ≤ then.faults → then.faults_after ≡ h.faults_after → then.leg_faults ≡ h.leg_faults
    → then.leg_faults_after ≡ h.leg_faults_after → Ends then name lines k result
    → Ends h name lines k result
from_opened h then name lines k result files after le faults legs legs_after e =
    ends_before h then.faults le name lines k result (rw (← files, ← after, ← faults, ← legs, ← legs_after) e)
