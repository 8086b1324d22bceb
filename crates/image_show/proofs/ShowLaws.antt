-- What `show_images` answers, by how the images were read and given back and how the text was printed.
use Rattle.std.proofs.Common.{◌≡◌, ℕ, zero, suc, ◌<◌, ◌≤◌, List, [], ◌∷◌, length, map, get_or, arith, refl, inl, inr, Option, Ok, Err, Result, true, subst, sym, ap, ◌∙◌}
use Rattle.std.specs.Prelude.{All}
use Rattle.mdc_types.specs.Faults.{Rose}
use Rattle.mdc_types.specs.Geometry.{nodes_of}
use Rattle.mdc_types.specs.declared.numbers.Sector.{Sector}
use Rattle.image_files.specs.Closed.{Closes, CountsAll, NeverFalls, OnlyTheseChange, is_shelf_fault}
use Rattle.image_files.specs.Names.{leg_names}
use Rattle.leg_shelf.specs.Shelves.{Files}
use Rattle.image_files.proofs.Backs.{as_they_were}
use Rattle.image_files.proofs.GivenBack.{closes_changes, changes_all, changes_none, counted_falls_not}
use Rattle.image_opening.specs.Faults.{TellsFault}
use Rattle.image_opening.specs.Opened.{AreOpened, bytes_at}
use Rattle.image_opening.specs.declared.versions.Versions.TheVariants.{Any}
use Rattle.image_faults.specs.declared.faults.ImageError.{ImageError}
use Rattle.image_faults.specs.declared.faults.ImageError.TheVariants as errors
use Rattle.image_faults.specs.declared.legs.LegImage.{LegImage}
use Rattle.image_texts.specs.Lines.{image_text, shelf_text}
use Rattle.image_texts.specs.Shown.{HasSlots, show_text}
use Rattle.image_array.specs.Legs.{AreLegs, no_sizes}
use Rattle.image_ends.specs.Answers.{Answers}
use Rattle.image_ends.specs.Seen.{ShelfSeen, SinkSeen}
use Rattle.image_ends.specs.Told.{Told, TellsError}
use Rattle.image_ends.specs.declared.ends.CommandEnd.{CommandEnd}
use Rattle.image_ends.specs.declared.ends.CommandEnd.TheVariants as ends
use Rattle.image_ends.proofs.AnswerLaws.{told_answers, nothing_answers, text_answers}
use Rattle.image_show.specs.Showing.{AreShown, OthersStand, ShowEnds, ShowErrs}

at_map : {B : Type 0} (f : LegImage → B) (xs : List LegImage) (k : ℕ) (d : LegImage) (e : B) → k < length xs → get_or (map f xs) k e ≡ f (get_or xs k d)
at_map f [] k d e lt = absurd (omega (arith, lt))
at_map f (x ∷ xs) zero d e lt = refl
at_map f (x ∷ xs) (suc k) d e lt = at_map f xs k d e (omega arith)

-- the images of an array have a set for each slot
pub all_slots : (images : List LegImage) → AreLegs images → All HasSlots images
all_slots images legs k d lt =
    sym (ap length (at_map (λ (i : LegImage). i.slots.items) images k d [] lt)) ∙ (legs.each k lt).sets.many
    ∙ ap nodes_of (at_map (λ (i : LegImage). i.geometry) images k d no_sizes lt)

-- the images were read and given back
pub shown_answers : (h : ShelfSeen) (k : SinkSeen) (name text : List ℕ) (images : List LegImage) (end : CommandEnd)
    → AreShown h.files name images → text ≡ show_text images → h.files_after ≡ h.files
    → Told k text ends.Done end → Answers (ShowEnds h name) k end
shown_answers h k name text images end are is same told =
    told_answers (ShowEnds h name) k text ends.Done end tt ((images, (are, is)), same) told

-- they weren't
pub error_answers : (h : ShelfSeen) (k : SinkSeen) (name : List ℕ) (e : ImageError) (end : CommandEnd)
    → ShowErrs h name e → TellsError k name e end → Answers (ShowEnds h name) k end
error_answers h k name (errors.Image l f) end so told =
    text_answers (ShowEnds h name) k (image_text l f) (ends.Image l f) end tt (so.0, so.1, refl) (so.1, refl) told
error_answers h k name (errors.Shelf l) end so told =
    text_answers (ShowEnds h name) k (shelf_text name l) (ends.Shelf l) end tt (inl so.0, so.1, refl) (so.1, refl) told
error_answers h k name (errors.Device l) end so told =
    text_answers (ShowEnds h name) k (shelf_text name l) (ends.Shelf l) end tt (inr so.0, so.1, refl) (so.1, refl) told
error_answers h k name (errors.Memory e) end so told = nothing_answers (ShowEnds h name) k end (so, refl) told

-- Opening and giving back.

rose_later : (before mid now : ℕ) → before ≤ mid → Rose mid now → Rose before now
rose_later before mid now le r = omega (arith, r)

-- why the images weren't opened
pub open_errs : (h : ShelfSeen) (name : List ℕ) (e : ImageError) → TellsFault h.files (leg_names name) Any e → OthersStand h name
    → ((l : ℕ) → e ≡ errors.Device l → Rose h.leg_faults h.leg_faults_after)
    → (is_shelf_fault e ≡ true → Rose h.faults h.faults_after) → ShowErrs h name e
open_errs h name (errors.Image l f) fault others device shelf = (fault, others)
open_errs h name (errors.Shelf l) fault others device shelf = (shelf refl, others)
open_errs h name (errors.Device l) fault others device shelf = (device l refl, others)
open_errs h name (errors.Memory e) fault others device shelf = others

-- why the legs weren't given back
pub close_errs : (h : ShelfSeen) (name : List ℕ) (told : List (Option (List Sector))) (n mid : ℕ) (e : ImageError) → n ≤ 8
    → Closes (leg_names name) told n h.files (Err e) h.files_after → h.faults ≤ mid
    → (is_shelf_fault e ≡ true → Rose mid h.faults_after) → ShowErrs h name e
close_errs h name told n mid (errors.Shelf l) few closes later shelf = (
  rose_later h.faults mid h.faults_after later (shelf refl),
  changes_all (leg_names name) n h.files h.files_after few (closes_changes (leg_names name) told n h.files (Err (errors.Shelf l)) h.files_after closes),
)
close_errs h name told n mid (errors.Memory e) few closes later shelf =
    changes_all (leg_names name) n h.files h.files_after few (closes_changes (leg_names name) told n h.files (Err (errors.Memory e)) h.files_after closes)
close_errs h name told n mid (errors.Image l f) few closes later shelf = absurd closes
close_errs h name told n mid (errors.Device l) few closes later shelf = absurd closes

-- nothing has changed
pub same_stand : (h : ShelfSeen) (name : List ℕ) → h.files_after ≡ h.files → OthersStand h name
same_stand h name same = subst (OnlyTheseChange (leg_names name) 0 8 h.files) (sym same) (changes_none (leg_names name) 8 h.files)

-- counts of legs that were given back never fall
pub counts_never : (before : ℕ) (faults : List ℕ) (r : Result (Unit {0}) ImageError) (now : ℕ) → CountsAll before faults r now → NeverFalls before now
counts_never before faults (Ok u) now counts = subst (NeverFalls before) (sym counts) (counted_falls_not before faults)
counts_never before faults (Err (errors.Shelf l)) now counts = subst (NeverFalls before) (sym counts) (counted_falls_not before faults)
counts_never before faults (Err (errors.Image l f)) now counts = subst (NeverFalls before) (sym counts) (counted_falls_not before faults)
counts_never before faults (Err (errors.Device l)) now counts = subst (NeverFalls before) (sym counts) (counted_falls_not before faults)
counts_never before faults (Err (errors.Memory e)) now counts = counts

-- all legs were given back, so nothing has changed
pub given_same : (old mid new : Option Files) (names : List (List ℕ)) (images : List LegImage) (told : List (Option (List Sector))) (lengths : List ℕ) (n : ℕ)
    → AreOpened old names images told lengths → mid ≡ old → length told ≡ n → Closes names told n mid (Ok tt) new → new ≡ old
given_same old mid new names images told lengths n opened same many closes =
    as_they_were old new names told (bytes_at lengths) opened.opened
    (subst (λ k. Closes names told k old (Ok tt) new) (sym many) (subst (λ f. Closes names told n f (Ok tt) new) same closes))
