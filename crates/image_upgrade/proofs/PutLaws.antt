-- One new image that was made and stored, and why it wasn't.
use Rattle.std.proofs.Common.{◌≡◌, ◌≤◌, ℕ, ◌<◌, List, get_or, Bool, false, Option, Some, None, Result, Ok, Err, refl, ap, sym, ◌∙◌, subst, arith}
use Rattle.std.specs.Prelude.{MatchResult, IfErr, IsErrAnd}
use Rattle.std.proofs.lemmas.Bool.{false≢true}
use Rattle.mdc_types.specs.Faults.{HasCause, Rose}
use Rattle.mdc_types.specs.declared.numbers.Sector.{Sector}
use Rattle.leg_shelf.specs.Shelves.{Files, put_file, OthersStay, is_fault}
use Rattle.leg_shelf.specs.declared.shelf.ShelfEnd.{ShelfEnd}
use Rattle.leg_shelf.specs.declared.shelf.ShelfEnd.TheVariants as shelf_ends
use Rattle.image_faults.specs.Legs.{is_leg_failure}
use Rattle.image_faults.specs.declared.faults.ImageError.TheVariants as errors
use Rattle.image_faults.specs.declared.legs.LegEnd.{LegEnd}
use Rattle.image_faults.specs.declared.legs.LegEnd.TheVariants.{Fault, Failed, Memory}
use Rattle.image_second.specs.Second.{WasRead, IsMade, IsMakeEnd}
use Rattle.image_upgrade.specs.Ends.{HasFailed, IsNewEnd, IsPutEnd, IsStoreEnd, LegFailed, is_shelf_fault, made_error}
use Rattle.image_faults.specs.declared.legs.LegImage.{LegImage}
use Rattle.image_upgrade.specs.Stored.{OneStored, PutsNew, StoredSome}
use Rattle.image_upgrade.specs.declared.ends.UpgradeError.{UpgradeError}
use Rattle.image_upgrade.specs.declared.ends.UpgradeError.TheVariants.{Old, New}

-- What stands then.

puts_made : (old : Option Files) (file : List ℕ) (r : WasRead) (told : Option (List Sector)) (bytes : List ℕ) (new : Option Files)
    → IsMade r told bytes → new ≡ put_file old file (Some bytes) → PutsNew old file r told new
puts_made old file r None bytes new made puts = (Some bytes, puts)
puts_made old file r (Some leg) bytes new made puts = puts ∙ ap (λ b. put_file old file (Some b)) made

-- bytes that are those of the new image were put under its name, or not
pub one_stored : {T : Type 0} (old : Option Files) (file : List ℕ) (r : WasRead) (told : Option (List Sector)) (bytes : List ℕ) (result : Result T UpgradeError) (new : Option Files)
    → IsMade r told bytes
    → MatchResult result (λ _. new ≡ put_file old file (Some bytes)) (λ _. OthersStay old file new)
    → OneStored old file r told result new
one_stored old file r told bytes (Ok u) new made puts = puts_made old file r told bytes new made puts
one_stored old file r told bytes (Err e) new made puts = puts

-- Ends.

pub put_end : (l : ℕ) (e : UpgradeError) → IsPutEnd l e → IsStoreEnd l e
put_end l (Old (errors.Memory e)) is = tt
put_end l (Old (errors.Device k)) is = absurd is
put_end l (Old (errors.Image k f)) is = absurd is
put_end l (Old (errors.Shelf k)) is = absurd is
put_end l (New k) is = is

pub put_failed : (l faults : ℕ) (e : UpgradeError) → IsPutEnd l e → LegFailed faults e
put_failed l faults (Old (errors.Memory e)) is = tt
put_failed l faults (Old (errors.Device k)) is = absurd is
put_failed l faults (Old (errors.Image k f)) is = absurd is
put_failed l faults (Old (errors.Shelf k)) is = absurd is
put_failed l faults (New k) is = tt

-- an end of a call, whose errors hold this, holds what follows from it
pub end_more : {T : Type 0} (r : Result T UpgradeError) (P Q : UpgradeError → Type 0) → ((e : UpgradeError) → P e → Q e) → IfErr r P → IfErr r Q
end_more (Ok t) P Q more is = tt
end_more (Err e) P Q more is = more e is

pub made_end : (l : ℕ) (end : LegEnd) → IsMakeEnd end → IsStoreEnd l (Old (made_error l end))
made_end l (Fault f) is = absurd is
made_end l Failed is = refl
made_end l (Memory e) is = tt

-- a leg whose new image wasn't made has failed where it is told
pub made_failed : {T : Type 0} (l before after : ℕ) (end : LegEnd) → IsMakeEnd end → HasCause {T = T} is_leg_failure before after (Err end)
    → LegFailed after (Old (made_error l end))
made_failed l before after (Fault f) is cause = absurd is
made_failed l before after Failed is cause = let r : Rose before after = cause.failed Failed refl refl in omega (arith, r)
made_failed l before after (Memory e) is cause = tt

fault_in : {T : Type 0} → Result T UpgradeError → Bool
fault_in (Ok t) = false
fault_in (Err e) = is_shelf_fault e

no_cause : {T : Type 0} (count : ℕ) (e : UpgradeError) → is_shelf_fault e ≡ false → HasCause {T = T} is_shelf_fault count count (Err e)
unfolding fault_in
no_cause {T} count e sound = record {
  later = omega arith;
  failed = λ d is fault. absurd (false≢true (sym sound ∙ ap (fault_in {T = T}) is ∙ fault));
}

no_fault : (l : ℕ) (end : LegEnd) → IsMakeEnd end → is_shelf_fault (Old (made_error l end)) ≡ false
no_fault l (Fault f) is = absurd is
no_fault l Failed is = refl
no_fault l (Memory e) is = refl

-- the shelf hasn't failed then
pub made_cause : {T : Type 0} (count l : ℕ) (end : LegEnd) → IsMakeEnd end → HasCause {T = T} is_shelf_fault count count (Err (Old (made_error l end)))
made_cause count l end is = no_cause count (Old (made_error l end)) (no_fault l end is)

-- Among all legs.

-- the leg that has failed is the one of this number
pub leg_has_failed : (l : ℕ) (faults : List ℕ) (e : UpgradeError) → IsStoreEnd l e → LegFailed (get_or faults l 0) e → HasFailed faults e
leg_has_failed l faults (Old (errors.Device k)) is some = subst (λ n. 0 < get_or faults n 0) (sym is) some
leg_has_failed l faults (Old (errors.Memory e)) is some = tt
leg_has_failed l faults (Old (errors.Image k f)) is some = absurd is
leg_has_failed l faults (Old (errors.Shelf k)) is some = absurd is
leg_has_failed l faults (New k) is some = tt

pub new_end : (l : ℕ) (e : UpgradeError) → l < 8 → IsStoreEnd l e → IsNewEnd e
new_end l (Old (errors.Device k)) lt is = subst (λ n. n < 8) (sym is) lt
new_end l (Old (errors.Memory e)) lt is = tt
new_end l (Old (errors.Image k f)) lt is = absurd is
new_end l (Old (errors.Shelf k)) lt is = absurd is
new_end l (New k) lt is = subst (λ n. n < 8) (sym is) lt

-- a fault of the shelf is handed on with its leg
pub new_cause : {T U : Type 0} (before now l : ℕ) (end : ShelfEnd) → end ≡ shelf_ends.Failed → HasCause {T = T} is_fault before now (Err end)
    → HasCause {T = U} is_shelf_fault before now (Err (New l))
new_cause before now l end is cause = record {
  later = cause.later;
  failed = λ e same fault. cause.failed end refl (ap is_fault is);
}

pub failed_at : {T : Type 0} (l n : ℕ) (faults : List ℕ) (r : Result T UpgradeError) → n ≡ get_or faults l 0 → IfErr r (IsStoreEnd l) → IfErr r (LegFailed n)
    → IfErr r (HasFailed faults)
failed_at l n faults (Ok t) is end failed = tt
failed_at l n faults (Err e) is end failed = leg_has_failed l faults e end (subst (λ k. LegFailed k e) is failed)

-- Errors that are handed on.

pub some_handed : {T : Type 0} (to : List ℕ) (images : List LegImage) (told : List (Option (List Sector))) (old new : Option Files) (r : Result T UpgradeError) (e : UpgradeError)
    → IsErrAnd r (λ x. x ≡ e) → StoredSome {T = T} to images told old (Err e) new → StoredSome to images told old r new
some_handed to images told old new (Ok t) e is some = absurd is
some_handed {T} to images told old new (Err x) e is some = subst (λ y. StoredSome {T = T} to images told old (Err y) new) (sym is) some

rose_later : (before mid now : ℕ) → before ≤ mid → Rose mid now → Rose before now
rose_later before mid now le r = omega (arith, r)

pub cause_handed : {T U : Type 0} (before mid now : ℕ) (r : Result T UpgradeError) (e : UpgradeError) → before ≤ mid → HasCause {T = U} is_shelf_fault mid now (Err e)
    → IsErrAnd r (λ x. x ≡ e) → HasCause is_shelf_fault before now r
unfolding fault_in
cause_handed before mid now (Ok t) e le cause is = absurd is
cause_handed {T} before mid now (Err x) e le cause is = record {
  later = let m : mid ≤ now = cause.later in omega (arith, le);
  failed = λ d same fault. rose_later before mid now le (cause.failed e refl (ap is_shelf_fault (sym is) ∙ ap (fault_in {T = T}) same ∙ fault));
}
