-- The words on a list of calls, at an example, and at lists for which they are false.
use Rattle.std.proofs.Common.{◌≡◌, ℕ, List, [], ◌∷◌, true, false, Option, Some, None, unwrap_or, refl, ap, lit<}
use Rattle.dlm_modes.specs.First.{first_such}
use Rattle.dlm_modes.specs.declared.block.Block.{Block}
use Rattle.dlm_modes.specs.declared.mode.Mode.{Mode}
use Rattle.dlm_modes.specs.declared.mode.Mode.TheVariants.{NL, CR, CW, PW, EX}
use Rattle.dlm_space.specs.Queues.{ask_for}
use Rattle.dlm_space.specs.Locks.{zero_block}
use Rattle.dlm_space.specs.Calls.{Call, Asks, AsksNow, Converts, Grants, Releases, Dies, refusal, AreAccepted, locks_after}
use Rattle.dlm_space.specs.Sound.{held_in, block_in, valid_in, IsRight, LockSound}
use Rattle.dlm_space.specs.declared.answers.Converted.TheVariants.{Queued}
use Rattle.dlm_space.specs.declared.answers.Granted.{Granted}
use Rattle.dlm_space.specs.declared.answers.LockError.TheVariants.{NotGrantable}

abbrev gives : ℕ → Mode → Option Block → Granted
gives n mode value = record { node = n; mode = mode; value = value; valid = true }

-- two hold CR, and a third asks EX
abbrev asked : List Call
asked = Asks 2 18 EX ∷ Grants 18 (gives 1 CR (Some zero_block)) ∷ Asks 1 18 CR ∷ Grants 18 (gives 0 CR (Some zero_block)) ∷ Asks 0 18 CR ∷ []

-- they release, and it is served
abbrev served : List Call
served = Grants 18 (gives 2 EX (Some zero_block)) ∷ Releases 1 18 None ∷ Releases 0 18 None ∷ asked

are_accepted : AreAccepted served
unfolding first_such
are_accepted =
    ((((((((tt, record { node = lit< tt; accepted = refl; answers = tt }), record { node = tt; accepted = refl; answers = refl }), record { node = lit< tt; accepted = refl; answers = tt }), record { node = tt; accepted = refl; answers = refl }), record { node = lit< tt; accepted = refl; answers = tt }), record { node = lit< tt; accepted = refl; answers = tt }), record { node = lit< tt; accepted = refl; answers = tt }), record { node = tt; accepted = refl; answers = refl })

served_holds : held_in served 18 2 ≡ Some EX
served_holds = refl

served_left : held_in served 18 0 ≡ None
served_left = refl

-- the least of two in the way is named
first_in_way : refusal (locks_after asked) (Grants 18 (gives 2 EX (Some zero_block))) ≡ Some (NotGrantable 0 CR)
unfolding first_such
first_in_way = refl

then_the_next : refusal (locks_after (Releases 0 18 None ∷ asked)) (Grants 18 (gives 2 EX (Some zero_block))) ≡ Some (NotGrantable 1 CR)
unfolding first_such
then_the_next = refl

-- Lists that are not sound.

-- two hold EX
not_apart : LockSound (AsksNow 1 18 EX (Some zero_block) ∷ AsksNow 0 18 EX (Some zero_block) ∷ []) → ⊥
not_apart s = let e : false ≡ true = s.agree 18 0 1 EX EX (λ e. cc) refl refl in cc

-- a request is served before a conversion
abbrev both_wait : List Call
both_wait = Asks 2 18 CR ∷ Converts 0 18 EX None Queued ∷ AsksNow 0 18 CR (Some zero_block) ∷ []

not_in_order : IsRight (Grants 18 (gives 2 CR (Some zero_block))) both_wait → ⊥
not_in_order r = let e : EX ≡ CR = ap (λ o. (unwrap_or o (ask_for 0 NL)).mode) r.0 in cc

-- a conversion downwards from PW hands out no block
not_read : IsRight (Grants 18 (gives 0 PW (Some zero_block))) (Converts 0 18 PW None Queued ∷ AsksNow 0 18 EX (Some zero_block) ∷ []) → ⊥
not_read r = let e = r.1 in cc

-- the death of a holder of PW
abbrev dead : List Call
dead = Dies 0 ∷ AsksNow 0 18 PW (Some zero_block) ∷ []

is_invalid : valid_in dead 18 ≡ false
is_invalid = refl

not_valid : IsRight (AsksNow 1 18 CR (Some zero_block)) dead → ⊥
not_valid r = cc

-- a value written makes the block valid again
is_written : (value : Block) → valid_in (Releases 1 18 (Some value) ∷ AsksNow 1 18 EX None ∷ dead) 18 ≡ true
is_written value = refl

-- from CW no value is written
is_not_written : (value : Block) → block_in (Releases 1 18 (Some value) ∷ AsksNow 1 18 CW (Some zero_block) ∷ []) 18 ≡ zero_block
is_not_written value = refl
