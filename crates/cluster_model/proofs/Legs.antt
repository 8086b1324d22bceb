-- Legs for tests of the words on states: what little stands on them.
use Rattle.std.proofs.Common.{◌≡◌, ◌==◌, ◌&&◌, ℕ, zero, suc, true, nat_lt, if◌then◌else◌, [], ◌∷◌, ◌++◌, replicate, length, refl, sym, ap, arith}
use Rattle.mdc_types.specs.Sectors.{zero_sector}
use Rattle.mdc_types.specs.declared.numbers.Sector.{Sector}
use Rattle.md_superblock.specs.Arrays.{Says, super_for, spelled}
use Rattle.plain_history.specs.History.{IsIn, here, there}
use Rattle.cluster_model.specs.State.{State, Core}
use Rattle.cluster_model.proofs.Small.{base}

-- two sectors that are no superblocks
abbrev pub old : Sector
old = zero_sector

abbrev pub new : Sector
new = record { bytes = 1 ∷ [] }

not_both : (n : ℕ) → n ≡ 512 → n ≡ 1 → ⊥
not_both n long short = omega arith

pub old_is_not_new : ¬ (old ≡ new)
old_is_not_new same = not_both (length new.bytes) (ap (λ (v : Sector). length v.bytes) (sym same)) refl

pub only_one : (a b : Sector) → IsIn a (b ∷ []) → a ≡ b
only_one a b here = refl
only_one a b (there more) = elim more [ ]

-- all legs tell what they have
abbrev pub with_legs : Core → (ℕ → ℕ → Sector) → State
with_legs core content = record { core = core; legs = record { told = λ l. true; content = content } }

-- each sector is old
abbrev pub all_old : ℕ → ℕ → Sector
all_old l at = old

-- a page with the bit of chunk 1 alone
abbrev pub marked_page : Sector
marked_page = record { bytes = replicate 256 0 ++ 2 ∷ replicate 255 0 }

-- legs below some number have that page in slot 0, and each sector else is old
abbrev pub marked_below : ℕ → ℕ → ℕ → Sector
marked_below legs l at = if (at == 16) && nat_lt l legs then marked_page else old

-- leg 0 has this superblock of the small array, and nothing else is written
abbrev pub super_on_first : Says → ℕ → ℕ → Sector
super_on_first says zero at = if at == 8 then record { bytes = spelled (super_for base.array 0 says) } else old
super_on_first says (suc l) at = old
