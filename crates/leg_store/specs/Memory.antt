-- A leg in memory, and which of its transfers fail.
use Rattle.std.specs.Prelude.{ℕ, List, slice_set, Option, Some, None}
use Rattle.mdc_types.specs.declared.numbers.Sector.{Sector}
use Rattle.leg_store.specs.Plans.{Plan, entry_for, one_more}
use Rattle.leg_store.specs.declared.memory.Left.{Left}
use Rattle.leg_store.specs.declared.memory.Left.TheVariants.{Old, New}

pub record Memory : Type 0 where
  pub sectors : List Sector
  -- the numbers of transfers that fail, and what a write leaves then
  pub failing : List (ℕ × Left)
  -- how many there were
  pub transfers : ℕ
  pub faults : ℕ

-- it tells what it holds
abbrev pub told : Memory → Option (List Sector)
told leg = Some leg.sectors

-- whether the next transfer fails, and what it leaves
abbrev pub next_failure : Memory → Option Left
next_failure leg = entry_for leg.transfers leg.failing

-- what a leg in memory tells of its transfers
abbrev pub plan_of : Memory → Option Plan
plan_of leg = Some (record { failing = leg.failing; transfers = leg.transfers })

abbrev pub counted : Memory → Memory
counted leg = record leg { transfers = one_more leg.transfers }

abbrev pub failed : Memory → Memory
failed leg = record leg { transfers = one_more leg.transfers; faults = one_more leg.faults }

-- a read changes the counts alone
abbrev pub after_read : Option Left → Memory → Memory
after_read None leg = counted leg
after_read (Some left) leg = failed leg

abbrev pub with_sector : Memory → ℕ → Sector → Memory
with_sector leg at value = record leg { sectors = slice_set leg.sectors at value }

abbrev pub after_write : Option Left → Memory → ℕ → Sector → Memory
after_write None leg at value = with_sector (counted leg) at value
after_write (Some Old) leg at value = failed leg
after_write (Some New) leg at value = with_sector (failed leg) at value
