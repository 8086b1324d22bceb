-- What a node knows of its own lock, and what its calls make of it.
use Rattle.std.specs.Prelude.{if◌then◌else◌, Option, Some, None}
use Rattle.dlm_modes.specs.Modes.{weaker}
use Rattle.dlm_modes.specs.declared.mode.Mode.{Mode}
use Rattle.dlm_modes.specs.declared.mode.Mode.TheVariants.{CR, CW, PR}
use Rattle.dlm_space.specs.declared.answers.Converted.{Converted}
use Rattle.dlm_space.specs.declared.answers.Converted.TheVariants.{Now, Queued}
use Rattle.dlm_space.specs.declared.answers.LockError.TheVariants.{NotFree, NotHeld, AlreadyAsked}
use Rattle.mdc_types.specs.declared.refusals.Refusal.TheVariants as refusals
use Rattle.lock_wire.specs.declared.local.Local.{Local}
use Rattle.lock_wire.specs.declared.local.Local.TheVariants.{Free, Asking, Held, Converting}
use Rattle.lock_wire.specs.declared.ends.WireEnd.{WireEnd}
use Rattle.lock_wire.specs.declared.ends.WireEnd.TheVariants.{Refused, Lock}

-- the mode that is held: an ask holds nothing, a conversion that waits the mode from which it goes
abbrev pub mode_held : Local → Option Mode
mode_held Free = None
mode_held (Asking to) = None
mode_held (Held mode) = Some mode
mode_held (Converting from to) = Some from

-- what a conversion that waits still holds. Of CW and PR neither is weaker, and the master may have granted the one
-- before the node hears of it: so it counts on CR alone, which is weaker than both
abbrev pub kept : Mode → Mode → Mode
kept CW PR = CR
kept PR CW = CR
kept from to = from

-- a weaker mode is held at once, another is waited for
abbrev pub converting : Mode → Mode → Local
converting from to = if weaker from to then Held to else Converting (kept from to) to

abbrev pub converting_answer : Mode → Mode → Converted
converting_answer from to = if weaker from to then Now else Queued

-- Guards.

abbrev pub not_free : Local → Option WireEnd
not_free Free = None
not_free l = Some (Lock NotFree)

abbrev pub not_convertible : Local → Option WireEnd
not_convertible Free = Some (Lock NotHeld)
not_convertible (Asking to) = Some (Lock NotHeld)
not_convertible (Converting from to) = Some (Lock AlreadyAsked)
not_convertible (Held mode) = None

abbrev pub not_releasable : Local → Option WireEnd
not_releasable Free = Some (Lock NotHeld)
not_releasable (Asking to) = Some (Refused refusals.Waiting)
not_releasable (Converting from to) = Some (Refused refusals.Waiting)
not_releasable (Held mode) = None
