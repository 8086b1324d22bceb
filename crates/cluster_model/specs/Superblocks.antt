-- Superblocks are written: `sb`.
use Rattle.std.specs.Prelude.{ℕ, Bool, true, false, ◌&&◌, List, [], ◌∷◌, Option, Some, None}
use Rattle.std.specs.Prelude.{option_map}
use Rattle.dlm_modes.specs.Guards.{unless}
use Rattle.dlm_modes.specs.Points.{with_at}
use Rattle.mdc_types.specs.Roles.{eight, is_written}
use Rattle.mdc_types.specs.declared.numbers.Sector.{Sector}
use Rattle.mdc_types.specs.declared.refusals.Refusal.{Refusal}
use Rattle.mdc_types.specs.declared.refusals.Refusal.TheVariants.{NotTarget}
use Rattle.md_superblock.specs.Arrays.{Says, super_for, spelled}
use Rattle.msg_rounds.specs.Refusals.{is_offered}
use Rattle.cluster_model.specs.State.{Core, Offer}
use Rattle.cluster_model.specs.Guards.{of_live, no_leg}
use Rattle.cluster_model.specs.Phases.{is_metadata, offers, sender_is}

-- `sb n l`: the proposed superblock is written to the leg

abbrev pub proposes : Option Offer → ℕ → Bool
proposes None l = false
proposes (Some o) l = is_written (o.role l)

abbrev pub sb_guards : Core → ℕ → ℕ → List (Option Refusal)
sb_guards core n l = of_live core n (
    no_leg core l
    ∷ sender_is core n (is_offered (core.sender n) && offers is_metadata (core.offer n))
    ∷ unless (proposes (core.offer n) l) (NotTarget l)
    ∷ [])

-- what the proposed superblock says
abbrev pub says_of_offer : Offer → Says
says_of_offer o = record { events = o.events; roles = eight o.role; size = o.size }

abbrev pub super_sector : Core → ℕ → Offer → Sector
super_sector core l o = record { bytes = spelled (super_for core.array l (says_of_offer o)) }

abbrev pub written_on : ℕ → Offer → Offer
written_on l o = record o { written = with_at o.written l true }

abbrev pub super_written : Core → ℕ → ℕ → Core
super_written core n l =
    record core { offer = with_at core.offer n (option_map (written_on l) (core.offer n)) }
