-- Reads of a node: `r`, `in`.
use Rattle.std.specs.Prelude.{ℕ, ◌+◌, length, Bool, ◌||◌, if◌then◌else◌, is_some, List, [], ◌∷◌}
use Rattle.std.specs.Prelude.{◌++◌, Option, Some, None, unwrap_or}
use Rattle.dlm_modes.specs.Points.{with_at}
use Rattle.mdc_types.specs.declared.refusals.Refusal.{Refusal}
use Rattle.mdc_types.specs.declared.refusals.Refusal.TheVariants.{NoRead}
use Rattle.node_member.specs.Members.{first_pending}
use Rattle.leg_failure.specs.Views.{works}
use Rattle.read_balance.specs.Choice.{chosen_leg, least_leg, nearest_leg}
use Rattle.mirror_io.specs.Flight.{read_in, without_read, new_read}
use Rattle.mirror_io.specs.declared.live.LiveRead.{LiveRead}
use Rattle.suspend_ranges.specs.Suspended.{covering}
use Rattle.cluster_model.specs.State.{Core}
use Rattle.cluster_model.specs.Guards.{found_or, of_live}
use Rattle.cluster_model.specs.Phases.{needs_up}
use Rattle.cluster_model.specs.Changes.{headed}
use Rattle.cluster_model.specs.Writes.{not_leaving, no_sector, full}

-- `r n s`

abbrev pub r_guards : Core → ℕ → ℕ → List (Option Refusal)
r_guards core n s = of_live core n
    (needs_up core n ∷ not_leaving core n ∷ no_sector core n s ∷ full n (length (core.reads n))
    ∷ [])

-- while the sector is suspended or a slot is pending all nodes read the first working leg
abbrev pub reads_first : Core → ℕ → ℕ → Bool
reads_first core n s =
    is_some (covering (core.suspended n) s) || is_some (first_pending core.members)

abbrev pub given_leg : Core → ℕ → ℕ → ℕ
given_leg core n s =
    unwrap_or (chosen_leg (works (core.view n)) (core.head n) s (reads_first core n s)) 0

abbrev pub ask_read : Core → ℕ → ℕ → Core
ask_read core n s = record core {
  reads =
      with_at core.reads n (core.reads n ++ new_read (core.reads_made n) s (given_leg core n s)
      ∷ []);
  reads_made = with_at core.reads_made n (core.reads_made n + 1);
}

-- `in n k`

abbrev pub in_guards : Core → ℕ → ℕ → List (Option Refusal)
in_guards core n k =
    of_live core n (needs_up core n ∷ found_or (read_in k (core.reads n)) (NoRead k) ∷ [])

-- the leg that the read was given, while it works; else the nearest one
abbrev pub read_leg : Core → ℕ → LiveRead → Option ℕ
read_leg core n r =
    if reads_first core n r.sector then least_leg (works (core.view n))
    else if works (core.view n) r.chosen then Some r.chosen
    else nearest_leg (works (core.view n)) (core.head n) r.sector

abbrev pub end_read : Core → ℕ → ℕ → Core
end_read core n k = record core { reads = with_at core.reads n (without_read k (core.reads n)) }

abbrev pub read_sector : Option LiveRead → Option ℕ
read_sector None = None
read_sector (Some r) = Some r.sector

-- the leg gave a value
abbrev pub in_done : Core → ℕ → ℕ → ℕ → Core
in_done core n k l = headed (end_read core n k) n l (read_sector (read_in k (core.reads n)))
