-- What becomes of a whole round at its sender: `finish`.
use Rattle.std.specs.Prelude.{ℕ, false, List, [], ◌∷◌, Option, Some, None}
use Rattle.dlm_modes.specs.Points.{with_at}
use Rattle.mdc_types.specs.declared.events.Wish.{Wish}
use Rattle.mdc_types.specs.declared.events.Wish.TheVariants as wishes
use Rattle.mdc_types.specs.declared.numbers.Range.{Range}
use Rattle.mdc_types.specs.declared.refusals.Refusal.{Refusal}
use Rattle.mdc_types.specs.declared.roles.NodeState.TheVariants as states
use Rattle.dlm_space.specs.Locks.{all_let_go}
use Rattle.msg_rounds.specs.Locks.{finished}
use Rattle.msg_rounds.specs.Refusals.{is_granted}
use Rattle.node_member.specs.Members.{left, completed_at}
use Rattle.leg_failure.specs.Views.{finished as finished_view}
use Rattle.suspend_ranges.specs.Suspended.{entry_of}
use Rattle.disk_addition.specs.Additions.{after}
use Rattle.disk_addition.specs.declared.addition.Addition.{Addition}
use Rattle.disk_addition.specs.declared.addition.Addition.TheVariants.{Again}
use Rattle.slot_gathering.specs.Gatherings.{Gathering, none_gathered}
use Rattle.cluster_model.specs.State.{Core, Adding, Offer}
use Rattle.cluster_model.specs.Guards.{of_live}
use Rattle.cluster_model.specs.Phases.{sender_is}
use Rattle.cluster_model.specs.Changes.{sender_idle, with_view, with_copy, node_out}

-- `finish n`: all have processed the message, and the round is whole

abbrev pub finish_guards : Core → ℕ → List (Option Refusal)
finish_guards core n = of_live core n (sender_is core n (is_granted (core.sender n)) ∷ [])

abbrev pub round_over : Core → ℕ → Core
round_over core n = record (sender_idle core n) { locks = finished core.locks n }

-- where the addition becomes again, nothing is gathered yet
abbrev pub gathering_after : Addition → Gathering → Gathering
gathering_after (Again l) g = none_gathered
gathering_after a g = g

abbrev pub adding_after : Adding → Wish → Adding
adding_after a wish = record {
  addition = after a.addition wish;
  gathering = gathering_after (after a.addition wish) a.gathering;
}

-- the proposed roles and size are the node's, and all know them; a loaded node is up
abbrev pub superblock_changed : Core → ℕ → Offer → Core
superblock_changed core n o =
    record (with_view core n (finished_view (core.view n) o.role o.size)) {
      state = with_at core.state n states.Up;
      members = completed_at core.members o.events;
      adding = with_at core.adding n (adding_after (core.adding n) o.wish);
    }

abbrev pub addition_changed : Core → ℕ → Wish → Core
addition_changed core n wish =
    record core { adding = with_at core.adding n (adding_after (core.adding n) wish) }

abbrev pub finish_wish : Core → ℕ → Offer → Wish → Core
finish_wish core n o (wishes.Range r) =
    with_copy core n (record (core.copy n) { window = entry_of r })
finish_wish core n o wishes.Unclean = record (node_out core n) {
  members = left core.members n false;
  locks = all_let_go core.locks n;
}
finish_wish core n o (wishes.NewDisk l) = addition_changed core n (wishes.NewDisk l)
finish_wish core n o (wishes.Remove l) = addition_changed core n (wishes.Remove l)
finish_wish core n o (wishes.ReAdd l) = addition_changed core n (wishes.ReAdd l)
finish_wish core n o wish = superblock_changed core n o

abbrev pub finish_offer : Core → ℕ → Option Offer → Core
finish_offer core n None = round_over core n
finish_offer core n (Some o) = finish_wish (round_over core n) n o o.wish

abbrev pub finish : Core → ℕ → Core
finish core n = finish_offer core n (core.offer n)
