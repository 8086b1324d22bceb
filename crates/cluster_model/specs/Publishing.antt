-- What an offer says is published to all: `publish`.
use Rattle.std.specs.Prelude.{ℕ, ◌==◌, not, ◌&&◌, List, [], ◌∷◌, Option, Some, None, if◌then◌else◌}
use Rattle.dlm_modes.specs.First.{first_such}
use Rattle.dlm_modes.specs.Points.{with_at}
use Rattle.dlm_modes.specs.declared.block.Block.{Block}
use Rattle.dlm_modes.specs.declared.mode.Mode.TheVariants.{PW}
use Rattle.mdc_types.specs.Names.{device_uuid}
use Rattle.mdc_types.specs.Roles.{eight, is_written}
use Rattle.mdc_types.specs.declared.events.Wish.{Wish}
use Rattle.mdc_types.specs.declared.events.Wish.TheVariants as wishes
use Rattle.mdc_types.specs.declared.numbers.Range.{Range}
use Rattle.mdc_types.specs.declared.refusals.Refusal.{Refusal}
use Rattle.mdc_types.specs.declared.refusals.Refusal.TheVariants.{NotWritten}
use Rattle.dlm_space.specs.Locks.{Lock, holding, with_value}
use Rattle.cluster_msgs.specs.Messages.{spelled}
use Rattle.cluster_msgs.specs.Ranges.{spelled_range}
use Rattle.cluster_msgs.specs.declared.msg.Body.{Body}
use Rattle.cluster_msgs.specs.declared.msg.Body.TheVariants as bodies
use Rattle.cluster_msgs.specs.declared.msg.Msg.{Msg}
use Rattle.msg_rounds.specs.Locks.{published}
use Rattle.msg_rounds.specs.Refusals.{is_offered}
use Rattle.msg_rounds.specs.declared.phases.SenderPhase.TheVariants as senders
use Rattle.suspend_ranges.specs.Suspended.{entry_of}
use Rattle.cluster_model.specs.State.{Core, Offer}
use Rattle.cluster_model.specs.Guards.{refused_by, of_live, draining, draining_in, reading}
use Rattle.cluster_model.specs.Phases.{sender_is}
use Rattle.cluster_model.specs.Changes.{sender_now, device_unlocked, with_copy, window_closed}

-- `publish n`: what the offer says is published, and the receivers are called

-- the least leg that the proposed roles want written and that doesn't have the proposed superblock
abbrev pub unwritten_leg : Offer → Option ℕ
unwritten_leg o = first_such (λ l. is_written (o.role l) && not (o.written l)) 0 8

abbrev pub wish_is_due : Core → ℕ → Offer → Wish → List (Option Refusal)
wish_is_due core n o (wishes.Range r) = draining_in core n r.lo r.hi ∷ []
wish_is_due core n o wishes.Unclean = draining core n ∷ reading core n ∷ []
wish_is_due core n o (wishes.NewDisk l) = []
wish_is_due core n o (wishes.Remove l) = []
wish_is_due core n o (wishes.ReAdd l) = []
wish_is_due core n o wish = refused_by NotWritten (unwritten_leg o) ∷ []

abbrev pub offer_is_due : Core → ℕ → Option Offer → List (Option Refusal)
offer_is_due core n None = []
offer_is_due core n (Some o) = wish_is_due core n o o.wish

abbrev pub publish_guards : Core → ℕ → List (Option Refusal)
publish_guards core n = of_live core n
    (sender_is core n (is_offered (core.sender n)) ∷ offer_is_due core n (core.offer n))

abbrev pub body_of : Core → Offer → Wish → Body
body_of core o (wishes.Range r) = bodies.Resyncing r
body_of core o (wishes.NewDisk l) = bodies.NewDisk l (device_uuid core.array.uuid l)
body_of core o (wishes.Remove l) = bodies.Remove l
body_of core o (wishes.ReAdd l) = bodies.ReAdd l
body_of core o wishes.Unclean = bodies.NeedsSync
body_of core o (wishes.Grow z) = bodies.Capacity o.events (eight o.role) o.size
body_of core o wish = bodies.Metadata o.events (eight o.role) o.size

abbrev pub message_of : Core → ℕ → Offer → Msg
message_of core n o = record { slot = n; body = body_of core o o.wish }

abbrev pub block_of : Core → ℕ → Offer → Block
block_of core n o = record { bytes = spelled (message_of core n o) }

-- the range stands in the block of the node's own bitmap lock, PW to PW
abbrev pub range_told : (ℕ → Lock) → ℕ → Range → ℕ → Lock
range_told locks n r =
    let block : Block = record { bytes = spelled_range r } in
    with_at locks n (holding (with_value (locks n) (Some block)) n PW)

-- a range closes the node's own window, and replaces its range in its own list
abbrev pub publish_wish : Core → ℕ → Wish → Core
publish_wish core n (wishes.Range r) = record (with_copy core n (window_closed (core.copy n))) {
  locks = range_told core.locks n r;
  suspended = λ m owner. if (m == n) && (owner == n) then entry_of r else core.suspended m owner;
}
publish_wish core n wish = core

abbrev pub publish_offer : Core → ℕ → Option Offer → Core
publish_offer core n None = core
publish_offer core n (Some o) = publish_wish
    (record (sender_now core n senders.Published) {
      locks = device_unlocked (published core.locks n (block_of core n o)) n;
    })
    n o.wish

abbrev pub publish : Core → ℕ → Core
publish core n = publish_offer core n (core.offer n)
