-- Changes that are made one after another.
use Rattle.std.proofs.Common.{◌≡◌, ℕ, Bool, None, refl}
use Rattle.dlm_modes.specs.Points.{with_at}
use Rattle.mdc_types.specs.Roles.{is_rebuilding}
use Rattle.mdc_types.specs.declared.roles.NodeState.TheVariants.{Out}
use Rattle.leg_failure.specs.Views.{NodeView, fresh_targets}
use Rattle.node_bitmaps.specs.Bitmap.{with_new_legs, forgotten}
use Rattle.cluster_model.specs.State.{Core, Untried}
use Rattle.cluster_model.specs.Changes.{with_view, node_out, no_view, no_copy, not_adding}
use Rattle.world_state.specs.Changed.{covering_legs, ranges_dropped}

pub view_changed : (a b c d : Core) (n : ℕ) (w : NodeView) (fresh rebuilding : ℕ → Bool)
    → b ≡ record a { bitmap = with_at a.bitmap n (with_new_legs (a.bitmap n) fresh) }
    → c ≡ record b { copy = with_at b.copy n (covering_legs (b.copy n) rebuilding) }
    → d ≡ record c { view = with_at c.view n w }
    → fresh ≡ fresh_targets (a.view n) w → rebuilding ≡ (λ l. is_rebuilding (w.role l))
    → d ≡ with_view a n w
view_changed a b c d n w fresh rebuilding e f g h i = rw (g, f, e, h, i) refl

pub went_out : (a b c d e f : Core) (n : ℕ)
    → b ≡ record a { state = with_at a.state n Out }
    → c ≡ record b { view = with_at b.view n no_view; offer = with_at b.offer n None; heard = with_at b.heard n None; tried = with_at b.tried n (λ l. Untried) }
    → d ≡ record c { bitmap = with_at c.bitmap n (forgotten (c.bitmap n)) }
    → e ≡ record d { suspended = ranges_dropped d.suspended n }
    → f ≡ record e { copy = with_at e.copy n no_copy; recovery = with_at e.recovery n None; adding = with_at e.adding n not_adding }
    → f ≡ node_out a n
went_out a b c d e f n p q r s t = rw (t, s, r, q, p) refl
