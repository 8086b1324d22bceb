-- The state at an opening, by its members.
use Rattle.std.specs.Prelude.{ℕ, Bool, false, ◌&&◌, ◌==◌, nat_lt, if◌then◌else◌, Some, None}
use Rattle.dlm_modes.specs.declared.mode.Mode.{Mode}
use Rattle.dlm_modes.specs.declared.mode.Mode.TheVariants.{CR, PW}
use Rattle.mdc_types.specs.Roles.{role_of}
use Rattle.mdc_types.specs.Geometry.{pages_of, chunks_of}
use Rattle.mdc_types.specs.declared.roles.NodeState.TheVariants.{Up, Out}
use Rattle.dlm_space.specs.Locks.{Lock, new_lock}
use Rattle.msg_rounds.specs.Locks.{ack_res}
use Rattle.leg_failure.specs.Views.{new_view}
use Rattle.node_bitmaps.specs.Bitmap.{Bitmap, empty}
use Rattle.cluster_model.specs.State.{Core}
use Rattle.cluster_model.specs.Opening.{Origin, core_at}
use Rattle.cluster_model.specs.Changes.{no_new_dev, no_view}

-- members hold this mode
abbrev pub held_with : (ℕ → Bool) → Mode → Lock
held_with members mode = record new_lock { held = λ n. if members n then Some mode else None }

abbrev pub slot_with : (ℕ → Bool) → ℕ → Lock
slot_with members r = record new_lock {
  held = λ n. if (n == r) && members n then Some PW else None;
}

abbrev pub locks_with : (ℕ → Bool) → ℕ → Lock
locks_with members r =
    if r == ack_res then held_with members CR
    else if r == no_new_dev then held_with members CR
    else slot_with members r

-- as they stand once the members are in
abbrev pub bits_with : Origin → (ℕ → Bool) → ℕ → Bitmap
bits_with o members n = record empty {
  set = λ c. members n && o.warm && nat_lt c (chunks_of o.sizes);
  marks = λ c l. (members n && o.warm && nat_lt c (chunks_of o.sizes)) && nat_lt l o.sizes.legs;
  fresh = λ p l. members n && nat_lt p (pages_of o.sizes) && nat_lt l o.sizes.legs;
}

-- the state in which just these nodes came in so far
abbrev pub opened_with : Origin → (ℕ → Bool) → Core
opened_with o members = record (core_at o) {
  state = λ n. if members n then Up else Out;
  view = λ n.
      if members n then new_view (role_of o.roles) o.sizes.sectors (λ l. false) else no_view;
  locks = locks_with members;
  bitmap = bits_with o members;
}
