-- A node's view of the legs: their roles, which of them it lost, and how large it takes the array to be.
use Rattle.std.specs.Prelude.{ℕ, ◌==◌, Bool, true, not, ◌&&◌, ◌||◌, if◌then◌else◌, Option, is_none}
use Rattle.dlm_modes.specs.First.{first_such}
use Rattle.dlm_modes.specs.Points.{with_at}
use Rattle.mdc_types.specs.Bits.{has_bit}
use Rattle.mdc_types.specs.Roles.{role_of, is_working, is_written}
use Rattle.mdc_types.specs.declared.roles.Role.{Role}
use Rattle.mdc_types.specs.declared.roles.Roles.{Roles}
use Rattle.leg_failure.specs.Sets.{is_same, given_up}

pub record NodeView : Type 0 where
  -- by leg: the role that the node took last, and the one of the last round that it knows as whole
  pub role : ℕ → Role
  pub sure_role : ℕ → Role
  -- by leg: whether the node lost it since
  pub lost : ℕ → Bool
  -- in sectors: the size that the node took last, and that of the last round that it knows as whole
  pub size : ℕ
  pub sure_size : ℕ

-- what a node keeps, as plain data; leg l is lost where bit l is set
pub record Parts : Type 0 where
  pub roles : Roles
  pub sure : Roles
  pub lost : ℕ
  pub size : ℕ
  pub sure_size : ℕ

-- the view that it stands for
abbrev pub view_of : Parts → NodeView
view_of p = record {
  role = role_of p.roles;
  sure_role = role_of p.sure;
  lost = has_bit p.lost;
  size = p.size;
  sure_size = p.sure_size;
}

-- The legs of a view.

-- the node reads from the leg
abbrev pub works : NodeView → ℕ → Bool
works v l = is_working (v.role l) && not (v.lost l)

-- the node writes to the leg
abbrev pub is_target : NodeView → ℕ → Bool
is_target v l = is_written (v.role l) && not (v.lost l)

-- the others don't know yet what became of the leg
abbrev pub is_unacked : NodeView → ℕ → Bool
is_unacked v l = v.lost l || not (is_same (v.role l) (v.sure_role l))

-- another leg that works
abbrev pub other_leg : NodeView → ℕ → Option ℕ
other_leg v l = first_such (λ j. works v j && not (j == l)) 0 8

-- the leg works, and no other does
abbrev pub is_last : NodeView → ℕ → Bool
is_last v l = works v l && is_none (other_leg v l)

-- the least leg that works, that is lost, and that is unacked
abbrev pub working_leg : NodeView → Option ℕ
working_leg v = first_such (works v) 0 8

abbrev pub lost_leg : NodeView → Option ℕ
lost_leg v = first_such v.lost 0 8

abbrev pub unacked_leg : NodeView → Option ℕ
unacked_leg v = first_such (is_unacked v) 0 8

-- the role that the node proposes for the leg, and all of them
abbrev pub proposed_role : NodeView → ℕ → Role
proposed_role v l = if v.lost l then given_up (v.role l) else v.role l

abbrev pub proposed : NodeView → ℕ → Role
proposed v = proposed_role v

-- the legs that became targets when the first view became the second
abbrev pub fresh_targets : NodeView → NodeView → ℕ → Bool
fresh_targets v w l = is_target w l && not (is_target v l)

-- What becomes of a view.

-- all nodes know these roles and this size, and the node lost some legs
abbrev pub new_view : (ℕ → Role) → ℕ → (ℕ → Bool) → NodeView
new_view r size lost = record { role = r; sure_role = r; lost = lost; size = size; sure_size = size }

-- the node lost the leg
abbrev pub lost_one : NodeView → ℕ → NodeView
lost_one v l = record v { lost = with_at v.lost l true }

-- a leg that was lost stays so where the roles r want it written
abbrev pub stays_lost : NodeView → (ℕ → Role) → ℕ → Bool
stays_lost v r l = v.lost l && is_written (r l)

-- a leg that works by the roles r and isn't lost
abbrev pub left_leg : NodeView → (ℕ → Role) → Option ℕ
left_leg v r = first_such (λ l. is_working (r l) && not (v.lost l)) 0 8

-- the node takes roles and a size; where it lost all legs that work by these roles, it has them back
abbrev pub taken : NodeView → (ℕ → Role) → ℕ → NodeView
taken v r size = record v {
  role = r;
  lost = λ l. stays_lost v r l && not (is_none (left_leg v r) && is_working (r l));
  size = size;
}

-- the node knows the last round as whole
abbrev pub acknowledged : NodeView → NodeView
acknowledged v = record v { sure_role = v.role; sure_size = v.size }

-- the node's own round with these roles and this size is whole
abbrev pub finished : NodeView → (ℕ → Role) → ℕ → NodeView
finished v r size = new_view r size (stays_lost v r)
