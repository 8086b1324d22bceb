-- What a record keeps, as plain data, and the members that it stands for.
use Rattle.std.specs.Prelude.{ℕ, ◌<◌, slice_index_or, List, Option, None, IfSome}
use Rattle.mdc_types.specs.Bits.{has_bit}
use Rattle.node_member.specs.Members.{Members}

pub record Parts : Type 0 where
  -- sets of nodes, one bit each
  pub live : ℕ
  pub pending : ℕ
  pub dead : ℕ
  -- by slot
  pub heirs : List (Option ℕ)
  pub drawn : ℕ
  pub completed : ℕ

abbrev pub members_of : Parts → Members
members_of p = record {
  live = has_bit p.live;
  pending = has_bit p.pending;
  dead = has_bit p.dead;
  heir = λ d. slice_index_or p.heirs d None;
  drawn = p.drawn;
  completed = p.completed;
}

-- each heir is one of sixteen nodes
abbrev pub AreHeirs : List (Option ℕ) → Type 0
AreHeirs heirs = (d : ℕ) → IfSome (slice_index_or heirs d None) (λ h. h < 16)
