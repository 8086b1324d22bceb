-- The members of a cluster: who is live, whose bitmap slot waits for its recovery, and the events numbers.
-- For each call: what refuses it, and what becomes of the record.
use Rattle.std.specs.Prelude.{ℕ, nat_le, Bool, true, false, not, ◌&&◌, ◌+◌, [], ◌∷◌, Option, Some, None, is_none}
use Rattle.dlm_modes.specs.First.{first_such}
use Rattle.dlm_modes.specs.Guards.{unless, or_then, first_of}
use Rattle.dlm_modes.specs.Points.{with_at}
use Rattle.mdc_types.specs.Bits.{has_bit}
use Rattle.node_member.specs.declared.error.MemberError.{MemberError}
use Rattle.node_member.specs.declared.error.MemberError.TheVariants.{Fenced, NotUp, SlotLive, SlotPending, NotPending, HeirPending, Stale}

pub record Members : Type 0 where
  pub live : ℕ → Bool
  -- the node's slot waits for its recovery
  pub pending : ℕ → Bool
  pub dead : ℕ → Bool
  -- the node that began the slot's recovery last
  pub heir : ℕ → Option ℕ
  -- the greatest events number that was drawn, and the last that was completed
  pub drawn : ℕ
  pub completed : ℕ

-- of two sets of nodes: nobody is dead, and no slot has an heir
abbrev pub new_members : ℕ → ℕ → ℕ → Members
new_members live pending events = record {
  live = has_bit live;
  pending = has_bit pending;
  dead = λ n. false;
  heir = λ d. None;
  drawn = events;
  completed = events;
}

-- the node died, and its slot isn't recovered yet
abbrev pub fenced : Members → ℕ → Bool
fenced m n = m.dead n && m.pending n

-- Guards.

abbrev pub join_refusal : Members → ℕ → Option MemberError
join_refusal m n = first_of (unless (not (fenced m n)) (Fenced n) ∷ unless (not (m.live n)) (SlotLive n) ∷ unless (not (m.pending n)) (SlotPending n) ∷ [])

abbrev pub die_refusal : Members → ℕ → Option MemberError
die_refusal m n = or_then (unless (not (fenced m n)) (Fenced n)) (unless (m.live n) (NotUp n))

-- a recovery that the heir left open goes to whom the heir's own slot goes
abbrev pub heir_refusal : Members → Option ℕ → Option MemberError
heir_refusal m None = None
heir_refusal m (Some h) = unless (not (m.pending h)) (HeirPending h)

abbrev pub begin_refusal : Members → ℕ → Option MemberError
begin_refusal m d = or_then (unless (m.pending d) (NotPending d)) (heir_refusal m (m.heir d))

-- what was read is no older than the last completed number
abbrev pub fresh_refusal : Members → ℕ → Option MemberError
fresh_refusal m read = unless (nat_le m.completed read) (Stale read m.completed)

-- Look-ups.

-- the least of the sixteen slots that is pending
abbrev pub first_pending : Members → Option ℕ
first_pending m = first_such m.pending 0 16

-- the least whose recovery may begin
abbrev pub first_to_begin : Members → Option ℕ
first_to_begin m = first_such (λ d. is_none (begin_refusal m d)) 0 16

-- Effects.

abbrev pub joined : Members → ℕ → Members
joined m n = record m { live = with_at m.live n true }

-- the slot is pending exactly where the node leaves unclean
abbrev pub left : Members → ℕ → Bool → Members
left m n clean = record m { live = with_at m.live n false; pending = with_at m.pending n (not clean) }

abbrev pub died : Members → ℕ → Members
died m n = record m { live = with_at m.live n false; pending = with_at m.pending n true; dead = with_at m.dead n true }

-- n begins the recovery of slot d
abbrev pub begun : Members → ℕ → ℕ → Members
begun m n d = record m { heir = with_at m.heir d (Some n) }

-- the recovery of slot d has ended
abbrev pub ended : Members → ℕ → Members
ended m d = record m { pending = with_at m.pending d false; dead = with_at m.dead d false; heir = with_at m.heir d None }

abbrev pub drawn_one : Members → Members
drawn_one m = record m { drawn = m.drawn + 1 }

abbrev pub completed_at : Members → ℕ → Members
completed_at m events = record m { completed = events }
