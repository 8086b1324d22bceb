-- What a block of bytes says: the range, or the message, that it spells, or none.
use Rattle.std.specs.Prelude.{◌≡◌, ◌↔◌, ℕ, ◌+◌, ◌*◌, ◌^◌, ◌==◌, nat_lt, nat_le, if◌then◌else◌, Bool, true, ◌&&◌, ◌||◌, slice_index, slice_range, length, map, List, [], ◌∷◌, Option, Some, None, option_and_then}
use Rattle.std.specs.List.{range_with_len}
use Rattle.std.specs.Str.{bytes_eq}
use Rattle.byteorder.specs.Endian.{little_from}
use Rattle.mdc_types.specs.Roles.{role_of, role_of_code, some_works}
use Rattle.mdc_types.specs.declared.numbers.Range.{Range}
use Rattle.mdc_types.specs.declared.roles.Roles.{Roles}
use Rattle.cluster_msgs.specs.declared.fields.Fields.{Fields}
use Rattle.cluster_msgs.specs.declared.msg.Body.{Body}
use Rattle.cluster_msgs.specs.declared.msg.Body.TheVariants.{Metadata, Resyncing, NewDisk, Remove, ReAdd, NeedsSync, Capacity}
use Rattle.cluster_msgs.specs.declared.msg.Msg.{Msg}
use Rattle.cluster_msgs.specs.Messages.{spelled, Spells}
use Rattle.cluster_msgs.specs.Ranges.{spelled_range, SpellsRange}

infixl 10 ◌>>=◌
abbrev pub ◌>>=◌ : {A B : Type 0} → Option A → (A → Option B) → Option B
o >>= f = option_and_then f o

-- the number, where it is below the bound
abbrev pub below : ℕ → ℕ → Option ℕ
below bound n = if nat_lt n bound then Some n else None

-- the eight roles that have these numbers
unfoldable pub roles_of : List ℕ → Option Roles
roles_of codes = do
  a ← role_of_code 0 (slice_index codes 0)
  b ← role_of_code 1 (slice_index codes 1)
  c ← role_of_code 2 (slice_index codes 2)
  d ← role_of_code 3 (slice_index codes 3)
  e ← role_of_code 4 (slice_index codes 4)
  f ← role_of_code 5 (slice_index codes 5)
  g ← role_of_code 6 (slice_index codes 6)
  h ← role_of_code 7 (slice_index codes 7)
  Some (record { legs = a ∷ b ∷ c ∷ d ∷ e ∷ f ∷ g ∷ h ∷ [] })

-- events, roles and size
unfoldable pub state_of : Fields → Option (ℕ × Roles × ℕ)
state_of f = do
  roles ← roles_of f.roles
  size ← below (2 ^ 32) f.second
  Some (f.first, roles, size)

unfoldable pub metadata_of : Fields → Option Body
metadata_of f = do
  state ← state_of f
  Some (Metadata state.0 state.1 state.2)

unfoldable pub capacity_of : Fields → Option Body
capacity_of f = do
  state ← state_of f
  Some (Capacity state.0 state.1 state.2)

-- the range with these ends
unfoldable pub range_of : ℕ → ℕ → Option Range
range_of lo hi = do
  l ← below (2 ^ 32) lo
  h ← below (2 ^ 32) hi
  Some (record { lo = l; hi = h })

unfoldable pub resyncing_of : ℕ → ℕ → Option Body
resyncing_of lo hi = do
  r ← range_of lo hi
  Some (Resyncing r)

unfoldable pub leg_of : ℕ → (ℕ → Body) → Option Body
leg_of leg body = do
  l ← below (2 ^ 8) leg
  Some (body l)

-- by kind
unfoldable pub body_of : Fields → Option Body
body_of f =
    if f.kind == 0 then metadata_of f
    else if f.kind == 1 then resyncing_of f.first f.second
    else if f.kind == 2 then leg_of f.leg (λ l. NewDisk l f.uuid)
    else if f.kind == 3 then leg_of f.leg Remove
    else if f.kind == 4 then leg_of f.leg ReAdd
    else if f.kind == 5 then Some NeedsSync
    else if f.kind == 6 then capacity_of f
    else None

unfoldable pub msg_of : Fields → Option Msg
msg_of f = do
  slot ← below (2 ^ 8) f.slot
  body ← body_of f
  Some (record { slot = slot; body = body })

-- the fields, each by its place
unfoldable pub fields_in : List ℕ → Fields
fields_in bytes =
    record {
      kind = little_from 0 4 bytes;
      slot = little_from 4 4 bytes;
      first = little_from 8 8 bytes;
      second = little_from 16 8 bytes;
      leg = little_from 24 4 bytes;
      uuid = slice_range bytes 32 48;
      roles = map (λ l. little_from (48 + 2 * l) 2 bytes) (range_with_len 0 8);
    }

-- the value, where it passes the test
abbrev pub where_true : {A : Type 0} → (A → Bool) → Option A → Option A
where_true test o = option_and_then (λ a. if test a then Some a else None) o

-- lo < hi <= 131072, or the empty range
abbrev pub is_range : Range → Bool
is_range r = (nat_lt r.lo r.hi && nat_le r.hi 131072) || ((r.lo == 0) && (r.hi == 0))

-- the range that the block spells
unfoldable pub range_in : List ℕ → Option Range
range_in bytes =
    where_true (λ r. is_range r && bytes_eq bytes (spelled_range r))
    (range_of (little_from 0 8 bytes) (little_from 8 8 bytes))

abbrev pub is_within : ℕ → ℕ → ℕ → Bool
is_within least most n = nat_le least n && nat_le n most

-- eight roles, one of which works, and events and size in their ranges
abbrev pub is_state : ℕ → Roles → ℕ → Bool
is_state events roles size =
    is_within 1 (2 ^ 63) events && is_within 1 131072 size
    && some_works (role_of roles) && (length roles.legs == 8)

abbrev pub is_body : Body → Bool
is_body (Metadata events roles size) = is_state events roles size
is_body (Resyncing r) = is_range r
is_body (NewDisk leg uuid) = nat_lt leg 8 && (length uuid == 16)
is_body (Remove leg) = nat_lt leg 8
is_body (ReAdd leg) = nat_lt leg 8
is_body NeedsSync = true
is_body (Capacity events roles size) = is_state events roles size

-- the value is a message
abbrev pub is_message : Msg → Bool
is_message m = nat_lt m.slot 16 && is_body m.body

-- the message that the block spells
unfoldable pub message_in : List ℕ → Option Msg
message_in bytes =
    where_true (λ m. is_message m && bytes_eq bytes (spelled m)) (msg_of (fields_in bytes))

-- the bytes say a message exactly where they spell it
abbrev pub SaysWhatIsSpelled : Type 0
SaysWhatIsSpelled = (bytes : List ℕ) (m : Msg) → (message_in bytes ≡ Some m) ↔ Spells bytes m

-- and a range
abbrev pub SaysTheRange : Type 0
SaysTheRange = (bytes : List ℕ) (r : Range) → (range_in bytes ≡ Some r) ↔ SpellsRange bytes r
