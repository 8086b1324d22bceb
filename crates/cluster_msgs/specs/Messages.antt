-- The grammar of messages: which values are messages, and the 64 bytes that spell each.
use Rattle.std.specs.Prelude.{◌≡◌, ℕ, ◌<◌, ◌≤◌, ◌^◌, true, length, List, [], ◌∷◌}
use Rattle.mdc_types.specs.Roles.{role_of, role_code, some_works}
use Rattle.mdc_types.specs.declared.roles.Roles.{Roles}
use Rattle.cluster_msgs.specs.declared.fields.Fields.{Fields}
use Rattle.cluster_msgs.specs.declared.msg.Body.{Body}
use Rattle.cluster_msgs.specs.declared.msg.Body.TheVariants.{Metadata, Resyncing, NewDisk, Remove, ReAdd, NeedsSync, Capacity}
use Rattle.cluster_msgs.specs.declared.msg.Msg.{Msg}
use Rattle.cluster_msgs.specs.Layout.{layout, no_fields}
use Rattle.cluster_msgs.specs.Ranges.{IsRange}

-- the numbers of the kinds are md-cluster's
abbrev pub kind_of : Body → ℕ
kind_of (Metadata events roles size) = 0
kind_of (Resyncing r) = 1
kind_of (NewDisk leg uuid) = 2
kind_of (Remove leg) = 3
kind_of (ReAdd leg) = 4
kind_of NeedsSync = 5
kind_of (Capacity events roles size) = 6

-- a state of the array that some leg can answer for
pub record IsState (events : ℕ) (roles : Roles) (size : ℕ) : Type 0 where
  pub number : (1 ≤ events) × (events ≤ 2 ^ 63)
  pub sectors : (1 ≤ size) × (size ≤ 131072)
  pub working : some_works (role_of roles) ≡ true

abbrev pub IsBody : Body → Type 0
IsBody (Metadata events roles size) = IsState events roles size
IsBody (Resyncing r) = IsRange r
IsBody (NewDisk leg uuid) = leg < 8
IsBody (Remove leg) = leg < 8
IsBody (ReAdd leg) = leg < 8
IsBody NeedsSync = Unit {0}
IsBody (Capacity events roles size) = IsState events roles size

-- the fields are in their ranges
pub record IsInRange (m : Msg) : Type 0 where
  pub slot : m.slot < 16
  pub body : IsBody m.body

-- eight roles
abbrev pub AreEight : Roles → Type 0
AreEight roles = length roles.legs ≡ 8

-- sixteen bytes
abbrev pub IsUuid : List ℕ → Type 0
IsUuid uuid = length uuid ≡ 16

-- arrays have the lengths of their types
abbrev pub HasArrays : Body → Type 0
HasArrays (Metadata events roles size) = AreEight roles
HasArrays (Resyncing r) = Unit {0}
HasArrays (NewDisk leg uuid) = IsUuid uuid
HasArrays (Remove leg) = Unit {0}
HasArrays (ReAdd leg) = Unit {0}
HasArrays NeedsSync = Unit {0}
HasArrays (Capacity events roles size) = AreEight roles

-- a value that is a message
pub record IsMsg (m : Msg) : Type 0 where
  pub ranges : IsInRange m
  pub arrays : HasArrays m.body

abbrev pub code_at : Roles → ℕ → ℕ
code_at roles l = role_code l (role_of roles l)

-- the numbers of the eight legs' roles
abbrev pub codes_of : Roles → List ℕ
codes_of roles = code_at roles 0 ∷ code_at roles 1 ∷ code_at roles 2 ∷ code_at roles 3 ∷ code_at roles 4 ∷ code_at roles 5 ∷ code_at roles 6 ∷ code_at roles 7 ∷ []

-- a field that a kind doesn't use is 0
abbrev pub fields_with : Body → Fields → Fields
fields_with (Metadata events roles size) f = record f { first = events; second = size; roles = codes_of roles }
fields_with (Resyncing r) f = record f { first = r.lo; second = r.hi }
fields_with (NewDisk leg uuid) f = record f { leg = leg; uuid = uuid }
fields_with (Remove leg) f = record f { leg = leg }
fields_with (ReAdd leg) f = record f { leg = leg }
fields_with NeedsSync f = f
fields_with (Capacity events roles size) f = record f { first = events; second = size; roles = codes_of roles }

abbrev pub fields_of : Msg → Fields
fields_of m = fields_with m.body (no_fields (kind_of m.body) m.slot)

-- the bytes that spell a message
unfoldable pub spelled : Msg → List ℕ
spelled m = layout (fields_of m)

-- the grammar: these bytes, and no others, are the message
pub record Spells (bytes : List ℕ) (m : Msg) : Type 0 where
  pub message : IsMsg m
  pub bytes_are : bytes ≡ spelled m

-- no two messages have one spelling
abbrev pub MessagesHaveOneSpelling : Type 0
MessagesHaveOneSpelling = (m n : Msg) → IsMsg m → IsMsg n → spelled m ≡ spelled n → m ≡ n
