-- Roles of legs and states of nodes.
use Rattle.std.specs.Prelude.{ℕ, ◌+◌, ◌==◌, nat_lt, Bool, true, false, ◌&&◌, if◌then◌else◌, [], ◌∷◌, Option, Some, None, is_some, get_or}
use Rattle.dlm_modes.specs.First.{first_such}
use Rattle.mdc_types.specs.declared.roles.Role.{Role}
use Rattle.mdc_types.specs.declared.roles.Role.TheVariants.{Working, Rebuilding, Faulty, Spare}
use Rattle.mdc_types.specs.declared.roles.Roles.{Roles}
use Rattle.mdc_types.specs.declared.roles.NodeState.{NodeState}
use Rattle.mdc_types.specs.declared.roles.NodeState.TheVariants as states
use Rattle.mdc_types.specs.declared.refusals.Word.{Word}
use Rattle.mdc_types.specs.declared.refusals.Word.TheVariants as words

-- the role of a leg, which is a spare where there is none
abbrev pub role_of : Roles → ℕ → Role
role_of roles l = get_or roles.legs l Spare

abbrev pub is_working : Role → Bool
is_working Working = true
is_working r = false

abbrev pub is_rebuilding : Role → Bool
is_rebuilding Rebuilding = true
is_rebuilding r = false

abbrev pub is_faulty : Role → Bool
is_faulty Faulty = true
is_faulty r = false

abbrev pub is_spare : Role → Bool
is_spare Spare = true
is_spare r = false

-- the test of a role
abbrev pub is_role : Role → Role → Bool
is_role Working = is_working
is_role Rebuilding = is_rebuilding
is_role Faulty = is_faulty
is_role Spare = is_spare

-- whether a leg of this role is written
abbrev pub is_written : Role → Bool
is_written Working = true
is_written Rebuilding = true
is_written r = false

-- some leg works
abbrev pub some_works : (ℕ → Role) → Bool
some_works role = is_some (first_such (λ l. is_working (role l)) 0 8)

-- the roles of legs 0 to 7
abbrev pub eight : (ℕ → Role) → Roles
eight role = record { legs = role 0 ∷ role 1 ∷ role 2 ∷ role 3 ∷ role 4 ∷ role 5 ∷ role 6 ∷ role 7 ∷ [] }

-- the legs, of eight, whose roles pass the test
abbrev pub legs_with : (Role → Bool) → Roles → ℕ → Bool
legs_with test roles l = nat_lt l 8 && test (role_of roles l)

-- the number of a leg's role in a superblock and in a message. A working leg's is its own, and faulty and spare
-- are those of md's superblock 1.2; rebuilding is this project's
abbrev pub role_code : ℕ → Role → ℕ
role_code l Working = l
role_code l Rebuilding = 32768 + l
role_code l Faulty = 65534
role_code l Spare = 65535

-- the role of leg l that has the number
abbrev pub role_of_code : ℕ → ℕ → Option Role
role_of_code l code =
    if code == l then Some Working
    else if code == 32768 + l then Some Rebuilding
    else if code == 65534 then Some Faulty
    else if code == 65535 then Some Spare
    else None

-- the word of a state
abbrev pub state_word : NodeState → Word
state_word states.Out = words.Out
state_word states.Joining = words.Joining
state_word states.Loaded = words.Loaded
state_word states.Up = words.Up
