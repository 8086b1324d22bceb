-- What spells a message is read as that message.
use Rattle.std.proofs.Common.{◌≡◌, ◌∙◌, sym, ap, length, ℕ, zero, suc, ◌^◌, ◌<◌, List, [], ◌∷◌, get_or, replicate, Some, refl, arith}
use Rattle.std.specs.Prelude.{slice_index}
use Rattle.mdc_types.specs.Roles.{role_of, role_code, role_of_code}
use Rattle.mdc_types.specs.declared.roles.Role.{Role}
use Rattle.mdc_types.specs.declared.roles.Role.TheVariants.{Working, Rebuilding, Faulty, Spare}
use Rattle.mdc_types.specs.declared.roles.Roles.{Roles}
use Rattle.mdc_types.proofs.RolesLaws.{role_of_code-code}
use Rattle.cluster_msgs.specs.declared.msg.Body.{Body}
use Rattle.cluster_msgs.specs.declared.msg.Body.TheVariants.{Metadata, Resyncing, NewDisk, Remove, ReAdd, NeedsSync, Capacity}
use Rattle.cluster_msgs.specs.declared.msg.Msg.{Msg}
use Rattle.cluster_msgs.specs.declared.fields.Fields.{Fields}
use Rattle.cluster_msgs.specs.Layout.{layout, no_fields}
use Rattle.cluster_msgs.specs.Messages.{kind_of, code_at, codes_of, fields_with, fields_of, spelled, AreEight, HasArrays, IsBody, IsMsg, Spells}
use Rattle.cluster_msgs.specs.Reading.{below, roles_of, state_of, metadata_of, capacity_of, resyncing_of, leg_of, body_of, msg_of}
use Rattle.cluster_msgs.proofs.Bytes.{AreFields, layout_once, below-lt, range_of-ends}

-- Fields have their sizes.

slice_index-zeros : (n k : ℕ) → slice_index (replicate n 0) k ≡ 0
slice_index-zeros zero k = refl
slice_index-zeros (suc n) zero = refl
slice_index-zeros (suc n) (suc k) = slice_index-zeros n k

role_code-lt : (l : ℕ) (r : Role) → l < 8 → role_code l r < 2 ^ 16
role_code-lt l Working lt = omega arith
role_code-lt l Rebuilding lt = omega arith
role_code-lt l Faulty lt = omega arith
role_code-lt l Spare lt = omega arith

codes-lt : (roles : Roles) (k : ℕ) → slice_index (codes_of roles) k < 2 ^ 16
codes-lt roles zero = role_code-lt 0 (role_of roles 0) (omega arith)
codes-lt roles (suc zero) = role_code-lt 1 (role_of roles 1) (omega arith)
codes-lt roles (suc (suc zero)) = role_code-lt 2 (role_of roles 2) (omega arith)
codes-lt roles (suc (suc (suc zero))) = role_code-lt 3 (role_of roles 3) (omega arith)
codes-lt roles (suc (suc (suc (suc zero)))) = role_code-lt 4 (role_of roles 4) (omega arith)
codes-lt roles (suc (suc (suc (suc (suc zero))))) = role_code-lt 5 (role_of roles 5) (omega arith)
codes-lt roles (suc (suc (suc (suc (suc (suc zero)))))) = role_code-lt 6 (role_of roles 6) (omega arith)
codes-lt roles (suc (suc (suc (suc (suc (suc (suc zero))))))) = role_code-lt 7 (role_of roles 7) (omega arith)
codes-lt roles (suc (suc (suc (suc (suc (suc (suc (suc k)))))))) = omega arith

zeros-lt : (k : ℕ) → slice_index (replicate 8 0) k < 2 ^ 16
zeros-lt k = omega (arith, slice_index-zeros 8 k)

are_fields : (slot : ℕ) (b : Body) → slot < 16 → IsBody b → HasArrays b → AreFields (fields_with b (no_fields (kind_of b) slot))
are_fields slot (Metadata events roles size) low is eight = record { kind = omega arith; slot = omega arith; first = omega (arith, is.number.1); second = omega (arith, is.sectors.1); leg = omega arith; uuid = refl; roles = refl; codes = codes-lt roles }
are_fields slot (Resyncing r) low is eight = record { kind = omega arith; slot = omega arith; first = grind (arith, is.hi, is.order, is.empty); second = omega (arith, is.hi); leg = omega arith; uuid = refl; roles = refl; codes = zeros-lt }
are_fields slot (NewDisk leg uuid) low is sixteen = record { kind = omega arith; slot = omega arith; first = omega arith; second = omega arith; leg = omega (arith, is); uuid = sixteen; roles = refl; codes = zeros-lt }
are_fields slot (Remove leg) low is none = record { kind = omega arith; slot = omega arith; first = omega arith; second = omega arith; leg = omega (arith, is); uuid = refl; roles = refl; codes = zeros-lt }
are_fields slot (ReAdd leg) low is none = record { kind = omega arith; slot = omega arith; first = omega arith; second = omega arith; leg = omega (arith, is); uuid = refl; roles = refl; codes = zeros-lt }
are_fields slot NeedsSync low is none = record { kind = omega arith; slot = omega arith; first = omega arith; second = omega arith; leg = omega arith; uuid = refl; roles = refl; codes = zeros-lt }
are_fields slot (Capacity events roles size) low is eight = record { kind = omega arith; slot = omega arith; first = omega (arith, is.number.1); second = omega (arith, is.sectors.1); leg = omega arith; uuid = refl; roles = refl; codes = codes-lt roles }

-- Fields stand for their message.

eight_items : (xs : List Role) → length xs ≡ 8 → get_or xs 0 Spare ∷ get_or xs 1 Spare ∷ get_or xs 2 Spare ∷ get_or xs 3 Spare ∷ get_or xs 4 Spare ∷ get_or xs 5 Spare ∷ get_or xs 6 Spare ∷ get_or xs 7 Spare ∷ [] ≡ xs
eight_items [] e = absurd (omega (arith, e))
eight_items (a ∷ []) e = absurd (omega (arith, e))
eight_items (a ∷ b ∷ []) e = absurd (omega (arith, e))
eight_items (a ∷ b ∷ c ∷ []) e = absurd (omega (arith, e))
eight_items (a ∷ b ∷ c ∷ d ∷ []) e = absurd (omega (arith, e))
eight_items (a ∷ b ∷ c ∷ d ∷ f ∷ []) e = absurd (omega (arith, e))
eight_items (a ∷ b ∷ c ∷ d ∷ f ∷ g ∷ []) e = absurd (omega (arith, e))
eight_items (a ∷ b ∷ c ∷ d ∷ f ∷ g ∷ h ∷ []) e = absurd (omega (arith, e))
eight_items (a ∷ b ∷ c ∷ d ∷ f ∷ g ∷ h ∷ i ∷ []) e = refl
eight_items (a ∷ b ∷ c ∷ d ∷ f ∷ g ∷ h ∷ i ∷ j ∷ xs) e = absurd (omega (arith, e))

code_again : (roles : Roles) (l : ℕ) → l < 8 → role_of_code l (code_at roles l) ≡ Some (role_of roles l)
code_again roles l lt = role_of_code-code l (role_of roles l) lt

roles_of-codes : (roles : Roles) → AreEight roles → roles_of (codes_of roles) ≡ Some roles
unfolding roles_of
roles_of-codes roles eight =
    rw (code_again roles 0 (omega arith), code_again roles 1 (omega arith), code_again roles 2 (omega arith), code_again roles 3 (omega arith), code_again roles 4 (omega arith), code_again roles 5 (omega arith), code_again roles 6 (omega arith), code_again roles 7 (omega arith)) (ap (λ legs. Some (record { legs = legs })) (eight_items roles.legs eight))

state_again : (f : Fields) (roles : Roles) (size : ℕ) → f.roles ≡ codes_of roles → f.second ≡ size → AreEight roles → size < 2 ^ 32 → state_of f ≡ Some (f.first, roles, size)
unfolding state_of
state_again f roles size codes same eight lt =
    let r : roles_of f.roles ≡ Some roles = ap roles_of codes ∙ roles_of-codes roles eight in
    let z : below (2 ^ 32) f.second ≡ Some size = ap (below (2 ^ 32)) same ∙ below-lt (2 ^ 32) size lt in
    rw (r, z) refl

body_of-fields : (slot : ℕ) (b : Body) → IsBody b → HasArrays b → body_of (fields_with b (no_fields (kind_of b) slot)) ≡ Some b
unfolding body_of metadata_of capacity_of resyncing_of leg_of
body_of-fields slot (Metadata events roles size) is eight = rw (state_again (fields_with (Metadata events roles size) (no_fields 0 slot)) roles size refl refl eight (omega (arith, is.sectors.1))) refl
body_of-fields slot (Resyncing r) is none = rw (range_of-ends r is) refl
body_of-fields slot (NewDisk leg uuid) is none = rw (below-lt (2 ^ 8) leg (omega (arith, is))) refl
body_of-fields slot (Remove leg) is none = rw (below-lt (2 ^ 8) leg (omega (arith, is))) refl
body_of-fields slot (ReAdd leg) is none = rw (below-lt (2 ^ 8) leg (omega (arith, is))) refl
body_of-fields slot NeedsSync is none = refl
body_of-fields slot (Capacity events roles size) is eight = rw (state_again (fields_with (Capacity events roles size) (no_fields 6 slot)) roles size refl refl eight (omega (arith, is.sectors.1))) refl

msg_with : (f : Fields) (slot : ℕ) (b : Body) → f.slot ≡ slot → slot < 16 → body_of f ≡ Some b → msg_of f ≡ Some (record { slot = slot; body = b })
unfolding msg_of
msg_with f slot b same low again =
    let e : below (2 ^ 8) f.slot ≡ Some slot = ap (below (2 ^ 8)) same ∙ below-lt (2 ^ 8) slot (omega (arith, low)) in
    rw (e, again) refl

slot_is : (slot : ℕ) (b : Body) → (fields_with b (no_fields (kind_of b) slot)).slot ≡ slot
slot_is slot (Metadata events roles size) = refl
slot_is slot (Resyncing r) = refl
slot_is slot (NewDisk leg uuid) = refl
slot_is slot (Remove leg) = refl
slot_is slot (ReAdd leg) = refl
slot_is slot NeedsSync = refl
slot_is slot (Capacity events roles size) = refl

msg_of-fields : (m : Msg) → IsMsg m → msg_of (fields_of m) ≡ Some m
msg_of-fields m is = msg_with (fields_of m) m.slot m.body (slot_is m.slot m.body) is.ranges.slot (body_of-fields m.slot m.body is.ranges.body is.arrays)

fits : (m : Msg) → IsMsg m → AreFields (fields_of m)
fits m is = are_fields m.slot m.body is.ranges.slot is.ranges.body is.arrays

-- the fields that are read of what spells a message are the message's
pub msg_of-spelled : (bytes : List ℕ) (f : Fields) (m : Msg) → ((g : Fields) → AreFields g → bytes ≡ layout g → f ≡ g) → Spells bytes m → msg_of f ≡ Some m
unfolding spelled
msg_of-spelled bytes f m reads is = ap msg_of (reads (fields_of m) (fits m is.message) is.bytes_are) ∙ msg_of-fields m is.message

-- two messages are spelled apart
pub spelled_once : (m n : Msg) → IsMsg m → IsMsg n → spelled m ≡ spelled n → m ≡ n
unfolding spelled
spelled_once m n is other e =
    let same : fields_of m ≡ fields_of n = layout_once (fields_of m) (fields_of n) (fits m is) (fits n other) e in
    let again : Some m ≡ Some n = sym (msg_of-fields m is) ∙ ap msg_of same ∙ msg_of-fields n other in
    cc
