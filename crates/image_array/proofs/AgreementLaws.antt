-- When legs go with each other, and what that means.
use Rattle.std.proofs.Common.{◌≡◌, ℕ, ◌<◌, ◌≤◌, ◌==◌, Bool, true, false, ◌&&◌, Option, Some, None, refl, ap, ◌∙◌, arith}
use Rattle.std.specs.Prelude.{is_none}
use Rattle.std.proofs.lemmas.Slice.Eq.{bytes_eq-Decides}
use Rattle.std.specs.Str.{bytes_eq}
use Rattle.std.proofs.lemmas.Bool.{eqb-true}
use Rattle.dlm_modes.specs.First.{first_such}
use Rattle.dlm_modes.specs.Guards.{unless}
use Rattle.dlm_modes.proofs.FirstLaws.{first_such_same, first_such_none}
use Rattle.md_superblock.specs.declared.superblock.Super.{Super}
use Rattle.image_faults.specs.declared.faults.ImageFault.TheVariants.{Geometry}
use Rattle.image_array.specs.Agreement.{agreement_fault, agrees_below, contradicts, is_of_array}

-- the judgement looks at the superblocks up to the leg's own alone
pub agreement-same : (f g : ℕ → Super) (l : ℕ) → ((k : ℕ) → k ≤ l → f k ≡ g k) → agreement_fault f l ≡ agreement_fault g l
agreement-same f g l same =
    let here : f l ≡ g l = same l (omega arith) in
    let first : f 0 ≡ g 0 = same 0 (omega arith) in
    let below : first_such (λ k. contradicts (f l) (f k)) 0 l ≡ first_such (λ k. contradicts (g l) (g k)) 0 l =
    first_such_same (λ k. contradicts (f l) (f k)) (λ k. contradicts (g l) (g k)) 0 l
    (λ k le lt. ap (λ s. contradicts s (f k)) here ∙ ap (contradicts (g l)) (same k (omega arith))) in
    ap (λ s. unless (is_of_array (f 0) l s && is_none (first_such (λ k. contradicts (f l) (f k)) 0 l)) Geometry) here
    ∙ ap (λ s. unless (is_of_array s l (g l) && is_none (first_such (λ k. contradicts (f l) (f k)) 0 l)) Geometry) first
    ∙ ap (λ r. unless (is_of_array (g 0) l (g l) && is_none r) Geometry) below

pub both : (a b : Bool) → (a && b) ≡ true → (a ≡ true) × (b ≡ true)
both true true e = (refl, refl)
both true false e = absurd (cc e)
both false b e = absurd (cc e)

passes : (a b : Bool) → unless (a && b) Geometry ≡ None → (a ≡ true) × (b ≡ true)
passes true true e = (refl, refl)
passes true false e = absurd (cc e)
passes false b e = absurd (cc e)

none_of : (r : Option ℕ) → is_none r ≡ true → r ≡ None
none_of None e = refl
none_of (Some k) e = absurd (cc e)

-- what two superblocks of one array share
pub record IsOfArray (first : Super) (l : ℕ) (s : Super) : Type 0 where
  pub legs : s.geometry_legs ≡ first.geometry_legs
  pub room : s.room ≡ first.room
  pub version : s.version ≡ first.version
  pub name : s.name ≡ first.name
  pub uuid : s.uuid ≡ first.uuid
  pub device : s.device ≡ l

pub shares : (first : Super) (l : ℕ) (s : Super) → is_of_array first l s ≡ true → IsOfArray first l s
shares first l s e =
    let five = both ((s.geometry_legs == first.geometry_legs) && (s.room == first.room) && (s.version == first.version) && bytes_eq s.name first.name && bytes_eq s.uuid first.uuid) (s.device == l) e in
    let four = both ((s.geometry_legs == first.geometry_legs) && (s.room == first.room) && (s.version == first.version) && bytes_eq s.name first.name) (bytes_eq s.uuid first.uuid) five.0 in
    let three = both ((s.geometry_legs == first.geometry_legs) && (s.room == first.room) && (s.version == first.version)) (bytes_eq s.name first.name) four.0 in
    let two = both ((s.geometry_legs == first.geometry_legs) && (s.room == first.room)) (s.version == first.version) three.0 in
    let one = both (s.geometry_legs == first.geometry_legs) (s.room == first.room) two.0 in
    record {
      legs = eqb-true s.geometry_legs first.geometry_legs one.0;
      room = eqb-true s.room first.room one.1;
      version = eqb-true s.version first.version two.1;
      name = (bytes_eq-Decides s.name first.name).0 three.1;
      uuid = (bytes_eq-Decides s.uuid first.uuid).0 four.1;
      device = eqb-true s.device l five.1;
    }

-- a leg without a fault is of leg 0's array
pub of_array : (super : ℕ → Super) (l : ℕ) → agreement_fault super l ≡ None → IsOfArray (super 0) l (super l)
of_array super l e = shares (super 0) l (super l) (passes (is_of_array (super 0) l (super l)) (agrees_below super l (super l)) e).0

-- and says nothing else than an earlier leg of the same events number
pub consistent : (super : ℕ → Super) (l k : ℕ) → agreement_fault super l ≡ None → k < l → contradicts (super l) (super k) ≡ false
consistent super l k e lt =
    let none = none_of (first_such (λ j. contradicts (super l) (super j)) 0 l) (passes (is_of_array (super 0) l (super l)) (agrees_below super l (super l)) e).1 in
    first_such_none (λ j. contradicts (super l) (super j)) 0 l none k (omega arith) (omega arith)
