-- The names of the legs of an array differ, and a table of them tells which leg has a name.
use Rattle.std.proofs.Common.{◌≡◌, ℕ, zero, suc, ◌+◌, ◌<◌, Bool, true, false, ◌↔◌, List, length, get_or, Option, Some, None, refl, sym, ap, subst, ◌∙◌, arith, add-one, if◌then◌else◌, get_or-set_same}
use Rattle.std.specs.Str.{bytes_eq}
use Rattle.std.specs.Cmp.Lexicographic.{bytes_decides}
use Rattle.dlm_modes.specs.First.{first_such}
use Rattle.dlm_modes.proofs.FirstLaws.{first_such_some, first_such_none}
use Rattle.mdc_types.specs.Names.{device_uuid}
use Rattle.disk_addition.specs.Names.{Names, leg_named, IsNamed}

-- one more number that fails is not the first
pub first_such_before : (p : ℕ → Bool) (i n : ℕ) → p (i + n) ≡ false → first_such p i (suc n) ≡ first_such p i n
unfolding first_such
first_such_before p i zero fails = let here : p i ≡ false = subst (λ k. p k ≡ false) (omega arith) fails in rw here refl
first_such_before p i (suc n) fails =
    let later : p (i + 1 + n) ≡ false = subst (λ k. p k ≡ false) (omega arith) fails in
    ap (λ r. if p i then Some i else r) (first_such_before p (i + 1) n later)

first_such_before_one : (p : ℕ → Bool) (n : ℕ) → p n ≡ false → first_such p 0 (n + 1) ≡ first_such p 0 n
first_such_before_one p n fails = ap (first_such p 0) (add-one n) ∙ first_such_before p 0 n (subst (λ k. p k ≡ false) (omega arith) fails)

-- no leg, no name
pub leg_named-zero : (uuid name : List ℕ) → leg_named (record { uuid = uuid; legs = 0 }) name ≡ None
unfolding first_such
leg_named-zero uuid name = refl

last_byte : (uuid : List ℕ) (l : ℕ) → 15 < length uuid → get_or (device_uuid uuid l) 15 0 ≡ l
last_byte uuid l long = rw get_or-set_same refl

-- two legs don't have one name
pub names_apart : (uuid : List ℕ) (k l : ℕ) → 15 < length uuid → device_uuid uuid k ≡ device_uuid uuid l → k ≡ l
names_apart uuid k l long same = sym (last_byte uuid k long) ∙ ap (λ name. get_or name 15 0) same ∙ last_byte uuid l long

-- the leg of a name is the one that has it
pub leg_named-exact : (a : Names) (name : List ℕ) (l : ℕ) → 15 < length a.uuid → (leg_named a name ≡ Some l) ↔ IsNamed a name l
leg_named-exact a name l long = (to, from)
  where
    to : leg_named a name ≡ Some l → IsNamed a name l
    to is = let first = first_such_some (λ k. bytes_eq (device_uuid a.uuid k) name) 0 a.legs l is in (omega arith, sym ((bytes_decides (device_uuid a.uuid l) name).0 first.passes))

    passes : IsNamed a name l → bytes_eq (device_uuid a.uuid l) name ≡ true
    passes named = (bytes_decides (device_uuid a.uuid l) name).1 (sym named.1)

    found : IsNamed a name l → (r : Option ℕ) → leg_named a name ≡ r → r ≡ Some l
    found named None is = let no = first_such_none (λ k. bytes_eq (device_uuid a.uuid k) name) 0 a.legs is l (omega arith) (omega arith) in let yes = passes named in cc
    found named (Some k) is =
        let first = first_such_some (λ k. bytes_eq (device_uuid a.uuid k) name) 0 a.legs k is in
        ap Some (names_apart a.uuid k l long ((bytes_decides (device_uuid a.uuid k) name).0 first.passes ∙ named.1))

    from : IsNamed a name l → leg_named a name ≡ Some l
    from named = found named (leg_named a name) refl

-- the table with one leg more
pub one_more : (uuid name : List ℕ) (l : ℕ) (was now : Option ℕ) → 15 < length uuid → was ≡ leg_named (record { uuid = uuid; legs = l }) name → now ≡ (if bytes_eq (device_uuid uuid l) name then Some l else was) → now ≡ leg_named (record { uuid = uuid; legs = l + 1 }) name
one_more uuid name l was now long old new = new ∙ by (bytes_eq (device_uuid uuid l) name) refl
  where
    by : (b : Bool) → bytes_eq (device_uuid uuid l) name ≡ b → (if b then Some l else was) ≡ leg_named (record { uuid = uuid; legs = l + 1 }) name
    by true is = sym ((leg_named-exact (record { uuid = uuid; legs = l + 1 }) name l long).1 (omega arith, sym ((bytes_decides (device_uuid uuid l) name).0 is)))
    by false isnt = old ∙ sym (first_such_before_one (λ k. bytes_eq (device_uuid uuid k) name) l isnt)
