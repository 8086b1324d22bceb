-- The superblocks that stand on the legs at an opening.
use Rattle.std.proofs.Common.{◌≡◌, inl, inr, ℕ, ◌<◌, ◌≤◌, ◌+◌, ◌&&◌, Bool, true, false, if◌then◌else◌, length, List, Option, Some, None, refl, ap, subst, ◌∙◌, arith}
use Rattle.std.specs.Prelude.{nat_lt, option_and_then}
use Rattle.std.proofs.lemmas.Bool.Decides.{nat_tests}
use Rattle.std.proofs.lemmas.Nat.Bits.{bit_at-zero}
use Rattle.mdc_types.specs.Bits.{has_bit}
use Rattle.mdc_types.specs.Geometry.{nodes_of, data_offset_of}
use Rattle.mdc_types.specs.declared.numbers.Sector.{Sector}
use Rattle.md_superblock.specs.Superblock.{IsSuper}
use Rattle.md_superblock.specs.Arrays.{Array, Says, super_for, says_in, super_in, is_of, says_of as said_of, version_of}
use Rattle.md_superblock.specs.declared.superblock.Super.{Super}
use Rattle.md_superblock.proofs.ArrayLaws.{says_again}
use Rattle.cluster_model.specs.State.{State}
use Rattle.cluster_model.specs.Opening.{Origin, IsOrigin, array_of, says_of, is_member}
use Rattle.cluster_model.specs.Contents.{Opens, IsHeader, IsImages}
use Rattle.laws_sound.proofs.Supers.{super_is}
use Rattle.laws_roles.specs.Laws.{Tells}
use Rattle.laws_roles.proofs.Parts.{supers}

-- A superblock stands on a leg of the array alone, and has a number.

own : (a : Array) (l : ℕ) (s : Super) → is_of a l s ≡ true → (s.geometry_legs ≡ a.sizes.legs) × (s.device ≡ l)
own a l s e = grind (arith, nat_tests)

pub record OnLeg (a : Array) (l : ℕ) (says : Says) : Type 0 where
  pub leg : l < a.sizes.legs
  pub number : 1 ≤ says.events

on_leg : (a : Array) (l : ℕ) (s : Super) → IsSuper s → is_of a l s ≡ true → OnLeg a l (said_of s)
on_leg a l s is e =
    let same = own a l s e in
    record { leg = subst (λ x. x < a.sizes.legs) same.1 (subst (λ x. s.device < x) same.0 is.device); number = is.events.0 }

says_leg_by : (a : Array) (l : ℕ) (says : Says) (x : Option Super) (bytes : List ℕ) → super_in bytes ≡ x → option_and_then (λ s. if is_of a l s then Some (said_of s) else None) x ≡ Some says → OnLeg a l says
says_leg_by a l says None bytes e is = cc
says_leg_by a l says (Some s) bytes e is = by (is_of a l s) refl is
  where
    by : (b : Bool) → is_of a l s ≡ b → (if b then Some (said_of s) else None) ≡ Some says → OnLeg a l says
    by true t is = let same : said_of s ≡ says = cc in subst (OnLeg a l) same (on_leg a l s (super_is bytes s e).0 t)
    by false t is = cc

pub says_leg : (a : Array) (l : ℕ) (bytes : List ℕ) (says : Says) → says_in a l bytes ≡ Some says → OnLeg a l says
unfolding says_in
says_leg a l bytes says e = says_leg_by a l says (super_in bytes) bytes refl e

no_leg : (a : Array) (l : ℕ) (bytes : List ℕ) (x : Option Says) → says_in a l bytes ≡ x → a.sizes.legs ≤ l → x ≡ None
no_leg a l bytes None e le = refl
no_leg a l bytes (Some says) e le = let on = says_leg a l bytes says e in absurd (omega (arith, on.leg, le))

-- The superblocks at the opening.

pub record Begins (o : Origin) (sup : ℕ → Option Says) : Type 0 where
  pub says : ℕ → Says
  pub found : (k : ℕ) → k < o.sizes.legs → sup k ≡ Some (says k)
  pub past : (k : ℕ) → o.sizes.legs ≤ k → sup k ≡ None
  pub home : ℕ
  pub home_leg : home < o.sizes.legs
  pub newest : says home ≡ says_of o
  pub greatest : (k : ℕ) → k < o.sizes.legs → (says k).events ≤ o.events
  pub numbers : (k : ℕ) → k < o.sizes.legs → 1 ≤ (says k).events
  pub same : (j k : ℕ) → j < o.sizes.legs → k < o.sizes.legs → (says j).events ≡ (says k).events → says j ≡ says k
  -- where a node is in, all are the newest
  pub members : (n : ℕ) → is_member o n ≡ true → (k : ℕ) → k < o.sizes.legs → (says k).events ≡ o.events

opening_super : (o : Origin) (l : ℕ) → IsOrigin o → l < o.sizes.legs → IsSuper (super_for (array_of o) l (says_of o))
opening_super o l i lt = record {
  name = i.name;
  size = i.sizes.sectors;
  room = i.sizes.room;
  raid_disks = i.sizes.legs;
  version = version_in o.sizes.second;
  device = lt;
  events = i.events;
  spares = λ k le below. i.legs k le;
  working = i.leg;
}
  where
    version_in : (b : Bool) → (1 ≤ version_of b) × (version_of b ≤ 2)
    version_in true = (omega arith, omega arith)
    version_in false = (omega arith, omega arith)

length_some : (b : Bool) (room : ℕ) → 8 < data_offset_of b + room
length_some true room = omega arith
length_some false room = omega arith

header_says : (o : Origin) (start : State) (l : ℕ) → IsOrigin o → Tells o start → IsHeader o start.legs → l < o.sizes.legs → supers (array_of o) start.legs l ≡ Some (says_of o)
header_says o start l i t h lt =
    let eight : length o.roles.legs ≡ 8 = ap (λ (x : Origin). length x.roles.legs) h.header in
    let again = says_again (array_of o) l (says_of o) (record { ranges = opening_super o l i lt; arrays = record { uuid = t.uuid; name = t.name; roles = eight } }) in
    ap (λ (v : Sector). says_in (array_of o) l v.bytes) (h.contents l 8 lt (length_some o.sizes.second o.sizes.room) (t.legs l lt)) ∙ again

header_begins : (o : Origin) (start : State) → IsOrigin o → Tells o start → IsHeader o start.legs → Begins o (supers (array_of o) start.legs)
header_begins o start i t h = record {
  says = λ k. says_of o;
  found = λ k lt. header_says o start k i t h lt;
  past = λ k le. no_leg (array_of o) k (start.legs.content k 8).bytes (supers (array_of o) start.legs k) refl le;
  home = 0;
  home_leg = omega (arith, i.sizes.legs.0);
  newest = refl;
  greatest = λ k lt. omega arith;
  numbers = λ k lt. i.events.0;
  same = λ j k lj lk e. refl;
  members = λ n m k lt. refl;
}

no_member : (o : Origin) (n : ℕ) → o.members ≡ 0 → is_member o n ≡ true → ⊥
no_member o n empty e = by (nat_lt n (nodes_of o.sizes)) (has_bit o.members n) (rw (empty, bit_at-zero n) refl) e
  where
    by : (a b : Bool) → b ≡ false → (a && b) ≡ true → ⊥
    by true b f e = cc
    by false b f e = cc

images_begin : (o : Origin) (start : State) → IsOrigin o → Tells o start → IsImages o start.legs → Begins o (supers (array_of o) start.legs)
images_begin o start i t h =
    let c = h.contents t.legs in
    record {
      says = c.says;
      found = c.supers;
      past = λ k le. no_leg (array_of o) k (start.legs.content k 8).bytes (supers (array_of o) start.legs k) refl le;
      home = c.newest;
      home_leg = c.is_newest.0;
      newest = c.is_newest.1;
      greatest = c.greatest;
      numbers = λ k lt. (says_leg (array_of o) k (start.legs.content k 8).bytes (c.says k) (c.supers k lt)).number;
      same = c.same;
      members = λ n m k lt. absurd (no_member o n h.nobody.0 m);
    }

pub opening_begins : (o : Origin) (start : State) → Opens o start → Tells o start → Begins o (supers (array_of o) start.legs)
opening_begins o start opens t = elim opens.contents [
  | inl h ↦ header_begins o start opens.origin t h
  | inr h ↦ images_begin o start opens.origin t h
]
