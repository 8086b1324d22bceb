-- What all legs say together.
use Rattle.std.proofs.Common.{◌≡◌, ℕ, ◌+◌, ◌^◌, ◌<◌, ◌≤◌, ◌==◌, ◌&&◌, nat_lt, Bool, true, false, List, length, ap, sym, ◌∙◌, subst, arith, inl, inr, if◌then◌else◌}
use Rattle.std.proofs.Math.Nat.{one-le-pow}
use Rattle.std.proofs.Math.Pow.{pow-lt}
use Rattle.std.proofs.lemmas.Bool.{cases_lt}
use Rattle.std.proofs.lemmas.Bool.Decides.{nat_tests}
use Rattle.std.proofs.lemmas.List.{get_or_past}
use Rattle.std.proofs.lemmas.Nat.{or_lt}
use Rattle.mdc_types.specs.Bits.{has_bit, with_bit}
use Rattle.mdc_types.specs.Geometry.{Sizes, IsGeometry, nodes_of, chunks_of, parts_of, length_of}
use Rattle.mdc_types.specs.Names.{is_name}
use Rattle.mdc_types.specs.Roles.{role_of, is_working, some_works}
use Rattle.mdc_types.specs.declared.roles.Role.{Role}
use Rattle.mdc_types.specs.declared.roles.Role.TheVariants.{Spare}
use Rattle.mdc_types.specs.declared.roles.Roles.{Roles}
use Rattle.mdc_types.specs.declared.numbers.Sector.{Sector}
use Rattle.leg_failure.proofs.SetLaws.{has_bit-zero}
use Rattle.md_superblock.specs.declared.superblock.Super.{Super}
use Rattle.image_faults.specs.declared.legs.LegImage.{LegImage}
use Rattle.image_faults.proofs.LegLaws.{checked_is}
use Rattle.cluster_model.specs.Opening.{IsOrigin}
use Rattle.image_array.specs.Legs.{super_at, sizes_at, AreLegs, AreAll}
use Rattle.image_array.specs.Heads.{IsNewest, IsHead, AreWithin, is_pending, origin_of, works}
use Rattle.image_array.specs.declared.heads.Head.{Head}
use Rattle.image_array.proofs.AgreementLaws.{IsOfArray, of_array}

-- The sizes of the legs.

pub shared : (images : List LegImage) (l : ℕ) → AreLegs images → l < length images → IsOfArray (super_at images 0) l (super_at images l)
shared images l legs lt = of_array (super_at images) l (legs.each l lt).agrees

-- a leg's sizes are those of its superblock, and the chunk of leg 0
pub sizes_are : (images : List LegImage) (l : ℕ) → AreLegs images → l < length images
    → sizes_at images l ≡ record {
      legs = (super_at images l).geometry_legs;
      sectors = (super_at images l).sectors;
      room = (super_at images l).room;
      chunk = (sizes_at images 0).chunk;
      second = (super_at images l).version == 2;
    }
sizes_are images l legs lt = checked_is (sizes_at images l) (record {
  legs = (super_at images l).geometry_legs;
  sectors = (super_at images l).sectors;
  room = (super_at images l).room;
  chunk = (sizes_at images 0).chunk;
  second = (super_at images l).version == 2;
}) (legs.each l lt).sizes

-- all but the size
pub record SameSizes (g h : Sizes) : Type 0 where
  pub legs : g.legs ≡ h.legs
  pub room : g.room ≡ h.room
  pub chunk : g.chunk ≡ h.chunk
  pub second : g.second ≡ h.second

pub same_sizes : (images : List LegImage) (l k : ℕ) → AreLegs images → l < length images → k < length images → SameSizes (sizes_at images l) (sizes_at images k)
same_sizes images l k legs lt below =
    let e = sizes_are images l legs lt in
    let f = sizes_are images k legs below in
    let s = shared images l legs lt in
    let t = shared images k legs below in
    record {
      legs = ap (λ (g : Sizes). g.legs) e ∙ s.legs ∙ sym t.legs ∙ sym (ap (λ (g : Sizes). g.legs) f);
      room = ap (λ (g : Sizes). g.room) e ∙ s.room ∙ sym t.room ∙ sym (ap (λ (g : Sizes). g.room) f);
      chunk = ap (λ (g : Sizes). g.chunk) e ∙ sym (ap (λ (g : Sizes). g.chunk) f);
      second = ap (λ (g : Sizes). g.second) e ∙ ap (λ v. v == 2) (s.version ∙ sym t.version) ∙ sym (ap (λ (g : Sizes). g.second) f);
    }

pub nodes_same : (g h : Sizes) → SameSizes g h → nodes_of g ≡ nodes_of h
nodes_same g h same = ap (λ b. if b then 16 else 8) same.second

pub chunks_same : (g h : Sizes) → SameSizes g h → chunks_of g ≡ chunks_of h
chunks_same g h same = ap (λ r. parts_of r g.chunk) same.room ∙ ap (parts_of h.room) same.chunk

most_of : (second : Bool) → (if second then 16 else 8) ≤ 16
most_of true = omega arith
most_of false = omega arith

pub nodes_most : (g : Sizes) → nodes_of g ≤ 16
nodes_most g = most_of g.second

-- the number of legs is that of the sizes
pub legs_are : (images : List LegImage) (l : ℕ) → AreAll images → l < length images → (sizes_at images l).legs ≡ length images
legs_are images l all lt = ap (λ (g : Sizes). g.legs) (sizes_are images l all.legs lt) ∙ (shared images l all.legs lt).legs ∙ sym all.all

-- there are at most eight
pub few_legs : (images : List LegImage) → AreAll images → length images ≤ 8
few_legs images all = let range = (all.legs.each 0 all.some).superblock.raid_disks in omega (arith, range.1, all.all)

-- the room is within its bound
pub room_most : (images : List LegImage) (h : Head) → AreAll images → IsHead images h → h.geometry.room ≤ 131072
room_most images h all head =
    let there = head.is_newest.there in
    let same : h.geometry.room ≡ (super_at images head.newest).room = ap (λ (g : Sizes). g.room) (head.sizes ∙ sizes_are images head.newest all.legs there) in
    let most = (all.legs.each head.newest there).superblock.room in
    omega (arith, same, most)

-- Which legs work.

spare_or : (role : Role) → role ≡ Spare → is_working role ≡ true → ⊥
spare_or role is works = let e : is_working role ≡ false = ap is_working is in cc

pub within_at : (images : List LegImage) (n : ℕ) (roles : Roles) → AreAll images → n < length images → roles ≡ (super_at images n).roles → AreWithin images roles
within_at images n roles all lt is = record {
  leg = λ l below works. elim (cases_lt l (length images)) [
    | inl there ↦ there
    | inr past ↦
        let s = (all.legs.each n lt).superblock in
        let count : (super_at images n).geometry_legs ≡ length images = (shared images n all.legs lt).legs ∙ sym all.all in
        let none : role_of roles l ≡ Spare = ap (λ r. role_of r l) is ∙ s.spares l (omega (arith, count, past)) below in
        absurd (spare_or (role_of roles l) none works)
  ];
}

pub within : (images : List LegImage) (h : Head) → AreAll images → IsHead images h → AreWithin images h.roles
within images h all head = within_at images head.newest h.roles all head.is_newest.there head.roles

pub within_by : (images : List LegImage) (n : ℕ) (s : Super) → AreAll images → n < length images → s ≡ super_at images n → AreWithin images s.roles
within_by images n s all lt is = within_at images n s.roles all lt (ap (λ (t : Super). t.roles) is)

-- each leg has as many slots as one of them
pub nodes_all : (images : List LegImage) (n : ℕ) (g : Sizes) → AreAll images → n < length images → g ≡ sizes_at images n
    → (l : ℕ) → l < length images → nodes_of (sizes_at images l) ≡ nodes_of g
nodes_all images n g all lt is l below = nodes_same (sizes_at images l) (sizes_at images n) (same_sizes images l n all.legs below lt) ∙ ap nodes_of (sym is)

-- each leg has as many chunks as the array
pub chunks_all : (images : List LegImage) (h : Head) → AreAll images → IsHead images h → (l : ℕ) → l < length images → chunks_of (sizes_at images l) ≡ chunks_of h.geometry
chunks_all images h all head l lt =
    chunks_same (sizes_at images l) (sizes_at images head.newest) (same_sizes images l head.newest all.legs lt head.is_newest.there) ∙ ap chunks_of (sym head.sizes)

-- the head has as many legs as there are, and each is as long as it says
pub legs_by : (images : List LegImage) (n : ℕ) (g h : Sizes) → AreAll images → n < length images → g ≡ sizes_at images n → h ≡ g → h.legs ≡ length images
legs_by images n g h all lt is same = ap (λ (k : Sizes). k.legs) (same ∙ is) ∙ legs_are images n all lt

pub long_by : (images : List LegImage) (n : ℕ) (g h : Sizes) → AreAll images → n < length images → g ≡ sizes_at images n → h ≡ g
    → (l : ℕ) → l < length images → length_of (sizes_at images l) ≡ length_of h
long_by images n g h all lt is same l below =
    let likes = same_sizes images l n all.legs below lt in
    ap (λ b. (if b then 272 else 80) + (sizes_at images l).room) likes.second
    ∙ ap (λ r. (if (sizes_at images n).second then 272 else 80) + r) likes.room
    ∙ ap length_of (sym is ∙ sym same)

pub head_is : (images : List LegImage) (h : Head) (l : ℕ) (s : Super) (g : Sizes) → IsNewest images l → s ≡ super_at images l → g ≡ sizes_at images l
    → h.geometry ≡ g → h.name ≡ s.name → h.uuid ≡ s.uuid → h.roles ≡ s.roles → h.events ≡ s.events
    → ((k : ℕ) → has_bit h.pending k ≡ (nat_lt k (nodes_of g) && is_pending images s.roles k)) → IsHead images h
head_is images h l s g newest is are sizes name uuid roles events pending = record {
  newest = l;
  is_newest = newest;
  sizes = sizes ∙ are;
  name = name ∙ ap (λ (t : Super). t.name) is;
  uuid = uuid ∙ ap (λ (t : Super). t.uuid) is;
  roles = roles ∙ ap (λ (t : Super). t.roles) is;
  events = events ∙ ap (λ (t : Super). t.events) is;
  pending = λ k. pending k ∙ ap (λ n. nat_lt k (nodes_of n) && is_pending images s.roles k) (sym sizes)
      ∙ ap (λ r. nat_lt k (nodes_of h.geometry) && is_pending images r k) (sym roles);
}

-- The newest leg, among the first n.

pub record NewestTo (images : List LegImage) (n l : ℕ) : Type 0 where
  pub there : l < n
  pub greatest : (k : ℕ) → k < n → (super_at images k).events ≤ (super_at images l).events
  pub least : (k : ℕ) → k < l → (super_at images k).events < (super_at images l).events

pub newest_first : (images : List LegImage) → NewestTo images 1 0
newest_first images = record {
  there = omega arith;
  greatest = λ k lt. let e : k ≡ 0 = omega arith in subst (λ j. (super_at images j).events ≤ (super_at images 0).events) (sym e) (omega arith);
  least = λ k lt. absurd (omega (arith, lt));
}

pub newest_later : (images : List LegImage) (n l : ℕ) → NewestTo images n l → (super_at images l).events < (super_at images n).events → NewestTo images (n + 1) n
newest_later images n l was more = record {
  there = omega arith;
  greatest = λ k lt. elim (cases_lt k n) [
    | inl below ↦ omega (arith, was.greatest k below, more)
    | inr past ↦ let e : k ≡ n = omega (arith, lt, past) in subst (λ j. (super_at images j).events ≤ (super_at images n).events) (sym e) (omega arith)
  ];
  least = λ k lt. omega (arith, was.greatest k lt, more);
}

pub newest_same : (images : List LegImage) (n l : ℕ) → NewestTo images n l → (super_at images n).events ≤ (super_at images l).events → NewestTo images (n + 1) l
newest_same images n l was most = record {
  there = let lt = was.there in omega arith;
  greatest = λ k lt. elim (cases_lt k n) [
    | inl below ↦ was.greatest k below
    | inr past ↦ let e : k ≡ n = omega (arith, lt, past) in subst (λ j. (super_at images j).events ≤ (super_at images l).events) (sym e) most
  ];
  least = was.least;
}

pub newest_all : (images : List LegImage) (n l : ℕ) → n ≡ length images → NewestTo images n l → IsNewest images l
newest_all images n l is was = record {
  there = subst (λ m. l < m) is was.there;
  greatest = λ k lt. was.greatest k (subst (λ m. k < m) (sym is) lt);
  least = was.least;
}

pub is_less : (a b : ℕ) → nat_lt a b ≡ true → a < b
is_less a b is = grind (arith, nat_tests)

pub is_most : (a b : ℕ) → nat_lt a b ≡ false → b ≤ a
is_most a b is = grind (arith, nat_tests)

-- A set that is made number by number.

pub nothing_yet : (p : ℕ → Bool) (k : ℕ) → has_bit 0 k ≡ (nat_lt k 0 && p k)
nothing_yet p k = grind (arith, nat_tests, has_bit-zero k)

pub one_bit_less : (set k : ℕ) → set < 2 ^ k → set < 2 ^ (k + 1)
one_bit_less set k fits = let more : 2 ^ k < 2 ^ (k + 1) = pow-lt (omega arith) in omega (arith, more, fits)

pub one_bit_more : (set k new : ℕ) → new ≡ with_bit set k → set < 2 ^ k → new < 2 ^ (k + 1)
one_bit_more set k new is fits =
    let more : 2 ^ k < 2 ^ (k + 1) = pow-lt (omega arith) in
    subst (λ n. n < 2 ^ (k + 1)) (sym is) (or_lt (k + 1) set (2 ^ k) (one_bit_less set k fits) more)

-- The opening's numbers.

positive : (n : ℕ) → 0 < 2 ^ n
positive n = omega (arith, one-le-pow n 2 (omega arith))

no_member : (a b : Bool) → b ≡ false → (a && b) ≡ true → ⊥
no_member true b none is = cc
no_member false b none is = cc

pub is_origin : (images : List LegImage) (h : Head) (base : List (List Sector)) → AreAll images → IsHead images h → IsGeometry h.geometry
    → length h.name ≡ 32 → length h.uuid ≡ 16 → length h.roles.legs ≡ 8 → h.pending < 2 ^ nodes_of h.geometry → IsOrigin (origin_of h base)
is_origin images h base all head sound name uuid eight few =
    let s = (all.legs.each head.newest head.is_newest.there).superblock in
    record {
      sizes = sound;
      name = ap is_name head.name ∙ s.name;
      lengths = (name, uuid);
      members = positive (nodes_of h.geometry);
      pending = few;
      clean = λ n is. absurd (no_member (nat_lt n (nodes_of h.geometry)) (has_bit 0 n) (has_bit-zero n) is);
      events = (let e = s.events.0 in omega (arith, e, head.events), let e = s.events.1 in let f = head.events in subst (λ n. n ≤ 2 ^ 63) (sym f) e);
      leg = ap (λ r. some_works (role_of r)) head.roles ∙ s.working;
      legs = λ l past. elim (cases_lt l 8) [
        | inl below ↦
            let count : h.geometry.legs ≡ (super_at images head.newest).geometry_legs =
            ap (λ (g : Sizes). g.legs) head.sizes ∙ ap (λ (g : Sizes). g.legs) (sizes_are images head.newest all.legs head.is_newest.there) in
            ap (λ r. role_of r l) head.roles ∙ s.spares l (omega (arith, count, past)) below
        | inr above ↦ get_or_past h.roles.legs l Spare (omega (arith, eight, above))
      ];
    }
