-- What all legs open with: the words of the machine hold of what was read.
use Rattle.std.proofs.Common.{◌≡◌, ◌⊎◌, ℕ, zero, suc, ◌+◌, ◌*◌, ◌<◌, ◌≤◌, ◌==◌, ◌&&◌, nat_lt, Bool, true, false, not, List, [], ◌∷◌, length, get_or, Option, Some, None, refl, ap, sym, ◌∙◌, subst, arith, inl, inr, if◌then◌else◌}
use Rattle.std.specs.Prelude.{is_some, is_none}
use Rattle.std.specs.Option.{option_map}
use Rattle.std.proofs.lemmas.Bool.{cases_lt, and_parts, eqb-true, eq-eqb}
use Rattle.std.proofs.lemmas.Bool.Decides.{nat_tests}
use Rattle.std.proofs.lemmas.Slice.Eq.{bytes_eq-Decides}
use Rattle.dlm_modes.specs.First.{first_such}
use Rattle.dlm_modes.specs.Guards.{first_of}
use Rattle.dlm_modes.proofs.FirstLaws.{first_such_has, first_such_some, first_such_none, first_such_same}
use Rattle.mdc_types.specs.Bits.{has_bit}
use Rattle.mdc_types.specs.Geometry.{Sizes, nodes_of, chunks_of, slot_pages, page_sector, page_of, chunk_of}
use Rattle.mdc_types.specs.Roles.{role_of, is_role}
use Rattle.mdc_types.specs.Sectors.{zero_sector}
use Rattle.mdc_types.specs.declared.numbers.Sector.{Sector}
use Rattle.mdc_types.specs.declared.roles.Role.{Role}
use Rattle.mdc_types.specs.declared.roles.Role.TheVariants.{Working, Rebuilding, Faulty, Spare}
use Rattle.mdc_types.specs.declared.roles.Roles.{Roles}
use Rattle.md_superblock.specs.Arrays.{Array, is_of, says_of, says_in, version_of}
use Rattle.md_superblock.specs.Faults.{fault_of}
use Rattle.md_superblock.specs.Superblock.{super_of}
use Rattle.md_superblock.specs.declared.superblock.Super.{Super}
use Rattle.md_superblock.proofs.ArrayLaws.{says_own}
use Rattle.slot_pages.specs.Faults.{slot_fault}
use Rattle.slot_pages.specs.Slot.{page_has, spelled_page, chunk_bit}
use Rattle.slot_pages.proofs.Spelled.{spells_its_bits}
use Rattle.image_faults.specs.Legs.{super_bytes, first_page, own_chunk, slots_fault, first_wrong_slot}
use Rattle.image_faults.specs.Sizes.{length_fault, sizes_of}
use Rattle.image_faults.specs.Slots.{page_bytes, page_is_wrong, slot_is_wrong}
use Rattle.image_faults.specs.declared.faults.ImageFault.{ImageFault}
use Rattle.image_faults.specs.declared.faults.ImageFault.TheVariants.{Slot, Super as FaultOfSuper}
use Rattle.image_faults.specs.declared.legs.LegImage.{LegImage}
use Rattle.cluster_model.specs.State.{Legs}
use Rattle.cluster_model.specs.Stored.{super_on, bit_on, data_on}
use Rattle.cluster_model.specs.Opening.{Origin, array_of}
use Rattle.cluster_model.specs.Opening as opening
use Rattle.cluster_model.specs.Contents.{works_at, values_on, some_mark, is_marked_slot, with_new}
use Rattle.image_array.specs.Agreement.{contradicts, same_roles, same_role_at}
use Rattle.image_array.specs.Legs.{super_at, sizes_at, mark_at, leg_chunk, AreAll, IsReadAs}
use Rattle.image_array.specs.Heads.{works, has_marks, is_pending, IsHead, origin_of}
use Rattle.image_array.specs.Values.{values_of, differing_leg, marks_on, is_marked, is_unmarked}
use Rattle.image_array.specs.Laws.{AreRead, OpensImages}
use Rattle.image_array.specs.declared.heads.Head.{Head}
use Rattle.image_array.proofs.AgreementLaws.{consistent}
use Rattle.image_array.proofs.HeadLaws.{SameSizes, same_sizes, sizes_are, shared, nodes_same, chunks_same, legs_are, within}
use Rattle.image_array.proofs.ValueLaws.{values-one}

-- A leg without a fault.

no_super_fault : (r : Option ImageFault) (rest : List (Option ImageFault)) → first_of (r ∷ rest) ≡ None → r ≡ None
no_super_fault None rest e = refl
no_super_fault (Some f) rest e = absurd (cc e)

rest_of : (r : Option ImageFault) (rest : List (Option ImageFault)) → first_of (r ∷ rest) ≡ None → first_of rest ≡ None
rest_of None rest e = e
rest_of (Some f) rest e = absurd (cc e)

not_mapped : {A B : Type 0} (f : A → B) (r : Option A) → option_map f r ≡ None → r ≡ None
not_mapped f None e = refl
not_mapped f (Some x) e = absurd (cc e)

not_some : {A : Type 0} (r : Option A) → is_some r ≡ false → r ≡ None
not_some None e = refl
not_some (Some x) e = absurd (cc e)

-- nothing is wrong with its superblock
sound_super : (leg : List Sector) (size : ℕ) (images : List LegImage) (l : ℕ) → IsReadAs leg size images l → fault_of (super_bytes leg) ≡ None
sound_super leg size images l read =
    not_mapped FaultOfSuper (fault_of (super_bytes leg)) (no_super_fault (option_map FaultOfSuper (fault_of (super_bytes leg)))
    (length_fault (super_of (super_bytes leg)) size
    ∷ slots_fault (sizes_of (super_of (super_bytes leg)) (own_chunk (leg_chunk images l) (first_page leg))) (super_of (super_bytes leg)).uuid leg ∷ [])
    read.sound)

-- nothing is wrong with its slots
sound_slots : (leg : List Sector) (size : ℕ) (images : List LegImage) (l : ℕ) → IsReadAs leg size images l
    → first_wrong_slot (sizes_at images l) (super_at images l).uuid leg ≡ None
sound_slots leg size images l read =
    let slots = λ (s : Super). slots_fault (sizes_of s (own_chunk (leg_chunk images l) (first_page leg))) s.uuid leg in
    let tail = rest_of (option_map FaultOfSuper (fault_of (super_bytes leg))) (length_fault (super_of (super_bytes leg)) size ∷ slots (super_of (super_bytes leg)) ∷ []) read.sound in
    let last = no_super_fault (slots (super_of (super_bytes leg))) [] (rest_of (length_fault (super_of (super_bytes leg)) size) (slots (super_of (super_bytes leg)) ∷ []) tail) in
    let mine : slots (super_at images l) ≡ None = ap slots read.superblock ∙ last in
    not_mapped Slot (first_wrong_slot (sizes_at images l) (super_at images l).uuid leg)
    (ap (λ r. slots_fault r (super_at images l).uuid leg) read.sizes ∙ mine)

-- no page is wrong
sound_page : (leg : List Sector) (g : Sizes) (uuid : List ℕ) (k p : ℕ) → first_wrong_slot g uuid leg ≡ None → k < nodes_of g → p < slot_pages g
    → slot_fault g uuid p (page_bytes g leg k p) ≡ None
sound_page leg g uuid k p none lt below =
    let slot : slot_is_wrong g uuid leg k ≡ false = first_such_none (slot_is_wrong g uuid leg) 0 (nodes_of g) none k (omega arith) (omega arith) in
    let pages = not_some (first_such (page_is_wrong g uuid leg k) 0 (slot_pages g)) slot in
    let page : page_is_wrong g uuid leg k p ≡ false = first_such_none (page_is_wrong g uuid leg k) 0 (slot_pages g) pages p (omega arith) (omega arith) in
    not_some (slot_fault g uuid p (page_bytes g leg k p)) page

-- Superblocks.

is_of-from : (a : Array) (l : ℕ) (s : Super) → s.geometry_legs ≡ a.sizes.legs → s.room ≡ a.sizes.room → s.version ≡ version_of a.sizes.second
    → s.name ≡ a.name → s.uuid ≡ a.uuid → s.device ≡ l → is_of a l s ≡ true
is_of-from a l s legs room version name uuid device =
    rw (
      eq-eqb s.geometry_legs a.sizes.legs legs,
      eq-eqb s.room a.sizes.room room,
      eq-eqb s.version (version_of a.sizes.second) version,
      (bytes_eq-Decides s.name a.name).1 name,
      (bytes_eq-Decides s.uuid a.uuid).1 uuid,
      eq-eqb s.device l device,
    ) refl

version_back : (v : ℕ) → 1 ≤ v → v ≤ 2 → v ≡ (if v == 2 then 2 else 1)
version_back v least most = grind (arith, nat_tests)

is_role-same : (r q : Role) → is_role r q ≡ true → r ≡ q
is_role-same Working Working e = refl
is_role-same Working Rebuilding e = absurd (cc e)
is_role-same Working Faulty e = absurd (cc e)
is_role-same Working Spare e = absurd (cc e)
is_role-same Rebuilding Working e = absurd (cc e)
is_role-same Rebuilding Rebuilding e = refl
is_role-same Rebuilding Faulty e = absurd (cc e)
is_role-same Rebuilding Spare e = absurd (cc e)
is_role-same Faulty Working e = absurd (cc e)
is_role-same Faulty Rebuilding e = absurd (cc e)
is_role-same Faulty Faulty e = refl
is_role-same Faulty Spare e = absurd (cc e)
is_role-same Spare Working e = absurd (cc e)
is_role-same Spare Rebuilding e = absurd (cc e)
is_role-same Spare Faulty e = absurd (cc e)
is_role-same Spare Spare e = refl

no_differ : (b : Bool) → not b ≡ false → b ≡ true
no_differ true e = refl
no_differ false e = absurd (cc e)

none_in : (r : Option ℕ) → is_none r ≡ true → r ≡ None
none_in None e = refl
none_in (Some k) e = absurd (cc e)

same_list_at : {X : Type 0} (xs ys : List X) (n : ℕ) (d : X) → length xs ≡ n → length ys ≡ n → ((k : ℕ) → k < n → get_or xs k d ≡ get_or ys k d) → xs ≡ ys
same_list_at [] [] n d e f same = refl
same_list_at [] (y ∷ ys) n d e f same = absurd (omega (arith, e, f))
same_list_at (x ∷ xs) [] n d e f same = absurd (omega (arith, e, f))
same_list_at (x ∷ xs) (y ∷ ys) n d e f same =
    let first : x ≡ y = same 0 (omega (arith, e)) in
    let rest : xs ≡ ys = same_list_at xs ys (length xs) d refl (omega (arith, e, f)) (λ k lt. same (suc k) (omega (arith, e, lt))) in
    ap (λ v. v ∷ xs) first ∙ ap (λ vs. y ∷ vs) rest

-- two roles that are told the same are one
roles_same : (a b : Roles) → length a.legs ≡ 8 → length b.legs ≡ 8 → same_roles a b ≡ true → a ≡ b
roles_same a b e f same =
    let none = none_in (first_such (λ k. not (same_role_at a b k)) 0 8) same in
    let each : (k : ℕ) → k < 8 → role_of a k ≡ role_of b k = λ k lt.
    is_role-same (role_of a k) (role_of b k) (no_differ (same_role_at a b k) (first_such_none (λ j. not (same_role_at a b j)) 0 8 none k (omega arith) (omega arith))) in
    let lists : a.legs ≡ b.legs = same_list_at a.legs b.legs 8 Spare e f each in
    λ i. record { legs = lists i }

not_contradicted : (b c : Bool) → b ≡ true → (b && not c) ≡ false → c ≡ true
not_contradicted true true is e = refl
not_contradicted true false is e = absurd (cc e)
not_contradicted false c is e = absurd (cc is)

-- superblocks of one events number that don't contradict each other say the same
says_same : (s t : Super) → length s.roles.legs ≡ 8 → length t.roles.legs ≡ 8 → s.events ≡ t.events → contradicts s t ≡ false → says_of s ≡ says_of t
says_same s t e f events none =
    let said = not_contradicted (s.events == t.events) ((s.sectors == t.sectors) && same_roles s.roles t.roles) (eq-eqb s.events t.events events) none in
    let parts = and_parts (s.sectors == t.sectors) (same_roles s.roles t.roles) said in
    let size : s.sectors ≡ t.sectors = eqb-true s.sectors t.sectors parts.0 in
    let roles : s.roles ≡ t.roles = roles_same s.roles t.roles e f parts.1 in
    λ i. record { events = events i; roles = roles i; size = size i }

eight_roles : (bytes : List ℕ) → length (super_of bytes).roles.legs ≡ 8
unfolding super_of
eight_roles bytes = refl

-- Pages.

of_size : (g : Sizes) (x : ℕ) (uuid : List ℕ) (p : ℕ) (page : List ℕ)
    → spelled_page g uuid p (page_has g p page) ≡ spelled_page (record g { sectors = x }) uuid p (page_has (record g { sectors = x }) p page)
unfolding spelled_page
of_size g x uuid p page = refl

with_size : (g h : Sizes) → SameSizes g h → record g { sectors = h.sectors } ≡ h
with_size g h same = λ i. record { legs = same.legs i; sectors = h.sectors; room = same.room i; chunk = same.chunk i; second = same.second i }

-- a page's spelling doesn't know the array's own size
spelled-like : (g h : Sizes) (uuid : List ℕ) (p : ℕ) (page : List ℕ) → SameSizes g h
    → spelled_page g uuid p (page_has g p page) ≡ spelled_page h uuid p (page_has h p page)
spelled-like g h uuid p page same =
    of_size g h.sectors uuid p page ∙ ap (λ (k : Sizes). spelled_page k uuid p (page_has k p page)) (with_size g h same)

page_has-like : (g h : Sizes) (p : ℕ) (page : List ℕ) (c : ℕ) → SameSizes g h → page_has g p page c ≡ page_has h p page c
page_has-like g h p page c same = ap (λ n. nat_lt c n && (page_of c == p) && chunk_bit page c) (chunks_same g h same)

page_sector-like : (g h : Sizes) (n p : ℕ) → SameSizes g h → page_sector g n p ≡ page_sector h n p
page_sector-like g h n p same = ap (λ b. 16 + (if b then 16 else 8) * n + p) same.second

-- Marks.

-- true where the other is
equal_tests : (a b : Bool) → (a ≡ true → b ≡ true) → (b ≡ true → a ≡ true) → a ≡ b
equal_tests true true f g = refl
equal_tests true false f g = sym (f refl)
equal_tests false true f g = g refl
equal_tests false false f g = refl

and_true : (a b : Bool) → a ≡ true → b ≡ true → (a && b) ≡ true
and_true true true e f = refl
and_true true false e f = absurd (cc f)
and_true false b e f = absurd (cc e)

-- tests behind another one
when : (a b c : Bool) → (a ≡ true → b ≡ c) → (a && b) ≡ (a && c)
when true b c same = same refl
when false b c same = refl

below_true : (k n : ℕ) → k < n → nat_lt k n ≡ true
below_true k n lt = grind (arith, nat_tests)

below_and : (a b : Bool) → a ≡ true → (a && b) ≡ b
below_and true b e = refl
below_and false b e = absurd (cc e)

marked_or : (b : Bool) (r : Option ℕ) → is_some (if b then None else r) ≡ false → (r ≡ None → ⊥) → b ≡ true
marked_or true r e some = refl
marked_or false r e some = absurd (some (not_some r e))

passing_in : (p : ℕ → Bool) (n : ℕ) (r : Option ℕ) → first_such p 0 n ≡ r → is_some r ≡ true → (k : ℕ) × (k < n) × (p k ≡ true)
passing_in p n None e some = absurd (cc some)
passing_in p n (Some k) e some = let first = first_such_some p 0 n k e in (k, let m = first.below in omega arith, first.passes)

passing : (p : ℕ → Bool) (n : ℕ) → is_some (first_such p 0 n) ≡ true → (k : ℕ) × (k < n) × (p k ≡ true)
passing p n some = passing_in p n (first_such p 0 n) refl some

has : (p : ℕ → Bool) (n k : ℕ) → k < n → p k ≡ true → is_some (first_such p 0 n) ≡ true
has p n k lt is = first_such_has p 0 n k (omega arith) (omega arith) is

-- some column has a mark in some row that counts: row by row, and column by column
swapped : (row : ℕ → Bool) (f g : ℕ → ℕ → Bool) (m n : ℕ) → ((l k : ℕ) → l < m → k < n → row l ≡ true → f l k ≡ g k l)
    → is_some (first_such (λ l. row l && is_some (first_such (f l) 0 n)) 0 m) ≡ is_some (first_such (λ k. is_some (first_such (λ l. row l && g k l) 0 m)) 0 n)
swapped row f g m n same =
    equal_tests (is_some (first_such (λ l. row l && is_some (first_such (f l) 0 n)) 0 m)) (is_some (first_such (λ k. is_some (first_such (λ l. row l && g k l) 0 m)) 0 n))
    (λ some.
    let l = passing (λ l. row l && is_some (first_such (f l) 0 n)) m some in
    let parts = and_parts (row l.0) (is_some (first_such (f l.0) 0 n)) l.2 in
    let k = passing (f l.0) n parts.1 in
    has (λ k. is_some (first_such (λ l. row l && g k l) 0 m)) n k.0 k.1
    (has (λ l. row l && g k.0 l) m l.0 l.1 (and_true (row l.0) (g k.0 l.0) parts.0 (sym (same l.0 k.0 l.1 k.1 parts.0) ∙ k.2))))
    (λ some.
    let k = passing (λ k. is_some (first_such (λ l. row l && g k l) 0 m)) n some in
    let l = passing (λ l. row l && g k.0 l) m k.2 in
    let parts = and_parts (row l.0) (g k.0 l.0) l.2 in
    has (λ l. row l && is_some (first_such (f l) 0 n)) m l.0 l.1
    (and_true (row l.0) (is_some (first_such (f l.0) 0 n)) parts.0 (has (f l.0) n k.0 k.1 (same l.0 k.0 l.1 k.1 parts.0 ∙ parts.1))))

-- What was read is what stands there.

content_of : (images : List LegImage) (legs : Legs) (read : AreRead images legs) (l at : ℕ) → l < length images
    → (get_or (read.leg l) at zero_sector).bytes ≡ (legs.content l at).bytes
content_of images legs read l at lt = ap (λ (v : Sector). v.bytes) (sym (read.content l at lt))

-- the bit of a slot on a leg that works
mark_is : (images : List LegImage) (h : Head) (legs : Legs) → AreAll images → IsHead images h → AreRead images legs
    → (l k c : ℕ) → l < length images → k < nodes_of h.geometry → mark_at images l k c ≡ bit_on h.geometry legs k c l
mark_is images h legs all head read l k c lt node =
    let g = sizes_at images l in
    let there = head.is_newest.there in
    let same : SameSizes g h.geometry = subst (SameSizes g) (sym head.sizes) (same_sizes images l head.newest all.legs lt there) in
    let p : ℕ = page_of c in
    let within : k < nodes_of g = subst (λ n. k < n) (sym (nodes_same g h.geometry same)) node in
    (read.read l lt).bits.each k c within
    ∙ page_has-like g h.geometry p (page_bytes g (read.leg l) k p) c same
    ∙ ap (λ page. page_has h.geometry p page c) (ap (λ at. (get_or (read.leg l) at zero_sector).bytes) (page_sector-like g h.geometry k p same)
    ∙ content_of images legs read l (page_sector h.geometry k p) lt)

-- The parts of the law.

said : (images : List LegImage) (h : Head) (base : List (List Sector)) (legs : Legs) → AreAll images → IsHead images h → AreRead images legs
    → (l : ℕ) → l < length images → super_on (array_of (origin_of h base)) legs l ≡ Some (says_of (super_at images l))
said images h base legs all head read l lt =
    let a : Array = array_of (origin_of h base) in
    let there = head.is_newest.there in
    let mine = shared images l all.legs lt in
    let newest = shared images head.newest all.legs there in
    let s = super_at images l in
    let t = super_at images head.newest in
    let sizes = head.sizes ∙ sizes_are images head.newest all.legs there in
    let range = (all.legs.each l lt).superblock.version in
    let version : s.version ≡ t.version = mine.version ∙ sym newest.version in
    let own : is_of a l s ≡ true = is_of-from a l s
    (mine.legs ∙ sym newest.legs ∙ sym (ap (λ (g : Sizes). g.legs) sizes))
    (mine.room ∙ sym newest.room ∙ sym (ap (λ (g : Sizes). g.room) sizes))
    (version_back s.version range.0 range.1 ∙ ap (λ v. version_of (v == 2)) version ∙ ap version_of (sym (ap (λ (g : Sizes). g.second) sizes)))
    (mine.name ∙ sym newest.name ∙ sym head.name)
    (mine.uuid ∙ sym newest.uuid ∙ sym head.uuid)
    mine.device in
    ap (says_in a l) (sym (content_of images legs read l 8 lt))
    ∙ sym (says_own a l (super_bytes (read.leg l)) s (sym (sound_super (read.leg l) (read.size l) images l (read.read l lt))) (read.read l lt).superblock (sym own))

newest_says : (images : List LegImage) (h : Head) (base : List (List Sector)) → AreAll images → (head : IsHead images h)
    → says_of (super_at images head.newest) ≡ opening.says_of (origin_of h base)
newest_says images h base all head =
    let sizes = head.sizes ∙ sizes_are images head.newest all.legs head.is_newest.there in
    let size : (super_at images head.newest).sectors ≡ h.geometry.sectors = sym (ap (λ (g : Sizes). g.sectors) sizes) in
    let events : (super_at images head.newest).events ≡ h.events = sym head.events in
    let roles : (super_at images head.newest).roles ≡ h.roles = sym head.roles in
    λ i. record { events = events i; roles = roles i; size = size i }

eight_at : (images : List LegImage) (legs : Legs) (read : AreRead images legs) (l : ℕ) → l < length images → length (super_at images l).roles.legs ≡ 8
eight_at images legs read l lt = ap (λ (s : Super). length s.roles.legs) (read.read l lt).superblock ∙ eight_roles (super_bytes (read.leg l))

order : (l k : ℕ) → (l < k) ⊎ ((l ≡ k) ⊎ (k < l))
order l k = elim (cases_lt l k) [
  | inl below ↦ inl below
  | inr past ↦ elim (cases_lt k l) [
    | inl under ↦ inr (inr under)
    | inr over ↦ inr (inl (omega (arith, past, over)))
  ]
]

one_state : (images : List LegImage) (legs : Legs) → AreAll images → AreRead images legs → (l k : ℕ) → l < length images → k < length images
    → (super_at images l).events ≡ (super_at images k).events → says_of (super_at images l) ≡ says_of (super_at images k)
one_state images legs all read l k lt below events = elim (order l k) [
  | inl under ↦ sym (says_same (super_at images k) (super_at images l) (eight_at images legs read k below) (eight_at images legs read l lt) (sym events)
      (consistent (super_at images) k l (all.legs.each k below).agrees under))
  | inr rest ↦ elim rest [
    | inl same ↦ ap (λ j. says_of (super_at images j)) same
    | inr over ↦ says_same (super_at images l) (super_at images k) (eight_at images legs read l lt) (eight_at images legs read k below) events
        (consistent (super_at images) l k (all.legs.each l lt).agrees over)
  ]
]

page_is : (images : List LegImage) (h : Head) (legs : Legs) → AreAll images → IsHead images h → AreRead images legs
    → (l n p : ℕ) → l < length images → n < nodes_of h.geometry → p < slot_pages h.geometry
    → (legs.content l (page_sector h.geometry n p)).bytes
    ≡ spelled_page h.geometry h.uuid p (page_has h.geometry p (legs.content l (page_sector h.geometry n p)).bytes)
page_is images h legs all head read l n p lt node below =
    let g = sizes_at images l in
    let there = head.is_newest.there in
    let same : SameSizes g h.geometry = subst (SameSizes g) (sym head.sizes) (same_sizes images l head.newest all.legs lt there) in
    let was = read.read l lt in
    let page : List ℕ = page_bytes g (read.leg l) n p in
    let within : n < nodes_of g = subst (λ m. n < m) (sym (nodes_same g h.geometry same)) node in
    let inside : p < slot_pages g = subst (λ m. p < m) (sym (ap (λ b. if b then 16 else 8) same.second)) below in
    let uuid : (super_at images l).uuid ≡ h.uuid =
    (shared images l all.legs lt).uuid ∙ sym (shared images head.newest all.legs there).uuid ∙ sym head.uuid in
    let own : page ≡ spelled_page g (super_at images l).uuid p (page_has g p page) =
    spells_its_bits g (super_at images l).uuid p page (was.pages n within p inside)
    (sound_page (read.leg l) g (super_at images l).uuid n p (sound_slots (read.leg l) (read.size l) images l was) within inside) in
    let spelled : page ≡ spelled_page h.geometry h.uuid p (page_has h.geometry p page) =
    own ∙ spelled-like g h.geometry (super_at images l).uuid p page same
    ∙ ap (λ u. spelled_page h.geometry u p (page_has h.geometry p page)) uuid in
    let here : page ≡ (legs.content l (page_sector h.geometry n p)).bytes =
    ap (λ at. (get_or (read.leg l) at zero_sector).bytes) (page_sector-like g h.geometry n p same)
    ∙ content_of images legs read l (page_sector h.geometry n p) lt in
    subst (λ bytes. bytes ≡ spelled_page h.geometry h.uuid p (page_has h.geometry p bytes)) here spelled

-- the pending slots
pending_is : (images : List LegImage) (h : Head) (base : List (List Sector)) (legs : Legs) → AreAll images → IsHead images h → AreRead images legs
    → (k : ℕ) → k < nodes_of h.geometry → has_bit h.pending k ≡ is_marked_slot (origin_of h base) legs k
pending_is images h base legs all head read k node =
    let there = head.is_newest.there in
    let inside = within images h all head in
    let row : ℕ → Bool = works h.roles in
    let chunks = λ (l : ℕ) (lt : l < length images).
    chunks_same (sizes_at images l) (sizes_at images head.newest) (same_sizes images l head.newest all.legs lt there) ∙ ap chunks_of (sym head.sizes) in
    head.pending k ∙ below_and (nat_lt k (nodes_of h.geometry)) (is_pending images h.roles k) (below_true k (nodes_of h.geometry) node)
    ∙ ap is_some (first_such_same (λ l. row l && has_marks images k l) (λ l. row l && is_some (first_such (mark_at images l k) 0 (chunks_of h.geometry))) 0 8
    (λ l le lt. when (row l) (has_marks images k l) (is_some (first_such (mark_at images l k) 0 (chunks_of h.geometry)))
    (λ is. ap (λ n. is_some (first_such (mark_at images l k) 0 n)) (chunks l (inside.leg l (omega arith) is)))))
    ∙ swapped row (λ l c. mark_at images l k c) (λ c l. bit_on h.geometry legs k c l) 8 (chunks_of h.geometry)
    (λ l c lt below is. mark_is images h legs all head read l k c (inside.leg l lt is) node)

-- where nothing is unmarked and values differ, a slot marks the chunk
marked_is : (images : List LegImage) (h : Head) (base : List (List Sector)) (legs : Legs) → AreAll images → IsHead images h → AreRead images legs
    → (s : ℕ) → is_unmarked h images (data_on h.geometry legs) s ≡ false → 1 < length (values_of h.roles (λ l. data_on h.geometry legs l s) 8)
    → is_some (first_such (λ k. some_mark (origin_of h base) legs k (chunk_of h.geometry s)) 0 (nodes_of h.geometry)) ≡ true
marked_is images h base legs all head read s none more =
    let there = head.is_newest.there in
    let inside = within images h all head in
    let c : ℕ = chunk_of h.geometry s in
    let row : ℕ → Bool = works h.roles in
    let nodes = λ (l : ℕ) (lt : l < length images).
    nodes_same (sizes_at images l) (sizes_at images head.newest) (same_sizes images l head.newest all.legs lt there) ∙ ap nodes_of (sym head.sizes) in
    let is : is_marked images h.roles c ≡ true = marked_or (is_marked images h.roles c) (differing_leg h.roles (λ l. data_on h.geometry legs l s)) none
    (λ alone. let short = values-one h.roles (λ l. data_on h.geometry legs l s) alone in omega (arith, short, more)) in
    sym (ap is_some (first_such_same (λ l. row l && marks_on images c l) (λ l. row l && is_some (first_such (λ k. mark_at images l k c) 0 (nodes_of h.geometry))) 0 8
    (λ l le lt. when (row l) (marks_on images c l) (is_some (first_such (λ k. mark_at images l k c) 0 (nodes_of h.geometry)))
    (λ works. ap (λ n. is_some (first_such (λ k. mark_at images l k c) 0 n)) (nodes l (inside.leg l (omega arith) works)))))
    ∙ swapped row (λ l k. mark_at images l k c) (λ k l. bit_on h.geometry legs k c l) 8 (nodes_of h.geometry)
    (λ l k lt below works. mark_is images h legs all head read l k c (inside.leg l lt works) below))
    ∙ is

values_are : (o : Origin) (legs : Legs) (s n : ℕ) → values_of o.roles (λ l. data_on o.sizes legs l s) n ≡ values_on o legs s n
unfolding values_of values_on
values_are o legs s zero = refl
values_are o legs s (suc n) = ap (λ vs. if works_at o n then with_new (data_on o.sizes legs n s) vs else vs) (values_are o legs s n)

pub opens_images : OpensImages
opens_images images h base legs all head read is_base =
    let there = head.is_newest.there in
    let o = origin_of h base in
    let count : h.geometry.legs ≡ length images = ap (λ (g : Sizes). g.legs) head.sizes ∙ legs_are images head.newest all there in
    let inside = λ (l : ℕ) (lt : l < h.geometry.legs). subst (λ n. l < n) count lt in
    record {
      says = λ l. says_of (super_at images l);
      supers = λ l lt. said images h base legs all head read l (inside l lt);
      newest = head.newest;
      is_newest = (subst (λ n. head.newest < n) (sym count) there, newest_says images h base all head);
      greatest = λ l lt. subst (λ e. (super_at images l).events ≤ e) (sym head.events) (head.is_newest.greatest l (inside l lt));
      same = λ l k lt below events. one_state images legs all read l k (inside l lt) (inside k below) events;
      pages = λ l n p lt node below. page_is images h legs all head read l n p (inside l lt) node below;
      pending = λ k node. pending_is images h base legs all head read k node;
      base = λ s lt. is_base.values s lt ∙ values_are o legs s 8;
      marked = λ s lt more.
          marked_is images h base legs all head read s
          (first_such_none (is_unmarked h images (data_on h.geometry legs)) 0 h.geometry.room is_base.marked s (omega arith) (omega arith))
          (subst (λ vs. 1 < length vs) (is_base.values s lt) more);
    }
