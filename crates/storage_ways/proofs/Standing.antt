-- What a transfer does to the bits and the data that stand on the legs: superblock, pages and data
-- lie apart.
use Rattle.std.proofs.Common.{◌≡◌, ◌⊎◌, inl, inr, ℕ, ◌+◌, ◌-◌, ◌*◌, ◌/◌, ◌<◌, ◌≤◌, ◌==◌, ◌&&◌, Bool, true, false, if◌then◌else◌, List, refl, sym, ap, ◌∙◌, arith, nat_lt, nat_le}
use Rattle.std.proofs.Math.Path.{fun_ext}
use Rattle.std.proofs.lemmas.Bool.Decides.{nat_tests}
use Rattle.mdc_types.specs.Geometry.{Sizes, IsGeometry, nodes_of, chunks_of, page_of, pages_of, parts_of, page_sector, slot_pages, data_offset}
use Rattle.mdc_types.specs.declared.numbers.Sector.{Sector}
use Rattle.slot_pages.specs.Slot.{page_has, spelled_page, chunk_bit}
use Rattle.slot_pages.proofs.Spelled.{has_the_set}
use Rattle.cluster_model.specs.State.{Core, Legs, sizes}
use Rattle.cluster_model.specs.Bits.{page_sector_of}
use Rattle.cluster_model.specs.Run.{put}
use Rattle.cluster_model.specs.Stored.{bit_on, data_on}
use Rattle.storage_ways.proofs.Parts.{bits_on, with_page, with_data}

-- Places.

few_chunks : (second : Bool) (n : ℕ) → n ≤ (if second then 63488 else 30720) → n ≤ 2048 + 4096 * ((if second then 16 else 8) - 1)
few_chunks true n le = omega arith
few_chunks false n le = omega arith

page_below : (c n m : ℕ) → c < n → n ≤ 2048 + 4096 * (m - 1) → 1 ≤ m → page_of c < m
page_below c n m lt le some = by (nat_lt c 2048) refl
  where
    by : (b : Bool) → nat_lt c 2048 ≡ b → (if b then 0 else 1 + (c - 2048) / 4096) < m
    by true e = omega arith
    by false e = let past : 2048 ≤ c = grind (arith, nat_tests) in omega arith

some_pages : (second : Bool) → 1 ≤ (if second then 16 else 8)
some_pages true = omega arith
some_pages false = omega arith

-- a chunk that there is lies in a page that the slot has room for
pub page_there : (g : Sizes) (c : ℕ) → IsGeometry g → c < chunks_of g → page_of c < slot_pages g
page_there g c i lt = page_below c (chunks_of g) (slot_pages g) lt (few_chunks g.second (chunks_of g) i.bits) (some_pages g.second)

pages_fit : (n m : ℕ) → n ≤ 2048 + 4096 * (m - 1) → 1 ≤ m → (b : Bool) → (if b then 1 else 1 + parts_of (n - 2048) 4096) ≤ m
pages_fit n m le some true = some
pages_fit n m le some false = omega arith

pub used_page_there : (g : Sizes) (p : ℕ) → IsGeometry g → p < pages_of g → p < slot_pages g
used_page_there g p i lt = let fit = pages_fit (chunks_of g) (slot_pages g) (few_chunks g.second (chunks_of g) i.bits) (some_pages g.second) (nat_le (chunks_of g) 2048) in omega (arith, lt, fit)

apart : (second : Bool) (n p k q : ℕ) → p < (if second then 16 else 8) → q < (if second then 16 else 8) → 16 + (if second then 16 else 8) * n + p ≡ 16 + (if second then 16 else 8) * k + q → (n ≡ k) × (p ≡ q)
apart true n p k q l m e = (omega arith, omega arith)
apart false n p k q l m e = (omega arith, omega arith)

same_sectors : (second : Bool) (n p k q : ℕ) → p < (if second then 16 else 8) → q < (if second then 16 else 8) → (16 + (if second then 16 else 8) * k + q == 16 + (if second then 16 else 8) * n + p) ≡ ((k == n) && (q == p))
same_sectors second n p k q l m = by (16 + (if second then 16 else 8) * k + q == 16 + (if second then 16 else 8) * n + p) refl
  where
    by : (b : Bool) → (16 + (if second then 16 else 8) * k + q == 16 + (if second then 16 else 8) * n + p) ≡ b → b ≡ ((k == n) && (q == p))
    by true e = let two = apart second k q n p m l (grind (arith, nat_tests)) in grind (arith, nat_tests)
    by false e = by_two ((k == n) && (q == p)) refl
      where
        by_two : (b : Bool) → ((k == n) && (q == p)) ≡ b → false ≡ b
        by_two false f = refl
        by_two true f =
            let one : k ≡ n = grind (arith, nat_tests) in
            let two : q ≡ p = grind (arith, nat_tests) in
            let same : (16 + (if second then 16 else 8) * k + q) ≡ (16 + (if second then 16 else 8) * n + p) = rw (one, two) refl in
            grind (arith, nat_tests)

-- a page lies before the data
before : (second : Bool) (n p : ℕ) → n < (if second then 16 else 8) → p < (if second then 16 else 8) → 16 + (if second then 16 else 8) * n + p < (if second then 272 else 80)
before true n p l m = omega arith
before false n p l m = omega arith

pub page_before : (g : Sizes) (n p : ℕ) → n < nodes_of g → p < slot_pages g → page_sector g n p < data_offset g
page_before g n p l m = before g.second n p l m

past_super : (a b : ℕ) → 16 ≤ 16 + a + b
past_super a b = omega arith

-- Bits.

-- neither below the pages nor past them
abbrev pub IsNoPage : Sizes → ℕ → Type 0
IsNoPage g at = (at < 16) ⊎ (data_offset g ≤ at)

no_page : (g : Sizes) (at n p : ℕ) → IsNoPage g at → n < nodes_of g → p < slot_pages g → (page_sector g n p == at) ≡ false
no_page g at n p (inl lt) l m = let far = past_super (slot_pages g * n) p in let ne : at < page_sector g n p = omega (arith, lt, far) in grind (arith, nat_tests)
no_page g at n p (inr le) l m = let near = page_before g n p l m in let ne : page_sector g n p < at = omega (arith, le, near) in grind (arith, nat_tests)

not_put : (b c t : Bool) (v u : Sector) → c ≡ false → (if b && c && t then v else u) ≡ u
not_put b c t v u e = grind arith

-- what isn't put on a page changes no bit
pub bits_stay : (g : Sizes) (legs : Legs) (l at : ℕ) (v : Sector) → IsGeometry g → IsNoPage g at → bits_on g (put legs l at v) ≡ bits_on g legs
bits_stay g legs l at v i far = fun_ext (λ k. fun_ext (λ c. fun_ext (λ j. by k c j (nat_lt k (nodes_of g)) refl)))
  where
    there : (k c j : ℕ) → k < nodes_of g → (b : Bool) → nat_lt c (chunks_of g) ≡ b → (b && (page_of c == page_of c) && chunk_bit ((put legs l at v).content j (page_sector g k (page_of c))).bytes c) ≡ (b && (page_of c == page_of c) && chunk_bit (legs.content j (page_sector g k (page_of c))).bytes c)
    there k c j lt false e = refl
    there k c j lt true e =
        let page = page_there g c i (grind (arith, nat_tests)) in
        ap (λ (x : Sector). (page_of c == page_of c) && chunk_bit x.bytes c) (not_put (j == l) (page_sector g k (page_of c) == at) (legs.told l) v (legs.content j (page_sector g k (page_of c))) (no_page g at k (page_of c) far lt page))

    by : (k c j : ℕ) (b : Bool) → nat_lt k (nodes_of g) ≡ b → (b && bit_on g (put legs l at v) k c j) ≡ (b && bit_on g legs k c j)
    by k c j false e = refl
    by k c j true e = there k c j (grind (arith, nat_tests)) (nat_lt c (chunks_of g)) refl

-- the page that was written has the chunks of its set
written_bit : (core : Core) (p c : ℕ) (set : ℕ → Bool) → ((d : ℕ) → set d ≡ true → d < chunks_of (sizes core)) → page_of c ≡ p → page_has (sizes core) (page_of c) (page_sector_of core p set).bytes c ≡ set c
written_bit core p c set fits is =
    ap (λ q. page_has (sizes core) q (spelled_page (sizes core) core.array.uuid p set) c) is
    ∙ has_the_set (sizes core) core.array.uuid p set c
    ∙ all_there (nat_lt c (chunks_of (sizes core))) (page_of c == p) (set c) (grind (arith, nat_tests)) (λ e. below (fits c e))
  where
    below : {n : ℕ} → c < n → nat_lt c n ≡ true
    below lt = grind (arith, nat_tests)

    all_there : (a b s : Bool) → b ≡ true → (s ≡ true → a ≡ true) → (a && b && s) ≡ s
    all_there a b true e f = rw (f refl, e) refl
    all_there a true false e f = none a
      where
        none : (a : Bool) → (a && true && false) ≡ false
        none a = grind arith
    all_there a false false e f = none a
      where
        none : (a : Bool) → (a && false && false) ≡ false
        none a = grind arith

not_there : (g : Sizes) (q c : ℕ) (bytes : List ℕ) → nat_lt c (chunks_of g) ≡ false → page_has g q bytes c ≡ false
not_there g q c bytes e = ap (λ t. t && (page_of c == q) && chunk_bit bytes c) e

never_set : (b : Bool) (n c : ℕ) → nat_lt c n ≡ false → (b ≡ true → c < n) → b ≡ false
never_set true n c e f = let lt = f refl in grind (arith, nat_tests)
never_set false n c e f = refl

both_false : (t s x : Bool) → s ≡ false → x ≡ false → x ≡ (if t then s else x)
both_false true s x e f = f ∙ sym e
both_false false s x e f = refl

past_nodes : (n k nodes : ℕ) → n < nodes → nat_lt k nodes ≡ false → (k == n) ≡ false
past_nodes n k nodes lt e = grind (arith, nat_tests)

unless_first : (a b c x y : Bool) → a ≡ false → y ≡ (if a && b && c then x else y)
unless_first a b c x y e = rw e refl

turned : (j s t : Bool) → t ≡ true → (j && s && t) ≡ (s && j)
turned j s t e = grind arith

second_of : (a b c p : ℕ) (t : Bool) → ((a == b) && (c == p) && t) ≡ true → c ≡ p
second_of a b c p t e = grind (arith, nat_tests)

module _ (core : Core) (legs : Legs) (n p l : ℕ) (set : ℕ → Bool) (i : IsGeometry (sizes core)) (lt : n < nodes_of (sizes core)) (page : p < pages_of (sizes core)) (told : legs.told l ≡ true) (fits : (d : ℕ) → set d ≡ true → d < chunks_of (sizes core)) where
  put_there : (k c j : ℕ) → nat_lt c (chunks_of (sizes core)) ≡ true
      → bit_on (sizes core) (put legs l (page_sector (sizes core) n p) (page_sector_of core p set)) k c j ≡ (if (k == n) && (page_of c == p) && (j == l) then set c else bit_on (sizes core) legs k c j)
  put_there k c j e =
      ap (λ s. page_has (sizes core) (page_of c) (if s then page_sector_of core p set else legs.content j (page_sector (sizes core) k (page_of c))).bytes c)
      (ap (λ t. (j == l) && t && legs.told l) (same_sectors (sizes core).second n p k (page_of c) (used_page_there (sizes core) p i page) (page_there (sizes core) c i (grind (arith, nat_tests))))
      ∙ turned (j == l) ((k == n) && (page_of c == p)) (legs.told l) told)
      ∙ by ((k == n) && (page_of c == p) && (j == l)) (λ t. second_of k n (page_of c) p (j == l) t)
    where
      by : (s : Bool) → (s ≡ true → page_of c ≡ p) → page_has (sizes core) (page_of c) (if s then page_sector_of core p set else legs.content j (page_sector (sizes core) k (page_of c))).bytes c ≡ (if s then set c else bit_on (sizes core) legs k c j)
      by true is = written_bit core p c set fits (is refl)
      by false is = refl

  by_chunk : (k c j : ℕ) (t : Bool) → nat_lt c (chunks_of (sizes core)) ≡ t
      → bit_on (sizes core) (put legs l (page_sector (sizes core) n p) (page_sector_of core p set)) k c j ≡ (if (k == n) && (page_of c == p) && (j == l) then set c else bit_on (sizes core) legs k c j)
  by_chunk k c j true e = put_there k c j e
  by_chunk k c j false e =
      let old = not_there (sizes core) (page_of c) c (legs.content j (page_sector (sizes core) k (page_of c))).bytes e in
      not_there (sizes core) (page_of c) c ((put legs l (page_sector (sizes core) n p) (page_sector_of core p set)).content j (page_sector (sizes core) k (page_of c))).bytes e
      ∙ sym old
      ∙ both_false ((k == n) && (page_of c == p) && (j == l)) (set c) (bit_on (sizes core) legs k c j) (never_set (set c) (chunks_of (sizes core)) c e (fits c)) old

  by_slot : (k c j : ℕ) (b : Bool) → nat_lt k (nodes_of (sizes core)) ≡ b
      → (b && bit_on (sizes core) (put legs l (page_sector (sizes core) n p) (page_sector_of core p set)) k c j) ≡ (if (k == n) && (page_of c == p) && (j == l) then set c else (b && bit_on (sizes core) legs k c j))
  by_slot k c j true e = by_chunk k c j (nat_lt c (chunks_of (sizes core))) refl
  by_slot k c j false e = unless_first (k == n) (page_of c == p) (j == l) (set c) false (past_nodes n k (nodes_of (sizes core)) lt e)

  -- the bits of the page that was written are those of its set, and all others stay
  pub bits_put : bits_on (sizes core) (put legs l (page_sector (sizes core) n p) (page_sector_of core p set)) ≡ with_page (bits_on (sizes core) legs) n p l set
  bits_put = fun_ext (λ k. fun_ext (λ c. fun_ext (λ j. by_slot k c j (nat_lt k (nodes_of (sizes core))) refl)))

-- Data.

before_data : (at s d : ℕ) → at < d → (d + s == at) ≡ false
before_data at s d lt = let ne : at < d + s = omega arith in grind (arith, nat_tests)

pub data_stays : (g : Sizes) (legs : Legs) (l at : ℕ) (v : Sector) → at < data_offset g → data_on g (put legs l at v) ≡ data_on g legs
data_stays g legs l at v lt = fun_ext (λ j. fun_ext (λ s. not_put (j == l) (data_offset g + s == at) (legs.told l) v (data_on g legs j s) (before_data at s (data_offset g) lt)))

same_place : (d s t : ℕ) → (d + t == d + s) ≡ (t == s)
same_place d s t = by (t == s) refl
  where
    by : (b : Bool) → (t == s) ≡ b → (d + t == d + s) ≡ b
    by true e = let same : t ≡ s = grind (arith, nat_tests) in let sums : d + t ≡ d + s = omega arith in grind (arith, nat_tests)
    by false e = by_sum (d + t == d + s) refl
      where
        by_sum : (b : Bool) → (d + t == d + s) ≡ b → b ≡ false
        by_sum false f = refl
        by_sum true f = let sums : d + t ≡ d + s = grind (arith, nat_tests) in let same : t ≡ s = omega arith in grind (arith, nat_tests)

-- the leg has the sector that was written, and all else stays
pub data_put : (g : Sizes) (legs : Legs) (l s : ℕ) (v : Sector) → legs.told l ≡ true → data_on g (put legs l (data_offset g + s) v) ≡ with_data (data_on g legs) l s v
data_put g legs l s v told = fun_ext (λ j. fun_ext (λ t. ap (λ b. if b then v else data_on g legs j t) (put_so j t)))
  where
    put_so : (j t : ℕ) → ((j == l) && (data_offset g + t == data_offset g + s) && legs.told l) ≡ ((j == l) && (t == s))
    put_so j t = ap (λ b. (j == l) && b && legs.told l) (same_place (data_offset g) s t) ∙ last (j == l) (t == s) (legs.told l) told
      where
        last : (a b c : Bool) → c ≡ true → (a && b && c) ≡ (a && b)
        last a b c e = grind arith

-- what a page has that was read is what stands there
pub page_stands : (g : Sizes) (legs : Legs) (l k p : ℕ) → k < nodes_of g → (c : ℕ) → page_has g p (legs.content l (page_sector g k p)).bytes c ≡ ((page_of c == p) && bits_on g legs k c l)
page_stands g legs l k p lt c = by (page_of c == p) refl
  where
    low : nat_lt k (nodes_of g) ≡ true
    low = grind (arith, nat_tests)

    third : (x y z : Bool) → y ≡ false → (x && y && z) ≡ false
    third x y z e = grind arith

    by : (b : Bool) → (page_of c == p) ≡ b → page_has g p (legs.content l (page_sector g k p)).bytes c ≡ (b && bits_on g legs k c l)
    by true e =
        let same : p ≡ page_of c = grind (arith, nat_tests) in
        ap (λ q. page_has g q (legs.content l (page_sector g k q)).bytes c) same ∙ sym (ap (λ t. t && bit_on g legs k c l) low)
    by false e = third (nat_lt c (chunks_of g)) (page_of c == p) (chunk_bit (legs.content l (page_sector g k p)).bytes c) e
