-- What bytes say: exactly what they spell.
use Rattle.std.proofs.Common.{◌≡◌, ◌∙◌, sym, ℕ, zero, suc, ◌+◌, ◌*◌, ◌^◌, ◌<◌, ◌≤◌, ◌==◌, nat_lt, nat_le, Bool, true, false, if◌then◌else◌, List, length, drop, Option, Some, None, refl, arith}
use Rattle.std.specs.Prelude.{◌↔◌}
use Rattle.std.specs.Bool.{Decides}
use Rattle.std.specs.Str.{bytes_eq}
use Rattle.std.proofs.lemmas.Bool.{and_parts, and_from, leb-true, le-leb, ltb-true, lt-ltb, eqb-true, eq-eqb}
use Rattle.std.proofs.lemmas.Bool.Decides.{nat_tests}
use Rattle.std.proofs.lemmas.List.{get_or-drop}
use Rattle.std.proofs.lemmas.List.FromFn.{get_or-map-range_with_len, length-map-range_with_len}
use Rattle.std.proofs.lemmas.Slice.Eq.{bytes_eq-Decides}
use borrow.Rule.Slice.PartMut.{mid_of}
use Rattle.byteorder.specs.Endian.{little_from, little_number}
use Rattle.byteorder.specs.Numbers.{little_from-take}
use Rattle.mdc_types.specs.Roles.{role_of, some_works}
use Rattle.mdc_types.specs.declared.numbers.Range.{Range}
use Rattle.mdc_types.specs.declared.roles.Roles.{Roles}
use Rattle.cluster_msgs.specs.declared.msg.Body.{Body}
use Rattle.cluster_msgs.specs.declared.msg.Body.TheVariants.{Metadata, Resyncing, NewDisk, Remove, ReAdd, NeedsSync, Capacity}
use Rattle.cluster_msgs.specs.declared.msg.Msg.{Msg}
use Rattle.cluster_msgs.specs.Messages.{IsState, IsBody, HasArrays, IsMsg, Spells, spelled}
use Rattle.cluster_msgs.specs.Ranges.{IsRange, SpellsRange, spelled_range}
use Rattle.cluster_msgs.specs.Reading.{fields_in, where_true, is_range, range_of, range_in, is_within, is_state, is_body, is_message, msg_of, message_in}
use Rattle.cluster_msgs.proofs.Bytes.{ReadFrom, fields_are, range_of-spelled}
use Rattle.cluster_msgs.proofs.Spelling.{msg_of-spelled}

-- Fields by their places.

little_from-drop : (n i j at : ℕ) (bytes : List ℕ) → j ≡ at + i → little_from i n (drop at bytes) ≡ little_from j n bytes
little_from-drop zero i j at bytes e = refl
little_from-drop (suc n) i j at bytes e =
    let byte = get_or-drop at bytes i 0 in
    let rest = little_from-drop n (suc i) (suc j) at bytes (omega arith) in
    rw (byte, rest, e) refl

-- a number of a part
pub number_of_part : (n i at k j : ℕ) (bytes : List ℕ) → i + n ≤ k → j ≡ at + i → little_from i n (mid_of at k bytes) ≡ little_from j n bytes
number_of_part n i at k j bytes fits place =
    little_from-take i n k (drop at bytes) fits ∙ little_from-drop n i j at bytes place

role_at : (bytes : List ℕ) (k : ℕ) → k < 8 → little_from (48 + 2 * k) 2 bytes ≡ little_number 2 (drop (2 * k) (mid_of 48 16 bytes))
role_at bytes k lt =
    sym (little_from-drop 2 0 (2 * k) (2 * k) (mid_of 48 16 bytes) (omega arith) ∙ number_of_part 2 (2 * k) 48 16 (48 + 2 * k) bytes (omega arith) refl)

pub fields_in-reads : (bytes : List ℕ) → ReadFrom (fields_in bytes) bytes
unfolding fields_in
fields_in-reads bytes =
    let word : ℕ → ℕ = λ l. little_from (48 + 2 * l) 2 bytes in
    let eight = length-map-range_with_len word 0 8 in
    record {
      kind = sym (number_of_part 4 0 0 64 0 bytes (omega arith) refl);
      slot = sym (number_of_part 4 0 4 60 4 bytes (omega arith) refl);
      first = sym (number_of_part 8 0 8 56 8 bytes (omega arith) refl);
      second = sym (number_of_part 8 0 16 48 16 bytes (omega arith) refl);
      leg = sym (number_of_part 4 0 24 40 24 bytes (omega arith) refl);
      uuid = refl;
      roles = λ k lt.
          let below : k < 8 = omega (arith, lt, eight) in
          get_or-map-range_with_len word 0 8 k k 0 below (omega arith) ∙ role_at bytes k below;
      eight = eight;
    }

-- Tests.

pub where_true-some : {A : Type 0} (test : A → Bool) (o : Option A) (a : A) → where_true test o ≡ Some a → test a ≡ true
where_true-some test None a e = cc
where_true-some test (Some b) a e = elim (test b) as (λ t. test b ≡ t → (if t then Some b else None) ≡ Some a → test a ≡ true) [
  | true ↦ λ is same. cc
  | false ↦ λ is same. cc
] refl e

pub where_true-of : {A : Type 0} (test : A → Bool) (o : Option A) (a : A) → o ≡ Some a → test a ≡ true → where_true test o ≡ Some a
where_true-of test o a e is = rw (e, is) refl

pub range_test : (r : Range) → Decides (is_range r) (IsRange r)
range_test r = (
  λ e. record { hi = grind (arith, nat_tests, e); order = grind (arith, nat_tests, e); empty = grind (arith, nat_tests, e) },
  λ is. grind (arith, nat_tests, is.hi, is.order, is.empty),
)

within_test : (least most n : ℕ) → Decides (is_within least most n) ((least ≤ n) × (n ≤ most))
within_test least most n = (
  λ e. let parts = and_parts (nat_le least n) (nat_le n most) e in (leb-true least n parts.0, leb-true n most parts.1),
  λ is. and_from (nat_le least n) (nat_le n most) (le-leb least n is.0) (le-leb n most is.1),
)

-- the state is in range, and has eight roles
state_test : (events : ℕ) (roles : Roles) (size : ℕ) → Decides (is_state events roles size) (IsState events roles size × (length roles.legs ≡ 8))
state_test events roles size =
    let number = within_test 1 (2 ^ 63) events in
    let sectors = within_test 1 131072 size in (
      λ e.
          let outer = and_parts _ (length roles.legs == 8) e in
          let inner = and_parts _ (some_works (role_of roles)) outer.0 in
          let both = and_parts (is_within 1 (2 ^ 63) events) (is_within 1 131072 size) inner.0 in
          (record { number = number.0 both.0; sectors = sectors.0 both.1; working = inner.1 }, eqb-true (length roles.legs) 8 outer.1),
      λ is. rw (number.1 is.0.number, sectors.1 is.0.sectors, is.0.working, is.1) refl,
    )

pub body_test : (b : Body) → Decides (is_body b) (IsBody b × HasArrays b)
body_test (Metadata events roles size) = state_test events roles size
body_test (Resyncing r) = let test = range_test r in (λ e. (test.0 e, tt), λ is. test.1 is.0)
body_test (NewDisk leg uuid) = (
  λ e. let parts = and_parts (nat_lt leg 8) (length uuid == 16) e in (ltb-true leg 8 parts.0, eqb-true (length uuid) 16 parts.1),
  λ is. and_from (nat_lt leg 8) (length uuid == 16) (lt-ltb leg 8 is.0) (eq-eqb (length uuid) 16 is.1),
)
body_test (Remove leg) = (λ e. (ltb-true leg 8 e, tt), λ is. lt-ltb leg 8 is.0)
body_test (ReAdd leg) = (λ e. (ltb-true leg 8 e, tt), λ is. lt-ltb leg 8 is.0)
body_test NeedsSync = (λ e. (tt, tt), λ is. refl)
body_test (Capacity events roles size) = state_test events roles size

pub message_test : (m : Msg) → Decides (is_message m) (IsMsg m)
message_test m = let body = body_test m.body in (
  λ e.
      let parts = and_parts (nat_lt m.slot 16) (is_body m.body) e in
      let inside = body.0 parts.1 in
      record { ranges = record { slot = ltb-true m.slot 16 parts.0; body = inside.0 }; arrays = inside.1 },
  λ is. and_from (nat_lt m.slot 16) (is_body m.body) (lt-ltb m.slot 16 is.ranges.slot) (body.1 (is.ranges.body, is.arrays)),
)

-- The laws.

pub msg_of-bytes : (bytes : List ℕ) (m : Msg) → Spells bytes m → msg_of (fields_in bytes) ≡ Some m
msg_of-bytes bytes m is = msg_of-spelled bytes (fields_in bytes) m (λ g fits e. fields_are (fields_in bytes) g bytes (fields_in-reads bytes) fits e) is

pub says_what_is_spelled : (bytes : List ℕ) (m : Msg) → (message_in bytes ≡ Some m) ↔ Spells bytes m
unfolding message_in
says_what_is_spelled bytes m =
    let same = bytes_eq-Decides bytes (spelled m) in (
      λ e.
          let parts = and_parts (is_message m) (bytes_eq bytes (spelled m)) (where_true-some _ (msg_of (fields_in bytes)) m e) in
          record { message = (message_test m).0 parts.0; bytes_are = same.0 parts.1 },
      λ is. where_true-of _ (msg_of (fields_in bytes)) m (msg_of-bytes bytes m is) (and_from (is_message m) (bytes_eq bytes (spelled m)) ((message_test m).1 is.message) (same.1 is.bytes_are)),
    )

pub says_the_range : (bytes : List ℕ) (r : Range) → (range_in bytes ≡ Some r) ↔ SpellsRange bytes r
unfolding range_in
says_the_range bytes r =
    let same = bytes_eq-Decides bytes (spelled_range r) in
    let ends = range_of (little_from 0 8 bytes) (little_from 8 8 bytes) in
    let lo = number_of_part 8 0 0 64 0 bytes (omega arith) refl in
    let hi = number_of_part 8 0 8 56 8 bytes (omega arith) refl in (
      λ e.
          let parts = and_parts (is_range r) (bytes_eq bytes (spelled_range r)) (where_true-some _ ends r e) in
          record { range = (range_test r).0 parts.0; bytes_are = same.0 parts.1 },
      λ is. where_true-of _ ends r (range_of-spelled bytes r _ _ is (sym lo) (sym hi)) (and_from (is_range r) (bytes_eq bytes (spelled_range r)) ((range_test r).1 is.range) (same.1 is.bytes_are)),
    )

-- What a reader finds on its way.

where_true-not : {A : Type 0} (test : A → Bool) (o : Option A) (a : A) → o ≡ Some a → ¬ (test a ≡ true) → where_true test o ≡ None
where_true-not test o a e fails = elim (test a) as (λ t. test a ≡ t → where_true test o ≡ None) [
  | true ↦ λ is. absurd (fails is)
  | false ↦ λ is. rw (e, is) refl
] refl

pub no_message : (bytes : List ℕ) → msg_of (fields_in bytes) ≡ None → message_in bytes ≡ None
unfolding message_in
no_message bytes e = rw e refl

pub other_message : (bytes : List ℕ) (m : Msg) → msg_of (fields_in bytes) ≡ Some m → ¬ Spells bytes m → message_in bytes ≡ None
unfolding message_in
other_message bytes m e not = where_true-not _ (msg_of (fields_in bytes)) m e (λ is. not
    (let parts = and_parts (is_message m) (bytes_eq bytes (spelled m)) is in
    record { message = (message_test m).0 parts.0; bytes_are = (bytes_eq-Decides bytes (spelled m)).0 parts.1 }))

-- the range with the ends that a block has
pub ends_in : List ℕ → Option Range
ends_in bytes = range_of (little_from 0 8 bytes) (little_from 8 8 bytes)

pub ends_read : (bytes : List ℕ) (lo hi : ℕ) → lo ≡ little_number 8 (mid_of 0 64 bytes) → hi ≡ little_number 8 (mid_of 8 56 bytes) → range_of lo hi ≡ ends_in bytes
unfolding ends_in
ends_read bytes lo hi from to = rw (from, to, number_of_part 8 0 0 64 0 bytes (omega arith) refl, number_of_part 8 0 8 56 8 bytes (omega arith) refl) refl

pub no_range : (bytes : List ℕ) → ends_in bytes ≡ None → range_in bytes ≡ None
unfolding range_in ends_in
no_range bytes e = rw e refl

pub other_range : (bytes : List ℕ) (r : Range) → ends_in bytes ≡ Some r → ¬ SpellsRange bytes r → range_in bytes ≡ None
unfolding range_in ends_in
other_range bytes r e not = where_true-not _ (range_of (little_from 0 8 bytes) (little_from 8 8 bytes)) r e (λ is. not
    (let parts = and_parts (is_range r) (bytes_eq bytes (spelled_range r)) is in
    record { range = (range_test r).0 parts.0; bytes_are = (bytes_eq-Decides bytes (spelled_range r)).0 parts.1 }))
