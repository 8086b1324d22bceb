-- The part at the opening, by a header or by images.
use Rattle.std.proofs.Common.{◌≡◌, inl, inr, ℕ, ◌+◌, ◌-◌, ◌*◌, ◌/◌, ◌%◌, ◌<◌, ◌≤◌, ◌==◌, ◌&&◌, Bool, true, false, if◌then◌else◌, [], ◌∷◌, Some, None, replicate, refl, sym, ap, subst, ◌∙◌, arith, nat_lt, nat_le}
use Rattle.std.proofs.lemmas.Bool.Decides.{nat_tests}
use Rattle.std.proofs.lemmas.List.{get_or-replicate}
use Rattle.std.proofs.lemmas.Nat.Bits.{bit_at-zero}
use Rattle.dlm_modes.specs.declared.mode.Mode.TheVariants.{CR}
use Rattle.mdc_types.specs.Bits.{has_bit}
use Rattle.mdc_types.specs.Geometry.{chunks_of, nodes_of, page_of, page_sector, slot_pages, data_offset}
use Rattle.mdc_types.specs.Roles.{role_of}
use Rattle.mdc_types.specs.Sectors.{zero_sector}
use Rattle.mdc_types.specs.declared.numbers.Sector.{Sector}
use Rattle.mdc_types.specs.declared.roles.NodeState.TheVariants as states
use Rattle.cluster_msgs.specs.Ranges.{IsRange, spelled_range}
use Rattle.cluster_msgs.specs.Reading.{range_in}
use Rattle.cluster_msgs.proofs.Said.{says_the_range}
use Rattle.dlm_space.specs.Locks.{zero_block}
use Rattle.msg_rounds.specs.Locks.{ack_res}
use Rattle.msg_rounds.specs.Phases.{new_receiving}
use Rattle.msg_rounds.specs.declared.phases.SenderPhase.TheVariants as senders
use Rattle.leg_failure.specs.Views.{new_view}
use Rattle.plain_history.specs.History.{values_at}
use Rattle.md_superblock.specs.Arrays.{super_for, spelled}
use Rattle.slot_pages.specs.Slot.{page_has, spelled_page, chunk_bit}
use Rattle.slot_pages.proofs.Spelled.{has_the_set}
use Rattle.cluster_model.specs.State.{State, Legs, Untried}
use Rattle.cluster_model.specs.Changes.{no_view, no_copy, not_adding, no_new_dev}
use Rattle.cluster_model.specs.Contents.{Opens, IsHeader, IsImages, header_sector, slot_sector, AllTell}
use Rattle.cluster_model.specs.Joining.{told_range}
use Rattle.cluster_model.specs.Opening.{Origin, IsOrigin, array_of, says_of, is_member, of_member, opening_set, bitmap_at, locks_at, held_by_members, bitmap_lock}
use Rattle.cluster_model.specs.Stored.{bit_on, data_on}
use Rattle.laws_roles.specs.Laws.{Tells}
use Rattle.laws_roles.proofs.Opening as role_opening
use Rattle.laws_roles.proofs.Opening.{opening_begins}
use Rattle.laws_roles.proofs.Parts.{ghost_at}
use Rattle.storage_ways.proofs.Blocks.{told_in, told_at}
use Rattle.storage_ways.proofs.Parts.{Part, bits_on, told_by}
use Rattle.storage_ways.proofs.Place.{here}
use Rattle.storage_ways.proofs.Runs.{At, around_at}
use Rattle.storage_ways.proofs.Standing.{page_before, page_there}

-- what the part has at the opening
pub record Begins (o : Origin) (legs : Legs) (w : Part) : Type 0 where
  pub geometry : w.geometry ≡ o.sizes
  pub state : (n : ℕ) → w.state n ≡ of_member o n states.Up states.Out
  pub view : (n : ℕ) → w.view n ≡ of_member o n (new_view (role_of o.roles) o.sizes.sectors (λ l. false)) no_view
  pub sender : (n : ℕ) → w.sender n ≡ senders.Idle
  pub offer : (n : ℕ) → w.offer n ≡ None
  pub receiver : (n : ℕ) → w.receiver n ≡ new_receiving
  pub heard : (n : ℕ) → w.heard n ≡ None
  pub tried : (n l : ℕ) → w.tried n l ≡ Untried
  pub adding : (n : ℕ) → w.adding n ≡ not_adding
  pub copy : (n : ℕ) → w.copy n ≡ no_copy
  pub recovery : (n : ℕ) → w.recovery n ≡ None
  pub writes : (n : ℕ) → w.writes n ≡ []
  pub bitmap : (n : ℕ) → w.bitmap n ≡ bitmap_at o n
  pub suspended : (n m : ℕ) → w.suspended n m ≡ None
  pub told : (m : ℕ) → w.told m ≡ None
  pub live : (n : ℕ) → w.live n ≡ has_bit o.members n
  pub pending : (d : ℕ) → w.pending d ≡ has_bit o.pending d
  pub heir : (d : ℕ) → w.heir d ≡ None
  pub drawn : w.drawn ≡ o.events
  pub completed : w.completed ≡ o.events
  pub bit : w.bit ≡ bits_on o.sizes legs
  pub stored : w.stored ≡ data_on o.sizes legs
  pub values : w.values ≡ values_at o.base
  pub broken : (n s : ℕ) → w.broken n s ≡ false
  pub since : (n s : ℕ) → w.since n s ≡ false
  -- superblocks, and the ghosts of roles by the leg with the newest
  pub super : role_opening.Begins o w.super
  pub ghost : w.ghost ≡ ghost_at o super.home
  -- what surely stands stands
  pub mark_bit : (n c l : ℕ) → (w.bitmap n).marks c l ≡ true → w.bit n c l ≡ true

-- Blocks are zero, which tells the empty range.

zero_told : told_range (range_in zero_block.bytes) ≡ None
unfolding zero_block spelled_range
zero_told =
    let is : IsRange (record { lo = 0; hi = 0 }) = record { hi = omega arith; order = λ lt. absurd (omega arith); empty = λ z. refl } in
    let read : range_in (replicate 64 0) ≡ Some (record { lo = 0; hi = 0 }) = (says_the_range (replicate 64 0) (record { lo = 0; hi = 0 })).1 (record { range = is; bytes_are = zeros }) in
    ap told_range read
  where
    zeros : replicate 64 0 ≡ spelled_range (record { lo = 0; hi = 0 })
    zeros = refl

opening_told : (o : Origin) (m : ℕ) → told_by (locks_at o) m ≡ None
opening_told o m = told_at (locks_at o) m ∙ by (nat_lt m 16)
  where
    there : (a b : Bool) → told_in (if a then held_by_members o CR else if b then held_by_members o CR else bitmap_lock o m) ≡ None
    there true b = zero_told
    there false true = zero_told
    there false false = zero_told

    by : (b : Bool) → (if b then told_in (locks_at o m) else None) ≡ None
    by true = there (m == ack_res) (m == no_new_dev)
    by false = refl

-- Headers.

slot_there : (second : Bool) (n p : ℕ) → p < (if second then 16 else 8)
    → (((16 + (if second then 16 else 8) * n + p - 16) / (if second then 16 else 8)) ≡ n) × (((16 + (if second then 16 else 8) * n + p - 16) % (if second then 16 else 8)) ≡ p)
slot_there true n p lt = (omega arith, omega arith)
slot_there false n p lt = (omega arith, omega arith)

abbrev header_super : Origin → ℕ → Sector
header_super o l = record { bytes = spelled (super_for (array_of o) l (says_of o)) }

-- what a header has at a page, and at a data sector
header_page : (o : Origin) (l n p : ℕ) → n < nodes_of o.sizes → p < slot_pages o.sizes → header_sector o l (page_sector o.sizes n p) ≡ record { bytes = spelled_page o.sizes o.uuid p (opening_set o n) }
header_page o l n p lt page =
    by (header_super o l) (slot_sector o (page_sector o.sizes n p)) zero_sector (page_sector o.sizes n p == 8) (nat_le 16 (page_sector o.sizes n p)) (nat_lt (page_sector o.sizes n p) (data_offset o.sizes)) (not_eight (page_sector o.sizes n p) far) (le_true 16 (page_sector o.sizes n p) far) (lt_true (page_sector o.sizes n p) (data_offset o.sizes) (page_before o.sizes n p lt page))
    ∙ slot (slot_there o.sizes.second n p page)
  where
    far : 16 ≤ page_sector o.sizes n p
    far = past (slot_pages o.sizes * n) p
      where
        past : (a b : ℕ) → 16 ≤ 16 + a + b
        past a b = omega arith

    not_eight : (at : ℕ) → 16 ≤ at → (at == 8) ≡ false
    not_eight at le = grind (arith, nat_tests)

    le_true : (a b : ℕ) → a ≤ b → nat_le a b ≡ true
    le_true a b le = grind (arith, nat_tests)

    lt_true : (a b : ℕ) → a < b → nat_lt a b ≡ true
    lt_true a b le = grind (arith, nat_tests)

    by : (v u w : Sector) (a b c : Bool) → a ≡ false → b ≡ true → c ≡ true → (if a then v else if b && c then u else w) ≡ u
    by v u w a b c e f h = rw (e, f, h) refl

    slot : (((page_sector o.sizes n p - 16) / slot_pages o.sizes) ≡ n) × (((page_sector o.sizes n p - 16) % slot_pages o.sizes) ≡ p) → slot_sector o (page_sector o.sizes n p) ≡ record { bytes = spelled_page o.sizes o.uuid p (opening_set o n) }
    slot two = ap (λ k. record { bytes = spelled_page o.sizes o.uuid ((page_sector o.sizes n p - 16) % slot_pages o.sizes) (opening_set o k) }) two.0 ∙ ap (λ q. record { bytes = spelled_page o.sizes o.uuid q (opening_set o n) }) two.1

header_data : (o : Origin) (l s : ℕ) → header_sector o l (data_offset o.sizes + s) ≡ zero_sector
header_data o l s = by (header_super o l) (slot_sector o (data_offset o.sizes + s)) zero_sector (data_offset o.sizes + s == 8) (nat_le 16 (data_offset o.sizes + s)) (nat_lt (data_offset o.sizes + s) (data_offset o.sizes)) (not_eight (data_offset o.sizes + s) (far o.sizes.second)) (past (data_offset o.sizes) s)
  where
    far : (b : Bool) → 16 ≤ (if b then 272 else 80) + s
    far true = omega arith
    far false = omega arith

    not_eight : (at : ℕ) → 16 ≤ at → (at == 8) ≡ false
    not_eight at le = grind (arith, nat_tests)

    past : (d s : ℕ) → nat_lt (d + s) d ≡ false
    past d s = by_test (nat_lt (d + s) d) refl
      where
        by_test : (b : Bool) → nat_lt (d + s) d ≡ b → b ≡ false
        by_test false e = refl
        by_test true e = let lt : d + s < d = grind (arith, nat_tests) in absurd (omega arith)

    by : (v u w : Sector) (a b c : Bool) → a ≡ false → c ≡ false → (if a then v else if b && c then u else w) ≡ w
    by v u w a b c e f = by_second b
      where
        by_second : (b : Bool) → (if a then v else if b && c then u else w) ≡ w
        by_second true = rw (e, f) refl
        by_second false = rw e refl

within_leg : (second : Bool) (n p room : ℕ) → 16 + (if second then 16 else 8) * n + p < (if second then 272 else 80) → 16 + (if second then 16 else 8) * n + p < (if second then 272 else 80) + room
within_leg second n p room lt = omega arith

-- what stands at the opening of a header
pub record HeaderStands (o : Origin) (w : Part) : Type 0 where
  pub bit : (n c l : ℕ) → l < o.sizes.legs → w.bit n c l ≡ opening_set o n c
  pub stored : (l s : ℕ) → l < o.sizes.legs → s < o.sizes.room → w.stored l s ≡ zero_sector
  pub values : (s : ℕ) → s < o.sizes.room → w.values s ≡ zero_sector ∷ []
  pub pending : (d : ℕ) → w.pending d ≡ false

zero_bit : (d : ℕ) → has_bit 0 d ≡ false
zero_bit d = rw (bit_at-zero d) refl

module _ (o : Origin) (legs : Legs) (i : IsOrigin o) (tells : AllTell o legs) (h : IsHeader o legs) where
  header_bit_there : (n c l : ℕ) → l < o.sizes.legs → n < nodes_of o.sizes → (b : Bool) → nat_lt c (chunks_of o.sizes) ≡ b → bit_on o.sizes legs n c l ≡ opening_set o n c
  header_bit_there n c l leg lt false e =
      let none : opening_set o n c ≡ false = no_set (is_member o n) o.warm (nat_lt c (chunks_of o.sizes)) e in
      ap (λ t. t && (page_of c == page_of c) && chunk_bit (legs.content l (page_sector o.sizes n (page_of c))).bytes c) e ∙ sym none
    where
      no_set : (a b c : Bool) → c ≡ false → (a && b && c) ≡ false
      no_set a b c e = grind arith
  header_bit_there n c l leg lt true e =
      let page = page_there o.sizes c i.sizes (grind (arith, nat_tests)) in
      let at = page_sector o.sizes n (page_of c) in
      ap (λ (x : Sector). page_has o.sizes (page_of c) x.bytes c) (h.contents l at leg (within_leg o.sizes.second n (page_of c) o.sizes.room (page_before o.sizes n (page_of c) lt page)) (tells l leg) ∙ header_page o l n (page_of c) lt page)
      ∙ has_the_set o.sizes o.uuid (page_of c) (opening_set o n) c
      ∙ all_there (nat_lt c (chunks_of o.sizes)) (page_of c == page_of c) (opening_set o n c) e (grind (arith, nat_tests))
    where
      all_there : (a b s : Bool) → a ≡ true → b ≡ true → (a && b && s) ≡ s
      all_there a b s e f = rw (e, f) refl

  header_bit : (n c l : ℕ) → l < o.sizes.legs → bits_on o.sizes legs n c l ≡ opening_set o n c
  header_bit n c l leg = by (nat_lt n (nodes_of o.sizes)) refl
    where
      by : (b : Bool) → nat_lt n (nodes_of o.sizes) ≡ b → (b && bit_on o.sizes legs n c l) ≡ ((b && has_bit o.members n) && o.warm && nat_lt c (chunks_of o.sizes))
      by false e = refl
      by true e = header_bit_there n c l leg (grind (arith, nat_tests)) (nat_lt c (chunks_of o.sizes)) refl ∙ ap (λ t. (t && has_bit o.members n) && o.warm && nat_lt c (chunks_of o.sizes)) e

  header_stored : (l s : ℕ) → l < o.sizes.legs → s < o.sizes.room → data_on o.sizes legs l s ≡ zero_sector
  header_stored l s leg lt = h.contents l (data_offset o.sizes + s) leg (omega (arith, lt)) (tells l leg) ∙ header_data o l s

  header_values : (s : ℕ) → s < o.sizes.room → values_at o.base s ≡ zero_sector ∷ []
  header_values s lt = ap (λ (x : Origin). values_at x.base s) h.header ∙ get_or-replicate o.sizes.room s (zero_sector ∷ []) [] lt

  header_pending : (d : ℕ) → has_bit o.pending d ≡ false
  header_pending d = ap (λ (x : Origin). has_bit x.pending d) h.header ∙ zero_bit d

no_members : (o : Origin) (n : ℕ) → o.members ≡ 0 → is_member o n ≡ false
no_members o n e = let none : has_bit o.members n ≡ false = rw (e, bit_at-zero n) refl in second (nat_lt n (nodes_of o.sizes)) (has_bit o.members n) none
  where
    second : (a b : Bool) → b ≡ false → (a && b) ≡ false
    second a b e = grind arith

module _ (o : Origin) (start : State) (opens : Opens o start) (tells : Tells o start) where
  -- who opens with marks is a member, on a leg of the array, and its bits stand there
  marked : (n c l : ℕ) → (bitmap_at o n).marks c l ≡ true → bits_on o.sizes start.legs n c l ≡ true
  marked n c l e =
      let two = split (opening_set o n c) (nat_lt l o.sizes.legs) e in
      elim opens.contents [
        | inl h ↦ header_bit o start.legs opens.origin tells.legs h n c l (below l o.sizes.legs two.1) ∙ two.0
        | inr h ↦ absurd (never (is_member o n) o.warm (nat_lt c (chunks_of o.sizes)) (no_members o n h.nobody.0) two.0)
      ]
    where
      split : (a b : Bool) → (a && b) ≡ true → (a ≡ true) × (b ≡ true)
      split a b e = grind arith

      below : (a b : ℕ) → nat_lt a b ≡ true → a < b
      below a b e = grind (arith, nat_tests)

      never : (a b c : Bool) → a ≡ false → (a && b && c) ≡ true → ⊥
      never a b c e f = grind arith

  pub begins : Begins o start.legs (At o start opens tells [] start)
  begins =
      subst (λ c. Begins o start.legs (here c (around_at o start opens tells [] start))) (sym opens.core)
      (record {
        geometry = refl;
        state = λ n. refl;
        view = λ n. refl;
        sender = λ n. refl;
        offer = λ n. refl;
        receiver = λ n. refl;
        heard = λ n. refl;
        tried = λ n l. refl;
        adding = λ n. refl;
        copy = λ n. refl;
        recovery = λ n. refl;
        writes = λ n. refl;
        bitmap = λ n. refl;
        suspended = λ n m. refl;
        told = opening_told o;
        live = λ n. refl;
        pending = λ d. refl;
        heir = λ d. refl;
        drawn = refl;
        completed = refl;
        bit = refl;
        stored = refl;
        values = refl;
        broken = λ n s. refl;
        since = λ n s. refl;
        super = opening_begins o start opens tells;
        ghost = refl;
        mark_bit = marked;
      })

  pub header_stands : IsHeader o start.legs → HeaderStands o (At o start opens tells [] start)
  header_stands h =
      subst (λ c. HeaderStands o (here c (around_at o start opens tells [] start))) (sym opens.core)
      (record {
        bit = header_bit o start.legs opens.origin tells.legs h;
        stored = header_stored o start.legs opens.origin tells.legs h;
        values = header_values o start.legs opens.origin tells.legs h;
        pending = header_pending o start.legs opens.origin tells.legs h;
      })

  -- by images nobody is in
  pub images_rest : IsImages o start.legs → (n : ℕ) → is_member o n ≡ false
  images_rest h n = no_members o n h.nobody.0
