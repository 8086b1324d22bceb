-- Each call keeps the invariant.
use Rattle.std.proofs.Common.{◌≡◌, ◌≢◌, ◌⊎◌, inl, inr, ℕ, zero, suc, ◌%◌, ◌<◌, ◌≤◌, List, [], ◌∷◌, ◌++◌, Bool, true, false, ◌==◌, ◌&&◌, ◌||◌, nat_lt, Option, Some, None, refl, sym, ap, ◌∙◌, subst, arith, if◌then◌else◌}
use Rattle.std.specs.Prelude.{slice_index_or}
use Rattle.std.specs.Option.{option_map}
use Rattle.std.proofs.lemmas.Bool.Decides.{nat_tests}
use Rattle.std.proofs.Math.Nat.{mod-lt}
use Rattle.dlm_modes.proofs.FirstLaws.{first_such_some, first_such_none}
use Rattle.dlm_modes.specs.Guards.{unless, or_then}
use Rattle.dlm_modes.specs.Points.{with_at}
use Rattle.dlm_modes.specs.declared.block.Block.{Block}
use Rattle.dlm_modes.specs.declared.mode.Mode.{Mode}
use Rattle.dlm_space.specs.Locks.{Lock, new_lock, died, granted, grant_refusal, grant_answer}
use Rattle.dlm_space.specs.declared.answers.Granted.{Granted}
use Rattle.lock_wire.specs.Packets.{first, rest}
use Rattle.lock_wire.specs.Machine
use Rattle.lock_wire.specs.Machine.{Wire, Ward, with_cell, master_of, lock_at, first_awaited, is_awaited, with_local, sent, with_table, with_ward, written, taken_report, asking, converts, releases, entered, convert_writes, release_writes, named, last_caller, calls_to, calls_out, calls_unless, then_calls, reported_one, reported, received, delivered, told, serve_answer, served_to, served, heir, report_of, without_node, heirs_ward, taken_over, died_of, opened}
use Rattle.lock_wire.specs.declared.local.Local.{Local}
use Rattle.lock_wire.specs.declared.local.Local.TheVariants.{Free, Held}
use Rattle.lock_wire.specs.declared.packet.Packet.{Packet}
use Rattle.lock_wire.specs.declared.packet.Packet.TheVariants as packets
use Rattle.laws_wire.specs.Views.{Word, Asked, Converted, Released, Told, Is, heard, proper, told_word, word_of, words, grant_of, grants}
use Rattle.laws_wire.specs.Invariants.{KeptOf, Kept, Inv}
use Rattle.laws_wire.proofs.Steps.{same_or}
use Rattle.laws_wire.proofs.Links.{words-push, grants-push, words-calls, grants-calls, nothing_more, cell_own, cell_to, cell_from, cell_same}
use Rattle.lock_wire.proofs.Reports.{state_of}
use Rattle.lock_wire.proofs.Wires.{reported-zero, reported-suc}
use Rattle.laws_wire.proofs.Kept.{same_kept, says, takes, hears_an_ask, hears_a_conversion, hears_a_release, hears_a_report, serves_one, loses, changes_master}

-- where nothing of the resource changes
pub same_wire : (w v : Wire) (s : ℕ) → v.live ≡ w.live → master_of v s ≡ master_of w s → (v.ward s).awaited ≡ (w.ward s).awaited → ((k : ℕ) → v.table k s ≡ w.table k s) → ((n : ℕ) → v.local n s ≡ w.local n s) → ((a b : ℕ) → words s (v.link a b) ≡ words s (w.link a b)) → ((a b : ℕ) → grants s (v.link a b) ≡ grants s (w.link a b)) → Kept w s → Kept v s
same_wire w v s el em ea et eo ew eg i =
    same_kept w.live v.live (master_of w s) (master_of v s) ((w.ward s).awaited) ((v.ward s).awaited) (λ m. w.table m s) (λ m. v.table m s) (λ n. w.local n s) (λ n. v.local n s) (λ a b. words s (w.link a b)) (λ a b. words s (v.link a b)) (λ a b. grants s (w.link a b)) (λ a b. grants s (v.link a b)) el em ea et eo ew eg i

ward_keeps : {A : Type 0} (g : Ward → A) (ward : ℕ → Ward) (r : ℕ) (u : Ward) (s : ℕ) → g u ≡ g (ward r) → g (with_at ward r u s) ≡ g (ward s)
ward_keeps g ward r u s e =
    elim (s == r) as (λ t. (s == r) ≡ t → g (if t then u else ward s) ≡ g (ward s)) [
      | true ↦ λ t. let same : s ≡ r = grind (arith, nat_tests) in e ∙ ap (λ k. g (ward k)) (sym same)
      | false ↦ λ t. refl
    ] refl

-- Callbacks.

pub kept_calls : (w : Wire) (m r s : ℕ) → Kept w s → Kept (calls_out w m r) s
kept_calls w m r s i =
    same_wire w (calls_out w m r) s refl
    (ward_keeps (λ u. u.master) w.ward r _ s refl)
    (ward_keeps (λ u. u.awaited) w.ward r _ s refl)
    (λ k. refl)
    (λ n. refl)
    (λ a b. elim (a == m) as (λ t. words s (if t then w.link a b ++ calls_to r (named w m r b) else w.link a b) ≡ words s (w.link a b)) [ true ↦ words-calls s r (w.link a b) (named w m r b) | false ↦ refl ])
    (λ a b. elim (a == m) as (λ t. grants s (if t then w.link a b ++ calls_to r (named w m r b) else w.link a b) ≡ grants s (w.link a b)) [ true ↦ grants-calls s r (w.link a b) (named w m r b) | false ↦ refl ])
    i

pub kept_unless : (o : Option ℕ) (w : Wire) (m r s : ℕ) → Kept w s → Kept (calls_unless o w m r) s
kept_unless None w m r s i = kept_calls w m r s i
kept_unless (Some n) w m r s i = i

-- A node's own calls.

other_test : (r s : ℕ) → s ≢ r → (r == s) ≡ false
other_test r s ne = grind (arith, nat_tests)

pub kept_said : (w : Wire) (n r : ℕ) (l : Local) (p : Packet) (word : Word) → w.live n ≡ true → heard (Is (w.local n r)) word ≡ Is l → proper l ≡ true → word_of r p [] ≡ word ∷ [] → ((s : ℕ) → s ≢ r → word_of s p [] ≡ []) → ((s : ℕ) → grant_of s p [] ≡ []) → (s : ℕ) → Kept w s → Kept (sent (with_local w n r l) n (master_of w r) p) s
kept_said w n r l p word ln h pr own none gives s i = elim (same_or s r) [
  | inl e ↦ subst (λ k. Kept w k → Kept v k) (sym e) here i
  | inr ne ↦
      same_wire w v s refl refl refl (λ k. refl) (λ k. cell_to w.local n r l k s ne)
      (λ a b. cell_same (words s) w.link n m (w.link n m ++ p ∷ []) a b (words-push s (w.link n m) p ∙ ap (λ x. words s (w.link n m) ++ x) (none s ne) ∙ nothing_more (words s (w.link n m))))
      (λ a b. given s a b)
      i
]
  where
    m : ℕ
    m = master_of w r

    v : Wire
    v = sent (with_local w n r l) n (master_of w r) p

    given : (s a b : ℕ) → grants s (with_cell w.link n (master_of w r) (w.link n (master_of w r) ++ p ∷ []) a b) ≡ grants s (w.link a b)
    given s a b = cell_same (grants s) w.link n (master_of w r) (w.link n (master_of w r) ++ p ∷ []) a b (grants-push s (w.link n (master_of w r)) p ∙ ap (λ x. grants s (w.link n (master_of w r)) ++ x) (gives s) ∙ nothing_more (grants s (w.link n (master_of w r))))

    here : Kept w r → Kept (sent (with_local w n r l) n (master_of w r) p) r
    here i =
        same_kept w.live w.live m m ((w.ward r).awaited) ((w.ward r).awaited) (λ k. w.table k r) (λ k. w.table k r) (λ k. with_cell w.local n r l k r) (λ k. with_cell w.local n r l k r) (λ a b. words r (with_cell w.link n m (w.link n m ++ p ∷ []) a b)) (λ a b. words r (with_cell w.link n m (w.link n m ++ p ∷ []) a b)) (λ a b. grants r (w.link a b)) (λ a b. grants r (with_cell w.link n m (w.link n m ++ p ∷ []) a b))
        refl refl refl (λ k. refl) (λ k. refl) (λ a b. refl) (λ a b. given r a b)
        (says w.live m ((w.ward r).awaited) (λ k. w.table k r) (λ k. w.local k r) (λ a b. words r (w.link a b)) (λ a b. grants r (w.link a b))
        (λ k. with_cell w.local n r l k r) (λ a b. words r (with_cell w.link n m (w.link n m ++ p ∷ []) a b)) n l word i ln h pr
        (cell_own w.local n r l)
        (λ j ne. cell_from w.local n r l j r ne)
        (ap (words r) (cell_own w.link n m (w.link n m ++ p ∷ [])) ∙ words-push r (w.link n m) p ∙ ap (λ x. words r (w.link n m) ++ x) own)
        (λ j ne. ap (words r) (cell_from w.link n m (w.link n m ++ p ∷ []) j m ne))
        (λ a b ne. ap (words r) (cell_to w.link n m (w.link n m ++ p ∷ []) a b ne)))

-- A master hears a packet.

abbrev HearsBy : Wire → ℕ → ℕ → Word → (Lock → Lock) → Type 0
HearsBy w r a word f =
    (table' : ℕ → Lock) (told' : ℕ → ℕ → List Word) → Kept w r → words r (w.link a (master_of w r)) ≡ word ∷ told' a (master_of w r) → ((j : ℕ) → j ≢ a → told' j (master_of w r) ≡ words r (w.link j (master_of w r))) → ((x y : ℕ) → y ≢ master_of w r → told' x y ≡ words r (w.link x y)) → table' (master_of w r) ≡ f (w.table (master_of w r) r) → ((j : ℕ) → j ≢ master_of w r → table' j ≡ w.table j r)
    → KeptOf w.live (master_of w r) ((w.ward r).awaited) table' (λ n. w.local n r) told' (λ x y. grants r (w.link x y))

cons_nil : {A : Type 0} (x : A) (xs : List A) → x ∷ xs ≡ [] → ⊥
cons_nil x xs e = cc

-- the state after it
abbrev hearing : Wire → (ℕ → Ward) → ℕ → ℕ → ℕ → List Packet → (Lock → Lock) → Wire
hearing w wards a b r ps f = record w { link = with_cell w.link a b ps; table = with_cell w.table b r (f (w.table b r)); ward = wards }

module _ (w : Wire) (wards : ℕ → Ward) (a r : ℕ) (p : Packet) (ps : List Packet) (word : Word) (f : Lock → Lock) (own : words r (p ∷ ps) ≡ word ∷ words r ps) (other : (s : ℕ) → s ≢ r → words s (p ∷ ps) ≡ words s ps) (gives : (s : ℕ) → grants s (p ∷ ps) ≡ grants s ps) (masters : (s : ℕ) → (wards s).master ≡ master_of w s) (reports : (s : ℕ) → (wards s).awaited ≡ (w.ward s).awaited) (step : HearsBy w r a word f) where
  heard_given : (b : ℕ) → w.link a b ≡ p ∷ ps → (s x y : ℕ) → grants s (with_cell w.link a b ps x y) ≡ grants s (w.link x y)
  heard_given b e s x y = cell_same (grants s) w.link a b ps x y (sym (ap (grants s) e ∙ gives s))

  heard_here : w.link a (master_of w r) ≡ p ∷ ps → Kept w r → Kept (hearing w wards a (master_of w r) r ps f) r
  heard_here e i =
      same_kept w.live w.live (master_of w r) ((wards r).master) ((w.ward r).awaited) ((wards r).awaited) (λ k. with_cell w.table (master_of w r) r (f (w.table (master_of w r) r)) k r) (λ k. with_cell w.table (master_of w r) r (f (w.table (master_of w r) r)) k r) (λ n. w.local n r) (λ n. w.local n r) (λ x y. words r (with_cell w.link a (master_of w r) ps x y)) (λ x y. words r (with_cell w.link a (master_of w r) ps x y)) (λ x y. grants r (w.link x y)) (λ x y. grants r (with_cell w.link a (master_of w r) ps x y))
      refl (masters r) (reports r) (λ k. refl) (λ k. refl) (λ x y. refl) (heard_given (master_of w r) e r)
      (step (λ k. with_cell w.table (master_of w r) r (f (w.table (master_of w r) r)) k r) (λ x y. words r (with_cell w.link a (master_of w r) ps x y)) i
      (ap (words r) e ∙ own ∙ ap (λ q. word ∷ words r q) (sym (cell_own w.link a (master_of w r) ps)))
      (λ j ne. ap (words r) (cell_from w.link a (master_of w r) ps j (master_of w r) ne))
      (λ x y ne. ap (words r) (cell_to w.link a (master_of w r) ps x y ne))
      (cell_own w.table (master_of w r) r (f (w.table (master_of w r) r)))
      (λ j ne. cell_from w.table (master_of w r) r (f (w.table (master_of w r) r)) j r ne))

  pub kept_heard : (b : ℕ) → w.link a b ≡ p ∷ ps → (s : ℕ) → Kept w s → Kept (hearing w wards a b r ps f) s
  kept_heard b e s i = elim (same_or s r) [
    | inl same ↦ let ir : Kept w r = subst (Kept w) same i in elim (same_or b (master_of w r)) [
      | inl at ↦ subst (λ k. Kept (hearing w wards a b r ps f) k) (sym same) (subst (λ k. w.link a k ≡ p ∷ ps → Kept (hearing w wards a k r ps f) r) (sym at) (λ h. heard_here h ir) e)
      | inr ne ↦ absurd (cons_nil word (words r ps) (sym own ∙ sym (ap (words r) e) ∙ ir.tells a b ne))
    ]
    | inr ne ↦
        same_wire w (hearing w wards a b r ps f) s refl (masters s) (reports s)
        (λ k. cell_to w.table b r (f (w.table b r)) k s ne)
        (λ n. refl)
        (λ x y. cell_same (words s) w.link a b ps x y (sym (ap (words s) e ∙ other s ne)))
        (heard_given b e s)
        i
  ]

pub own_test : {A : Type 0} (r : ℕ) (x y : A) → (if r == r then x else y) ≡ x
own_test r x y = let e : (r == r) ≡ true = grind (arith, nat_tests) in ap (λ b. if b then x else y) e

pub other_word : {A : Type 0} (r s : ℕ) (x y : A) → s ≢ r → (if r == s then x else y) ≡ y
other_word r s x y ne = ap (λ b. if b then x else y) (other_test r s ne)

written_master : (w : Wire) (r : ℕ) (b : Bool) (s : ℕ) → master_of (written w r b) s ≡ master_of w s
written_master w r b s = ward_keeps (λ u. u.master) w.ward r _ s refl

written_awaited : (w : Wire) (r : ℕ) (b : Bool) (s : ℕ) → ((written w r b).ward s).awaited ≡ (w.ward s).awaited
written_awaited w r b s = ward_keeps (λ u. u.awaited) w.ward r _ s refl

kept_ask : (w : Wire) (a b r : ℕ) (to : Mode) (ps : List Packet) → w.live a ≡ true → w.link a b ≡ packets.Ask r to ∷ ps → (s : ℕ) → Kept w s → Kept (received (record w { link = with_cell w.link a b ps }) a b (Some (packets.Ask r to))) s
kept_ask w a b r to ps la e s i =
    let v = hearing w w.ward a b r ps (λ lock. asking lock a to) in
    kept_unless (first_awaited v r) v b r s
    (kept_heard w w.ward a r (packets.Ask r to) ps (Asked to) (λ lock. asking lock a to) (own_test r _ _) (λ k ne. other_word r k _ _ ne) (λ k. refl) (λ k. refl) (λ k. refl)
    (λ table' told' k first others else_told own other. hears_an_ask w.live (master_of w r) ((w.ward r).awaited) (λ m. w.table m r) (λ n. w.local n r) (λ x y. words r (w.link x y)) (λ x y. grants r (w.link x y)) table' told' a to k la first others else_told own other)
    b e s i)

kept_convert : (w : Wire) (a b r : ℕ) (to : Mode) (value : Option Block) (ps : List Packet) → w.live a ≡ true → w.link a b ≡ packets.Convert r to value ∷ ps → (s : ℕ) → Kept w s → Kept (received (record w { link = with_cell w.link a b ps }) a b (Some (packets.Convert r to value))) s
kept_convert w a b r to value ps la e s i =
    let writes = convert_writes (w.table b r) a to value in
    let v = hearing w (written w r writes).ward a b r ps (λ lock. converts lock a to value) in
    kept_unless (first_awaited v r) v b r s
    (kept_heard w (written w r writes).ward a r (packets.Convert r to value) ps (Converted to) (λ lock. converts lock a to value) (own_test r _ _) (λ k ne. other_word r k _ _ ne) (λ k. refl) (written_master w r writes) (written_awaited w r writes)
    (λ table' told' k first others else_told own other. hears_a_conversion w.live (master_of w r) ((w.ward r).awaited) (λ m. w.table m r) (λ n. w.local n r) (λ x y. words r (w.link x y)) (λ x y. grants r (w.link x y)) table' told' a to value k la first others else_told own other)
    b e s i)

kept_release : (w : Wire) (a b r : ℕ) (value : Option Block) (ps : List Packet) → w.live a ≡ true → w.link a b ≡ packets.Release r value ∷ ps → (s : ℕ) → Kept w s → Kept (received (record w { link = with_cell w.link a b ps }) a b (Some (packets.Release r value))) s
kept_release w a b r value ps la e s i =
    let writes = release_writes (w.table b r) a value in
    let v = hearing w (written w r writes).ward a b r ps (λ lock. releases lock a value) in
    kept_unless (first_awaited v r) v b r s
    (kept_heard w (written w r writes).ward a r (packets.Release r value) ps Released (λ lock. releases lock a value) (own_test r _ _) (λ k ne. other_word r k _ _ ne) (λ k. refl) (written_master w r writes) (written_awaited w r writes)
    (λ table' told' k first others else_told own other. hears_a_release w.live (master_of w r) ((w.ward r).awaited) (λ m. w.table m r) (λ n. w.local n r) (λ x y. words r (w.link x y)) (λ x y. grants r (w.link x y)) table' told' a value k la first others else_told own other)
    b e s i)

-- A node takes a grant.

kept_granted : (w : Wire) (a b r : ℕ) (g : Granted) (ps : List Packet) → w.link a b ≡ packets.Granted r g ∷ ps → (s : ℕ) → Kept w s → Kept (received (record w { link = with_cell w.link a b ps }) a b (Some (packets.Granted r g))) s
kept_granted w a b r g ps e s i = elim (same_or s r) [
  | inl same ↦ let ir : Kept w r = subst (Kept w) same i in elim (same_or a (master_of w r)) [
    | inl at ↦ subst (λ k. Kept (v a) k) (sym same) (subst (λ k. w.link k b ≡ packets.Granted r g ∷ ps → Kept (v k) r) (sym at) (here ir) e)
    | inr ne ↦ absurd (cons_nil g.mode (grants r ps) (sym (own_test r _ _) ∙ sym (ap (grants r) e) ∙ ir.gives a b ne))
  ]
  | inr ne ↦
      same_wire w (v a) s refl refl refl (λ k. refl) (λ k. cell_to w.local b r (Held g.mode) k s ne)
      (λ x y. cell_same (words s) w.link a b ps x y (sym (ap (words s) e)))
      (λ x y. cell_same (grants s) w.link a b ps x y (sym (ap (grants s) e ∙ other_word r s _ _ ne)))
      i
]
  where
    v : ℕ → Wire
    v k = with_local (record w { link = with_cell w.link k b ps }) b r (Held g.mode)

    m : ℕ
    m = master_of w r

    here : Kept w r → w.link (master_of w r) b ≡ packets.Granted r g ∷ ps → Kept (with_local (record w { link = with_cell w.link (master_of w r) b ps }) b r (Held g.mode)) r
    here ir h =
        same_kept w.live w.live m m ((w.ward r).awaited) ((w.ward r).awaited) (λ k. w.table k r) (λ k. w.table k r) (λ k. with_cell w.local b r (Held g.mode) k r) (λ k. with_cell w.local b r (Held g.mode) k r) (λ x y. words r (w.link x y)) (λ x y. words r (with_cell w.link m b ps x y)) (λ x y. grants r (with_cell w.link m b ps x y)) (λ x y. grants r (with_cell w.link m b ps x y))
        refl refl refl (λ k. refl) (λ k. refl) (λ x y. cell_same (words r) w.link m b ps x y (sym (ap (words r) h))) (λ x y. refl)
        (takes w.live m ((w.ward r).awaited) (λ k. w.table k r) (λ k. w.local k r) (λ x y. words r (w.link x y)) (λ x y. grants r (w.link x y))
        (λ k. with_cell w.local b r (Held g.mode) k r) (λ x y. grants r (with_cell w.link m b ps x y)) b g.mode ir
        (ap (grants r) h ∙ own_test r _ _ ∙ ap (λ q. g.mode ∷ grants r q) (sym (cell_own w.link m b ps)))
        (cell_own w.local b r (Held g.mode))
        (λ j ne. cell_from w.local b r (Held g.mode) j r ne)
        (λ j ne. ap (grants r) (cell_to w.link m b ps m j ne))
        (λ x y ne. ap (grants r) (cell_from w.link m b ps x y ne)))

-- A node is told of an asker.

kept_called : (w : Wire) (a b r asker : ℕ) (ps : List Packet) → w.link a b ≡ packets.Called r asker ∷ ps → (s : ℕ) → Kept w s → Kept (record w { link = with_cell w.link a b ps }) s
kept_called w a b r asker ps e s i =
    same_wire w (record w { link = with_cell w.link a b ps }) s refl refl refl (λ k. refl) (λ k. refl)
    (λ x y. cell_same (words s) w.link a b ps x y (sym (ap (words s) e)))
    (λ x y. cell_same (grants s) w.link a b ps x y (sym (ap (grants s) e)))
    i

-- A master takes a report, resource by resource.

-- nothing of the resource differs
pub record SameAt (w v : Wire) (s : ℕ) : Type 0 where
  pub live : v.live ≡ w.live
  pub master : master_of v s ≡ master_of w s
  pub awaited : (v.ward s).awaited ≡ (w.ward s).awaited
  pub table : (k : ℕ) → v.table k s ≡ w.table k s
  pub local : (n : ℕ) → v.local n s ≡ w.local n s
  pub told : (a b : ℕ) → words s (v.link a b) ≡ words s (w.link a b)
  pub given : (a b : ℕ) → grants s (v.link a b) ≡ grants s (w.link a b)

same_then : (w v u : Wire) (s : ℕ) → SameAt w v s → SameAt v u s → SameAt w u s
same_then w v u s p q = record {
  live = q.live ∙ p.live;
  master = q.master ∙ p.master;
  awaited = q.awaited ∙ p.awaited;
  table = λ k. q.table k ∙ p.table k;
  local = λ n. q.local n ∙ p.local n;
  told = λ a b. q.told a b ∙ p.told a b;
  given = λ a b. q.given a b ∙ p.given a b;
}

pub kept_same : (w v : Wire) (s : ℕ) → SameAt w v s → Kept w s → Kept v s
kept_same w v s p i = same_wire w v s p.live p.master p.awaited p.table p.local p.told p.given i

pub calls_same : (o : Option ℕ) (w : Wire) (m r s : ℕ) → SameAt w (calls_unless o w m r) s
calls_same None w m r s = record {
  live = refl;
  master = ward_keeps (λ u. u.master) w.ward r _ s refl;
  awaited = ward_keeps (λ u. u.awaited) w.ward r _ s refl;
  table = λ k. refl;
  local = λ n. refl;
  told = λ a b. elim (a == m) as (λ t. words s (if t then w.link a b ++ calls_to r (named w m r b) else w.link a b) ≡ words s (w.link a b)) [ true ↦ words-calls s r (w.link a b) (named w m r b) | false ↦ refl ];
  given = λ a b. elim (a == m) as (λ t. grants s (if t then w.link a b ++ calls_to r (named w m r b) else w.link a b) ≡ grants s (w.link a b)) [ true ↦ grants-calls s r (w.link a b) (named w m r b) | false ↦ refl ];
}
calls_same (Some n) w m r s = record { live = refl; master = refl; awaited = refl; table = λ k. refl; local = λ n. refl; told = λ a b. refl; given = λ a b. refl }

-- as if the report on the resource were still first on the link
abbrev Stage : Wire → ℕ → ℕ → Option Local → ℕ → Type 0
Stage w a b o s = KeptOf w.live (master_of w s) ((w.ward s).awaited) (λ m. w.table m s) (λ n. w.local n s) (with_cell (λ x y. words s (w.link x y)) a b (told_word o (words s (w.link a b)))) (λ x y. grants s (w.link x y))

cell_follows : {A : Type 0} (f g : ℕ → ℕ → A) (a b : ℕ) (u v : A) → ((x y : ℕ) → g x y ≡ f x y) → v ≡ u → (x y : ℕ) → with_cell g a b v x y ≡ with_cell f a b u x y
cell_follows f g a b u v e d x y = elim ((y == b) && (x == a)) as (λ t. (if t then v else g x y) ≡ (if t then u else f x y)) [ true ↦ d | false ↦ e x y ]

stage_same : (w v : Wire) (a b : ℕ) (o : Option Local) (s : ℕ) → SameAt w v s → Stage w a b o s → Stage v a b o s
stage_same w v a b o s p i =
    same_kept w.live v.live (master_of w s) (master_of v s) ((w.ward s).awaited) ((v.ward s).awaited) (λ m. w.table m s) (λ m. v.table m s) (λ n. w.local n s) (λ n. v.local n s) (with_cell (λ x y. words s (w.link x y)) a b (told_word o (words s (w.link a b)))) (with_cell (λ x y. words s (v.link x y)) a b (told_word o (words s (v.link a b)))) (λ x y. grants s (w.link x y)) (λ x y. grants s (v.link x y))
    p.live p.master p.awaited p.table p.local (cell_follows (λ x y. words s (w.link x y)) (λ x y. words s (v.link x y)) a b _ _ p.told (ap (told_word o) (p.told a b))) p.given i

-- the state of one resource entered
abbrev entering : Wire → ℕ → ℕ → ℕ → Local → Wire
entering w a b r l = taken_report (with_table w b r (entered (w.table b r) a l)) r a

entering_same : (w : Wire) (a b r : ℕ) (l : Local) (s : ℕ) → s ≢ r → SameAt w (entering w a b r l) s
entering_same w a b r l s ne = record {
  live = refl;
  master = ward_keeps (λ u. u.master) w.ward r _ s refl;
  awaited = ap (λ (u : Ward). u.awaited) (ap (λ t. if t then record (w.ward r) { awaited = with_at (w.ward r).awaited a false } else w.ward s) (test_other s r ne));
  table = λ k. cell_to w.table b r (entered (w.table b r) a l) k s ne;
  local = λ n. refl;
  told = λ x y. refl;
  given = λ x y. refl;
}
  where
    test_other : (k n : ℕ) → k ≢ n → (k == n) ≡ false
    test_other k n d = grind (arith, nat_tests)

one_same : (w : Wire) (a b r : ℕ) (o : Option Local) (s : ℕ) → s ≢ r → SameAt w (reported_one w a b r o) s
one_same w a b r None s ne = record { live = refl; master = refl; awaited = refl; table = λ k. refl; local = λ n. refl; told = λ x y. refl; given = λ x y. refl }
one_same w a b r (Some l) s ne = let v = entering w a b r l in same_then w v (then_calls v b r) s (entering_same w a b r l s ne) (calls_same (first_awaited v r) v b r s)

one_live : (w : Wire) (a b r : ℕ) (o : Option Local) → (reported_one w a b r o).live ≡ w.live
one_live w a b r None = refl
one_live w a b r (Some l) = let v = entering w a b r l in (calls_same (first_awaited v r) v b r r).live

stage_none : (w : Wire) (a b s : ℕ) → Stage w a b None s → Kept w s
stage_none w a b s i =
    same_kept w.live w.live (master_of w s) (master_of w s) ((w.ward s).awaited) ((w.ward s).awaited) (λ m. w.table m s) (λ m. w.table m s) (λ n. w.local n s) (λ n. w.local n s) (with_cell (λ x y. words s (w.link x y)) a b (words s (w.link a b))) (λ x y. words s (w.link x y)) (λ x y. grants s (w.link x y)) (λ x y. grants s (w.link x y))
    refl refl refl (λ k. refl) (λ k. refl) (λ x y. sym (cell_same (λ (q : List Word). q) (λ x y. words s (w.link x y)) a b (words s (w.link a b)) x y refl)) (λ x y. refl) i

stage_some : (w : Wire) (a b r : ℕ) (l : Local) → w.live a ≡ true → Stage w a b (Some l) r → Kept (entering w a b r l) r
stage_some w a b r l la i = elim (same_or b (master_of w r)) [
  | inl at ↦ subst (λ k. Stage w a k (Some l) r → Kept (entering w a k r l) r) (sym at) here i
  | inr ne ↦ absurd (cons_nil (Told l) (words r (w.link a b)) (sym (cell_own (λ x y. words r (w.link x y)) a b (Told l ∷ words r (w.link a b))) ∙ i.tells a b ne))
]
  where
    m : ℕ
    m = master_of w r

    here : Stage w a (master_of w r) (Some l) r → Kept (entering w a (master_of w r) r l) r
    here j =
        same_kept w.live w.live m (master_of (entering w a m r l) r) (((entering w a m r l).ward r).awaited) (((entering w a m r l).ward r).awaited) (λ k. with_cell w.table m r (entered (w.table m r) a l) k r) (λ k. with_cell w.table m r (entered (w.table m r) a l) k r) (λ n. w.local n r) (λ n. w.local n r) (λ x y. words r (w.link x y)) (λ x y. words r (w.link x y)) (λ x y. grants r (w.link x y)) (λ x y. grants r (w.link x y))
        refl (ward_keeps (λ u. u.master) w.ward r _ r refl) refl (λ k. refl) (λ k. refl) (λ x y. refl) (λ x y. refl)
        (hears_a_report w.live m ((w.ward r).awaited) (λ k. w.table k r) (λ n. w.local n r) (with_cell (λ x y. words r (w.link x y)) a m (Told l ∷ words r (w.link a m))) (λ x y. grants r (w.link x y))
        (((entering w a m r l).ward r).awaited) (λ k. with_cell w.table m r (entered (w.table m r) a l) k r) (λ x y. words r (w.link x y)) a l j la
        (cell_own (λ x y. words r (w.link x y)) a m (Told l ∷ words r (w.link a m)))
        (λ k ne. sym (cell_from (λ x y. words r (w.link x y)) a m (Told l ∷ words r (w.link a m)) k m ne))
        (λ x y ne. sym (cell_to (λ x y. words r (w.link x y)) a m (Told l ∷ words r (w.link a m)) x y ne))
        (cell_own w.table m r (entered (w.table m r) a l))
        (λ k ne. cell_from w.table m r (entered (w.table m r) a l) k r ne)
        (ap (λ (u : Ward). u.awaited a) (own_test r (record (w.ward r) { awaited = with_at (w.ward r).awaited a false }) (w.ward r)) ∙ own_test a false _)
        (λ k ne. ap (λ (u : Ward). u.awaited k) (own_test r (record (w.ward r) { awaited = with_at (w.ward r).awaited a false }) (w.ward r)) ∙ other_at k a ne))
      where
        other_at : (k n : ℕ) → k ≢ n → (if k == n then false else (w.ward r).awaited k) ≡ (w.ward r).awaited k
        other_at k n ne = let e : (k == n) ≡ false = grind (arith, nat_tests) in ap (λ b. if b then false else (w.ward r).awaited k) e

stage_one : (w : Wire) (a b r : ℕ) (o : Option Local) → w.live a ≡ true → Stage w a b o r → Kept (reported_one w a b r o) r
stage_one w a b r None la i = stage_none w a b r i
stage_one w a b r (Some l) la i = let v = entering w a b r l in kept_unless (first_awaited v r) v b r r (stage_some w a b r l la i)

-- below k the states are entered
record SoFar (w v : Wire) (a b : ℕ) (states : List (Option Local)) (k : ℕ) : Type 0 where
  live : v.live ≡ w.live
  done : (s : ℕ) → s < k → s < 21 → Kept v s
  left : (s : ℕ) → k ≤ s → s < 21 → Stage v a b (slice_index_or states s None) s

so_far : (w : Wire) (a b : ℕ) (states : List (Option Local)) (k : ℕ) → w.live a ≡ true → k ≤ 21 → ((s : ℕ) → s < 21 → Stage w a b (slice_index_or states s None) s) → SoFar w (reported w a b states k) a b states k
so_far w a b states zero la le i = subst (λ v. SoFar w v a b states 0) (sym (reported-zero w a b states)) (record { live = refl; done = λ s lt below. absurd (omega arith); left = λ s le below. i s below })
so_far w a b states (suc k) la le i =
    let v = reported w a b states k in
    let p = so_far w a b states k la (omega arith) i in
    let o : Option Local = slice_index_or states k None in
    subst (λ u. SoFar w u a b states (suc k)) (sym (reported-suc w a b states k)) (record {
      live = one_live v a b k o ∙ p.live;
      done = λ s lt below. elim (same_or s k) [
        | inl e ↦ subst (λ j. Kept (reported_one v a b k o) j) (sym e) (stage_one v a b k o (ap (λ f. f a) p.live ∙ la) (p.left k (omega arith) (omega arith)))
        | inr ne ↦ kept_same v (reported_one v a b k o) s (one_same v a b k o s ne) (p.done s (less s k lt ne) below)
      ];
      left = λ s ge below. stage_same v (reported_one v a b k o) a b (slice_index_or states s None) s (one_same v a b k o s (over s k ge)) (p.left s (omega arith) below);
    })
  where
    less : (s k : ℕ) → s < suc k → s ≢ k → s < k
    less s k lt ne = grind (arith, nat_tests)

    over : (s k : ℕ) → suc k ≤ s → s ≢ k
    over s k ge e = omega arith

kept_report : (w : Wire) (a b : ℕ) (states : List (Option Local)) (ps : List Packet) → w.live a ≡ true → w.link a b ≡ packets.Report states ∷ ps → ((s : ℕ) → s < 21 → Kept w s) → (s : ℕ) → s < 21 → Kept (received (record w { link = with_cell w.link a b ps }) a b (Some (packets.Report states))) s
kept_report w a b states ps la e i s below = (so_far v a b states 21 la (omega arith) first_stage).done s below below
  where
    v : Wire
    v = record w { link = with_cell w.link a b ps }

    both : (x y : ℕ) → ((y == b) && (x == a)) ≡ true → (x ≡ a) × (y ≡ b)
    both x y t = (grind (arith, nat_tests), grind (arith, nat_tests))

    told : (s x y : ℕ) → with_cell (λ x y. words s (with_cell w.link a b ps x y)) a b (told_word (slice_index_or states s None) (words s (with_cell w.link a b ps a b))) x y ≡ words s (w.link x y)
    told s x y =
        elim ((y == b) && (x == a)) as (λ t. ((y == b) && (x == a)) ≡ t → (if t then told_word (slice_index_or states s None) (words s (with_cell w.link a b ps a b)) else words s (if t then ps else w.link x y)) ≡ words s (w.link x y)) [
          | true ↦ λ t. let h = both x y t in ap (λ q. told_word (slice_index_or states s None) (words s q)) (cell_own w.link a b ps) ∙ sym (ap (words s) e) ∙ ap (λ k. words s (w.link k b)) (sym h.0) ∙ ap (λ k. words s (w.link x k)) (sym h.1)
          | false ↦ λ t. refl
        ] refl

    first_stage : (s : ℕ) → s < 21 → Stage (record w { link = with_cell w.link a b ps }) a b (slice_index_or states s None) s
    first_stage s lt =
        same_kept w.live w.live (master_of w s) (master_of w s) ((w.ward s).awaited) ((w.ward s).awaited) (λ m. w.table m s) (λ m. w.table m s) (λ n. w.local n s) (λ n. w.local n s) (λ x y. words s (w.link x y)) (with_cell (λ x y. words s (with_cell w.link a b ps x y)) a b (told_word (slice_index_or states s None) (words s (with_cell w.link a b ps a b)))) (λ x y. grants s (w.link x y)) (λ x y. grants s (with_cell w.link a b ps x y))
        refl refl refl (λ k. refl) (λ k. refl) (told s) (λ x y. cell_same (grants s) w.link a b ps x y (sym (ap (grants s) e))) (i s lt)

-- Guards.

pub or_first : {R : Type 0} (a b : Option R) → or_then a b ≡ None → a ≡ None
or_first None b e = refl
or_first (Some x) b e = e

pub or_second : {R : Type 0} (a b : Option R) → or_then a b ≡ None → b ≡ None
or_second None b e = e
or_second (Some x) b e = absurd (some_none x e)
  where
    some_none : {R : Type 0} (x : R) → Some x ≡ None → ⊥
    some_none x e = cc

pub unless_true : {R : Type 0} (b : Bool) (r : R) → unless b r ≡ None → b ≡ true
unless_true true r e = refl
unless_true false r e = cc

pub lives : (w : Wire) (n : ℕ) → Machine.node_refusal w n ≡ None → w.live n ≡ true
lives w n e = unless_true (w.live n) _ (or_second (Machine.no_node w n) (Machine.fenced w n) e)

-- A delivery.

kept_received : (w : Wire) (a b : ℕ) (p : Packet) (ps : List Packet) → Inv w → w.live a ≡ true → w.link a b ≡ p ∷ ps → (s : ℕ) → s < 21 → Kept (received (record w { link = with_cell w.link a b ps }) a b (Some p)) s
kept_received w a b (packets.Ask r to) ps i la e s lt = kept_ask w a b r to ps la e s (i.kept s lt)
kept_received w a b (packets.Convert r to value) ps i la e s lt = kept_convert w a b r to value ps la e s (i.kept s lt)
kept_received w a b (packets.Release r value) ps i la e s lt = kept_release w a b r value ps la e s (i.kept s lt)
kept_received w a b (packets.Granted r g) ps i la e s lt = kept_granted w a b r g ps e s (i.kept s lt)
kept_received w a b (packets.Called r asker) ps i la e s lt = kept_called w a b r asker ps e s (i.kept s lt)
kept_received w a b (packets.Report states) ps i la e s lt = kept_report w a b states ps la e i.kept s lt

kept_link : (w : Wire) (a b : ℕ) (l : List Packet) → w.link a b ≡ l → Inv w → w.live a ≡ true → (s : ℕ) → s < 21 → Kept (received (record w { link = with_cell w.link a b (rest l) }) a b (first l)) s
kept_link w a b [] e i la s lt =
    same_wire w (record w { link = with_cell w.link a b [] }) s refl refl refl (λ k. refl) (λ k. refl)
    (λ x y. cell_same (words s) w.link a b [] x y (sym (ap (words s) e)))
    (λ x y. cell_same (grants s) w.link a b [] x y (sym (ap (grants s) e)))
    (i.kept s lt)
kept_link w a b (p ∷ ps) e i la s lt = kept_received w a b p ps i la e s lt

pub kept_delivered : (w : Wire) (a b : ℕ) → Inv w → w.live a ≡ true → (s : ℕ) → s < 21 → Kept (delivered w a b) s
kept_delivered w a b i la s lt = kept_link w a b (w.link a b) refl i la s lt

-- A grant.

rebuilt : (o : Option ℕ) → Machine.rebuilding o ≡ None → o ≡ None
rebuilt None e = refl
rebuilt (Some n) e = cc

unmapped : {A B : Type 0} (f : A → B) (o : Option A) → option_map f o ≡ None → o ≡ None
unmapped f None e = refl
unmapped f (Some x) e = cc

-- where no report is awaited
pub none_awaited : (w : Wire) (r : ℕ) → ((n : ℕ) → w.live n ≡ true → n < 16) → first_awaited w r ≡ None → (n : ℕ) → w.live n ≡ true → (w.ward r).awaited n ≡ false
none_awaited w r nodes e n ln = right (w.live n) _ ln (first_such_none (is_awaited w r) 0 16 e n (omega arith) (omega (arith, nodes n ln)))
  where
    right : (a b : Bool) → a ≡ true → (a && b) ≡ false → b ≡ false
    right true b e f = f
    right false b e f = cc

pub record MayServe (w : Wire) (r : ℕ) : Type 0 where
  pub none : first_awaited w r ≡ None
  pub grantable : grant_refusal (lock_at w r) ≡ None

pub may_serve : (w : Wire) (r : ℕ) → Machine.serve_refusal w r ≡ None → MayServe w r
may_serve w r e =
    let later = or_second (Machine.not_up w (master_of w r)) _ e in
    record {
      none = rebuilt (first_awaited w r) (or_first (Machine.rebuilding (first_awaited w r)) _ later);
      grantable = unmapped _ (grant_refusal (lock_at w r)) (or_second (Machine.rebuilding (first_awaited w r)) _ later);
    }

-- after the grant, before the callbacks
abbrev pub serving : Wire → ℕ → Granted → Wire
serving w r g = sent (with_table (with_ward w r (record (w.ward r) { called = λ n. None })) (master_of w r) r (granted (lock_at w r))) (master_of w r) g.node (packets.Granted r (told (w.ward r).stale g))

kept_serving : (w : Wire) (r : ℕ) (g : Granted) → Inv w → r < 21 → MayServe w r → grant_answer (lock_at w r) ≡ Some g → (s : ℕ) → s < 21 → Kept (serving w r g) s
kept_serving w r g i below may e s lt = elim (same_or s r) [
  | inl same ↦ subst (λ k. Kept (serving w r g) k) (sym same) here
  | inr ne ↦
      same_wire w (serving w r g) s refl (ward_keeps (λ u. u.master) w.ward r _ s refl) (ward_keeps (λ u. u.awaited) w.ward r _ s refl)
      (λ k. cell_to w.table (master_of w r) r (granted (lock_at w r)) k s ne)
      (λ k. refl)
      (λ x y. says_nothing s x y)
      (λ x y. cell_same (grants s) w.link (master_of w r) g.node (w.link (master_of w r) g.node ++ packets.Granted r (told (w.ward r).stale g) ∷ []) x y (grants-push s (w.link (master_of w r) g.node) (packets.Granted r (told (w.ward r).stale g)) ∙ ap (λ q. grants s (w.link (master_of w r) g.node) ++ q) (other_word r s _ _ ne) ∙ nothing_more (grants s (w.link (master_of w r) g.node))))
      (i.kept s lt)
]
  where
    m : ℕ
    m = master_of w r

    says_nothing : (s x y : ℕ) → words s (with_cell w.link (master_of w r) g.node (w.link (master_of w r) g.node ++ packets.Granted r (told (w.ward r).stale g) ∷ []) x y) ≡ words s (w.link x y)
    says_nothing s x y = cell_same (words s) w.link (master_of w r) g.node (w.link (master_of w r) g.node ++ packets.Granted r (told (w.ward r).stale g) ∷ []) x y (words-push s (w.link (master_of w r) g.node) (packets.Granted r (told (w.ward r).stale g)) ∙ nothing_more (words s (w.link (master_of w r) g.node)))

    here : Kept (serving w r g) r
    here =
        same_kept w.live w.live m (master_of (serving w r g) r) ((w.ward r).awaited) (((serving w r g).ward r).awaited) (λ k. with_cell w.table m r (granted (lock_at w r)) k r) (λ k. with_cell w.table m r (granted (lock_at w r)) k r) (λ n. w.local n r) (λ n. w.local n r) (λ x y. words r (w.link x y)) (λ x y. words r ((serving w r g).link x y)) (λ x y. grants r ((serving w r g).link x y)) (λ x y. grants r ((serving w r g).link x y))
        refl (ward_keeps (λ u. u.master) w.ward r _ r refl) (ward_keeps (λ u. u.awaited) w.ward r _ r refl) (λ k. refl) (λ k. refl) (says_nothing r) (λ x y. refl)
        (serves_one w.live m ((w.ward r).awaited) (λ k. w.table k r) (λ n. w.local n r) (λ x y. words r (w.link x y)) (λ x y. grants r (w.link x y))
        (λ k. with_cell w.table m r (granted (lock_at w r)) k r) (λ x y. grants r ((serving w r g).link x y)) g i.nodes (i.kept r below) (none_awaited w r i.nodes may.none) may.grantable e
        (cell_own w.table m r (granted (lock_at w r)))
        (λ k ne. cell_from w.table m r (granted (lock_at w r)) k r ne)
        (ap (grants r) (cell_own w.link m g.node _) ∙ grants-push r (w.link m g.node) (packets.Granted r (told (w.ward r).stale g)) ∙ ap (λ q. grants r (w.link m g.node) ++ q) (own_test r _ _))
        (λ k ne. ap (grants r) (cell_to w.link m g.node _ m k ne))
        (λ x y ne. ap (grants r) (cell_from w.link m g.node _ x y ne)))

kept_answer : (w : Wire) (r : ℕ) (o : Option Granted) → Inv w → r < 21 → MayServe w r → grant_answer (lock_at w r) ≡ o → (s : ℕ) → s < 21 → Kept (served_to w (master_of w r) r (option_map (told (w.ward r).stale) o)) s
kept_answer w r None i below may e s lt = i.kept s lt
kept_answer w r (Some g) i below may e s lt = kept_calls (serving w r g) (master_of w r) r s (kept_serving w r g i below may e s lt)

pub kept_served : (w : Wire) (r : ℕ) → Inv w → r < 21 → Machine.serve_refusal w r ≡ None → (s : ℕ) → s < 21 → Kept (served w r) s
kept_served w r i below e s lt = kept_answer w r (grant_answer (lock_at w r)) i below (may_serve w r e) refl s lt

-- A death.

pub self_test : (n : ℕ) → (n == n) ≡ true
self_test n = grind (arith, nat_tests)

pub differ_test : (k n : ℕ) → k ≢ n → (k == n) ≡ false
differ_test k n ne = grind (arith, nat_tests)

pub nobody_held : (n m : ℕ) → (if m == n then None else None) ≡ (let none : Option Mode = None in none)
nobody_held n m = elim (m == n) as (λ b. (if b then None else None) ≡ (let none : Option Mode = None in none)) [ true ↦ refl | false ↦ refl ]

pub nothing_dies : (d : ℕ) → died new_lock d ≡ new_lock
nothing_dies d = λ i. record new_lock { held = λ m. nobody_held d m i }

pub dead_not : (w : Wire) (d : ℕ) → (without_node w d).live d ≡ false
dead_not w d = ap (λ b. if b then false else w.live d) (self_test d)

pub dead_other : (w : Wire) (d n : ℕ) → n ≢ d → (without_node w d).live n ≡ w.live n
dead_other w d n ne = ap (λ b. if b then false else w.live n) (differ_test n d ne)

pub clash : true ≡ false → ⊥
clash e = cc

pub alive_differs : (w : Wire) (d n : ℕ) → (without_node w d).live n ≡ true → n ≢ d
alive_differs w d n t e = clash (sym t ∙ ap (without_node w d).live e ∙ dead_not w d)

pub alive_was : (w : Wire) (d n : ℕ) → (without_node w d).live n ≡ true → w.live n ≡ true
alive_was w d n t = sym (dead_other w d n (alive_differs w d n t)) ∙ t

pub words_if : (s : ℕ) (b : Bool) (l : List Packet) → words s (if b then [] else l) ≡ (if b then [] else words s l)
words_if s true l = refl
words_if s false l = refl

pub grants_if : (s : ℕ) (b : Bool) (l : List Packet) → grants s (if b then [] else l) ≡ (if b then [] else grants s l)
grants_if s true l = refl
grants_if s false l = refl

-- the node is gone
kept_without : (w : Wire) (d s : ℕ) → Kept w s → ((n : ℕ) → (without_node w d).live n ≡ true → (without_node w d).live (master_of w s) ≡ true) → (master_of w s ≢ d ⊎ ((n : ℕ) → (without_node w d).live n ≡ true → ⊥)) → Kept (without_node w d) s
kept_without w d s i master which =
    loses w.live (master_of w s) ((w.ward s).awaited) (λ m. w.table m s) (λ n. w.local n s) (λ a b. words s (w.link a b)) (λ a b. grants s (w.link a b))
    (without_node w d).live (λ m. (without_node w d).table m s) (λ n. (without_node w d).local n s) (λ a b. words s ((without_node w d).link a b)) (λ a b. grants s ((without_node w d).link a b)) d i
    (dead_not w d) (dead_other w d) master (λ k. refl) (nothing_dies d)
    (λ n ne. ap (λ b. if b then Free else w.local n s) (differ_test n d ne))
    (λ a b. words_if s ((a == d) || (b == d)) (w.link a b))
    (λ a b. grants_if s ((a == d) || (b == d)) (w.link a b))
    which

-- what the reports of a resource of another master say
report_word : (v : Wire) (d n s : ℕ) (o : Option Local) → s < 21 → (if master_of v s == d then Some (v.local n s) else None) ≡ o → word_of s (report_of v d n) [] ≡ told_word o []
report_word v d n s o lt e = ap (λ q. told_word q []) (state_of v d n 21 s lt ∙ e)

abbrev pub with_reports : Wire → ℕ → ℕ → ℕ → ℕ → List Packet
with_reports v d m a b = if (b == m) && v.live a then v.link a b ++ report_of v d a ∷ [] else v.link a b

-- the resources of other masters stay
pub over_same : (v : Wire) (d m s : ℕ) → s < 21 → master_of v s ≢ d → SameAt v (taken_over v d (Some m)) s
over_same v d m s lt ne = record {
  live = refl;
  master = ap (λ b. (if b then heirs_ward v.live m else v.ward s).master) (differ_test (master_of v s) d ne);
  awaited = ap (λ b. (if b then heirs_ward v.live m else v.ward s).awaited) (differ_test (master_of v s) d ne);
  table = λ k. refl;
  local = λ n. refl;
  told = λ a b. elim ((b == m) && v.live a) as (λ t. words s (if t then v.link a b ++ report_of v d a ∷ [] else v.link a b) ≡ words s (v.link a b)) [
    | true ↦ words-push s (v.link a b) (report_of v d a) ∙ ap (λ q. words s (v.link a b) ++ q) (report_word v d a s None lt (ap (λ b. if b then Some (v.local a s) else None) (differ_test (master_of v s) d ne))) ∙ nothing_more (words s (v.link a b))
    | false ↦ refl
  ];
  given = λ a b. elim ((b == m) && v.live a) as (λ t. grants s (if t then v.link a b ++ report_of v d a ∷ [] else v.link a b) ≡ grants s (v.link a b)) [
    | true ↦ grants-push s (v.link a b) (report_of v d a) ∙ nothing_more (grants s (v.link a b))
    | false ↦ refl
  ];
}

if_nil : {A : Type 0} (b : Bool) (l : List A) → (b ≡ false → l ≡ []) → (if b then [] else l) ≡ []
if_nil true l f = refl
if_nil false l f = f refl

or_right : (a b : Bool) → (a || b) ≡ false → b ≡ false
or_right true b e = cc
or_right false b e = e

or_left : (a b : Bool) → (a || b) ≡ false → a ≡ false
or_left true b e = cc
or_left false b e = refl

not_self : (b d : ℕ) → (b == d) ≡ false → b ≢ d
not_self b d e x = clash (sym (ap (λ k. k == d) x ∙ self_test d) ∙ e)

-- the resources of the dead master
module _ (w : Wire) (d s : ℕ) (lt : s < 21) (i : Kept w s) (e : master_of w s ≡ d) where
  no_words : (a b : ℕ) → words s ((without_node w d).link a b) ≡ []
  no_words a b = words_if s ((a == d) || (b == d)) (w.link a b) ∙ if_nil ((a == d) || (b == d)) (words s (w.link a b)) (λ f. i.tells a b (λ x. not_self b d (or_right (a == d) (b == d) f) (x ∙ e)))

  pub no_grants : (a b : ℕ) → grants s ((without_node w d).link a b) ≡ []
  no_grants a b = grants_if s ((a == d) || (b == d)) (w.link a b) ∙ if_nil ((a == d) || (b == d)) (grants s (w.link a b)) (λ f. i.gives a b (λ x. not_self a d (or_left (a == d) (b == d) f) (x ∙ e)))

  pub is_master : (master_of w s == d) ≡ true
  is_master = ap (λ k. k == d) e ∙ self_test d

  over_dead : (m : ℕ) → (without_node w d).live m ≡ true → Kept (taken_over (without_node w d) d (Some m)) s
  over_dead m lm =
      same_kept v.live v.live m (master_of u s) ((u.ward s).awaited) ((u.ward s).awaited) (λ k. v.table k s) (λ k. v.table k s) (λ n. v.local n s) (λ n. v.local n s) (λ a b. words s (u.link a b)) (λ a b. words s (u.link a b)) (λ a b. grants s (u.link a b)) (λ a b. grants s (u.link a b))
      refl (ap (λ b. (if b then heirs_ward v.live m else v.ward s).master) is_master) refl (λ k. refl) (λ k. refl) (λ a b. refl) (λ a b. refl)
      (changes_master w.live (master_of w s) ((w.ward s).awaited) (λ k. w.table k s) (λ n. w.local n s) (λ a b. words s (w.link a b)) (λ a b. grants s (w.link a b))
      v.live m ((u.ward s).awaited) (λ k. v.table k s) (λ n. v.local n s) (λ a b. words s (u.link a b)) (λ a b. grants s (u.link a b)) i
      (alive_was w d)
      (ap v.live e ∙ dead_not w d)
      lm
      (λ n. ap (λ b. (if b then heirs_ward v.live m else v.ward s).awaited n) is_master)
      (λ k t. ap (λ l. died l d) (i.fresh k (alive_was w d k t) (λ x. alive_differs w d k t (x ∙ e))) ∙ nothing_dies d)
      (λ n t. ap (λ b. if b then Free else w.local n s) (differ_test n d (alive_differs w d n t)))
      (λ n t. ap (λ b. words s (if b then v.link n m ++ report_of v d n ∷ [] else v.link n m)) (to_new n t)
      ∙ words-push s (v.link n m) (report_of v d n)
      ∙ ap (λ q. q ++ word_of s (report_of v d n) []) (no_words n m)
      ∙ report_word v d n s (Some (v.local n s)) lt (ap (λ b. if b then Some (v.local n s) else None) is_master))
      (λ n t. given_none m n)
      (λ a b ne. ap (λ x. words s (if x && v.live a then v.link a b ++ report_of v d a ∷ [] else v.link a b)) (differ_test b m ne) ∙ no_words a b)
      (λ a b ne. given_none a b))
    where
      v : Wire
      v = without_node w d

      u : Wire
      u = taken_over (without_node w d) d (Some m)

      to_new : (n : ℕ) → v.live n ≡ true → ((m == m) && v.live n) ≡ true
      to_new n t = ap (λ b. b && v.live n) (self_test m) ∙ t

      given_none : (a b : ℕ) → grants s (with_reports (without_node w d) d m a b) ≡ []
      given_none a b = elim ((b == m) && v.live a) as (λ t. grants s (if t then v.link a b ++ report_of v d a ∷ [] else v.link a b) ≡ []) [
        | true ↦ grants-push s (v.link a b) (report_of v d a) ∙ nothing_more (grants s (v.link a b)) ∙ no_grants a b
        | false ↦ no_grants a b
      ]

kept_over : (w : Wire) (d : ℕ) (o : Option ℕ) → Inv w → heir (without_node w d) ≡ o → (s : ℕ) → s < 21 → Kept (taken_over (without_node w d) d o) s
kept_over w d None i e s lt = elim (same_or (master_of w s) d) [
  | inl same ↦ kept_without w d s (i.kept s lt) (λ n t. absurd (none n t)) (inr none)
  | inr ne ↦ kept_without w d s (i.kept s lt) (λ n t. dead_other w d (master_of w s) ne ∙ (i.kept s lt).master n (alive_was w d n t)) (inl ne)
]
  where
    none : (n : ℕ) → (without_node w d).live n ≡ true → ⊥
    none n t = clash (sym t ∙ first_such_none (without_node w d).live 0 16 e n (omega arith) (omega (arith, i.nodes n (alive_was w d n t))))
kept_over w d (Some m) i e s lt = elim (same_or (master_of w s) d) [
  | inl same ↦ over_dead w d s lt (i.kept s lt) same m (first_such_some (without_node w d).live 0 16 m e).passes
  | inr ne ↦ kept_same (without_node w d) (taken_over (without_node w d) d (Some m)) s (over_same (without_node w d) d m s lt ne)
      (kept_without w d s (i.kept s lt) (λ n t. dead_other w d (master_of w s) ne ∙ (i.kept s lt).master n (alive_was w d n t)) (inl ne))
]

pub kept_died : (w : Wire) (d : ℕ) → Inv w → (s : ℕ) → s < 21 → Kept (died_of w d) s
kept_died w d i s lt = kept_over w d (heir (without_node w d)) i refl s lt

-- The opening.

below_live : (n k : ℕ) → nat_lt n k ≡ true → n < k
below_live n k e = grind (arith, nat_tests)

kept_opened : (nodes r : ℕ) → 1 ≤ nodes → r < 21 → Kept (opened nodes) r
kept_opened nodes r le lt = record {
  fitting = record { fits = λ n t. refl; gone = λ n t. refl; silent = λ n t. refl; apart = λ n m ne a b. refl; proper = λ n t. refl };
  tells = λ a b ne. refl;
  gives = λ a b ne. refl;
  fresh = λ k t ne. refl;
  master = λ n t. ap (λ k. nat_lt k nodes) inside ∙ smaller;
}
  where
    inside : (if nat_lt r 21 then r % nodes else 16) ≡ r % nodes
    inside = grind (arith, nat_tests)

    smaller : nat_lt (r % nodes) nodes ≡ true
    smaller = let h : r % nodes < nodes = mod-lt r (omega (arith, le)) in grind (arith, nat_tests, h)

pub opened_inv : (nodes : ℕ) → 1 ≤ nodes → nodes ≤ 16 → Inv (opened nodes)
opened_inv nodes le most = record { nodes = λ n t. omega (arith, below_live n nodes t, most); kept = λ r lt. kept_opened nodes r le lt }

-- Who lives.

live_unless : (o : Option ℕ) (w : Wire) (m r : ℕ) → (calls_unless o w m r).live ≡ w.live
live_unless None w m r = refl
live_unless (Some n) w m r = refl

live_reported : (w : Wire) (a b : ℕ) (states : List (Option Local)) (k : ℕ) → (reported w a b states k).live ≡ w.live
live_reported w a b states zero = ap (λ (v : Wire). v.live) (reported-zero w a b states)
live_reported w a b states (suc k) = ap (λ (v : Wire). v.live) (reported-suc w a b states k) ∙ one_live (reported w a b states k) a b k _ ∙ live_reported w a b states k

live_received : (w : Wire) (a b : ℕ) (o : Option Packet) → (received w a b o).live ≡ w.live
live_received w a b None = refl
live_received w a b (Some (packets.Ask r to)) = live_unless _ _ b r
live_received w a b (Some (packets.Convert r to value)) = live_unless _ _ b r
live_received w a b (Some (packets.Release r value)) = live_unless _ _ b r
live_received w a b (Some (packets.Granted r g)) = refl
live_received w a b (Some (packets.Called r asker)) = refl
live_received w a b (Some (packets.Report states)) = live_reported w a b states 21

pub live_delivered : (w : Wire) (a b : ℕ) → (delivered w a b).live ≡ w.live
live_delivered w a b = live_received (record w { link = with_cell w.link a b (rest (w.link a b)) }) a b (first (w.link a b))

live_served_to : (w : Wire) (m r : ℕ) (o : Option Granted) → (served_to w m r o).live ≡ w.live
live_served_to w m r None = refl
live_served_to w m r (Some g) = refl

pub live_served : (w : Wire) (r : ℕ) → (served w r).live ≡ w.live
live_served w r = live_served_to w (master_of w r) r (serve_answer w r)

live_over : (w : Wire) (d : ℕ) (o : Option ℕ) → (taken_over w d o).live ≡ w.live
live_over w d None = refl
live_over w d (Some m) = refl

pub live_died : (w : Wire) (d n : ℕ) → (died_of w d).live n ≡ true → w.live n ≡ true
live_died w d n t = alive_was w d n (sym (ap (λ f. f n) (live_over (without_node w d) d (heir (without_node w d)))) ∙ t)
