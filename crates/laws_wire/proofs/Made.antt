-- The calls of each master are calls of one lock space.
use Rattle.std.proofs.Common.{◌≡◌, ◌≢◌, ◌⊎◌, inl, inr, ℕ, zero, suc, ◌<◌, ◌≤◌, List, [], ◌∷◌, true, false, ◌==◌, Option, Some, None, refl, sym, ap, ◌∙◌, subst, arith, if◌then◌else◌}
use Rattle.std.specs.Prelude.{slice_index_or}
use Rattle.std.specs.Option.{option_map}
use Rattle.std.proofs.lemmas.Bool.Decides.{nat_tests}
use Rattle.dlm_modes.proofs.FirstLaws.{first_such_some}
use Rattle.dlm_modes.specs.Points.{with_at}
use Rattle.dlm_modes.specs.declared.block.Block.{Block}
use Rattle.dlm_modes.specs.declared.mode.Mode.{Mode}
use Rattle.dlm_space.specs.Calls
use Rattle.dlm_space.specs.Locks.{Lock, died, granted, asked, holding, converted, released, grant_answer, grant_refusal, ask_refusal, ask_now_refusal, convert_refusal, release_refusal}
use Rattle.dlm_space.specs.Sound.{held_in}
use Rattle.dlm_space.proofs.Told.{calls_are_sound}
use Rattle.dlm_space.specs.declared.answers.Granted.{Granted}
use Rattle.lock_wire.specs.Packets.{first, rest}
use Rattle.lock_wire.specs.Machine
use Rattle.lock_wire.specs.Machine.{Wire, Ward, with_cell, master_of, lock_at, first_awaited, sent, with_table, with_ward, written, calls_unless, reported_one, reported, received, told, serve_answer, served_to, heir, without_node, taken_over, asking, asking_now, converts, releases, entered, convert_writes, release_writes}
use Rattle.lock_wire.specs.declared.local.Local.{Local}
use Rattle.lock_wire.specs.declared.local.Local.TheVariants.{Free, Asking, Held, Converting}
use Rattle.lock_wire.specs.declared.packet.Packet.{Packet}
use Rattle.lock_wire.specs.declared.packet.Packet.TheVariants as packets
use Rattle.lock_wire.proofs.Wires.{reported-zero, reported-suc}
use Rattle.laws_wire.specs.Runs.{Call, Asks, Converts, Releases, Delivers, Serves, Dies, effect, IsAccepted, AreAccepted, wire_after}
use Rattle.laws_wire.specs.Views.{Word, Asked, Converted, Released, Told, Is, words, grants, entry_of, told_word}
use Rattle.laws_wire.specs.Made.{reporting, hearing, serving, dying, made_at, made_in, MadeSound}
use Rattle.laws_wire.specs.Invariants.{Kept, Inv}
use Rattle.laws_wire.proofs.Steps.{same_or, ask_view, convert_view, release_view, report_view}
use Rattle.laws_wire.proofs.TableLaws.{free_at-is, ask_free, ask_now_free, convert_held, release_held, asking-is, asking_now-is, holding_own, converts-is, releases-is, FitsAll, FitsLocal}
use Rattle.laws_wire.proofs.Links.{cell_own, cell_to}
use Rattle.laws_wire.proofs.Wires.{own_test, other_word, or_first, lives, calls_same, SameAt, alive_differs, alive_was, nothing_dies, self_test, differ_test, may_serve, MayServe}
use Rattle.laws_wire.proofs.RunsKept.{runs_keep}

-- the calls were accepted, and lead to the lock
pub record Leads (past : List Calls.Call) (r : ℕ) (lock : Lock) : Type 0 where
  pub accepted : Calls.AreAccepted past
  pub leads : Calls.locks_after past r ≡ lock

self_at : {A : Type 0} (f : ℕ → A) (r : ℕ) (v : A) → with_at f r v r ≡ v
self_at f r v = ap (λ b. if b then v else f r) (self_test r)

lead_ask : (past : List Calls.Call) (r n : ℕ) (to : Mode) (lock : Lock) → n < 16 → Leads past r lock → entry_of lock n ≡ Is Free → Leads (Calls.Asks n r to ∷ past) r (asking lock n to)
lead_ask past r n to lock lt p e = record {
  accepted = (p.accepted, record { node = lt; accepted = ap (λ l. ask_refusal l n) p.leads ∙ ask_free lock n (free_at-is lock n e); answers = tt });
  leads = self_at (Calls.locks_after past) r _ ∙ ap (λ l. asked l n to) p.leads ∙ sym (asking-is lock n to e);
}

lead_ask_now : (past : List Calls.Call) (r n : ℕ) (mode : Mode) (lock : Lock) → n < 16 → Leads past r lock → entry_of lock n ≡ Is Free → FitsAll lock n mode → Leads (Rattle.laws_wire.specs.Made.asking_now past r n mode) r (asking_now lock n mode)
lead_ask_now past r n mode lock lt p e f = record {
  accepted = (p.accepted, record { node = lt; accepted = ap (λ l. ask_now_refusal l n mode) p.leads ∙ ask_now_free lock n mode e f; answers = refl });
  leads = self_at (Calls.locks_after past) r _ ∙ ap (λ l. holding l n mode) p.leads ∙ sym (asking_now-is lock n mode e f);
}

lead_convert : (past : List Calls.Call) (r n : ℕ) (m to : Mode) (value : Option Block) (lock : Lock) → n < 16 → Leads past r lock → entry_of lock n ≡ Is (Held m) → Leads (Rattle.laws_wire.specs.Made.converting past r n to value) r (converts lock n to value)
lead_convert past r n m to value lock lt p e = record {
  accepted = (p.accepted, record { node = lt; accepted = ap (λ l. convert_refusal l n) p.leads ∙ convert_held lock n m e; answers = refl });
  leads = self_at (Calls.locks_after past) r _ ∙ ap (λ l. converted l n to value) p.leads ∙ sym (converts-is lock n m to value e);
}

lead_release : (past : List Calls.Call) (r n : ℕ) (m : Mode) (value : Option Block) (lock : Lock) → n < 16 → Leads past r lock → entry_of lock n ≡ Is (Held m) → Leads (Calls.Releases n r value ∷ past) r (releases lock n value)
lead_release past r n m value lock lt p e = record {
  accepted = (p.accepted, record { node = lt; accepted = ap (λ l. release_refusal l n) p.leads ∙ release_held lock n m e; answers = tt });
  leads = self_at (Calls.locks_after past) r _ ∙ ap (λ l. released l n value) p.leads ∙ sym (releases-is lock n m value e);
}

lead_report : (past : List Calls.Call) (r n : ℕ) (l : Local) (lock : Lock) → n < 16 → Leads past r lock → entry_of lock n ≡ Is Free → FitsLocal lock n l → Leads (reporting past r n (Some l)) r (entered lock n l)
lead_report past r n Free lock lt p e f = p
lead_report past r n (Asking to) lock lt p e f = lead_ask past r n to lock lt p e
lead_report past r n (Held mode) lock lt p e f = lead_ask_now past r n mode lock lt p e f
lead_report past r n (Converting from to) lock lt p e f =
    lead_convert _ r n from to None (asking_now lock n from) lt (lead_ask_now past r n from lock lt p e f) (ap (λ k. entry_of k n) (asking_now-is lock n from e f) ∙ holding_own lock n from e)

leads_same : (past : List Calls.Call) (r : ℕ) (lock now : Lock) → now ≡ lock → Leads past r lock → Leads past r now
leads_same past r lock now e p = record { accepted = p.accepted; leads = p.leads ∙ sym e }

-- The lock at the master, after each call.

lock_same : (w v : Wire) (r : ℕ) → SameAt w v r → lock_at v r ≡ lock_at w r
lock_same w v r p = p.table (master_of v r) ∙ ap (λ k. w.table k r) p.master

pub ward_keeps : {A : Type 0} (g : Ward → A) (ward : ℕ → Ward) (r : ℕ) (u : Ward) (s : ℕ) → g u ≡ g (ward r) → g (with_at ward r u s) ≡ g (ward s)
ward_keeps g ward r u s e =
    elim (s == r) as (λ t. (s == r) ≡ t → g (if t then u else ward s) ≡ g (ward s)) [
      | true ↦ λ t. let same : s ≡ r = grind (arith, nat_tests) in e ∙ ap (λ k. g (ward k)) (sym same)
      | false ↦ λ t. refl
    ] refl

-- the state after a packet that is about resource s
abbrev heard_state : Wire → (ℕ → Ward) → ℕ → ℕ → ℕ → List Packet → Lock → Wire
heard_state w wards a b s ps lock = record w { link = with_cell w.link a b ps; table = with_cell w.table b s lock; ward = wards }

heard_lock : (w : Wire) (wards : ℕ → Ward) (a b s : ℕ) (ps : List Packet) (lock : Lock) (o : Option ℕ) → (wards s).master ≡ master_of w s → b ≡ master_of w s → lock_at (calls_unless o (heard_state w wards a b s ps lock) b s) s ≡ lock
heard_lock w wards a b s ps lock o e at =
    lock_same (heard_state w wards a b s ps lock) _ s (calls_same o (heard_state w wards a b s ps lock) b s s)
    ∙ ap (λ k. with_cell w.table b s lock k s) (e ∙ sym at) ∙ cell_own w.table b s lock

other_lock : (w : Wire) (wards : ℕ → Ward) (a b s r : ℕ) (ps : List Packet) (lock : Lock) (o : Option ℕ) → (wards r).master ≡ master_of w r → r ≢ s → lock_at (calls_unless o (heard_state w wards a b s ps lock) b s) r ≡ lock_at w r
other_lock w wards a b s r ps lock o e ne =
    lock_same (heard_state w wards a b s ps lock) _ r (calls_same o (heard_state w wards a b s ps lock) b s r)
    ∙ cell_to w.table b s lock ((wards r).master) r ne ∙ ap (λ k. w.table k r) e

cons_nil : {A : Type 0} (x : A) (xs : List A) → x ∷ xs ≡ [] → ⊥
cons_nil x xs e = cc

-- who is told of the resource is its master
pub is_told : (w : Wire) (a b r : ℕ) (word : Word) (more : List Word) → Kept w r → words r (w.link a b) ≡ word ∷ more → b ≡ master_of w r
is_told w a b r word more k e = elim (same_or b (master_of w r)) [ inl at ↦ at | inr ne ↦ absurd (cons_nil word more (sym e ∙ k.tells a b ne)) ]

-- what is on the link to the master
at_master : (w : Wire) (a b r : ℕ) (ws : List Word) → b ≡ master_of w r → words r (w.link a b) ≡ ws → words r (w.link a (master_of w r)) ≡ ws
at_master w a b r ws at e = ap (λ k. words r (w.link a k)) (sym at) ∙ e

-- Reports.

entered_by : Lock → ℕ → Option Local → Lock
entered_by lock n None = lock
entered_by lock n (Some l) = entered lock n l

entering : Wire → ℕ → ℕ → ℕ → Local → Wire
entering w a b r l = Machine.taken_report (with_table w b r (entered (w.table b r) a l)) r a

one_master : (w : Wire) (a b k r : ℕ) (o : Option Local) → master_of (reported_one w a b k o) r ≡ master_of w r
one_master w a b k r None = refl
one_master w a b k r (Some l) =
    let v = Machine.taken_report (with_table w b k (entered (w.table b k) a l)) k a in
    (calls_same (first_awaited v k) v b k r).master ∙ ward_keeps (λ u. u.master) w.ward k _ r refl

one_other : (w : Wire) (a b k r : ℕ) (o : Option Local) → r ≢ k → lock_at (reported_one w a b k o) r ≡ lock_at w r
one_other w a b k r None ne = refl
one_other w a b k r (Some l) ne =
    let v = Machine.taken_report (with_table w b k (entered (w.table b k) a l)) k a in
    lock_same v _ r (calls_same (first_awaited v k) v b k r)
    ∙ cell_to w.table b k (entered (w.table b k) a l) (master_of v r) r ne
    ∙ ap (λ m. w.table m r) (ward_keeps (λ u. u.master) w.ward k _ r refl)

one_own : (w : Wire) (a b r : ℕ) (o : Option Local) → (o ≡ None) ⊎ (b ≡ master_of w r) → lock_at (reported_one w a b r o) r ≡ entered_by (lock_at w r) a o
unfolding entered_by
one_own w a b r None at = refl
one_own w a b r (Some l) (inl e) = absurd (some_none l e)
  where
    some_none : (l : Local) → Some l ≡ None → ⊥
    some_none l e = cc
one_own w a b r (Some l) (inr at) =
    let v = Machine.taken_report (with_table w b r (entered (w.table b r) a l)) r a in
    lock_same v _ r (calls_same (first_awaited v r) v b r r)
    ∙ ap (λ m. with_cell w.table b r (entered (w.table b r) a l) m r) (ward_keeps (λ u. u.master) w.ward r _ r refl ∙ sym at)
    ∙ cell_own w.table b r (entered (w.table b r) a l)
    ∙ ap (λ m. entered (w.table m r) a l) at

reports_master : (w : Wire) (a b : ℕ) (states : List (Option Local)) (k r : ℕ) → master_of (reported w a b states k) r ≡ master_of w r
reports_master w a b states zero r = ap (λ v. master_of v r) (reported-zero w a b states)
reports_master w a b states (suc k) r = ap (λ v. master_of v r) (reported-suc w a b states k) ∙ one_master (reported w a b states k) a b k r (slice_index_or states k None) ∙ reports_master w a b states k r

not_yet : (w : Wire) (a b : ℕ) (states : List (Option Local)) (k r : ℕ) → k ≤ r → lock_at (reported w a b states k) r ≡ lock_at w r
not_yet w a b states zero r le = ap (λ v. lock_at v r) (reported-zero w a b states)
not_yet w a b states (suc k) r le = ap (λ v. lock_at v r) (reported-suc w a b states k) ∙ one_other (reported w a b states k) a b k r (slice_index_or states k None) (over r k le) ∙ not_yet w a b states k r (omega arith)
  where
    over : (s k : ℕ) → suc k ≤ s → s ≢ k
    over s k ge e = omega arith

by_then : (w : Wire) (a b : ℕ) (states : List (Option Local)) (k r : ℕ) → r < k → (slice_index_or states r None ≡ None) ⊎ (b ≡ master_of w r) → lock_at (reported w a b states k) r ≡ entered_by (lock_at w r) a (slice_index_or states r None)
by_then w a b states zero r lt at = absurd (omega arith)
by_then w a b states (suc k) r lt at =
    ap (λ v. lock_at v r) (reported-suc w a b states k)
    ∙ elim (same_or r k) [
      | inl e ↦
          ap (λ j. lock_at (reported_one (reported w a b states k) a b j (slice_index_or states j None)) r) (sym e)
          ∙ one_own (reported w a b states k) a b r (slice_index_or states r None) (elim at [ inl none ↦ inl none | inr m ↦ inr (m ∙ sym (reports_master w a b states k r)) ])
          ∙ ap (λ l. entered_by l a (slice_index_or states r None)) (not_yet w a b states k r (below r k e))
      | inr ne ↦ one_other (reported w a b states k) a b k r (slice_index_or states k None) ne ∙ by_then w a b states k r (less r k lt ne) at
    ]
  where
    less : (s k : ℕ) → s < suc k → s ≢ k → s < k
    less s k lt ne = grind (arith, nat_tests)

    below : (r k : ℕ) → r ≡ k → k ≤ r
    below r k e = omega arith

-- Each packet.

module _ (w : Wire) (a b : ℕ) (i : Inv w) (la : w.live a ≡ true) (past : List Calls.Call) where
  small : a < 16
  small = i.nodes a la

  told_by : (r : ℕ) (p : Packet) (ps : List Packet) (word : Word) → w.link a b ≡ p ∷ ps → words r (p ∷ ps) ≡ word ∷ words r ps → words r (w.link a b) ≡ word ∷ words r ps
  told_by r p ps word e own = ap (words r) e ∙ own

  heard_ask : (s r : ℕ) (to : Mode) (ps : List Packet) → w.link a b ≡ packets.Ask s to ∷ ps → Kept w r → Leads past r (lock_at w r) → Leads (hearing past r a (Some (packets.Ask s to))) r (lock_at (received (record w { link = with_cell w.link a b ps }) a b (Some (packets.Ask s to))) r)
  heard_ask s r to ps e k p = elim (same_or r s) [
    | inr ne ↦
        subst (λ q. Leads q r (lock_at v r)) (sym (other_word s r _ _ ne)) (leads_same past r _ _ (other_lock w w.ward a b s r ps (asking (w.table b s) a to) (first_awaited u s) refl ne) p)
    | inl at ↦ subst (λ j. Kept w j → Leads past j (lock_at w j) → Leads (if s == j then Calls.Asks a j to ∷ past else past) j (lock_at v j)) (sym at) here k p
  ]
    where
      u : Wire
      u = heard_state w w.ward a b s ps (asking (w.table b s) a to)

      v : Wire
      v = calls_unless (first_awaited u s) u b s

      here : Kept w s → Leads past s (lock_at w s) → Leads (if s == s then Calls.Asks a s to ∷ past else past) s (lock_at v s)
      here k p =
          let t = told_by s (packets.Ask s to) ps (Asked to) e (own_test s _ _) in
          let m = is_told w a b s (Asked to) (words s ps) k t in
          let view = ask_view w.live (lock_at w s) ((w.ward s).awaited) (λ n. w.local n s) (λ n. words s (w.link n (master_of w s))) (λ n. words s ps) (λ n. grants s (w.link (master_of w s) n)) a to k.fitting la (at_master w a b s _ m t) in
          subst (λ q. Leads q s (lock_at v s)) (sym (own_test s _ _))
          (leads_same _ s _ _ (heard_lock w w.ward a b s ps (asking (w.table b s) a to) (first_awaited u s) refl m ∙ ap (λ j. asking (w.table j s) a to) m) (lead_ask past s a to (lock_at w s) small p view))

  heard_convert : (s r : ℕ) (to : Mode) (value : Option Block) (ps : List Packet) → w.link a b ≡ packets.Convert s to value ∷ ps → Kept w r → Leads past r (lock_at w r) → Leads (hearing past r a (Some (packets.Convert s to value))) r (lock_at (received (record w { link = with_cell w.link a b ps }) a b (Some (packets.Convert s to value))) r)
  heard_convert s r to value ps e k p = elim (same_or r s) [
    | inr ne ↦
        subst (λ q. Leads q r (lock_at v r)) (sym (other_word s r _ _ ne)) (leads_same past r _ _ (other_lock w wards a b s r ps (converts (w.table b s) a to value) (first_awaited u s) (masters r) ne) p)
    | inl at ↦ subst (λ j. Kept w j → Leads past j (lock_at w j) → Leads (if s == j then Rattle.laws_wire.specs.Made.converting past j a to value else past) j (lock_at v j)) (sym at) here k p
  ]
    where
      wards : ℕ → Ward
      wards = (written w s (convert_writes (w.table b s) a to value)).ward

      masters : (j : ℕ) → (wards j).master ≡ master_of w j
      masters j = ward_keeps (λ x. x.master) w.ward s _ j refl

      u : Wire
      u = heard_state w wards a b s ps (converts (w.table b s) a to value)

      v : Wire
      v = calls_unless (first_awaited u s) u b s

      here : Kept w s → Leads past s (lock_at w s) → Leads (if s == s then Rattle.laws_wire.specs.Made.converting past s a to value else past) s (lock_at v s)
      here k p =
          let t = told_by s (packets.Convert s to value) ps (Converted to) e (own_test s _ _) in
          let m = is_told w a b s (Converted to) (words s ps) k t in
          let view = convert_view w.live (lock_at w s) ((w.ward s).awaited) (λ n. w.local n s) (λ n. words s (w.link n (master_of w s))) (λ n. words s ps) (λ n. grants s (w.link (master_of w s) n)) a to k.fitting la (at_master w a b s _ m t) in
          subst (λ q. Leads q s (lock_at v s)) (sym (own_test s _ _))
          (leads_same _ s _ _ (heard_lock w wards a b s ps (converts (w.table b s) a to value) (first_awaited u s) (masters s) m ∙ ap (λ j. converts (w.table j s) a to value) m) (lead_convert past s a view.0 to value (lock_at w s) small p view.1))

  heard_release : (s r : ℕ) (value : Option Block) (ps : List Packet) → w.link a b ≡ packets.Release s value ∷ ps → Kept w r → Leads past r (lock_at w r) → Leads (hearing past r a (Some (packets.Release s value))) r (lock_at (received (record w { link = with_cell w.link a b ps }) a b (Some (packets.Release s value))) r)
  heard_release s r value ps e k p = elim (same_or r s) [
    | inr ne ↦
        subst (λ q. Leads q r (lock_at v r)) (sym (other_word s r _ _ ne)) (leads_same past r _ _ (other_lock w wards a b s r ps (releases (w.table b s) a value) (first_awaited u s) (masters r) ne) p)
    | inl at ↦ subst (λ j. Kept w j → Leads past j (lock_at w j) → Leads (if s == j then Calls.Releases a j value ∷ past else past) j (lock_at v j)) (sym at) here k p
  ]
    where
      wards : ℕ → Ward
      wards = (written w s (release_writes (w.table b s) a value)).ward

      masters : (j : ℕ) → (wards j).master ≡ master_of w j
      masters j = ward_keeps (λ x. x.master) w.ward s _ j refl

      u : Wire
      u = heard_state w wards a b s ps (releases (w.table b s) a value)

      v : Wire
      v = calls_unless (first_awaited u s) u b s

      here : Kept w s → Leads past s (lock_at w s) → Leads (if s == s then Calls.Releases a s value ∷ past else past) s (lock_at v s)
      here k p =
          let t = told_by s (packets.Release s value) ps Released e (own_test s _ _) in
          let m = is_told w a b s Released (words s ps) k t in
          let view = release_view w.live (lock_at w s) ((w.ward s).awaited) (λ n. w.local n s) (λ n. words s (w.link n (master_of w s))) (λ n. words s ps) (λ n. grants s (w.link (master_of w s) n)) a k.fitting la (at_master w a b s _ m t) in
          subst (λ q. Leads q s (lock_at v s)) (sym (own_test s _ _))
          (leads_same _ s _ _ (heard_lock w wards a b s ps (releases (w.table b s) a value) (first_awaited u s) (masters s) m ∙ ap (λ j. releases (w.table j s) a value) m) (lead_release past s a view.0 value (lock_at w s) small p view.1))

  heard_report : (r : ℕ) (states : List (Option Local)) (ps : List Packet) (o : Option Local) → r < 21 → w.link a b ≡ packets.Report states ∷ ps → slice_index_or states r None ≡ o → Kept w r → Leads past r (lock_at w r) → Leads (reporting past r a o) r (lock_at (reported (record w { link = with_cell w.link a b ps }) a b states 21) r)
  unfolding entered_by
  heard_report r states ps None lt e o k p =
      leads_same past r _ _ (by_then (record w { link = with_cell w.link a b ps }) a b states 21 r lt (inl o) ∙ ap (entered_by (lock_at w r) a) o) p
  heard_report r states ps (Some l) lt e o k p =
      let t : words r (w.link a b) ≡ Told l ∷ words r ps = ap (words r) e ∙ ap (λ x. told_word x (words r ps)) o in
      let m = is_told w a b r (Told l) (words r ps) k t in
      let view = report_view w.live (lock_at w r) ((w.ward r).awaited) (λ n. w.local n r) (λ n. words r (w.link n (master_of w r))) (λ n. words r ps) (λ n. grants r (w.link (master_of w r) n)) a l k.fitting la (at_master w a b r _ m t) in
      leads_same _ r _ _ (by_then (record w { link = with_cell w.link a b ps }) a b states 21 r lt (inr m) ∙ ap (entered_by (lock_at w r) a) o) (lead_report past r a l (lock_at w r) small p view.free view.fits)

  heard_packet : (l : List Packet) (r : ℕ) → r < 21 → w.link a b ≡ l → Leads past r (lock_at w r) → Leads (hearing past r a (first l)) r (lock_at (received (record w { link = with_cell w.link a b (rest l) }) a b (first l)) r)
  heard_packet [] r lt e p = p
  heard_packet (packets.Ask s to ∷ ps) r lt e p = heard_ask s r to ps e (i.kept r lt) p
  heard_packet (packets.Convert s to value ∷ ps) r lt e p = heard_convert s r to value ps e (i.kept r lt) p
  heard_packet (packets.Release s value ∷ ps) r lt e p = heard_release s r value ps e (i.kept r lt) p
  heard_packet (packets.Granted s g ∷ ps) r lt e p = p
  heard_packet (packets.Called s asker ∷ ps) r lt e p = p
  heard_packet (packets.Report states ∷ ps) r lt e p = heard_report r states ps (slice_index_or states r None) lt e refl (i.kept r lt) p

-- Serving.

served_leads : (w : Wire) (s r : ℕ) (past : List Calls.Call) (o : Option Granted) → MayServe w s → grant_answer (lock_at w s) ≡ o → Leads past r (lock_at w r) → Leads (if s == r then serving past r (grant_answer (Calls.locks_after past r)) else past) r (lock_at (served_to w (master_of w s) s (option_map (told (w.ward s).stale) o)) r)
served_leads w s r past None may e p = elim (same_or r s) [
  | inr ne ↦ subst (λ q. Leads q r (lock_at w r)) (sym (other_word s r _ _ ne)) p
  | inl at ↦ subst (λ j. Leads past j (lock_at w j) → Leads (if s == j then serving past j (grant_answer (Calls.locks_after past j)) else past) j (lock_at w j)) (sym at) here p
]
  where
    here : Leads past s (lock_at w s) → Leads (if s == s then serving past s (grant_answer (Calls.locks_after past s)) else past) s (lock_at w s)
    here p = subst (λ q. Leads q s (lock_at w s)) (sym (own_test s _ _ ∙ ap (λ l. serving past s (grant_answer l)) p.leads ∙ ap (serving past s) e)) p
served_leads w s r past (Some g) may e p = elim (same_or r s) [
  | inr ne ↦ subst (λ q. Leads q r (lock_at v r)) (sym (other_word s r _ _ ne)) (leads_same past r _ _ (cell_to w.table (master_of w s) s (granted (lock_at w s)) (master_of v r) r ne ∙ ap (λ m. w.table m r) (masters r)) p)
  | inl at ↦ subst (λ j. Leads past j (lock_at w j) → Leads (if s == j then serving past j (grant_answer (Calls.locks_after past j)) else past) j (lock_at v j)) (sym at) here p
]
  where
    v : Wire
    v = served_to w (master_of w s) s (Some (told (w.ward s).stale g))

    twice : {A : Type 0} (f : Ward → A) (ward : ℕ → Ward) (k : ℕ) (x y : Ward) (j : ℕ) → f x ≡ f (ward k) → f y ≡ f (with_at ward k x k) → f (with_at (with_at ward k x) k y j) ≡ f (ward j)
    twice f ward k x y j ex ey = ward_keeps f (with_at ward k x) k y j ey ∙ ward_keeps f ward k x j ex

    masters : (j : ℕ) → master_of v j ≡ master_of w j
    masters j = twice (λ u. u.master) w.ward s _ _ j refl refl

    here : Leads past s (lock_at w s) → Leads (if s == s then serving past s (grant_answer (Calls.locks_after past s)) else past) s (lock_at v s)
    here p =
        let answer : grant_answer (Calls.locks_after past s) ≡ Some g = ap grant_answer p.leads ∙ e in
        subst (λ q. Leads q s (lock_at v s)) (sym (own_test s _ _ ∙ ap (serving past s) answer)) (record {
          accepted = (p.accepted, record { node = tt; accepted = ap grant_refusal p.leads ∙ may.grantable; answers = sym answer });
          leads = self_at (Calls.locks_after past) s _ ∙ ap granted p.leads ∙ sym (ap (λ m. with_cell w.table (master_of w s) s (granted (lock_at w s)) m s) (masters s) ∙ cell_own w.table (master_of w s) s (granted (lock_at w s)));
        })

-- Dying.

lead_die : (w v : Wire) (d r : ℕ) (past : List Calls.Call) → d < 16 → lock_at v r ≡ died (lock_at w r) d → Leads past r (lock_at w r) → Leads (Calls.Dies d ∷ past) r (lock_at v r)
lead_die w v d r past lt e p = record {
  accepted = (p.accepted, record { node = lt; accepted = refl; answers = tt });
  leads = ap (λ l. died l d) p.leads ∙ sym e;
}

died_leads : (w : Wire) (d r : ℕ) (past : List Calls.Call) (o : Option ℕ) → Inv w → r < 21 → w.live d ≡ true → heir (without_node w d) ≡ o → Leads past r (lock_at w r) → Leads (dying past d (master_of w r == d) o) r (lock_at (taken_over (without_node w d) d o) r)
died_leads w d r past None i lt ld e p = elim (master_of w r == d) as (λ t. Leads (dying past d t None) r (lock_at (without_node w d) r)) [
  | true ↦ lead_die w (without_node w d) d r past (i.nodes d ld) refl p
  | false ↦ lead_die w (without_node w d) d r past (i.nodes d ld) refl p
]
died_leads w d r past (Some m) i lt ld e p = elim (same_or (master_of w r) d) [
  | inr ne ↦
      subst (λ t. Leads (dying past d t (Some m)) r (lock_at u r)) (sym (differ_test (master_of w r) d ne))
      (lead_die w u d r past (i.nodes d ld) (ap (λ t. (without_node w d).table (if t then Machine.heirs_ward (without_node w d).live m else w.ward r).master r) (differ_test (master_of w r) d ne)) p)
  | inl same ↦
      subst (λ t. Leads (dying past d t (Some m)) r (lock_at u r)) (sym (ap (λ k. k == d) same ∙ self_test d))
      (record { accepted = tt; leads = sym (ap (λ t. (without_node w d).table (if t then Machine.heirs_ward (without_node w d).live m else w.ward r).master r) (ap (λ k. k == d) same ∙ self_test d) ∙ ap (λ l. died l d) ((i.kept r lt).fresh m (alive_was w d m alive) (λ x. alive_differs w d m alive (x ∙ same))) ∙ nothing_dies d) })
]
  where
    u : Wire
    u = taken_over (without_node w d) d (Some m)

    alive : (without_node w d).live m ≡ true
    alive = (first_such_some (without_node w d).live 0 16 m e).passes

-- Each call.

call_leads : (w : Wire) (call : Call) (r : ℕ) (past : List Calls.Call) → Inv w → IsAccepted w call → r < 21 → Leads past r (lock_at w r) → Leads (made_at w r call past) r (lock_at (effect w call) r)
call_leads w (Asks n s to) r past i a lt p = p
call_leads w (Converts n s to value) r past i a lt p = p
call_leads w (Releases n s value) r past i a lt p = p
call_leads w (Delivers x y) r past i a lt p = heard_packet w x y i (lives w x (or_first (Machine.node_refusal w x) _ a.accepted)) past (w.link x y) r lt refl p
call_leads w (Serves s) r past i a lt p = served_leads w s r past (grant_answer (lock_at w s)) (may_serve w s a.accepted) refl p
call_leads w (Dies d) r past i a lt p = died_leads w d r past (heir (without_node w d)) i lt (lives w d a.accepted) refl p

pub runs_lead : (nodes : ℕ) (past : List Call) → AreAccepted nodes past → (r : ℕ) → r < 21 → Leads (made_in nodes past r) r (lock_at (wire_after nodes past) r)
runs_lead nodes [] ok r lt = record { accepted = tt; leads = refl }
runs_lead nodes (call ∷ past) (ok, a) r lt = call_leads (wire_after nodes past) call r (made_in nodes past r) (runs_keep nodes past ok) a lt (runs_lead nodes past ok r lt)

pub runs_made : (nodes : ℕ) (past : List Call) → AreAccepted nodes past → (r : ℕ) → r < 21 → MadeSound nodes past r
runs_made nodes past ok r lt =
    let p = runs_lead nodes past ok r lt in
    record {
      accepted = p.accepted;
      sound = calls_are_sound (made_in nodes past r) p.accepted;
      answer = ap (λ l. option_map (told ((wire_after nodes past).ward r).stale) (grant_answer l)) (sym p.leads);
    }

-- what the table has is what these calls gave
pub made_held : (nodes : ℕ) (past : List Call) → AreAccepted nodes past → (r n : ℕ) → r < 21 → (lock_at (wire_after nodes past) r).held n ≡ held_in (made_in nodes past r) r n
made_held nodes past ok r n lt =
    let p = runs_lead nodes past ok r lt in
    sym (ap (λ (l : Lock). l.held n) p.leads) ∙ (calls_are_sound (made_in nodes past r) p.accepted).held r n
