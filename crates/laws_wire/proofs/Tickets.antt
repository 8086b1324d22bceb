-- What becomes of each ask and each conversion.
use Rattle.std.proofs.Common.{◌≡◌, ◌≢◌, ◌⊎◌, inl, inr, ℕ, zero, suc, ◌<◌, List, [], ◌∷◌, ◌++◌, Bool, true, false, ◌==◌, ◌&&◌, ◌||◌, Option, Some, None, refl, sym, ap, ◌∙◌, subst, arith, if◌then◌else◌}
use Rattle.std.specs.Prelude.{slice_index_or}
use Rattle.std.specs.Option.{option_map}
use Rattle.std.proofs.lemmas.Bool.Decides.{nat_tests}
use Rattle.dlm_modes.proofs.FirstLaws.{first_such_none}
use Rattle.dlm_modes.specs.Modes.{weaker}
use Rattle.dlm_modes.specs.Points.{with_at}
use Rattle.dlm_modes.specs.declared.mode.Mode.{Mode}
use Rattle.dlm_space.specs.Locks.{grant_answer}
use Rattle.dlm_space.specs.declared.answers.Granted.{Granted}
use Rattle.dlm_space.specs.declared.answers.Converted.TheVariants.{Now, Queued}
use Rattle.lock_wire.specs.Locals.{mode_held, kept, converting, converting_answer}
use Rattle.lock_wire.specs.Packets.{first, rest}
use Rattle.lock_wire.specs.Machine
use Rattle.lock_wire.specs.Machine.{Wire, Ward, with_cell, master_of, lock_at, first_awaited, with_local, sent, with_table, with_ward, written, calls_unless, calls_out, reported_one, reported, received, delivered, told, serve_answer, served_to, served, heir, report_of, without_node, heirs_ward, taken_over, died_of, opened, convert_from, answer_from, asking, converts, releases, convert_writes, release_writes}
use Rattle.lock_wire.specs.declared.local.Local.{Local}
use Rattle.lock_wire.specs.declared.local.Local.TheVariants.{Free, Asking, Held, Converting}
use Rattle.lock_wire.specs.declared.packet.Packet.{Packet}
use Rattle.lock_wire.specs.declared.packet.Packet.TheVariants as packets
use Rattle.lock_wire.proofs.Wires.{reported-zero, reported-suc}
use Rattle.laws_wire.specs.Runs.{Call, Asks, Converts, Releases, Delivers, Serves, Dies, effect, IsAccepted, AreAccepted, wire_after}
use Rattle.laws_wire.specs.Views.{Word, View, words, grant_of, grants, view_of, Fits, Ticket, Settled, Open, Answered, open_in, ticket_of, covers}
use Rattle.laws_wire.specs.Tickets.{converted_to, granted_to, took, lost, ticket_at, ticket_in, answers_open, answers_sent, IsAnswer, AreAnswers}
use Rattle.laws_wire.specs.Sound.{MastersCover, RunSound}
use Rattle.laws_wire.specs.Invariants.{Inv}
use Rattle.laws_wire.proofs.Steps.{same_or, HeadWaits, serves_open, awaits_open}
use Rattle.laws_wire.proofs.Links.{grants-push, nothing_more, cell_own, cell_to, cell_from, cell_same}
use Rattle.laws_wire.proofs.Wires.{own_test, other_word, or_first, or_second, lives, calls_same, clash, alive_differs, alive_was, over_same, with_reports, serving, self_test, differ_test, no_grants, none_awaited, MayServe, may_serve}
use Rattle.laws_wire.proofs.Made.{runs_made, made_held}
use Rattle.laws_wire.proofs.RunsKept.{free_is, held_is, released_is, runs_keep, lived, states_are_sound, inv_covers, inv_awaits}

abbrev state_ticket : Wire → ℕ → ℕ → Ticket
state_ticket w n s = ticket_of (w.local n s) (grants s (w.link (master_of w s) n))

-- local states and grants are the same
record Quiet (w v : Wire) (s : ℕ) : Type 0 where
  master : master_of v s ≡ master_of w s
  local : (n : ℕ) → v.local n s ≡ w.local n s
  given : (a b : ℕ) → grants s (v.link a b) ≡ grants s (w.link a b)

quiet_ticket : (w v : Wire) (s n : ℕ) → Quiet w v s → state_ticket v n s ≡ state_ticket w n s
quiet_ticket w v s n q = ap (λ l. ticket_of l (grants s (v.link (master_of v s) n))) (q.local n) ∙ ap (ticket_of (w.local n s)) (q.given (master_of v s) n ∙ ap (λ m. grants s (w.link m n)) q.master)

quiet_then : (w v u : Wire) (s : ℕ) → Quiet w v s → Quiet v u s → Quiet w u s
quiet_then w v u s p q = record { master = q.master ∙ p.master; local = λ n. q.local n ∙ p.local n; given = λ a b. q.given a b ∙ p.given a b }

quiet_calls : (o : Option ℕ) (w : Wire) (m r s : ℕ) → Quiet w (calls_unless o w m r) s
quiet_calls o w m r s = let p = calls_same o w m r s in record { master = p.master; local = p.local; given = p.given }

ward_keeps : {A : Type 0} (g : Ward → A) (ward : ℕ → Ward) (r : ℕ) (u : Ward) (s : ℕ) → g u ≡ g (ward r) → g (with_at ward r u s) ≡ g (ward s)
ward_keeps g ward r u s e =
    elim (s == r) as (λ t. (s == r) ≡ t → g (if t then u else ward s) ≡ g (ward s)) [
      | true ↦ λ t. let same : s ≡ r = grind (arith, nat_tests) in e ∙ ap (λ k. g (ward k)) (sym same)
      | false ↦ λ t. refl
    ] refl

-- A delivery.

quiet_one : (w : Wire) (a b r : ℕ) (o : Option Local) (s : ℕ) → Quiet w (reported_one w a b r o) s
quiet_one w a b r None s = record { master = refl; local = λ n. refl; given = λ x y. refl }
quiet_one w a b r (Some l) s =
    let v = Machine.taken_report (with_table w b r (Machine.entered (w.table b r) a l)) r a in
    quiet_then w v _ s (record { master = ward_keeps (λ u. u.master) w.ward r _ s refl; local = λ n. refl; given = λ x y. refl }) (quiet_calls (first_awaited v r) v b r s)

quiet_reported : (w : Wire) (a b : ℕ) (states : List (Option Local)) (k s : ℕ) → Quiet w (reported w a b states k) s
quiet_reported w a b states zero s = subst (λ v. Quiet w v s) (sym (reported-zero w a b states)) (record { master = refl; local = λ n. refl; given = λ x y. refl })
quiet_reported w a b states (suc k) s =
    subst (λ v. Quiet w v s) (sym (reported-suc w a b states k))
    (quiet_then w (reported w a b states k) _ s (quiet_reported w a b states k s) (quiet_one (reported w a b states k) a b k (slice_index_or states k None) s))

-- the packet is off its link, and tells and wards change
quiet_off : (w v : Wire) (a b : ℕ) (p : Packet) (ps : List Packet) (s : ℕ) → w.link a b ≡ p ∷ ps → grants s (p ∷ ps) ≡ grants s ps → master_of v s ≡ master_of w s → ((n : ℕ) → v.local n s ≡ w.local n s) → ((x y : ℕ) → v.link x y ≡ with_cell w.link a b ps x y) → Quiet w v s
quiet_off w v a b p ps s e none master local link = record {
  master = master;
  local = local;
  given = λ x y. ap (grants s) (link x y) ∙ cell_same (grants s) w.link a b ps x y (sym (ap (grants s) e ∙ none));
}

either : (b : Bool) (x : Ticket) → (if b then x else x) ≡ x
either true x = refl
either false x = refl

fits_one : (v : View) (up : List Word) (to : Mode) (rest : List Mode) (l : Local) → Fits v up (to ∷ rest) l → rest ≡ []
fits_one v up to [] l f = refl
fits_one v up to (more ∷ rest) l f = absurd f

cons_nil : {A : Type 0} (x : A) (xs : List A) → x ∷ xs ≡ [] → ⊥
cons_nil x xs e = cc

took_granted : (w : Wire) (a b r : ℕ) (g : Granted) (ps : List Packet) (n s : ℕ) → Inv w → s < 21 → w.live n ≡ true → w.link a b ≡ packets.Granted r g ∷ ps → state_ticket (received (record w { link = with_cell w.link a b ps }) a b (Some (packets.Granted r g))) n s ≡ (if b == n then took s (Some (packets.Granted r g)) (state_ticket w n s) else state_ticket w n s)
took_granted w a b r g ps n s i lt ln e = elim (same_or b n) [
  | inr ne ↦
      ap (λ l. ticket_of l (grants s (with_cell w.link a b ps (master_of w s) n))) (cell_from w.local b r (Held g.mode) n s (λ x. ne (sym x)))
      ∙ ap (λ l. ticket_of (w.local n s) (grants s l)) (cell_to w.link a b ps (master_of w s) n (λ x. ne (sym x)))
      ∙ sym (ap (λ t. if t then took s (Some (packets.Granted r g)) (state_ticket w n s) else state_ticket w n s) (differ_test b n ne))
  | inl same ↦ elim (same_or s r) [
    | inr ne ↦
        ap (λ l. ticket_of l (grants s (with_cell w.link a b ps (master_of w s) n))) (cell_to w.local b r (Held g.mode) n s ne)
        ∙ ap (ticket_of (w.local n s)) (cell_same (grants s) w.link a b ps (master_of w s) n (sym (ap (grants s) e ∙ other_word r s _ _ ne)))
        ∙ sym (ap (λ t. if b == n then t else state_ticket w n s) (other_word r s Settled (state_ticket w n s) ne) ∙ either (b == n) (state_ticket w n s))
    | inl at ↦ here same at
  ]
]
  where
    here : b ≡ n → s ≡ r → state_ticket (received (record w { link = with_cell w.link a b ps }) a b (Some (packets.Granted r g))) n s ≡ (if b == n then took s (Some (packets.Granted r g)) (state_ticket w n s) else state_ticket w n s)
    here same at = elim (same_or a (master_of w r)) [
      | inr ne ↦ absurd (cons_nil g.mode (grants r ps) (sym (own_test r _ _) ∙ sym (ap (grants r) e) ∙ (i.kept r (subst (λ k. k < 21) at lt)).gives a b ne))
      | inl am ↦
          ap (λ l. ticket_of l (grants s (with_cell w.link a b ps (master_of w s) n))) (ap (λ k. with_cell w.local b r (Held g.mode) k s) (sym same) ∙ ap (λ k. with_cell w.local b r (Held g.mode) b k) at ∙ cell_own w.local b r (Held g.mode))
          ∙ ap (ticket_of (Held g.mode)) (ap (λ k. grants k (with_cell w.link a b ps (master_of w k) n)) at ∙ ap (λ m. grants r (with_cell w.link a b ps m n)) (sym am) ∙ ap (λ k. grants r (with_cell w.link a b ps a k)) (sym same) ∙ ap (grants r) (cell_own w.link a b ps) ∙ nothing am)
          ∙ sym (ap (λ t. if t then took s (Some (packets.Granted r g)) (state_ticket w n s) else state_ticket w n s) (ap (λ k. k == n) same ∙ self_test n) ∙ ap (λ t. if t then Settled else state_ticket w n s) (ap (λ k. r == k) at ∙ self_test r))
    ]
      where
        nothing : a ≡ master_of w r → grants r ps ≡ []
        nothing am =
            let there : grants r (w.link (master_of w r) n) ≡ g.mode ∷ grants r ps = ap (λ m. grants r (w.link m n)) (sym am) ∙ ap (λ k. grants r (w.link a k)) (sym same) ∙ ap (grants r) e ∙ own_test r _ _ in
            fits_one (view_of ((w.ward r).awaited n) (lock_at w r) n) (words r (w.link n (master_of w r))) g.mode (grants r ps) (w.local n r) (subst (λ d. Fits (view_of ((w.ward r).awaited n) (lock_at w r) n) (words r (w.link n (master_of w r))) d (w.local n r)) there ((i.kept r (subst (λ k. k < 21) at lt)).fitting.fits n ln))

quiet_took : (w v : Wire) (b n s : ℕ) (o : Option Packet) → Quiet w v s → took s o (state_ticket w n s) ≡ state_ticket w n s → state_ticket v n s ≡ (if b == n then took s o (state_ticket w n s) else state_ticket w n s)
quiet_took w v b n s o q e = quiet_ticket w v s n q ∙ sym (ap (λ t. if b == n then t else state_ticket w n s) e ∙ either (b == n) (state_ticket w n s))

took_link : (w : Wire) (a b : ℕ) (l : List Packet) (n s : ℕ) → Inv w → s < 21 → w.live n ≡ true → w.link a b ≡ l → state_ticket (received (record w { link = with_cell w.link a b (rest l) }) a b (first l)) n s ≡ (if b == n then took s (first l) (state_ticket w n s) else state_ticket w n s)
took_link w a b [] n s i lt ln e =
    quiet_took w (record w { link = with_cell w.link a b [] }) b n s None (record { master = refl; local = λ k. refl; given = λ x y. cell_same (grants s) w.link a b [] x y (sym (ap (grants s) e)) }) refl
took_link w a b (packets.Ask r to ∷ ps) n s i lt ln e =
    let v = with_table (record w { link = with_cell w.link a b ps }) b r (asking (w.table b r) a to) in
    quiet_took w (calls_unless (first_awaited v r) v b r) b n s (Some (packets.Ask r to)) (quiet_then w v _ s (quiet_off w v a b (packets.Ask r to) ps s e refl refl (λ k. refl) (λ x y. refl)) (quiet_calls (first_awaited v r) v b r s)) refl
took_link w a b (packets.Convert r to value ∷ ps) n s i lt ln e =
    let v = with_table (written (record w { link = with_cell w.link a b ps }) r (convert_writes (w.table b r) a to value)) b r (converts (w.table b r) a to value) in
    quiet_took w (calls_unless (first_awaited v r) v b r) b n s (Some (packets.Convert r to value)) (quiet_then w v _ s (quiet_off w v a b (packets.Convert r to value) ps s e refl (ward_keeps (λ u. u.master) w.ward r _ s refl) (λ k. refl) (λ x y. refl)) (quiet_calls (first_awaited v r) v b r s)) refl
took_link w a b (packets.Release r value ∷ ps) n s i lt ln e =
    let v = with_table (written (record w { link = with_cell w.link a b ps }) r (release_writes (w.table b r) a value)) b r (releases (w.table b r) a value) in
    quiet_took w (calls_unless (first_awaited v r) v b r) b n s (Some (packets.Release r value)) (quiet_then w v _ s (quiet_off w v a b (packets.Release r value) ps s e refl (ward_keeps (λ u. u.master) w.ward r _ s refl) (λ k. refl) (λ x y. refl)) (quiet_calls (first_awaited v r) v b r s)) refl
took_link w a b (packets.Granted r g ∷ ps) n s i lt ln e = took_granted w a b r g ps n s i lt ln e
took_link w a b (packets.Called r asker ∷ ps) n s i lt ln e =
    quiet_took w (record w { link = with_cell w.link a b ps }) b n s (Some (packets.Called r asker)) (quiet_off w (record w { link = with_cell w.link a b ps }) a b (packets.Called r asker) ps s e refl refl (λ k. refl) (λ x y. refl)) refl
took_link w a b (packets.Report states ∷ ps) n s i lt ln e =
    let v = record w { link = with_cell w.link a b ps } in
    quiet_took w (reported v a b states 21) b n s (Some (packets.Report states)) (quiet_then w v _ s (quiet_off w v a b (packets.Report states) ps s e refl refl (λ k. refl) (λ x y. refl)) (quiet_reported v a b states 21 s)) refl

-- A grant.

served_ticket : (w : Wire) (r n s : ℕ) (o : Option Granted) → Inv w → r < 21 → MayServe w r → grant_answer (lock_at w r) ≡ o → state_ticket (served_to w (master_of w r) r (option_map (told (w.ward r).stale) o)) n s ≡ (if r == s then granted_to n s (option_map (told (w.ward r).stale) o) (state_ticket w n s) else state_ticket w n s)
served_ticket w r n s None i below may e = sym (either (r == s) (state_ticket w n s))
served_ticket w r n s (Some g) i below may e =
    quiet_ticket (serving w r g) (calls_out (serving w r g) (master_of w r) r) s n (quiet_calls None (serving w r g) (master_of w r) r s)
    ∙ elim (same_or s r) [
      | inr ne ↦
          quiet_ticket w (serving w r g) s n (record {
            master = ward_keeps (λ u. u.master) w.ward r _ s refl;
            local = λ k. refl;
            given = λ x y. cell_same (grants s) w.link m g.node (w.link m g.node ++ packet ∷ []) x y (grants-push s (w.link m g.node) packet ∙ ap (λ q. grants s (w.link m g.node) ++ q) (other_word r s _ _ ne) ∙ nothing_more (grants s (w.link m g.node)));
          })
          ∙ sym (other_word r s _ _ ne)
      | inl at ↦ here at
    ]
  where
    m : ℕ
    m = master_of w r

    packet : Packet
    packet = packets.Granted r (told (w.ward r).stale g)

    waits : HeadWaits w.live (lock_at w r) ((w.ward r).awaited) (λ k. w.local k r) (λ k. words r (w.link k (master_of w r))) (λ k. grants r (w.link (master_of w r) k)) g.node g.mode
    waits = serves_open w.live (lock_at w r) ((w.ward r).awaited) (λ k. w.local k r) (λ k. words r (w.link k (master_of w r))) (λ k. grants r (w.link (master_of w r) k)) (lock_at w r).conversions (lock_at w r).requests g refl refl (i.kept r below).fitting (none_awaited w r i.nodes may.none) e

    at_r : state_ticket (serving w r g) n r ≡ (if g.node == n then Answered g.mode else state_ticket w n r)
    at_r =
        ap (λ k. ticket_of (w.local n r) (grants r ((serving w r g).link k n))) (ward_keeps (λ u. u.master) w.ward r _ r refl)
        ∙ elim (same_or n g.node) [
          | inl x ↦
              ap (ticket_of (w.local n r)) (ap (λ k. grants r ((serving w r g).link m k)) x ∙ ap (grants r) (cell_own w.link m g.node (w.link m g.node ++ packet ∷ [])) ∙ grants-push r (w.link m g.node) packet ∙ ap (λ q. q ++ grant_of r packet []) waits.none ∙ own_test r _ _)
              ∙ sym (ap (λ t. if t then Answered g.mode else state_ticket w n r) (ap (λ k. g.node == k) x ∙ self_test g.node))
          | inr ne ↦
              ap (λ l. ticket_of (w.local n r) (grants r l)) (cell_to w.link m g.node (w.link m g.node ++ packet ∷ []) m n ne)
              ∙ sym (ap (λ t. if t then Answered g.mode else state_ticket w n r) (differ_test g.node n (λ x. ne (sym x))))
        ]

    here : s ≡ r → state_ticket (serving w r g) n s ≡ (if r == s then granted_to n s (Some (told (w.ward r).stale g)) (state_ticket w n s) else state_ticket w n s)
    here at = subst (λ k. state_ticket (serving w r g) n k ≡ (if r == k then granted_to n k (Some (told (w.ward r).stale g)) (state_ticket w n k) else state_ticket w n k)) (sym at) (at_r ∙ sym (own_test r _ _))

-- A node's own calls.

silent_down : (v : View) (up : List Word) (down : List Mode) (l : Local) → Fits v up down l → open_in l ≡ Settled → down ≡ []
silent_down v up [] l f e = refl
silent_down v up (to ∷ []) l f e = absurd (opens to (sym (awaits_open l to f.2) ∙ e))
  where
    opens : (to : Mode) → Open to ≡ Settled → ⊥
    opens to e = cc
silent_down v up (to ∷ more ∷ rest) l f e = absurd f

-- nothing is on its way to a node that waits for nothing
nothing_sent : (w : Wire) (n s : ℕ) → Inv w → s < 21 → w.live n ≡ true → open_in (w.local n s) ≡ Settled → grants s (w.link (master_of w s) n) ≡ []
nothing_sent w n s i lt ln e = silent_down (view_of ((w.ward s).awaited n) (lock_at w s) n) (words s (w.link n (master_of w s))) (grants s (w.link (master_of w s) n)) (w.local n s) ((i.kept s lt).fitting.fits n ln) e

said_ticket : (w : Wire) (k r : ℕ) (l : Local) (p : Packet) (n s : ℕ) (new : Ticket) → ((j : ℕ) → grant_of j p [] ≡ []) → (r ≡ s → k ≡ n → ticket_of l (grants s (w.link (master_of w s) n)) ≡ new) → state_ticket (sent (with_local w k r l) k (master_of w r) p) n s ≡ (if (r == s) && (k == n) then new else state_ticket w n s)
said_ticket w k r l p n s new none here =
    ap (ticket_of (with_cell w.local k r l n s)) (cell_same (grants s) w.link k (master_of w r) (w.link k (master_of w r) ++ p ∷ []) (master_of w s) n (grants-push s (w.link k (master_of w r)) p ∙ ap (λ x. grants s (w.link k (master_of w r)) ++ x) (none s) ∙ nothing_more (grants s (w.link k (master_of w r)))))
    ∙ elim (same_or s r) [
      | inr ne ↦ ap (λ x. ticket_of x (grants s (w.link (master_of w s) n))) (cell_to w.local k r l n s ne) ∙ sym (ap (λ t. if t && (k == n) then new else state_ticket w n s) (differ_test r s (λ x. ne (sym x))))
      | inl at ↦ elim (same_or n k) [
        | inr ne ↦ ap (λ x. ticket_of x (grants s (w.link (master_of w s) n))) (cell_from w.local k r l n s ne) ∙ sym (ap (λ t. if t && (k == n) then new else state_ticket w n s) (ap (λ j. r == j) at ∙ self_test r) ∙ ap (λ t. if t then new else state_ticket w n s) (differ_test k n (λ x. ne (sym x))))
        | inl same ↦
            ap (λ x. ticket_of x (grants s (w.link (master_of w s) n))) (ap (λ j. with_cell w.local k r l j s) same ∙ ap (with_cell w.local k r l k) at ∙ cell_own w.local k r l)
            ∙ here (sym at) (sym same)
            ∙ sym (ap (λ t. if t && (k == n) then new else state_ticket w n s) (ap (λ j. r == j) at ∙ self_test r) ∙ ap (λ t. if t then new else state_ticket w n s) (ap (λ j. k == j) same ∙ self_test k))
      ]
    ]

if_same : (b : Bool) (x : Ticket) → x ≡ (if b then x else x)
if_same b x = sym (either b x)

converted_ticket : (m to : Mode) → open_in (converting m to) ≡ converted_to (Some (converting_answer m to)) to Settled
converted_ticket m to = elim (weaker m to) as (λ b. open_in (if b then Held to else Converting (kept m to) to) ≡ converted_to (Some (if b then Now else Queued)) to Settled) [ true ↦ refl | false ↦ refl ]

-- A death.

lost_is : (l : Local) (v : View) (up : List Word) (down : List Mode) → Fits v up down l → open_in l ≡ lost (ticket_of l down)
lost_is Free v up [] f = refl
lost_is (Asking to) v up [] f = refl
lost_is (Held m) v up [] f = refl
lost_is (Converting x to) v up [] f = refl
lost_is l v up (to ∷ []) f = awaits_open l to f.2
lost_is l v up (to ∷ more ∷ rest) f = absurd f

died_other_link : (w : Wire) (d s m n : ℕ) → m ≢ d → n ≢ d → grants s ((without_node w d).link m n) ≡ grants s (w.link m n)
died_other_link w d s m n a b = ap (λ t. grants s (if t || (n == d) then [] else w.link m n)) (differ_test m d a) ∙ ap (λ t. grants s (if t then [] else w.link m n)) (differ_test n d b)

died_local : (w : Wire) (d n s : ℕ) → n ≢ d → (without_node w d).local n s ≡ w.local n s
died_local w d n s ne = ap (λ b. if b then Free else w.local n s) (differ_test n d ne)

over_ticket : (w : Wire) (d n s : ℕ) (o : Option ℕ) → Inv w → s < 21 → (without_node w d).live n ≡ true → heir (without_node w d) ≡ o → state_ticket (taken_over (without_node w d) d o) n s ≡ (if master_of w s == d then lost (state_ticket w n s) else state_ticket w n s)
over_ticket w d n s None i lt ln e = absurd (clash (sym ln ∙ first_such_none (without_node w d).live 0 16 e n (omega arith) (omega (arith, i.nodes n (alive_was w d n ln)))))
over_ticket w d n s (Some m) i lt ln e = elim (same_or (master_of w s) d) [
  | inr ne ↦
      (let p = over_same (without_node w d) d m s lt ne in quiet_ticket (without_node w d) (taken_over (without_node w d) d (Some m)) s n (record { master = p.master; local = p.local; given = p.given }))
      ∙ ap (λ l. ticket_of l (grants s ((without_node w d).link (master_of w s) n))) (died_local w d n s (alive_differs w d n ln))
      ∙ ap (ticket_of (w.local n s)) (died_other_link w d s (master_of w s) n ne (alive_differs w d n ln))
      ∙ sym (ap (λ t. if t then lost (state_ticket w n s) else state_ticket w n s) (differ_test (master_of w s) d ne))
  | inl same ↦
      ap (ticket_of ((without_node w d).local n s)) (given_none same (master_of (taken_over (without_node w d) d (Some m)) s) n)
      ∙ ap open_in (died_local w d n s (alive_differs w d n ln))
      ∙ lost_is (w.local n s) (view_of ((w.ward s).awaited n) (lock_at w s) n) (words s (w.link n (master_of w s))) (grants s (w.link (master_of w s) n)) ((i.kept s lt).fitting.fits n (alive_was w d n ln))
      ∙ sym (ap (λ t. if t then lost (state_ticket w n s) else state_ticket w n s) (ap (λ k. k == d) same ∙ self_test d))
]
  where
    v : Wire
    v = without_node w d

    given_none : master_of w s ≡ d → (a b : ℕ) → grants s (with_reports (without_node w d) d m a b) ≡ []
    given_none same a b = elim ((b == m) && v.live a) as (λ t. grants s (if t then v.link a b ++ report_of v d a ∷ [] else v.link a b) ≡ []) [
      | true ↦ grants-push s (v.link a b) (report_of v d a) ∙ nothing_more (grants s (v.link a b)) ∙ no_grants w d s lt (i.kept s lt) same a b
      | false ↦ no_grants w d s lt (i.kept s lt) same a b
    ]

-- Each call.

moves : (w : Wire) (call : Call) (n s : ℕ) → Inv w → IsAccepted w call → s < 21 → (effect w call).live n ≡ true → state_ticket (effect w call) n s ≡ ticket_at w n s call (state_ticket w n s)
moves w (Asks k r to) n s i a lt ln =
    let f : w.local k r ≡ Free = free_is _ (or_second (Machine.node_refusal w k) _ a.accepted) in
    said_ticket w k r (Asking to) (packets.Ask r to) n s (Open to) (λ j. refl) (λ at same. ap (ticket_of (Asking to)) (nothing_sent w n s i lt ln (ap open_in (ap (λ j. w.local n j) (sym at) ∙ ap (λ j. w.local j r) (sym same) ∙ f))))
moves w (Converts k r to value) n s i a lt ln =
    let f = held_is (w.local k r) (or_second (Machine.node_refusal w k) _ a.accepted) in
    let new = converted_to (answer_from (w.local k r) to) to (state_ticket w n s) in
    said_ticket w k r (convert_from (w.local k r) to) (packets.Convert r to value) n s new (λ j. refl)
    (λ at same.
    let was : w.local n s ≡ Held f.0 = ap (λ j. w.local n j) (sym at) ∙ ap (λ j. w.local j r) (sym same) ∙ f.1 in
    let none = nothing_sent w n s i lt ln (ap open_in was) in
    let settled : state_ticket w n s ≡ Settled = ap (λ l. ticket_of l (grants s (w.link (master_of w s) n))) was ∙ ap (ticket_of (Held f.0)) none in
    ap (λ l. ticket_of (convert_from l to) (grants s (w.link (master_of w s) n))) f.1
    ∙ ap (ticket_of (converting f.0 to)) none
    ∙ converted_ticket f.0 to
    ∙ sym (ap (λ l. converted_to (answer_from l to) to (state_ticket w n s)) f.1 ∙ ap (converted_to (Some (converting_answer f.0 to)) to) settled))
moves w (Releases k r value) n s i a lt ln =
    let f = released_is (w.local k r) (or_second (Machine.node_refusal w k) _ a.accepted) in
    said_ticket w k r Free (packets.Release r value) n s (state_ticket w n s) (λ j. refl)
    (λ at same.
    let was : w.local n s ≡ Held f.0 = ap (λ j. w.local n j) (sym at) ∙ ap (λ j. w.local j r) (sym same) ∙ f.1 in
    let none = nothing_sent w n s i lt ln (ap open_in was) in
    ap (ticket_of Free) none ∙ sym (ap (λ l. ticket_of l (grants s (w.link (master_of w s) n))) was ∙ ap (ticket_of (Held f.0)) none))
    ∙ either ((r == s) && (k == n)) (state_ticket w n s)
moves w (Delivers x y) n s i a lt ln = took_link w x y (w.link x y) n s i lt (lived w (Delivers x y) n ln) refl
moves w (Serves r) n s i a lt ln =
    served_ticket w r n s (grant_answer (lock_at w r)) i a.resource (may_serve w r a.accepted) refl
    ∙ same_answer (same_or s r)
  where
    same_answer : (s ≡ r) ⊎ (s ≢ r) → (if r == s then granted_to n s (serve_answer w r) (state_ticket w n s) else state_ticket w n s) ≡ (if r == s then granted_to n s (serve_answer w s) (state_ticket w n s) else state_ticket w n s)
    same_answer (inl at) = ap (λ k. if r == s then granted_to n s (serve_answer w k) (state_ticket w n s) else state_ticket w n s) (sym at)
    same_answer (inr ne) = other_word r s _ _ ne ∙ sym (other_word r s _ _ ne)
moves w (Dies d) n s i a lt ln =
    let alive : (without_node w d).live n ≡ true = still_alive w d n ln in
    over_ticket w d n s (heir (without_node w d)) i lt alive refl
    ∙ sym (ap (λ t. if t then Settled else (if master_of w s == d then lost (state_ticket w n s) else state_ticket w n s)) (differ_test n d (alive_differs w d n alive)))
  where
    live_over : (v : Wire) (d : ℕ) (o : Option ℕ) → (taken_over v d o).live ≡ v.live
    live_over v d None = refl
    live_over v d (Some m) = refl

    still_alive : (w : Wire) (d n : ℕ) → (died_of w d).live n ≡ true → (without_node w d).live n ≡ true
    still_alive w d n t = sym (ap (λ f. f n) (live_over (without_node w d) d (heir (without_node w d)))) ∙ t

pub run_tickets : (nodes : ℕ) (past : List Call) → AreAccepted nodes past → (n s : ℕ) → s < 21 → (wire_after nodes past).live n ≡ true → ticket_in nodes past n s ≡ state_ticket (wire_after nodes past) n s
run_tickets nodes [] ok n s lt ln = refl
run_tickets nodes (call ∷ past) (ok, a) n s lt ln =
    let w = wire_after nodes past in
    ap (ticket_at w n s call) (run_tickets nodes past ok n s lt (lived w call n ln)) ∙ sym (moves w call n s (runs_keep nodes past ok) a lt ln)

-- What the calls that grant tell.

answer_open : (nodes : ℕ) (past : List Call) (r : ℕ) (o : Option Granted) → AreAccepted nodes past → r < 21 → MayServe (wire_after nodes past) r → grant_answer (lock_at (wire_after nodes past) r) ≡ o → answers_open nodes past r (option_map (told ((wire_after nodes past).ward r).stale) o)
answer_open nodes past r None ok below may e = tt
answer_open nodes past r (Some g) ok below may e =
    let w = wire_after nodes past in
    let i = runs_keep nodes past ok in
    let h = serves_open w.live (lock_at w r) ((w.ward r).awaited) (λ k. w.local k r) (λ k. words r (w.link k (master_of w r))) (λ k. grants r (w.link (master_of w r) k)) (lock_at w r).conversions (lock_at w r).requests g refl refl (i.kept r below).fitting (none_awaited w r i.nodes may.none) e in
    run_tickets nodes past ok g.node r below h.lives ∙ ap (ticket_of (w.local g.node r)) h.none ∙ h.opens

answer_sent : (nodes : ℕ) (past : List Call) (a b : ℕ) (l : List Packet) → AreAccepted nodes past → (wire_after nodes past).live b ≡ true → (wire_after nodes past).link a b ≡ l → answers_sent nodes past b (first l)
answer_sent nodes past a b [] ok lb e = tt
answer_sent nodes past a b (packets.Ask r to ∷ ps) ok lb e = tt
answer_sent nodes past a b (packets.Convert r to value ∷ ps) ok lb e = tt
answer_sent nodes past a b (packets.Release r value ∷ ps) ok lb e = tt
answer_sent nodes past a b (packets.Granted r g ∷ ps) ok lb e = λ below.
    let w = wire_after nodes past in
    let i = runs_keep nodes past ok in
    elim (same_or a (master_of w r)) [
      | inl am ↦ run_tickets nodes past ok b r below lb ∙ ap (ticket_of (w.local b r)) (ap (λ m. grants r (w.link m b)) (sym am) ∙ ap (grants r) e ∙ own_test r _ _)
      | inr ne ↦ absurd (cons_nil g.mode (grants r ps) (sym (own_test r _ _) ∙ sym (ap (grants r) e) ∙ (i.kept r below).gives a b ne))
    ]
answer_sent nodes past a b (packets.Called r asker ∷ ps) ok lb e = tt
answer_sent nodes past a b (packets.Report states ∷ ps) ok lb e = tt

is_answer : (nodes : ℕ) (past : List Call) (call : Call) → AreAccepted nodes past → IsAccepted (wire_after nodes past) call → IsAnswer nodes past call
is_answer nodes past (Asks n r to) ok a = tt
is_answer nodes past (Converts n r to value) ok a = tt
is_answer nodes past (Releases n r value) ok a = tt
is_answer nodes past (Delivers x y) ok a =
    let w = wire_after nodes past in
    answer_sent nodes past x y (w.link x y) ok (lives w y (or_first (Machine.node_refusal w y) _ (or_second (Machine.node_refusal w x) _ a.accepted))) refl
is_answer nodes past (Serves r) ok a = answer_open nodes past r (grant_answer (lock_at (wire_after nodes past) r)) ok a.resource (may_serve (wire_after nodes past) r a.accepted) refl
is_answer nodes past (Dies d) ok a = tt

pub are_answers : (nodes : ℕ) (past : List Call) → AreAccepted nodes past → AreAnswers nodes past
are_answers nodes [] ok = tt
are_answers nodes (call ∷ past) (ok, a) = (are_answers nodes past ok, is_answer nodes past call ok a)

masters_cover : (nodes : ℕ) (past : List Call) → AreAccepted nodes past → MastersCover nodes past
masters_cover nodes past ok r n lt ln none =
    let w = wire_after nodes past in
    let i = runs_keep nodes past ok in
    subst (λ h. covers h (mode_held (w.local n r)) ≡ true) (made_held nodes past ok r n lt) (inv_covers w i r n lt ln (inv_awaits w i r n lt ln ∙ none))

pub wires_are_sound : (nodes : ℕ) (past : List Call) → AreAccepted nodes past → RunSound nodes past
wires_are_sound nodes past ok = record { state = states_are_sound nodes past ok; answers = are_answers nodes past ok; covered = masters_cover nodes past ok; made = runs_made nodes past ok }
