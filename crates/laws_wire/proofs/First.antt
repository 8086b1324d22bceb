-- A master makes no call of a node before it takes the node's report.
use Rattle.std.proofs.Common.{◌≡◌, ◌≢◌, inl, inr, ℕ, zero, suc, ◌<◌, Bool, true, false, ◌||◌, ◌==◌, List, [], ◌∷◌, Option, Some, None, refl, sym, ap, ◌∙◌, subst, arith, if◌then◌else◌}
use Rattle.std.specs.Prelude.{slice_index_or}
use Rattle.std.proofs.lemmas.Bool.{false≢true}
use Rattle.std.proofs.lemmas.Bool.Decides.{nat_tests}
use Rattle.dlm_modes.specs.Points.{with_at}
use Rattle.dlm_modes.specs.declared.mode.Mode.{Mode}
use Rattle.dlm_space.specs.Calls
use Rattle.dlm_space.specs.Locks.{Lock, grant_answer}
use Rattle.dlm_space.specs.declared.answers.Granted.{Granted}
use Rattle.lock_wire.specs.Packets.{first, rest}
use Rattle.lock_wire.specs.Machine
use Rattle.lock_wire.specs.Machine.{Wire, Ward, with_cell, master_of, lock_at, first_awaited, calls_unless, written, reported_one, reported, received, served_to, heir, heirs_ward, without_node, taken_over, convert_writes, release_writes, entered, taken_report, with_table, asking, converts, releases, serve_answer}
use Rattle.lock_wire.specs.declared.local.Local.{Local}
use Rattle.lock_wire.specs.declared.local.Local.TheVariants.{Free, Asking, Held, Converting}
use Rattle.lock_wire.specs.declared.packet.Packet.{Packet}
use Rattle.lock_wire.specs.declared.packet.Packet.TheVariants as packets
use Rattle.lock_wire.proofs.Wires.{reported-zero, reported-suc}
use Rattle.laws_wire.specs.Runs.{Call, Asks, Converts, Releases, Delivers, Serves, Dies, AreAccepted, wire_after}
use Rattle.laws_wire.specs.Views.{Word, Asked, Converted, Released, Missing, Stuck, Is, heard, replay, view_of, Fits, words, grants}
use Rattle.laws_wire.specs.Made.{reporting, hearing, serving, dying, made_in}
use Rattle.laws_wire.specs.First.{is_of, has_call_of, ReportsComeFirst}
use Rattle.laws_wire.specs.Invariants.{Kept, Inv}
use Rattle.laws_wire.proofs.Steps.{same_or}
use Rattle.laws_wire.proofs.ViewLaws.{not_stuck}
use Rattle.laws_wire.proofs.Wires.{other_word, self_test, differ_test, or_first, lives, none_awaited, may_serve}
use Rattle.laws_wire.proofs.RunsKept.{runs_keep, lived, inv_awaits}
use Rattle.laws_wire.proofs.Made.{ward_keeps, is_told}

abbrev awaits : Wire → ℕ → ℕ → Bool
awaits w r n = (w.ward r).awaited n

-- What leaves awaited reports.

calls_awaits : (o : Option ℕ) (w : Wire) (m s r n : ℕ) → awaits (calls_unless o w m s) r n ≡ awaits w r n
calls_awaits None w m s r n = ward_keeps (λ u. u.awaited n) w.ward s _ r refl
calls_awaits (Some k) w m s r n = refl

serve_awaits : (w : Wire) (m s r n : ℕ) (o : Option Granted) → awaits (served_to w m s o) r n ≡ awaits w r n
serve_awaits w m s r n None = refl
serve_awaits w m s r n (Some g) = ward_keeps (λ u. u.awaited n) (with_at w.ward s _) s _ r refl ∙ ward_keeps (λ u. u.awaited n) w.ward s _ r refl

-- a report is taken
taken_before : (w : Wire) (s a r n : ℕ) → awaits (taken_report w s a) r n ≡ true → awaits w r n ≡ true
taken_before w s a r n = elim (same_or r s) [
  | inl at ↦ subst (λ j. awaits (taken_report w s a) j n ≡ true → awaits w j n ≡ true) (sym at) (λ t. here (sym (ap (λ b. (if b then record (w.ward s) { awaited = with_at (w.ward s).awaited a false } else w.ward s).awaited n) (self_test s)) ∙ t))
  | inr ne ↦ λ t. sym (ap (λ b. (if b then record (w.ward s) { awaited = with_at (w.ward s).awaited a false } else w.ward r).awaited n) (differ_test r s ne)) ∙ t
]
  where
    here : with_at (w.ward s).awaited a false n ≡ true → awaits w s n ≡ true
    here = elim (n == a) as (λ b. (if b then false else awaits w s n) ≡ true → awaits w s n ≡ true) [
      | true ↦ λ t. absurd (false≢true t)
      | false ↦ λ t. t
    ]

taken_own : (w : Wire) (s a : ℕ) → awaits (taken_report w s a) s a ≡ false
taken_own w s a =
    ap (λ b. (if b then record (w.ward s) { awaited = with_at (w.ward s).awaited a false } else w.ward s).awaited a) (self_test s)
    ∙ ap (λ b. if b then false else awaits w s a) (self_test a)

abbrev entering : Wire → ℕ → ℕ → ℕ → Local → Wire
entering w a b k l = with_table w b k (entered (w.table b k) a l)

one_before : (w : Wire) (a b k r n : ℕ) (o : Option Local) → awaits (reported_one w a b k o) r n ≡ true → awaits w r n ≡ true
one_before w a b k r n None t = t
one_before w a b k r n (Some l) t =
    let u = taken_report (entering w a b k l) k a in
    taken_before (entering w a b k l) k a r n (sym (calls_awaits (first_awaited u k) u b k r n) ∙ t)

one_own : (w : Wire) (a b r : ℕ) (l : Local) → awaits (reported_one w a b r (Some l)) r a ≡ false
one_own w a b r l =
    let u = taken_report (entering w a b r l) r a in
    calls_awaits (first_awaited u r) u b r r a ∙ taken_own (entering w a b r l) r a

reports_before : (w : Wire) (a b : ℕ) (states : List (Option Local)) (k r n : ℕ) → awaits (reported w a b states k) r n ≡ true → awaits w r n ≡ true
reports_before w a b states zero r n t = sym (ap (λ v. awaits v r n) (reported-zero w a b states)) ∙ t
reports_before w a b states (suc k) r n t =
    reports_before w a b states k r n (one_before (reported w a b states k) a b k r n (slice_index_or states k None) (sym (ap (λ v. awaits v r n) (reported-suc w a b states k)) ∙ t))

reports_own : (w : Wire) (a b : ℕ) (states : List (Option Local)) (k r : ℕ) (l : Local) → r < k → slice_index_or states r None ≡ Some l → awaits (reported w a b states k) r a ≡ true → ⊥
reports_own w a b states zero r l lt is t = absurd (omega arith)
reports_own w a b states (suc k) r l lt is t =
    let now = sym (ap (λ v. awaits v r a) (reported-suc w a b states k)) ∙ t in
    elim (same_or r k) [
      | inl e ↦
          let at : awaits (reported_one (reported w a b states k) a b r (slice_index_or states r None)) r a ≡ true = ap (λ j. awaits (reported_one (reported w a b states k) a b j (slice_index_or states j None)) r a) e ∙ now in
          false≢true (sym (one_own (reported w a b states k) a b r l) ∙ sym (ap (λ o. awaits (reported_one (reported w a b states k) a b r o) r a) is) ∙ at)
      | inr ne ↦ reports_own w a b states k r l (less r k lt ne) is (one_before (reported w a b states k) a b k r a (slice_index_or states k None) now)
    ]
  where
    less : (s k : ℕ) → s < suc k → s ≢ k → s < k
    less s k lt ne = grind (arith, nat_tests)

-- who is heard first by another word than its report isn't awaited
asked_first : (b : Bool) (lock : Lock) (n : ℕ) (word : Word) (more : List Word) (down : List Mode) (l : Local) → heard Missing word ≡ Stuck → Fits (view_of b lock n) (word ∷ more) down l → b ≡ false
asked_first true lock n word more [] l h f = absurd (not_stuck more l (subst (λ v. replay v more ≡ Is l) h f))
asked_first true lock n word more (to ∷ []) l h f = absurd (missing to f.0)
  where
    missing : (to : Mode) → Missing ≡ Is (Held to) → ⊥
    missing to e = cc
asked_first true lock n word more (to ∷ next ∷ others) l h f = absurd f
asked_first false lock n word more down l h f = refl

maybe_call : (t : Bool) (call : Calls.Call) (made : List Calls.Call) (n : ℕ) → (t ≡ true → is_of call n ≡ false) → has_call_of (if t then call ∷ made else made) n ≡ has_call_of made n
maybe_call true call made n f = ap (λ b. b || has_call_of made n) (f refl)
maybe_call false call made n f = refl

-- Each call: who is awaited after it was awaited before, and the call is not its own.

module _ (w : Wire) (x y r n : ℕ) (k : Kept w r) (lx : w.live x ≡ true) (made : List Calls.Call) where
  abbrev Quiet : Wire → List Calls.Call → Type 0
  Quiet v now = awaits v r n ≡ true → (awaits w r n ≡ true) × (has_call_of now n ≡ has_call_of made n)

  abbrev off : List Packet → Wire
  off ps = record w { link = with_cell w.link x y ps }

  apart : awaits w r x ≡ false → awaits w r n ≡ true → (x == n) ≡ false
  apart told waits = elim (same_or x n) [
    | inl e ↦ absurd (false≢true (sym told ∙ ap (λ j. awaits w r j) e ∙ waits))
    | inr ne ↦ differ_test x n ne
  ]

  spoke : (word : Word) (more : List Word) → heard Missing word ≡ Stuck → words r (w.link x y) ≡ word ∷ more → awaits w r x ≡ false
  spoke word more h e =
      let m = is_told w x y r word more k e in
      asked_first (awaits w r x) (lock_at w r) x word more (grants r (w.link (master_of w r) x)) (w.local x r) h
      (subst (λ up. Fits (view_of (awaits w r x) (lock_at w r) x) up (grants r (w.link (master_of w r) x)) (w.local x r)) (ap (λ j. words r (w.link x j)) (sym m) ∙ e) (k.fitting.fits x lx))

  said : (s : ℕ) (word : Word) (ps : List Packet) (p : Packet) → heard Missing word ≡ Stuck → w.link x y ≡ p ∷ ps → words r (p ∷ ps) ≡ (if s == r then word ∷ words r ps else words r ps) → awaits w r n ≡ true → (s == r) ≡ true → (x == n) ≡ false
  said s word ps p h e own waits t = apart (spoke word (words r ps) h (ap (words r) e ∙ own ∙ ap (λ b. if b then word ∷ words r ps else words r ps) t)) waits

  quiet : (l : List Packet) → r < 21 → w.link x y ≡ l → Quiet (received (off (rest l)) x y (first l)) (hearing made r x (first l))
  quiet [] lt e t = (t, refl)
  quiet (packets.Ask s to ∷ ps) lt e t =
      let u = with_table (off ps) y s (asking (w.table y s) x to) in
      let waits = sym (calls_awaits (first_awaited u s) u y s r n) ∙ t in
      (waits, maybe_call (s == r) (Calls.Asks x r to) made n (said s (Asked to) ps (packets.Ask s to) refl e refl waits))
  quiet (packets.Convert s to value ∷ ps) lt e t =
      let v = written (off ps) s (convert_writes (w.table y s) x to value) in
      let u = with_table v y s (converts (w.table y s) x to value) in
      let waits = sym (ward_keeps (λ z. z.awaited n) w.ward s _ r refl) ∙ (sym (calls_awaits (first_awaited u s) u y s r n) ∙ t) in
      (waits, maybe_call (s == r) _ made n (said s (Converted to) ps (packets.Convert s to value) refl e refl waits))
  quiet (packets.Release s value ∷ ps) lt e t =
      let v = written (off ps) s (release_writes (w.table y s) x value) in
      let u = with_table v y s (releases (w.table y s) x value) in
      let waits = sym (ward_keeps (λ z. z.awaited n) w.ward s _ r refl) ∙ (sym (calls_awaits (first_awaited u s) u y s r n) ∙ t) in
      (waits, maybe_call (s == r) (Calls.Releases x r value) made n (said s Released ps (packets.Release s value) refl e refl waits))
  quiet (packets.Granted s g ∷ ps) lt e t = (t, refl)
  quiet (packets.Called s asker ∷ ps) lt e t = (t, refl)
  quiet (packets.Report states ∷ ps) lt e t = (reports_before (off ps) x y states 21 r n t, told (slice_index_or states r None) refl)
    where
      not_own : (l : Local) → slice_index_or states r None ≡ Some l → (x == n) ≡ false
      not_own l is = elim (same_or x n) [
        | inl same ↦ absurd (reports_own (off ps) x y states 21 r l lt is (ap (λ j. awaits (reported (off ps) x y states 21) r j) same ∙ t))
        | inr ne ↦ differ_test x n ne
      ]

      told : (o : Option Local) → slice_index_or states r None ≡ o → has_call_of (reporting made r x o) n ≡ has_call_of made n
      told None is = refl
      told (Some Free) is = refl
      told (Some (Asking to)) is = ap (λ b. b || has_call_of made n) (not_own (Asking to) is)
      told (Some (Held mode)) is = ap (λ b. b || has_call_of made n) (not_own (Held mode) is)
      told (Some (Converting from to)) is = ap (λ b. b || (b || has_call_of made n)) (not_own (Converting from to) is)

serves_none : (w : Wire) (s r n : ℕ) (made : List Calls.Call) (o : Option Granted) → Inv w → Machine.serve_refusal w s ≡ None → w.live n ≡ true → awaits w r n ≡ true → has_call_of (if s == r then serving made r o else made) n ≡ has_call_of made n
serves_none w s r n made o i ok ln waits = elim (same_or r s) [
  | inr ne ↦ ap (λ q. has_call_of q n) (other_word s r _ _ ne)
  | inl at ↦ absurd (false≢true (sym (none_awaited w s i.nodes (may_serve w s ok).none n ln) ∙ ap (λ j. awaits w j n) (sym at) ∙ waits))
]

-- a node that lives on isn't the one that died
lives_on : (w : Wire) (d n : ℕ) → (without_node w d).live n ≡ true → (d == n) ≡ false
lives_on w d n t = elim (same_or d n) [
  | inl e ↦ absurd (false≢true (sym (ap (λ b. if b then false else w.live n) (ap (λ j. n == j) e ∙ self_test n)) ∙ t))
  | inr ne ↦ differ_test d n ne
]

died : (w : Wire) (d r n : ℕ) (made : List Calls.Call) (o : Option ℕ) → (without_node w d).live n ≡ true → (awaits w r n ≡ true → has_call_of made n ≡ false) → awaits (taken_over (without_node w d) d o) r n ≡ true
    → has_call_of (dying made d (master_of w r == d) o) n ≡ false
died w d r n made None ln before t =
    elim (master_of w r == d) as (λ b. has_call_of (dying made d b None) n ≡ false) [
      | true ↦ ap (λ b. b || has_call_of made n) (lives_on w d n ln) ∙ before t
      | false ↦ ap (λ b. b || has_call_of made n) (lives_on w d n ln) ∙ before t
    ]
died w d r n made (Some m) ln before t =
    elim (master_of w r == d) as (λ b. (if b then heirs_ward (without_node w d).live m else w.ward r).awaited n ≡ true → has_call_of (dying made d b (Some m)) n ≡ false) [
      | true ↦ λ t. refl
      | false ↦ λ t. ap (λ b. b || has_call_of made n) (lives_on w d n ln) ∙ before t
    ] t

-- whom the heir doesn't change
live_heir : (w : Wire) (d n : ℕ) (o : Option ℕ) → (taken_over (without_node w d) d o).live n ≡ true → (without_node w d).live n ≡ true
live_heir w d n None t = t
live_heir w d n (Some m) t = t

first_calls : (nodes : ℕ) (past : List Call) (r n : ℕ) → AreAccepted nodes past → r < 21 → (wire_after nodes past).live n ≡ true → awaits (wire_after nodes past) r n ≡ true → has_call_of (made_in nodes past r) n ≡ false
first_calls nodes [] r n ok lt ln t = refl
first_calls nodes (Asks k s to ∷ past) r n (ok, a) lt ln t = first_calls nodes past r n ok lt ln t
first_calls nodes (Converts k s to value ∷ past) r n (ok, a) lt ln t = first_calls nodes past r n ok lt ln t
first_calls nodes (Releases k s value ∷ past) r n (ok, a) lt ln t = first_calls nodes past r n ok lt ln t
first_calls nodes (Delivers x y ∷ past) r n (ok, a) lt ln t =
    let w = wire_after nodes past in
    let i = runs_keep nodes past ok in
    let q = quiet w x y r n (i.kept r lt) (lives w x (or_first (Machine.node_refusal w x) _ a.accepted)) (made_in nodes past r) (w.link x y) lt refl t in
    q.1 ∙ first_calls nodes past r n ok lt (lived w (Delivers x y) n ln) q.0
first_calls nodes (Serves s ∷ past) r n (ok, a) lt ln t =
    let w = wire_after nodes past in
    let live = lived w (Serves s) n ln in
    let waits = sym (serve_awaits w (master_of w s) s r n (serve_answer w s)) ∙ t in
    serves_none w s r n (made_in nodes past r) (grant_answer (Calls.locks_after (made_in nodes past r) r)) (runs_keep nodes past ok) a.accepted live waits
    ∙ first_calls nodes past r n ok lt live waits
first_calls nodes (Dies d ∷ past) r n (ok, a) lt ln t =
    let w = wire_after nodes past in
    died w d r n (made_in nodes past r) (heir (without_node w d)) (live_heir w d n (heir (without_node w d)) ln) (first_calls nodes past r n ok lt (lived w (Dies d) n ln)) t

pub reports_come_first : ReportsComeFirst
reports_come_first nodes past r n ok lt ln has =
    first_calls nodes past r n ok lt ln (inv_awaits (wire_after nodes past) (runs_keep nodes past ok) r n lt ln ∙ has)
