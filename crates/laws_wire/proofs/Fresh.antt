-- The mark of a stale block, by the calls alone.
use Rattle.std.proofs.Common.{◌≡◌, ◌≢◌, inl, inr, ℕ, zero, suc, ◌<◌, Bool, true, false, not, ◌&&◌, ◌||◌, ◌==◌, List, [], ◌∷◌, Option, Some, None, refl, sym, ap, ◌∙◌, subst, if◌then◌else◌}
use Rattle.std.specs.Prelude.{is_some, unwrap_or, slice_index_or}
use Rattle.std.specs.Option.{option_map}
use Rattle.dlm_modes.specs.Modes.{weaker}
use Rattle.dlm_modes.specs.Points.{with_at}
use Rattle.dlm_modes.specs.declared.block.Block.{Block}
use Rattle.dlm_modes.specs.declared.mode.Mode.{Mode}
use Rattle.dlm_modes.specs.declared.mode.Mode.TheVariants.{NL}
use Rattle.dlm_space.specs.Calls
use Rattle.dlm_space.specs.Locks.{Lock, is_writer, mode_of, convert_refusal, convert_answer, grant_answer}
use Rattle.dlm_space.specs.Sound.{held_in, holds_writer}
use Rattle.dlm_space.specs.declared.answers.Converted.TheVariants.{Now, Queued}
use Rattle.dlm_space.specs.declared.answers.Granted.{Granted}
use Rattle.lock_wire.specs.Packets.{first, rest}
use Rattle.lock_wire.specs.Machine.{Wire, with_cell, master_of, lock_at, first_awaited, calls_unless, written, reported_one, reported, received, told, served_to, heir, without_node, taken_over, convert_writes, release_writes, entered, taken_report, with_table, asking, converts, releases, heirs_ward, serve_answer}
use Rattle.lock_wire.specs.declared.local.Local.{Local}
use Rattle.lock_wire.specs.declared.local.Local.TheVariants.{Free, Asking, Held, Converting}
use Rattle.lock_wire.specs.declared.packet.Packet.{Packet}
use Rattle.lock_wire.specs.declared.packet.Packet.TheVariants as packets
use Rattle.lock_wire.proofs.Wires.{reported-zero, reported-suc}
use Rattle.laws_wire.specs.Runs.{Call, Asks, Converts, Releases, Delivers, Serves, Dies, AreAccepted, wire_after}
use Rattle.laws_wire.specs.Views.{Converted, Released, words}
use Rattle.laws_wire.specs.Made.{converting, reporting, hearing, serving, dying, made_in}
use Rattle.laws_wire.specs.Fresh.{writes, wrote_in, taken_over_in, is_stale, BlocksAreTold}
use Rattle.laws_wire.specs.Invariants.{Inv}
use Rattle.laws_wire.proofs.Steps.{same_or}
use Rattle.laws_wire.proofs.Wires.{own_test, other_word, self_test, differ_test}
use Rattle.laws_wire.proofs.RunsKept.{runs_keep}
use Rattle.laws_wire.proofs.Made.{ward_keeps, is_told, runs_made, made_held, runs_lead}

abbrev stale_at : Wire → ℕ → Bool
stale_at w r = (w.ward r).stale

-- the mark after a call, and whether the block is written by then
record Follows (now stale : Bool) (wrote_now wrote : Bool) : Type 0 where
  wrote_here : Bool
  mark : now ≡ (stale && not wrote_here)
  written : wrote_now ≡ (wrote_here || wrote)

-- nothing is written
stays : (now stale wrote_now wrote : Bool) → now ≡ stale → wrote_now ≡ wrote → Follows now stale wrote_now wrote
stays now true wrote_now wrote e f = record { wrote_here = false; mark = e; written = f }
stays now false wrote_now wrote e f = record { wrote_here = false; mark = e; written = f }

-- Called packets leave the mark.
calls_stale : (o : Option ℕ) (w : Wire) (m s r : ℕ) → stale_at (calls_unless o w m s) r ≡ stale_at w r
calls_stale None w m s r = ward_keeps (λ u. u.stale) w.ward s _ r refl
calls_stale (Some n) w m s r = refl

-- Reports do too.
one_stale : (w : Wire) (a b k r : ℕ) (o : Option Local) → stale_at (reported_one w a b k o) r ≡ stale_at w r
one_stale w a b k r None = refl
one_stale w a b k r (Some l) =
    let u = taken_report (with_table w b k (entered (w.table b k) a l)) k a in
    calls_stale (first_awaited u k) u b k r ∙ ward_keeps (λ x. x.stale) w.ward k _ r refl

reports_stale : (w : Wire) (a b : ℕ) (states : List (Option Local)) (k r : ℕ) → stale_at (reported w a b states k) r ≡ stale_at w r
reports_stale w a b states zero r = ap (λ v. stale_at v r) (reported-zero w a b states)
reports_stale w a b states (suc k) r =
    ap (λ v. stale_at v r) (reported-suc w a b states k) ∙ one_stale (reported w a b states k) a b k r (slice_index_or states k None) ∙ reports_stale w a b states k r

reports_wrote : (past : List Calls.Call) (r n : ℕ) (o : Option Local) → wrote_in (reporting past r n o) r ≡ wrote_in past r
reports_wrote past r n None = refl
reports_wrote past r n (Some Free) = refl
reports_wrote past r n (Some (Asking to)) = refl
reports_wrote past r n (Some (Held mode)) = refl
reports_wrote past r n (Some (Converting from to)) = refl

-- What is held tells whether a value is written.
writer_of : (held : Option Mode) → is_writer (unwrap_or held NL) ≡ holds_writer held
writer_of None = refl
writer_of (Some mode) = refl

convert_wrote : (past : List Calls.Call) (lock : Lock) (n s : ℕ) (to : Mode) (value : Option Block) → Calls.locks_after past s ≡ lock → lock.held n ≡ held_in past s n → convert_refusal lock n ≡ None
    → convert_writes lock n to value ≡ writes (Calls.Converts n s to value (convert_answer (Calls.locks_after past s) n to)) past s
convert_wrote past lock n s to None same held ok = refl
convert_wrote past lock n s to (Some v) same held ok =
    rw (same, ok) (elim (weaker (mode_of lock n) to) as (λ b. (b && is_writer (mode_of lock n)) ≡ writes (Calls.Converts n s to (Some v) (if b then Now else Queued)) past s) [
      | true ↦ writer_of (lock.held n) ∙ ap holds_writer held ∙ sym (ap (λ t. t && holds_writer (held_in past s n)) (self_test s))
      | false ↦ refl
    ])

release_wrote : (past : List Calls.Call) (lock : Lock) (n s : ℕ) (value : Option Block) → lock.held n ≡ held_in past s n → release_writes lock n value ≡ writes (Calls.Releases n s value) past s
release_wrote past lock n s None held = refl
release_wrote past lock n s (Some v) held = writer_of (lock.held n) ∙ ap holds_writer held ∙ sym (ap (λ t. t && holds_writer (held_in past s n)) (self_test s))

-- the ward of a resource that is written
written_own : (w : Wire) (s : ℕ) (x : Bool) → stale_at (written w s x) s ≡ (stale_at w s && not x)
written_own w s x = ap (λ t. (if t then record (w.ward s) { stale = (w.ward s).stale && not x } else w.ward s).stale) (self_test s)

written_other : (w : Wire) (s r : ℕ) (x : Bool) → r ≢ s → stale_at (written w s x) r ≡ stale_at w r
written_other w s r x ne = ap (λ t. (if t then record (w.ward s) { stale = (w.ward s).stale && not x } else w.ward r).stale) (differ_test r s ne)

-- Each call.

maybe_wrote : (t : Bool) (x y : List Calls.Call) (r : ℕ) → wrote_in x r ≡ wrote_in y r → wrote_in (if t then x else y) r ≡ wrote_in y r
maybe_wrote true x y r e = e
maybe_wrote false x y r e = refl

abbrev off_link : Wire → ℕ → ℕ → List Packet → Wire
off_link w a b ps = record w { link = with_cell w.link a b ps }

module _ (w : Wire) (a b : ℕ) (i : Inv w) (made : List Calls.Call) where
  -- what is known of the master's calls
  record Known (r : ℕ) : Type 0 where
    below : r < 21
    leads : Calls.locks_after made r ≡ lock_at w r
    held : (n : ℕ) → (lock_at w r).held n ≡ held_in made r n

  heard_ask : (s r : ℕ) (to : Mode) (ps : List Packet) → Follows (stale_at (received (off_link w a b ps) a b (Some (packets.Ask s to))) r) (stale_at w r) (wrote_in (hearing made r a (Some (packets.Ask s to))) r) (wrote_in made r)
  heard_ask s r to ps =
      let u = with_table (off_link w a b ps) b s (asking (w.table b s) a to) in
      stays _ _ _ _ (calls_stale (first_awaited u s) u b s r) (maybe_wrote (s == r) (Calls.Asks a r to ∷ made) made r refl)

  heard_convert : (s r : ℕ) (to : Mode) (value : Option Block) (ps : List Packet) → w.link a b ≡ packets.Convert s to value ∷ ps → Known r → Calls.AreAccepted (hearing made r a (Some (packets.Convert s to value)))
      → Follows (stale_at (received (off_link w a b ps) a b (Some (packets.Convert s to value))) r) (stale_at w r) (wrote_in (hearing made r a (Some (packets.Convert s to value))) r) (wrote_in made r)
  heard_convert s r to value ps e k ok = elim (same_or r s) [
    | inr ne ↦ stays _ _ _ _ (calls_stale (first_awaited u s) u b s r ∙ written_other v s r x ne) (ap (λ q. wrote_in q r) (other_word s r _ _ ne))
    | inl at ↦ subst (λ j. Known j → Calls.AreAccepted (hearing made j a (Some (packets.Convert s to value))) → Follows (stale_at (calls_unless (first_awaited u s) u b s) j) (stale_at w j) (wrote_in (hearing made j a (Some (packets.Convert s to value))) j) (wrote_in made j)) (sym at) here k ok
  ]
    where
      v : Wire
      v = off_link w a b ps

      x : Bool
      x = convert_writes (w.table b s) a to value

      u : Wire
      u = with_table (written v s x) b s (converts (w.table b s) a to value)

      here : Known s → Calls.AreAccepted (hearing made s a (Some (packets.Convert s to value))) → Follows (stale_at (calls_unless (first_awaited u s) u b s) s) (stale_at w s) (wrote_in (hearing made s a (Some (packets.Convert s to value))) s) (wrote_in made s)
      here k ok =
          let own : hearing made s a (Some (packets.Convert s to value)) ≡ converting made s a to value = own_test s _ _ in
          let told = ap (words s) e ∙ own_test s (Converted to ∷ words s ps) (words s ps) in
          let m = is_told w a b s (Converted to) (words s ps) (i.kept s k.below) told in
          let accepted = subst Calls.AreAccepted own ok in
          let refused = ap (λ l. convert_refusal l a) (sym k.leads) ∙ accepted.1.accepted in
          let same = ap (λ j. convert_writes (w.table j s) a to value) m ∙ convert_wrote made (lock_at w s) a s to value k.leads (k.held a) refused in
          record {
            wrote_here = x;
            mark = calls_stale (first_awaited u s) u b s s ∙ written_own v s x;
            written = ap (λ q. wrote_in q s) own ∙ ap (λ t. t || wrote_in made s) (sym same);
          }

  heard_release : (s r : ℕ) (value : Option Block) (ps : List Packet) → w.link a b ≡ packets.Release s value ∷ ps → Known r
      → Follows (stale_at (received (off_link w a b ps) a b (Some (packets.Release s value))) r) (stale_at w r) (wrote_in (hearing made r a (Some (packets.Release s value))) r) (wrote_in made r)
  heard_release s r value ps e k = elim (same_or r s) [
    | inr ne ↦ stays _ _ _ _ (calls_stale (first_awaited u s) u b s r ∙ written_other v s r x ne) (ap (λ q. wrote_in q r) (other_word s r _ _ ne))
    | inl at ↦ subst (λ j. Known j → Follows (stale_at (calls_unless (first_awaited u s) u b s) j) (stale_at w j) (wrote_in (hearing made j a (Some (packets.Release s value))) j) (wrote_in made j)) (sym at) here k
  ]
    where
      v : Wire
      v = off_link w a b ps

      x : Bool
      x = release_writes (w.table b s) a value

      u : Wire
      u = with_table (written v s x) b s (releases (w.table b s) a value)

      here : Known s → Follows (stale_at (calls_unless (first_awaited u s) u b s) s) (stale_at w s) (wrote_in (hearing made s a (Some (packets.Release s value))) s) (wrote_in made s)
      here k =
          let own : hearing made s a (Some (packets.Release s value)) ≡ Calls.Releases a s value ∷ made = own_test s _ _ in
          let told = ap (words s) e ∙ own_test s (Released ∷ words s ps) (words s ps) in
          let m = is_told w a b s Released (words s ps) (i.kept s k.below) told in
          let same = ap (λ j. release_writes (w.table j s) a value) m ∙ release_wrote made (lock_at w s) a s value (k.held a) in
          record {
            wrote_here = x;
            mark = calls_stale (first_awaited u s) u b s s ∙ written_own v s x;
            written = ap (λ q. wrote_in q s) own ∙ ap (λ t. t || wrote_in made s) (sym same);
          }

  heard : (l : List Packet) (r : ℕ) → w.link a b ≡ l → Known r → Calls.AreAccepted (hearing made r a (first l))
      → Follows (stale_at (received (off_link w a b (rest l)) a b (first l)) r) (stale_at w r) (wrote_in (hearing made r a (first l)) r) (wrote_in made r)
  heard [] r e k ok = stays _ _ _ _ refl refl
  heard (packets.Ask s to ∷ ps) r e k ok = heard_ask s r to ps
  heard (packets.Convert s to value ∷ ps) r e k ok = heard_convert s r to value ps e k ok
  heard (packets.Release s value ∷ ps) r e k ok = heard_release s r value ps e k
  heard (packets.Granted s g ∷ ps) r e k ok = stays _ _ _ _ refl refl
  heard (packets.Called s asker ∷ ps) r e k ok = stays _ _ _ _ refl refl
  heard (packets.Report states ∷ ps) r e k ok = stays _ _ _ _ (reports_stale (off_link w a b ps) a b states 21 r) (reports_wrote made r a (slice_index_or states r None))

serve_stale : (w : Wire) (m s r : ℕ) (o : Option Granted) → stale_at (served_to w m s o) r ≡ stale_at w r
serve_stale w m s r None = refl
serve_stale w m s r (Some g) = ward_keeps (λ u. u.stale) (with_at w.ward s _) s _ r refl ∙ ward_keeps (λ u. u.stale) w.ward s _ r refl

serve_wrote : (made : List Calls.Call) (s r : ℕ) (o : Option Granted) → wrote_in (if s == r then serving made r o else made) r ≡ wrote_in made r
serve_wrote made s r None = maybe_wrote (s == r) made made r refl
serve_wrote made s r (Some g) = maybe_wrote (s == r) (Calls.Grants r g ∷ made) made r refl

died : (w : Wire) (d r : ℕ) (made : List Calls.Call) (before : Bool) (o : Option ℕ) → stale_at w r ≡ (before && not (wrote_in made r))
    → stale_at (taken_over (without_node w d) d o) r ≡ ((((master_of w r == d) && is_some o) || before) && not (wrote_in (dying made d (master_of w r == d) o) r))
died w d r made before None e = elim (master_of w r == d) as (λ t. stale_at w r ≡ (((t && false) || before) && not (wrote_in (dying made d t None) r))) [ true ↦ e | false ↦ e ]
died w d r made before (Some m) e =
    elim (master_of w r == d) as (λ t. (if t then heirs_ward (without_node w d).live m else w.ward r).stale ≡ (((t && true) || before) && not (wrote_in (dying made d t (Some m)) r))) [
      | true ↦ refl
      | false ↦ e
    ]

-- All calls.

both_written : (before wrote x : Bool) → ((before && not wrote) && not x) ≡ (before && not (x || wrote))
both_written false wrote x = refl
both_written true true true = refl
both_written true true false = refl
both_written true false true = refl
both_written true false false = refl

then_mark : (now stale wrote_now wrote before : Bool) → Follows now stale wrote_now wrote → stale ≡ (before && not wrote) → now ≡ (before && not wrote_now)
then_mark now stale wrote_now wrote before f e =
    f.mark ∙ ap (λ t. t && not f.wrote_here) e ∙ both_written before wrote f.wrote_here ∙ ap (λ t. before && not t) (sym f.written)

marks : (nodes : ℕ) (past : List Call) → AreAccepted nodes past → (r : ℕ) → r < 21 → stale_at (wire_after nodes past) r ≡ is_stale nodes past r
marks nodes [] ok r lt = refl
marks nodes (Asks n s to ∷ past) (ok, a) r lt = marks nodes past ok r lt
marks nodes (Converts n s to value ∷ past) (ok, a) r lt = marks nodes past ok r lt
marks nodes (Releases n s value ∷ past) (ok, a) r lt = marks nodes past ok r lt
marks nodes (Delivers x y ∷ past) (ok, a) r lt =
    let w = wire_after nodes past in
    let known : Known w x y (runs_keep nodes past ok) (made_in nodes past r) r = record { below = lt; leads = (runs_lead nodes past ok r lt).leads; held = λ n. made_held nodes past ok r n lt } in
    then_mark _ _ _ _ (taken_over_in nodes past r) (heard w x y (runs_keep nodes past ok) (made_in nodes past r) (w.link x y) r refl known (runs_made nodes (Delivers x y ∷ past) (ok, a) r lt).accepted) (marks nodes past ok r lt)
marks nodes (Serves s ∷ past) (ok, a) r lt =
    let w = wire_after nodes past in
    let made = made_in nodes past r in
    then_mark _ _ _ _ (taken_over_in nodes past r)
    (stays _ _ _ _ (serve_stale w (master_of w s) s r (serve_answer w s)) (serve_wrote made s r (grant_answer (Calls.locks_after made r)))) (marks nodes past ok r lt)
marks nodes (Dies d ∷ past) (ok, a) r lt =
    let w = wire_after nodes past in
    died w d r (made_in nodes past r) (taken_over_in nodes past r) (heir (without_node w d)) (marks nodes past ok r lt)

pub blocks_are_told : BlocksAreTold
blocks_are_told nodes past r ok lt =
    (runs_made nodes past ok r lt).answer ∙ ap (λ t. option_map (told t) (grant_answer (Calls.locks_after (made_in nodes past r) r))) (marks nodes past ok r lt)
