-- The changes that an event of requests, passes and recoveries makes.
use Rattle.std.proofs.Common.{◌≡◌, inl, inr, ℕ, ◌<◌, ◌==◌, ◌&&◌, Bool, true, false, if◌then◌else◌, List, Option, Some, None, refl, ap, ◌∙◌, arith}
use Rattle.std.specs.Prelude.{nat_lt, is_some}
use Rattle.std.proofs.lemmas.Bool.{ltb-true}
use Rattle.std.proofs.lemmas.Bool.Decides.{nat_tests}
use Rattle.dlm_modes.specs.Guards.{first_of}
use Rattle.dlm_modes.specs.Points.{with_at}
use Rattle.dlm_modes.specs.declared.mode.Mode.TheVariants.{PW, EX}
use Rattle.mdc_types.specs.Geometry.{Sizes, chunks_of, nodes_of, page_of}
use Rattle.mdc_types.specs.Roles.{is_rebuilding}
use Rattle.mdc_types.specs.declared.numbers.Sector.{Sector}
use Rattle.mdc_types.specs.declared.outcomes.Outcome.{Outcome}
use Rattle.mdc_types.specs.declared.outcomes.Outcome.TheVariants as outcomes
use Rattle.mdc_types.specs.declared.refusals.Refusal.TheVariants.{NoNode}
use Rattle.dlm_space.specs.Locks.{holding, let_go, asked}
use Rattle.mirror_io.specs.Flight.{write_in, read_in, start_in, done_in, without_write}
use Rattle.mirror_io.specs.declared.live.LiveWrite.{LiveWrite}
use Rattle.mirror_io.proofs.Lookups.{write_in-start, started_option}
use Rattle.node_bitmaps.specs.Bitmap.{with_set, written, failed}
use Rattle.node_recovery.specs.Progress.{Recovering}
use Rattle.resync_worker.specs.Copying.{copied}
use Rattle.resync_worker.specs.declared.buffer.Buffer.{Buffer}
use Rattle.slot_gathering.specs.Gatherings.{all_pages, due_slot, due_page as page_due}
use Rattle.slot_pages.specs.Slot.{page_has, chunk_bit}
use Rattle.cluster_model.specs.State.{Core, Asked, sizes}
use Rattle.cluster_model.specs.Changes.{headed, resync_res}
use Rattle.cluster_model.specs.After.{with_value, with_page}
use Rattle.cluster_model.specs.Writes.{w_guards, out_guards, ok_guards, break_guards, ask_write, out_done, write_sector, start_write, write_ended, bitmap_ended, end_write, break_write}
use Rattle.cluster_model.specs.Reads.{r_guards, ask_read, in_done, end_read, read_sector}
use Rattle.cluster_model.specs.Bits.{page_written, page_failed, clear}
use Rattle.cluster_model.specs.Passes.{ask_resync, pass_own, pass_full, pass_again, end_pass}
use Rattle.cluster_model.specs.Gathering.{due_page, page_gathered, gather}
use Rattle.cluster_model.specs.Copying.{next_sector, filled_with, copied_in, copied_out, buffer_sector, buffer_of, settle_buffer, settle, with_pass}
use Rattle.cluster_model.specs.Recovering.{rec_guards, recover, page_found, slot_read, page_cleared, slot_cleared, slot_recovered, recovered as done_recovered}
use Rattle.laws_sound.proofs.Guarded.{all_none, unless_none, found_none}
use Rattle.laws_sound.proofs.RoundFacts.{here, same_at}
use Rattle.laws_sound.proofs.Change.{Change, Changes, changed, still, more, turns, asks_write, asks_read, marks, starts, outs, ends_write, ends_read, passes, gathers, fills, copies, settles, ends_pass, recovers, slot_reads, slot_clears, recovered}

pub record Found {A : Type 0} (x : Option A) : Type 0 where
  pub value : A
  pub is : x ≡ Some value

pub found : {A : Type 0} (x : Option A) → is_some x ≡ true → Found x
found None e = cc
found (Some a) e = record { value = a; is = refl }

-- Requests.

pub write_change : (core : Core) (n s : ℕ) (v : Sector) → first_of (w_guards core n s) ≡ None → Changes core (ask_write core n s v)
write_change core n s v ok =
    let a = (all_none (w_guards core n s) ok).1.1.1 in
    changed (asks_write n s v (unless_none _ _ a.1.1.0) (unless_none _ _ a.1.1.1.1.1.0) (unless_none _ _ a.1.0) (unless_none _ _ a.0))

pub read_change : (core : Core) (n s : ℕ) → first_of (r_guards core n s) ≡ None → Changes core (ask_read core n s)
read_change core n s ok =
    let a = (all_none (r_guards core n s) ok).1.1.1 in
    changed (asks_read n s (unless_none _ _ a.1.1.0) (unless_none _ _ a.1.1.1.0) (unless_none _ _ a.1.0) (unless_none _ _ a.0))

out_head : (core : Core) (n k l : ℕ) (x : Option ℕ) → is_some (write_in k (core.writes n)) ≡ true → Changes core (record (headed core n l x) { writes = with_at core.writes n (done_in k l (start_in k (core.writes n))) })
out_head core n k l None some = changed (outs n k l core.head some)
out_head core n k l (Some s) some = changed (outs n k l (λ m j. if (m == n) && (j == l) then s else core.head m j) some)

write_found : (core : Core) (n k l : ℕ) → first_of (out_guards core n k l) ≡ None → is_some (write_in k (core.writes n)) ≡ true
write_found core n k l ok = found_none (write_in k (core.writes n)) _ (all_none (out_guards core n k l) ok).1.1.1.1.1.0

pub out_change : (core : Core) (n k l : ℕ) → first_of (out_guards core n k l) ≡ None → Changes core (out_done core n k l)
out_change core n k l ok = out_head core n k l (write_sector (write_in k (core.writes n))) (write_found core n k l ok)

pub start_change : (core : Core) (n k l : ℕ) → first_of (out_guards core n k l) ≡ None → Changes core (start_write core n k)
start_change core n k l ok = changed (starts n k (write_found core n k l ok))

end_by : (core : Core) (n k : ℕ) (x : Option LiveWrite) (broken : Bool) → write_in k (core.writes n) ≡ x → is_some x ≡ true
    → Change core (record core { writes = with_at core.writes n (without_write k (core.writes n)); bitmap = with_at core.bitmap n (bitmap_ended core n x broken) })
end_by core n k None broken e some = cc
end_by core n k (Some w) broken e some = ends_write n k w broken e

pub end_change : (core : Core) (n k : ℕ) → first_of (ok_guards core n k) ≡ None → Changes core (end_write core n k)
end_change core n k ok = changed (end_by core n k (write_in k (core.writes n)) false refl (found_none (write_in k (core.writes n)) _ (all_none (ok_guards core n k) ok).1.1.1.1.0))

pub break_change : (core : Core) (n k : ℕ) → first_of (break_guards core n k) ≡ None → Changes core (break_write core n k)
break_change core n k ok = changed (end_by core n k (write_in k (core.writes n)) true refl (found_none (write_in k (core.writes n)) _ (all_none (break_guards core n k) ok).1.1.1.1.0))

started_some : (b : Bool) (x : Option LiveWrite) → is_some x ≡ true → is_some (if b then started_option x else x) ≡ true
started_some true None e = cc
started_some true (Some w) e = refl
started_some false x e = e

-- a write that was started is broken
pub fail_change : (core : Core) (n k l : ℕ) → first_of (out_guards core n k l) ≡ None → Changes core (write_ended (start_write core n k) n k true)
fail_change core n k l ok =
    let mid = start_write core n k in
    let some : is_some (write_in k (mid.writes n)) ≡ true =
    ap (λ ws. is_some (write_in k ws)) (here core.writes n (start_in k (core.writes n))) ∙ ap is_some (write_in-start k k (core.writes n)) ∙ started_some (k == k) (write_in k (core.writes n)) (write_found core n k l ok) in
    more (start_change core n k l ok) (end_by mid n k (write_in k (mid.writes n)) true refl some)

read_head : (core : Core) (n k l : ℕ) (x : Option ℕ) → Changes core (headed (end_read core n k) n l x)
read_head core n k l None = changed (ends_read n k core.head)
read_head core n k l (Some s) = changed (ends_read n k (λ m j. if (m == n) && (j == l) then s else core.head m j))

pub in_change : (core : Core) (n k : ℕ) (o : Outcome) → Changes core (with_value core (λ l v. in_done core n k l) o)
in_change core n k (outcomes.Value l v) = read_head core n k l (read_sector (read_in k (core.reads n)))
in_change core n k o = still

-- Bitmaps.

pub written_change : (core : Core) (k p l : ℕ) → Changes core (page_written core k p l)
written_change core k p l = changed (marks k (written (core.bitmap k) p l) (record { set = λ c e. e; need = λ c e. e; writes = λ c. refl }))

pub failed_change : (core : Core) (k p l : ℕ) → Changes core (page_failed core k p l)
failed_change core k p l = changed (marks k (failed (core.bitmap k) p l) (record { set = λ c e. e; need = λ c e. e; writes = λ c. refl }))

cleared : (f : ℕ → Bool) (n c : ℕ) → with_at f n false c ≡ true → f c ≡ true
cleared f n c e = grind (arith, nat_tests)

pub clear_change : (core : Core) (n c : ℕ) → Changes core (clear core n c)
clear_change core n c = changed (marks n (with_set (core.bitmap n) c false) (record { set = λ k e. cleared (core.bitmap n).set c k e; need = λ k e. e; writes = λ k. refl }))

-- Passes.

pub resync_change : (core : Core) (n : ℕ) → Changes core (ask_resync core n)
resync_change core n = changed (turns n Asked (with_at core.locks resync_res (asked (core.locks resync_res) n EX)) (same_at core.locks resync_res (asked (core.locks resync_res) n EX) refl))

pub own_change : (core : Core) (n : ℕ) → Changes core (pass_own core n)
own_change core n = changed (passes n (core.bitmap n).need (λ l. false) (λ c e. inl e))

pub full_change : (core : Core) (n : ℕ) → Changes core (pass_full core n)
full_change core n = changed (passes n (λ c. nat_lt c (chunks_of (sizes core))) (λ l. is_rebuilding ((core.view n).role l)) (λ c e. inr (inr (ltb-true c (chunks_of (sizes core)) e))))

pub again_change : (core : Core) (n l : ℕ) → Changes core (pass_again core n l)
again_change core n l = changed (passes n (core.adding n).gathering.gathered (λ k. k == l) (λ c e. inr (inl e)))

pub end_pass_change : (core : Core) (n : ℕ) → Changes core (end_pass core n)
end_pass_change core n = changed (ends_pass n (with_at core.locks resync_res (let_go (core.locks resync_res) n)) (same_at core.locks resync_res (let_go (core.locks resync_res) n) refl))

has_first : (a b d : Bool) → (a && b && d) ≡ true → a ≡ true
has_first a b d e = grind arith

pub page_below : (g : Sizes) (p : ℕ) (bytes : List ℕ) (c : ℕ) → page_has g p bytes c ≡ true → c < chunks_of g
page_below g p bytes c e = ltb-true c (chunks_of g) (has_first (nat_lt c (chunks_of g)) (page_of c == p) (chunk_bit bytes c) e)

due_left : (b : Bool) (x due : ℕ × ℕ) → (if b then Some x else None) ≡ Some due → b ≡ true
due_left true x due e = refl
due_left false x due e = cc

gather_by : (core : Core) (n : ℕ) (x : Option (ℕ × ℕ)) (v : Sector) → due_page core n ≡ x → Changes core (page_gathered core n x v)
gather_by core n None v e = still
gather_by core n (Some due) v e =
    changed (gathers n (page_has (sizes core) due.1 v.bytes)
    (due_left (nat_lt (core.adding n).gathering.next (all_pages (sizes core))) (due_slot (sizes core) (core.adding n).gathering, page_due (sizes core) (core.adding n).gathering) due e)
    (λ c h. page_below (sizes core) due.1 v.bytes c h))

pub gather_change : (core : Core) (n : ℕ) (o : Outcome) → Changes core (with_page core (gather core n) o)
gather_change core n (outcomes.Page v) = gather_by core n (due_page core n) v refl
gather_change core n o = still

fill_by : (core : Core) (n : ℕ) (x : Option ℕ) (l : ℕ) (v : Sector) → next_sector core n ≡ x → Changes core (filled_with core n x l v)
fill_by core n None l v e = still
fill_by core n (Some s) l v e = changed (fills n s v l (λ m j. if (m == n) && (j == l) then s else core.head m j) e)

pub copy_in_change : (core : Core) (n : ℕ) (o : Outcome) → Changes core (with_value core (copied_in core n) o)
copy_in_change core n (outcomes.Value l v) = fill_by core n (next_sector core n) l v refl
copy_in_change core n o = still

copy_by : (core : Core) (n l : ℕ) (x : Option ℕ) → Changes core (with_pass (headed core n l x) n (λ p. copied p l))
copy_by core n l None = changed (copies n l core.head)
copy_by core n l (Some s) = changed (copies n l (λ m j. if (m == n) && (j == l) then s else core.head m j))

pub copy_out_change : (core : Core) (n l : ℕ) → Changes core (copied_out core n l)
copy_out_change core n l = copy_by core n l (buffer_sector (buffer_of core n))

settle_by : (core : Core) (n : ℕ) (x : Option Buffer) → buffer_of core n ≡ x → Changes core (settle_buffer core n x)
settle_by core n None e = still
settle_by core n (Some b) e = changed (settles n b e)

pub settle_change : (core : Core) (n : ℕ) → Changes core (settle core n)
settle_change core n = settle_by core n (buffer_of core n) refl

-- Recoveries.

pub recover_change : (core : Core) (n d : ℕ) → first_of (rec_guards core n d) ≡ None → Changes core (recover core n d)
recover_change core n d ok =
    let a = all_none (rec_guards core n d) ok in
    changed (recovers n d (with_at core.locks d (holding (core.locks d) n PW)) (same_at core.locks d (holding (core.locks d) n PW) refl)
    (ltb-true n (nodes_of (sizes core)) (unless_none _ (NoNode n) a.0)) (ltb-true d (nodes_of (sizes core)) (unless_none _ (NoNode d) a.1.1.1.1.1.1.0)))

slot_in_by : (core : Core) (n : ℕ) (x : Option Recovering) (p l : ℕ) (v : Sector) → core.recovery n ≡ x → Changes core (page_found core n x p l v)
slot_in_by core n None p l v e = still
slot_in_by core n (Some r) p l v e = changed (slot_reads n r p l (page_has (sizes core) p v.bytes) e (λ c h. page_below (sizes core) p v.bytes c h))

pub slot_in_change : (core : Core) (n p l : ℕ) (o : Outcome) → Changes core (with_page core (slot_read core n p l) o)
slot_in_change core n p l (outcomes.Page v) = slot_in_by core n (core.recovery n) p l v refl
slot_in_change core n p l o = still

slot_out_by : (core : Core) (n : ℕ) (x : Option Recovering) (p l : ℕ) → core.recovery n ≡ x → Changes core (page_cleared core n x p l)
slot_out_by core n None p l e = still
slot_out_by core n (Some r) p l e = changed (slot_clears n r p l e)

pub slot_out_change : (core : Core) (n p l : ℕ) → Changes core (slot_cleared core n p l)
slot_out_change core n p l = slot_out_by core n (core.recovery n) p l refl

recovered_by : (core : Core) (n : ℕ) (x : Option Recovering) → core.recovery n ≡ x → Changes core (slot_recovered core n x)
recovered_by core n None e = still
recovered_by core n (Some r) e = changed (recovered n r (with_at core.locks r.slot (let_go (core.locks r.slot) n)) e (same_at core.locks r.slot (let_go (core.locks r.slot) n) refl))

pub recovered_change : (core : Core) (n : ℕ) → Changes core (done_recovered core n)
recovered_change core n = recovered_by core n (core.recovery n) refl
