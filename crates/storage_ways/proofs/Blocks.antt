-- What the blocks of the slots' locks tell after a change of locks.
use Rattle.std.proofs.Common.{◌≡◌, ℕ, ◌<◌, ◌≤◌, ◌==◌, ◌&&◌, not, Bool, true, false, if◌then◌else◌, Option, Some, None, refl, sym, ap, subst, ◌∙◌, arith, nat_lt}
use Rattle.std.specs.Prelude.{is_none}
use Rattle.std.proofs.Math.Path.{fun_ext}
use Rattle.std.proofs.lemmas.Bool.Decides.{nat_tests}
use Rattle.dlm_modes.specs.Points.{with_at}
use Rattle.dlm_modes.specs.declared.block.Block.{Block}
use Rattle.dlm_modes.specs.declared.mode.Mode.TheVariants.{CR, CW, PR, PW, EX}
use Rattle.mdc_types.specs.declared.numbers.Range.{Range}
use Rattle.dlm_space.specs.Locks.{Lock, holding, with_value, queued, let_go, all_died, mode_of, is_writer}
use Rattle.cluster_msgs.specs.Reading.{range_in}
use Rattle.cluster_msgs.specs.Ranges.{IsRange, spelled_range}
use Rattle.cluster_msgs.proofs.Said.{says_the_range}
use Rattle.msg_rounds.specs.Locks.{token_res, message_res, ack_res, published, finished, quitted, message_processed, resumed}
use Rattle.msg_rounds.specs.Phases.{has_message}
use Rattle.msg_rounds.specs.Refusals.{is_ex}
use Rattle.msg_rounds.specs.declared.phases.SenderPhase.{SenderPhase}
use Rattle.suspend_ranges.specs.Suspended.{entry_of}
use Rattle.cluster_model.specs.State.{Core}
use Rattle.cluster_model.specs.Changes.{no_new_dev, device_unlocked}
use Rattle.cluster_model.specs.Joining.{told_range}
use Rattle.cluster_model.specs.Processing.{device_lock_kept}
use Rattle.cluster_model.specs.Publishing.{range_told}
use Rattle.laws_locks.specs.Others.{writes_slot}
use Rattle.storage_ways.proofs.Parts.{Part, told_by}
use Rattle.storage_ways.proofs.Place.{Around, here}
use Rattle.storage_ways.proofs.Ways.{Way}

-- the range of a lock's valid block
abbrev pub told_in : Lock → Option Range
told_in lock = if lock.valid then told_range (range_in lock.block.bytes) else None

by_slot : (b v : Bool) (x : Option Range) → (if b && v then x else None) ≡ (if b then (if v then x else None) else None)
by_slot true v x = refl
by_slot false v x = refl

pub told_at : (locks : ℕ → Lock) (m : ℕ) → told_by locks m ≡ (if nat_lt m 16 then told_in (locks m) else None)
told_at locks m = by_slot (nat_lt m 16) (locks m).valid (told_range (range_in (locks m).block.bytes))

-- the blocks of all slots tell the same
pub same_told : (new old : ℕ → Lock) → ((m : ℕ) → m < 16 → told_in (new m) ≡ told_in (old m)) → told_by new ≡ told_by old
same_told new old same = fun_ext (λ m. told_at new m ∙ by m (nat_lt m 16) refl ∙ sym (told_at old m))
  where
    by : (m : ℕ) (b : Bool) → nat_lt m 16 ≡ b → (if b then told_in (new m) else None) ≡ (if b then told_in (old m) else None)
    by m true e = same m (grind (arith, nat_tests))
    by m false e = refl

-- a lock that is no slot's
pub told_high : (locks : ℕ → Lock) (r : ℕ) (x : Lock) → 16 ≤ r → told_by (with_at locks r x) ≡ told_by locks
told_high locks r x le = same_told (with_at locks r x) locks (λ m lt. other (m == r) m (not_there m r lt le))
  where
    not_there : (m r : ℕ) → m < 16 → 16 ≤ r → (m == r) ≡ false
    not_there m r lt le = grind (arith, nat_tests)

    other : (b : Bool) (m : ℕ) → b ≡ false → told_in (if b then x else locks m) ≡ told_in (locks m)
    other true m e = cc
    other false m e = refl

-- a lock that tells the same
pub told_kept : (locks : ℕ → Lock) (r : ℕ) (x : Lock) → told_in x ≡ told_in (locks r) → told_by (with_at locks r x) ≡ told_by locks
told_kept locks r x same = same_told (with_at locks r x) locks (λ m lt. by m (m == r) refl)
  where
    by : (m : ℕ) (b : Bool) → (m == r) ≡ b → told_in (if b then x else locks m) ≡ told_in (locks m)
    by m true e = let is : r ≡ m = grind (arith, nat_tests) in same ∙ ap (λ k. told_in (locks k)) is
    by m false e = refl

pub told_unlocked : (locks : ℕ → Lock) (n : ℕ) → told_by (device_unlocked locks n) ≡ told_by locks
told_unlocked locks n = by (is_ex ((locks no_new_dev).held n))
  where
    by : (b : Bool) → told_by (if b then with_at locks no_new_dev (holding (locks no_new_dev) n CR) else locks) ≡ told_by locks
    by true = told_high locks no_new_dev _ (omega arith)
    by false = refl

pub told_device : (locks : ℕ → Lock) (n : ℕ) → told_by (device_lock_kept locks n) ≡ told_by locks
told_device locks n = by (is_none ((locks no_new_dev).held n))
  where
    by : (b : Bool) → told_by (if b then with_at locks no_new_dev (holding (locks no_new_dev) n CR) else locks) ≡ told_by locks
    by true = told_high locks no_new_dev _ (omega arith)
    by false = refl

pub told_published : (locks : ℕ → Lock) (n : ℕ) (block : Block) → told_by (published locks n block) ≡ told_by locks
told_published locks n block =
    told_high (with_at locks message_res (holding (with_value (locks message_res) (Some block)) n CW)) ack_res (queued (locks ack_res) n EX) (omega arith)
    ∙ told_high locks message_res (holding (with_value (locks message_res) (Some block)) n CW) (omega arith)

pub told_finished : (locks : ℕ → Lock) (n : ℕ) → told_by (finished locks n) ≡ told_by locks
told_finished locks n =
    told_high (with_at (with_at locks ack_res (holding (locks ack_res) n CR)) message_res (let_go (locks message_res) n)) token_res (let_go (locks token_res) n) (omega arith)
    ∙ told_high (with_at locks ack_res (holding (locks ack_res) n CR)) message_res (let_go (locks message_res) n) (omega arith)
    ∙ told_high locks ack_res (holding (locks ack_res) n CR) (omega arith)

pub told_quitted : (locks : ℕ → Lock) (n : ℕ) (s : SenderPhase) → told_by (quitted locks n s) ≡ told_by locks
told_quitted locks n s = by (has_message s)
  where
    by : (b : Bool) → told_by (with_at (if b then with_at locks message_res (let_go (locks message_res) n) else locks) token_res (let_go (locks token_res) n)) ≡ told_by locks
    by true = told_high (with_at locks message_res (let_go (locks message_res) n)) token_res (let_go (locks token_res) n) (omega arith) ∙ told_high locks message_res (let_go (locks message_res) n) (omega arith)
    by false = told_high locks token_res (let_go (locks token_res) n) (omega arith)

pub told_processed : (locks : ℕ → Lock) (n : ℕ) → told_by (message_processed locks n) ≡ told_by locks
told_processed locks n =
    told_high (with_at locks ack_res (let_go (locks ack_res) n)) message_res (queued (locks message_res) n PR) (omega arith)
    ∙ told_high locks ack_res (let_go (locks ack_res) n) (omega arith)

pub told_resumed : (locks : ℕ → Lock) (n : ℕ) → told_by (resumed locks n) ≡ told_by locks
told_resumed locks n =
    told_high (with_at locks ack_res (holding (locks ack_res) n CR)) message_res (let_go (locks message_res) n) (omega arith)
    ∙ told_high locks ack_res (holding (locks ack_res) n CR) (omega arith)

-- A range is told.

told_spelled : (r : Range) → IsRange r → told_range (range_in (spelled_range r)) ≡ entry_of r
told_spelled r is = let e = (says_the_range (spelled_range r) r).1 (record { range = is; bytes_are = refl }) in ap told_range e

pub told_range_at : (locks : ℕ → Lock) (n : ℕ) (r : Range) → n < 16 → IsRange r → (m : ℕ) → told_by (range_told locks n r) m ≡ (if m == n then entry_of r else told_by locks m)
told_range_at locks n r lt is m = by (m == n) refl
  where
    told : Lock
    told = holding (with_value (locks n) (Some (record { bytes = spelled_range r }))) n PW

    by : (b : Bool) → (m == n) ≡ b → (if nat_lt m 16 && (if b then told else locks m).valid then told_range (range_in (if b then told else locks m).block.bytes) else None) ≡ (if b then entry_of r else told_by locks m)
    by true e = let below : (nat_lt m 16 && true) ≡ true = grind (arith, nat_tests) in ap (λ b. if b then told_range (range_in (spelled_range r)) else None) below ∙ told_spelled r is
    by false e = refl

-- A node dies.

writes_so : (lock : Lock) (n : ℕ) (b : Bool) → lock.held n ≡ writes_slot b → is_writer (mode_of lock n) ≡ b
writes_so lock n true e = rw e refl
writes_so lock n false e = rw e refl

without_writer : (low v w : Bool) (x : Option Range) → (if low && (v && not w) then x else None) ≡ (if w then None else (if low && v then x else None))
without_writer low v w x = grind arith

pub told_died : (locks : ℕ → Lock) (n : ℕ) (has : ℕ → Bool) → ((m : ℕ) → m < 16 → (locks m).held n ≡ writes_slot (has m)) → (m : ℕ) → told_by (all_died locks n) m ≡ (if has m then None else told_by locks m)
told_died locks n has held m = by (nat_lt m 16) refl
  where
    dead : (b : Bool) (x : Option Range) → x ≡ (if b then x else x)
    dead true x = refl
    dead false x = refl

    by : (low : Bool) → nat_lt m 16 ≡ low → (if low && ((locks m).valid && not (is_writer (mode_of (locks m) n))) then told_range (range_in (locks m).block.bytes) else None) ≡ (if has m then None else (if low && (locks m).valid then told_range (range_in (locks m).block.bytes) else None))
    by true e =
        let w = writes_so (locks m) n (has m) (held m (grind (arith, nat_tests))) in
        without_writer true (locks m).valid (is_writer (mode_of (locks m) n)) (told_range (range_in (locks m).block.bytes))
        ∙ ap (λ b. if b then None else (if true && (locks m).valid then told_range (range_in (locks m).block.bytes) else None)) w
    by false e = dead (has m) None

-- a way to a core whose blocks tell this is one to the core
pub retold : (w : Part) (core : Core) (a : Around) (told : ℕ → Option Range) → told_by core.locks ≡ told → Way w (record (here core a) { told = told }) → Way w (here core a)
retold w core a told e x = subst (λ t. Way w (record (here core a) { told = t })) (sym e) x
