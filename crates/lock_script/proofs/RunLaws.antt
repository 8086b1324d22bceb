-- Lines one after another.
use Rattle.std.proofs.Common.{◌≡◌, ℕ, ◌+◌, ◌<◌, ◌≤◌, Option, Some, None, List, [], ◌∷◌, ◌++◌, length, get_or, take, refl, sym, ◌∙◌, ap, subst, zero, suc, arith}
use Rattle.std.specs.Prelude.{reverse}
use Rattle.std.specs.List.{AllByRecursion}
use Rattle.std.proofs.lemmas.List.{reverse-append, take_more, take_all}
use Rattle.dlm_space.specs.Locks.{Lock, new_locks}
use Rattle.dlm_space.specs.Calls.{Call, locks_after, AreAccepted}
use Rattle.dlm_space.proofs.Told.{calls_are_sound}
use Rattle.script_text.specs.Outside.{with_back, WroteFront, IsDue}
use Rattle.script_text.proofs.DueLaws.{due_start, due_more, due_cut, due_cut_all, due_all}
use Rattle.script_text.specs.declared.locks.LockLine.{LockLine}
use Rattle.report_text.specs.declared.locks.LockReply.{LockReply}
use Rattle.lock_script.specs.Replies.{Replies, Takes, locks_with, calls_with}
use Rattle.lock_script.specs.Runs.{reply_text, Runs, Ran, RanAll, RanSome, RanCut, SoFar}

-- each accepted call was accepted in its turn
with_accepted : (before : List Call) (line : LockLine) (called : Option Call) (reply : LockReply) → AreAccepted before → Replies (locks_after before) line called reply → AreAccepted (calls_with before called)
with_accepted before line None reply a r = a
with_accepted before line (Some call) reply a r = (a, r.accepted)

accepted_of : (lines : List LockLine) (past : List Call) (text : List ℕ) → Runs lines past text → AreAccepted past
accepted_of [] past text r = subst AreAccepted (sym r.0) tt
accepted_of (line ∷ lines) past text r =
    subst AreAccepted (sym r.calls) (with_accepted r.before line r.called r.reply (accepted_of lines r.before r.said r.earlier) r.replies)

ran_of : (lines : List LockLine) (past : List Call) (text : List ℕ) → Runs (reverse lines) past text → Ran lines past text
ran_of lines past text runs =
    let accepted = accepted_of (reverse lines) past text runs in
    record { runs = runs; accepted = accepted; sound = calls_are_sound past accepted }

pub begins : (locks : ℕ → Lock) (w : Option (List ℕ)) (waiting : List ℕ) → locks ≡ new_locks → waiting ≡ [] → SoFar [] locks w waiting w
begins locks w waiting is none = record { past = []; text = []; runs = (refl, refl); left = is; due = subst (λ r. IsDue w [] r w) (sym none) (due_start w) }

locks_more : (past : List Call) (called : Option Call) → locks_with (locks_after past) called ≡ locks_after (calls_with past called)
locks_more past None = refl
locks_more past (Some call) = refl

-- all of them, when what waits is written
ran_all : (lines : List LockLine) (locks : ℕ → Lock) (w s now : Option (List ℕ)) (waiting : List ℕ) → SoFar lines locks w waiting s → now ≡ with_back s waiting → RanAll lines w now
ran_all lines locks w s now waiting a wrote = record { past = a.past; text = a.text; ran = ran_of lines a.past a.text a.runs; wrote = due_all w s now a.text waiting a.due wrote }

-- what waits was to be written, and a write failed
pub ran_cut : (lines : List LockLine) (i : ℕ) (locks : ℕ → Lock) (w s now : Option (List ℕ)) (waiting : List ℕ) → SoFar (take i lines) locks w waiting s → WroteFront s waiting now → RanCut lines w now
ran_cut lines i locks w s now waiting a cut = record { count = i; past = a.past; text = a.text; ran = ran_of (take i lines) a.past a.text a.runs; wrote = due_cut_all w s now a.text waiting a.due cut }

pub ran_to_end : (lines : List LockLine) (i : ℕ) (locks : ℕ → Lock) (w s now : Option (List ℕ)) (waiting : List ℕ) → length lines ≤ i → SoFar (take i lines) locks w waiting s → now ≡ with_back s waiting
    → RanAll lines w now
ran_to_end lines i locks w s now waiting le a wrote = ran_all lines locks w s now waiting (subst (λ ls. SoFar ls locks w waiting s) (take_all i lines le) a) wrote

module _ (lines : List LockLine) (i : ℕ) (line : LockLine) (lt : i < length lines) (is : line ≡ get_or lines i line) where
  newest : reverse (take (i + 1) lines) ≡ line ∷ reverse (take i lines)
  newest = ap reverse (take_more lines i line lt ∙ ap (λ x. take i lines ++ x ∷ []) (sym is)) ∙ reverse-append (take i lines) (line ∷ [])

  module _ (locks later : ℕ → Lock) (w s now : Option (List ℕ)) (waiting : List ℕ) (a : SoFar (take i lines) locks w waiting s) (reply : LockReply) (t : Takes locks line later reply) where
    runs_more : Runs (reverse (take (i + 1) lines)) (calls_with a.past t.called) (a.text ++ reply_text reply)
    runs_more = rw newest (record {
      before = a.past;
      said = a.text;
      earlier = a.runs;
      called = t.called;
      reply = reply;
      replies = subst (λ ls. Replies ls line t.called reply) a.left t.replies;
      calls = refl;
      says = refl;
    })

    -- a line more
    pub next_line : (rest : List ℕ) → IsDue s (waiting ++ reply_text reply) rest now → SoFar (take (i + 1) lines) later w rest now
    next_line rest due = record {
      past = calls_with a.past t.called;
      text = a.text ++ reply_text reply;
      runs = runs_more;
      left = t.after ∙ ap (λ ls. locks_with ls t.called) a.left ∙ locks_more a.past t.called;
      due = due_more w s now a.text waiting (reply_text reply) rest a.due due;
    }

    -- a line more, whose text was cut off
    pub cut_at : WroteFront s (waiting ++ reply_text reply) now → RanCut lines w now
    cut_at front = record {
      count = i + 1;
      past = calls_with a.past t.called;
      text = a.text ++ reply_text reply;
      ran = ran_of (take (i + 1) lines) (calls_with a.past t.called) (a.text ++ reply_text reply) runs_more;
      wrote = due_cut w s now a.text waiting (reply_text reply) a.due front;
    }

-- a line that isn't printed: what waits was written
pub halt_at : (lines : List LockLine) (i : ℕ) (locks : ℕ → Lock) (w s now : Option (List ℕ)) (waiting : List ℕ) → i < length lines → SoFar (take i lines) locks w waiting s → now ≡ with_back s waiting
    → RanSome lines w now
halt_at lines i locks w s now waiting lt a wrote = record { count = i; few = lt; first = ran_all (take i lines) locks w s now waiting a wrote }

-- what holds of each line
pub all_at : (P : LockLine → Type 0) (lines : List LockLine) → AllByRecursion P lines → (i : ℕ) (line : LockLine) → i < length lines → line ≡ get_or lines i line → P line
all_at P [] all i line lt is = absurd (omega (arith, lt))
all_at P (x ∷ lines) all zero line lt is = subst P (sym is) all.0
all_at P (x ∷ lines) all (suc i) line lt is = all_at P lines all.1 i line (omega (arith, lt)) is
