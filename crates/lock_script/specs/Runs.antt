-- Runs of a lock script, and what is printed.
use Rattle.std.specs.Prelude.{◌≡◌, ℕ, ◌<◌, List, [], ◌∷◌, ◌++◌, reverse, take, length, Option}
use Rattle.dlm_space.specs.Locks.{Lock}
use Rattle.dlm_space.specs.Calls.{Call, locks_after, AreAccepted}
use Rattle.dlm_space.specs.Sound.{LockSound}
use Rattle.script_text.specs.declared.locks.LockLine.{LockLine}
use Rattle.script_text.specs.Outside.{with_back, WroteFront, IsDue}
use Rattle.report_text.specs.declared.locks.LockReply.{LockReply}
use Rattle.report_text.specs.Locks.{reply_line}
use Rattle.lock_script.specs.Replies.{Replies, calls_with}

-- a reply's line of text, with its line feed
abbrev pub reply_text : LockReply → List ℕ
reply_text reply = reply_line reply ++ 10 ∷ []

-- one line after others: it meets the locks that their accepted calls left
pub record AddsLine (Earlier : List Call → List ℕ → Type 0) (line : LockLine) (past : List Call) (text : List ℕ) : Type 0 where
  pub before : List Call
  pub said : List ℕ
  pub earlier : Earlier before said
  pub called : Option Call
  pub reply : LockReply
  pub replies : Replies (locks_after before) line called reply
  pub calls : past ≡ calls_with before called
  pub says : text ≡ said ++ reply_text reply

-- The lines, the newest first, from the new locks on: these calls were accepted, the newest first, and this text is printed for the lines in their order.
abbrev pub Runs : List LockLine → List Call → List ℕ → Type 0
Runs [] past text = (past ≡ []) × (text ≡ [])
Runs (line ∷ lines) past text = AddsLine (Runs lines) line past text

-- These lines were run. Each of the calls was accepted in its turn, so what holds of every such list of calls holds of it.
pub record Ran (lines : List LockLine) (past : List Call) (text : List ℕ) : Type 0 where
  pub runs : Runs (reverse lines) past text
  pub accepted : AreAccepted past
  pub sound : LockSound past

-- all lines were run, and their text was written
pub record RanAll (lines : List LockLine) (written now : Option (List ℕ)) : Type 0 where
  pub past : List Call
  pub text : List ℕ
  pub ran : Ran lines past text
  pub wrote : now ≡ with_back written text

-- the first lines were run, but not all, and their text was written
pub record RanSome (lines : List LockLine) (written now : Option (List ℕ)) : Type 0 where
  pub count : ℕ
  pub few : count < length lines
  pub first : RanAll (take count lines) written now

-- the first lines were run, and a front of their text was written, but not all
pub record RanCut (lines : List LockLine) (written now : Option (List ℕ)) : Type 0 where
  pub count : ℕ
  pub past : List Call
  pub text : List ℕ
  pub ran : Ran (take count lines) past text
  pub wrote : WroteFront written text now

-- the lines so far, the locks that they left, and their text: a front of it was written, and the rest waits
pub record SoFar (lines : List LockLine) (locks : ℕ → Lock) (written : Option (List ℕ)) (waiting : List ℕ) (now : Option (List ℕ)) : Type 0 where
  pub past : List Call
  pub text : List ℕ
  pub runs : Runs (reverse lines) past text
  pub left : locks ≡ locks_after past
  pub due : IsDue written text waiting now
