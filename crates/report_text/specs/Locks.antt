-- The texts of what a lock space replies to a line of a lock script.
use Rattle.std.specs.Prelude.{ℕ, List, [], ◌∷◌, codes, decimal, Option, Some, None}
use Rattle.dlm_space.specs.declared.answers.LockError.{LockError}
use Rattle.dlm_space.specs.declared.answers.LockError.TheVariants.{NotFree, NotHeld, AlreadyAsked, Blocked, NothingAsked, NotGrantable}
use Rattle.report_text.specs.declared.locks.LockReply.{LockReply}
use Rattle.report_text.specs.declared.locks.LockReply.TheVariants.{Asked, Granted, Converted, Released, Died, Calls, Refused}
use Rattle.report_text.specs.Lines.{line}
use Rattle.report_text.specs.Words.{mode_word}

-- the name of a refusal, and its values
abbrev pub lock_refusal_values : LockError → List (List ℕ)
lock_refusal_values NotFree = codes "not-free" ∷ []
lock_refusal_values NotHeld = codes "not-held" ∷ []
lock_refusal_values AlreadyAsked = codes "already-asked" ∷ []
lock_refusal_values (Blocked holder mode) = codes "blocked" ∷ decimal holder ∷ mode_word mode ∷ []
lock_refusal_values NothingAsked = codes "nothing-asked" ∷ []
lock_refusal_values (NotGrantable holder mode) = codes "not-grantable" ∷ decimal holder ∷ mode_word mode ∷ []

-- the node that waits, or a dash
abbrev pub caller_word : Option ℕ → List ℕ
caller_word None = codes "-"
caller_word (Some node) = decimal node

abbrev pub reply_line : LockReply → List ℕ
reply_line Asked = codes "asked"
reply_line (Granted node mode) = line (codes "granted") (decimal node ∷ mode_word mode ∷ [])
reply_line Converted = codes "converted"
reply_line Released = codes "released"
reply_line Died = codes "done"
reply_line (Calls caller) = line (codes "calls") (caller_word caller ∷ [])
reply_line (Refused why) = line (codes "refused") (lock_refusal_values why)
