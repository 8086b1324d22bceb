-- What one line of a lock script does in a lock space, and what is replied to it.
use Rattle.std.specs.Prelude.{◌≡◌, ◌⊎◌, ℕ, List, ◌∷◌, Option, Some, None}
use Rattle.dlm_modes.specs.declared.block.Block.{Block}
use Rattle.dlm_space.specs.Locks.{Lock, caller}
use Rattle.dlm_space.specs.Calls.{Call, Asks, AsksNow, Converts, ConvertsNow, Grants, Releases, Dies, refusal, effect, IsAccepted}
use Rattle.dlm_space.specs.declared.answers.Converted.{Converted}
use Rattle.dlm_space.specs.declared.answers.Converted.TheVariants.{Now, Queued}
use Rattle.dlm_space.specs.declared.answers.Granted.{Granted}
use Rattle.dlm_space.specs.declared.answers.LockError.{LockError}
use Rattle.mdc_types.specs.Resources.{number_of}
use Rattle.script_text.specs.declared.locks.LockLine.{LockLine}
use Rattle.script_text.specs.declared.locks.LockLine.TheVariants as lines
use Rattle.report_text.specs.declared.locks.LockReply.{LockReply}
use Rattle.report_text.specs.declared.locks.LockReply.TheVariants as replies

-- the line makes this call, which carries what it answers. No value is given, and the query makes no call
abbrev pub Makes : LockLine → Call → Type 0
Makes (lines.Ask n res mode) call = call ≡ Asks n (number_of res) mode
Makes (lines.Now n res mode) call = (given : Option Block) × (call ≡ AsksNow n (number_of res) mode given)
Makes (lines.Convert n res mode) call = (answer : Converted) × (call ≡ Converts n (number_of res) mode None answer)
Makes (lines.Up n res mode) call = call ≡ ConvertsNow n (number_of res) mode
Makes (lines.Grant res) call = (g : Granted) × (call ≡ Grants (number_of res) g)
Makes (lines.Release n res) call = call ≡ Releases n (number_of res) None
Makes (lines.Die n) call = call ≡ Dies n
Makes (lines.Calls n res) call = ⊥

-- what is replied to an accepted call
abbrev pub reply_to : Call → LockReply
reply_to (Asks n r mode) = replies.Asked
reply_to (AsksNow n r mode given) = replies.Granted n mode
reply_to (Converts n r mode value Now) = replies.Converted
reply_to (Converts n r mode value Queued) = replies.Asked
reply_to (ConvertsNow n r mode) = replies.Converted
reply_to (Grants r g) = replies.Granted g.node g.mode
reply_to (Releases n r value) = replies.Released
reply_to (Dies n) = replies.Died

-- the call is accepted, and answers what it carries
pub record Accepts (locks : ℕ → Lock) (line : LockLine) (call : Call) (reply : LockReply) : Type 0 where
  pub makes : Makes line call
  pub accepted : IsAccepted locks call
  pub says : reply ≡ reply_to call

-- the call is refused, whatever it would answer
pub record Refuses (locks : ℕ → Lock) (line : LockLine) (reply : LockReply) : Type 0 where
  pub call : Call
  pub makes : Makes line call
  pub why : LockError
  pub refused : refusal locks call ≡ Some why
  pub says : reply ≡ replies.Refused why

-- the query tells who waits for what the node holds
abbrev pub Tells : (ℕ → Lock) → LockLine → LockReply → Type 0
Tells locks (lines.Calls n res) reply = reply ≡ replies.Calls (caller (locks (number_of res)) n)
Tells locks line reply = ⊥

-- what is replied to the line in these locks, and the call that is accepted, if one is
abbrev pub Replies : (ℕ → Lock) → LockLine → Option Call → LockReply → Type 0
Replies locks line (Some call) reply = Accepts locks line call reply
Replies locks line None reply = Refuses locks line reply ⊎ Tells locks line reply

-- nothing changes but by an accepted call
abbrev pub locks_with : (ℕ → Lock) → Option Call → ℕ → Lock
locks_with locks None = locks
locks_with locks (Some call) = effect locks call

-- the accepted calls, the newest first
abbrev pub calls_with : List Call → Option Call → List Call
calls_with past None = past
calls_with past (Some call) = call ∷ past

-- one line was taken
pub record Takes (locks : ℕ → Lock) (line : LockLine) (later : ℕ → Lock) (reply : LockReply) : Type 0 where
  pub called : Option Call
  pub replies : Replies locks line called reply
  pub after : later ≡ locks_with locks called
