-- That no lock call which a row makes at once is refused.
use Rattle.std.specs.Prelude.{◌≡◌, ℕ, true, is_none, is_some, Option, Some, None}
use Rattle.dlm_modes.specs.Points.{with_at}
use Rattle.dlm_modes.specs.declared.mode.Mode.{Mode}
use Rattle.dlm_modes.specs.declared.mode.Mode.TheVariants.{CR, PW, PR, EX}
use Rattle.dlm_space.specs.Locks.{Lock, ask_now_refusal, convert_refusal, convert_now_refusal, granted}
use Rattle.dlm_space.specs.declared.ask.Ask.{Ask}
use Rattle.mdc_types.specs.Resources.{number_of}
use Rattle.mdc_types.specs.declared.resources.Res.{Res}
use Rattle.mdc_types.specs.declared.resources.Res.TheVariants as resources
use Rattle.mdc_types.specs.declared.events.Event.TheVariants.{Grant, Join, Up, Publish, Take, Processed, Resume, Recover, LockDevice}
use Rattle.msg_rounds.specs.Holds.{MayTake, MayResume}
use Rattle.msg_rounds.specs.Locks.{message_res, ack_res}
use Rattle.msg_rounds.specs.Refusals.{is_ex, token_granted_refusal, message_granted_refusal, ack_granted_refusal, pr_granted_refusal}
use Rattle.msg_rounds.specs.declared.errors.RoundError.{RoundError}
use Rattle.cluster_model.specs.State.{Core}
use Rattle.cluster_model.specs.Changes.{no_new_dev}
use Rattle.cluster_model.specs.Granting.{asker}
use Rattle.cluster_model.specs.Table.{refusal}

-- The news of a grant, which its asker has at once: nothing refuses it.

-- of `message`: PR is a receiver's, and EX the sender's
abbrev pub message_news : (ℕ → Lock) → Core → ℕ → Mode → Option RoundError
message_news locks core n PR = pr_granted_refusal locks n (core.receiver n)
message_news locks core n mode = message_granted_refusal locks n (core.sender n)

abbrev pub news_refusal : (ℕ → Lock) → Core → Res → Ask → Option RoundError
news_refusal locks core resources.Token a = token_granted_refusal locks a.node (core.sender a.node)
news_refusal locks core resources.Message a = message_news locks core a.node a.mode
news_refusal locks core resources.Ack a = ack_granted_refusal locks a.node (core.sender a.node)
news_refusal locks core res a = None

-- the locks after a grant
abbrev pub served : (ℕ → Lock) → Res → ℕ → Lock
served locks res = with_at locks (number_of res) (granted (locks (number_of res)))

-- where the row isn't refused, its call on the lock space isn't
pub record Unblocked (core : Core) : Type 0 where
  -- PW on a bitmap
  pub join : (n : ℕ) → refusal core (Join n) ≡ None → ask_now_refusal (core.locks n) n PW ≡ None
  pub recover : (n d : ℕ) → refusal core (Recover n d) ≡ None
      → ask_now_refusal (core.locks d) n PW ≡ None
  -- CR on `ack`, on `message` and on `no-new-dev`
  pub up : (n : ℕ) → refusal core (Up n) ≡ None → ask_now_refusal (core.locks ack_res) n CR ≡ None
  pub up_device : (n : ℕ) → refusal core (Up n) ≡ None
      → ask_now_refusal (core.locks no_new_dev) n CR ≡ None
  pub take : (n : ℕ) → refusal core (Take n) ≡ None
      → ask_now_refusal (core.locks message_res) n CR ≡ None
  pub resume : (n : ℕ) → refusal core (Resume n) ≡ None
      → ask_now_refusal (core.locks ack_res) n CR ≡ None
  -- so a receiver takes the message, which is valid, and resumes
  pub may_take : (n : ℕ) → refusal core (Take n) ≡ None → MayTake core.locks n
  pub may_resume : (n : ℕ) → refusal core (Resume n) ≡ None → MayResume core.locks n
  pub processed : (n : ℕ) → refusal core (Processed n) ≡ None
      → is_none ((core.locks no_new_dev).held n) ≡ true
      → ask_now_refusal (core.locks no_new_dev) n CR ≡ None
  -- EX on `no-new-dev`, by a conversion where the node holds it
  pub lock_asks : (n : ℕ) → refusal core (LockDevice n) ≡ None
      → is_none ((core.locks no_new_dev).held n) ≡ true
      → ask_now_refusal (core.locks no_new_dev) n EX ≡ None
  pub lock_converts : (n : ℕ) → refusal core (LockDevice n) ≡ None
      → is_some ((core.locks no_new_dev).held n) ≡ true
      → convert_now_refusal (core.locks no_new_dev) n EX ≡ None
  -- a publish, and a round that is given up: EX there goes to CR
  pub unlock : (n : ℕ) → is_ex ((core.locks no_new_dev).held n) ≡ true
      → convert_refusal (core.locks no_new_dev) n ≡ None
  -- a publish: EX on `message` goes to CW and CR on `ack` to EX, and a range is written with
  -- the node's own bitmap lock
  pub message : (n : ℕ) → refusal core (Publish n) ≡ None
      → convert_refusal (core.locks message_res) n ≡ None
  pub ack : (n : ℕ) → refusal core (Publish n) ≡ None
      → convert_refusal (core.locks ack_res) n ≡ None
  pub range : (n : ℕ) → refusal core (Publish n) ≡ None → convert_refusal (core.locks n) n ≡ None
  -- a grant: who gets the lock is told
  pub told : (res : Res) (a : Ask) → refusal core (Grant res) ≡ None → asker core res ≡ Some a
      → news_refusal (served core.locks res) core res a ≡ None
