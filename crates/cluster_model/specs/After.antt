-- What an accepted event does to the core, by its outcome.
use Rattle.std.specs.Prelude.{ℕ, true, false, Option, Some, None}
use Rattle.mdc_types.specs.declared.numbers.Sector.{Sector}
use Rattle.mdc_types.specs.declared.events.Event.{Event}
use Rattle.mdc_types.specs.declared.events.Event.TheVariants.{Cut, Mend, Die, Grant, Join, Load}
use Rattle.mdc_types.specs.declared.events.Event.TheVariants.{Up, Leave, AskToken, AskMessage}
use Rattle.mdc_types.specs.declared.events.Event.TheVariants.{Offer, WriteSuper, Publish}
use Rattle.mdc_types.specs.declared.events.Event.TheVariants.{FinishRound, Quit, Take, Processed}
use Rattle.mdc_types.specs.declared.events.Event.TheVariants.{Resume, DropMessage, AskWrite}
use Rattle.mdc_types.specs.declared.events.Event.TheVariants.{WritePage, Out, EndWrite, BreakWrite}
use Rattle.mdc_types.specs.declared.events.Event.TheVariants.{AskRead, In, Clear, AskResync}
use Rattle.mdc_types.specs.declared.events.Event.TheVariants.{Gather, PassOwn, PassFull, PassAgain}
use Rattle.mdc_types.specs.declared.events.Event.TheVariants.{CopyIn, CopyOut, Settle, EndPass}
use Rattle.mdc_types.specs.declared.events.Event.TheVariants.{Recover, SlotIn, SlotOut, Recovered}
use Rattle.mdc_types.specs.declared.events.Event.TheVariants.{LockDevice}
use Rattle.mdc_types.specs.declared.outcomes.Outcome.{Outcome}
use Rattle.mdc_types.specs.declared.outcomes.Outcome.TheVariants.{Value, Lost, Io, Super}
use Rattle.mdc_types.specs.declared.outcomes.Outcome.TheVariants.{Unreached, Page}
use Rattle.md_superblock.specs.Arrays.{Says, says_in}
use Rattle.cluster_model.specs.State.{Core, Tried, Unread as NothingRead, Loaded}
use Rattle.cluster_model.specs.Changes.{voided}
use Rattle.cluster_model.specs.Granting.{path_is, grant}
use Rattle.cluster_model.specs.Joining.{join, loaded, up}
use Rattle.cluster_model.specs.Leaving.{leave, die}
use Rattle.cluster_model.specs.Rounds.{ask_token, ask_message, quit, lock_device}
use Rattle.cluster_model.specs.Wishes.{offered}
use Rattle.cluster_model.specs.Superblocks.{super_written}
use Rattle.cluster_model.specs.Publishing.{publish}
use Rattle.cluster_model.specs.Finishing.{finish}
use Rattle.cluster_model.specs.Receiving.{take, resume, drop_message}
use Rattle.cluster_model.specs.Processing.{processed}
use Rattle.cluster_model.specs.Writes.{ask_write, out_done, end_write, break_write}
use Rattle.cluster_model.specs.Reads.{ask_read, in_done}
use Rattle.cluster_model.specs.Bits.{page_written, clear}
use Rattle.cluster_model.specs.Passes.{ask_resync, pass_own, pass_full, pass_again, end_pass}
use Rattle.cluster_model.specs.Copying.{copied_in, copied_out, settle}
use Rattle.cluster_model.specs.Gathering.{gather}
use Rattle.cluster_model.specs.Recovering.{recover, slot_read, slot_cleared, recovered}
use Rattle.cluster_model.specs.Transfers.{Transfer, transfer_of}
use Rattle.cluster_model.specs.Failures.{tried, leg_lost, request_failed}

-- by what was read

abbrev pub with_value : Core → (ℕ → Sector → Core) → Outcome → Core
with_value core f (Value l v) = f l v
with_value core f o = core

abbrev pub with_page : Core → (Sector → Core) → Outcome → Core
with_page core f (Page v) = f v
with_page core f o = core

abbrev pub tried_as : Option Says → Tried
tried_as None = NothingRead
tried_as (Some says) = Loaded says

abbrev pub with_super : Core → ℕ → ℕ → Outcome → Core
with_super core n l (Super events v) = loaded core n l (tried_as (says_in core.array l v.bytes))
with_super core n l o = loaded core n l NothingRead

-- where no transfer failed
abbrev pub done : Core → Event → Outcome → Core
done core (Cut n l) o = path_is core n l true
done core (Mend n l) o = path_is core n l false
done core (Die n) o = die core n
done core (Grant res) o = grant core res
done core (Join n) o = join core n
done core (Load n l) o = with_super core n l o
done core (Up n) o = up core n
done core (Leave n) o = leave core n
done core (AskToken n) o = ask_token core n
done core (AskMessage n) o = ask_message core n
done core (Offer n wish) o = offered core n wish
done core (WriteSuper n l) o = super_written core n l
done core (Publish n) o = publish core n
done core (FinishRound n) o = finish core n
done core (Quit n) o = quit core n
done core (Take n) o = take core n
done core (Processed n) o = processed core n
done core (Resume n) o = resume core n
done core (DropMessage n) o = drop_message core n
done core (AskWrite n s v) o = ask_write core n s v
done core (WritePage n p l) o = page_written core n p l
done core (Out n k l) o = out_done core n k l
done core (EndWrite n k) o = end_write core n k
done core (BreakWrite n k) o = break_write core n k
done core (AskRead n s) o = ask_read core n s
done core (In n k) o = with_value core (λ l v. in_done core n k l) o
done core (Clear n c) o = clear core n c
done core (AskResync n) o = ask_resync core n
done core (Gather n) o = with_page core (gather core n) o
done core (PassOwn n) o = pass_own core n
done core (PassFull n) o = pass_full core n
done core (PassAgain n l) o = pass_again core n l
done core (CopyIn n) o = with_value core (copied_in core n) o
done core (CopyOut n l) o = copied_out core n l
done core (Settle n) o = settle core n
done core (EndPass n) o = end_pass core n
done core (Recover n d) o = recover core n d
done core (SlotIn n p l) o = with_page core (slot_read core n p l) o
done core (SlotOut n p l) o = slot_cleared core n p l
done core (Recovered n) o = recovered core n
done core (LockDevice n) o = lock_device core n

-- where a transfer failed

abbrev pub after_loss : Core → Option Transfer → Core
after_loss core None = core
after_loss core (Some t) = leg_lost core t.node t.leg

-- the offer of a superblock that doesn't reach its leg is void
abbrev pub after_miss : Core → Option Transfer → Core
after_miss core None = core
after_miss core (Some t) = voided core t.node (core.sender t.node)

abbrev pub after : Core → Event → Outcome → Core
after core e (Lost l) = after_loss (tried core e) (transfer_of core e)
after core e (Io l) = request_failed (tried core e) e
after core e (Unreached l) = after_miss core (transfer_of core e)
after core e o = done core e o
