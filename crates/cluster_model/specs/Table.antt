-- The table: the guards of each event, in order.
use Rattle.std.specs.Prelude.{List, Option}
use Rattle.dlm_modes.specs.Guards.{first_of}
use Rattle.mdc_types.specs.declared.events.Event.{Event}
use Rattle.mdc_types.specs.declared.events.Event.TheVariants.{Cut, Mend, Die, Grant, Join, Load}
use Rattle.mdc_types.specs.declared.events.Event.TheVariants.{Up, Leave, AskToken, AskMessage}
use Rattle.mdc_types.specs.declared.events.Event.TheVariants.{Offer, WriteSuper, Publish}
use Rattle.mdc_types.specs.declared.events.Event.TheVariants.{FinishRound, Quit, Take, Processed}
use Rattle.mdc_types.specs.declared.events.Event.TheVariants.{Resume, DropMessage, AskWrite}
use Rattle.mdc_types.specs.declared.events.Event.TheVariants.{WritePage, Out, EndWrite, BreakWrite}
use Rattle.mdc_types.specs.declared.events.Event.TheVariants.{AskRead, In, Clear, AskResync}
use Rattle.mdc_types.specs.declared.events.Event.TheVariants.{Gather, PassOwn, PassFull, PassAgain}
use Rattle.mdc_types.specs.declared.events.Event.TheVariants.{CopyIn, CopyOut, Settle, EndPass}
use Rattle.mdc_types.specs.declared.events.Event.TheVariants.{Recover, SlotIn, SlotOut, Recovered}
use Rattle.mdc_types.specs.declared.events.Event.TheVariants.{LockDevice}
use Rattle.mdc_types.specs.declared.refusals.Refusal.{Refusal}
use Rattle.cluster_model.specs.State.{Core}
use Rattle.cluster_model.specs.Granting.{path_guards, grant_guards}
use Rattle.cluster_model.specs.Joining.{join_guards, load_guards, up_guards}
use Rattle.cluster_model.specs.Leaving.{leave_guards, die_guards}
use Rattle.cluster_model.specs.Rounds.{token_guards, message_guards, quit_guards, lockdev_guards}
use Rattle.cluster_model.specs.Wishes.{offer_guards}
use Rattle.cluster_model.specs.Superblocks.{sb_guards}
use Rattle.cluster_model.specs.Publishing.{publish_guards}
use Rattle.cluster_model.specs.Finishing.{finish_guards}
use Rattle.cluster_model.specs.Receiving.{take_guards, resume_guards}
use Rattle.cluster_model.specs.Processing.{processed_guards}
use Rattle.cluster_model.specs.Receiving.{drop_guards}
use Rattle.cluster_model.specs.Writes.{w_guards, out_guards, ok_guards, break_guards}
use Rattle.cluster_model.specs.Reads.{r_guards, in_guards}
use Rattle.cluster_model.specs.Bits.{bit_guards, clear_guards}
use Rattle.cluster_model.specs.Passes.{resync_guards, pass_guards, pass_again_guards, done_guards}
use Rattle.cluster_model.specs.Copying.{ci_guards, co_guards, settle_guards}
use Rattle.cluster_model.specs.Gathering.{gather_guards}
use Rattle.cluster_model.specs.Recovering.{rec_guards, slotin_guards, slotout_guards}
use Rattle.cluster_model.specs.Recovering.{recovered_guards}

abbrev pub guards : Core → Event → List (Option Refusal)
guards core (Cut n l) = path_guards core n l
guards core (Mend n l) = path_guards core n l
guards core (Die n) = die_guards core n
guards core (Grant res) = grant_guards core res
guards core (Join n) = join_guards core n
guards core (Load n l) = load_guards core n l
guards core (Up n) = up_guards core n
guards core (Leave n) = leave_guards core n
guards core (AskToken n) = token_guards core n
guards core (AskMessage n) = message_guards core n
guards core (Offer n wish) = offer_guards core n wish
guards core (WriteSuper n l) = sb_guards core n l
guards core (Publish n) = publish_guards core n
guards core (FinishRound n) = finish_guards core n
guards core (Quit n) = quit_guards core n
guards core (Take n) = take_guards core n
guards core (Processed n) = processed_guards core n
guards core (Resume n) = resume_guards core n
guards core (DropMessage n) = drop_guards core n
guards core (AskWrite n s v) = w_guards core n s
guards core (WritePage n p l) = bit_guards core n p l
guards core (Out n k l) = out_guards core n k l
guards core (EndWrite n k) = ok_guards core n k
guards core (BreakWrite n k) = break_guards core n k
guards core (AskRead n s) = r_guards core n s
guards core (In n k) = in_guards core n k
guards core (Clear n c) = clear_guards core n c
guards core (AskResync n) = resync_guards core n
guards core (Gather n) = gather_guards core n
guards core (PassOwn n) = pass_guards core n
guards core (PassFull n) = pass_guards core n
guards core (PassAgain n l) = pass_again_guards core n l
guards core (CopyIn n) = ci_guards core n
guards core (CopyOut n l) = co_guards core n l
guards core (Settle n) = settle_guards core n
guards core (EndPass n) = done_guards core n
guards core (Recover n d) = rec_guards core n d
guards core (SlotIn n p l) = slotin_guards core n p l
guards core (SlotOut n p l) = slotout_guards core n p l
guards core (Recovered n) = recovered_guards core n
guards core (LockDevice n) = lockdev_guards core n

-- the first guard of the event that fails
abbrev pub refusal : Core → Event → Option Refusal
refusal core e = first_of (guards core e)
