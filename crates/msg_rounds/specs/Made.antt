-- The calls on the lock space that each call of a round makes, the newest first.
use Rattle.std.specs.Prelude.{◌≡◌, ℕ, ◌<◌, if◌then◌else◌, List, [], ◌∷◌, Some, None}
use Rattle.dlm_modes.specs.declared.block.Block.{Block}
use Rattle.dlm_modes.specs.declared.mode.Mode.TheVariants.{CR, CW, PR, EX}
use Rattle.dlm_space.specs.Locks.{Lock, valid_block}
use Rattle.dlm_space.specs.Calls.{Call, Asks, AsksNow, Converts, Releases, Leads}
use Rattle.dlm_space.specs.declared.answers.Converted.TheVariants.{Now, Queued}
use Rattle.msg_rounds.specs.Holds.{SenderHolds, ReceiverHolds, NodeHolds, MayTake, MayResume}
use Rattle.msg_rounds.specs.Locks.{token_res, message_res, ack_res, token_asked, message_asked, published, finished, quitted, message_taken, message_processed, resumed, message_dropped}
use Rattle.msg_rounds.specs.Phases.{Receiving, has_message}
use Rattle.msg_rounds.specs.Refusals.{ask_token_refusal, ask_message_refusal, publish_refusal, finish_refusal, quit_refusal, processed_refusal, resume_refusal, drop_refusal}
use Rattle.msg_rounds.specs.declared.phases.SenderPhase.{SenderPhase}

abbrev pub token_ask : ℕ → List Call
token_ask n = Asks n token_res EX ∷ []

abbrev pub message_ask : ℕ → List Call
message_ask n = Asks n message_res EX ∷ []

abbrev pub publishing : ℕ → Block → List Call
publishing n block = Converts n ack_res EX None Queued ∷ Converts n message_res CW (Some block) Now ∷ []

abbrev pub finishing : ℕ → List Call
finishing n = Releases n token_res None ∷ Releases n message_res None ∷ Converts n ack_res CR None Now ∷ []

-- `message` is let go first, where it is held
abbrev pub quitting : ℕ → SenderPhase → List Call
quitting n s = Releases n token_res None ∷ (if has_message s then Releases n message_res None ∷ [] else [])

-- the block that is read is valid
abbrev pub taking : (ℕ → Lock) → ℕ → List Call
taking locks n = AsksNow n message_res CR (Some (locks message_res).block) ∷ []

abbrev pub processing : ℕ → List Call
processing n = Converts n message_res PR None Queued ∷ Releases n ack_res None ∷ []

-- the block of `ack`, which says nothing, is read too
abbrev pub resuming : (ℕ → Lock) → ℕ → List Call
resuming locks n = Releases n message_res None ∷ AsksNow n ack_res CR (valid_block (locks ack_res)) ∷ []

abbrev pub dropping : ℕ → List Call
dropping n = Releases n message_res None ∷ []

-- a call of a round, by a node with these phases, makes accepted calls, which lead to what it does
pub record AreMade (locks : ℕ → Lock) (n : ℕ) (s : SenderPhase) (r : Receiving) : Type 0 where
  pub ask_token : SenderHolds locks n s → ask_token_refusal s r.phase ≡ None → Leads locks (token_ask n) (token_asked locks n)
  pub ask_message : NodeHolds locks n s r.phase → ask_message_refusal s r.phase ≡ None → Leads locks (message_ask n) (message_asked locks n)
  pub publish : (block : Block) → SenderHolds locks n s → publish_refusal s ≡ None → Leads locks (publishing n block) (published locks n block)
  pub finish : SenderHolds locks n s → finish_refusal s ≡ None → Leads locks (finishing n) (finished locks n)
  pub quit : SenderHolds locks n s → quit_refusal s ≡ None → Leads locks (quitting n s) (quitted locks n s)
  pub take : MayTake locks n → Leads locks (taking locks n) (message_taken locks n)
  pub processed : ReceiverHolds locks n r.phase → processed_refusal r ≡ None → Leads locks (processing n) (message_processed locks n)
  pub resume : ReceiverHolds locks n r.phase → MayResume locks n → resume_refusal locks n r ≡ None → Leads locks (resuming locks n) (resumed locks n)
  pub drop_message : ReceiverHolds locks n r.phase → drop_refusal r ≡ None → Leads locks (dropping n) (message_dropped locks n)

abbrev pub RoundsMakeCalls : Type 0
RoundsMakeCalls = (locks : ℕ → Lock) (n : ℕ) (s : SenderPhase) (r : Receiving) → n < 16 → AreMade locks n s r
