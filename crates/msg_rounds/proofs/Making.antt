-- Each call of a round makes accepted calls on the lock space.
use Rattle.std.proofs.Common.{◌≡◌, ◌<◌, ℕ, [], ◌∷◌, true, false, Option, Some, None, refl, arith, if◌then◌else◌}
use Rattle.dlm_modes.specs.Modes.{weaker}
use Rattle.dlm_modes.specs.Points.{with_at}
use Rattle.dlm_modes.specs.declared.block.Block.{Block}
use Rattle.dlm_modes.specs.declared.mode.Mode.{Mode}
use Rattle.dlm_modes.specs.declared.mode.Mode.TheVariants.{CR, CW, PR, EX}
use Rattle.dlm_space.specs.Locks.{Lock, mode_of, ask_refusal, convert_refusal, release_refusal, holding, with_value, let_go, valid_block, converted_value}
use Rattle.dlm_space.specs.Calls.{Releases, Leads}
use Rattle.dlm_space.proofs.Leading.{leads_on, ask_leads, ask_now_leads, lower_leads, raise_leads, release_leads}
use Rattle.msg_rounds.specs.Holds.{SenderHolds, ReceiverHolds, NodeHolds, MayResume}
use Rattle.msg_rounds.specs.Locks.{token_res, message_res, ack_res, published, finished, quitted, message_processed, resumed}
use Rattle.msg_rounds.specs.Made.{publishing, finishing, quitting, processing, resuming, AreMade}
use Rattle.msg_rounds.specs.Phases.{Receiving, has_message}
use Rattle.msg_rounds.specs.Refusals.{ask_token_refusal, ask_message_refusal, publish_refusal, finish_refusal, quit_refusal, processed_refusal, may_resume, resume_refusal, drop_refusal}
use Rattle.msg_rounds.specs.declared.phases.SenderPhase.{SenderPhase}
use Rattle.msg_rounds.specs.declared.phases.ReceiverPhase.{ReceiverPhase}
use Rattle.msg_rounds.proofs.Lawful.{take_message, resume_ack}

-- what is lowered is held in EX: any value that is given is written
record Lowers (lock : Lock) (n : ℕ) (mode : Mode) (value : Option Block) : Type 0 where
  may : convert_refusal lock n ≡ None
  lower : weaker (mode_of lock n) mode ≡ true
  written : converted_value (mode_of lock n) mode value ≡ value

-- what is raised waits
record Raises (lock : Lock) (n : ℕ) (mode : Mode) : Type 0 where
  may : convert_refusal lock n ≡ None
  stronger : weaker (mode_of lock n) mode ≡ false

-- Of a sender.

token_free : (locks : ℕ → Lock) (n : ℕ) (s : SenderPhase) (r : ReceiverPhase) → SenderHolds locks n s → ask_token_refusal s r ≡ None → ask_refusal (locks token_res) n ≡ None
token_free locks n s r h e = grind arith

message_free : (locks : ℕ → Lock) (n : ℕ) (s : SenderPhase) (r : ReceiverPhase) → NodeHolds locks n s r → ask_message_refusal s r ≡ None → ask_refusal (locks message_res) n ≡ None
message_free locks n s r h e = grind arith

publish_lowers : (locks : ℕ → Lock) (n : ℕ) (s : SenderPhase) (block : Block) → SenderHolds locks n s → publish_refusal s ≡ None → Lowers (locks message_res) n CW (Some block)
publish_lowers locks n s block h e = grind arith

publish_raises : (locks : ℕ → Lock) (n : ℕ) (s : SenderPhase) → SenderHolds locks n s → publish_refusal s ≡ None → Raises (locks ack_res) n EX
publish_raises locks n s h e = grind arith

finish_lowers : (locks : ℕ → Lock) (n : ℕ) (s : SenderPhase) → SenderHolds locks n s → finish_refusal s ≡ None → Lowers (locks ack_res) n CR None
finish_lowers locks n s h e = grind arith

finish_message : (locks : ℕ → Lock) (n : ℕ) (s : SenderPhase) → SenderHolds locks n s → finish_refusal s ≡ None → release_refusal (locks message_res) n ≡ None
finish_message locks n s h e = grind arith

finish_token : (locks : ℕ → Lock) (n : ℕ) (s : SenderPhase) → SenderHolds locks n s → finish_refusal s ≡ None → release_refusal (locks token_res) n ≡ None
finish_token locks n s h e = grind arith

quit_message : (locks : ℕ → Lock) (n : ℕ) (s : SenderPhase) → SenderHolds locks n s → has_message s ≡ true → release_refusal (locks message_res) n ≡ None
quit_message locks n s h e = grind arith

quit_token : (locks : ℕ → Lock) (n : ℕ) (s : SenderPhase) → SenderHolds locks n s → quit_refusal s ≡ None → release_refusal (locks token_res) n ≡ None
quit_token locks n s h e = grind arith

publish_leads : (locks : ℕ → Lock) (n : ℕ) (s : SenderPhase) (block : Block) → n < 16 → SenderHolds locks n s → publish_refusal s ≡ None → Leads locks (publishing n block) (published locks n block)
publish_leads locks n s block lt h e =
    let l = publish_lowers locks n s block h e in
    let r = publish_raises locks n s h e in
    let now = with_at locks message_res (holding (with_value (locks message_res) (Some block)) n CW) in
    leads_on locks now (published locks n block) _ _ (lower_leads locks n message_res CW (Some block) lt l.may l.lower l.written) (raise_leads now n ack_res EX None lt r.may r.stronger)

finish_leads : (locks : ℕ → Lock) (n : ℕ) (s : SenderPhase) → n < 16 → SenderHolds locks n s → finish_refusal s ≡ None → Leads locks (finishing n) (finished locks n)
finish_leads locks n s lt h e =
    let l = finish_lowers locks n s h e in
    let low = with_at locks ack_res (holding (locks ack_res) n CR) in
    let left = with_at low message_res (let_go (locks message_res) n) in
    leads_on locks left (finished locks n) _ _ (leads_on locks low left _ _ (lower_leads locks n ack_res CR None lt l.may l.lower l.written) (release_leads low n message_res lt (finish_message locks n s h e))) (release_leads left n token_res lt (finish_token locks n s h e))

quit_leads : (locks : ℕ → Lock) (n : ℕ) (s : SenderPhase) → n < 16 → SenderHolds locks n s → quit_refusal s ≡ None → Leads locks (quitting n s) (quitted locks n s)
quit_leads locks n s lt h e =
    let token = quit_token locks n s h e in
    let left = with_at locks message_res (let_go (locks message_res) n) in
    elim (has_message s) as (λ b. has_message s ≡ b → Leads locks (Releases n token_res None ∷ (if b then Releases n message_res None ∷ [] else [])) (with_at (if b then left else locks) token_res (let_go (locks token_res) n))) [
      | true ↦ λ has. leads_on locks left (with_at left token_res (let_go (locks token_res) n)) _ _ (release_leads locks n message_res lt (quit_message locks n s h has)) (release_leads left n token_res lt token)
      | false ↦ λ has. release_leads locks n token_res lt token
    ] refl

-- Of a receiver.

take_valid : (lock : Lock) → lock.valid ≡ true → Some lock.block ≡ valid_block lock
take_valid lock e = rw e refl

processed_ack : (locks : ℕ → Lock) (n : ℕ) (r : Receiving) → ReceiverHolds locks n r.phase → processed_refusal r ≡ None → release_refusal (locks ack_res) n ≡ None
processed_ack locks n r h e = grind arith

processed_raises : (locks : ℕ → Lock) (n : ℕ) (r : Receiving) → ReceiverHolds locks n r.phase → processed_refusal r ≡ None → Raises (locks message_res) n PR
processed_raises locks n r h e = grind arith

resume_may : (locks : ℕ → Lock) (n : ℕ) (r : Receiving) → resume_refusal locks n r ≡ None → may_resume r.phase ≡ true
resume_may locks n r e = grind arith

resume_message : (locks : ℕ → Lock) (n : ℕ) (r : Receiving) → resume_refusal locks n r ≡ None → release_refusal (locks message_res) n ≡ None
resume_message locks n r e = grind arith

drop_message : (locks : ℕ → Lock) (n : ℕ) (r : Receiving) → ReceiverHolds locks n r.phase → drop_refusal r ≡ None → release_refusal (locks message_res) n ≡ None
drop_message locks n r h e = grind arith

processed_leads : (locks : ℕ → Lock) (n : ℕ) (r : Receiving) → n < 16 → ReceiverHolds locks n r.phase → processed_refusal r ≡ None → Leads locks (processing n) (message_processed locks n)
processed_leads locks n r lt h e =
    let u = processed_raises locks n r h e in
    let left = with_at locks ack_res (let_go (locks ack_res) n) in
    leads_on locks left (message_processed locks n) _ _ (release_leads locks n ack_res lt (processed_ack locks n r h e)) (raise_leads left n message_res PR None lt u.may u.stronger)

resume_leads : (locks : ℕ → Lock) (n : ℕ) (r : Receiving) → n < 16 → ReceiverHolds locks n r.phase → MayResume locks n → resume_refusal locks n r ≡ None → Leads locks (resuming locks n) (resumed locks n)
resume_leads locks n r lt h m e =
    let now = with_at locks ack_res (holding (locks ack_res) n CR) in
    leads_on locks now (resumed locks n) _ _ (ask_now_leads locks n ack_res CR (valid_block (locks ack_res)) lt (resume_ack locks n r.phase (resume_may locks n r e) h m) refl) (release_leads now n message_res lt (resume_message locks n r e))

pub rounds_make_calls : (locks : ℕ → Lock) (n : ℕ) (s : SenderPhase) (r : Receiving) → n < 16 → AreMade locks n s r
rounds_make_calls locks n s r lt = record {
  ask_token = λ h e. ask_leads locks n token_res EX lt (token_free locks n s r.phase h e);
  ask_message = λ h e. ask_leads locks n message_res EX lt (message_free locks n s r.phase h e);
  publish = λ block h e. publish_leads locks n s block lt h e;
  finish = λ h e. finish_leads locks n s lt h e;
  quit = λ h e. quit_leads locks n s lt h e;
  take = λ may. ask_now_leads locks n message_res CR (Some (locks message_res).block) lt (take_message locks n may) (take_valid (locks message_res) may.valid);
  processed = λ h e. processed_leads locks n r lt h e;
  resume = λ h may e. resume_leads locks n r lt h may e;
  drop_message = λ h e. release_leads locks n message_res lt (drop_message locks n r h e);
}
