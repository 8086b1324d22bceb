-- In the example, the locks meet what its calls ask.
use Rattle.std.proofs.Common.{◌≡◌, ℕ, None, refl, ap, ◌∙◌, arith}
use Rattle.std.proofs.lemmas.Bool.Decides.{nat_tests}
use Rattle.dlm_modes.specs.declared.block.Block.{Block}
use Rattle.dlm_space.specs.Locks.{Lock, new_locks, all_died, caller}
use Rattle.msg_rounds.specs.Example.{come_in, grant, three_nodes, with_token, with_message, first_published}
use Rattle.msg_rounds.specs.Holds.{SenderHolds, ReceiverHolds, NodeHolds, MayTake, MayResume}
use Rattle.msg_rounds.specs.Locks.{token_res, message_res, ack_res, token_asked, message_asked, published, message_taken, message_processed, finished, resumed, message_dropped}
use Rattle.msg_rounds.specs.Phases.{Receiving, new_receiving}
use Rattle.msg_rounds.specs.Refusals.{take_refusal}
use Rattle.msg_rounds.specs.declared.phases.SenderPhase.{SenderPhase}
use Rattle.msg_rounds.specs.declared.phases.SenderPhase.TheVariants as senders
use Rattle.msg_rounds.specs.declared.phases.ReceiverPhase.{ReceiverPhase}
use Rattle.msg_rounds.specs.declared.phases.ReceiverPhase.TheVariants as receivers

-- what is known of locks and phases that are equal to known ones

pub sender_at : (locks known : ℕ → Lock) (n : ℕ) (s t : SenderPhase) → locks ≡ known → s ≡ t → SenderHolds known n t → SenderHolds locks n s
sender_at locks known n s t e f h = rw (e, f) h

pub receiver_at : (locks known : ℕ → Lock) (n : ℕ) (r t : ReceiverPhase) → locks ≡ known → r ≡ t → ReceiverHolds known n t → ReceiverHolds locks n r
receiver_at locks known n r t e f h = rw (e, f) h

pub node_at : (locks known : ℕ → Lock) (n : ℕ) (s t : SenderPhase) (r u : ReceiverPhase) → locks ≡ known → s ≡ t → r ≡ u → NodeHolds known n t u → NodeHolds locks n s r
node_at locks known n s t r u e f g h = rw (e, f, g) h

pub may_take_at : (locks known : ℕ → Lock) (n : ℕ) → locks ≡ known → MayTake known n → MayTake locks n
may_take_at locks known n e h = rw e h

pub may_resume_at : (locks known : ℕ → Lock) (n : ℕ) → locks ≡ known → MayResume known n → MayResume locks n
may_resume_at locks known n e h = rw e h

-- up to the publish

not_called : (locks : ℕ → Lock) (n : ℕ) → caller (locks ack_res) n ≡ None → take_refusal locks n new_receiving ≡ None → MayTake locks n
not_called locks n e f = grind arith

nobody_calls : caller (three_nodes ack_res) 0 ≡ None
unfolding three_nodes
nobody_calls = refl

pub no_take : (locks : ℕ → Lock) (r : Receiving) → locks ≡ three_nodes → r ≡ new_receiving → take_refusal locks 0 r ≡ None → MayTake locks 0
no_take locks r e f g = rw e (not_called three_nodes 0 nobody_calls (rw (e, f) at g))

pub may_ask_token : SenderHolds three_nodes 0 senders.Idle
unfolding three_nodes
may_ask_token = grind arith

pub may_ask_message : NodeHolds with_token 0 senders.TokenHeld receivers.Idle
unfolding three_nodes with_token
may_ask_message = grind arith

pub may_publish : SenderHolds with_message 0 senders.Offered
unfolding three_nodes with_token with_message
may_publish = grind arith

-- a round that is finished

unfoldable pub taken_by_1 : Block → ℕ → Lock
taken_by_1 block = message_taken (first_published block) 1

unfoldable pub taken_by_2 : Block → ℕ → Lock
taken_by_2 block = message_taken (taken_by_1 block) 2

unfoldable pub processed_by_1 : Block → ℕ → Lock
processed_by_1 block = message_processed (taken_by_2 block) 1

unfoldable pub acknowledged : Block → ℕ → Lock
acknowledged block = grant (message_processed (processed_by_1 block) 2) ack_res

unfoldable pub told : Block → ℕ → Lock
told block = grant (grant (finished (acknowledged block) 0) message_res) message_res

unfoldable pub died_after : Block → ℕ → Lock
died_after block = all_died (resumed (told block) 1) 0

pub may_take_1 : (block : Block) → MayTake (first_published block) 1
unfolding three_nodes with_token with_message first_published
may_take_1 block = grind (arith, nat_tests)

pub may_take_2 : (block : Block) → MayTake (taken_by_1 block) 2
unfolding three_nodes with_token with_message first_published taken_by_1
may_take_2 block = grind (arith, nat_tests)

pub may_process_1 : (block : Block) → ReceiverHolds (taken_by_2 block) 1 receivers.Taken
unfolding three_nodes with_token with_message first_published taken_by_1 taken_by_2
may_process_1 block = grind arith

pub may_process_2 : (block : Block) → ReceiverHolds (processed_by_1 block) 2 receivers.Taken
unfolding three_nodes with_token with_message first_published taken_by_1 taken_by_2 processed_by_1
may_process_2 block = grind arith

pub may_finish : (block : Block) → SenderHolds (acknowledged block) 0 senders.Granted
unfolding three_nodes with_token with_message first_published taken_by_1 taken_by_2 processed_by_1 acknowledged
may_finish block = grind arith

pub ready_1 : (block : Block) → ReceiverHolds (told block) 1 receivers.Ready
unfolding three_nodes with_token with_message first_published taken_by_1 taken_by_2 processed_by_1 acknowledged told
ready_1 block = grind arith

pub may_resume_1 : (block : Block) → MayResume (told block) 1
unfolding three_nodes with_token with_message first_published taken_by_1 taken_by_2 processed_by_1 acknowledged told
may_resume_1 block = grind (arith, nat_tests)

pub waiting_2 : (block : Block) → ReceiverHolds (died_after block) 2 receivers.Waiting
unfolding three_nodes with_token with_message first_published taken_by_1 taken_by_2 processed_by_1 acknowledged told died_after
waiting_2 block = grind arith

pub may_resume_2 : (block : Block) → MayResume (died_after block) 2
unfolding three_nodes with_token with_message first_published taken_by_1 taken_by_2 processed_by_1 acknowledged told died_after
may_resume_2 block = grind (arith, nat_tests)

-- a round whose sender dies

unfoldable pub died_before : Block → ℕ → Lock
died_before block = all_died (processed_by_1 block) 0

unfoldable pub dropped : Block → ℕ → Lock
dropped block = grant (message_dropped (died_before block) 2) message_res

pub idle_1 : (block : Block) → SenderHolds (taken_by_2 block) 1 senders.Idle
unfolding three_nodes with_token with_message first_published taken_by_1 taken_by_2
idle_1 block = grind arith

pub may_drop_2 : (block : Block) → ReceiverHolds (died_before block) 2 receivers.Taken
unfolding three_nodes with_token with_message first_published taken_by_1 taken_by_2 processed_by_1 died_before
may_drop_2 block = grind arith

pub waiting_1 : (block : Block) → ReceiverHolds (dropped block) 1 receivers.Waiting
unfolding three_nodes with_token with_message first_published taken_by_1 taken_by_2 processed_by_1 died_before dropped
waiting_1 block = grind arith

pub broken_may_resume : (block : Block) → MayResume (dropped block) 1
unfolding three_nodes with_token with_message first_published taken_by_1 taken_by_2 processed_by_1 died_before dropped
broken_may_resume block = grind (arith, nat_tests)

-- from one known state to the next

abbrev Locks : Type 0
Locks = ℕ → Lock

pub all_up : (l0 l1 l2 l3 : Locks) → l0 ≡ new_locks → l1 ≡ come_in l0 0 → l2 ≡ come_in l1 1 → l3 ≡ come_in l2 2 → l3 ≡ three_nodes
unfolding three_nodes
all_up l0 l1 l2 l3 a b c d = d ∙ ap (λ (l : Locks). come_in l 2) (c ∙ ap (λ (l : Locks). come_in l 1) (b ∙ ap (λ (l : Locks). come_in l 0) a))

pub token_given : (l0 l1 l2 : Locks) → l0 ≡ three_nodes → l1 ≡ token_asked l0 0 → l2 ≡ grant l1 token_res → l2 ≡ with_token
unfolding with_token
token_given l0 l1 l2 a b c = c ∙ ap (λ (l : Locks). grant l token_res) (b ∙ ap (λ (l : Locks). token_asked l 0) a)

pub message_given : (l0 l1 l2 : Locks) → l0 ≡ with_token → l1 ≡ message_asked l0 0 → l2 ≡ grant l1 message_res → l2 ≡ with_message
unfolding with_message
message_given l0 l1 l2 a b c = c ∙ ap (λ (l : Locks). grant l message_res) (b ∙ ap (λ (l : Locks). message_asked l 0) a)

pub first_publishes : (block : Block) (l0 l1 : Locks) → l0 ≡ with_message → l1 ≡ published l0 0 block → l1 ≡ first_published block
unfolding first_published
first_publishes block l0 l1 a b = b ∙ ap (λ (l : Locks). published l 0 block) a

pub takes_1 : (block : Block) (l0 l1 : Locks) → l0 ≡ first_published block → l1 ≡ message_taken l0 1 → l1 ≡ taken_by_1 block
unfolding taken_by_1
takes_1 block l0 l1 a b = b ∙ ap (λ (l : Locks). message_taken l 1) a

pub takes_2 : (block : Block) (l0 l1 : Locks) → l0 ≡ taken_by_1 block → l1 ≡ message_taken l0 2 → l1 ≡ taken_by_2 block
unfolding taken_by_2
takes_2 block l0 l1 a b = b ∙ ap (λ (l : Locks). message_taken l 2) a

pub processes_1 : (block : Block) (l0 l1 : Locks) → l0 ≡ taken_by_2 block → l1 ≡ message_processed l0 1 → l1 ≡ processed_by_1 block
unfolding processed_by_1
processes_1 block l0 l1 a b = b ∙ ap (λ (l : Locks). message_processed l 1) a

pub acknowledges : (block : Block) (l0 l1 l2 : Locks) → l0 ≡ processed_by_1 block → l1 ≡ message_processed l0 2 → l2 ≡ grant l1 ack_res → l2 ≡ acknowledged block
unfolding acknowledged
acknowledges block l0 l1 l2 a b c = c ∙ ap (λ (l : Locks). grant l ack_res) (b ∙ ap (λ (l : Locks). message_processed l 2) a)

pub tells : (block : Block) (l0 l1 l2 l3 : Locks) → l0 ≡ acknowledged block → l1 ≡ finished l0 0 → l2 ≡ grant l1 message_res → l3 ≡ grant l2 message_res → l3 ≡ told block
unfolding told
tells block l0 l1 l2 l3 a b c d = d ∙ ap (λ (l : Locks). grant l message_res) (c ∙ ap (λ (l : Locks). grant l message_res) (b ∙ ap (λ (l : Locks). finished l 0) a))

pub dies_after : (block : Block) (l0 l1 l2 : Locks) → l0 ≡ told block → l1 ≡ resumed l0 1 → l2 ≡ all_died l1 0 → l2 ≡ died_after block
unfolding died_after
dies_after block l0 l1 l2 a b c = c ∙ ap (λ (l : Locks). all_died l 0) (b ∙ ap (λ (l : Locks). resumed l 1) a)

pub dies_before : (block : Block) (l0 l1 : Locks) → l0 ≡ processed_by_1 block → l1 ≡ all_died l0 0 → l1 ≡ died_before block
unfolding died_before
dies_before block l0 l1 a b = b ∙ ap (λ (l : Locks). all_died l 0) a

pub drops_2 : (block : Block) (l0 l1 l2 : Locks) → l0 ≡ died_before block → l1 ≡ message_dropped l0 2 → l2 ≡ grant l1 message_res → l2 ≡ dropped block
unfolding dropped
drops_2 block l0 l1 l2 a b c = c ∙ ap (λ (l : Locks). grant l message_res) (b ∙ ap (λ (l : Locks). message_dropped l 2) a)
