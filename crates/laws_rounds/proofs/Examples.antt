-- A whole round of three nodes, and what each claim refuses.
use Rattle.std.proofs.Common.{◌≡◌, ◌≢◌, ℕ, Bool, true, false, List, [], ◌∷◌, Some, inl, inr, refl, arith}
use Rattle.std.specs.Prelude.{nat_lt}
use Rattle.dlm_modes.specs.First.{first_such}
use Rattle.dlm_modes.specs.declared.block.Block.{Block}
use Rattle.msg_rounds.specs.Locks.{token_res, message_res, ack_res}
use Rattle.msg_rounds.specs.declared.phases.Verdict.TheVariants.{Whole, Broken}
use Rattle.laws_rounds.specs.Machine.{Event, AskToken, TokenGranted, AskMessage, MessageGranted, Offer, Publish, AckGranted, Finish, Take, Processed, PrGranted, Resume, Grant, Die, Answer, Done, Message, Ended, Entry, AreAccepted}
use Rattle.laws_rounds.specs.Traces.{Open, Finished, SenderDied, Taking, Processing, fate_in, said_in, published_in, taken_in, deeds_in, up_in, addressed_in}
use Rattle.laws_rounds.specs.Sound.{Falls, AreRight}
use Rattle.laws_rounds.proofs.RunsSound.{rounds_are_sound}

abbrev pub three : ℕ → Bool
three n = nat_lt n 3

abbrev did : Event → Entry
did e = record { event = e; answer = Done }

abbrev took : ℕ → Answer → Entry
took n answer = record { event = Take n; answer = answer }

abbrev resumed : ℕ → Answer → Entry
resumed n answer = record { event = Resume n; answer = answer }

-- node 0 sends, the newest event first

abbrev offered : List Entry
offered = did (Offer 0) ∷ did (MessageGranted 0) ∷ did (Grant message_res) ∷ did (AskMessage 0) ∷ did (TokenGranted 0) ∷ did (Grant token_res) ∷ did (AskToken 0) ∷ []

abbrev pub sent : Block → List Entry
sent block = did (Publish 0 block) ∷ offered

abbrev pub processed : Block → List Entry
processed block = did (Processed 2) ∷ took 2 (Message 0 block) ∷ did (Processed 1) ∷ took 1 (Message 0 block) ∷ sent block

abbrev pub finished : Block → List Entry
finished block = did (Finish 0) ∷ did (AckGranted 0) ∷ did (Grant ack_res) ∷ processed block

abbrev pub over : Block → List Entry
over block = resumed 2 (Ended Whole) ∷ resumed 1 (Ended Whole) ∷ did (PrGranted 1) ∷ did (Grant message_res) ∷ did (Grant message_res) ∷ finished block

-- Each event may happen in its turn.

offered_accepted : AreAccepted three offered
unfolding first_such
offered_accepted = (((((((tt, record { may = (refl, refl); answers = refl }), record { may = (inl refl, refl); answers = refl }), record { may = refl; answers = refl }), record { may = (refl, refl); answers = refl }), record { may = (inr (inl refl), refl); answers = refl }), record { may = refl; answers = refl }), record { may = refl; answers = refl })

sent_accepted : (block : Block) → AreAccepted three (sent block)
sent_accepted block = (offered_accepted, record { may = refl; answers = refl })

processed_accepted : (block : Block) → AreAccepted three (processed block)
processed_accepted block = ((((sent_accepted block, record { may = (refl, refl); answers = refl }), record { may = refl; answers = refl }), record { may = (refl, refl); answers = refl }), record { may = refl; answers = refl })

finished_accepted : (block : Block) → AreAccepted three (finished block)
unfolding first_such
finished_accepted block = (((processed_accepted block, record { may = (inr (inr refl), refl); answers = refl }), record { may = refl; answers = refl }), record { may = refl; answers = refl })

over_accepted : (block : Block) → AreAccepted three (over block)
unfolding first_such
over_accepted block = (((((finished_accepted block, record { may = (inr (inl refl), refl); answers = refl }), record { may = (inr (inl refl), refl); answers = refl }), record { may = refl; answers = refl }), record { may = refl; answers = refl }), record { may = refl; answers = refl })

-- what the entries tell while the round is open, and when it is over
told : (block : Block) → (fate_in (processed block) ≡ Open 0) × (said_in (processed block) ≡ Some (record { sender = 0; block = block })) × (published_in (processed block) ≡ 1) × (fate_in (over block) ≡ Finished) × (fate_in offered ≢ Finished)
told block = (refl, refl, refl, refl, λ e. cc)

addressed : (block : Block) → (addressed_in three (sent block) 0 ≡ false) × (addressed_in three (sent block) 1 ≡ true) × (addressed_in three (sent block) 2 ≡ true) × (addressed_in three (sent block) 3 ≡ false)
addressed block = (refl, refl, refl, refl)

deeds : (block : Block) → (deeds_in (over block) 0 ≡ []) × (deeds_in (over block) 1 ≡ Processing ∷ Taking ∷ []) × (deeds_in (over block) 2 ≡ Processing ∷ Taking ∷ []) × (taken_in (over block) 0 ≡ []) × (taken_in (over block) 1 ≡ 1 ∷ [])
deeds block = (refl, refl, refl, refl, refl)

-- a second message is another number, and nothing is done with it yet
second : (block : Block) → (deeds_in (did (Publish 1 block) ∷ over block) 2 ≡ []) × (taken_in (took 2 (Message 1 block) ∷ did (Publish 1 block) ∷ over block) 2 ≡ 2 ∷ 1 ∷ [])
second block = (refl, refl)

-- the sender dies before its finish
died : (block : Block) → (fate_in (did (Die 0) ∷ processed block) ≡ SenderDied) × (fate_in (did (Die 0) ∷ over block) ≡ Finished) × (up_in three (did (Die 0) ∷ processed block) 0 ≡ false)
died block = (refl, refl, refl)

-- each answer is right as it stands
right : (block : Block) → AreRight three (over block)
right block = (rounds_are_sound three (over block) (over_accepted block)).right

-- who takes isn't told of another sender
wrong_sender : (block : Block) → AreRight three (took 1 (Message 2 block) ∷ sent block) → ⊥
wrong_sender block r = let e = r.1 in grind arith

-- nor is anything taken before a publish
nothing_said : (block : Block) → AreRight three (took 1 (Message 0 block) ∷ offered) → ⊥
nothing_said block r = let e = r.1 in cc

-- nobody finishes while a node that was addressed has only taken its message
unprocessed : (block : Block) → AreRight three (did (Finish 0) ∷ took 2 (Message 0 block) ∷ did (Processed 1) ∷ took 1 (Message 0 block) ∷ sent block) → ⊥
unprocessed block r = let e = r.1.1 2 refl refl in cc

-- nor does another node
wrong_finish : (block : Block) → AreRight three (did (Finish 1) ∷ processed block) → ⊥
wrong_finish block r = let e = r.1.0 in grind arith

-- no message is taken twice
twice : (block : Block) → Falls (taken_in (took 1 (Message 0 block) ∷ processed block) 1) → ⊥
twice block f = let e = f.0 in grind arith

-- who resumes isn't told broken where the sender finished, nor whole where it died, and has taken the message
not_broken : (block : Block) → AreRight three (resumed 1 (Ended Broken) ∷ finished block) → ⊥
not_broken block r = let e = r.1.0 in cc

not_whole : (block : Block) → AreRight three (resumed 1 (Ended Whole) ∷ did (Die 0) ∷ processed block) → ⊥
not_whole block r = let e = r.1.0 in cc

not_taken : (block : Block) → AreRight three (resumed 1 (Ended Whole) ∷ did (Publish 2 block) ∷ finished block) → ⊥
not_taken block r = let e = r.1.1 in grind arith
