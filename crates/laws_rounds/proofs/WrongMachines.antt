-- What would be wrong of a machine with another condition or effect: three of them, in which a claim is false.
use Rattle.std.proofs.Common.{◌≡◌, ℕ, not, ◌==◌, ◌&&◌, ◌||◌, List, ◌∷◌, Some, None, refl}
use Rattle.dlm_modes.specs.First.{first_such}
use Rattle.dlm_modes.specs.declared.block.Block.{Block}
use Rattle.msg_rounds.specs.Locks.{token_res}
use Rattle.msg_rounds.specs.Phases.{is_idle}
use Rattle.msg_rounds.specs.declared.phases.Verdict.TheVariants.{Whole, Broken}
use Rattle.laws_rounds.specs.Machine.{Rounds, Join, ComeIn, Resume, Die, Done, Entry, after, answer_to, Ended, rounds_after}
use Rattle.laws_rounds.specs.Traces.{fate_in}
use Rattle.laws_rounds.specs.Sound.{StateHolds, verdict_of}
use Rattle.laws_rounds.proofs.Examples.{three, sent, processed, finished}

abbrev died : List Entry → List Entry
died past = record { event = Die 0; answer = Done } ∷ past

-- a death that marks no receiver: who has processed the message resumes as if the round were whole
abbrev unmarked : Rounds → ℕ → Rounds
unmarked w n = record (after w (Die n)) { gone = w.gone }

no_mark : (block : Block) → (answer_to (unmarked (rounds_after three (processed block)) 0) (Resume 1) ≡ Ended Whole) × (verdict_of (fate_in (died (processed block))) ≡ Broken)
no_mark block = (refl, refl)

-- a death that marks the receivers of a finished message too: they resume as if it were broken
abbrev marked : Rounds → ℕ → Rounds
marked w n = record (after w (Die n)) { gone = λ m. w.gone m || (not (is_idle (w.receiver m)) && (w.from m == n)) }

late_mark : (block : Block) → (answer_to (marked (rounds_after three (finished block)) 0) (Resume 1) ≡ Ended Broken) × (verdict_of (fate_in (died (finished block))) ≡ Whole)
late_mark block = (refl, refl)

-- coming in without `token`: while a message is published a node is loaded, which doesn't hold it
abbrev without_token : Block → Rounds
without_token block = after (after (rounds_after three (sent block)) (Join 3)) (ComeIn 3)

no_token : (block : Block) → ((without_token block).locks token_res).held 3 ≡ None
unfolding first_such
no_token block = refl

early : (block : Block) → StateHolds (without_token block) 3 → ⊥
early block h = none ((h.loaded refl).0)
  where
    none : ((without_token block).locks token_res).held 3 ≡ Some Rattle.dlm_modes.specs.declared.mode.Mode.TheVariants.EX → ⊥
    none e = cc
