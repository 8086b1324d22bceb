-- The rank along a whole round of three nodes.
use Rattle.std.proofs.Common.{◌≡◌, [], ◌∷◌, None, refl}
use Rattle.dlm_modes.specs.First.{first_such}
use Rattle.dlm_modes.specs.declared.block.Block.{Block}
use Rattle.msg_rounds.specs.Locks.{token_res}
use Rattle.laws_rounds.specs.Machine.{AskToken, Grant, Done, rounds_after}
use Rattle.laws_rounds.specs.Going.{rank, rank_below, live_below}
use Rattle.laws_rounds.specs.News.{AllTold, told_rank, told_rank_below}
use Rattle.laws_rounds.proofs.Examples.{three, sent, processed, finished, over}

-- a published sender and two that it calls; two that wait; two that wait when it has finished; nothing
ranks : (block : Block) → (rank (rounds_after three (sent block)) ≡ 11) × (rank (rounds_after three (processed block)) ≡ 7) × (rank (rounds_after three (finished block)) ≡ 4) × (rank (rounds_after three (over block)) ≡ 0)
unfolding first_such rank_below
ranks block = (refl, refl, refl, refl)

live : (block : Block) → live_below (rounds_after three (over block)) 16 ≡ 3
unfolding live_below
live block = refl

-- the same by the phases alone: two for the published sender
told_ranks : (block : Block) → (told_rank (rounds_after three (sent block)) ≡ 10) × (told_rank (rounds_after three (processed block)) ≡ 6) × (told_rank (rounds_after three (finished block)) ≡ 4) × (told_rank (rounds_after three (over block)) ≡ 0)
unfolding first_such told_rank_below
told_ranks block = (refl, refl, refl, refl)

-- a node that is granted `token` and isn't told of it
untold : AllTold (rounds_after three (record { event = Grant token_res; answer = Done } ∷ record { event = AskToken 0; answer = Done } ∷ [])) → ⊥
untold t = waits (t.token 0 refl)
  where
    waits : ((rounds_after three (record { event = Grant token_res; answer = Done } ∷ record { event = AskToken 0; answer = Done } ∷ [])).locks token_res).held 0 ≡ None → ⊥
    waits e = cc
