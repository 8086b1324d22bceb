-- The history of some short traces. Entries stand newest first.
use Rattle.std.proofs.Common.{◌≡◌, ℕ, List, [], ◌∷◌, Some, None, refl}
use Rattle.mdc_types.specs.declared.numbers.Sector.{Sector}
use Rattle.mdc_types.specs.declared.events.Event.{Event}
use Rattle.mdc_types.specs.declared.events.Event.TheVariants.{AskWrite, Out, EndWrite, AskRead, In, Die, Settle}
use Rattle.mdc_types.specs.declared.outcomes.Outcome.{Outcome}
use Rattle.mdc_types.specs.declared.outcomes.Outcome.TheVariants.{Done, Write, Read, Value, Lost, Io, Settled}
use Rattle.mdc_types.specs.declared.outcomes.Entry.{Entry}
use Rattle.plain_history.specs.History.{asked, live_writes, asked_reads, candidates, LegalEntry, LegalAfter, Legal, IsIn, here, there}

abbrev then : List Entry → Event → Outcome → List Entry
then past e o = record { event = e; outcome = o } ∷ past

-- node 0 is asked to write b to sector 5, where all legs have a
abbrev asks : Sector → List Entry
asks b = then [] (AskWrite 0 5 b) (Write 0)

abbrev starts : Sector → List Entry
starts b = then (asks b) (Out 0 0 1) Done

abbrev ends : Sector → List Entry
ends b = then (then (starts b) (Out 0 0 0) Done) (EndWrite 0 0) Done

abbrev only : Sector → ℕ → List Sector
only a s = a ∷ []

-- a write that was only asked is live, and no candidate
asked_is_live : (b : Sector) → live_writes (asks b) 0 0 ≡ Some (asked 5 b)
asked_is_live b = refl

asked_is_no_candidate : (a b : Sector) → candidates (only a) (asks b) 5 ≡ a ∷ []
asked_is_no_candidate a b = refl

-- the start appends its value, for its sector alone, and further transfers change nothing
start_appends : (a b : Sector) → candidates (only a) (starts b) 5 ≡ a ∷ b ∷ []
start_appends a b = refl

other_sector : (a b : Sector) → candidates (only a) (starts b) 4 ≡ a ∷ []
other_sector a b = refl

second_transfer : (a b : Sector) → candidates (only a) (then (starts b) (Out 0 0 0) (Lost 0)) 5 ≡ a ∷ b ∷ []
second_transfer a b = refl

-- the end leaves the value alone
end_decides : (a b : Sector) → candidates (only a) (ends b) 5 ≡ b ∷ []
end_decides a b = refl

end_is_no_more_live : (b : Sector) → live_writes (ends b) 0 0 ≡ None
end_is_no_more_live b = refl

-- a first transfer that ends in io starts the write and breaks it
broken : Sector → List Entry
broken b = then (asks b) (Out 0 0 1) (Io 1)

broken_is_open : (a b : Sector) → candidates (only a) (broken b) 5 ≡ a ∷ b ∷ []
unfolding broken
broken_is_open a b = refl

broken_is_not_live : (b : Sector) → live_writes (broken b) 0 0 ≡ None
unfolding broken
broken_is_not_live b = refl

-- the started write of a dead node stays a candidate, until a settle decides
death_leaves_open : (a b : Sector) → candidates (only a) (then (starts b) (Die 0) Done) 5 ≡ a ∷ b ∷ []
death_leaves_open a b = refl

death_ends : (b : Sector) → live_writes (then (starts b) (Die 0) Done) 0 0 ≡ None
death_ends b = refl

death_of_another : (b : Sector) → live_writes (then (asks b) (Die 1) Done) 0 0 ≡ Some (asked 5 b)
death_of_another b = refl

settle_decides : (a b : Sector) → candidates (only a) (then (then (starts b) (Die 0) Done) (Settle 2) (Settled 5 a)) 5 ≡ a ∷ []
settle_decides a b = refl

-- a read lasts over a lost leg, and ends with its value
asks_read : List Entry
asks_read = then [] (AskRead 3 5) (Read 7)

read_lasts : asked_reads (then asks_read (In 3 7) (Lost 1)) 3 7 ≡ Some 5
unfolding asks_read
read_lasts = refl

read_ends : (v : Sector) → asked_reads (then asks_read (In 3 7) (Value 0 v)) 3 7 ≡ None
unfolding asks_read
read_ends v = refl

-- a read during the write may give the old value or the new one
gives : Sector → Sector → List Entry
gives b v = then (then (starts b) (AskRead 3 5) (Read 7)) (In 3 7) (Value 0 v)

gives_old : (a b : Sector) → Legal (only a) (gives b a)
unfolding gives
gives_old a b = (here, (tt, (tt, (λ n k w none. cc, tt))))

gives_new : (a b : Sector) → Legal (only a) (gives b b)
unfolding gives
gives_new a b = (there here, (tt, (tt, (λ n k w none. cc, tt))))

-- after the end a read of the old value is no more legal
only_this : (a b : Sector) → IsIn a (b ∷ []) → a ≡ b
only_this a b here = refl
only_this a b (there more) = elim more [ ]

old_after_end : (a b : Sector) → ¬ (a ≡ b) → ¬ LegalEntry (live_writes (ends b)) (asked_reads (then (ends b) (AskRead 3 5) (Read 7))) (candidates (only a) (ends b)) (In 3 7) (Value 0 a)
old_after_end a b differ legal = differ (only_this a b legal)

-- a write may not end before its start
end_before_start : (a b : Sector) → ¬ LegalAfter (only a) (asks b) (record { event = EndWrite 0 0; outcome = Done })
end_before_start a b legal = cc

-- nor twice, nor after its node's death
end_twice : (a b : Sector) → ¬ LegalAfter (only a) (ends b) (record { event = EndWrite 0 0; outcome = Done })
end_twice a b legal = legal

end_after_death : (a b : Sector) → ¬ LegalAfter (only a) (then (starts b) (Die 0) Done) (record { event = EndWrite 0 0; outcome = Done })
end_after_death a b legal = legal

-- a second write of the sector waits, whichever node asks it
second_write : (a b c : Sector) → ¬ LegalAfter (only a) (asks b) (record { event = AskWrite 1 5 c; outcome = Write 0 })
second_write a b c legal = legal 0 0 (asked 5 b) refl refl

-- a sector is settled to a candidate alone
settle_another : (a b c : Sector) → ¬ (c ≡ a) → ¬ (c ≡ b) → ¬ LegalAfter (only a) (starts b) (record { event = Settle 2; outcome = Settled 5 c })
settle_another a b c not_a not_b (there more) = not_b (only_this c b more)
settle_another a b c not_a not_b here = not_a refl
