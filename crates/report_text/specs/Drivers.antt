-- The texts of events that the program chose.
use Rattle.std.specs.Prelude.{ℕ, List, [], ◌∷◌, codes, decimal}
use Rattle.report_text.specs.declared.drivers.StormCounts.{StormCounts}
use Rattle.report_text.specs.Lines.{line}

-- so many events were made
abbrev pub auto_line : ℕ → List ℕ
auto_line made = line (codes "auto") (decimal made ∷ [])

-- the counts of a storm, each after its word

abbrev pub event_counts : StormCounts → List (List ℕ)
event_counts s =
    codes "turns" ∷ decimal s.turns
    ∷ codes "events" ∷ decimal s.events
    ∷ codes "refused" ∷ decimal s.refused
    ∷ codes "writes" ∷ decimal s.writes ∷ []

abbrev pub end_counts : StormCounts → List (List ℕ)
end_counts s =
    codes "ended" ∷ decimal s.ended
    ∷ codes "reads" ∷ decimal s.reads
    ∷ codes "deaths" ∷ decimal s.deaths
    ∷ codes "recovered" ∷ decimal s.recovered ∷ []

abbrev pub storm_line : StormCounts → List ℕ
storm_line s = line (line (codes "storm") (event_counts s)) (end_counts s)
