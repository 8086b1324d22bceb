-- The texts of queries.
use Rattle.std.specs.Prelude.{ℕ, List, [], ◌∷◌, codes, decimal}
use Rattle.mdc_types.specs.Roles.{state_word}
use Rattle.mdc_types.specs.declared.roles.NodeState.{NodeState}
use Rattle.mdc_types.specs.declared.roles.NodeState.TheVariants as states
use Rattle.leg_failure.specs.Views.{Parts as ViewParts, view_of, is_unacked}
use Rattle.node_bitmaps.specs.Map.{Map, bitmap_of, chunks_in}
use Rattle.node_member.specs.Parts.{Parts as RecordParts, members_of}
use Rattle.report_text.specs.declared.queries.Compared.{Compared}
use Rattle.report_text.specs.declared.queries.Compared.TheVariants.{Equal, Differ, Unread}
use Rattle.report_text.specs.Lines.{line}
use Rattle.report_text.specs.Sets.{set_text, roles_text}
use Rattle.report_text.specs.Words.{phase_word}

-- a node's state, its legs' roles, those that it lost and those that the others may not know of
abbrev pub view_values : NodeState → ViewParts → ℕ → List (List ℕ)
view_values states.Out v legs = codes "out" ∷ []
view_values states.Joining v legs = codes "joining" ∷ []
view_values state v legs =
    phase_word (state_word state) ∷ roles_text v.roles legs
    ∷ codes "lost" ∷ set_text (view_of v).lost 8
    ∷ codes "unacked" ∷ set_text (is_unacked (view_of v)) 8 ∷ []

abbrev pub view_line : ℕ → NodeState → ViewParts → ℕ → List ℕ
view_line n state v legs = line (codes "view") (decimal n ∷ view_values state v legs)

-- the size that a node took, and the one that it knows all to have
abbrev pub size_values : NodeState → ViewParts → List (List ℕ)
size_values states.Out v = codes "out" ∷ []
size_values states.Joining v = codes "joining" ∷ []
size_values state v = decimal v.size ∷ codes "sure" ∷ decimal v.sure_size ∷ []

abbrev pub size_line : ℕ → NodeState → ViewParts → List ℕ
size_line n state v = line (codes "size") (decimal n ∷ size_values state v)

-- the chunks of a node's bitmap, and those that it is to copy
abbrev pub map_line : ℕ → Map → List ℕ
map_line n m =
    line (codes "map") (decimal n
    ∷ codes "set" ∷ set_text (bitmap_of m).set (chunks_in m)
    ∷ codes "need" ∷ set_text (bitmap_of m).need (chunks_in m) ∷ [])

-- the chunks whose bits in the slot of node d surely stand on the leg
abbrev pub slot_line : ℕ → ℕ → Map → List ℕ
slot_line l d m = line (codes "slot") (decimal l ∷ decimal d ∷ codes "set" ∷ set_text (λ c. (bitmap_of m).marks c l) (chunks_in m) ∷ [])

-- the live nodes, the pending slots, and the events numbers
abbrev pub record_line : RecordParts → List ℕ
record_line r =
    line (codes "record") (codes "live" ∷ set_text (members_of r).live 16
    ∷ codes "pending" ∷ set_text (members_of r).pending 16
    ∷ codes "drawn" ∷ decimal r.drawn
    ∷ codes "completed" ∷ decimal r.completed ∷ [])

-- so many entries are a legal history
abbrev pub legal_line : ℕ → List ℕ
legal_line entries = line (codes "legal") (decimal entries ∷ [])

-- the entry at this place, from 1, is the first that is none
abbrev pub bad_line : ℕ → List ℕ
bad_line place = line (codes "bad") (decimal place ∷ [])

-- the working legs hold the same, differ in this sector first, or this one wasn't read
abbrev pub compared_values : Compared → List (List ℕ)
compared_values Equal = codes "equal" ∷ []
compared_values (Differ s) = codes "differ" ∷ decimal s ∷ []
compared_values (Unread l) = codes "unread" ∷ decimal l ∷ []

abbrev pub compared_line : Compared → List ℕ
compared_line found = line (codes "legs") (compared_values found)
