-- The generator of `storm`, and what is drawn in each of its turns.
use Rattle.std.specs.Prelude.{ℕ, ◌+◌, ◌*◌, ◌/◌, ◌%◌, ◌^◌, ◌==◌, nat_lt, Bool, true, false}
use Rattle.std.specs.Prelude.{◌&&◌, if◌then◌else◌, List, [], ◌∷◌, ◌++◌, length, get_or, replicate}
use Rattle.std.specs.Prelude.{zero, suc, Option, Some, None}
use Rattle.std.specs.Option.{option_map}
use Rattle.mdc_types.specs.Geometry.{nodes_of}
use Rattle.mdc_types.specs.declared.numbers.Sector.{Sector}
use Rattle.mdc_types.specs.declared.events.Event.{Event}
use Rattle.mdc_types.specs.declared.events.Event.TheVariants.{Cut, Mend, Die, AskWrite, AskRead}
use Rattle.leg_failure.specs.Views.{works}
use Rattle.cluster_model.specs.State.{Core, sizes}
use Rattle.cluster_model.specs.Phases.{is_up}
use Rattle.driver_rules.specs.Helpers.{enabled, is_live}

-- The generator: its state is a number below 2 ^ 64.

abbrev pub next_seed : ℕ → ℕ
next_seed x = (x * 6364136223846793005 + 1442695040888963407) % 2 ^ 64

-- the number below m that this state gives
abbrev pub drawn : ℕ → ℕ → ℕ
drawn x m = (x / 2 ^ 33) % m

-- Sets of small numbers as lists.

-- the numbers below n that pass the test, in rising order
unfoldable pub those_below : (ℕ → Bool) → ℕ → List ℕ
those_below test zero = []
those_below test (suc n) = if test n then those_below test n ++ n ∷ [] else those_below test n

-- the last of a list
abbrev pub last_of : List ℕ → Option ℕ
last_of [] = None
last_of (n ∷ []) = Some n
last_of (n ∷ m ∷ rest) = last_of (m ∷ rest)

abbrev pub live_nodes : Core → List ℕ
live_nodes core = those_below (is_live core) (nodes_of (sizes core))

abbrev pub working_legs : Core → ℕ → List ℕ
working_legs core n = those_below (works (core.view n)) 8

-- the greatest, where there are two or more
abbrev pub greatest_of_two : List ℕ → Option ℕ
greatest_of_two [] = None
greatest_of_two (n ∷ []) = None
greatest_of_two (n ∷ m ∷ rest) = last_of (m ∷ rest)

-- Turns that are named: deaths, a cut path and its mending.

pub data Named : Type 0 where
  Death Cutting Mending Drawing : Named

-- what turn i of so many is
abbrev pub named : ℕ → ℕ → Named
named turns i =
    if i == turns / 3 then Death
    else if i == 2 * turns / 3 then Death
    else if i == turns / 2 then Cutting
    else if i == turns / 2 + 100 then Mending
    else Drawing

-- the greatest live node dies, where two or more are live
abbrev pub death : Core → Option Event
death core = option_map Die (greatest_of_two (live_nodes core))

-- the greatest leg that node 0 reads from, where it is up and reads from two or more
abbrev pub leg_to_cut : Core → Option ℕ
leg_to_cut core = if is_up (core.state 0) then greatest_of_two (working_legs core 0) else None

-- Turns that are drawn.

-- the value of the write of turn i: the number in eight bytes, the lowest first
abbrev pub turn_value : ℕ → Sector
turn_value i = record {
  bytes =
      (i % 256) ∷ (i / 2 ^ 8 % 256) ∷ (i / 2 ^ 16 % 256) ∷ (i / 2 ^ 24 % 256)
      ∷ (i / 2 ^ 32 % 256) ∷ (i / 2 ^ 40 % 256) ∷ (i / 2 ^ 48 % 256) ∷ (i / 2 ^ 56 % 256)
      ∷ replicate 504 0;
}

-- what may be drawn for a node: one of its helping events, a write, a read
pub data Choice : Type 0 where
  Help : (event : Event) → Choice
  Writing Reading : Choice

abbrev pub helps : List Event → List Choice
helps [] = []
helps (e ∷ rest) = Help e ∷ helps rest

abbrev pub choice_if : Bool → Choice → List Choice
choice_if true c = c ∷ []
choice_if false c = []

abbrev pub choices : Core → ℕ → List Choice
choices core n =
    helps (enabled core n)
    ++ choice_if (is_up (core.state n) && nat_lt (length (core.writes n)) 4) Writing
    ++ choice_if (is_up (core.state n) && nat_lt (length (core.reads n)) 4) Reading

-- an event and the generator's state after it, or the state alone where nothing is done
pub record Drawn : Type 0 where
  pub event : Option Event
  pub seed : ℕ

abbrev pub sector_drawn : Core → ℕ → ℕ → ℕ
sector_drawn core n x = drawn x (core.view n).sure_size

-- the event of a choice; a write or a read draws its sector
abbrev pub of_choice : Core → ℕ → ℕ → ℕ → Choice → Drawn
of_choice core n i x (Help e) = record { event = Some e; seed = x }
of_choice core n i x Writing = record {
  event = Some (AskWrite n (sector_drawn core n (next_seed x)) (turn_value i));
  seed = next_seed x;
}
of_choice core n i x Reading = record {
  event = Some (AskRead n (sector_drawn core n (next_seed x)));
  seed = next_seed x;
}

-- one of the choices, where there is one
abbrev pub one_of : Core → ℕ → ℕ → ℕ → List Choice → Drawn
one_of core n i x [] = record { event = None; seed = x }
one_of core n i x (c ∷ cs) =
    of_choice core n i (next_seed x)
    (get_or (c ∷ cs) (drawn (next_seed x) (length (c ∷ cs))) c)

-- a node that is live, and one of its choices
abbrev pub drawn_of : Core → ℕ → ℕ → List ℕ → Drawn
drawn_of core i x [] = record { event = None; seed = x }
drawn_of core i x (m ∷ ms) =
    let n : ℕ = get_or (m ∷ ms) (drawn (next_seed x) (length (m ∷ ms))) m in
    one_of core n i (next_seed x) (choices core n)

-- What turn i of so many does: `cut` is the leg that this storm cut and hasn't mended.

abbrev pub mending : Option ℕ → Option Event
mending cut = option_map (Mend 0) cut

abbrev pub turn : Core → ℕ → ℕ → Option ℕ → Named → Drawn
turn core i x cut Death = record { event = death core; seed = x }
turn core i x cut Cutting = record { event = option_map (Cut 0) (leg_to_cut core); seed = x }
turn core i x cut Mending = record { event = mending cut; seed = x }
turn core i x cut Drawing = drawn_of core i x (live_nodes core)

-- the leg that is cut after the turn
abbrev pub cut_after : Core → Option ℕ → Named → Option ℕ
cut_after core cut Cutting = leg_to_cut core
cut_after core cut Mending = None
cut_after core cut t = cut
