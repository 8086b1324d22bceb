-- The array's size: a place at which it holds, and two at which it doesn't.
use Rattle.std.proofs.Common.{◌≡◌, ◌==◌, ◌<◌, ◌≤◌, ℕ, zero, suc, false, List, [], ◌∷◌, ◌++◌, Some, None, if◌then◌else◌, refl, sym, ap, ◌∙◌, arith}
use Rattle.dlm_modes.specs.First.{first_such}
use Rattle.mdc_types.specs.Names.{name_length}
use Rattle.mdc_types.specs.Roles.{eight}
use Rattle.mdc_types.specs.declared.events.Event.TheVariants.{AskWrite, AskRead}
use Rattle.mdc_types.specs.declared.outcomes.Entry.{Entry}
use Rattle.mdc_types.specs.declared.roles.Role.TheVariants as roles
use Rattle.md_superblock.specs.Layout.{number_at, bytes_of, with_bytes, sum_below, is_named}
use Rattle.md_superblock.specs.Pieces.{role_pieces}
use Rattle.md_superblock.specs.Faults.{head_fault, array_fault, device_fault, state_fault, fault_of}
use Rattle.md_superblock.specs.Superblock.{super_of}
use Rattle.md_superblock.specs.Arrays.{Says, unsummed, spelled, super_in, says_in}
use Rattle.leg_failure.specs.Views.{new_view}
use Rattle.cluster_model.specs.State.{State}
use Rattle.cluster_model.specs.Stored.{super_on}
use Rattle.cluster_model.specs.Recovered.{Place}
use Rattle.cluster_model.specs.Size.{WasSure, Size, NamesSure}
use Rattle.cluster_model.proofs.Small.{base, calls_leg, roles_with, v}
use Rattle.cluster_model.proofs.Legs.{with_legs, all_old, super_on_first}

-- The run of no entries.

abbrev here : (start : State) → Place start [] [] start
here start = record { state = start; before = refl; after = refl }

at_start : (start end : State) (before later : List Entry) → [] ≡ later ++ before
    → (place : Place start before later end)
    → place.state ≡ start
at_start start end [] [] is place = place.before
at_start start end (x ∷ before) [] is place = cc
at_start start end before (x ∷ later) is place = cc

-- all nodes are sure of twelve sectors, and leg 0 has a superblock of that size and of the last round
abbrev says_size : ℕ → Says
says_size z = record { events = 3; roles = eight (roles_with roles.Spare); size = z }

abbrev sized : ℕ → State
sized z = with_legs base (super_on_first (says_size z))

sure_of : (z size : ℕ) → WasSure (sized z) [] (sized z) size → size ≡ 12
sure_of z size was =
    sym was.sure ∙ ap (λ (s : State). (s.core.view was.node).sure_size) (at_start (sized z) (sized z) was.before was.later was.split was.place)

twelve_stands : super_on base.array (sized 12).legs 0 ≡ Some (says_size 12)
unfolding first_such number_at bytes_of with_bytes sum_below is_named role_pieces head_fault array_fault device_fault state_fault fault_of super_of unsummed spelled super_in says_in name_length
twelve_stands = refl

eight_stands : super_on base.array (sized 8).legs 0 ≡ Some (says_size 8)
unfolding first_such number_at bytes_of with_bytes sum_below is_named role_pieces head_fault array_fault device_fault state_fault fault_of super_of unsummed spelled super_in says_in name_length
eight_stands = refl

others_have_none : (z l : ℕ) → super_on base.array (sized z).legs (suc l) ≡ None
unfolding first_such number_at sum_below is_named head_fault array_fault device_fault state_fault fault_of super_of super_in says_in name_length
others_have_none z l = refl

supers_say : (size k : ℕ) (says : Says) → size ≡ 12
    → super_on base.array (sized 12).legs k ≡ Some says → size ≤ says.size
supers_say size zero says is stands =
    let same : Some (says_size 12) ≡ Some says = sym twelve_stands ∙ stands in
    let said : says_size 12 ≡ says = cc in
    let twelve : 12 ≡ says.size = ap (λ (x : Says). x.size) said in
    omega arith
supers_say size (suc k) says is stands = let none = others_have_none 12 k in cc

nobody_behind : Size (sized 12) [] (sized 12)
nobody_behind = record {
  nodes = λ size n was state. let is = sure_of 12 size was in omega arith;
  supers = λ size k says was leg stands events. supers_say size k says (sure_of 12 size was) stands;
}

-- the superblock of the last round is smaller
super_behind : ¬ Size (sized 8) [] (sized 8)
super_behind size =
    let was : WasSure (sized 8) [] (sized 8) 12 = record { before = []; later = []; split = refl; place = here (sized 8); node = 0; up = refl; sure = refl } in
    let le : 12 ≤ 8 = size.supers 12 0 (says_size 8) was (omega arith) eight_stands refl in
    omega arith

-- node 1 took a smaller size
abbrev unlike : State
unlike = with_legs (record base { view = λ n. if n == 1 then new_view (roles_with roles.Spare) 8 (λ l. false) else calls_leg roles.Spare }) all_old

node_behind : ¬ Size unlike [] unlike
node_behind size =
    let was : WasSure unlike [] unlike 12 = record { before = []; later = []; split = refl; place = here unlike; node = 0; up = refl; sure = refl } in
    let le : 12 ≤ 8 = size.nodes 12 1 was refl in
    omega arith

-- Requests.

last_is_named : NamesSure base (AskRead 0 11)
last_is_named = omega arith

past_is_not : ¬ NamesSure base (AskWrite 0 12 v)
past_is_not lt = let below : 12 < 12 = lt in omega arith
