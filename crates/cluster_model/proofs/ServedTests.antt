-- The words on states: for each a state in which it holds, and one in which it doesn't.
use Rattle.std.proofs.Common.{◌≡◌, ◌==◌, ℕ, true, false, refl, arith}
use Rattle.mdc_types.specs.declared.roles.NodeState.TheVariants as states
use Rattle.mdc_types.specs.declared.roles.Role.TheVariants as roles
use Rattle.cluster_model.specs.State.{State}
use Rattle.cluster_model.specs.Served.{Served, Shut}
use Rattle.cluster_model.proofs.Small.{base, out, calls_leg, unacked_view}
use Rattle.cluster_model.proofs.Legs.{with_legs, all_old}
use Rattle.std.specs.Prelude.{if◌then◌else◌}

-- Served.

abbrev quiet : State
quiet = with_legs base all_old

working_is_served : Served quiet 0
working_is_served = record { node = 0; up = refl; works = refl }

spare_is_not : ¬ Served quiet 2
spare_is_not s = let w : false ≡ true = s.works in cc

lost_is_not : ¬ Served (with_legs (record base { view = λ n. unacked_view }) all_old) 1
lost_is_not s = let w : false ≡ true = s.works in cc

nobody_is_up : (l : ℕ) → ¬ Served (with_legs out all_old) l
nobody_is_up l s = let u : states.Out ≡ states.Up = s.up in cc

-- Shut.

faulty_is_shut : Shut (with_legs (record base { view = λ n. calls_leg roles.Faulty }) all_old)
faulty_is_shut n l up no_target acked s = let w = s.works in grind arith

abbrev disagreeing : State
disagreeing = with_legs (record base { view = λ n. calls_leg (if n == 0 then roles.Faulty else roles.Working) }) all_old

-- node 0 was told that leg 2 is faulty, and node 1 reads from it
still_read : ¬ Shut disagreeing
still_read shut = shut 0 2 refl refl refl (record { node = 1; up = refl; works = refl })
