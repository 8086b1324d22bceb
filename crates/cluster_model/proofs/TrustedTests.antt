-- Trusted legs, and what they must hold: for each word a state in which it is true, and one in which it isn't.
use Rattle.std.proofs.Common.{◌≡◌, ◌≤◌, ℕ, zero, suc, true, false, [], ◌∷◌, Some, None, inl, inr, refl, sym, ap, ◌∙◌, arith}
use Rattle.dlm_modes.specs.First.{first_such}
use Rattle.mdc_types.specs.Names.{name_length}
use Rattle.mdc_types.specs.Roles.{eight}
use Rattle.mdc_types.specs.declared.numbers.Sector.{Sector}
use Rattle.mdc_types.specs.declared.roles.NodeState.TheVariants as states
use Rattle.mdc_types.specs.declared.roles.Role.{Role}
use Rattle.mdc_types.specs.declared.roles.Role.TheVariants as roles
use Rattle.md_superblock.specs.Layout.{number_at, bytes_of, with_bytes, sum_below, is_named}
use Rattle.md_superblock.specs.Pieces.{role_pieces}
use Rattle.md_superblock.specs.Faults.{head_fault, array_fault, device_fault, state_fault, fault_of}
use Rattle.md_superblock.specs.Superblock.{super_of}
use Rattle.md_superblock.specs.Arrays.{Says, unsummed, spelled, super_in, says_in}
use Rattle.plain_history.specs.History.{here}
use Rattle.cluster_model.specs.State.{State}
use Rattle.cluster_model.specs.Stored.{super_on}
use Rattle.cluster_model.specs.Served.{Current, CalledIn, Trusted, NoTrustedLegIsStale}
use Rattle.cluster_model.proofs.Small.{base, out, roles_with}
use Rattle.cluster_model.proofs.Legs.{old, new, old_is_not_new, only_one, with_legs, super_on_first}

-- Current superblocks, where nobody is up.

abbrev says_at : ℕ → Says
says_at events = record { events = events; roles = eight (roles_with roles.Spare); size = 12 }

abbrev written : ℕ → State
written events = with_legs out (super_on_first (says_at events))

second_stands : super_on base.array (written 2).legs 0 ≡ Some (says_at 2)
unfolding first_such number_at bytes_of with_bytes sum_below is_named role_pieces head_fault array_fault device_fault state_fault fault_of super_of unsummed spelled super_in says_in name_length
second_stands = refl

third_stands : super_on base.array (written 3).legs 0 ≡ Some (says_at 3)
unfolding first_such number_at bytes_of with_bytes sum_below is_named role_pieces head_fault array_fault device_fault state_fault fault_of super_of unsummed spelled super_in says_in name_length
third_stands = refl

others_have_none : (events l : ℕ) → super_on base.array (written events).legs (suc l) ≡ None
unfolding first_such number_at bytes_of with_bytes sum_below is_named role_pieces head_fault array_fault device_fault state_fault fault_of super_of unsummed spelled super_in says_in name_length
others_have_none events l = refl

abbrev new_is_current : Current (written 3) 0
new_is_current = record { leg = omega arith; says = says_at 3; stands = third_stands; new = omega arith }

-- the last completed round has number 3
old_is_not_current : (k : ℕ) → ¬ Current (written 2) k
old_is_not_current zero c =
    let same : Some (says_at 2) ≡ Some c.says = sym (second_stands) ∙ c.stands in
    let said : says_at 2 ≡ c.says = cc in
    let two : 2 ≡ c.says.events = ap (λ (x : Says). x.events) said in
    let three : 3 ≤ c.says.events = c.new in
    omega arith
old_is_not_current (suc k) c = let none = others_have_none 2 k in let stands = c.stands in cc

-- leg 1 works by the superblock on leg 0
called_working : Trusted (written 3) 1
called_working = inr (record { leg = 0; current = new_is_current; called = refl })

-- nobody is up, and no superblock is current
old_is_not_trusted : (l : ℕ) → ¬ Trusted (written 2) l
old_is_not_trusted l (inl s) = let u : states.Out ≡ states.Up = s.up in cc
old_is_not_trusted l (inr c) = old_is_not_current c.leg c.current

-- What trusted legs hold: no leg has a superblock, and legs 0 and 1 are read.

-- leg 2 is new, and the others are old
abbrev last_new : ℕ → ℕ → Sector
last_new (suc (suc l)) at = new
last_new l at = old

no_super_on : (l : ℕ) → super_on base.array (with_legs base last_new).legs l ≡ None
unfolding first_such number_at bytes_of with_bytes sum_below is_named role_pieces head_fault array_fault device_fault state_fault fault_of super_of unsummed spelled super_in says_in name_length
no_super_on zero = refl
no_super_on (suc zero) = refl
no_super_on (suc (suc l)) = refl

abbrev apart : State
apart = with_legs base last_new

none_called : (role : Role) (l : ℕ) → ¬ CalledIn apart role l
none_called role l c = let none = no_super_on c.leg in let stands = c.current.stands in cc

last_is_not_trusted : ¬ Trusted apart 2
last_is_not_trusted (inl s) = let w : false ≡ true = s.works in cc
last_is_not_trusted (inr c) = none_called roles.Working 2 c

-- the spare has another value than the one that there is, and no leg that is read
spare_may_be_stale : NoTrustedLegIsStale apart (λ s. old ∷ [])
spare_may_be_stale zero s leg sector trusted = here
spare_may_be_stale (suc zero) s leg sector trusted = here
spare_may_be_stale (suc (suc zero)) s leg sector trusted = absurd (last_is_not_trusted trusted)
spare_may_be_stale (suc (suc (suc l))) s leg sector trusted = absurd (omega arith)

served_is_stale : ¬ NoTrustedLegIsStale apart (λ s. new ∷ [])
served_is_stale all = old_is_not_new (only_one old new (all 0 0 (omega arith) (omega arith) (inl (record { node = 0; up = refl; works = refl }))))
