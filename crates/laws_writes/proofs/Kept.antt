-- The intent of each open write, in one state.
use Rattle.std.proofs.Common.{◌≡◌, ◌⊎◌, inl, inr, ℕ, ◌≤◌, ◌&&◌, ◌||◌, Bool, true, false, Option, Some, None, refl, sym, ap, subst, ◌∙◌, arith}
use Rattle.std.specs.Prelude.{nat_lt, unwrap_or}
use Rattle.dlm_modes.specs.First.{first_such}
use Rattle.mdc_types.specs.Geometry.{chunk_of, nodes_of}
use Rattle.mdc_types.specs.Roles.{role_of, is_working}
use Rattle.md_superblock.specs.Arrays.{Says}
use Rattle.cluster_model.specs.State.{State, sizes}
use Rattle.cluster_model.specs.Served.{Intent, Trusted}
use Rattle.cluster_model.specs.Stored.{super_on}
use Rattle.laws_sound.proofs.Supers.{says_fit}
use Rattle.laws_roles.proofs.InState.{up_in, working_is}
use Rattle.laws_roles.proofs.Parts as roles
use Rattle.laws_roles.proofs.Parts.{number, said_role, supers}
use Rattle.storage_ways.proofs.Parts.{Part}
use Rattle.storage_ways.proofs.Place.{here, Place, sound_of}
use Rattle.storage_ways.proofs.Moving.{Traced, around}
use Rattle.storage_ways.proofs.Roled.{served_good}
use Rattle.storage_ways.proofs.Sound.{Sound}
use Rattle.laws_writes.proofs.Ghosts.{Ghost, undecided, is_open}
use Rattle.laws_writes.proofs.Intent.{Intents}
use Rattle.laws_writes.proofs.Values.{ValuesAre, two_open}
use Rattle.laws_writes.proofs.FirstKeepers.{found_passes}

or_sum : (a b : Bool) → (a || b) ≡ true → (a ≡ true) ⊎ (b ≡ true)
or_sum true b e = inl refl
or_sum false b e = inr e

both : (a b : Bool) → (a && b) ≡ true → (a ≡ true) × (b ≡ true)
both a b e = grind arith

module _ (state : State) (rg : roles.Ghost) (tr : Traced) (p : Place state.core (around state.core state.legs rg tr)) where
  abbrev pub W : Part
  W = here state.core (around state.core state.legs rg tr)

  sound : Sound W
  sound = sound_of state.core (around state.core state.legs rg tr) p

  pub trusted_good : (l : ℕ) → Trusted state l → rg.good l ≡ true
  trusted_good l (inl s) = served_good W sound s.node l (up_in (state.core.state s.node) s.up) s.works
  trusted_good l (inr c) =
      let is = c.current.stands in
      p.roles.super_good c.leg l (subst (λ x. state.core.members.completed ≤ number x) (sym is) c.current.new)
      (ap (λ x. is_working (said_role x l)) is ∙ working_is (role_of c.current.says.roles l) c.called)

  -- a leg that the superblock of the home leg calls working
  home_good : (x : Option Says) → super_on state.core.array state.legs rg.home ≡ x → state.core.members.completed ≤ number x → (l : ℕ) × (rg.good l ≡ true)
  home_good None is new = let least = p.numbers.some_completed in absurd (omega (arith, least, new))
  home_good (Some says) is new =
      let some = (says_fit state.core.array rg.home (state.legs.content rg.home 8).bytes says is).working in
      let found = found_passes (λ l. is_working (role_of says.roles l)) 8 some in
      let leg : ℕ = unwrap_or (first_such (λ l. is_working (role_of says.roles l)) 0 8) 0 in
      (leg, p.roles.super_good rg.home leg (subst (λ x. state.core.members.completed ≤ number x) (sym is) new) (ap (λ x. is_working (said_role x leg)) is ∙ found.0))

  pub some_good : (l : ℕ) × (rg.good l ≡ true)
  some_good = home_good (super_on state.core.array state.legs rg.home) refl p.numbers.home_current

  pub intent_holds : (g : Ghost) → Intents W g → ValuesAre W g → Intent state tr.values
  intent_holds g i v s lt two =
      let split : undecided g s ≡ true = ap is_open (v s lt) ∙ two_open (tr.values s) two in
      let some = some_good in
      let slot = sound.within.slots (g.keeper s) (chunk_of (sizes state.core) s) some.0 (i.keeper_bit s some.0 split some.1) in
      record {
        slot = g.keeper s;
        kept = or_sum (state.core.members.live (g.keeper s)) (state.core.members.pending (g.keeper s)) (i.keeper s split);
        marks = record {
          slot = slot;
          marked = λ l leg t. (both (nat_lt (g.keeper s) (nodes_of (sizes state.core))) _ (i.keeper_bit s l split (trusted_good l t))).1;
        };
      }
