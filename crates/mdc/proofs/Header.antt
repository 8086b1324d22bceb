-- The legs of a header, and what a world over them has.
use Rattle.std.proofs.Common.{◌≡◌, ◌⊎◌, inl, inr, ℕ, ◌+◌, ◌-◌, ◌<◌, ◌≤◌, ◌==◌, Bool, true, false, List, [], ◌∷◌, ◌++◌, map, take, length, get_or, if◌then◌else◌, Some, None, Result, Ok, Err, refl, sym, ◌∙◌, ap, subst, arith}
use Rattle.std.specs.Prelude.{is_some}
use Rattle.std.proofs.lemmas.Bool.Decides.{nat_tests}
use Rattle.std.proofs.lemmas.List.{get_or-map, length-map, length-append, get_or_append_left, get_or-append_right, take_more, append-nil}
use Rattle.mdc_types.specs.Geometry.{Sizes, length_of, nodes_of}
use Rattle.mdc_types.specs.declared.geometry.GeomError.TheVariants.{Legs, Sectors, Room, Chunk, Bits}
use Rattle.leg_store.specs.Memory.{Memory, told, plan_of}
use Rattle.cluster_model.specs.Opening.{Origin, IsOrigin, header_at, core_at}
use Rattle.cluster_model.specs.Contents.{Opens, IsHeader, header_sector}
use Rattle.world_state.specs.Kept.{core_of}
use Rattle.world_state.specs.Told.{Fits, legs_of, seen_of}
use Rattle.script_text.specs.Header.{start_sizes}
use Rattle.script_text.specs.Script.{ScriptValue}
use Rattle.script_text.specs.declared.script.Start.{Start}
use Rattle.script_text.specs.declared.script.FaultLine.{FaultLine}
use Rattle.leg_store.specs.declared.memory.Left.{Left}
use Rattle.cluster_core.specs.World.{Seen}
use Rattle.cluster_core.specs.Stands.{stand, state_at}
use Rattle.mdc.specs.Opened.{left_by, Starts, IsNewLeg, AreNewLegs, origin_of, sizes_of, faults_of, no_leg}

module _ (o : Origin) (faults : List FaultLine) (legs : List Memory)
    (are : AreNewLegs o faults o.sizes.legs legs) where
  there : (l : ℕ) → l < o.sizes.legs → l < length legs
  there l lt = omega (arith, lt, are.many)

  -- each has the sectors of the array
  pub new_fits : Fits o.sizes (map (λ leg. length leg.sectors) legs)
  new_fits = record {
    count = length-map legs (λ leg. length leg.sectors) ∙ are.many;
    each = λ l lt. get_or-map (λ leg. length leg.sectors) legs l no_leg 0 (there l lt)
        ∙ (are.each l lt).sectors;
  }

  told_at : (l : ℕ) → l < o.sizes.legs
      → get_or (map told legs) l None ≡ Some (get_or legs l no_leg).sectors
  told_at l lt = get_or-map told legs l no_leg None (there l lt)

  -- each tells its contents
  pub new_told : (l : ℕ) → l < o.sizes.legs → (legs_of (map told legs)).told l ≡ true
  new_told l lt = ap is_some (told_at l lt)

  -- which are the header's
  pub new_contents : (l at : ℕ) → l < o.sizes.legs → at < length_of o.sizes
      → (legs_of (map told legs)).content l at ≡ header_sector o l at
  new_contents l at lt within = rw (told_at l lt) ((are.each l lt).contents at within)

  pub new_plans : (l : ℕ) → l < o.sizes.legs
      → get_or (map plan_of legs) l None
      ≡ Some (record { failing = faults_of faults l; transfers = 0 })
  new_plans l lt =
      let leg = are.each l lt in
      get_or-map plan_of legs l no_leg None (there l lt) ∙ rw (leg.failing, leg.transfers) refl

  module _ (g : Sizes) (nodes : ℕ) (warm : Bool) (spares : ℕ)
      (header : o ≡ header_at g nodes warm spares) (some : 1 ≤ nodes) (few : nodes ≤ nodes_of g)
    where
      sizes_are : o.sizes ≡ g
      sizes_are = ap (λ o. o.sizes) header

      pub new_header : IsHeader o (legs_of (map told legs))
      new_header = record {
        nodes = nodes;
        spares = spares;
        some = (some, rw sizes_are few);
        header = rw header refl;
        contents = λ l at lt within tells. new_contents l at lt within;
      }

      -- a world over these legs is where the script starts
      pub starts_of : (script : ScriptValue) (w : Seen) → IsOrigin o → faults ≡ script.faults
          → o ≡ origin_of script.start → core_of w.kept ≡ core_at o
          → w.legs ≡ seen_of told (λ leg. length leg.sectors) (λ leg. leg.faults) plan_of legs
          → w.past ≡ [] → Starts script (stand w)
      starts_of script w origin is_faults is_origin core are_legs none =
          let legs_is : script.start.legs ≡ o.sizes.legs = sym (ap (λ o. o.sizes.legs) is_origin) in
          record {
            opens = subst (λ o. Opens o (state_at (stand w))) is_origin (record {
              origin = origin;
              core = core;
              contents = rw are_legs (inl new_header);
            });
            header = subst (λ o. IsHeader o (state_at (stand w)).legs) is_origin (rw are_legs new_header);
            none = none;
            told = rw are_legs (λ l lt. new_told l (omega (arith, lt, legs_is)));
            plans = rw (are_legs, ← is_faults) (λ l lt. new_plans l (omega (arith, lt, legs_is)));
          }

passed : {A E : Type 0} (b : Bool) (e : E) (rest : Result A E) (a : A)
    → (if b then Err e else rest) ≡ Ok a → rest ≡ Ok a
passed true e rest a is = cc
passed false e rest a is = is

same_ok : {A E : Type 0} (a b : A) → ◌≡◌ {A = Result A E} (Ok a) (Ok b) → b ≡ a
same_ok a b is = cc

-- the sizes are those that were asked
pub sizes_asked : (s : Start) (g : Sizes) → start_sizes s ≡ Ok g → g ≡ sizes_of s
sizes_asked s g is =
    let a = passed _ Legs _ g is in
    let b = passed _ Sectors _ g a in
    let c = passed _ Room _ g b in
    let d = passed _ Chunk _ g c in
    let e = passed _ Bits _ g d in
    same_ok _ _ e

-- Lists that grow.

faults_more : (fs : List FaultLine) (f : FaultLine) (l : ℕ)
    → faults_of (fs ++ f ∷ []) l ≡ faults_of fs l ++ faults_of (f ∷ []) l
faults_more [] f l = refl
faults_more (g ∷ fs) f l = by (g.leg == l) (faults_more fs f l)
  where
    by : (b : Bool) → faults_of (fs ++ f ∷ []) l ≡ faults_of fs l ++ faults_of (f ∷ []) l
        → (if b then (g.transfer, left_by g.new) ∷ faults_of (fs ++ f ∷ []) l else faults_of (fs ++ f ∷ []) l)
        ≡ (if b then (g.transfer, left_by g.new) ∷ faults_of fs l else faults_of fs l) ++ faults_of (f ∷ []) l
    by true is = ap (λ x. (g.transfer, left_by g.new) ∷ x) is
    by false is = is

faults_on : (fs : List FaultLine) (i : ℕ) (f : FaultLine) (l : ℕ) → i < length fs
    → f ≡ get_or fs i f
    → faults_of (take (i + 1) fs) l ≡ faults_of (take i fs) l ++ faults_of (f ∷ []) l
faults_on fs i f l lt is =
    ap (λ xs. faults_of xs l) (take_more fs i f lt ∙ ap (λ x. take i fs ++ x ∷ []) (sym is))
    ∙ faults_more (take i fs) f l

-- a line of the leg, and of another
pub faults_add : (fs : List FaultLine) (i : ℕ) (f : FaultLine) (l : ℕ) → i < length fs
    → f ≡ get_or fs i f → (f.leg == l) ≡ true → (list : List (ℕ × Left))
    → list ≡ faults_of (take i fs) l
    → list ++ (f.transfer, left_by f.new) ∷ [] ≡ faults_of (take (i + 1) fs) l
faults_add fs i f l lt is of list sofar =
    let one : faults_of (f ∷ []) l ≡ (f.transfer, left_by f.new) ∷ [] = rw of refl in
    ap (λ x. x ++ (f.transfer, left_by f.new) ∷ []) sofar
    ∙ sym (faults_on fs i f l lt is ∙ ap (λ x. faults_of (take i fs) l ++ x) one)

pub faults_skip : (fs : List FaultLine) (i : ℕ) (f : FaultLine) (l : ℕ) → i < length fs
    → f ≡ get_or fs i f → (f.leg == l) ≡ false → (list : List (ℕ × Left))
    → list ≡ faults_of (take i fs) l → list ≡ faults_of (take (i + 1) fs) l
faults_skip fs i f l lt is of list sofar =
    let none : faults_of (f ∷ []) l ≡ [] = rw of refl in
    sofar ∙ sym (faults_on fs i f l lt is ∙ ap (λ x. faults_of (take i fs) l ++ x) none ∙ append-nil (faults_of (take i fs) l))

-- one leg more
pub legs_more : (o : Origin) (faults : List FaultLine) (count : ℕ) (legs : List Memory)
    (leg : Memory) → AreNewLegs o faults count legs → IsNewLeg o faults count leg
    → AreNewLegs o faults (count + 1) (legs ++ leg ∷ [])
legs_more o faults count legs leg are is = record {
  many = length-append legs (leg ∷ []) ∙ ap (λ n. n + 1) are.many;
  each = λ l lt. elim (which l) [
    | inl before ↦ subst (IsNewLeg o faults l) (sym (get_or_append_left legs (leg ∷ []) no_leg l (omega (arith, before, are.many)))) (are.each l before)
    | inr same ↦ subst (IsNewLeg o faults l) (sym (at_end l (omega (arith, lt, same)))) (subst (λ k. IsNewLeg o faults k leg) (sym (here l lt same)) is)
  ];
}
  where
    which : (l : ℕ) → (l < count) ⊎ (count ≤ l)
    which l = grind arith

    here : (l : ℕ) → l < count + 1 → count ≤ l → l ≡ count
    here l lt le = omega (arith, lt, le)

    zero_from : (l : ℕ) → l ≡ count → l - count ≡ 0
    zero_from l same = omega (arith, same)

    at_end : (l : ℕ) → l ≡ count → get_or (legs ++ leg ∷ []) l no_leg ≡ leg
    at_end l same = get_or-append_right legs (leg ∷ []) count l no_leg are.many (omega (arith, same)) ∙ ap (λ k. get_or (leg ∷ []) k no_leg) (zero_from l same)

pub test_is : (a b : ℕ) → a ≡ b → (a == b) ≡ true
test_is a b is = grind (arith, nat_tests)

pub test_not : (a b : ℕ) → (a ≡ b → ⊥) → (a == b) ≡ false
test_not a b is = grind (arith, nat_tests)
