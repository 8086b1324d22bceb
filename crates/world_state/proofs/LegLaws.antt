-- What a call on one leg does to what all the legs tell.
use Rattle.std.proofs.Common.{true, false, Bool, Option, Some, None, refl, arith, ◌≡◌, ℕ, ◌<◌, List, map, length, get_or, sym, ◌∙◌, ap, subst, ◌⊎◌, inl, inr}
use Rattle.std.proofs.Math.Path.{fun_ext}
use Rattle.std.proofs.Math.ListN.{set, length-set}
use Rattle.std.proofs.Common.{get_or-set_same}
use Rattle.std.proofs.Math.Seq.{map-set_same}
use Rattle.std.proofs.lemmas.List.{get_or-map}
use Rattle.std.proofs.lemmas.Option.{slice_get-get_or}
use Rattle.std.specs.Prelude.{is_some, is_none, is_ok, Result, Ok, Err, OnErr, IfOk, MatchResult}
use Rattle.std.specs.Option.{option_map}
use Rattle.std.proofs.lemmas.Result.{IfOk-weaker}
use Rattle.mdc_types.specs.declared.failed.Failed.{Failed}
use Rattle.mdc_types.specs.Faults.{HasCause, Rose}
use Rattle.mdc_types.specs.Sectors.{zero_sector}
use Rattle.mdc_types.specs.declared.numbers.Sector.{Sector}
use Rattle.leg_store.specs.Leg.{put, HasLength, Gives, LeftOldOrNew}
use Rattle.leg_store.specs.Plans.{Plan, GoesByPlan, LeavesByPlan, LeftAs, planned_failure, one_later}
use Rattle.leg_store.specs.declared.memory.Left.{Left}
use Rattle.leg_store.specs.declared.memory.Left.TheVariants.{Old, New}
use Rattle.cluster_model.specs.State.{Legs}
use Rattle.cluster_model.specs.Run.{put as moved, Gives as TellsAt}
use Rattle.world_state.specs.Told.{legs_of, sectors_of, LegsSeen, Sent, Received, fault_at}
use Rattle.world_state.proofs.Points.{get-set}

pub record SameLegs (a b : Legs) : Type 0 where
  pub told : (l : ℕ) → a.told l ≡ b.told l
  pub content : (l s : ℕ) → a.content l s ≡ b.content l s

abbrev legs_from : (ℕ → Bool) → (ℕ → ℕ → Sector) → Legs
legs_from t c = record { told = t; content = c }

same_parts : (t t1 : ℕ → Bool) (c c1 : ℕ → ℕ → Sector) → t ≡ t1 → c ≡ c1 → legs_from t c ≡ legs_from t1 c1
same_parts t t1 c c1 e0 e1 = rw (e0, e1) refl

same_legs : (a b : Legs) → SameLegs a b → a ≡ b
same_legs a b s = same_parts _ _ _ _ (fun_ext s.told) (fun_ext (λ l. fun_ext (s.content l)))

-- what is told of a leg that was written
told_put : (cs : List (Option (List Sector))) (x : Option (List Sector)) (l s size : ℕ) (v : Sector) → l < length cs → get_or cs l None ≡ x → HasLength x size → s < size → SameLegs (legs_of (set cs l (put x s v))) (moved (legs_of cs) l s v)
told_put cs None l s size v lt is long within = grind (arith, get-set)
told_put cs (Some c) l s size v lt is long within = grind (arith, get-set)

legs_put : (cs : List (Option (List Sector))) (l s size : ℕ) (v : Sector) → l < length cs → HasLength (get_or cs l None) size → s < size → legs_of (set cs l (put (get_or cs l None) s v)) ≡ moved (legs_of cs) l s v
legs_put cs l s size v lt long within = same_legs _ _ (told_put cs (get_or cs l None) l s size v lt refl long within)

-- a leg that is as it was
told_same : (cs : List (Option (List Sector))) (l : ℕ) → l < length cs → legs_of (set cs l (get_or cs l None)) ≡ legs_of cs
told_same cs l lt = same_legs _ _ (grind (arith, get-set))

-- what a read of a leg gives
gives : (x : Option (List Sector)) (s size : ℕ) (v : Sector) → HasLength x size → s < size → Gives x s v → is_some x ≡ true → v ≡ get_or (sectors_of x) s zero_sector
gives None s size v long within g told = cc
gives (Some c) s size v long within g told = grind (arith, slice_get-get_or c s zero_sector (omega (arith, long, within)))

later_by_plan : (p : Option Plan) (ok : Bool) (now : Option Plan) → GoesByPlan p ok now → now ≡ option_map one_later p
later_by_plan None ok now goes = goes
later_by_plan (Some p) ok now goes = goes.1

ok_by_plan : (x : Option Plan) (p : Plan) (ok : Bool) (now : Option Plan) → GoesByPlan x ok now → x ≡ Some p → ok ≡ is_none (planned_failure p)
ok_by_plan None p ok now goes is = cc
ok_by_plan (Some q) p ok now goes is = grind (arith, goes.0)

left_by_plan : (x : Option Plan) (p : Plan) (f : Option Left) (old : Option (List Sector)) (s : ℕ) (v : Sector) (now : Option (List Sector)) → LeavesByPlan x old s v now → x ≡ Some p → planned_failure p ≡ f
    → (f ≡ Some New → now ≡ put old s v) × (f ≡ Some Old → now ≡ old)
left_by_plan None p f old s v now leaves is fails = cc
left_by_plan (Some q) p None old s v now leaves is fails = (λ e. cc, λ e. cc)
left_by_plan (Some q) p (Some New) old s v now leaves is fails =
    let same : planned_failure q ≡ Some New = grind (arith, is, fails) in
    (λ e. subst (λ x. LeftAs x old s v now) same leaves, λ e. cc)
left_by_plan (Some q) p (Some Old) old s v now leaves is fails =
    let same : planned_failure q ≡ Some Old = grind (arith, is, fails) in
    (λ e. cc, λ e. subst (λ x. LeftAs x old s v now) same leaves)

abbrev seen : List (Option (List Sector)) → List ℕ → List ℕ → List (Option Plan) → LegsSeen
seen cs ss fs ps = record { contents = cs; sizes = ss; faults = fs; plans = ps }

-- a write of leg l, which has so many sectors
module _ (cs : List (Option (List Sector))) (ss fs : List ℕ) (ps : List (Option Plan)) (l s size : ℕ) (v : Sector) (ok : Bool)
    (c : Option (List Sector)) (f : ℕ) (p : Option Plan)
    (lt : l < length cs) (lt_f : l < length fs) (long : HasLength (get_or cs l None) size) (within : s < size) where
  left_legs : LeftOldOrNew (get_or cs l None) s v c → (legs_of (set cs l c) ≡ legs_of cs) ⊎ (legs_of (set cs l c) ≡ moved (legs_of cs) l s v)
  left_legs (inl old) = inl (rw old (told_same cs l lt))
  left_legs (inr new) = inr (rw new (legs_put cs l s size v lt long within))

  pub sent_of : (ok ≡ true → c ≡ put (get_or cs l None) s v) → LeftOldOrNew (get_or cs l None) s v c
      → (ok ≡ false → Rose (get_or fs l 0) f) → GoesByPlan (get_or ps l None) ok p → LeavesByPlan (get_or ps l None) (get_or cs l None) s v c
      → Sent false l s v ok (seen cs ss fs ps) (seen (set cs l c) ss (set fs l f) (set ps l p))
  sent_of done left rose goes leaves = record {
    sizes = refl;
    reached = λ e. refl;
    written = λ e. rw (done e) (legs_put cs l s size v lt long within);
    same = λ e. cc;
    left = left_legs left;
    cause = λ e. inr (rw (get_or-set_same fs l f 0 lt_f) (rose e));
    plans = ap (set ps l) (later_by_plan (get_or ps l None) ok p goes);
    planned = λ q e is. ok_by_plan (get_or ps l None) q ok p goes is;
    leaves_new = λ q e is fails. rw ((left_by_plan (get_or ps l None) q (Some New) (get_or cs l None) s v c leaves is fails).0 refl) (legs_put cs l s size v lt long within);
    leaves_old = λ q e is fails. rw ((left_by_plan (get_or ps l None) q (Some Old) (get_or cs l None) s v c leaves is fails).1 refl) (told_same cs l lt);
  }

module _ {X Y : Type 0} (f : X → Y) (xs : List X) (i : ℕ) (old new : X) (lt : i < length xs) (is : old ≡ get_or xs i old) where
  pub mapped_same : f new ≡ f old → map f (set xs i new) ≡ map f xs
  mapped_same same = map-set_same f xs i new old (same ∙ ap f is)

  pub mapped_at : (e : Y) → get_or (map f xs) i e ≡ f old
  mapped_at e = get_or-map f xs i old e lt ∙ ap f (sym is)

-- a read of leg l
module _ (cs : List (Option (List Sector))) (ss fs : List ℕ) (ps : List (Option Plan)) (l s size : ℕ) (result : Result Sector Failed)
    (f : ℕ) (p : Option Plan) (lt_f : l < length fs) (long : HasLength (get_or cs l None) size) (within : s < size) where
  pub received_of : IfOk result (λ v. Gives (get_or cs l None) s v) → (is_ok result ≡ false → Rose (get_or fs l 0) f)
      → GoesByPlan (get_or ps l None) (is_ok result) p
      → Received false l s result (seen cs ss fs ps) (seen cs ss (set fs l f) (set ps l p))
  received_of value rose goes = record {
    sizes = refl;
    reached = λ e. refl;
    value = IfOk-weaker result _ _ (λ v given. gives (get_or cs l None) s size v long within given) value;
    same = refl;
    cause = λ e. inr (rw (get_or-set_same fs l f 0 lt_f) (rose e));
    plans = ap (set ps l) (later_by_plan (get_or ps l None) (is_ok result) p goes);
    planned = λ q e is. ok_by_plan (get_or ps l None) q (is_ok result) p goes is;
  }

pub rose_if_not : {T E : Type 0} (r : Result T E) (before now : ℕ) → HasCause (λ e. true) before now r → is_ok r ≡ false → Rose before now
rose_if_not (Ok x) before now h e = cc
rose_if_not (Err x) before now h e = h.failed x refl refl

pub if_ok : {T E : Type 0} (r : Result T E) (P : T → Type 0) (Q : E → Type 0) (X : Type 0) → MatchResult r P Q → ((t : T) → P t → X) → is_ok r ≡ true → X
if_ok (Ok t) P Q X m f e = f t m
if_ok (Err x) P Q X m f e = cc

pub either : {T E : Type 0} (r : Result T E) (P : T → Type 0) (Q : E → Type 0) (X : Type 0) → MatchResult r P Q → ((t : T) → P t → X) → ((e : E) → Q e → X) → X
either (Ok t) P Q X m f g = f t m
either (Err x) P Q X m f g = g x m
