-- Alternatives in order, and events that are allowed.
use Rattle.std.proofs.Common.{◌≡◌, Bool, true, false, List, ◌∷◌, [], Option, Some, None, refl, if◌then◌else◌}
use Rattle.dlm_modes.specs.Guards.{first_of}
use Rattle.mdc_types.specs.declared.events.Event.{Event}
use Rattle.cluster_model.specs.State.{Core}
use Rattle.driver_rules.specs.Lines.{allowed, allowed_at}

-- the first alternative, those after it, and the last

pub first_here : {R : Type 0} (a : Option R) (r : R) (rest : List (Option R)) → a ≡ Some r → first_of (a ∷ rest) ≡ Some r
first_here a r rest is = rw is refl

pub first_next : {R : Type 0} (a : Option R) (rest : List (Option R)) → a ≡ None → first_of (a ∷ rest) ≡ first_of rest
first_next a rest is = rw is refl

pub first_last : {R : Type 0} (a : Option R) → first_of (a ∷ []) ≡ a
first_last None = refl
first_last (Some r) = refl

-- an event of what was found, or none

pub at_none : {A : Type 0} (core : Core) (e : A → Event) (x : Option A) → x ≡ None → allowed_at core e x ≡ None
at_none core e x is = rw is refl

pub at_some : {A : Type 0} (core : Core) (e : A → Event) (x : Option A) (a : A) → x ≡ Some a → allowed_at core e x ≡ allowed core (e a)
at_some core e x a is = rw is refl

-- what a test gives, before another

pub if_found : {A : Type 0} (b : Bool) (a r : A) (rest : Option A) → (if b then Some a else None) ≡ Some r → (if b then Some a else rest) ≡ Some r
if_found true a r rest is = is
if_found false a r rest is = cc

pub if_not_found : {A : Type 0} (b : Bool) (a : A) (rest : Option A) → (if b then Some a else None) ≡ None → (if b then Some a else rest) ≡ rest
if_not_found true a rest is = cc
if_not_found false a rest is = refl
