-- What was looked up is what the rules look up.
use Rattle.std.proofs.Common.{◌≡◌, ℕ, Bool, true, false, not, refl, ap, sym, ◌∙◌, Option, Some, None}
use Rattle.std.specs.Prelude.{option_map, is_some, is_none, is_ok, Result, Ok, Err}
use Rattle.mdc_types.specs.declared.refusals.Refusal.{Refusal}
use Rattle.leg_failure.specs.Views.{works, is_target}
use Rattle.node_recovery.specs.Progress.{Recovering, unread, uncleared}
use Rattle.node_copies.specs.Recoveries.{page_unread, page_uncleared}
use Rattle.cluster_model.specs.State.{Core, sizes}
use Rattle.world_state.specs.Kept.{Judges}
use Rattle.driver_rules.specs.Lines.{unread_in, uncleared_in}

pub unread_is : (core : Core) (n : ℕ) (x : Option Recovering) (legs : ℕ → Bool) → legs ≡ works (core.view n) → page_unread (sizes core) x legs ≡ unread_in core n x
unread_is core n None legs same = refl
unread_is core n (Some r) legs same = ap (unread (sizes core) r) same

pub uncleared_is : (core : Core) (n : ℕ) (x : Option Recovering) (legs : ℕ → Bool) → legs ≡ is_target (core.view n) → page_uncleared (sizes core) x legs ≡ uncleared_in core n x
uncleared_is core n None legs same = refl
uncleared_is core n (Some r) legs same = ap (uncleared (sizes core) r) same

pub some_map : {A B : Type 0} (f : A → B) (x : Option A) → is_some (option_map f x) ≡ is_some x
some_map f None = refl
some_map f (Some a) = refl

pub none_is : {A : Type 0} (x : Option A) (b : Bool) → is_some x ≡ not b → b ≡ is_none x
none_is None true is = refl
none_is None false is = cc
none_is (Some a) true is = cc
none_is (Some a) false is = refl

-- a guard lets through where its judgement is `Ok`
pub ok_is : {T : Type 0} (x : Result T Refusal) (guard : Option Refusal) → Judges x guard → is_ok x ≡ is_none guard
ok_is (Ok t) guard is = sym (ap is_none is)
ok_is (Err r) guard is = sym (ap is_none is)
