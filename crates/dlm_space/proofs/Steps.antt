-- The clauses of the code's calls, where they return Ok, make steps of the machine.
use Rattle.std.proofs.Common.{◌≡◌, ◌<◌, ℕ, List, [], ◌∷◌, Option, Some, Result, Ok, Err, IfOk, OnOk, refl, sym, ap, ◌∙◌, subst}
use Rattle.std.specs.Result.{result_err}
use Rattle.dlm_modes.specs.declared.block.Block.{Block}
use Rattle.dlm_modes.specs.declared.mode.Mode.{Mode}
use Rattle.dlm_modes.specs.Points.{with_at}
use Rattle.dlm_space.specs.Locks.{Lock, new_locks, ask_refusal, ask_now_refusal, convert_refusal, convert_now_refusal, grant_refusal, release_refusal, asked, asked_now, converted, converted_now, granted, released, all_died, valid_block, convert_answer, grant_answer}
use Rattle.dlm_space.specs.Parts.{Part, locks_of}
use Rattle.dlm_space.specs.Calls.{Call, Asks, AsksNow, Converts, ConvertsNow, Grants, Releases, Dies, effect, IsAccepted, AreAccepted, locks_after}
use Rattle.dlm_space.specs.declared.answers.Converted.{Converted}
use Rattle.dlm_space.specs.declared.answers.Granted.{Granted}
use Rattle.dlm_space.specs.declared.answers.LockError.{LockError}

pub record Steps (locks : ℕ → Lock) (call : Call) (after : ℕ → Lock) : Type 0 where
  pub accepted : IsAccepted locks call
  pub leads : after ≡ effect locks call

pub record Runs (past : List Call) (locks : ℕ → Lock) : Type 0 where
  pub accepted : AreAccepted past
  pub leads : locks ≡ locks_after past

-- the empty space, and one call more
pub runs_new : Runs [] new_locks
runs_new = record { accepted = tt; leads = refl }

pub runs_on : (past : List Call) (locks after : ℕ → Lock) (call : Call) → Runs past locks → Steps locks call after → Runs (call ∷ past) after
runs_on past locks after call run step = record {
  accepted = (run.accepted, subst (λ l. IsAccepted l call) run.leads step.accepted);
  leads = step.leads ∙ ap (λ l. effect l call) run.leads;
}

module _ (old new : List Part) where
  pub ask_steps : (n r : ℕ) (mode : Mode) (result : Result (Unit {0}) LockError) → n < 16 → result ≡ Ok tt → result_err result ≡ ask_refusal (locks_of old r) n → OnOk result (locks_of new ≡ with_at (locks_of old) r (asked (locks_of old r) n mode)) → Steps (locks_of old) (Asks n r mode) (locks_of new)
  ask_steps n r mode (Ok u) lt is refused ok = record {
    accepted = record { node = lt; accepted = sym refused; answers = tt };
    leads = ok;
  }
  ask_steps n r mode (Err e) lt is refused ok = cc

  pub ask_now_steps : (n r : ℕ) (mode : Mode) (given : Option Block) (result : Result (Option Block) LockError) → n < 16 → result ≡ Ok given → result_err result ≡ ask_now_refusal (locks_of old r) n mode → IfOk result (λ value. value ≡ valid_block (locks_of old r)) → OnOk result (locks_of new ≡ with_at (locks_of old) r (asked_now (locks_of old r) n mode)) → Steps (locks_of old) (AsksNow n r mode given) (locks_of new)
  ask_now_steps n r mode given (Ok value) lt is refused answer ok =
      let same : value ≡ given = cc in
      record { accepted = record { node = lt; accepted = sym refused; answers = sym same ∙ answer }; leads = ok }
  ask_now_steps n r mode given (Err e) lt is refused answer ok = cc

  pub convert_steps : (n r : ℕ) (mode : Mode) (value : Option Block) (c : Converted) (result : Result Converted LockError) → n < 16 → result ≡ Ok c → result_err result ≡ convert_refusal (locks_of old r) n → IfOk result (λ c. c ≡ convert_answer (locks_of old r) n mode) → OnOk result (locks_of new ≡ with_at (locks_of old) r (converted (locks_of old r) n mode value)) → Steps (locks_of old) (Converts n r mode value c) (locks_of new)
  convert_steps n r mode value c (Ok d) lt is refused answer ok =
      let same : d ≡ c = cc in
      record { accepted = record { node = lt; accepted = sym refused; answers = sym same ∙ answer }; leads = ok }
  convert_steps n r mode value c (Err e) lt is refused answer ok = cc

  pub convert_now_steps : (n r : ℕ) (mode : Mode) (result : Result (Unit {0}) LockError) → n < 16 → result ≡ Ok tt → result_err result ≡ convert_now_refusal (locks_of old r) n mode → OnOk result (locks_of new ≡ with_at (locks_of old) r (converted_now (locks_of old r) n mode)) → Steps (locks_of old) (ConvertsNow n r mode) (locks_of new)
  convert_now_steps n r mode (Ok u) lt is refused ok = record {
    accepted = record { node = lt; accepted = sym refused; answers = tt };
    leads = ok;
  }
  convert_now_steps n r mode (Err e) lt is refused ok = cc

  pub grant_steps : (r : ℕ) (g : Granted) (result : Result Granted LockError) → result ≡ Ok g → result_err result ≡ grant_refusal (locks_of old r) → IfOk result (λ g. Some g ≡ grant_answer (locks_of old r)) → OnOk result (locks_of new ≡ with_at (locks_of old) r (granted (locks_of old r))) → Steps (locks_of old) (Grants r g) (locks_of new)
  grant_steps r g (Ok h) is refused answer ok =
      let same : h ≡ g = cc in
      record { accepted = record { node = tt; accepted = sym refused; answers = ap Some (sym same) ∙ answer }; leads = ok }
  grant_steps r g (Err e) is refused answer ok = cc

  pub release_steps : (n r : ℕ) (value : Option Block) (result : Result (Unit {0}) LockError) → n < 16 → result ≡ Ok tt → result_err result ≡ release_refusal (locks_of old r) n → OnOk result (locks_of new ≡ with_at (locks_of old) r (released (locks_of old r) n value)) → Steps (locks_of old) (Releases n r value) (locks_of new)
  release_steps n r value (Ok u) lt is refused ok = record {
    accepted = record { node = lt; accepted = sym refused; answers = tt };
    leads = ok;
  }
  release_steps n r value (Err e) lt is refused ok = cc

  pub die_steps : (n : ℕ) → n < 16 → locks_of new ≡ all_died (locks_of old) n → Steps (locks_of old) (Dies n) (locks_of new)
  die_steps n lt e = record { accepted = record { node = lt; accepted = refl; answers = tt }; leads = e }
