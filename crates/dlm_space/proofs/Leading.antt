-- Lists of accepted calls, one after the other, and the calls that lead to a known lock.
use Rattle.std.proofs.Common.{◌≡◌, ◌<◌, ℕ, List, [], ◌∷◌, ◌++◌, true, false, Option, Some, None, refl, sym, ap, ◌∙◌, subst}
use Rattle.dlm_modes.specs.Modes.{weaker}
use Rattle.dlm_modes.specs.Points.{with_at}
use Rattle.dlm_modes.specs.declared.block.Block.{Block}
use Rattle.dlm_modes.specs.declared.mode.Mode.{Mode}
use Rattle.dlm_space.specs.Locks.{Lock, mode_of, new_locks, ask_refusal, ask_now_refusal, convert_refusal, convert_now_refusal, grant_refusal, release_refusal, holding, with_value, asked, queued, converted_value, converted, granted, let_go, all_died, valid_block, grant_answer}
use Rattle.dlm_space.specs.Calls.{Call, Asks, AsksNow, Converts, ConvertsNow, Grants, Releases, Dies, effect, IsAccepted, locks_from, AreAcceptedFrom, Leads, locks_after, AreAccepted}
use Rattle.dlm_space.specs.declared.answers.Converted.TheVariants.{Now, Queued}
use Rattle.dlm_space.specs.declared.answers.Granted.{Granted}
use Rattle.dlm_space.proofs.Releasing.{released_alone}

pub locks_from-append : (locks : ℕ → Lock) (calls past : List Call) → locks_from locks (calls ++ past) ≡ locks_from (locks_from locks past) calls
locks_from-append locks [] past = refl
locks_from-append locks (call ∷ calls) past = ap (λ l. effect l call) (locks_from-append locks calls past)

pub accepted-append : (locks : ℕ → Lock) (calls past : List Call) → AreAcceptedFrom locks past → AreAcceptedFrom (locks_from locks past) calls → AreAcceptedFrom locks (calls ++ past)
accepted-append locks [] past a b = a
accepted-append locks (call ∷ calls) past a (b, c) =
    (accepted-append locks calls past a b, subst (λ l. IsAccepted l call) (sym (locks_from-append locks calls past)) c)

-- no call, and one list of calls after another
pub leads_nowhere : (locks : ℕ → Lock) → Leads locks [] locks
leads_nowhere locks = record { accepted = tt; leads = refl }

pub leads_on : (locks now after : ℕ → Lock) (past calls : List Call) → Leads locks past now → Leads now calls after → Leads locks (calls ++ past) after
leads_on locks now after past calls p c = record {
  accepted = accepted-append locks calls past p.accepted (subst (λ l. AreAcceptedFrom l calls) (sym p.leads) c.accepted);
  leads = locks_from-append locks calls past ∙ ap (λ l. locks_from l calls) p.leads ∙ c.leads;
}

-- what was accepted from the empty space on
pub leads_after : (past : List Call) → AreAccepted past → Leads new_locks past (locks_after past)
leads_after past ok = record { accepted = ok; leads = refl }

-- One call.

pub one_leads : (locks after : ℕ → Lock) (call : Call) → IsAccepted locks call → effect locks call ≡ after → Leads locks (call ∷ []) after
one_leads locks after call a e = record { accepted = (tt, a); leads = e }

pub ask_leads : (locks : ℕ → Lock) (n r : ℕ) (mode : Mode) → n < 16 → ask_refusal (locks r) n ≡ None → Leads locks (Asks n r mode ∷ []) (with_at locks r (asked (locks r) n mode))
ask_leads locks n r mode lt e = record { accepted = (tt, record { node = lt; accepted = e; answers = tt }); leads = refl }

-- what is given is the block, where it is valid
pub ask_now_leads : (locks : ℕ → Lock) (n r : ℕ) (mode : Mode) (given : Option Block) → n < 16 → ask_now_refusal (locks r) n mode ≡ None → given ≡ valid_block (locks r) → Leads locks (AsksNow n r mode given ∷ []) (with_at locks r (holding (locks r) n mode))
ask_now_leads locks n r mode given lt e g = record { accepted = (tt, record { node = lt; accepted = e; answers = g }); leads = refl }

lowers : (lock : Lock) (n : ℕ) (mode : Mode) (value : Option Block) → weaker (mode_of lock n) mode ≡ true → converted_value (mode_of lock n) mode value ≡ value → converted lock n mode value ≡ holding (with_value lock value) n mode
lowers lock n mode value w v = rw (w, v) refl

-- a conversion to a weaker mode that writes the value that is given, or is given none
pub lower_leads : (locks : ℕ → Lock) (n r : ℕ) (mode : Mode) (value : Option Block) → n < 16 → convert_refusal (locks r) n ≡ None → weaker (mode_of (locks r) n) mode ≡ true → converted_value (mode_of (locks r) n) mode value ≡ value → Leads locks (Converts n r mode value Now ∷ []) (with_at locks r (holding (with_value (locks r) value) n mode))
lower_leads locks n r mode value lt e w v = record {
  accepted = (tt, record { node = lt; accepted = e; answers = rw w refl });
  leads = ap (with_at locks r) (lowers (locks r) n mode value w v);
}

-- a conversion that waits
pub raise_leads : (locks : ℕ → Lock) (n r : ℕ) (mode : Mode) (value : Option Block) → n < 16 → convert_refusal (locks r) n ≡ None → weaker (mode_of (locks r) n) mode ≡ false → Leads locks (Converts n r mode value Queued ∷ []) (with_at locks r (queued (locks r) n mode))
raise_leads locks n r mode value lt e w = record {
  accepted = (tt, record { node = lt; accepted = e; answers = rw w refl });
  leads = ap (with_at locks r) (rw w refl);
}

-- a release without a value
pub release_leads : (locks : ℕ → Lock) (n r : ℕ) → n < 16 → release_refusal (locks r) n ≡ None → Leads locks (Releases n r None ∷ []) (with_at locks r (let_go (locks r) n))
release_leads locks n r lt e = record {
  accepted = (tt, record { node = lt; accepted = e; answers = tt });
  leads = ap (with_at locks r) (released_alone (locks r) n);
}

pub convert_now_leads : (locks : ℕ → Lock) (n r : ℕ) (mode : Mode) → n < 16 → convert_now_refusal (locks r) n mode ≡ None → Leads locks (ConvertsNow n r mode ∷ []) (with_at locks r (holding (locks r) n mode))
convert_now_leads locks n r mode lt e = record { accepted = (tt, record { node = lt; accepted = e; answers = tt }); leads = refl }

pub grant_leads : (locks : ℕ → Lock) (r : ℕ) (g : Granted) → grant_refusal (locks r) ≡ None → Some g ≡ grant_answer (locks r) → Leads locks (Grants r g ∷ []) (with_at locks r (granted (locks r)))
grant_leads locks r g e a = record { accepted = (tt, record { node = tt; accepted = e; answers = a }); leads = refl }

pub die_leads : (locks : ℕ → Lock) (n : ℕ) → n < 16 → Leads locks (Dies n ∷ []) (all_died locks n)
die_leads locks n lt = record { accepted = (tt, record { node = lt; accepted = refl; answers = tt }); leads = refl }
