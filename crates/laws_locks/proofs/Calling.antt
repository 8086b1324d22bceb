-- The calls that a row makes are accepted one after another, and lead to the locks after it.
use Rattle.std.proofs.Common.{◌≡◌, ◌<◌, ◌≤◌, ℕ, Bool, true, false, List, [], ◌∷◌, ◌++◌, Option, Some, None, refl, sym, ap, ◌∙◌, subst, arith, ◌==◌, if◌then◌else◌}
use Rattle.std.specs.Prelude.{is_none, is_some}
use Rattle.std.proofs.lemmas.Bool.Decides.{nat_tests}
use Rattle.dlm_modes.specs.Modes.{weaker}
use Rattle.dlm_modes.specs.Points.{with_at}
use Rattle.dlm_modes.specs.declared.block.Block.{Block}
use Rattle.dlm_modes.specs.declared.mode.Mode.{Mode}
use Rattle.dlm_modes.specs.declared.mode.Mode.TheVariants.{CR, PW, EX}
use Rattle.dlm_space.specs.declared.ask.Ask.{Ask}
use Rattle.dlm_space.specs.declared.answers.Granted.{Granted}
use Rattle.dlm_space.specs.Queues.{head}
use Rattle.dlm_space.specs.Locks.{Lock, new_locks, mode_of, holding, converted_value, let_go, all_let_go, granted, grant_answer, answer_from, grant_refusal, convert_refusal, convert_now_refusal, ask_now_refusal, release_refusal, valid_block}
use Rattle.dlm_space.specs.Calls.{Call, AsksNow, Converts, ConvertsNow, Releases, Leads}
use Rattle.dlm_space.specs.declared.answers.Converted.TheVariants.{Now}
use Rattle.mdc_types.specs.declared.events.Wish.TheVariants as wishes
use Rattle.std.proofs.Math.Path.{fun_ext}
use Rattle.dlm_space.specs.Releasing.{releases_of}
use Rattle.dlm_space.specs.Orderly.{IsOrderly}
use Rattle.dlm_space.proofs.Leading.{leads_nowhere, leads_on, ask_now_leads, lower_leads, release_leads, convert_now_leads, grant_leads}
use Rattle.dlm_space.proofs.Releasing.{all_let_go_leads, nothing_to_let_go}
use Rattle.dlm_space.proofs.Runs.{runs_orderly}
use Rattle.mdc_types.specs.declared.numbers.Range.{Range}
use Rattle.cluster_msgs.specs.Ranges.{spelled_range}
use Rattle.msg_rounds.specs.Refusals.{is_ex}
use Rattle.cluster_model.specs.Changes.{no_new_dev, device_unlocked}
use Rattle.cluster_model.specs.Publishing.{range_told}
use Rattle.cluster_model.specs.Processing.{device_lock_kept}
use Rattle.laws_locks.specs.Called.{ranging, unlocking, keeping, seeing, locking, grant_calls}

-- nothing is held past the resources
abbrev pub Far : (ℕ → Lock) → Type 0
Far locks = (r n : ℕ) → 21 ≤ r → (locks r).held n ≡ None

pub far_at : (locks : ℕ → Lock) (j : ℕ) (lock : Lock) → j < 21 → Far locks → Far (with_at locks j lock)
far_at locks j lock lt f r n le = by_test (r == j) (λ e. grind (arith, nat_tests))
  where
    by_test : (b : Bool) → (b ≡ true → ⊥) → (if b then lock else locks r).held n ≡ None
    by_test true never = absurd (never refl)
    by_test false never = f r n le

-- the calls lead there, and still nothing is held past the resources
pub record Makes (locks : ℕ → Lock) (calls : List Call) (now : ℕ → Lock) : Type 0 where
  pub leads : Leads locks calls now
  pub far : Far locks → Far now

pub makes_none : (locks : ℕ → Lock) → Makes locks [] locks
makes_none locks = record { leads = leads_nowhere locks; far = λ f. f }

pub makes_on : (locks mid now : ℕ → Lock) (past calls : List Call) → Makes locks past mid → Makes mid calls now → Makes locks (calls ++ past) now
makes_on locks mid now past calls a b = record { leads = leads_on locks mid now past calls a.leads b.leads; far = λ f. b.far (a.far f) }

pub orderly_at : (past : List Call) (locks : ℕ → Lock) → Leads new_locks past locks → (r : ℕ) → IsOrderly (locks r)
orderly_at past locks l r = subst (λ x. IsOrderly (x r)) l.leads (runs_orderly past l.accepted r)

pub releases_make : (locks : ℕ → Lock) (n : ℕ) → n < 16 → ((r : ℕ) → IsOrderly (locks r)) → Far locks → Makes locks (releases_of locks n) (all_let_go locks n)
releases_make locks n lt i f = record {
  leads = all_let_go_leads locks n lt i (λ r le. f r n le);
  far = λ f r m le. still (f r m le) (m == n);
}
  where
    still : {held : Option Mode} → held ≡ None → (b : Bool) → (if b then None else held) ≡ None
    still e true = refl
    still e false = e

ex_is : (held : Option Mode) → is_ex held ≡ true → held ≡ Some EX
ex_is held e = grind arith

lowers_ex : (lock : Lock) (n : ℕ) → lock.held n ≡ Some EX → (weaker (mode_of lock n) CR ≡ true) × (converted_value (mode_of lock n) CR None ≡ None)
lowers_ex lock n e = (rw e refl, rw e refl)

pub unlocking_makes : (locks : ℕ → Lock) (n : ℕ) → n < 16 → (is_ex ((locks no_new_dev).held n) ≡ true → convert_refusal (locks no_new_dev) n ≡ None) → Makes locks (unlocking locks n) (device_unlocked locks n)
unlocking_makes locks n lt may = by_test (is_ex ((locks no_new_dev).held n)) refl
  where
    by_test : (b : Bool) → is_ex ((locks no_new_dev).held n) ≡ b → Makes locks (if b then Converts n no_new_dev CR None Now ∷ [] else []) (if b then with_at locks no_new_dev (holding (locks no_new_dev) n CR) else locks)
    by_test true e =
        let l = lowers_ex (locks no_new_dev) n (ex_is _ e) in
        record { leads = lower_leads locks n no_new_dev CR None lt (may e) l.0 l.1; far = far_at locks no_new_dev _ (omega arith) }
    by_test false e = makes_none locks

pub keeping_makes : (locks : ℕ → Lock) (n : ℕ) → n < 16 → (is_none ((locks no_new_dev).held n) ≡ true → ask_now_refusal (locks no_new_dev) n CR ≡ None) → Makes locks (keeping locks n) (device_lock_kept locks n)
keeping_makes locks n lt may = by_test (is_none ((locks no_new_dev).held n)) refl
  where
    by_test : (b : Bool) → is_none ((locks no_new_dev).held n) ≡ b → Makes locks (if b then AsksNow n no_new_dev CR (valid_block (locks no_new_dev)) ∷ [] else []) (if b then with_at locks no_new_dev (holding (locks no_new_dev) n CR) else locks)
    by_test true e = record { leads = ask_now_leads locks n no_new_dev CR _ lt (may e) refl; far = far_at locks no_new_dev _ (omega arith) }
    by_test false e = makes_none locks

may_release : (lock : Lock) (n : ℕ) → is_some (lock.held n) ≡ true → release_refusal lock n ≡ None
may_release lock n e = rw e refl

none_is : (held : Option Mode) → is_some held ≡ false → held ≡ None
none_is held e = grind arith

with_itself : (locks : ℕ → Lock) (j : ℕ) (lock : Lock) → lock ≡ locks j → with_at locks j lock ≡ locks
with_itself locks j lock e = fun_ext (λ r. by_test r (r == j) (λ t. grind (arith, nat_tests)))
  where
    by_test : (r : ℕ) (b : Bool) → (b ≡ true → r ≡ j) → (if b then lock else locks r) ≡ locks r
    by_test r true is = e ∙ ap locks (sym (is refl))
    by_test r false is = refl

releasing_makes : (locks : ℕ → Lock) (n : ℕ) → n < 16 → IsOrderly (locks no_new_dev) → Makes locks (if is_some ((locks no_new_dev).held n) then Releases n no_new_dev None ∷ [] else []) (with_at locks no_new_dev (let_go (locks no_new_dev) n))
releasing_makes locks n lt i = by_test (is_some ((locks no_new_dev).held n)) refl
  where
    by_test : (b : Bool) → is_some ((locks no_new_dev).held n) ≡ b → Makes locks (if b then Releases n no_new_dev None ∷ [] else []) (with_at locks no_new_dev (let_go (locks no_new_dev) n))
    by_test true e = record { leads = release_leads locks n no_new_dev lt (may_release (locks no_new_dev) n e); far = far_at locks no_new_dev _ (omega arith) }
    by_test false e = subst (Makes locks []) (sym (with_itself locks no_new_dev (let_go (locks no_new_dev) n) (nothing_to_let_go (locks no_new_dev) n i (none_is _ e)))) (makes_none locks)

pub seeing_makes : (locks : ℕ → Lock) (n : ℕ) (cut : Bool) → n < 16 → IsOrderly (locks no_new_dev) → (is_none ((locks no_new_dev).held n) ≡ true → ask_now_refusal (locks no_new_dev) n CR ≡ None) → Makes locks (seeing locks n cut) (if cut then device_lock_kept locks n else with_at locks no_new_dev (let_go (locks no_new_dev) n))
seeing_makes locks n true lt i may = keeping_makes locks n lt may
seeing_makes locks n false lt i may = releasing_makes locks n lt i

held_some : (held : Option Mode) → is_none held ≡ false → is_some held ≡ true
held_some held e = grind arith

pub locking_makes : (locks : ℕ → Lock) (n : ℕ) → n < 16 → (is_none ((locks no_new_dev).held n) ≡ true → ask_now_refusal (locks no_new_dev) n EX ≡ None) → (is_some ((locks no_new_dev).held n) ≡ true → convert_now_refusal (locks no_new_dev) n EX ≡ None) → Makes locks (locking locks n) (with_at locks no_new_dev (holding (locks no_new_dev) n EX))
locking_makes locks n lt ask convert = by_test (is_none ((locks no_new_dev).held n)) refl
  where
    by_test : (b : Bool) → is_none ((locks no_new_dev).held n) ≡ b → Makes locks (if b then AsksNow n no_new_dev EX (valid_block (locks no_new_dev)) ∷ [] else ConvertsNow n no_new_dev EX ∷ []) (with_at locks no_new_dev (holding (locks no_new_dev) n EX))
    by_test true e = record { leads = ask_now_leads locks n no_new_dev EX _ lt (ask e) refl; far = far_at locks no_new_dev _ (omega arith) }
    by_test false e = record { leads = convert_now_leads locks n no_new_dev EX lt (convert (held_some _ e)); far = far_at locks no_new_dev _ (omega arith) }

lowers_pw : (lock : Lock) (n : ℕ) (b : Block) → lock.held n ≡ Some PW → (weaker (mode_of lock n) PW ≡ true) × (converted_value (mode_of lock n) PW (Some b) ≡ Some b)
lowers_pw lock n b e = (rw e refl, rw e refl)

pub range_makes : (locks : ℕ → Lock) (n : ℕ) (r : Range) → n < 16 → convert_refusal (locks n) n ≡ None → (locks n).held n ≡ Some PW → Makes locks (ranging n (wishes.Range r)) (range_told locks n r)
range_makes locks n r lt may held =
    let l = lowers_pw (locks n) n (record { bytes = spelled_range r }) held in
    record { leads = lower_leads locks n n PW _ lt may l.0 l.1; far = far_at locks n _ (omega arith) }

-- a grant
answered : (lock : Lock) (conversions requests : List Ask) (a : Ask) → head conversions requests ≡ Some a → answer_from lock conversions requests ≡ None → ⊥
answered lock (b ∷ rest) requests a e f = cc
answered lock [] (b ∷ rest) a e f = cc
answered lock [] [] a e f = cc

pub grant_makes : (locks : ℕ → Lock) (r : ℕ) (a : Ask) → r < 21 → head (locks r).conversions (locks r).requests ≡ Some a → grant_refusal (locks r) ≡ None → Makes locks (grant_calls r (Some a) (grant_answer (locks r))) (with_at locks r (granted (locks r)))
grant_makes locks r a lt h may = by_answer (grant_answer (locks r)) refl
  where
    by_answer : (g : Option Granted) → grant_answer (locks r) ≡ g → Makes locks (grant_calls r (Some a) g) (with_at locks r (granted (locks r)))
    by_answer None e = absurd (answered (locks r) _ _ a h e)
    by_answer (Some g) e = record { leads = grant_leads locks r g may (sym e); far = far_at locks r _ lt }
