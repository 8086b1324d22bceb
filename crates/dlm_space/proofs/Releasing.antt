-- Letting go of all is a list of accepted releases.
use Rattle.std.proofs.Common.{◌≡◌, ◌<◌, ◌≤◌, nat_lt, ℕ, zero, suc, List, ◌∷◌, true, false, Option, Some, None, refl, sym, ap, ◌∙◌, arith, ◌==◌, if◌then◌else◌}
use Rattle.std.specs.Prelude.{is_some}
use Rattle.std.proofs.lemmas.Bool.Decides.{nat_tests}
use Rattle.std.proofs.Math.Path.{fun_ext}
use Rattle.dlm_modes.specs.Guards.{unless}
use Rattle.dlm_modes.specs.declared.mode.Mode.{Mode}
use Rattle.dlm_space.specs.Queues.{asks}
use Rattle.dlm_space.specs.Locks.{Lock, mode_of, is_writer, with_value, let_go, released, all_let_go}
use Rattle.dlm_space.specs.Calls.{Call, Releases, locks_from, AreAcceptedFrom, Leads}
use Rattle.dlm_space.specs.Orderly.{IsOrderly}
use Rattle.dlm_space.specs.Releasing.{releases_below, releases_of, AreReleased}
use Rattle.dlm_space.specs.declared.answers.LockError.TheVariants.{NotHeld}
use Rattle.dlm_space.proofs.QueueLaws.{without-none}
use Rattle.dlm_space.proofs.Changes.{none_written}

-- who holds nothing has nothing to let go
absent : (held : ℕ → Option Mode) (n m : ℕ) → held n ≡ None → (if m == n then None else held m) ≡ held m
absent held n m e = grind (arith, nat_tests)

not_converting : (lock : Lock) (n : ℕ) → IsOrderly lock → lock.held n ≡ None → asks n lock.conversions ≡ false
not_converting lock n i e = grind (arith, i.converter n)

pub nothing_to_let_go : (lock : Lock) (n : ℕ) → IsOrderly lock → lock.held n ≡ None → let_go lock n ≡ lock
nothing_to_let_go lock n i e = λ j. record lock {
  held = λ m. absent lock.held n m e j;
  conversions = without-none n lock.conversions (not_converting lock n i e) j;
}

-- a release without a value writes nothing
pub released_alone : (lock : Lock) (n : ℕ) → released lock n None ≡ let_go lock n
released_alone lock n = ap (λ value. let_go (with_value lock value) n) (none_written (is_writer (mode_of lock n)))

held_is : (held : Option Mode) → is_some held ≡ true → unless (is_some held) NotHeld ≡ None
held_is held e = rw e refl

holds_not : (held : Option Mode) → is_some held ≡ false → held ≡ None
holds_not None e = refl
holds_not (Some mode) e = cc

-- what was let go below k
abbrev Below : (ℕ → Lock) → ℕ → ℕ → (ℕ → Lock) → Type 0
Below locks n k now = (r : ℕ) → now r ≡ (if nat_lt r k then let_go (locks r) n else locks r)

here : {A : Type 0} (k : ℕ) (now gone old : A) → now ≡ (if nat_lt k k then gone else old) → now ≡ old
here k now gone old e = grind (arith, nat_tests)

on : {A : Type 0} (r k : ℕ) (new now gone old changed : A) → new ≡ (if r == k then changed else now) → (r ≡ k → changed ≡ gone) → now ≡ (if nat_lt r k then gone else old) → new ≡ (if nat_lt r (suc k) then gone else old)
on r k new now gone old changed e g f = grind (arith, nat_tests)

stays : {A : Type 0} (r k : ℕ) (now gone old : A) → (r ≡ k → gone ≡ old) → now ≡ (if nat_lt r k then gone else old) → now ≡ (if nat_lt r (suc k) then gone else old)
stays r k now gone old g f = grind (arith, nat_tests)

record SoFar (locks : ℕ → Lock) (n k : ℕ) (calls : List Call) : Type 0 where
  accepted : AreAcceptedFrom locks calls
  below : Below locks n k (locks_from locks calls)

released_one : (locks : ℕ → Lock) (n k : ℕ) (calls : List Call) → n < 16 → is_some ((locks k).held n) ≡ true → SoFar locks n k calls → SoFar locks n (suc k) (Releases n k None ∷ calls)
released_one locks n k calls lt h s =
    let now = locks_from locks calls in
    let same : now k ≡ locks k = here k _ _ _ (s.below k) in
    let gone : released (now k) n None ≡ let_go (locks k) n = released_alone (now k) n ∙ ap (λ lock. let_go lock n) same in
    record {
      accepted = (s.accepted, record { node = lt; accepted = held_is ((now k).held n) (ap (λ (lock : Lock). is_some (lock.held n)) same ∙ h); answers = tt });
      below = λ r. on r k _ (now r) _ _ (released (now k) n None) refl (λ e. gone ∙ ap (λ m. let_go (locks m) n) (sym e)) (s.below r);
    }

nothing_here : (locks : ℕ → Lock) (n k : ℕ) (calls : List Call) → IsOrderly (locks k) → is_some ((locks k).held n) ≡ false → SoFar locks n k calls → SoFar locks n (suc k) calls
nothing_here locks n k calls i h s = record {
  accepted = s.accepted;
  below = λ r. stays r k (locks_from locks calls r) _ _ (λ e. ap (λ m. let_go (locks m) n) e ∙ nothing_to_let_go (locks k) n i (holds_not _ h) ∙ ap locks (sym e)) (s.below r);
}

so_far : (locks : ℕ → Lock) (n k : ℕ) → n < 16 → ((r : ℕ) → IsOrderly (locks r)) → SoFar locks n k (releases_below locks n k)
unfolding releases_below
so_far locks n zero lt i = record { accepted = tt; below = λ r. grind (arith, nat_tests) }
so_far locks n (suc k) lt i =
    let s = so_far locks n k lt i in
    let calls = releases_below locks n k in
    elim (is_some ((locks k).held n)) as (λ b. is_some ((locks k).held n) ≡ b → SoFar locks n (suc k) (if b then Releases n k None ∷ calls else calls)) [
      | true ↦ λ h. released_one locks n k calls lt h s
      | false ↦ λ h. nothing_here locks n k calls (i k) h s
    ] refl

within : {A : Type 0} (r k : ℕ) (now gone old : A) → r < k → now ≡ (if nat_lt r k then gone else old) → now ≡ gone
within r k now gone old lt e = grind (arith, nat_tests)

past : {A : Type 0} (r k : ℕ) (now gone old : A) → k ≤ r → now ≡ (if nat_lt r k then gone else old) → now ≡ old
past r k now gone old le e = grind (arith, nat_tests)

pub letting_go_releases : (locks : ℕ → Lock) (n : ℕ) → n < 16 → ((r : ℕ) → IsOrderly (locks r)) → AreReleased locks n
letting_go_releases locks n lt i =
    let s = so_far locks n 21 lt i in
    record {
      accepted = s.accepted;
      let_go = λ r lt. within r 21 _ _ _ lt (s.below r);
      others = λ r le. past r 21 _ _ _ le (s.below r);
    }

either : {A : Type 0} (r k : ℕ) (a b : A) → (r < k → a ≡ b) → (k ≤ r → a ≡ b) → a ≡ b
either r k a b p q = grind (arith, nat_tests)

-- where nothing is held past the resources, the releases lead to all that is let go
pub all_let_go_leads : (locks : ℕ → Lock) (n : ℕ) → n < 16 → ((r : ℕ) → IsOrderly (locks r)) → ((r : ℕ) → 21 ≤ r → (locks r).held n ≡ None) → Leads locks (releases_of locks n) (all_let_go locks n)
all_let_go_leads locks n lt i none =
    let a = letting_go_releases locks n lt i in
    record {
      accepted = a.accepted;
      leads = fun_ext (λ r. either r 21 _ _ (a.let_go r) (λ le. a.others r le ∙ sym (nothing_to_let_go (locks r) n (i r) (none r le))));
    }
