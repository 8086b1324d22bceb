-- What the entries tell of an open recovery: its slot, and what it has found.
use Rattle.std.proofs.Common.{◌≡◌, ℕ, ◌==◌, ◌&&◌, ◌||◌, Bool, true, false, if◌then◌else◌, List, [], ◌∷◌, Option, Some, None, refl, sym, ap, subst, ◌∙◌, arith}
use Rattle.std.proofs.lemmas.Bool.Decides.{nat_tests}
use Rattle.dlm_modes.specs.Points.{with_at}
use Rattle.mdc_types.specs.Geometry.{Sizes}
use Rattle.mdc_types.specs.declared.events.Event.{Event}
use Rattle.mdc_types.specs.declared.events.Event.TheVariants as events
use Rattle.mdc_types.specs.declared.events.Wish.{Wish}
use Rattle.mdc_types.specs.declared.events.Wish.TheVariants as wishes
use Rattle.mdc_types.specs.declared.numbers.Sector.{Sector}
use Rattle.mdc_types.specs.declared.outcomes.Entry.{Entry}
use Rattle.mdc_types.specs.declared.outcomes.Outcome.{Outcome}
use Rattle.mdc_types.specs.declared.outcomes.Outcome.TheVariants as outcomes
use Rattle.mdc_types.specs.declared.roles.NodeState.{NodeState}
use Rattle.mdc_types.specs.declared.roles.NodeState.TheVariants as states
use Rattle.node_recovery.specs.Progress.{Recovering, begun, with_cleared, with_found, with_read}
use Rattle.slot_pages.specs.Slot.{page_has}
use Rattle.cluster_model.specs.After.{after}
use Rattle.cluster_model.specs.Finishing.{finish_offer, finish_wish, round_over}
use Rattle.cluster_model.specs.Outcomes.{outcome_of}
use Rattle.cluster_model.specs.Recovered.{slot_step, slot_in, found_step, found_in}
use Rattle.cluster_model.specs.Recovering.{page_found, page_cleared, slot_recovered}
use Rattle.cluster_model.specs.Rounds.{quit_from}
use Rattle.cluster_model.specs.State.{State, Core, Offer, sizes}
use Rattle.cluster_model.specs.Transfers.{transfer_of}
use Rattle.cluster_model.specs.Contents.{Opens}
use Rattle.cluster_model.specs.Opening.{Origin}
use Rattle.cluster_model.specs.Run.{Run}
use Rattle.md_superblock.specs.Arrays.{Array}
use Rattle.laws_roles.proofs.Runs.{array_is}
use Rattle.storage_ways.proofs.Moving.{quiet_of}
use Rattle.laws_pending.proofs.KeptRecoveries.{changes_recovery, recovery_kept, lost_kept, io_kept, missed_kept}
use Rattle.laws_pending.proofs.Points.{at_point, same_point}

-- these are the recovery's slot, and chunks that it has found
abbrev pub TellsBy : Option ℕ → (ℕ → Bool) → Recovering → Type 0
TellsBy slot found r = (slot ≡ Some r.slot) × ((c : ℕ) → found c ≡ true → r.found c ≡ true)

abbrev pub Traced : Sizes → List Entry → (ℕ → Option Recovering) → Type 0
Traced g past recovery = (m : ℕ) (r : Recovering) → recovery m ≡ Some r → TellsBy (slot_in m past) (λ c. found_in g m past c) r

slot_quiet : (m : ℕ) (e : Event) (slot : Option ℕ) → changes_recovery e ≡ false → slot_step m e slot ≡ slot
slot_quiet m (events.Recover n d) slot f = cc
slot_quiet m (events.Recovered n) slot f = cc
slot_quiet m (events.Die n) slot f = cc
slot_quiet m e slot f = refl

found_quiet : (g : Sizes) (m c : ℕ) (e : Event) (o : Outcome) (found : Bool) → changes_recovery e ≡ false → found_step g m c e o found ≡ found
found_quiet g m c (events.Recover n d) o found f = cc
found_quiet g m c (events.SlotIn n p l) o found f = cc
found_quiet g m c e o found f = refl

turned : (m n : ℕ) → (m == n) ≡ (n == m)
turned m n = grind (arith, nat_tests)

-- no more recoveries are open
abbrev Smaller : Core → Core → Type 0
Smaller core new = (m : ℕ) (r : Recovering) → new.recovery m ≡ Some r → core.recovery m ≡ Some r

gone : (recovery : ℕ → Option Recovering) (n m : ℕ) (r : Recovering) → with_at recovery n None m ≡ Some r → recovery m ≡ Some r
gone recovery n m r = at_point (λ (x : Option Recovering). x ≡ Some r → recovery m ≡ Some r) recovery n None m (λ is e. cc) (λ apart e. e)

whole_smaller : (core : Core) (n : ℕ) (o : Offer) (x : Wish) → Smaller core (finish_wish core n o x)
whole_smaller core n o (wishes.Range r) m q e = e
whole_smaller core n o wishes.Unclean m q e = gone core.recovery n m q e
whole_smaller core n o (wishes.NewDisk l) m q e = e
whole_smaller core n o (wishes.Remove l) m q e = e
whole_smaller core n o (wishes.ReAdd l) m q e = e
whole_smaller core n o x m q e = e

finish_smaller : (core : Core) (n : ℕ) (x : Option Offer) → Smaller core (finish_offer core n x)
finish_smaller core n None m q e = e
finish_smaller core n (Some o) m q e = whole_smaller (round_over core n) n o o.wish m q e

quit_smaller : (core : Core) (n : ℕ) (s : NodeState) → Smaller core (quit_from core n s)
quit_smaller core n states.Up m q e = e
quit_smaller core n s m q e = gone core.recovery n m q e

module _ (g : Sizes) (past : List Entry) (core : Core) (t : Traced g past core.recovery) where
  abbrev After : Event → Outcome → Core → Type 0
  After e o new = (m : ℕ) (r : Recovering) → new.recovery m ≡ Some r → TellsBy (slot_step m e (slot_in m past)) (λ c. found_step g m c e o (found_in g m past c)) r

  smaller_after : (e : Event) (o : Outcome) (new : Core) → Smaller core new → ((m : ℕ) → slot_step m e (slot_in m past) ≡ slot_in m past) → ((m c : ℕ) → found_step g m c e o (found_in g m past c) ≡ found_in g m past c) → After e o new
  smaller_after e o new less slot found m r is = let old = t m r (less m r is) in (slot m ∙ old.0, λ c h. old.1 c (sym (found m c) ∙ h))

  kept_after : (e : Event) (o : Outcome) (new : Core) → new.recovery ≡ core.recovery → ((m : ℕ) → slot_step m e (slot_in m past) ≡ slot_in m past) → ((m c : ℕ) → found_step g m c e o (found_in g m past c) ≡ found_in g m past c) → After e o new
  kept_after e o new kept = smaller_after e o new (λ m r is. sym (ap (λ f. f m) kept) ∙ is)

  -- A node's slot is no more recovered by it.

  gone_after : (n : ℕ) (m : ℕ) (r : Recovering) → with_at core.recovery n None m ≡ Some r → TellsBy (if n == m then None else slot_in m past) (λ c. found_in g m past c) r
  gone_after n m r there = subst (λ b. TellsBy (if b then None else slot_in m past) (λ c. found_in g m past c) r) (turned m n) (by (m == n) refl there)
    where
      by : (b : Bool) → (m == n) ≡ b → (if b then None else core.recovery m) ≡ Some r → TellsBy (if b then None else slot_in m past) (λ c. found_in g m past c) r
      by true e is = cc
      by false e is = t m r is

  recovered_after : (n : ℕ) (x : Option Recovering) → core.recovery n ≡ x → (m : ℕ) (r : Recovering) → (slot_recovered core n x).recovery m ≡ Some r → TellsBy (if n == m then None else slot_in m past) (λ c. found_in g m past c) r
  recovered_after n None at m r is = subst (λ b. TellsBy (if b then None else slot_in m past) (λ c. found_in g m past c) r) (turned m n) (by (m == n) refl)
    where
      by : (b : Bool) → (m == n) ≡ b → TellsBy (if b then None else slot_in m past) (λ c. found_in g m past c) r
      by true e = let none : None ≡ Some r = sym at ∙ ap core.recovery (sym (same_point m n e)) ∙ is in cc
      by false e = t m r is
  recovered_after n (Some q) at m r is = gone_after n m r is

  recover_after : (n d m : ℕ) (r : Recovering) → with_at core.recovery n (Some (begun d)) m ≡ Some r → TellsBy (if n == m then Some d else slot_in m past) (λ c. if n == m then false else found_in g m past c) r
  recover_after n d m r there = subst (λ b. TellsBy (if b then Some d else slot_in m past) (λ c. if n == m then false else found_in g m past c) r) (turned m n) (by (m == n) refl there)
    where
      new : Some (begun d) ≡ Some r → d ≡ r.slot
      new e = cc

      apart : (b : Bool) → (m == n) ≡ false → (if n == m then false else b) ≡ true → b ≡ true
      apart b e f = grind (arith, nat_tests)

      none : (b : Bool) → (m == n) ≡ true → (if n == m then false else b) ≡ true → ⊥
      none b e f = grind (arith, nat_tests)

      by : (b : Bool) → (m == n) ≡ b → (if b then Some (begun d) else core.recovery m) ≡ Some r → TellsBy (if b then Some d else slot_in m past) (λ c. if n == m then false else found_in g m past c) r
      by true e is = (ap Some (new is), λ c h. absurd (none (found_in g m past c) e h))
      by false e is = let old = t m r is in (old.0, λ c h. old.1 c (apart (found_in g m past c) e h))

  -- A page is read, or written clean.

  read_after : sizes core ≡ g → (n p l : ℕ) (v : Sector) (x : Option Recovering) → core.recovery n ≡ x → (m : ℕ) (r : Recovering) → (page_found core n x p l v).recovery m ≡ Some r
      → TellsBy (slot_in m past) (λ c. found_in g m past c || ((n == m) && page_has g p v.bytes c)) r
  read_after same n p l v None at m r is = (old.0, λ c h. old.1 c (left c h))
    where
      old : TellsBy (slot_in m past) (λ c. found_in g m past c) r
      old = t m r is

      apart : (n == m) ≡ true → ⊥
      apart e = let none : None ≡ Some r = sym at ∙ ap core.recovery (same_point n m e) ∙ is in cc

      or_apart : (a b d : Bool) → (b ≡ true → ⊥) → (a || (b && d)) ≡ true → a ≡ true
      or_apart a true d f e = absurd (f refl)
      or_apart a false d f e = grind arith

      left : (c : ℕ) → (found_in g m past c || ((n == m) && page_has g p v.bytes c)) ≡ true → found_in g m past c ≡ true
      left c h = or_apart (found_in g m past c) (n == m) (page_has g p v.bytes c) apart h
  read_after same n p l v (Some q) at m r there = by (m == n) refl there
    where
      or_both : (a b d e : Bool) → (a ≡ true → e ≡ true) → (a || (b && d)) ≡ true → (e || d) ≡ true
      or_both a b d e f h = grind (arith, f)

      or_apart : (a b d : Bool) → b ≡ false → (a || (b && d)) ≡ true → a ≡ true
      or_apart a b d f e = grind arith

      flip : (m == n) ≡ false → (n == m) ≡ false
      flip e = grind (arith, nat_tests)

      more : Recovering
      more = with_found (with_read q p l) (page_has (sizes core) p v.bytes)

      by : (b : Bool) → (m == n) ≡ b → (if b then Some more else core.recovery m) ≡ Some r → TellsBy (slot_in m past) (λ c. found_in g m past c || ((n == m) && page_has g p v.bytes c)) r
      by true e is =
          let old = t m q (ap core.recovery (same_point m n e) ∙ at) in
          subst (λ y. TellsBy (slot_in m past) (λ c. found_in g m past c || ((n == m) && page_has g p v.bytes c)) y) (is_same is)
          (old.0, λ c h. subst (λ s. (q.found c || page_has s p v.bytes c) ≡ true) (sym same) (or_both (found_in g m past c) (n == m) (page_has g p v.bytes c) (q.found c) (old.1 c) h))
        where
          is_same : Some more ≡ Some r → more ≡ r
          is_same e = cc
      by false e is = let old = t m r is in (old.0, λ c h. old.1 c (or_apart (found_in g m past c) (n == m) (page_has g p v.bytes c) (flip e) h))

  cleared_after : (n p l : ℕ) (x : Option Recovering) → core.recovery n ≡ x → (m : ℕ) (r : Recovering) → (page_cleared core n x p l).recovery m ≡ Some r → TellsBy (slot_in m past) (λ c. found_in g m past c) r
  cleared_after n p l None at m r is = t m r is
  cleared_after n p l (Some q) at m r there = by (m == n) refl there
    where
      is_same : Some (with_cleared q p l) ≡ Some r → with_cleared q p l ≡ r
      is_same e = cc

      by : (b : Bool) → (m == n) ≡ b → (if b then Some (with_cleared q p l) else core.recovery m) ≡ Some r → TellsBy (slot_in m past) (λ c. found_in g m past c) r
      by true e is =
          let old = t m q (ap core.recovery (same_point m n e) ∙ at) in
          subst (λ y. TellsBy (slot_in m past) (λ c. found_in g m past c) y) (is_same is) (old.0, old.1)
      by false e is = t m r is

  abbrev Goes : Event → Outcome → Type 0
  Goes e o = After e o (after core e o)

  quiet_after : (e : Event) (o : Outcome) → changes_recovery e ≡ false → Goes e o
  quiet_after e o f = kept_after e o (after core e o) (recovery_kept core e o f) (λ m. slot_quiet m e (slot_in m past) f) (λ m c. found_quiet g m c e o (found_in g m past c) f)

  pub after_by : sizes core ≡ g → (e : Event) (o : Outcome) → (transfer_of core e ≡ None → o ≡ outcome_of core e) → Goes e o
  after_by same (events.Die n) o q = subst (Goes (events.Die n)) (sym (q refl)) (gone_after n)
  after_by same (events.Leave n) o q = subst (Goes (events.Leave n)) (sym (q refl)) (smaller_after (events.Leave n) (outcome_of core (events.Leave n)) (after core (events.Leave n) (outcome_of core (events.Leave n))) (gone core.recovery n) (λ m. refl) (λ m c. refl))
  after_by same (events.FinishRound n) o q = subst (Goes (events.FinishRound n)) (sym (q refl)) (smaller_after (events.FinishRound n) (outcome_of core (events.FinishRound n)) (after core (events.FinishRound n) (outcome_of core (events.FinishRound n))) (finish_smaller core n (core.offer n)) (λ m. refl) (λ m c. refl))
  after_by same (events.Quit n) o q = subst (Goes (events.Quit n)) (sym (q refl)) (smaller_after (events.Quit n) (outcome_of core (events.Quit n)) (after core (events.Quit n) (outcome_of core (events.Quit n))) (quit_smaller core n (core.state n)) (λ m. refl) (λ m c. refl))
  after_by same (events.Recover n d) o q = subst (Goes (events.Recover n d)) (sym (q refl)) (recover_after n d)
  after_by same (events.Recovered n) o q = subst (Goes (events.Recovered n)) (sym (q refl)) (recovered_after n (core.recovery n) refl)
  after_by same (events.SlotIn n p l) (outcomes.Page v) q = read_after same n p l v (core.recovery n) refl
  after_by same (events.SlotIn n p l) (outcomes.Lost k) q = kept_after (events.SlotIn n p l) (outcomes.Lost k) (after core (events.SlotIn n p l) (outcomes.Lost k)) (lost_kept core (events.SlotIn n p l)) (λ m. refl) (λ m c. refl)
  after_by same (events.SlotIn n p l) (outcomes.Io k) q = kept_after (events.SlotIn n p l) (outcomes.Io k) (after core (events.SlotIn n p l) (outcomes.Io k)) (io_kept core (events.SlotIn n p l)) (λ m. refl) (λ m c. refl)
  after_by same (events.SlotIn n p l) (outcomes.Unreached k) q = kept_after (events.SlotIn n p l) (outcomes.Unreached k) (after core (events.SlotIn n p l) (outcomes.Unreached k)) (missed_kept core (events.SlotIn n p l)) (λ m. refl) (λ m c. refl)
  after_by same (events.SlotIn n p l) o q = kept_after (events.SlotIn n p l) o core refl (λ m. refl) (λ m c. refl)
  after_by same (events.SlotOut n p l) (outcomes.Lost k) q = kept_after (events.SlotOut n p l) (outcomes.Lost k) (after core (events.SlotOut n p l) (outcomes.Lost k)) (lost_kept core (events.SlotOut n p l)) (λ m. refl) (λ m c. refl)
  after_by same (events.SlotOut n p l) (outcomes.Io k) q = kept_after (events.SlotOut n p l) (outcomes.Io k) (after core (events.SlotOut n p l) (outcomes.Io k)) (io_kept core (events.SlotOut n p l)) (λ m. refl) (λ m c. refl)
  after_by same (events.SlotOut n p l) (outcomes.Unreached k) q = kept_after (events.SlotOut n p l) (outcomes.Unreached k) (after core (events.SlotOut n p l) (outcomes.Unreached k)) (missed_kept core (events.SlotOut n p l)) (λ m. refl) (λ m c. refl)
  after_by same (events.SlotOut n p l) o q = cleared_after n p l (core.recovery n) refl
  after_by same e o q = quiet_after e o refl

-- along each run
pub traced_run : (o : Origin) (start : State) (opens : Opens o start) (past : List Entry) (end : State) → Run start past end → Traced o.sizes past end.core.recovery
traced_run o start opens [] end run = subst (λ (c : Core). Traced o.sizes [] c.recovery) (sym (ap (λ (x : State). x.core) run ∙ opens.core)) (λ m r is. cc)
traced_run o start opens (x ∷ past) end run =
    let mid = run.0 in
    let old = traced_run o start opens past mid run.1 in
    let same : sizes mid.core ≡ o.sizes = ap (λ (a : Array). a.sizes) (array_is o start mid past opens run.1) in
    let s = run.2 in
    subst (λ (c : Core). Traced o.sizes (x ∷ past) c.recovery) (sym s.core)
    (after_by o.sizes past mid.core old same x.event x.outcome (λ none. (quiet_of mid x.event x.outcome end.legs none s.moves).is))
