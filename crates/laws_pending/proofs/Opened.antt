-- Where a sector was decided and has two values again, a write of it started since, and nothing was
-- decided after that start.
use Rattle.std.proofs.Common.{◌≡◌, inl, inr, ℕ, ◌==◌, ◌&&◌, Bool, true, false, not, if◌then◌else◌, List, [], ◌∷◌, ◌++◌, Option, Some, None, refl, sym, ap, subst, ◌∙◌, arith}
use Rattle.std.proofs.lemmas.Bool.Decides.{nat_tests}
use Rattle.mdc_types.specs.declared.events.Event.{Event}
use Rattle.mdc_types.specs.declared.events.Event.TheVariants as events
use Rattle.mdc_types.specs.declared.numbers.Sector.{Sector}
use Rattle.mdc_types.specs.declared.outcomes.Entry.{Entry}
use Rattle.mdc_types.specs.declared.outcomes.Outcome.{Outcome}
use Rattle.mdc_types.specs.declared.outcomes.Outcome.TheVariants as outcomes
use Rattle.plain_history.specs.History.{PlainWrite, live_writes, values_step, with_start, with_end, candidates}
use Rattle.plain_history.specs.Seen.{Starts, Decides, OpenSince}
use Rattle.laws_writes.proofs.Ghosts.{is_open}
use Rattle.laws_pending.proofs.Points.{clash, same_point}

-- the event decides a sector
abbrev may_decide : Event → Bool
may_decide (events.EndWrite n k) = true
may_decide (events.Settle n) = true
may_decide e = false

abbrev is_settled : Outcome → Bool
is_settled (outcomes.Settled s v) = true
is_settled o = false

-- an entry after which two values stand starts a write of the sector, or they stood before it and it
-- decides nothing of it
data Stands (past : List Entry) (x : Entry) (s : ℕ) (vs : ℕ → List Sector) : Type 0 where
  starts : (v : Sector) → Starts past x s v → Stands past x s vs
  stood : is_open (vs s) ≡ true → (Decides past x s → ⊥) → Stands past x s vs

not_decided : (past : List Entry) (x : Entry) (s : ℕ) → may_decide x.event ≡ false → Decides past x s → ⊥
not_decided past x s none (inl d) = clash (may_decide x.event) (ap may_decide d.1.event) none
not_decided past x s none (inr d) = clash (may_decide x.event) (ap may_decide d.event) none

and_left : (a b : Bool) → (a && b) ≡ true → a ≡ true
and_left a b e = grind arith

and_not : (a b : Bool) → (a && not b) ≡ true → b ≡ false
and_not a b e = grind arith

apart : (n m : ℕ) → (n == m) ≡ false → n ≡ m → ⊥
apart n m e is = grind (arith, nat_tests)

module _ (past : List Entry) (x : Entry) (s : ℕ) (vs : ℕ → List Sector) where
  out_stands : (n k l : ℕ) (w : Option PlainWrite) → x.event ≡ events.Out n k l → live_writes past n k ≡ w → is_open (with_start w s (vs s)) ≡ true → Stands past x s vs
  out_stands n k l None is live two = stood two (not_decided past x s (ap may_decide is))
  out_stands n k l (Some w) is live two = by (w.sector == s && not w.begun) refl two
    where
      by : (b : Bool) → (w.sector == s && not w.begun) ≡ b → is_open (if b then vs s ++ w.value ∷ [] else vs s) ≡ true → Stands past x s vs
      by true e t = starts w.value (record { node = n; number = k; leg = l; write = w; event = is; live = live; first = and_not (w.sector == s) w.begun e; sector = same_point w.sector s (and_left (w.sector == s) (not w.begun) e); value = refl })
      by false e t = stood t (not_decided past x s (ap may_decide is))

  -- of the write that the entry ends
  ended : (n k : ℕ) → x.event ≡ events.EndWrite n k → (w : Option PlainWrite) → live_writes past n k ≡ w → ((u : PlainWrite) → w ≡ Some u → u.sector ≡ s → ⊥) → Decides past x s → ⊥
  ended n k is w live other (inl d) =
      let e = d.1 in
      let same : events.EndWrite e.node e.number ≡ events.EndWrite n k = sym e.event ∙ is in
      let node : e.node ≡ n = cc in
      let number : e.number ≡ k = cc in
      let at : live_writes past n k ≡ Some e.write = subst (λ j. live_writes past j k ≡ Some e.write) node (subst (λ j. live_writes past e.node j ≡ Some e.write) number e.live) in
      other e.write (sym live ∙ at) e.sector
  ended n k is w live other (inr d) = let same : events.EndWrite n k ≡ events.Settle d.node = sym is ∙ d.event in cc

  end_stands : (n k : ℕ) (w : Option PlainWrite) → x.event ≡ events.EndWrite n k → live_writes past n k ≡ w → is_open (with_end w s (vs s)) ≡ true → Stands past x s vs
  end_stands n k None is live two = stood two (ended n k is None live (λ u e. cc))
  end_stands n k (Some w) is live two = by (w.sector == s) refl two
    where
      same_write : (u : PlainWrite) → Some w ≡ Some u → w.sector ≡ u.sector
      same_write u e = cc

      by : (b : Bool) → (w.sector == s) ≡ b → is_open (if b then w.value ∷ [] else vs s) ≡ true → Stands past x s vs
      by true e t = cc
      by false e t = stood t (ended n k is (Some w) live (λ u f there. apart w.sector s e (same_write u f ∙ there)))

  settle_stands : (n t : ℕ) (v : Sector) → x.event ≡ events.Settle n → x.outcome ≡ outcomes.Settled t v → is_open (if t == s then v ∷ [] else vs s) ≡ true → Stands past x s vs
  settle_stands n t v is out two = by (t == s) refl two
    where
      other : (t == s) ≡ false → Decides past x s → ⊥
      other e (inl d) = let same : events.Settle n ≡ events.EndWrite d.1.node d.1.number = sym is ∙ d.1.event in cc
      other e (inr d) = let same : outcomes.Settled t v ≡ outcomes.Settled s d.value = sym out ∙ d.outcome in let at : t ≡ s = cc in apart t s e at

      by : (b : Bool) → (t == s) ≡ b → is_open (if b then v ∷ [] else vs s) ≡ true → Stands past x s vs
      by true e f = cc
      by false e f = stood f (other e)

  unsettled : (n : ℕ) (o : Outcome) → x.event ≡ events.Settle n → x.outcome ≡ o → is_settled o ≡ false → Decides past x s → ⊥
  unsettled n o is out none (inl d) = let same : events.Settle n ≡ events.EndWrite d.1.node d.1.number = sym is ∙ d.1.event in cc
  unsettled n o is out none (inr d) = clash (is_settled o) (ap is_settled (sym out ∙ d.outcome)) none

  settle_by : (n : ℕ) (o : Outcome) → x.event ≡ events.Settle n → x.outcome ≡ o → is_open (values_step (events.Settle n) o (live_writes past) vs s) ≡ true → Stands past x s vs
  settle_by n (outcomes.Settled t v) is out two = settle_stands n t v is out two
  settle_by n o is out two = stood two (unsettled n o is out refl)

  stands_by : (e : Event) → x.event ≡ e → is_open (values_step e x.outcome (live_writes past) vs s) ≡ true → Stands past x s vs
  stands_by (events.Out n k l) is two = out_stands n k l (live_writes past n k) is refl two
  stands_by (events.EndWrite n k) is two = end_stands n k (live_writes past n k) is refl two
  stands_by (events.Settle n) is two = settle_by n x.outcome is refl two
  stands_by e is two = stood two (not_decided past x s (ap may_decide is))

pub opened_step : (base : ℕ → List Sector) (later past : List Entry) (x : Entry) (s : ℕ) → (is_open (candidates base (later ++ past) s) ≡ true → OpenSince later past s) → is_open (candidates base (x ∷ (later ++ past)) s) ≡ true → OpenSince (x ∷ later) past s
opened_step base later past x s rest two = by (stands_by (later ++ past) x s (candidates base (later ++ past)) x.event refl two)
  where
    by : Stands (later ++ past) x s (candidates base (later ++ past)) → OpenSince (x ∷ later) past s
    by (starts v start) = inl (v, start)
    by (stood before none) = inr (rest before, none)

pub opened_since : (base : ℕ → List Sector) (later past : List Entry) (s : ℕ) → is_open (candidates base past s) ≡ false → is_open (candidates base (later ++ past) s) ≡ true → OpenSince later past s
opened_since base [] past s one two = clash (is_open (candidates base past s)) two one
opened_since base (x ∷ later) past s one two = opened_step base later past x s (opened_since base later past s one) two
