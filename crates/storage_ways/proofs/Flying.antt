-- The live writes of the plain history are those in flight, along each run.
use Rattle.std.proofs.Common.{◌≡◌, ℕ, ◌==◌, ◌&&◌, Bool, true, false, if◌then◌else◌, List, [], ◌∷◌, ◌++◌, Option, Some, None, refl, sym, ap, subst, ◌∙◌, arith}
use Rattle.std.proofs.Math.Path.{fun_ext}
use Rattle.std.proofs.lemmas.Bool.Decides.{nat_tests}
use Rattle.dlm_modes.specs.Points.{with_at}
use Rattle.mdc_types.specs.declared.events.Event.{Event}
use Rattle.mdc_types.specs.declared.events.Event.TheVariants as events
use Rattle.mdc_types.specs.declared.outcomes.Outcome.{Outcome}
use Rattle.mdc_types.specs.declared.outcomes.Outcome.TheVariants as outcomes
use Rattle.mdc_types.specs.declared.outcomes.Entry.{Entry}
use Rattle.mdc_types.specs.declared.numbers.Sector.{Sector}
use Rattle.leg_failure.specs.Views.{is_last}
use Rattle.mirror_io.specs.declared.live.LiveWrite.{LiveWrite}
use Rattle.mirror_io.specs.Flight.{write_in, without_write, new_write, start_in, done_in}
use Rattle.mirror_io.proofs.Lookups.{started_option, done_option, write_in-push, write_in-without, write_in-start, write_in-done}
use Rattle.plain_history.specs.History.{PlainWrite, asked, start, live_step, live_writes}
use Rattle.cluster_model.specs.State.{State, Core, Legs}
use Rattle.cluster_model.specs.After.{after}
use Rattle.cluster_model.specs.Contents.{Opens}
use Rattle.cluster_model.specs.Failures.{lost_or_io}
use Rattle.cluster_model.specs.Opening.{Origin}
use Rattle.cluster_model.specs.Outcomes.{outcome_of}
use Rattle.cluster_model.specs.Run.{Run, Moves, Quiet, Written, Read, Failed, Left}
use Rattle.cluster_model.specs.Transfers.{Transfer, transfer_of}
use Rattle.cluster_model.specs.Writes.{start_write}
use Rattle.laws_roles.proofs.Known.{Known, known}
use Rattle.storage_ways.proofs.KeptWrites.{changes_writes, writes_kept, loss_kept}
use Rattle.storage_ways.proofs.RequestRows.{no_number}

-- a write in flight as the history has it
abbrev pub plain_of : Option LiveWrite → Option PlainWrite
plain_of None = None
plain_of (Some w) = Some (record { sector = w.sector; value = w.value; begun = w.started })

abbrev pub flying : (ℕ → List LiveWrite) → ℕ → ℕ → Option PlainWrite
flying writes n k = plain_of (write_in k (writes n))

plain_done : (l : ℕ) (x : Option LiveWrite) → plain_of (done_option l (started_option x)) ≡ start (plain_of x)
plain_done l None = refl
plain_done l (Some w) = refl

plain_started : (x : Option LiveWrite) → plain_of (started_option x) ≡ start (plain_of x)
plain_started None = refl
plain_started (Some w) = refl

same_point : (a b : ℕ) → (a == b) ≡ true → a ≡ b
same_point a b e = grind (arith, nat_tests)

-- By change, at each point.

flying_at : (writes : ℕ → List LiveWrite) (n k m j : ℕ) (new : List LiveWrite) (x : Option PlainWrite)
    → plain_of (write_in j new) ≡ (if j == k then x else plain_of (write_in j (writes n)))
    → flying (with_at writes n new) m j ≡ (if m == n && j == k then x else flying writes m j)
flying_at writes n k m j new x is = by (m == n) refl
  where
    by : (b : Bool) → (m == n) ≡ b → plain_of (write_in j (if b then new else writes m)) ≡ (if b && j == k then x else flying writes m j)
    by true e = is ∙ ap (λ z. if j == k then x else plain_of (write_in j (writes z))) (sym (same_point m n e))
    by false e = refl

plain_if : (b : Bool) (x y : Option LiveWrite) → plain_of (if b then x else y) ≡ (if b then plain_of x else plain_of y)
plain_if true x y = refl
plain_if false x y = refl

-- the found write, where the number is its own
if_same : (ws : List LiveWrite) (j k : ℕ) (f : Option LiveWrite → Option PlainWrite)
    → (if j == k then f (write_in j ws) else plain_of (write_in j ws)) ≡ (if j == k then f (write_in k ws) else plain_of (write_in j ws))
if_same ws j k f = by (j == k) refl
  where
    by : (b : Bool) → (j == k) ≡ b → (if b then f (write_in j ws) else plain_of (write_in j ws)) ≡ (if b then f (write_in k ws) else plain_of (write_in j ws))
    by true e = ap (λ z. f (write_in z ws)) (same_point j k e)
    by false e = refl

ask_flies : (writes : ℕ → List LiveWrite) (n k s m j : ℕ) (v : Sector) → write_in k (writes n) ≡ None
    → flying (with_at writes n (writes n ++ new_write k s v ∷ [])) m j ≡ (if m == n && j == k then Some (asked s v) else flying writes m j)
ask_flies writes n k s m j v none =
    flying_at writes n k m j (writes n ++ new_write k s v ∷ []) (Some (asked s v))
    (ap plain_of (write_in-push j (writes n) (new_write k s v) none) ∙ plain_if (j == k) (Some (new_write k s v)) (write_in j (writes n)))

gone_flies : (writes : ℕ → List LiveWrite) (n k m j : ℕ)
    → flying (with_at writes n (without_write k (writes n))) m j ≡ (if m == n && j == k then None else flying writes m j)
gone_flies writes n k m j =
    flying_at writes n k m j (without_write k (writes n)) None
    (ap plain_of (write_in-without j k (writes n)) ∙ plain_if (j == k) None (write_in j (writes n)))

start_flies : (writes : ℕ → List LiveWrite) (n k m j : ℕ)
    → flying (with_at writes n (start_in k (writes n))) m j ≡ (if m == n && j == k then start (flying writes m j) else flying writes m j)
start_flies writes n k m j = flying_at writes n k m j (start_in k (writes n)) (start (flying writes n k)) point ∙ both
  where
    point : plain_of (write_in j (start_in k (writes n))) ≡ (if j == k then start (flying writes n k) else plain_of (write_in j (writes n)))
    point =
        ap plain_of (write_in-start j k (writes n)) ∙ plain_if (j == k) (started_option (write_in j (writes n))) (write_in j (writes n))
        ∙ if_same (writes n) j k (λ x. plain_of (started_option x))
        ∙ ap (λ z. if j == k then z else plain_of (write_in j (writes n))) (plain_started (write_in k (writes n)))

    both : (if m == n && j == k then start (flying writes n k) else flying writes m j) ≡ (if m == n && j == k then start (flying writes m j) else flying writes m j)
    both = at (m == n) refl (j == k) refl
      where
        at : (a : Bool) → (m == n) ≡ a → (b : Bool) → (j == k) ≡ b → (if a && b then start (flying writes n k) else flying writes m j) ≡ (if a && b then start (flying writes m j) else flying writes m j)
        at true e true f = ap start (ap (λ z. flying writes z k) (sym (same_point m n e)) ∙ ap (λ z. flying writes m z) (sym (same_point j k f)))
        at true e false f = refl
        at false e b f = refl

done_flies : (writes : ℕ → List LiveWrite) (n k l m j : ℕ)
    → flying (with_at writes n (done_in k l (start_in k (writes n)))) m j ≡ flying (with_at writes n (start_in k (writes n))) m j
done_flies writes n k l m j = by (m == n)
  where
    same : (x : Option LiveWrite) (b : Bool) → plain_of (if b then done_option l x else x) ≡ plain_of x
    same None true = refl
    same (Some w) true = refl
    same x false = refl

    by : (b : Bool) → plain_of (write_in j (if b then done_in k l (start_in k (writes n)) else writes m)) ≡ plain_of (write_in j (if b then start_in k (writes n) else writes m))
    by true = ap plain_of (write_in-done j k l (start_in k (writes n))) ∙ same (write_in j (start_in k (writes n))) (j == k)
    by false = refl

-- By step.

-- the outcome of an event that transfers nothing
is_quiet : (old : State) (e : Event) (o : Outcome) (new : Legs) → Moves old e o new → transfer_of old.core e ≡ None → o ≡ outcome_of old.core e
is_quiet old e o new (Quiet nothing is legs) none = is
is_quiet old e o new (Written t v at value path done legs) none = cc
is_quiet old e o new (Read t v at value path gives is legs) none = cc
is_quiet old e o new (Failed t at is legs) none = cc
is_quiet old e o new (Left t v at value path is legs) none = cc

others_step : (e : Event) (o : Outcome) (f : ℕ → ℕ → Option PlainWrite) (m j : ℕ) → changes_writes e ≡ false → live_step e o f m j ≡ f m j
others_step (events.Die n) o f m j other = cc
others_step (events.AskWrite n s v) o f m j other = cc
others_step (events.Out n k l) o f m j other = cc
others_step (events.EndWrite n k) o f m j other = cc
others_step (events.BreakWrite n k) o f m j other = cc
others_step e o f m j other = refl

abbrev Flown : Core → Event → Outcome → ℕ → ℕ → Type 0
Flown core e o m j = live_step e o (flying core.writes) m j ≡ flying (after core e o).writes m j

others_flown : (core : Core) (e : Event) (o : Outcome) (m j : ℕ) → changes_writes e ≡ false → Flown core e o m j
others_flown core e o m j other = others_step e o (flying core.writes) m j other ∙ ap (λ ws. flying ws m j) (sym (writes_kept core e o other))

twice_flies : (writes : ℕ → List LiveWrite) (n k m j : ℕ)
    → (if m == n && j == k then None else flying (with_at writes n (start_in k (writes n))) m j) ≡ (if m == n && j == k then None else flying writes m j)
twice_flies writes n k m j = by (m == n && j == k) (start_flies writes n k m j)
  where
    by : (b : Bool) → flying (with_at writes n (start_in k (writes n))) m j ≡ (if b then start (flying writes m j) else flying writes m j)
        → (if b then None else flying (with_at writes n (start_in k (writes n))) m j) ≡ (if b then None else flying writes m j)
    by true is = refl
    by false is = is

failed_flown : (core : Core) (n k l : ℕ) (t : Transfer) (m j : ℕ) → Flown core (events.Out n k l) (lost_or_io core t) m j
failed_flown core n k l t m j = by (is_last (core.view t.node) t.leg)
  where
    by : (b : Bool) → Flown core (events.Out n k l) (if b then outcomes.Io t.leg else outcomes.Lost t.leg) m j
    by true = sym (gone_flies (start_write core n k).writes n k m j ∙ twice_flies core.writes n k m j)
    by false = sym (ap (λ ws. flying ws m j) (loss_kept (start_write core n k) (transfer_of core (events.Out n k l))) ∙ start_flies core.writes n k m j)

out_flown : (core : Core) (n k l m j : ℕ) → live_step (events.Out n k l) outcomes.Done (flying core.writes) m j ≡ flying (with_at core.writes n (done_in k l (start_in k (core.writes n)))) m j
out_flown core n k l m j = sym (done_flies core.writes n k l m j ∙ start_flies core.writes n k m j)

tried_flown : (old : State) (n k l : ℕ) (o : Outcome) (new : Legs) → Moves old (events.Out n k l) o new → (m j : ℕ) → Flown old.core (events.Out n k l) o m j
tried_flown old n k l o new (Quiet nothing is legs) m j = subst (λ y. Flown old.core (events.Out n k l) y m j) (sym is) (out_flown old.core n k l m j)
tried_flown old n k l o new (Written t v at value path is legs) m j = subst (λ y. Flown old.core (events.Out n k l) y m j) (sym is) (out_flown old.core n k l m j)
tried_flown old n k l o new (Read t v at value path gives is legs) m j = subst (λ y. Flown old.core (events.Out n k l) y m j) (sym is) (out_flown old.core n k l m j)
tried_flown old n k l o new (Failed t at is legs) m j = subst (λ y. Flown old.core (events.Out n k l) y m j) (sym is) (failed_flown old.core n k l t m j)
tried_flown old n k l o new (Left t v at value path is legs) m j = subst (λ y. Flown old.core (events.Out n k l) y m j) (sym is) (failed_flown old.core n k l t m j)

dead_flies : (writes : ℕ → List LiveWrite) (n m j : ℕ) → (if m == n then None else flying writes m j) ≡ flying (with_at writes n []) m j
dead_flies writes n m j = by (m == n)
  where
    by : (b : Bool) → (if b then None else flying writes m j) ≡ plain_of (write_in j (if b then [] else writes m))
    by true = refl
    by false = refl

flown : (old : State) (e : Event) (o : Outcome) (new : Legs) → Known old.core → Moves old e o new → (m j : ℕ) → Flown old.core e o m j
flown old (events.Die n) o new known mv m j =
    subst (λ y. Flown old.core (events.Die n) y m j) (sym (is_quiet old (events.Die n) o new mv refl)) (dead_flies old.core.writes n m j)
flown old (events.AskWrite n s v) o new known mv m j =
    subst (λ y. Flown old.core (events.AskWrite n s v) y m j) (sym (is_quiet old (events.AskWrite n s v) o new mv refl))
    (sym (ask_flies old.core.writes n (old.core.writes_made n) s m j v
    (no_number 0 (old.core.writes_made n) (old.core.writes_made n) (old.core.writes n) (known.range.flight.requests n).order.writes_rise (omega arith))))
flown old (events.Out n k l) o new known mv m j = tried_flown old n k l o new mv m j
flown old (events.EndWrite n k) o new known mv m j =
    subst (λ y. Flown old.core (events.EndWrite n k) y m j) (sym (is_quiet old (events.EndWrite n k) o new mv refl)) (sym (gone_flies old.core.writes n k m j))
flown old (events.BreakWrite n k) o new known mv m j =
    subst (λ y. Flown old.core (events.BreakWrite n k) y m j) (sym (is_quiet old (events.BreakWrite n k) o new mv refl)) (sym (gone_flies old.core.writes n k m j))
flown old e o new known mv m j = others_flown old.core e o m j refl

-- the live writes of the history are those in flight
pub live_are : (o : Origin) (start end : State) (past : List Entry) → Opens o start → Run start past end → live_writes past ≡ flying end.core.writes
live_are o start end [] opens run = fun_ext (λ n. fun_ext (λ k. ap (λ (c : Core). flying c.writes n k) (sym (ap (λ (s : State). s.core) run ∙ opens.core))))
live_are o start end (x ∷ past) opens run =
    let before = live_are o start run.0 past opens run.1 in
    fun_ext (λ n. fun_ext (λ k.
    ap (λ f. live_step x.event x.outcome f n k) before
    ∙ flown run.0 x.event x.outcome end.legs (known o start run.0 past opens run.1) run.2.moves n k
    ∙ ap (λ (c : Core). flying c.writes n k) (sym run.2.core)))

pub live_is : (o : Origin) (start end : State) (past : List Entry) → Opens o start → Run start past end → (n k : ℕ) → live_writes past n k ≡ plain_of (write_in k (end.core.writes n))
live_is o start end past opens run n k = ap (λ f. f n k) (live_are o start end past opens run)
