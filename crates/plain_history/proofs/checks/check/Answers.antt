use Rattle.std.proofs.Common.{map, reverse, take, ◌∙◌, ◌≡◌, subst}
use Rattle.plain_history.specs.History.{values_at}
use Rattle.plain_history.specs.Runs.{IsFirstBad}
use Rattle.plain_history.proofs.Traces.{Legal-more, Follows-more, first_bad, not_legal}
use Rattle.plain_history.proofs.checks.check.Goals as goal

pub loop-i-preserved : goal.loop-i-preserved
loop-i-preserved c =
    let base = values_at (map (λ list. list.items) c.args.opening.now) in
    let trace = c.args.trace.now in
    let i = c.loop-i.i in
    let taken = c.in-Ok.ensures.run base (reverse (take i trace)) c.loop-i.invariant.follows in
    record {
      follows = Follows-more base trace i c.loop-i-test.true c.loop-i.invariant.legal _ _ taken;
      legal = Legal-more base trace i c.loop-i-test.true c.loop-i.invariant.legal _ _ taken;
      lists = c.in-Ok.ensures.sectors ∙ c.loop-i.invariant.lists;
    }

pub returns-in-Err-Bad-clause-legal : goal.returns-in-Err-Bad-clause-legal
returns-in-Err-Bad-clause-legal c =
    let base = values_at (map (λ list. list.items) c.args.opening.now) in
    let trace = c.args.trace.now in
    let i = c.loop-i.i in
    let bad = c.in-Err-Bad.ensures.run base (reverse (take i trace)) c.loop-i.invariant.follows in
    let first = first_bad base trace i c.loop-i-test.true c.loop-i.invariant.legal _ (rw c.in-Err-Bad.field-0-is at bad) in
    (λ same. cc, λ legal. absurd (not_legal base trace i first legal))

pub returns-in-Err-Bad-clause-first : goal.returns-in-Err-Bad-clause-first
returns-in-Err-Bad-clause-first c =
    let base = values_at (map (λ list. list.items) c.args.opening.now) in
    let trace = c.args.trace.now in
    let i = c.loop-i.i in
    let bad = c.in-Err-Bad.ensures.run base (reverse (take i trace)) c.loop-i.invariant.follows in
    let first = first_bad base trace i c.loop-i-test.true c.loop-i.invariant.legal _ (rw c.in-Err-Bad.field-0-is at bad) in
    λ j same. let e : i ≡ j = cc in subst (IsFirstBad base trace) e first
