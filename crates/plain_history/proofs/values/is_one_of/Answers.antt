use Rattle.std.proofs.Common.{refl, sym, ◌∙◌}
use Rattle.std.proofs.lemmas.Bool.{false≢true}
use Rattle.plain_history.proofs.Scans.{same_sector, IsIn-at, IsIn-more, IsIn-end}
use Rattle.plain_history.proofs.values.is_one_of.Goals as goal

pub returns-then-eq : goal.returns-then-eq
returns-then-eq c =
    let same = (same_sector _ c.args.v.now).0 (sym c.eq.ensures ∙ c.if-eq.true) in
    (λ _. IsIn-at c.args.v.now _ c.args.list.now c.loop-u.u-index c.loop-u-test.true same, λ _. refl)

pub loop-u-preserved : goal.loop-u-preserved
loop-u-preserved c =
    λ has. IsIn-more c.args.v.now _ c.args.list.now c.loop-u.u-index c.loop-u-test.true
    (λ same. false≢true (sym c.if-eq.false ∙ c.eq.ensures ∙ (same_sector _ c.args.v.now).1 same)) (c.loop-u.invariant has)

pub returns : goal.returns
returns c = (λ no. absurd (false≢true no), λ has. absurd (IsIn-end c.args.v.now c.args.list.now c.loop-u.u-index c.loop-u-test.false (c.loop-u.invariant has)))
