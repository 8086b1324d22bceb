use Rattle.std.proofs.Common.{◌≡◌, not, ◌&&◌, ℕ, is_none, ap, sym, ◌∙◌}
use Rattle.mdc_types.specs.Bits.{has_bit}
use Rattle.mdc_types.specs.Roles.{role_of, is_working, is_written}
use Rattle.leg_failure.specs.Views.{view_of, left_leg}
use Rattle.leg_failure.proofs.ViewLaws.{lost_same, left_none, withdrawn, kept_lost}
use Rattle.leg_failure.proofs.view.View.take.Goals as goal
use Rattle.leg_failure.proofs.view.View.take.Goals.{then-withdraws, else-withdraws}

pub returns : goal.returns
returns c =
    let lost : ℕ = c.self.inside.lost.0 in
    let old = view_of (Rattle.leg_failure.specs.contracts.view.View.the_view c.self.inside) in
    let none : c.has_none-withdraws.result ≡ is_none (left_leg old (role_of c.args.r.now)) =
    c.has_none-withdraws.ensures ∙ left_none old (role_of c.args.r.now) c.without.result.0 (λ k. c.without.ensures k ∙ ap (λ b. b && not (has_bit lost k)) (c.working_of.ensures k)) in
    let kept : (l : ℕ) → has_bit c.both-kept.result.0 l ≡ (has_bit lost l && is_written (role_of c.args.r.now l)) =
    λ l. c.both-kept.ensures l ∙ ap (λ b. has_bit lost l && b) (c.written_of.ensures l) in
    rw (← c.self.view_is) (lost_same _ _ (λ l. elim c.if-withdraws.branch [
      | then-withdraws w ↦ withdrawn (has_bit lost l) (is_written (role_of c.args.r.now l)) (is_working (role_of c.args.r.now l)) _ (has_bit c.both-kept.result.0 l) _ (sym none ∙ w.if-withdraws.true) (kept l) (ap (λ s. has_bit s.0 l) w.self-is ∙ w.without-self-inside.ensures l ∙ ap (λ b. has_bit c.both-kept.result.0 l && not b) (c.working_of.ensures l))
      | else-withdraws w ↦ kept_lost (has_bit lost l) (is_written (role_of c.args.r.now l)) (is_working (role_of c.args.r.now l)) _ (has_bit c.both-kept.result.0 l) _ (sym none ∙ w.if-withdraws.false) (kept l) (ap (λ s. has_bit s.0 l) w.self-is)
    ]))
