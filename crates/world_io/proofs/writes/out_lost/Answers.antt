use Rattle.std.proofs.Common.{◌≡◌, ◌∙◌, ap, sym, subst, false}
use Rattle.leg_failure.specs.Views.{is_last}
use Rattle.cluster_model.specs.State.{Core}
use Rattle.cluster_model.specs.Failures.{leg_lost}
use Rattle.world_io.proofs.writes.out_lost.Goals as goal

pub lose_leg-requires-clause-more : goal.lose_leg-requires-clause-more
lose_leg-requires-clause-more c = subst (λ (x : Core). is_last (x.view c.args.n) c.args.l ≡ false) (sym c.start_write.ensures) c.requires.more

pub returns : goal.returns
returns c = c.lose_leg.ensures ∙ ap (λ (x : Core). leg_lost x c.args.n c.args.l) c.start_write.ensures
