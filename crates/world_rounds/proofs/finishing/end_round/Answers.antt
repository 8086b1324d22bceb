use Rattle.std.proofs.Common.{ap, ◌∙◌, None}
use Rattle.dlm_modes.specs.Points.{with_at}
use Rattle.cluster_model.specs.State.{Core}
use Rattle.world_rounds.proofs.finishing.end_round.Goals as goal

pub returns : goal.returns
returns c = c.set_offer.ensures ∙ ap (λ (k : Core). record k { offer = with_at k.offer c.args.n None }) c.let_go_round.ensures
