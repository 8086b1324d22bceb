use Rattle.std.proofs.Common.{◌∙◌, ap, Some}
use Rattle.dlm_modes.specs.Points.{with_at}
use Rattle.cluster_model.specs.State.{Core}
use Rattle.world_state.specs.Kept.{offer_of}
use Rattle.world_wishes.proofs.offering.settle_offer.Goals as goal

pub returns : goal.returns
returns c = c.set_offer.ensures ∙ ap (λ (k : Core). record k { offer = with_at k.offer c.args.n (Some (offer_of c.args.offer)) }) c.enter_offered.ensures
