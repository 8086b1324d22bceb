use Rattle.std.proofs.Common.{ap, ◌∙◌, None}
use Rattle.dlm_modes.specs.Points.{with_at}
use Rattle.cluster_model.specs.State.{Core}
use Rattle.laws_locks.proofs.Told.{up_is}
use Rattle.world_rounds.proofs.quitting.quit_round.Goals as goal

pub give_up-requires-clause-holds : goal.give_up-requires-clause-holds
give_up-requires-clause-holds c = (c.requires.ready.rounded.phased.holds c.args.n).sender

pub returns : goal.returns
returns c = rw (up_is _ c.requires.up) (c.set_offer.ensures ∙ ap (λ (k : Core). record k { offer = with_at k.offer c.args.n None }) c.give_up.ensures)
