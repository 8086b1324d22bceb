use Rattle.cluster_model.specs.State.{Copy}
use Rattle.cluster_model.specs.Changes.{window_closed}
use Rattle.node_copies.specs.Copies.{copy_of, IsOf, no_place}
use Rattle.node_copies.proofs.TableLaws.{place_call}
use Rattle.node_copies.proofs.copies.Copies.close_window.Goals as goal

pub returns-clause-copy : goal.returns-clause-copy
returns-clause-copy c = rw (← c.self.view_is) (place_call copy_of (IsOf c.self.inside.geometry) (λ (x : Copy). window_closed x) no_place c.self.inside.places.items c.args.n c.index_mut.result.now (c.close_window.new.x) c.self.invariant.nodes c.requires c.index_mut.ensures.value (c.close_window.ensures.copy))
