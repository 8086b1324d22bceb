use Rattle.cluster_model.specs.State.{Copy}
use Rattle.cluster_model.specs.Changes.{no_copy}
use Rattle.node_copies.specs.Copies.{copy_of, IsOf, no_place}
use Rattle.node_copies.proofs.TableLaws.{place_call}
use Rattle.node_copies.proofs.copies.Copies.end.Goals as goal

pub returns-clause-copy : goal.returns-clause-copy
returns-clause-copy c = rw (← c.self.view_is) (place_call copy_of (IsOf c.self.inside.geometry) (λ (x : Copy). no_copy) no_place c.self.inside.places.items c.args.n c.index_mut.result.now (c.end.new.x) c.self.invariant.nodes c.requires c.index_mut.ensures.value (c.end.ensures.copy))
