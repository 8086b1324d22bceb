use Rattle.std.proofs.Common.{refl}
use Rattle.cluster_model.specs.State.{Copy, Asked}
use Rattle.node_copies.specs.declared.places.Turn.TheVariants as turns
use Rattle.node_copies.specs.Copies.{copy_of, IsOf, no_place}
use Rattle.node_copies.proofs.TableLaws.{place_call}
use Rattle.node_copies.proofs.copies.Copies.ask.Goals as goal

pub returns-clause-copy : goal.returns-clause-copy
returns-clause-copy c = rw (← c.self.view_is) (place_call copy_of (IsOf c.self.inside.geometry) (λ (x : Copy). record x { turn = Asked }) no_place c.self.inside.places.items c.args.n c.index_mut.result.now (record c.index_mut.result.now { turn = turns.Asked }) c.self.invariant.nodes c.requires c.index_mut.ensures.value (refl))
