use Rattle.std.proofs.Common.{refl}
use Rattle.cluster_model.specs.State.{Adding}
use Rattle.node_copies.specs.Additions.{adding_in, IsOf, no_place}
use Rattle.node_copies.proofs.TableLaws.{place_call}
use Rattle.node_copies.proofs.additions.Additions.set_addition.Goals as goal

pub returns-clause-adding : goal.returns-clause-adding
returns-clause-adding c = rw (← c.self.view_is) (place_call adding_in (IsOf c.self.inside.geometry) (λ (a : Adding). record a { addition = c.args.addition }) no_place c.self.inside.places.items c.args.n c.index_mut.result.now (record c.index_mut.result.now { addition = c.args.addition }) c.self.invariant c.requires c.index_mut.ensures.value (refl))
