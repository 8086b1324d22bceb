use Rattle.cluster_model.specs.State.{Copy}
use Rattle.std.specs.Prelude.{option_map}
use Rattle.resync_worker.specs.Copying.{Passing, copied}
use Rattle.node_copies.specs.Copies.{copy_of, IsOf, no_place}
use Rattle.node_copies.proofs.TableLaws.{place_call}
use Rattle.node_copies.proofs.copies.Copies.copied_out.Goals as goal

pub returns-clause-copy : goal.returns-clause-copy
returns-clause-copy c = rw (← c.self.view_is) (place_call copy_of (IsOf c.self.inside.geometry) (λ (x : Copy). record x { pass = option_map (λ (p : Passing). copied p c.args.l) x.pass }) no_place c.self.inside.places.items c.args.n c.index_mut.result.now (c.copied_out.new.x) c.self.invariant.nodes c.requires.node c.index_mut.ensures.value (c.copied_out.ensures.copy))
