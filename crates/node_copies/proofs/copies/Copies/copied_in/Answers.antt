use Rattle.std.proofs.Common.{◌∙◌, get_or}
use Rattle.cluster_model.specs.State.{Copy}
use Rattle.std.specs.Prelude.{option_map}
use Rattle.resync_worker.specs.Copying.{Passing, filled}
use Rattle.node_copies.proofs.TableLaws.{all_at, stands_at}
use Rattle.node_copies.proofs.PlaceLaws.{next_same}
use Rattle.node_copies.specs.Copies.{copy_of, IsOf, no_place}
use Rattle.node_copies.proofs.TableLaws.{place_call}
use Rattle.node_copies.proofs.copies.Copies.copied_in.Goals as goal

pub returns-clause-copy : goal.returns-clause-copy
returns-clause-copy c = rw (← c.self.view_is) (λ s found. place_call copy_of (IsOf c.self.inside.geometry) (λ (x : Copy). record x { pass = option_map (λ (p : Passing). filled p s c.args.v.now c.args.l) x.pass }) no_place c.self.inside.places.items c.args.n c.index_mut.result.now (c.copied_in.new.x) c.self.invariant.nodes c.requires.node c.index_mut.ensures.value (let sizes = (all_at (IsOf c.self.inside.geometry) no_place c.self.inside.places.items c.args.n c.index_mut.result.now c.self.invariant.nodes c.requires.node c.index_mut.ensures.value).sizes in let same = stands_at copy_of (IsOf c.self.inside.geometry) no_place c.self.inside.places.items c.args.n c.index_mut.result.now c.self.invariant.nodes c.requires.node c.index_mut.ensures.value in c.copied_in.ensures.copy s (next_same c.self.inside.geometry c.index_mut.result.now (get_or c.self.inside.places.items c.args.n no_place) sizes same ∙ found)))
