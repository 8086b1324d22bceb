use Rattle.std.proofs.Common.{◌∙◌, ap}
use Rattle.cluster_model.specs.State.{Copy}
use Rattle.std.specs.Prelude.{option_map}
use Rattle.resync_worker.specs.Copying.{Passing, settled_at}
use Rattle.node_copies.proofs.TableLaws.{all_at, stands_at}
use Rattle.mdc_types.specs.Geometry.{Sizes}
use Rattle.cluster_model.specs.Copying.{buffer_in}
use Rattle.node_copies.specs.Copies.{copy_of, IsOf, no_place}
use Rattle.node_copies.proofs.TableLaws.{place_call}
use Rattle.node_copies.proofs.copies.Copies.settled.Goals as goal

pub returns-clause-copy : goal.returns-clause-copy
returns-clause-copy c = rw (← c.self.view_is) (λ b found. place_call copy_of (IsOf c.self.inside.geometry) (λ (x : Copy). record x { pass = option_map (λ (p : Passing). settled_at c.self.inside.geometry p b) x.pass }) no_place c.self.inside.places.items c.args.n c.index_mut.result.now (c.settled.new.x) c.self.invariant.nodes c.requires c.index_mut.ensures.value (let sizes = (all_at (IsOf c.self.inside.geometry) no_place c.self.inside.places.items c.args.n c.index_mut.result.now c.self.invariant.nodes c.requires c.index_mut.ensures.value).sizes in let same = stands_at copy_of (IsOf c.self.inside.geometry) no_place c.self.inside.places.items c.args.n c.index_mut.result.now c.self.invariant.nodes c.requires c.index_mut.ensures.value in let by : Sizes → Copy = λ g. record (copy_of c.index_mut.result.now) { pass = option_map (λ (p : Passing). settled_at g p b) (copy_of c.index_mut.result.now).pass } in c.settled.ensures.copy b (ap (λ (x : Copy). buffer_in x.pass) same ∙ found) ∙ ap by sizes))
