use Rattle.std.proofs.Common.{ap, ◌∙◌, nat_lt}
use Rattle.std.specs.Prelude.{Some}
use Rattle.cluster_model.specs.State.{Copy}
use Rattle.resync_worker.specs.Copying.{begun}
use Rattle.mdc_types.specs.Geometry.{Sizes, chunks_of}
use Rattle.mdc_types.specs.Bits.{has_bit}
use Rattle.node_copies.proofs.TableLaws.{all_at}
use Rattle.node_copies.specs.Copies.{copy_of, IsOf, no_place}
use Rattle.node_copies.proofs.TableLaws.{place_call}
use Rattle.node_copies.proofs.copies.Copies.begin_full.Goals as goal

pub returns-clause-copy : goal.returns-clause-copy
returns-clause-copy c = rw (← c.self.view_is) (place_call copy_of (IsOf c.self.inside.geometry) (λ (x : Copy). record x { pass = Some (begun (λ k. nat_lt k (chunks_of c.self.inside.geometry)) (has_bit c.args.legs)) }) no_place c.self.inside.places.items c.args.n c.index_mut.result.now (c.begin_full.new.x) c.self.invariant.nodes c.requires c.index_mut.ensures.value (let sizes = (all_at (IsOf c.self.inside.geometry) no_place c.self.inside.places.items c.args.n c.index_mut.result.now c.self.invariant.nodes c.requires c.index_mut.ensures.value).sizes in let all_of : Sizes → Copy = λ g. record (copy_of c.index_mut.result.now) { pass = Some (begun (λ k. nat_lt k (chunks_of g)) (has_bit c.args.legs)) } in c.begin_full.ensures.copy ∙ ap all_of sizes))
