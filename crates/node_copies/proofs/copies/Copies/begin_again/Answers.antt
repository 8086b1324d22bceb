use Rattle.std.proofs.Common.{ap, ◌∙◌, ◌==◌, ℕ, Bool, false, get_or}
use Rattle.std.specs.Prelude.{Some}
use Rattle.cluster_model.specs.State.{Copy}
use Rattle.resync_worker.specs.Copying.{begun}
use Rattle.node_copies.proofs.PlaceLaws.{one_leg}
use Rattle.node_copies.specs.Copies.{copy_of, IsOf, no_place}
use Rattle.node_copies.proofs.TableLaws.{place_call}
use Rattle.node_copies.proofs.copies.Copies.begin_again.Goals as goal

pub returns-clause-copy : goal.returns-clause-copy
returns-clause-copy c = rw (← c.self.view_is) (place_call copy_of (IsOf c.self.inside.geometry) (λ (x : Copy). record x { pass = Some (begun (λ k. get_or c.args.chunks.now k false) (λ k. k == c.args.l)) }) no_place c.self.inside.places.items c.args.n c.index_mut.result.now (c.begin.new.x) c.self.invariant.nodes c.requires.node c.index_mut.ensures.value (let over : (ℕ → Bool) → Copy = λ legs. record (copy_of c.index_mut.result.now) { pass = Some (begun (λ k. get_or c.args.chunks.now k false) legs) } in c.begin.ensures.copy ∙ ap over (one_leg c.with_leg.result c.args.l c.with_leg.ensures)))
