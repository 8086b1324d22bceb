use Rattle.std.proofs.Common.{ap, sym, ◌∙◌, ℕ, Bool, false}
use Rattle.std.specs.Prelude.{Some}
use Rattle.cluster_model.specs.State.{Copy}
use Rattle.mdc_types.specs.Bits.{has_bit}
use Rattle.mdc_types.specs.Geometry.{chunks_of}
use Rattle.resync_worker.specs.Copying.{begun}
use Rattle.node_bits.specs.Bitmaps.{bitmaps_of}
use Rattle.node_copies.proofs.PlaceLaws.{no_legs}
use Rattle.node_copies.proofs.TableLaws.{all_at}
use Rattle.node_copies.specs.Copies.{copy_of, IsOf, no_place}
use Rattle.node_copies.proofs.TableLaws.{place_call}
use Rattle.node_copies.proofs.copies.Copies.begin_own.Goals as goal

pub begin-requires : goal.begin-requires
begin-requires c =
    let sizes = (all_at (IsOf c.self.inside.geometry) no_place c.self.inside.places.items c.args.n c.index_mut.result.now c.self.invariant.nodes c.requires.node c.index_mut.ensures.value).sizes in
    c.needed_into.ensures.chunks ∙ c.self.invariant.set ∙ ap chunks_of (sym sizes)

pub returns-clause-copy : goal.returns-clause-copy
returns-clause-copy c = rw (← c.self.view_is) (place_call copy_of (IsOf c.self.inside.geometry) (λ (x : Copy). record x { pass = Some (begun (bitmaps_of c.args.bitmaps.now c.args.n).need (λ l. false)) }) no_place c.self.inside.places.items c.args.n c.index_mut.result.now (c.begin.new.x) c.self.invariant.nodes c.requires.node c.index_mut.ensures.value (let over : (ℕ → Bool) → (ℕ → Bool) → Copy = λ todo legs. record (copy_of c.index_mut.result.now) { pass = Some (begun todo legs) } in c.begin.ensures.copy ∙ ap (λ todo. over todo (has_bit 0)) c.needed_into.ensures.needed ∙ ap (over (bitmaps_of c.args.bitmaps.now c.args.n).need) no_legs))
