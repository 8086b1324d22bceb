use Rattle.std.proofs.Common.{◌≡◌, ◌<◌, ◌∙◌, sym, ap, subst, Some}
use Rattle.mdc_types.specs.Geometry.{chunk_of, chunks_of}
use Rattle.mdc_types.specs.Bits.{has_bit}
use Rattle.mirror_io.specs.Flight.{write_in}
use Rattle.mirror_io.specs.declared.live.LiveWrite.{LiveWrite}
use Rattle.leg_failure.specs.Views.{NodeView, is_target}
use Rattle.node_bitmaps.specs.Bitmap.{unmarked_target}
use Rattle.node_bits.specs.Bitmaps.{bitmaps_of}
use Rattle.node_requests.specs.Requests.{writes_of}
use Rattle.world_state.specs.Kept.{Kept, core_of}
use Rattle.world_io.proofs.Judging.{chunk_there, unmarked_same}
use Rattle.world_io.proofs.guards.unmarked_leg.Goals as goal

pub unmarked_target-requires-clause-chunk : goal.unmarked_target-requires-clause-chunk
unmarked_target-requires-clause-chunk c =
    let w : LiveWrite = c.in_ok-s.field-0.now in
    let found : Some w ≡ write_in c.args.k (writes_of c.args.core.now.requests c.args.n) = c.in_ok-s.ensures ∙ ap (λ (k : Kept). write_in c.args.k (writes_of k.requests c.args.n)) c.core.view_is in
    let chunk : c.chunk_of-c.result ≡ chunk_of c.args.core.now.identity.geometry w.sector = c.chunk_of-c.ensures ∙ ap (λ (k : Kept). chunk_of k.identity.geometry w.sector) c.core.view_is in
    let lt : c.chunk_of-c.result < chunks_of c.args.core.now.identity.geometry = rw chunk (chunk_there (core_of c.args.core.now) c.args.n c.args.k w c.requires.ready (sym found)) in
    rw c.core.invariant.bitmaps (subst (λ (k : Kept). c.chunk_of-c.result < chunks_of k.identity.geometry) (sym c.core.view_is) lt)

pub returns : goal.returns
returns c =
    let w : LiveWrite = c.in_ok-s.field-0.now in
    let found : Some w ≡ write_in c.args.k (writes_of c.args.core.now.requests c.args.n) = c.in_ok-s.ensures ∙ ap (λ (k : Kept). write_in c.args.k (writes_of k.requests c.args.n)) c.core.view_is in
    let chunk : c.chunk_of-c.result ≡ chunk_of c.args.core.now.identity.geometry w.sector = c.chunk_of-c.ensures ∙ ap (λ (k : Kept). chunk_of k.identity.geometry w.sector) c.core.view_is in
    c.unmarked_target.ensures ∙ ap (λ (k : Kept). unmarked_target (bitmaps_of k.bitmaps c.args.n) (has_bit c.targets.result) c.chunk_of-c.result) c.core.view_is
    ∙ unmarked_same (core_of c.args.core.now) c.args.n c.chunk_of-c.result c.targets.result _ w (sym found) chunk (λ l. c.targets.ensures l ∙ ap (λ (v : NodeView). is_target v l) c.view.ensures)
