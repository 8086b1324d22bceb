use Rattle.std.proofs.Common.{◌≡◌, ◌<◌, sym, ◌∙◌, ap, arith, true, false, get_or, length, Some, None, refl}
use Rattle.std.proofs.lemmas.Bool.Decides.{nat_tests}
use Rattle.std.specs.Int.{div_ceil}
use Rattle.std.specs.Prelude.{nat_lt}
use Rattle.mdc_types.specs.Geometry.{chunk_start}
use Rattle.resync_worker.proofs.SectorLaws.{before, first_chunk_in-flags, first_such-lt}
use Rattle.resync_worker.proofs.pass.Pass.first_chunk_in.Goals as goal

pub returns-in_err-c-clause-value : goal.returns-in_err-c-clause-value
returns-in_err-c-clause-value c =
    let g = c.self.inside.geometry in
    let todo = c.self.inside.todo in
    let some : 0 < g.chunk = omega arith in
    let from : c.div_ceil.result ≡ div_ceil c.args.window.lo g.chunk = c.div_ceil.ensures ∙ ap (div_ceil c.args.window.lo) c.chunk.ensures.value in
    let is = first_chunk_in-flags g todo c.args.window.lo c.args.window.hi c.div_ceil.result c.first_from.result some c.self.invariant.chunks from c.first_from.ensures in
    rw (← c.self.view_is) (c.from_residual.ensures ∙ sym (is ∙ ap (before g c.args.window.hi) c.in_err-c.was))

pub chunk_range-requires : goal.chunk_range-requires
chunk_range-requires c =
    let lt : c.in_ok-c.c < length c.self.inside.todo = first_such-lt (λ k. get_or c.self.inside.todo k false) c.div_ceil.result _ c.in_ok-c.c (sym c.first_from.ensures ∙ c.in_ok-c.was) in
    let count = c.self.invariant.chunks in
    omega arith

pub returns-then-chunk_range-window-clause-value : goal.returns-then-chunk_range-window-clause-value
returns-then-chunk_range-window-clause-value c =
    let g = c.self.inside.geometry in
    let todo = c.self.inside.todo in
    let some : 0 < g.chunk = omega arith in
    let from : c.div_ceil.result ≡ div_ceil c.args.window.lo g.chunk = c.div_ceil.ensures ∙ ap (div_ceil c.args.window.lo) c.chunk.ensures.value in
    let is = first_chunk_in-flags g todo c.args.window.lo c.args.window.hi c.div_ceil.result c.first_from.result some c.self.invariant.chunks from c.first_from.ensures in
    let inside : nat_lt (chunk_start g c.in_ok-c.c) c.args.window.hi ≡ true = grind (arith, nat_tests) in
    let found : before g c.args.window.hi (Some c.in_ok-c.c) ≡ Some c.in_ok-c.c = rw inside refl in
    rw (← c.self.view_is) (sym (is ∙ ap (before g c.args.window.hi) c.in_ok-c.was ∙ found))

pub returns-then-chunk_range-window-clause-range : goal.returns-then-chunk_range-window-clause-range
returns-then-chunk_range-window-clause-range c =
    let lt : c.in_ok-c.c < length c.self.inside.todo = first_such-lt (λ k. get_or c.self.inside.todo k false) c.div_ceil.result _ c.in_ok-c.c (sym c.first_from.ensures ∙ c.in_ok-c.was) in
    let count = c.self.invariant.chunks in
    rw (← c.self.view_is) (omega arith)

pub returns-else-chunk_range-window-clause-value : goal.returns-else-chunk_range-window-clause-value
returns-else-chunk_range-window-clause-value c =
    let g = c.self.inside.geometry in
    let todo = c.self.inside.todo in
    let some : 0 < g.chunk = omega arith in
    let from : c.div_ceil.result ≡ div_ceil c.args.window.lo g.chunk = c.div_ceil.ensures ∙ ap (div_ceil c.args.window.lo) c.chunk.ensures.value in
    let is = first_chunk_in-flags g todo c.args.window.lo c.args.window.hi c.div_ceil.result c.first_from.result some c.self.invariant.chunks from c.first_from.ensures in
    let past : nat_lt (chunk_start g c.in_ok-c.c) c.args.window.hi ≡ false = grind (arith, nat_tests) in
    let none : before g c.args.window.hi (Some c.in_ok-c.c) ≡ None = rw past refl in
    rw (← c.self.view_is) (sym (is ∙ ap (before g c.args.window.hi) c.in_ok-c.was ∙ none))
