use Rattle.std.proofs.Common.{sym, ap, ◌∙◌, arith, ℕ, Bool}
use Rattle.dlm_modes.proofs.FirstLaws.{first_such_start}
use Rattle.mdc_types.specs.Geometry.{chunks_of}
use Rattle.cluster_model.specs.State.{Core, sizes}
use Rattle.world_state.specs.Kept.{core_of}
use Rattle.helper_lines.specs.Chunks.{is_still}
use Rattle.helper_lines.proofs.Firsts.{falls}
use Rattle.helper_lines.proofs.Clearing.{settled_there, few_chunks, still_found, still_more, still_none}
use Rattle.helper_lines.proofs.chunks.first_still.Goals as goal

pub loop-c-init : goal.loop-c-init
loop-c-init c =
    let core : Core = core_of c.args.core.now in
    first_such_start (is_still core c.args.n) (chunks_of (sizes core))

pub rests-requires-clause-chunk : goal.rests-requires-clause-chunk
rests-requires-clause-chunk c =
    let core : Core = core_of c.args.core.now in
    (settled_there core c.args.n c.loop-c.from c.in-Some.c (sym c.settled_from.ensures ∙ c.in-Some.is)).1

pub returns-then-rests : goal.returns-then-rests
returns-then-rests c =
    let core : Core = core_of c.args.core.now in
    sym (c.loop-c.invariant ∙ still_found core c.args.n c.loop-c.from c.in-Some.c (sym c.settled_from.ensures ∙ c.in-Some.is) (sym c.rests.ensures ∙ c.if-rests.true))

pub overflow_add-from : goal.overflow_add-from
overflow_add-from c =
    let core : Core = core_of c.args.core.now in
    let there = settled_there core c.args.n c.loop-c.from c.in-Some.c (sym c.settled_from.ensures ∙ c.in-Some.is) in
    let few = few_chunks core c.args.n c.requires.ready in
    omega (arith, there.1, few)

pub loop-c-smaller : goal.loop-c-smaller
loop-c-smaller c =
    let core : Core = core_of c.args.core.now in
    let there = settled_there core c.args.n c.loop-c.from c.in-Some.c (sym c.settled_from.ensures ∙ c.in-Some.is) in
    falls c.loop-c.from c.in-Some.c (chunks_of (sizes core)) there.0 there.1

pub loop-c-preserved : goal.loop-c-preserved
loop-c-preserved c =
    let core : Core = core_of c.args.core.now in
    c.loop-c.invariant ∙ still_more core c.args.n c.loop-c.from c.in-Some.c (sym c.settled_from.ensures ∙ c.in-Some.is) (sym c.rests.ensures ∙ c.if-rests.false)

pub returns : goal.returns
returns c =
    let core : Core = core_of c.args.core.now in
    sym (c.loop-c.invariant ∙ still_none core c.args.n c.loop-c.from (sym c.settled_from.ensures ∙ c.in_default.is))
