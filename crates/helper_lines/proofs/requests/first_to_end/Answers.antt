use Rattle.std.proofs.Common.{sym, ap, ◌∙◌, arith}
use Rattle.cluster_model.specs.State.{Core}
use Rattle.driver_rules.specs.Lines.{first_to_end}
use Rattle.world_state.specs.Kept.{core_of}
use Rattle.helper_lines.proofs.Firsts.{falls}
use Rattle.helper_lines.proofs.Flights.{all_writes, no_more, next_there, number_fits, to_end_found, to_end_more}
use Rattle.helper_lines.proofs.requests.first_to_end.Goals as goal

pub loop-k-init : goal.loop-k-init
loop-k-init c =
    let core : Core = core_of c.args.core.now in
    ap (first_to_end core c.args.n) (sym (all_writes core c.args.n c.requires.ready))

pub returns-in-Some-allowed : goal.returns-in-Some-allowed
returns-in-Some-allowed c =
    let core : Core = core_of c.args.core.now in
    let next = next_there core c.args.n c.requires.ready c.loop-k.from c.in-Some.k (sym c.next_write.ensures ∙ c.in-Some.is) in
    sym (c.loop-k.invariant ∙ to_end_found core c.args.n c.loop-k.from c.in-Some.k c.in-Some-allowed.e next.0 next.1 (sym c.allowed.ensures ∙ c.in-Some-allowed.is))

pub overflow_add-from : goal.overflow_add-from
overflow_add-from c =
    let core : Core = core_of c.args.core.now in
    let fits = number_fits core c.args.n c.requires.ready c.loop-k.from c.in-Some.k (sym c.next_write.ensures ∙ c.in-Some.is) in
    omega (arith, fits.1)

pub loop-k-smaller : goal.loop-k-smaller
loop-k-smaller c =
    let core : Core = core_of c.args.core.now in
    let next = next_there core c.args.n c.requires.ready c.loop-k.from c.in-Some.k (sym c.next_write.ensures ∙ c.in-Some.is) in
    let fits = number_fits core c.args.n c.requires.ready c.loop-k.from c.in-Some.k (sym c.next_write.ensures ∙ c.in-Some.is) in
    falls c.loop-k.from c.in-Some.k (core.writes_made c.args.n) next.1.from fits.0

pub loop-k-preserved : goal.loop-k-preserved
loop-k-preserved c =
    let core : Core = core_of c.args.core.now in
    let next = next_there core c.args.n c.requires.ready c.loop-k.from c.in-Some.k (sym c.next_write.ensures ∙ c.in-Some.is) in
    c.loop-k.invariant ∙ to_end_more core c.args.n c.loop-k.from c.in-Some.k next.0 next.1 (sym c.allowed.ensures ∙ c.in_default-allowed.is)

pub returns : goal.returns
returns c =
    let core : Core = core_of c.args.core.now in
    sym (c.loop-k.invariant ∙ ap (first_to_end core c.args.n) (no_more core c.args.n c.loop-k.from (sym c.next_write.ensures ∙ c.in_default.is)))
