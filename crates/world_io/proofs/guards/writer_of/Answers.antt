use Rattle.std.proofs.Common.{◌≡◌, ◌<◌, ◌≤◌, ◌∙◌, sym, ap, subst, Some, None}
use Rattle.dlm_modes.specs.First.{first_such}
use Rattle.mdc_types.specs.Geometry.{nodes_of}
use Rattle.cluster_model.specs.Writes.{any_of_sector}
use Rattle.node_requests.specs.Requests.{writes_of}
use Rattle.world_state.specs.Kept.{Kept, core_of}
use Rattle.world_io.proofs.Judging.{no_writer, a_writer, another_writer}
use Rattle.world_io.proofs.guards.writer_of.Goals as goal

pub returns-in_err-m : goal.returns-in_err-m
returns-in_err-m c =
    let is : None ≡ first_such (λ m. any_of_sector c.args.s (writes_of c.args.core.now.requests m)) 0 16 =
    c.in_err-m.ensures ∙ ap (λ (k : Kept). first_such (λ m. any_of_sector c.args.s (writes_of k.requests m)) 0 16) c.core.view_is in
    c.from_residual.ensures ∙ sym (no_writer (core_of c.args.core.now) c.args.s (sym is))

pub returns-then-m-nodes : goal.returns-then-m-nodes
returns-then-m-nodes c =
    let is : Some c.in_ok-m.m ≡ first_such (λ m. any_of_sector c.args.s (writes_of c.args.core.now.requests m)) 0 16 =
    c.in_ok-m.ensures ∙ ap (λ (k : Kept). first_such (λ m. any_of_sector c.args.s (writes_of k.requests m)) 0 16) c.core.view_is in
    let lt = subst (λ n. c.in_ok-m.m < n) (c.nodes.ensures ∙ ap (λ (k : Kept). nodes_of k.identity.geometry) c.core.view_is) c.if-m-nodes.true in
    sym (a_writer (core_of c.args.core.now) c.args.s c.in_ok-m.m (sym is) lt)

pub returns : goal.returns
returns c =
    let is : Some c.in_ok-m.m ≡ first_such (λ m. any_of_sector c.args.s (writes_of c.args.core.now.requests m)) 0 16 =
    c.in_ok-m.ensures ∙ ap (λ (k : Kept). first_such (λ m. any_of_sector c.args.s (writes_of k.requests m)) 0 16) c.core.view_is in
    let past = subst (λ n. n ≤ c.in_ok-m.m) (c.nodes.ensures ∙ ap (λ (k : Kept). nodes_of k.identity.geometry) c.core.view_is) c.if-m-nodes.false in
    sym (another_writer (core_of c.args.core.now) c.args.s c.in_ok-m.m (sym is) past)
