use Rattle.std.proofs.Common.{◌≡◌, ◌<◌, None, length, subst, sym, ◌∙◌}
use Rattle.dlm_modes.specs.First.{first_such}
use Rattle.fs_guard.specs.Writers.{holder}
use Rattle.cluster_model.specs.Writes.{any_of_sector}
use Rattle.node_requests.specs.Requests.{AllRequests, writes_of}
use Rattle.node_requests.proofs.Guarded.{knows, has_room, begun_kept, no_error, on_ok}
use Rattle.node_requests.proofs.requests.Requests.ask_write.Goals as goal

pub begin-requires : goal.begin-requires
begin-requires c = λ free. has_room _ _ c.args.n c.self.invariant c.requires.node (subst (λ (r : AllRequests). length (writes_of r c.args.n) < 16) (sym c.self.view_is) c.requires.room)

pub unreachable-requires : goal.unreachable-requires
unreachable-requires c =
    let free : holder c.args.s c.self.inside.guard ≡ None = knows _ _ c.args.s c.self.invariant ∙ subst (λ (r : AllRequests). first_such (λ m. any_of_sector c.args.s (writes_of r m)) 0 16 ≡ None) (sym c.self.view_is) c.requires.free in
    no_error _ _ free c.begin.ensures.free (sym c.is_err.ensures.value ∙ c.if-is_err.true)

pub invariant_of-self : goal.invariant_of-self
invariant_of-self c =
    let free : holder c.args.s c.self.inside.guard ≡ None = knows _ _ c.args.s c.self.invariant ∙ subst (λ (r : AllRequests). first_such (λ m. any_of_sector c.args.s (writes_of r m)) 0 16 ≡ None) (sym c.self.view_is) c.requires.free in
    let room : length (writes_of (record { flights = c.self.inside.flights.items; guard = c.self.inside.guard }) c.args.n) < 16 = subst (λ (r : AllRequests). length (writes_of r c.args.n) < 16) (sym c.self.view_is) c.requires.room in
    begun_kept _ _ _ _ c.args.s c.args.v.now _ _ c.requires.node c.self.invariant free room c.index_mut-flight.ensures.value (on_ok _ _ (sym c.is_err.ensures.value ∙ c.if-is_err.false) c.begin.ensures.ok) c.in-Ok.ensures.ok
