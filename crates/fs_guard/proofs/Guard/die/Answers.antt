use Rattle.std.proofs.Common.{◌≡◌, ◌==◌, not, filter, ap, ◌∙◌, arith, rules}
use Rattle.arrayvec.proofs.ArrayVecLemmas.{filter-from_retain}
use Rattle.fs_guard.specs.Writers.{without_node, holders_of}
use Rattle.fs_guard.proofs.Holders.{without_node-is, holders-die, apart-die, length-die}
use Rattle.fs_guard.proofs.Guard.die.Goals as goal

pub invariant_of-self : goal.invariant_of-self
invariant_of-self c =
    let ws = c.self.inside.writers.items in
    let kept : c.retain.new.self.items ≡ filter (λ w. not (w.node == c.args.n)) ws = filter-from_retain _ _ _ (λ x b f' y called. search rules) _ _ c.retain.ensures.filtered in
    let e : c.retain.new.self.items ≡ without_node c.args.n ws = kept ∙ without_node-is c.args.n ws in
    (rw e (apart-die c.args.n ws c.self.invariant.0), rw e (omega (arith, length-die c.args.n ws, c.self.invariant.1)))

pub returns-clause-writers : goal.returns-clause-writers
returns-clause-writers c =
    let ws = c.self.inside.writers.items in
    let kept : c.retain.new.self.items ≡ filter (λ w. not (w.node == c.args.n)) ws = filter-from_retain _ _ _ (λ x b f' y called. search rules) _ _ c.retain.ensures.filtered in
    kept ∙ without_node-is c.args.n ws ∙ ap (without_node c.args.n) c.self.view_is

pub returns-clause-holders : goal.returns-clause-holders
returns-clause-holders c =
    let ws = c.self.inside.writers.items in
    let kept : c.retain.new.self.items ≡ filter (λ w. not (w.node == c.args.n)) ws = filter-from_retain _ _ _ (λ x b f' y called. search rules) _ _ c.retain.ensures.filtered in
    let e : c.retain.new.self.items ≡ without_node c.args.n ws = kept ∙ without_node-is c.args.n ws in
    rw (← c.self.view_is) (ap holders_of e ∙ holders-die c.args.n ws c.self.invariant.0)
