use Rattle.std.proofs.Common.{◌≡◌, ◌==◌, ◌||◌, not, filter, ap, ◌∙◌, arith, rules}
use Rattle.arrayvec.proofs.ArrayVecLemmas.{filter-from_retain}
use Rattle.fs_guard.specs.Writers.{without, holders_of}
use Rattle.fs_guard.proofs.Holders.{without-is, holders-end, apart-end, length-end}
use Rattle.fs_guard.proofs.Guard.end.Goals as goal

pub invariant_of-self : goal.invariant_of-self
invariant_of-self c =
    let ws = c.self.inside.writers.items in
    let kept : c.retain.new.self.items ≡ filter (λ w. not (w.sector == c.args.s) || not (w.node == c.args.n)) ws = filter-from_retain _ _ _ (λ x b f' y called. search rules) _ _ c.retain.ensures.filtered in
    let e : c.retain.new.self.items ≡ without c.args.s c.args.n ws = kept ∙ without-is c.args.s c.args.n ws in
    (rw e (apart-end c.args.s c.args.n ws c.self.invariant.0), rw e (omega (arith, length-end c.args.s c.args.n ws, c.self.invariant.1)))

pub returns-clause-writers : goal.returns-clause-writers
returns-clause-writers c =
    let ws = c.self.inside.writers.items in
    let kept : c.retain.new.self.items ≡ filter (λ w. not (w.sector == c.args.s) || not (w.node == c.args.n)) ws = filter-from_retain _ _ _ (λ x b f' y called. search rules) _ _ c.retain.ensures.filtered in
    kept ∙ without-is c.args.s c.args.n ws ∙ ap (without c.args.s c.args.n) c.self.view_is

pub returns-clause-holders : goal.returns-clause-holders
returns-clause-holders c =
    let ws = c.self.inside.writers.items in
    let kept : c.retain.new.self.items ≡ filter (λ w. not (w.sector == c.args.s) || not (w.node == c.args.n)) ws = filter-from_retain _ _ _ (λ x b f' y called. search rules) _ _ c.retain.ensures.filtered in
    let e : c.retain.new.self.items ≡ without c.args.s c.args.n ws = kept ∙ without-is c.args.s c.args.n ws in
    rw (← c.self.view_is) (ap holders_of e ∙ holders-end c.args.s c.args.n ws c.self.invariant.0)
