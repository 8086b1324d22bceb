use Rattle.std.proofs.Common.{sym, ◌∙◌, arith, map, Bool, ℕ}
use Rattle.dlm_modes.proofs.FirstLaws.{first_such_more, first_such_found, first_such_end}
use Rattle.image_array.specs.Values.{differs, in_rows}
use Rattle.image_array.proofs.values.differing_leg.Goals as goal

pub loop-l-preserved : goal.loop-l-preserved
loop-l-preserved c =
    let p : ℕ → Bool = differs c.args.roles.now (λ k. in_rows (map (λ row. row.items) c.args.rows.now) c.args.from k c.args.s) in
    c.loop-l.invariant ∙ first_such_more p c.loop-l.l 8 (omega arith) (sym c.differs.ensures ∙ c.if-differs.false)

pub returns-then-differs : goal.returns-then-differs
returns-then-differs c =
    let p : ℕ → Bool = differs c.args.roles.now (λ k. in_rows (map (λ row. row.items) c.args.rows.now) c.args.from k c.args.s) in
    sym (c.loop-l.invariant ∙ first_such_found p c.loop-l.l 8 (omega arith) (sym c.differs.ensures ∙ c.if-differs.true))

pub returns : goal.returns
returns c =
    let p : ℕ → Bool = differs c.args.roles.now (λ k. in_rows (map (λ row. row.items) c.args.rows.now) c.args.from k c.args.s) in
    sym (c.loop-l.invariant ∙ first_such_end p c.loop-l.l 8 (omega arith))
