use Rattle.std.proofs.Common.{arith, ap, ◌≡◌, ◌∙◌, length, take, drop, ◌++◌}
use Rattle.dlm_space.specs.Locks.{all_died}
use Rattle.lock_wire.specs.Parts.{tables_of}
use Rattle.lock_wire.proofs.Changed.{whole}
use Rattle.lock_wire.proofs.tables.Tables.die.Goals as goal

pub returns : goal.returns
returns c =
    let all : take c.self.inside.spaces.len (c.die_all.new.spaces ++ drop (length c.die_all.new.spaces) c.self.inside.spaces.items) ≡ c.die_all.new.spaces = whole c.die_all.new.spaces c.self.inside.spaces.items c.self.inside.spaces.len (grind arith) (grind arith) in
    rw (all, ← c.self.view_is) (c.die_all.ensures ∙ ap (λ t m. all_died (tables_of t m) c.args.n) c.deref_mut.ensures.value)
