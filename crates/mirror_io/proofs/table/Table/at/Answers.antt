use Rattle.std.proofs.Common.{◌≡◌, ◌<◌, length, sym, ap, arith}
use Rattle.mirror_io.proofs.Tables.{length-table, key_at, value_at}
use Rattle.mirror_io.proofs.table.Table.at.Goals as goal

pub bounds-deref-i : goal.bounds-deref-i
bounds-deref-i g c =
    let len : length c.self.inside.keys.items ≡ length c.args.self.now = length-table _ _ _ c.self.invariant c.self.view_is in
    omega (arith, ap length c.deref.ensures.0)

pub offset_bounds-deref-i : goal.offset_bounds-deref-i
offset_bounds-deref-i g c =
    let len : length c.self.inside.keys.items ≡ length c.args.self.now = length-table _ _ _ c.self.invariant c.self.view_is in
    omega (arith, ap length c.deref.ensures.0)

pub index-requires : goal.index-requires
index-requires g c =
    let len : length c.self.inside.keys.items ≡ length c.args.self.now = length-table _ _ _ c.self.invariant c.self.view_is in
    let within : c.args.i < length c.self.inside.keys.items = omega arith in
    rw c.deref.ensures.0 (key_at c.self.inside.values _ _ c.self.invariant.are_keys within)

pub returns : goal.returns
returns g c =
    let len : length c.self.inside.keys.items ≡ length c.args.self.now = length-table _ _ _ c.self.invariant c.self.view_is in
    let within : c.args.i < length c.self.inside.keys.items = omega arith in
    rw (← c.self.view_is) (sym (value_at c.self.inside.values _ _ _ c.self.invariant.are_keys within (rw c.deref.ensures.0 at c.index.ensures)))
