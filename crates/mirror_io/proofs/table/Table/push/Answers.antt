use Rattle.std.proofs.Common.{◌≡◌, length, arith}
use Rattle.mirror_io.proofs.Tables.{length-table, IsTable-push, values_at-push}
use Rattle.mirror_io.proofs.table.Table.push.Goals as goal

pub insert_reserved-key-requires : goal.insert_reserved-key-requires
insert_reserved-key-requires g c =
    let len : length c.self.inside.keys.items ≡ length c.args.self.now = length-table _ _ _ c.self.invariant c.self.view_is in
    omega (arith, c.self.invariant.all, c.self.invariant.room)

pub push-requires : goal.push-requires
push-requires g c =
    let len : length c.self.inside.keys.items ≡ length c.args.self.now = length-table _ _ _ c.self.invariant c.self.view_is in
    omega arith

pub invariant_of-self : goal.invariant_of-self
invariant_of-self g c =
    let len : length c.self.inside.keys.items ≡ length c.args.self.now = length-table _ _ _ c.self.invariant c.self.view_is in
    let e = c.insert_reserved-key.ensures in
    IsTable-push _ _ _ _ _ _ c.self.invariant (omega arith) e.was_vacant e.updates e.len e.capacity c.push.ensures.items

pub returns : goal.returns
returns g c =
    let e = c.insert_reserved-key.ensures in
    rw (c.push.ensures.items, ← c.self.view_is) (values_at-push _ _ _ _ _ e.updates e.was_vacant c.self.invariant.are_keys)
