use Rattle.std.proofs.Common.{◌≡◌, ◌<◌, length, get_or, ◌∙◌, arith}
use Rattle.std.proofs.lemmas.List.{get_or_default}
use Rattle.mirror_io.proofs.Tables.{length-table, key_at, IsTable-remove, values_at-remove}
use Rattle.mirror_io.proofs.table.Table.remove.Goals as goal

pub remove-key-requires : goal.remove-key-requires
remove-key-requires g c =
    let len : length c.self.inside.keys.items ≡ length c.args.self.now = length-table _ _ _ c.self.invariant c.self.view_is in
    omega arith

pub remove-requires : goal.remove-requires
remove-requires g c =
    let len : length c.self.inside.keys.items ≡ length c.args.self.now = length-table _ _ _ c.self.invariant c.self.view_is in
    let within : c.args.i < length c.self.inside.keys.items = omega arith in
    let key : c.remove-key.result ≡ get_or c.self.inside.keys.items c.args.i 0 = c.remove-key.ensures.value ∙ get_or_default _ _ _ _ within in
    rw key (key_at c.self.inside.values _ _ c.self.invariant.are_keys within)

pub invariant_of-self : goal.invariant_of-self
invariant_of-self g c =
    let len : length c.self.inside.keys.items ≡ length c.args.self.now = length-table _ _ _ c.self.invariant c.self.view_is in
    let within : c.args.i < length c.self.inside.keys.items = omega arith in
    let key : c.remove-key.result ≡ get_or c.self.inside.keys.items c.args.i 0 = c.remove-key.ensures.value ∙ get_or_default _ _ _ _ within in
    let e = c.remove.ensures in
    IsTable-remove _ _ _ _ _ c.self.invariant within (rw key at e.updates) e.len e.capacity c.remove-key.ensures.items

pub returns : goal.returns
returns g c =
    let len : length c.self.inside.keys.items ≡ length c.args.self.now = length-table _ _ _ c.self.invariant c.self.view_is in
    let within : c.args.i < length c.self.inside.keys.items = omega arith in
    let key : c.remove-key.result ≡ get_or c.self.inside.keys.items c.args.i 0 = c.remove-key.ensures.value ∙ get_or_default _ _ _ _ within in
    rw (c.remove-key.ensures.items, ← c.self.view_is) (values_at-remove _ _ _ _ c.self.invariant.are_keys within (rw key at c.remove.ensures.updates))
