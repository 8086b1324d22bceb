use Rattle.std.proofs.Common.{arith, None, get_or, false, []}
use Rattle.lock_wire.proofs.Changed.{ward-change, nobody_called}
use Rattle.lock_wire.proofs.ward.Wards.forget.Goals as goal

pub returns : goal.returns
returns c =
    rw (← c.self.view_is) (ward-change c.self.inside.wards c.args.res (record { master = 0; awaited = []; stale = false; called = [] }) _ (λ w. record w { called = λ n. None }) (omega arith) (nobody_called (get_or c.self.inside.wards c.args.res (record { master = 0; awaited = []; stale = false; called = [] }))))
