use Rattle.std.proofs.Common.{◌<◌, length, sym, arith}
use Rattle.dlm_space.specs.Parts.{lock_of}
use Rattle.dlm_space.proofs.GuardLaws.{Convertible, convertible}
use Rattle.dlm_space.proofs.QueueLaws.{IsQueue-push, room}
use Rattle.dlm_space.proofs.resource.Resource.convert.Goals as goal

pub push-requires : goal.push-requires
push-requires c =
    let f : Convertible (lock_of c.args.self.now) c.args.node = convertible (lock_of c.args.self.now) c.args.node (sym c.in_ok-may_convert.ensures) in
    let r : length c.self.inside.conversions.items < 16 = room c.args.node c.self.inside.conversions.items c.self.invariant.0 c.requires (rw (← c.self.view_is) at f.asks) in
    (omega arith, r)

pub invariant_of-self : goal.invariant_of-self
invariant_of-self c =
    let f : Convertible (lock_of c.args.self.now) c.args.node = convertible (lock_of c.args.self.now) c.args.node (sym c.in_ok-may_convert.ensures) in
    (rw c.push.ensures.items (IsQueue-push c.args.node c.args.mode c.self.inside.conversions.items c.self.invariant.0 c.requires (rw (← c.self.view_is) at f.asks)), c.self.invariant.1)
