use Rattle.std.proofs.Common.{◌<◌, length, sym, arith}
use Rattle.dlm_space.specs.Parts.{lock_of}
use Rattle.dlm_space.proofs.GuardLaws.{Free, free}
use Rattle.dlm_space.proofs.QueueLaws.{IsQueue-push, room}
use Rattle.dlm_space.proofs.resource.Resource.ask.Goals as goal

pub push-requires : goal.push-requires
push-requires c =
    let f : Free (lock_of c.args.self.now) c.args.node = free (lock_of c.args.self.now) c.args.node (sym c.in_ok-may_ask.ensures) in
    let r : length c.self.inside.requests.items < 16 = room c.args.node c.self.inside.requests.items c.self.invariant.1 c.requires (rw (← c.self.view_is) at f.asks) in
    (omega arith, r)

pub invariant_of-self : goal.invariant_of-self
invariant_of-self c =
    let f : Free (lock_of c.args.self.now) c.args.node = free (lock_of c.args.self.now) c.args.node (sym c.in_ok-may_ask.ensures) in
    (c.self.invariant.0, rw c.push.ensures.items (IsQueue-push c.args.node c.args.mode c.self.inside.requests.items c.self.invariant.1 c.requires (rw (← c.self.view_is) at f.asks)))
