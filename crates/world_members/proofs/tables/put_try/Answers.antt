use Rattle.std.proofs.Common.{arith}
use Rattle.world_members.proofs.Replacing.{tries-put_at}
use Rattle.world_members.proofs.tables.put_try.Goals as goal

pub returns-clause-tries : goal.returns-clause-tries
returns-clause-tries c =
    tries-put_at c.args.tried.now.items c.args.n c.args.l c.index_mut-attempts.result.now c.put_attempt.new.tried c.args.attempt c.requires.node c.index_mut-attempts.ensures.value
    (omega (arith, c.put_attempt.ensures.legs)) c.put_attempt.ensures.tried
