use Rattle.std.proofs.Common.{◌≡◌, true, arith}
use Rattle.std.specs.Prelude.{is_some}
use Rattle.mdc_types.specs.Bits.{has_bit}
use Rattle.world_state.specs.Kept.{core_of}
use Rattle.world_repair.proofs.Looking.{unmarked_is}
use Rattle.world_repair.proofs.looks.unmarked.Goals as goal

pub returns : goal.returns
returns c =
    let there : is_some ((core_of c.args.core.now).recovery c.args.n) ≡ true = grind (arith, c.recovers.ensures, c.if-not-recovers.false) in
    unmarked_is (core_of c.args.core.now) c.args.n ((core_of c.args.core.now).recovery c.args.n) (has_bit c.targets.result) c.unmarked_of.result there c.targets.ensures c.unmarked_of.ensures
