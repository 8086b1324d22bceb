use Rattle.std.proofs.Common.{refl}
use Rattle.world_state.specs.Kept.{core_of}
use Rattle.world_repair.proofs.Changing.{found_is}
use Rattle.world_repair.proofs.changes.page_found.Goals as goal

pub returns : goal.returns
returns c = found_is (core_of c.args.core.now) (core_of c.find.new.core) (core_of c.note.new.core) c.args.n c.args.p c.args.l c.args.page.now ((core_of c.args.core.now).recovery c.args.n) c.requires.recovers refl c.find.ensures c.note.ensures
