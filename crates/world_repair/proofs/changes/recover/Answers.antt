use Rattle.std.proofs.Common.{ap, ◌∙◌}
use Rattle.dlm_modes.specs.declared.mode.Mode.TheVariants.{PW}
use Rattle.dlm_space.specs.Locks.{ask_now_refusal}
use Rattle.cluster_model.specs.State.{Core}
use Rattle.world_state.specs.Kept.{core_of}
use Rattle.world_repair.proofs.Changing.{recover_is}
use Rattle.world_repair.proofs.changes.recover.Goals as goal

pub lock_bitmap-requires-clause-free : goal.lock_bitmap-requires-clause-free
lock_bitmap-requires-clause-free c = ap (λ (x : Core). ask_now_refusal (x.locks c.args.d) c.args.n PW) c.begin_recovery.ensures ∙ ap (λ (x : Core). ask_now_refusal (x.locks c.args.d) c.args.n PW) c.begin_members.ensures ∙ c.requires.free

pub returns : goal.returns
returns c = recover_is (core_of c.args.core.now) (core_of c.begin_members.new.core) (core_of c.begin_recovery.new.core) (core_of c.lock_bitmap.new.core) c.args.n c.args.d c.begin_members.ensures c.begin_recovery.ensures c.lock_bitmap.ensures
