use Rattle.std.proofs.Common.{◌≡◌, ◌<◌, ◌-◌, ◌^◌, ◌∙◌, ap, sym, subst, length}
use Rattle.std.specs.Prelude.{None}
use Rattle.dlm_modes.specs.First.{first_such}
use Rattle.mdc_types.specs.declared.outcomes.Outcome.TheVariants.{Write}
use Rattle.cluster_model.specs.State.{Core}
use Rattle.cluster_model.specs.Writes.{any_of_sector}
use Rattle.world_state.specs.Kept.{core_of}
use Rattle.world_io.proofs.Telling.{ask_write_at}
use Rattle.world_io.proofs.Changing.{ask_write_after}
use Rattle.world_io.proofs.writes.ask_write.Goals as goal

pub enter_chunk-requires-clause-chunk : goal.enter_chunk-requires-clause-chunk
enter_chunk-requires-clause-chunk c = rw c.chunk_of-c.ensures (ask_write_at (core_of c.args.core.now) c.args.n c.args.s c.args.v.now c.requires.ready c.requires.accepted).chunk

pub enter_chunk-requires-clause-room : goal.enter_chunk-requires-clause-room
enter_chunk-requires-clause-room c = rw c.chunk_of-c.ensures (ask_write_at (core_of c.args.core.now) c.args.n c.args.s c.args.v.now c.requires.ready c.requires.accepted).few

pub begin_write-k-requires-clause-room : goal.begin_write-k-requires-clause-room
begin_write-k-requires-clause-room c =
    subst (λ (x : Core). length (x.writes c.args.n) < 16) (sym c.enter_chunk.ensures) (ask_write_at (core_of c.args.core.now) c.args.n c.args.s c.args.v.now c.requires.ready c.requires.accepted).room

pub begin_write-k-requires-clause-free : goal.begin_write-k-requires-clause-free
begin_write-k-requires-clause-free c =
    subst (λ (x : Core). first_such (λ m. any_of_sector c.args.s (x.writes m)) 0 16 ≡ None) (sym c.enter_chunk.ensures) (ask_write_at (core_of c.args.core.now) c.args.n c.args.s c.args.v.now c.requires.ready c.requires.accepted).free

pub begin_write-k-requires-clause-numbers : goal.begin_write-k-requires-clause-numbers
begin_write-k-requires-clause-numbers c = subst (λ (x : Core). x.writes_made c.args.n < 2 ^ 32 - 1) (sym c.enter_chunk.ensures) (c.requires.ready.writes_left c.args.n)

pub returns-clause-outcome : goal.returns-clause-outcome
returns-clause-outcome c = ap Write (c.begin_write-k.ensures.number ∙ ap (λ (x : Core). x.writes_made c.args.n) c.enter_chunk.ensures)

pub returns-clause-after : goal.returns-clause-after
returns-clause-after c = ask_write_after (core_of c.args.core.now) _ _ c.args.n c.args.s _ c.args.v.now c.chunk_of-c.ensures c.enter_chunk.ensures c.begin_write-k.ensures.asked
