use Rattle.std.proofs.Common.{sym, ◌∙◌}
use Rattle.cluster_core.specs.Stands.{stand}
use Rattle.script_play.specs.Playing.{Played}
use Rattle.script_play.specs.QueryAnswers.{Checks}
use Rattle.script_play.proofs.Ran.{ran_also}
use Rattle.mdc.specs.Playing.{Playing}
use Rattle.mdc.proofs.Answering.{ran_script, write_of}
use Rattle.mdc.proofs.SoundStart.{playing_of}
use Rattle.mdc.proofs.scripts.run_script.Goals as goal

pub returns-in-Ok-clause-ran : goal.returns-in-Ok-clause-ran
returns-in-Ok-clause-ran g c =
    let script = c.args.script.now in
    let start = stand c.in-Ok.world in
    let last = stand c.run_lines-end.new.world in
    let also = playing_of script start c.in-Ok.ensures.starts c.in-Ok.world.origin c.in-Ok.ensures.origin in
    rw c.status_of.ensures
    (ran_script script _ _ c.run_lines-end.result
    (last, ran_also (Played (Checks c.in-Ok.world.origin) start) (Playing script) also script.lines last _ _ c.run_lines-end.result (rw c.lines.ensures at c.run_lines-end.ensures.ran)))

pub returns-in-Ok-clause-rose : goal.returns-in-Ok-clause-rose
returns-in-Ok-clause-rose g c = λ is. c.run_lines-end.ensures.rose (write_of c.run_lines-end.result (sym c.status_of.ensures ∙ is))
