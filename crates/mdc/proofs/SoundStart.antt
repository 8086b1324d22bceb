-- Where a script starts: a sound opening, from which `check` finds all entries legal.
use Rattle.std.proofs.Common.{◌≡◌, List, ℕ, subst}
use Rattle.std.specs.Prelude.{reverse}
use Rattle.cluster_model.specs.Opening.{Origin}
use Rattle.cluster_model.specs.Contents.{SoundOpening}
use Rattle.laws_roles.specs.Laws.{Tells}
use Rattle.laws_promises.proofs.Headers.{header_sound, header_tells}
use Rattle.laws_promises.proofs.Promises.{promised}
use Rattle.script_text.specs.Script.{ScriptValue}
use Rattle.script_text.specs.declared.script.Line.{Line}
use Rattle.cluster_core.specs.Stands.{Stand, state_at}
use Rattle.script_play.specs.Playing.{Plays, Played}
use Rattle.script_play.specs.QueryAnswers.{Checks}
use Rattle.script_play.proofs.Played.{run_of}
use Rattle.script_play.proofs.Sound.{all_legal}
use Rattle.mdc.specs.Opened.{Starts, origin_of}
use Rattle.mdc.specs.Playing.{Playing}

module _ (script : ScriptValue) (start : Stand) (starts : Starts script start) where
  sound : SoundOpening (origin_of script.start) (state_at start)
  sound = header_sound (origin_of script.start) (state_at start) starts.header starts.told starts.opens

  tells : Tells (origin_of script.start) (state_at start)
  tells = header_tells (origin_of script.start) (state_at start) starts.header starts.told

  -- lines that were played from there
  pub playing_of : (o : Origin) → o ≡ origin_of script.start → (lines : List Line) (end : Stand)
      (text : List ℕ) → Played (Checks o) start lines end text → Playing script lines end text
  playing_of o is lines end text played =
      let plays = subst (λ o. Plays (Checks o) start (reverse lines) end text) is played.plays in
      let run = run_of (Checks (origin_of script.start)) start starts.none (reverse lines) end text plays in
      record {
        start = start;
        starts = starts;
        plays = all_legal (origin_of script.start) start starts.none sound tells (reverse lines) end text plays;
        run = run;
        few = played.few;
        promised = promised (origin_of script.start) (state_at start) sound tells (state_at end) end.past run;
      }
