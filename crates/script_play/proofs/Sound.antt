-- Lines that were played from a sound opening: `check` finds all entries legal.
use Rattle.std.proofs.Common.{◌≡◌, List, [], ◌∷◌, ℕ}
use Rattle.cluster_model.specs.Opening.{Origin}
use Rattle.cluster_model.specs.Contents.{SoundOpening}
use Rattle.cluster_model.specs.Run.{Run}
use Rattle.laws_roles.specs.Laws.{Tells}
use Rattle.script_text.specs.declared.script.Line.{Line}
use Rattle.script_text.specs.declared.script.Line.TheVariants as line_kinds
use Rattle.cluster_core.specs.Stands.{Stand, state_at}
use Rattle.script_play.specs.Playing.{Takes, Plays}
use Rattle.script_play.specs.QueryAnswers.{Checks, ComesSound, FindsLegal}
use Rattle.script_play.proofs.Played.{run_of}

module _ (o : Origin) (start : Stand) (none : start.past ≡ [])
    (sound : SoundOpening o (state_at start)) (tells : Tells o (state_at start)) where
  comes : (at : Stand) → Run (state_at start) at.past (state_at at) → ComesSound o at
  comes at run = record { start = state_at start; sound = sound; tells = tells; run = run }

  finds : (old : Stand) (line : Line) (new : Stand) (text : List ℕ)
      → Run (state_at start) old.past (state_at old)
      → Takes (Checks o) old line new text → Takes FindsLegal old line new text
  finds old (line_kinds.Event e) new text run t = t
  finds old (line_kinds.Auto k) new text run t = t
  finds old (line_kinds.Storm seed turns) new text run t = t
  finds old line_kinds.Compare new text run t = t
  finds old line_kinds.Check new text run t = (t.0, t.1.sound (comes old run))
  finds old (line_kinds.View n) new text run t = t
  finds old (line_kinds.Map n) new text run t = t
  finds old (line_kinds.Slot l d) new text run t = t
  finds old line_kinds.Record new text run t = t
  finds old (line_kinds.Size n) new text run t = t

  pub all_legal : (lines : List Line) (end : Stand) (text : List ℕ)
      → Plays (Checks o) start lines end text → Plays FindsLegal start lines end text
  all_legal [] end text p = p
  all_legal (line ∷ lines) end text p = record {
    mid = p.mid;
    said = p.said;
    earlier = all_legal lines p.mid p.said p.earlier;
    more = p.more;
    takes = finds p.mid line end p.more (run_of (Checks o) start none lines p.mid p.said p.earlier) p.takes;
    says = p.says;
  }
