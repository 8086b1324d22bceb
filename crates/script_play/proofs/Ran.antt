-- From the lines that were played to how they ran.
use Rattle.std.proofs.Common.{◌≡◌, ◌∙◌, ℕ, Option, List, [], ◌++◌, length, take, ap, subst, sym}
use Rattle.std.specs.Prelude.{reverse}
use Rattle.std.proofs.lemmas.List.{append_assoc}
use Rattle.script_text.specs.declared.script.Line.{Line}
use Rattle.script_text.specs.Outside.{with_back, WroteFront, IsDue}
use Rattle.script_text.proofs.DueLaws.{due_all, due_cut_all}
use Rattle.cluster_model.specs.Run.{Run}
use Rattle.cluster_core.specs.Stands.{Stand, state_at}
use Rattle.script_play.specs.Playing.{Played, Breaks, EndsFull, SoFar, CutShort, Stopped}
use Rattle.script_play.specs.Running.{Ran, PlaysTo, RunText}
use Rattle.script_play.specs.Running.RunText.{of_lines, of_some, of_full}
use Rattle.script_play.specs.Texts.{trace_full_line}
use Rattle.script_play.specs.declared.running.RunEnd.{RunEnd}
use Rattle.script_play.specs.declared.running.RunEnd.TheVariants as ends
use Rattle.script_play.proofs.Played.{whole, run_of, breaks_on, full_on}

-- more behind what is due
behind : (w now : Option (List ℕ)) (text waiting more : List ℕ) → IsDue w text waiting now
    → IsDue w (text ++ more) (waiting ++ more) now
behind w now text waiting more d = record {
  front = d.front;
  text_is = ap (λ t. t ++ more) d.text_is ∙ append_assoc d.front waiting more;
  written = d.written;
}

module _ (Check : Stand → List ℕ → Type 0) (start : Stand) (lines : List Line) (last : Stand)
    (w mid now : Option (List ℕ)) where
  module _ (waiting : List ℕ) where
    module _ (a : SoFar Check start lines last w waiting mid) where
      pub ran_all : now ≡ with_back mid waiting
          → Ran (Played Check start) lines last w now ends.Done
      ran_all wrote = (a.text, (a.played, due_all w mid now a.text waiting a.due wrote))

      pub ran_all_cut : WroteFront mid waiting now
          → Ran (Played Check start) lines last w now ends.Write
      ran_all_cut front = (
        a.text,
        (
          of_lines (length lines) (whole Check start lines last a.text a.played),
          due_cut_all w mid now a.text waiting a.due front,
        ),
      )

    stopped : (Ends : Stand → Line → Stand → Type 0)
        (s : Stopped Check Ends start lines last w waiting mid)
        → PlaysTo (Played Check start) Ends lines last s.first.text
    stopped Ends s = record {
      count = s.count;
      line = s.line;
      next = s.next;
      end = s.end;
      played = s.first.played;
      ends = s.ends;
    }

    module _ (s : Stopped Check Breaks start lines last w waiting mid) where
      pub ran_some : now ≡ with_back mid waiting
          → Ran (Played Check start) lines last w now ends.Memory
      ran_some wrote = (
        s.first.text,
        (stopped Breaks s, due_all w mid now s.first.text waiting s.first.due wrote),
      )

      pub ran_some_cut : WroteFront mid waiting now
          → Ran (Played Check start) lines last w now ends.Write
      ran_some_cut front = (
        s.first.text,
        (of_some (stopped Breaks s), due_cut_all w mid now s.first.text waiting s.first.due front),
      )

    module _ (s : Stopped Check EndsFull start lines last w waiting mid) where
      due : IsDue w (s.first.text ++ trace_full_line) (waiting ++ trace_full_line) mid
      due = behind w mid s.first.text waiting trace_full_line s.first.due

      pub ran_full : now ≡ with_back mid (waiting ++ trace_full_line)
          → Ran (Played Check start) lines last w now ends.TraceFull
      ran_full wrote = (s.first.text, (stopped EndsFull s, due_all w mid now _ _ due wrote))

      pub ran_full_cut : WroteFront mid (waiting ++ trace_full_line) now
          → Ran (Played Check start) lines last w now ends.Write
      ran_full_cut front = (
        s.first.text ++ trace_full_line,
        (of_full (stopped EndsFull s), due_cut_all w mid now _ _ due front),
      )

module _ (Check : Stand → List ℕ → Type 0) (start : Stand) (lines : List Line) (last : Stand)
    (w now : Option (List ℕ)) where
  pub ran_cut : CutShort Check start lines last w now
      → Ran (Played Check start) lines last w now ends.Write
  ran_cut c = (c.text, (of_lines c.count c.played, c.wrote))

-- What is said of lines that were played, said otherwise.
module _ (Are Also : List Line → Stand → List ℕ → Type 0)
    (also : (lines : List Line) (end : Stand) (text : List ℕ) → Are lines end text
    → Also lines end text) where
  plays_also : (Ends : Stand → Line → Stand → Type 0) (lines : List Line) (last : Stand)
      (text : List ℕ) → PlaysTo Are Ends lines last text → PlaysTo Also Ends lines last text
  plays_also Ends lines last text p = record {
    count = p.count;
    line = p.line;
    next = p.next;
    end = p.end;
    played = also (take p.count lines) p.end text p.played;
    ends = p.ends;
  }

  text_also : (lines : List Line) (last : Stand) (text : List ℕ)
      → RunText Are lines last text → RunText Also lines last text
  text_also lines last text (of_lines count {text = said} a) =
      of_lines count (also (take count lines) last said a)
  text_also lines last text (of_some {text = said} p) = of_some (plays_also Breaks lines last said p)
  text_also lines last text (of_full {text = said} p) =
      of_full (plays_also EndsFull lines last said p)

  pub ran_also : (lines : List Line) (last : Stand) (w now : Option (List ℕ)) (end : RunEnd)
      → Ran Are lines last w now end → Ran Also lines last w now end
  ran_also lines last w now ends.Done r = (r.0, (also lines last r.0 r.1.0, r.1.1))
  ran_also lines last w now ends.TraceFull r =
      (r.0, (plays_also EndsFull lines last r.0 r.1.0, r.1.1))
  ran_also lines last w now ends.Write r = (r.0, (text_also lines last r.0 r.1.0, r.1.1))
  ran_also lines last w now ends.Memory r = (r.0, (plays_also Breaks lines last r.0 r.1.0, r.1.1))

-- A run led to where the lines ended.
module _ (Check : Stand → List ℕ → Type 0) (start : Stand) (none : start.past ≡ []) where
  played_run : (lines : List Line) (end : Stand) (text : List ℕ) → Played Check start lines end text
      → Run (state_at start) end.past (state_at end)
  played_run lines end text p = run_of Check start none (reverse lines) end text p.plays

  some_run : (lines : List Line) (last : Stand) (text : List ℕ)
      → PlaysTo (Played Check start) Breaks lines last text
      → Run (state_at start) last.past (state_at last)
  some_run lines last text p =
      breaks_on (state_at start) p.end last p.line p.ends
      (played_run (take p.count lines) p.end text p.played)

  full_run : (lines : List Line) (last : Stand) (text : List ℕ)
      → PlaysTo (Played Check start) EndsFull lines last text
      → Run (state_at start) last.past (state_at last)
  full_run lines last text p =
      full_on (state_at start) p.end last p.line p.ends
      (played_run (take p.count lines) p.end text p.played)

  text_run : (lines : List Line) (last : Stand) (text : List ℕ)
      → RunText (Played Check start) lines last text
      → Run (state_at start) last.past (state_at last)
  text_run lines last text (of_lines count {text = said} a) =
      played_run (take count lines) last said a
  text_run lines last text (of_some {text = said} p) = some_run lines last said p
  text_run lines last text (of_full {text = said} p) = full_run lines last said p

  pub ran_run : (lines : List Line) (last : Stand) (w now : Option (List ℕ)) (end : RunEnd)
      → Ran (Played Check start) lines last w now end
      → Run (state_at start) last.past (state_at last)
  ran_run lines last w now ends.Done r = played_run lines last r.0 r.1.0
  ran_run lines last w now ends.TraceFull r = full_run lines last r.0 r.1.0
  ran_run lines last w now ends.Write r = text_run lines last r.0 r.1.0
  ran_run lines last w now ends.Memory r = some_run lines last r.0 r.1.0
