-- Lines one after another.
use Rattle.std.proofs.Common.{◌≡◌, inl, inr, ℕ, zero, suc, ◌+◌, ◌<◌, ◌≤◌, Option, Some, None, Result, Ok, Err, List, [], ◌∷◌, ◌++◌, length, take, refl, sym, ◌∙◌, ap, subst, append_assoc, arith}
use Rattle.std.specs.Prelude.{reverse, slice_get, OnOk, OnErr, IfOk}
use Rattle.std.proofs.lemmas.List.{reverse-append, take_more, take-append-le, length-append}
use Rattle.std.proofs.Math.Seq.{take-length}
use Rattle.std.proofs.lemmas.Option.{slice_get_within, get_or_from_slice_get}
use Rattle.cluster_model.specs.State.{State}
use Rattle.cluster_model.specs.Run.{Run}
use Rattle.script_text.specs.declared.script.Line.{Line}
use Rattle.script_text.specs.declared.script.Line.TheVariants as line_kinds
use Rattle.script_text.specs.Outside.{with_back, WroteFront, IsDue}
use Rattle.script_text.proofs.DueLaws.{due_start, due_more, due_cut}
use Rattle.cluster_core.specs.World.{trace_limit}
use Rattle.script_play.specs.Texts.{printed}
use Rattle.mdc_types.specs.declared.events.Event.{Event}
use Rattle.mdc_types.specs.declared.outcomes.Outcome.{Outcome}
use Rattle.cluster_core.specs.Stands.{Stand, Makes, state_at}
use Rattle.auto_driver.specs.Helping.{Helped}
use Rattle.auto_driver.specs.Storming.{Storm, Storms, Happens, does}
use Rattle.auto_driver.specs.Storming.Tries.{Refused, Made}
use Rattle.auto_driver.specs.declared.counting.Summary.{Summary}
use Rattle.auto_driver.specs.Helping.{HelpedBelow, HelpedTillFull}
use Rattle.auto_driver.specs.Storming.{StormedBelow, StormedTillFull}
use Rattle.script_play.specs.Playing.{Plays, Played, Takes, Breaks, EndsFull, SoFar, CutShort, Stopped, ReadsLegs}

-- Results.

pub on_ok : {A E P Q : Type 0} (r : Result A E) → (P → Q) → OnOk r P → OnOk r Q
on_ok (Ok a) f p = f p
on_ok (Err e) f p = p

pub on_err : {A E P Q : Type 0} (r : Result A E) → (P → Q) → OnErr r P → OnErr r Q
on_err (Ok a) f p = p
on_err (Err e) f p = f p

pub if_ok : {A E : Type 0} {P Q : A → Type 0} (r : Result A E) → ((a : A) → P a → Q a)
    → IfOk r P → IfOk r Q
if_ok (Ok a) f p = f a p
if_ok (Err e) f p = p

-- Texts.

-- a front of a text is one of a longer text
pub front_more : (before now : Option (List ℕ)) (text more : List ℕ)
    → WroteFront before text now → WroteFront before (text ++ more) now
front_more before now text more w = (
  w.0,
  omega (arith, w.1, length-append text more),
  w.2 ∙ ap (with_back before) (sym (take-append-le w.0 text more (omega (arith, w.1)))),
)

-- a text and its line feed, in two pieces
pub line_due : (before now later : Option (List ℕ)) (waiting text rest left : List ℕ)
    → IsDue before (waiting ++ text) rest now → IsDue now (rest ++ 10 ∷ []) left later
    → IsDue before (waiting ++ printed text) left later
line_due before now later waiting text rest left d e =
    subst (λ t. IsDue before t left later) (append_assoc waiting text (10 ∷ []))
    (due_more before now later (waiting ++ text) rest (10 ∷ []) left d e)

pub line_cut : (before now later : Option (List ℕ)) (waiting text rest : List ℕ)
    → IsDue before (waiting ++ text) rest now → WroteFront now (rest ++ 10 ∷ []) later
    → WroteFront before (waiting ++ printed text) later
line_cut before now later waiting text rest d w =
    subst (λ t. WroteFront before t later) (append_assoc waiting text (10 ∷ []))
    (due_cut before now later (waiting ++ text) rest (10 ∷ []) d w)

pub line_front : (before now : Option (List ℕ)) (waiting text : List ℕ)
    → WroteFront before (waiting ++ text) now → WroteFront before (waiting ++ printed text) now
line_front before now waiting text w =
    subst (λ t. WroteFront before t now) (append_assoc waiting text (10 ∷ []))
    (front_more before now (waiting ++ text) (10 ∷ []) w)

-- Lines.

module _ (Check : Stand → List ℕ → Type 0) (start : Stand) where
  pub begins : (w : Option (List ℕ)) → length start.past ≤ trace_limit
      → SoFar Check start [] start w [] w
  begins w few = record {
    text = [];
    played = record { plays = (refl, refl); few = few };
    due = due_start w;
  }

  -- all lines
  pub whole : (lines : List Line) (end : Stand) (text : List ℕ)
      → Played Check start lines end text → Played Check start (take (length lines) lines) end text
  whole lines end text played =
      subst (λ lines. Played Check start lines end text) (sym (take-length lines)) played

  module _ (lines : List Line) (i : ℕ) (line : Line) (is : slice_get lines i ≡ Some line) where
    there : i < length lines
    there = slice_get_within lines i line is

    newest : reverse (take (i + 1) lines) ≡ line ∷ reverse (take i lines)
    newest =
        ap reverse (take_more lines i line there ∙ ap (λ x. take i lines ++ x ∷ []) (get_or_from_slice_get lines i line line is))
        ∙ reverse-append (take i lines) (line ∷ [])

    module _ (mid : Stand) (w s : Option (List ℕ)) (waiting : List ℕ)
        (a : SoFar Check start (take i lines) mid w waiting s) where
      longer : (end : Stand) (more : List ℕ) → Takes Check mid line end more
          → length end.past ≤ trace_limit
          → Played Check start (take (i + 1) lines) end (a.text ++ printed more)
      longer end more t few = record {
        plays = rw newest (record {
          mid = mid;
          said = a.text;
          earlier = a.played.plays;
          more = more;
          takes = t;
          says = refl;
        });
        few = few;
      }

      -- a line more
      pub next_line : (end : Stand) (more rest : List ℕ) (now : Option (List ℕ))
          → Takes Check mid line end more → length end.past ≤ trace_limit
          → IsDue s (waiting ++ printed more) rest now
          → SoFar Check start (take (i + 1) lines) end w rest now
      next_line end more rest now t few due = record {
        text = a.text ++ printed more;
        played = longer end more t few;
        due = due_more w s now a.text waiting (printed more) rest a.due due;
      }

      -- a line more, whose text was cut off
      pub cut_at : (end : Stand) (more : List ℕ) (now : Option (List ℕ))
          → Takes Check mid line end more → length end.past ≤ trace_limit
          → WroteFront s (waiting ++ printed more) now → CutShort Check start lines end w now
      cut_at end more now t few front = record {
        count = i + 1;
        text = a.text ++ printed more;
        played = longer end more t few;
        wrote = due_cut w s now a.text waiting (printed more) a.due front;
      }

      -- the line isn't taken whole
      pub stop_at : (Ends : Stand → Line → Stand → Type 0) (last : Stand) (rest : List ℕ)
          (now : Option (List ℕ)) → Ends mid line last → now ≡ s → rest ≡ waiting
          → Stopped Check Ends start lines last w rest now
      stop_at Ends last rest now ends same also = record {
        count = i;
        line = line;
        next = is;
        end = mid;
        first = rw (same, also) a;
        ends = ends;
      }

-- The run that lines lead to.

same_run : (start : State) (mid end : Stand) → end ≡ mid → Run start mid.past (state_at mid)
    → Run start end.past (state_at end)
same_run start mid end is run = rw is run

-- one event more
made_on : (start : State) (mid end : Stand) (e : Event) (o : Outcome) → Makes mid e o end
    → Run start mid.past (state_at mid) → Run start end.past (state_at end)
made_on start mid end e o makes run =
    subst (λ past. Run start past (state_at end)) (sym makes.entries) (state_at mid, run, makes.carries.step)

-- events that help, one after another
helped_on : (start : State) (made : ℕ) (mid end : Stand) → Helped made mid end
    → Run start mid.past (state_at mid) → Run start end.past (state_at end)
helped_on start zero mid end h run = same_run start mid end h run
helped_on start (suc made) mid end h run = made_on start h.0 end h.2.event h.2.outcome h.2.makes (helped_on start made mid h.0 h.1 run)

-- turns of a storm
happens_on : (start : State) (e : Option Event) (mid end : Stand) (before now : Summary) → Happens e mid before end now
    → Run start mid.past (state_at mid) → Run start end.past (state_at end)
happens_on start None mid end before now h run = same_run start mid end h.0 run
happens_on start (Some e) mid end before now (Refused why is same counts) run = same_run start mid end same run
happens_on start (Some e) mid end before now (Made o makes counts) run = made_on start mid end e o makes run

stormed_on : (start : State) (turns seed i : ℕ) (mid : Stand) (storm : Storm) → Storms turns seed i mid storm
    → Run start mid.past (state_at mid) → Run start storm.at.past (state_at storm.at)
stormed_on start turns seed zero mid storm s run = rw s run
stormed_on start turns seed (suc i) mid storm s run =
    happens_on start (does turns i s.0).event s.0.at storm.at s.0.counts storm.counts s.2.happens
    (stormed_on start turns seed i mid s.0 s.1 run)

-- legs that are compared
compared_on : (start : State) (mid end : Stand) → ReadsLegs mid end
    → Run start mid.past (state_at mid) → Run start end.past (state_at end)
compared_on start mid end r run = rw (r.kept, r.past, r.holds.contents) run

-- a line that is taken
pub moves_on : (Check : Stand → List ℕ → Type 0) (start : State) (mid end : Stand) (line : Line)
    (more : List ℕ) → Takes Check mid line end more → Run start mid.past (state_at mid)
    → Run start end.past (state_at end)
moves_on C start mid end (line_kinds.Event e) more (inl r) run = same_run start mid end r.same run
moves_on C start mid end (line_kinds.Event e) more (inr a) run = made_on start mid end e a.outcome a.makes run
moves_on C start mid end (line_kinds.Auto k) more t run = helped_on start t.made mid end t.helped.helped run
moves_on C start mid end (line_kinds.Storm seed turns) more t run =
    same_run start t.stormed.storm.at end (sym t.stormed.ends) (stormed_on start turns seed turns mid t.stormed.storm t.stormed.storms run)
moves_on C start mid end line_kinds.Compare more t run = compared_on start mid end t.reads run
moves_on C start mid end line_kinds.Check more t run = same_run start mid end t.0 run
moves_on C start mid end (line_kinds.View n) more t run = same_run start mid end t.0 run
moves_on C start mid end (line_kinds.Map n) more t run = same_run start mid end t.0 run
moves_on C start mid end (line_kinds.Slot l d) more t run = same_run start mid end t.0 run
moves_on C start mid end line_kinds.Record more t run = same_run start mid end t.0 run
moves_on C start mid end (line_kinds.Size n) more t run = same_run start mid end t.0 run

pub run_of : (Check : Stand → List ℕ → Type 0) (start : Stand) → start.past ≡ []
    → (lines : List Line) (end : Stand) (text : List ℕ) → Plays Check start lines end text
    → Run (state_at start) end.past (state_at end)
run_of C start none [] end text played = rw (played.0, none) refl
run_of C start none (line ∷ lines) end text played =
    moves_on C (state_at start) played.mid end line played.more played.takes
    (run_of C start none lines played.mid played.said played.earlier)

-- a line that memory is wanting for
pub breaks_on : (start : State) (mid end : Stand) (line : Line) → Breaks mid line end
    → Run start mid.past (state_at mid) → Run start end.past (state_at end)
breaks_on start mid end (line_kinds.Event e) (inl same) run = same_run start mid end same run
breaks_on start mid end (line_kinds.Event e) (inr m) run = made_on start mid end e m.0 m.1 run
breaks_on start mid end (line_kinds.Auto k) b run = helped_on start b.made mid end b.helped run
breaks_on start mid end (line_kinds.Storm seed turns) b run =
    same_run start b.storm.at end (sym b.ends) (stormed_on start turns seed b.made mid b.storm b.storms run)
breaks_on start mid end line_kinds.Compare b run = compared_on start mid end b run
breaks_on start mid end line_kinds.Check b run = same_run start mid end b run
breaks_on start mid end (line_kinds.View n) b run = same_run start mid end b run
breaks_on start mid end (line_kinds.Map n) b run = same_run start mid end b run
breaks_on start mid end (line_kinds.Slot l d) b run = same_run start mid end b run
breaks_on start mid end line_kinds.Record b run = same_run start mid end b run
breaks_on start mid end (line_kinds.Size n) b run = same_run start mid end b run

-- a line in which the trace is full
pub full_on : (start : State) (mid end : Stand) (line : Line) → EndsFull mid line end
    → Run start mid.past (state_at mid) → Run start end.past (state_at end)
full_on start mid end (line_kinds.Event e) f run = same_run start mid end f.1 run
full_on start mid end (line_kinds.Auto k) f run = helped_on start f.below.made mid end f.below.helped run
full_on start mid end (line_kinds.Storm seed turns) f run =
    same_run start f.below.storm.at end (sym f.below.ends)
    (stormed_on start turns seed f.below.made mid f.below.storm f.below.storms run)
full_on start mid end line_kinds.Compare f run = absurd f
full_on start mid end line_kinds.Check f run = absurd f
full_on start mid end (line_kinds.View n) f run = absurd f
full_on start mid end (line_kinds.Map n) f run = absurd f
full_on start mid end (line_kinds.Slot l d) f run = absurd f
full_on start mid end line_kinds.Record f run = absurd f
full_on start mid end (line_kinds.Size n) f run = absurd f
