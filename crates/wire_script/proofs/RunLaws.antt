-- Lines one after another.
use Rattle.std.proofs.Common.{◌≡◌, ℕ, ◌+◌, ◌<◌, ◌≤◌, Option, Some, None, List, [], ◌∷◌, ◌++◌, length, get_or, take, refl, sym, ◌∙◌, ap, subst, zero, suc, arith}
use Rattle.std.specs.Prelude.{reverse}
use Rattle.std.specs.List.{AllByRecursion}
use Rattle.std.proofs.lemmas.List.{reverse-append, take_more, take_all}
use Rattle.lock_wire.specs.Machine.{Wire, opened}
use Rattle.laws_wire.specs.Runs.{Call, wire_after, AreAccepted}
use Rattle.laws_wire.proofs.Tickets.{wires_are_sound}
use Rattle.script_text.specs.Outside.{with_back, WroteFront, IsDue}
use Rattle.script_text.proofs.DueLaws.{due_start, due_more, due_cut, due_cut_all, due_all}
use Rattle.script_text.specs.declared.wire.WireLine.{WireLine}
use Rattle.report_text.specs.declared.wire.WireReply.{WireReply}
use Rattle.wire_script.specs.Replies.{Replies, wire_with, calls_with}
use Rattle.wire_script.specs.Runs.{TakesLine, Runs, Ran, RanAll, RanSome, RanCut, SoFar}

module _ (nodes : ℕ) (some_node : 1 ≤ nodes) (few : nodes ≤ 16) where
  -- each accepted call was accepted in its turn
  with_accepted : (before : List Call) (line : WireLine) (called : Option Call) (reply : WireReply) → AreAccepted nodes before → Replies (wire_after nodes before) line called reply → AreAccepted nodes (calls_with before called)
  with_accepted before line None reply a r = a
  with_accepted before line (Some call) reply a r = (a, r.accepted)

  accepted_of : (lines : List WireLine) (past : List Call) (text : List ℕ) → Runs nodes lines past text → AreAccepted nodes past
  accepted_of [] past text r = subst (AreAccepted nodes) (sym r.0) (some_node, few)
  accepted_of (line ∷ lines) past text r =
      subst (AreAccepted nodes) (sym r.calls) (with_accepted r.before line r.called r.reply (accepted_of lines r.before r.said r.earlier) r.replies)

  ran_of : (lines : List WireLine) (past : List Call) (text : List ℕ) → Runs nodes (reverse lines) past text → Ran nodes lines past text
  ran_of lines past text runs =
      let accepted = accepted_of (reverse lines) past text runs in
      record { runs = runs; accepted = accepted; sound = wires_are_sound nodes past accepted }

  -- all of them, when what waits is written
  ran_all : (lines : List WireLine) (wire : Wire) (w s now : Option (List ℕ)) (waiting : List ℕ) → SoFar nodes lines wire w waiting s → now ≡ with_back s waiting → RanAll nodes lines w now
  ran_all lines wire w s now waiting a wrote = record { past = a.past; text = a.text; ran = ran_of lines a.past a.text a.runs; wrote = due_all w s now a.text waiting a.due wrote }

  -- what waits was to be written, and a write failed
  pub ran_cut : (lines : List WireLine) (i : ℕ) (wire : Wire) (w s now : Option (List ℕ)) (waiting : List ℕ) → SoFar nodes (take i lines) wire w waiting s → WroteFront s waiting now → RanCut nodes lines w now
  ran_cut lines i wire w s now waiting a cut = record { count = i; past = a.past; text = a.text; ran = ran_of (take i lines) a.past a.text a.runs; wrote = due_cut_all w s now a.text waiting a.due cut }

  pub ran_to_end : (lines : List WireLine) (i : ℕ) (wire : Wire) (w s now : Option (List ℕ)) (waiting : List ℕ) → length lines ≤ i → SoFar nodes (take i lines) wire w waiting s → now ≡ with_back s waiting
      → RanAll nodes lines w now
  ran_to_end lines i wire w s now waiting le a wrote = ran_all lines wire w s now waiting (subst (λ ls. SoFar nodes ls wire w waiting s) (take_all i lines le) a) wrote

  -- a line that isn't printed: what waits was written
  pub halt_at : (lines : List WireLine) (i : ℕ) (wire : Wire) (w s now : Option (List ℕ)) (waiting : List ℕ) → i < length lines → SoFar nodes (take i lines) wire w waiting s → now ≡ with_back s waiting
      → RanSome nodes lines w now
  halt_at lines i wire w s now waiting lt a wrote = record { count = i; few = lt; first = ran_all (take i lines) wire w s now waiting a wrote }

pub begins : (nodes : ℕ) (wire : Wire) (w : Option (List ℕ)) (waiting : List ℕ) → wire ≡ opened nodes → waiting ≡ [] → SoFar nodes [] wire w waiting w
begins nodes wire w waiting is none = record { past = []; text = []; runs = (refl, refl); left = is; due = subst (λ r. IsDue w [] r w) (sym none) (due_start w) }

wire_more : (nodes : ℕ) (past : List Call) (called : Option Call) → wire_with (wire_after nodes past) called ≡ wire_after nodes (calls_with past called)
wire_more nodes past None = refl
wire_more nodes past (Some call) = refl

module _ (nodes : ℕ) (lines : List WireLine) (i : ℕ) (line : WireLine) (lt : i < length lines) (is : line ≡ get_or lines i line) where
  newest : reverse (take (i + 1) lines) ≡ line ∷ reverse (take i lines)
  newest = ap reverse (take_more lines i line lt ∙ ap (λ x. take i lines ++ x ∷ []) (sym is)) ∙ reverse-append (take i lines) (line ∷ [])

  module _ (wire later : Wire) (w s now : Option (List ℕ)) (waiting : List ℕ) (a : SoFar nodes (take i lines) wire w waiting s) (text : List ℕ) (t : TakesLine wire line later text) where
    runs_more : Runs nodes (reverse (take (i + 1) lines)) (calls_with a.past t.takes.called) (a.text ++ text)
    runs_more = rw newest (record {
      before = a.past;
      said = a.text;
      earlier = a.runs;
      called = t.takes.called;
      reply = t.reply;
      replies = subst (λ wire. Replies wire line t.takes.called t.reply) a.left t.takes.replies;
      calls = refl;
      says = ap (λ more. a.text ++ more) t.says;
    })

    -- a line more
    pub next_line : (rest : List ℕ) → IsDue s (waiting ++ text) rest now → SoFar nodes (take (i + 1) lines) later w rest now
    next_line rest due = record {
      past = calls_with a.past t.takes.called;
      text = a.text ++ text;
      runs = runs_more;
      left = t.takes.after ∙ ap (λ wire. wire_with wire t.takes.called) a.left ∙ wire_more nodes a.past t.takes.called;
      due = due_more w s now a.text waiting text rest a.due due;
    }

    -- a line more, whose text was cut off
    pub cut_at : 1 ≤ nodes → nodes ≤ 16 → WroteFront s (waiting ++ text) now → RanCut nodes lines w now
    cut_at some_node few front = record {
      count = i + 1;
      past = calls_with a.past t.takes.called;
      text = a.text ++ text;
      ran = ran_of nodes some_node few (take (i + 1) lines) (calls_with a.past t.takes.called) (a.text ++ text) runs_more;
      wrote = due_cut w s now a.text waiting text a.due front;
    }

-- what holds of each line
pub all_at : (P : WireLine → Type 0) (lines : List WireLine) → AllByRecursion P lines → (i : ℕ) (line : WireLine) → i < length lines → line ≡ get_or lines i line → P line
all_at P [] all i line lt is = absurd (omega (arith, lt))
all_at P (x ∷ lines) all zero line lt is = subst P (sym is) all.0
all_at P (x ∷ lines) all (suc i) line lt is = all_at P lines all.1 i line (omega (arith, lt)) is
