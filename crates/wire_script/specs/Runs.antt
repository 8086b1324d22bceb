-- Runs of a wire script, and what is printed.
use Rattle.std.specs.Prelude.{◌≡◌, ◌⊎◌, ℕ, ◌<◌, List, [], ◌∷◌, ◌++◌, reverse, take, length, Option}
use Rattle.lock_wire.specs.Machine.{Wire}
use Rattle.laws_wire.specs.Runs.{Call, AreAccepted, wire_after}
use Rattle.laws_wire.specs.Sound.{RunSound}
use Rattle.script_text.specs.declared.wire.WireLine.{WireLine}
use Rattle.script_text.specs.Outside.{with_back, WroteFront, IsDue}
use Rattle.report_text.specs.declared.wire.WireReply.{WireReply}
use Rattle.report_text.specs.Wire.{wire_reply_line}
use Rattle.wire_script.specs.Replies.{Replies, Takes, calls_with}

-- a reply's line of text, with its line feed
abbrev pub reply_text : WireReply → List ℕ
reply_text reply = wire_reply_line reply ++ 10 ∷ []

-- one line was taken, and this is its line of text
pub record TakesLine (w : Wire) (line : WireLine) (later : Wire) (text : List ℕ) : Type 0 where
  pub reply : WireReply
  pub takes : Takes w line later reply
  pub says : text ≡ reply_text reply

-- one line after others: it meets the state that their accepted calls left
pub record AddsLine (nodes : ℕ) (Earlier : List Call → List ℕ → Type 0) (line : WireLine)
    (past : List Call) (text : List ℕ) : Type 0 where
  pub before : List Call
  pub said : List ℕ
  pub earlier : Earlier before said
  pub called : Option Call
  pub reply : WireReply
  pub replies : Replies (wire_after nodes before) line called reply
  pub calls : past ≡ calls_with before called
  pub says : text ≡ said ++ reply_text reply

-- The lines, the newest first, from so many live nodes on, where nothing is asked or held: these calls
-- were accepted, the newest first, and this text is printed for the lines in their order.
abbrev pub Runs : ℕ → List WireLine → List Call → List ℕ → Type 0
Runs nodes [] past text = (past ≡ []) × (text ≡ [])
Runs nodes (line ∷ lines) past text = AddsLine nodes (Runs nodes lines) line past text

-- These lines were run. Each of the calls was accepted in its turn, so what holds of every such list of
-- calls holds of it.
pub record Ran (nodes : ℕ) (lines : List WireLine) (past : List Call) (text : List ℕ) : Type 0 where
  pub runs : Runs nodes (reverse lines) past text
  pub accepted : AreAccepted nodes past
  pub sound : RunSound nodes past

-- all lines were run, and their text was written
pub record RanAll (nodes : ℕ) (lines : List WireLine) (written now : Option (List ℕ)) : Type 0 where
  pub past : List Call
  pub text : List ℕ
  pub ran : Ran nodes lines past text
  pub wrote : now ≡ with_back written text

-- the first lines were run, but not all, and their text was written
pub record RanSome (nodes : ℕ) (lines : List WireLine) (written now : Option (List ℕ))
    : Type 0 where
  pub count : ℕ
  pub few : count < length lines
  pub first : RanAll nodes (take count lines) written now

-- memory was wanting: nothing was written, or the text of the first lines
abbrev pub RanShort : ℕ → List WireLine → Option (List ℕ) → Option (List ℕ) → Type 0
RanShort nodes lines written now = (now ≡ written) ⊎ RanSome nodes lines written now

-- the first lines were run, and a front of their text was written, but not all
pub record RanCut (nodes : ℕ) (lines : List WireLine) (written now : Option (List ℕ)) : Type 0 where
  pub count : ℕ
  pub past : List Call
  pub text : List ℕ
  pub ran : Ran nodes (take count lines) past text
  pub wrote : WroteFront written text now

-- the lines so far, the state that they left, and their text: a front of it was written, and the rest
-- waits
pub record SoFar (nodes : ℕ) (lines : List WireLine) (w : Wire) (written : Option (List ℕ))
    (waiting : List ℕ) (now : Option (List ℕ)) : Type 0 where
  pub past : List Call
  pub text : List ℕ
  pub runs : Runs nodes (reverse lines) past text
  pub left : w ≡ wire_after nodes past
  pub due : IsDue written text waiting now
