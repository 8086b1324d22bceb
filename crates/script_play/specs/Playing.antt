-- What the lines of a script do, and what is printed for them.
use Rattle.std.specs.Prelude.{◌≡◌, ◌⊎◌, ◌≤◌, ℕ, List, [], ◌∷◌, ◌++◌, reverse, take, length}
use Rattle.std.specs.Prelude.{slice_get, Option, Some}
use Rattle.mdc_types.specs.declared.events.Event.{Event}
use Rattle.mdc_types.specs.declared.outcomes.Outcome.{Outcome}
use Rattle.mdc_types.specs.declared.refusals.Refusal.{Refusal}
use Rattle.cluster_model.specs.Table.{refusal}
use Rattle.world_state.specs.Kept.{core_of}
use Rattle.world_state.specs.Told.{told_by}
use Rattle.cluster_core.specs.World.{trace_limit}
use Rattle.cluster_core.specs.Stands.{Stand, Makes, FindsFull}
use Rattle.auto_driver.specs.Helping.{Helped, HelpedUpTo, HelpedTillFull}
use Rattle.auto_driver.specs.Storming.{Storm, Storms, Stormed, StormedTillFull}
use Rattle.auto_driver.specs.declared.counting.Summary.{Summary}
use Rattle.leg_comparison.specs.Reads.{HoldSame}
use Rattle.leg_comparison.specs.Compared.{Compares, TellsOfContents}
use Rattle.leg_comparison.specs.declared.comparing.Comparison.{Comparison}
use Rattle.script_text.specs.Outside.{WroteFront, IsDue}
use Rattle.script_text.specs.declared.script.Line.{Line}
use Rattle.script_text.specs.declared.script.Line.TheVariants as line_kinds
use Rattle.report_text.specs.Outcomes.{outcome_line}
use Rattle.report_text.specs.Drivers.{auto_line, storm_line}
use Rattle.report_text.specs.Queries.{compared_line}
use Rattle.script_play.specs.Drivers.{counts_of, compared_of}
use Rattle.script_play.specs.QueryAnswers.{refused_line, query_line}
use Rattle.script_play.specs.Texts.{printed}

-- One line.

-- a guard fails: the text says which one, and nothing changes
pub record Refuses (old : Stand) (e : Event) (new : Stand) (text : List ℕ) : Type 0 where
  pub why : Refusal
  pub refused : refusal (core_of old.kept) e ≡ Some why
  pub same : new ≡ old
  pub says : text ≡ refused_line why

-- the guards hold: a step of the machine and one entry more, and the text says the outcome
pub record Accepts (old : Stand) (e : Event) (new : Stand) (text : List ℕ) : Type 0 where
  pub outcome : Outcome
  pub makes : Makes old e outcome new
  pub says : text ≡ outcome_line outcome

abbrev pub TakesEvent : Stand → Event → Stand → List ℕ → Type 0
TakesEvent old e new text = Refuses old e new text ⊎ Accepts old e new text

-- up to k events that help the cluster on, each chosen from the state before it
pub record TakesAuto (k : ℕ) (old new : Stand) (text : List ℕ) : Type 0 where
  pub made : ℕ
  pub helped : HelpedUpTo k made old new
  pub says : text ≡ auto_line made

-- so many turns of events that are drawn from the seed
pub record TakesStorm (seed turns : ℕ) (old new : Stand) (text : List ℕ) : Type 0 where
  pub counts : Summary
  pub stormed : Stormed turns seed old new counts
  pub says : text ≡ storm_line (counts_of counts)

-- the legs are read, and nothing else happens
pub record ReadsLegs (old new : Stand) : Type 0 where
  pub kept : new.kept ≡ old.kept
  pub past : new.past ≡ old.past
  pub holds : HoldSame old.legs new.legs

-- the legs are compared. Where they tell what they hold, and no read fails, the answer is a function
-- of that
pub record TakesCompare (old new : Stand) (text : List ℕ) : Type 0 where
  pub reads : ReadsLegs old new
  pub answer : Comparison
  pub compares : Compares (core_of old.kept) old.legs new.legs answer
  pub tells : TellsOfContents (core_of old.kept) (told_by old.legs) answer
  pub says : text ≡ compared_line (compared_of answer)

-- one line, with its text: a query changes nothing, and of the answer to `check` this is said
abbrev pub Takes : (Stand → List ℕ → Type 0) → Stand → Line → Stand → List ℕ → Type 0
Takes Check old (line_kinds.Event e) new text = TakesEvent old e new text
Takes Check old (line_kinds.Auto k) new text = TakesAuto k old new text
Takes Check old (line_kinds.Storm seed turns) new text = TakesStorm seed turns old new text
Takes Check old line_kinds.Compare new text = TakesCompare old new text
Takes Check old line_kinds.Check new text = (new ≡ old) × Check old text
Takes Check old query new text = (new ≡ old) × (text ≡ query_line old.kept query)

-- A line that isn't taken whole.

-- events that help were made, and not more than k
pub record HelpsSome (k : ℕ) (old new : Stand) : Type 0 where
  pub made : ℕ
  pub few : made ≤ k
  pub helped : Helped made old new

-- turns of the storm were made, and not more than so many
pub record StormsSome (seed turns : ℕ) (old new : Stand) : Type 0 where
  pub made : ℕ
  pub few : made ≤ turns
  pub storm : Storm
  pub storms : Storms turns seed made old storm
  pub ends : storm.at ≡ new

-- memory is wanting in this line: what it made so far is kept
abbrev pub Breaks : Stand → Line → Stand → Type 0
Breaks old (line_kinds.Event e) new = (new ≡ old) ⊎ ((o : Outcome) × Makes old e o new)
Breaks old (line_kinds.Auto k) new = HelpsSome k old new
Breaks old (line_kinds.Storm seed turns) new = StormsSome seed turns old new
Breaks old line_kinds.Compare new = ReadsLegs old new
Breaks old query new = new ≡ old

-- in this line an event whose guards hold finds the trace full: what it made so far is kept
abbrev pub EndsFull : Stand → Line → Stand → Type 0
EndsFull old (line_kinds.Event e) new = FindsFull old e × (new ≡ old)
EndsFull old (line_kinds.Auto k) new = HelpedTillFull k old new
EndsFull old (line_kinds.Storm seed turns) new = StormedTillFull turns seed old new
EndsFull old query new = ⊥

-- Lines one after another.

-- a line more after others
pub record AddsLine (Check : Stand → List ℕ → Type 0) (Earlier : Stand → List ℕ → Type 0)
    (line : Line) (end : Stand) (text : List ℕ) : Type 0 where
  pub mid : Stand
  pub said : List ℕ
  pub earlier : Earlier mid said
  pub more : List ℕ
  pub takes : Takes Check mid line end more
  pub says : text ≡ said ++ printed more

-- The lines, the newest first, lead from start to end, and this text is printed for them in their
-- order.
abbrev pub Plays : (Stand → List ℕ → Type 0) → Stand → List Line → Stand → List ℕ → Type 0
Plays Check start [] end text = (end ≡ start) × (text ≡ [])
Plays Check start (line ∷ lines) end text = AddsLine Check (Plays Check start lines) line end text

-- the lines, in their order, were played from start to end, with no more entries than a trace may have
pub record Played (Check : Stand → List ℕ → Type 0) (start : Stand) (lines : List Line) (end : Stand)
    (text : List ℕ) : Type 0 where
  pub plays : Plays Check start (reverse lines) end text
  pub few : length end.past ≤ trace_limit

-- How far lines were played.

-- the lines were played: a front of their text was written, and the rest waits
pub record SoFar (Check : Stand → List ℕ → Type 0) (start : Stand) (lines : List Line) (end : Stand)
    (written : Option (List ℕ)) (waiting : List ℕ) (now : Option (List ℕ)) : Type 0 where
  pub text : List ℕ
  pub played : Played Check start lines end text
  pub due : IsDue written text waiting now

-- the first of the lines were played, and a front of their text was written, but not all
pub record CutShort (Check : Stand → List ℕ → Type 0) (start : Stand) (lines : List Line)
    (end : Stand) (written now : Option (List ℕ)) : Type 0 where
  pub count : ℕ
  pub text : List ℕ
  pub played : Played Check start (take count lines) end text
  pub wrote : WroteFront written text now

-- the first of the lines were played, and the next one ended so that it led to `last`
pub record Stopped (Check : Stand → List ℕ → Type 0) (Ends : Stand → Line → Stand → Type 0)
    (start : Stand) (lines : List Line) (last : Stand) (written : Option (List ℕ))
    (waiting : List ℕ) (now : Option (List ℕ)) : Type 0 where
  pub count : ℕ
  pub line : Line
  pub next : slice_get lines count ≡ Some line
  pub end : Stand
  pub first : SoFar Check start (take count lines) end written waiting now
  pub ends : Ends end line last
