-- The texts of outcomes.
use Rattle.std.specs.Prelude.{ℕ, List, [], ◌∷◌, codes, decimal}
use Rattle.mdc_types.specs.declared.outcomes.Outcome.{Outcome}
use Rattle.mdc_types.specs.declared.outcomes.Outcome.TheVariants.{Done, Write, Read, Value, Lost, Io, Granted, Events, Message, Whole, Broken, Super, Unread, Unreached, Settled, Page}
use Rattle.report_text.specs.Lines.{line}
use Rattle.report_text.specs.Values.{value_text}
use Rattle.report_text.specs.Words.{mode_word, kind_word}

abbrev pub outcome_line : Outcome → List ℕ
outcome_line Done = codes "done"
outcome_line (Write k) = line (codes "write") (decimal k ∷ [])
outcome_line (Read k) = line (codes "read") (decimal k ∷ [])
outcome_line (Value leg value) = line (codes "value") (decimal leg ∷ value_text value.bytes ∷ [])
outcome_line (Lost l) = line (codes "lost") (decimal l ∷ [])
outcome_line (Io l) = line (codes "io") (decimal l ∷ [])
outcome_line (Granted node mode) = line (codes "granted") (decimal node ∷ mode_word mode ∷ [])
outcome_line (Events number) = line (codes "events") (decimal number ∷ [])
outcome_line (Message kind sender) = line (codes "message") (kind_word kind ∷ decimal sender ∷ [])
outcome_line Whole = codes "whole"
outcome_line Broken = codes "broken"
outcome_line (Super number sector) = line (codes "super") (decimal number ∷ [])
outcome_line (Unread l) = line (codes "unread") (decimal l ∷ [])
outcome_line (Unreached l) = line (codes "unreached") (decimal l ∷ [])
outcome_line (Settled sector value) = codes "done"
outcome_line (Page page) = codes "done"
