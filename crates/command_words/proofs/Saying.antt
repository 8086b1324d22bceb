-- What a command that was found in the words says of them.
use Rattle.std.proofs.Common.{◌≡◌, ◌∙◌, List, [], Option, Some, None, Result, Err, ok_or, option_map, ℕ, sym, ap}
use Rattle.clap.specs.Faults.{fault_of}
use Rattle.clap.specs.Kinds.{Kinds}
use Rattle.clap.specs.Simple.{App}
use Rattle.clap.specs.Walk.{Row}
use Rattle.command_words.specs.declared.command.Command.{Command}
use Rattle.command_words.specs.declared.command.WordsEnd.{WordsEnd}
use Rattle.command_words.specs.declared.command.WordsEnd.TheVariants.{Usage, Memory}
use Rattle.command_words.specs.Commands.{CommandValue, value_of, SaysAs}
use Rattle.command_words.specs.Grammar.{IsFound}
use Rattle.command_words.proofs.ClapWords.{Reads}

same_value : (faults : Kinds) (rows₂ rows : List Row) (f : List Row → Option CommandValue) (wanted : Option CommandValue) (r : Option Command)
    → Reads faults (f rows) wanted → (faults ≡ []) × (rows₂ ≡ rows) → option_map value_of r ≡ f rows₂ → option_map value_of r ≡ wanted
same_value faults rows₂ rows f wanted r reads found value = value ∙ (ap f found.1 ∙ reads.0 found.0)

-- a command was read
pub says_some : (faults : Kinds) (rows₂ rows : List Row) (f : List Row → Option CommandValue) (wanted : Option CommandValue) (r : Option Command) (command : Command)
    → Reads faults (f rows) wanted → (faults ≡ []) × (rows₂ ≡ rows) → option_map value_of r ≡ f rows₂ → r ≡ Some command
    → ok_or (Some (value_of command)) Usage ≡ ok_or wanted Usage
says_some faults rows₂ rows f wanted r command reads found value is =
    let some : Some (value_of command) ≡ option_map value_of r = sym (ap (option_map value_of) is) in
    ap (λ o. ok_or o Usage) (some ∙ same_value faults rows₂ rows f wanted r reads found value)

-- none was
pub says_none : (faults : Kinds) (rows₂ rows : List Row) (f : List Row → Option CommandValue) (wanted : Option CommandValue) (r : Option Command)
    → Reads faults (f rows) wanted → (faults ≡ []) × (rows₂ ≡ rows) → option_map value_of r ≡ f rows₂ → r ≡ None
    → ◌≡◌ {A = Result CommandValue WordsEnd} (Err Usage) (ok_or wanted Usage)
says_none faults rows₂ rows f wanted r reads found value is =
    let none : None ≡ option_map value_of r = sym (ap (option_map value_of) is) in
    ap (λ o. ok_or o Usage) (none ∙ same_value faults rows₂ rows f wanted r reads found value)

-- `clap` found a fault, or memory was wanting
pub says_end : (app : App) (words : List (List ℕ)) (got wanted : Option CommandValue) (end : WordsEnd)
    → Reads (fault_of app words) got wanted → IsFound app words (Err end) → SaysAs (ok_or wanted Usage) (Err end)
says_end app words got wanted Usage reads found = ap (λ o. ok_or o Usage) (sym (reads.1 found))
says_end app words got wanted Memory reads found = tt
