use Rattle.std.proofs.Common.{◌∙◌, sym, Global, rules, tests}
use Rattle.std.specs.String.{string_bytes}
use Rattle.std.proofs.lemmas.Iterator.{YieldsList-from_slice}
use Rattle.std.proofs.lemmas.Iterator.Search.{all_from_yields_List}
use Rattle.std.proofs.lemmas.List.Folds.{list_all-map}
use Rattle.command_words.specs.Grammar.{is_plain}
use Rattle.command_words.proofs.grammar.are_plain.Goals as goal

pub returns : goal.returns
returns c =
    let words = c.args.words.now in
    let each = all_from_yields_List (λ w. is_plain (string_bytes {Z = Global} w)) _ _ _ c.all.ensures.ran (YieldsList-from_slice words cc)
    (λ x b q k. search (rules, tests)) in
    each ∙ sym (list_all-map is_plain (string_bytes {Z = Global}) words)
