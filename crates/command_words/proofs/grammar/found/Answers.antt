use Rattle.std.proofs.Common.{◌≡◌, ◌∙◌, ap, subst, map, true, [], Global}
use Rattle.std.specs.String.{string_bytes}
use Rattle.clap.proofs.WalkLemmas.{both}
use Rattle.clap.specs.Words.{app_of, fault_of, found_of, is_simple, is_simple_and_free, matches_of, rows_of}
use Rattle.command_words.proofs.grammar.found.Goals as goal

pub returns-in-Ok-try_get_matches_from : goal.returns-in-Ok-try_get_matches_from
returns-in-Ok-try_get_matches_from c = λ app simple told.
    let words = map (string_bytes {Z = Global}) c.args.words.now in
    let matches = c.in-Ok-try_get_matches_from.found in
    let same : app_of c.in-Ok.command ≡ app = rw c.in-Ok.is at told in
    let free : is_simple_and_free (app_of c.in-Ok.command) ≡ true = ap is_simple_and_free same ∙ simple in
    let plain : is_simple (app_of c.in-Ok.command) ≡ true = (both (is_simple (app_of c.in-Ok.command)) _ free).0 in (
      subst (λ a. fault_of a words ≡ []) same (c.in-Ok-try_get_matches_from.ensures.kinds free),
      subst (λ a. rows_of (found_of matches) ≡ matches_of a words) same (c.in-Ok-try_get_matches_from.ensures.matches plain).0,
    )
