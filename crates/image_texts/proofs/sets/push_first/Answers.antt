use Rattle.std.proofs.Common.{◌≡◌, ◌++◌, List, ℕ, map, take, string_bytes, subst, ap, ◌∙◌}
use Rattle.std.proofs.lemmas.List.{take_min}
use Rattle.std.specs.Result.{OnOk}
use Rattle.image_texts.specs.Sets.{role_letter}
use Rattle.image_texts.proofs.sets.push_first.Goals as goal

pub returns : goal.returns
returns c =
    let roles = c.args.roles.now in
    subst (λ (letters : List ℕ). OnOk c.push_letters.result (string_bytes c.push_letters.new.text ≡ string_bytes c.args.text.now ++ letters))
    (ap (map role_letter) (ap (λ n. take n roles) c.min-shown.ensures ∙ take_min c.args.count roles)) c.push_letters.ensures
