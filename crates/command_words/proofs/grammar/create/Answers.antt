use Rattle.std.proofs.Common.{◌≡◌, ◌∙◌, ap₂, true, false, codes, rules}
use Rattle.std.proofs.lemmas.Result.{IfOk-weaker}
use Rattle.clap.specs.Words.{app_of, rule_of, with_rule}
use Rattle.command_words.specs.Grammar.{place, show_app}
use Rattle.command_words.proofs.grammar.create.Goals as goal

pub returns : goal.returns
returns c =
    let legs : rule_of c.place.result ≡ place (codes "LEGS") true = search rules in
    let sectors : rule_of c.place-2.result ≡ place (codes "SECTORS") true = search rules in
    let chunk : rule_of c.place-3.result ≡ place (codes "CHUNK") true = search rules in
    let uuid : rule_of c.place-4.result ≡ place (codes "UUID") true = search rules in
    let room : rule_of c.place-5.result ≡ place (codes "ROOM") false = search rules in
    let shown : app_of c.in_ok-show.field-0 ≡ show_app c.args.word.now = search rules in
    let with_legs = c.in_ok-arg.ensures.shape c.place.ensures.local ∙ ap₂ with_rule shown legs in
    let with_sectors = c.in_ok-arg-2.ensures.shape c.place-2.ensures.local ∙ ap₂ with_rule with_legs sectors in
    let with_chunk = c.in_ok-arg-3.ensures.shape c.place-3.ensures.local ∙ ap₂ with_rule with_sectors chunk in
    let with_uuid = c.in_ok-arg-4.ensures.shape c.place-4.ensures.local ∙ ap₂ with_rule with_chunk uuid in
    IfOk-weaker c.arg-5.result _ _ (λ r h. h.shape c.place-5.ensures.local ∙ ap₂ with_rule with_uuid room) c.arg-5.ensures
