use Rattle.std.proofs.Common.{refl, sym, ◌∙◌}
use Rattle.slot_pages.proofs.GrammarLaws.{spelled_is_faultless, faultless_is_spelled, adds_spelled}
use Rattle.slot_pages.proofs.read_page.Goals as goal

pub returns-in-Some-clause-spelled : goal.returns-in-Some-clause-spelled
returns-in-Some-clause-spelled c = λ set spells. let none = spelled_is_faultless c.args.g.now c.args.uuid.now c.args.p set c.args.page.now.bytes spells in let h = c.in-Some.ensures in cc

pub returns-clause-grammar : goal.returns-clause-grammar
returns-clause-grammar c = faultless_is_spelled c.args.g.now c.args.uuid.now c.args.p c.args.page.now.bytes (sym c.first_fault.ensures ∙ c.in_default.is)

pub returns-clause-spelled : goal.returns-clause-spelled
returns-clause-spelled c = λ set spells. (refl, adds_spelled c.args.g.now c.args.uuid.now c.args.p set c.args.into.now c.page_bits.new.into c.args.page.now.bytes spells c.page_bits.ensures)
