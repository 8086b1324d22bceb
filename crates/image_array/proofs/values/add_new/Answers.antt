use Rattle.std.proofs.Common.{◌≡◌, sym, ◌∙◌, ap, subst}
use Rattle.std.specs.Prelude.{OnOk}
use Rattle.std.specs.List.{list_any}
use Rattle.std.specs.Str.{bytes_eq}
use Rattle.image_array.proofs.ValueLaws.{with_among, with_other}
use Rattle.image_array.proofs.values.add_new.Goals as goal

pub returns-then-is_among : goal.returns-then-is_among
returns-then-is_among c = sym (with_among c.args.value.now c.args.values.now.items
    (ap (list_any (λ u. bytes_eq c.args.value.now.bytes u.bytes)) (sym c.deref.ensures.value) ∙ sym c.is_among.ensures ∙ c.if-is_among.true))

pub returns : goal.returns
returns c = subst (λ xs. OnOk c.push_value.result (c.push_value.new.values.items ≡ xs))
    (sym (with_other c.args.value.now c.args.values.now.items
    (ap (list_any (λ u. bytes_eq c.args.value.now.bytes u.bytes)) (sym c.deref.ensures.value) ∙ sym c.is_among.ensures ∙ c.if-is_among.false)))
    c.push_value.ensures
