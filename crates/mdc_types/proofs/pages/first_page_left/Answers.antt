use Rattle.std.proofs.Common.{◌≡◌, ◌∙◌, ap, sym, length, Some, arith}
use Rattle.std.specs.Prelude.{is_some, option_map}
use Rattle.dlm_modes.proofs.FirstLaws.{first_such_more, first_such_found, first_such_end}
use Rattle.mdc_types.specs.Bits.{has_bit}
use Rattle.mdc_types.specs.Pages.{leg_without, with_its_leg, bits_of}
use Rattle.mdc_types.proofs.pages.first_page_left.Goals as goal

pub returns-in-Some : goal.returns-in-Some
returns-in-Some c =
    let p = c.loop-p.p in
    let leg : leg_without (bits_of c.args.done.now) (has_bit c.args.legs) p ≡ Some c.in-Some.l = sym c.in-Some.ensures in
    let found = c.loop-p.invariant ∙ first_such_found (λ q. is_some (leg_without (bits_of c.args.done.now) (has_bit c.args.legs) q)) p (length c.args.done.now) (omega arith) (ap is_some leg) in
    sym (ap (with_its_leg (bits_of c.args.done.now) (has_bit c.args.legs)) found ∙ ap (option_map (λ l. (p, l))) leg)

pub loop-p-preserved : goal.loop-p-preserved
loop-p-preserved c =
    c.loop-p.invariant ∙ first_such_more (λ q. is_some (leg_without (bits_of c.args.done.now) (has_bit c.args.legs) q)) c.loop-p.p (length c.args.done.now) (omega arith) (ap is_some (sym c.in_default.ensures))

pub returns : goal.returns
returns c =
    sym (ap (with_its_leg (bits_of c.args.done.now) (has_bit c.args.legs)) (c.loop-p.invariant ∙ first_such_end (λ q. is_some (leg_without (bits_of c.args.done.now) (has_bit c.args.legs) q)) c.loop-p.p (length c.args.done.now) (omega arith)))
