use Rattle.std.proofs.Common.{◌≡◌, sym, ap, ◌∙◌, arith}
use Rattle.disk_addition.specs.Names.{leg_named}
use Rattle.disk_addition.proofs.NameLaws.{leg_named-exact}
use Rattle.disk_addition.proofs.devices.Devices.find.Goals as goal

pub returns-clause-exact : goal.returns-clause-exact
returns-clause-exact c =
    let is : c.copied.result ≡ leg_named c.args.self.now c.args.uuid.now =
    c.copied.ensures ∙ c.get.ensures.value ∙ c.self.invariant.1 c.args.uuid.now ∙ ap (λ names. leg_named names c.args.uuid.now) c.self.view_is in
    λ l.
    let law = leg_named-exact c.args.self.now c.args.uuid.now l (rw (← c.self.view_is) (omega (arith, c.self.invariant.0))) in
    (λ e. law.0 (sym is ∙ e), λ named. is ∙ law.1 named)
