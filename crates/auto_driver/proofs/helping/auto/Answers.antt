use Rattle.std.proofs.Common.{◌≡◌, ℕ, Some, None, Err, ap, sym, ◌∙◌}
use Rattle.cluster_model.specs.Table.{refusal}
use Rattle.driver_rules.specs.Helpers.{next_help}
use Rattle.world_state.specs.Kept.{Kept, core_of}
use Rattle.cluster_core.specs.Stands.{stand, Makes}
use Rattle.cluster_core.specs.declared.world.StepEnd.TheVariants.{Refused}
use Rattle.auto_driver.proofs.Accepted.{next_help_accepted}
use Rattle.auto_driver.proofs.Stormy.{helped_more}
use Rattle.auto_driver.proofs.helping.auto.Goals as goal

pub returns-in-Err-clause-refused : goal.returns-in-Err-clause-refused
returns-in-Err-clause-refused g c = λ r is.
    let why : c.in-Err.why ≡ Refused r = cc in
    let next : next_help (core_of c.loop-made.world.kept) ≡ Some c.in-Some.e =
    sym (ap (λ (k : Kept). next_help (core_of k)) c.core.ensures.kept) ∙ sym c.next_help.ensures ∙ c.in-Some.is in
    let accepted : refusal (core_of c.loop-made.world.kept) c.in-Some.e ≡ None = next_help_accepted (core_of c.loop-made.world.kept) c.in-Some.e next in
    let refused : refusal (core_of c.loop-made.world.kept) c.in-Some.e ≡ Some r = c.step.ensures.refused r (c.in-Err.is ∙ ap Err why) in
    let both : None ≡ Some r = sym accepted ∙ refused in
    cc

pub loop-made-preserved : goal.loop-made-preserved
loop-made-preserved g c =
    let next : next_help (core_of c.loop-made.world.kept) ≡ Some c.in-Some.e =
    sym (ap (λ (k : Kept). next_help (core_of k)) c.core.ensures.kept) ∙ sym c.next_help.ensures ∙ c.in-Some.is in
    let makes : Makes (stand c.loop-made.world) c.in-Some.e c.in-Ok.field-0 (stand c.step.new.self) =
    record { carries = c.in-Ok.ensures.carried; entries = c.in-Ok.ensures.entry } in
    record {
      helped = helped_more c.loop-made.made (stand c.args.world.now) (stand c.loop-made.world) (stand c.step.new.self) c.in-Some.e c.in-Ok.field-0 c.loop-made.invariant.helped next makes;
      origin = c.step.ensures.origin ∙ c.loop-made.invariant.origin;
    }
