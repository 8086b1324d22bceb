use Rattle.std.proofs.Common.{◌≡◌, subst, string_bytes}
use Rattle.auto_driver.specs.Storming.{Stormed}
use Rattle.cluster_core.specs.Stands.{stand}
use Rattle.report_text.specs.Drivers.{storm_line}
use Rattle.script_play.proofs.drivers.take_storm.Goals as goal

pub returns-in-Ok-storm_text-clause-ok : goal.returns-in-Ok-storm_text-clause-ok
returns-in-Ok-storm_text-clause-ok g c = record {
  counts = c.in-Ok.counts;
  stormed = subst (λ seed. Stormed c.args.turns seed (stand c.args.world.now) (stand c.storm.new.world) c.in-Ok.counts) c.from.ensures c.in-Ok.ensures.ok;
  says = subst (λ counts. string_bytes c.in-Ok-storm_text.text ≡ storm_line counts) c.counts_of.ensures c.in-Ok-storm_text.ensures;
}
