use Rattle.std.proofs.Common.{Some, nat_eq, sym, ap, ◌∙◌, arith, if◌then◌else◌}
use Rattle.std.specs.Cmp.Lexicographic.{pointwise}
use Rattle.std.specs.Map.{lookup}
use Rattle.indexmap.specs.IndexMap.{get}
use Rattle.disk_addition.proofs.NameLaws.{leg_named-zero, one_more}
use Rattle.disk_addition.proofs.devices.Devices.open.Goals as goal

pub loop-l-init : goal.loop-l-init
loop-l-init c = λ name. ap (lookup (pointwise nat_eq name)) c.in_ok-by_name.ensures.empty ∙ sym (leg_named-zero c.args.uuid.now name)

pub loop-l-preserved : goal.loop-l-preserved
loop-l-preserved c = λ name.
    one_more c.args.uuid.now name c.loop-l.l (get (pointwise nat_eq) c.loop-l.by_name name) (get (pointwise nat_eq) c.insert.new.self name) (omega arith) (c.loop-l.invariant name) (c.in_ok-insert.ensures.updates.0 name ∙ ap (λ key. if pointwise nat_eq key name then Some c.loop-l.l else get (pointwise nat_eq) c.loop-l.by_name name) c.device_uuid.ensures)
