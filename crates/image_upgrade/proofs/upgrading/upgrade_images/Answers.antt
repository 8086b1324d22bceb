use Rattle.std.proofs.Common.{subst}
use Rattle.std.specs.Prelude.{string_bytes}
use Rattle.image_ends.specs.Seen.{ShelfSeen, SinkSeen}
use Rattle.image_ends.specs.Told.{Told}
use Rattle.image_ends.specs.declared.ends.CommandEnd.TheVariants as ends
use Rattle.image_upgrade.proofs.UpgradeLaws.{upgraded_answers, error_answers}
use Rattle.image_upgrade.proofs.upgrading.upgrade_images.Goals as goal

pub returns-in-Ok-clause-answers : goal.returns-in-Ok-clause-answers
returns-in-Ok-clause-answers g c =
    let h : ShelfSeen = record {
      files = g.H.Shelf.contents c.args.shelf.now;
      files_after = g.H.Shelf.contents c.upgraded.new.shelf;
      faults = g.H.Shelf.faults c.args.shelf.now;
      faults_after = g.H.Shelf.faults c.upgraded.new.shelf;
      leg_faults = g.H.Shelf.leg_faults c.args.shelf.now;
      leg_faults_after = g.H.Shelf.leg_faults c.upgraded.new.shelf;
    } in
    let k : SinkSeen = record {
      written = g.K.Sink.written c.args.sink.now;
      written_after = g.K.Sink.written c.tell.new.sink;
      faults = g.K.Sink.faults c.args.sink.now;
      faults_after = g.K.Sink.faults c.tell.new.sink;
    } in
    upgraded_answers h k c.args.from.now c.args.to.now (string_bytes c.in-Ok.text) c.tell.result c.in-Ok.ensures.text
    (subst (λ t. Told k t ends.Done c.tell.result) c.as_str.ensures.value c.tell.ensures.told)

pub returns-in-Err-clause-answers : goal.returns-in-Err-clause-answers
returns-in-Err-clause-answers g c =
    let h : ShelfSeen = record {
      files = g.H.Shelf.contents c.args.shelf.now;
      files_after = g.H.Shelf.contents c.upgraded.new.shelf;
      faults = g.H.Shelf.faults c.args.shelf.now;
      faults_after = g.H.Shelf.faults c.upgraded.new.shelf;
      leg_faults = g.H.Shelf.leg_faults c.args.shelf.now;
      leg_faults_after = g.H.Shelf.leg_faults c.upgraded.new.shelf;
    } in
    let k : SinkSeen = record {
      written = g.K.Sink.written c.args.sink.now;
      written_after = g.K.Sink.written c.tell_upgrade.new.sink;
      faults = g.K.Sink.faults c.args.sink.now;
      faults_after = g.K.Sink.faults c.tell_upgrade.new.sink;
    } in
    error_answers h k c.args.from.now c.args.to.now c.in-Err.error c.tell_upgrade.result c.in-Err.ensures.error c.tell_upgrade.ensures.told
