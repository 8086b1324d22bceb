use Rattle.std.proofs.Common.{Err, ap, refl}
use Rattle.mdc.specs.ImageAnswers.PlayImagesAnswers.{no_input}
use Rattle.mdc.specs.Telling.InputTold.{wants_memory}
use Rattle.mdc.proofs.Answering.{input_unread}
use Rattle.mdc.proofs.ImageAnswering.{images_answers, kept}
use Rattle.mdc.proofs.inputs.images_input.Goals as goal

pub returns-in-Ok-clause-answers : goal.returns-in-Ok-clause-answers
returns-in-Ok-clause-answers g c =
    images_answers c.args.name.now (record {
      files = g.H.Shelf.contents c.args.shelf.now;
      files_after = g.H.Shelf.contents c.image_bytes.new.shelf;
      faults = g.H.Shelf.faults c.args.shelf.now;
      faults_after = g.H.Shelf.faults c.image_bytes.new.shelf;
      leg_faults = g.H.Shelf.leg_faults c.args.shelf.now;
      leg_faults_after = g.H.Shelf.leg_faults c.image_bytes.new.shelf;
    }) (record {
      left = g.S.Source.left c.args.source.now;
      left_after = g.S.Source.left c.read_input.new.source;
      written = g.K.Sink.written c.args.sink.now;
      written_after = g.K.Sink.written c.image_bytes.new.sink;
      source_faults = g.S.Source.faults c.args.source.now;
      source_faults_after = g.S.Source.faults c.read_input.new.source;
      sink_faults = g.K.Sink.faults c.args.sink.now;
      sink_faults_after = g.K.Sink.faults c.image_bytes.new.sink;
    }) c.in-Ok.bytes.items (record {
      given = c.in-Ok.ensures.taken;
      part = c.in-Ok.ensures.part;
      alone = c.in-Ok.ensures.alone;
    }) (rw c.as_slice.ensures.value at c.image_bytes.ensures)

pub returns-in-Err-Failed-clause-answers : goal.returns-in-Err-Failed-clause-answers
returns-in-Err-Failed-clause-answers g c =
    no_input (input_unread (record {
      left = g.S.Source.left c.args.source.now;
      left_after = g.S.Source.left c.read_input.new.source;
      written = g.K.Sink.written c.args.sink.now;
      written_after = g.K.Sink.written c.tell_line.new.sink;
      source_faults = g.S.Source.faults c.args.source.now;
      source_faults_after = g.S.Source.faults c.read_input.new.source;
      sink_faults = g.K.Sink.faults c.args.sink.now;
      sink_faults_after = g.K.Sink.faults c.tell_line.new.sink;
    }) (c.in-Err-Failed.ensures.failed (ap Err c.in-Err-Failed.field-0-is)) c.tell_line.ensures)
    (kept _ refl refl refl)

pub returns-in-Err-Memory-clause-answers : goal.returns-in-Err-Memory-clause-answers
returns-in-Err-Memory-clause-answers g c = no_input (wants_memory refl) (kept _ refl refl refl)
