use Rattle.std.proofs.Common.{Err, ap}
use Rattle.mdc.proofs.Answering.{play_answers_of, play_unread, took}
use Rattle.mdc.proofs.inputs.play_input.Goals as goal

pub returns-in-Ok-clause-answers : goal.returns-in-Ok-clause-answers
returns-in-Ok-clause-answers g c =
    play_answers_of (record {
      left = g.S.Source.left c.args.source.now;
      left_after = g.S.Source.left c.read_input.new.source;
      written = g.K.Sink.written c.args.sink.now;
      written_after = g.K.Sink.written c.play_bytes.new.sink;
      source_faults = g.S.Source.faults c.args.source.now;
      source_faults_after = g.S.Source.faults c.read_input.new.source;
      sink_faults = g.K.Sink.faults c.args.sink.now;
      sink_faults_after = g.K.Sink.faults c.play_bytes.new.sink;
    }) c.in-Ok.bytes.items (record {
      given = c.in-Ok.ensures.taken;
      part = c.in-Ok.ensures.part;
      alone = c.in-Ok.ensures.alone;
    }) c.play_bytes.result (rw c.as_slice.ensures.value at c.play_bytes.ensures.judged) c.play_bytes.ensures.rose

pub returns-in-Err-Failed-clause-answers : goal.returns-in-Err-Failed-clause-answers
returns-in-Err-Failed-clause-answers g c =
    play_unread (record {
      left = g.S.Source.left c.args.source.now;
      left_after = g.S.Source.left c.read_input.new.source;
      written = g.K.Sink.written c.args.sink.now;
      written_after = g.K.Sink.written c.tell_line.new.sink;
      source_faults = g.S.Source.faults c.args.source.now;
      source_faults_after = g.S.Source.faults c.read_input.new.source;
      sink_faults = g.K.Sink.faults c.args.sink.now;
      sink_faults_after = g.K.Sink.faults c.tell_line.new.sink;
    }) (c.in-Err-Failed.ensures.failed (ap Err c.in-Err-Failed.field-0-is)) c.tell_line.ensures

pub returns-in-Ok-clause-taken : goal.returns-in-Ok-clause-taken
returns-in-Ok-clause-taken g c = took _ _ c.in-Ok.bytes.items c.in-Ok.ensures.taken c.in-Ok.ensures.part
