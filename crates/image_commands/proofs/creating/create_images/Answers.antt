use Rattle.std.proofs.Common.{◌<◌, ◌≡◌, List, ℕ, ap, subst, refl, ◌∙◌, arith}
use Rattle.cluster_model.specs.Opening.{Origin}
use Rattle.disk_image.specs.Created.{created_at}
use Rattle.disk_image.specs.Files.{name_field}
use Rattle.image_ends.specs.Seen.{ShelfSeen, SinkSeen}
use Rattle.image_ends.specs.Told.{Told}
use Rattle.image_ends.specs.declared.ends.CommandEnd.TheVariants as ends
use Rattle.image_texts.specs.Lines.{created_text}
use Rattle.image_commands.proofs.CreateLaws.{nothing_stands, all_answers, error_answers}
use Rattle.image_commands.proofs.creating.create_images.Goals as goal

pub returns-in-Ok-create-clause-answers : goal.returns-in-Ok-create-clause-answers
returns-in-Ok-create-clause-answers g c =
    let o : Origin = created_at (record { sizes = c.args.geometry; name = name_field c.args.name.now; uuid = c.args.uuid }) in
    let h : ShelfSeen = record {
      files = g.H.Shelf.contents c.args.shelf.now;
      files_after = g.H.Shelf.contents c.create.new.shelf;
      faults = g.H.Shelf.faults c.args.shelf.now;
      faults_after = g.H.Shelf.faults c.create.new.shelf;
      leg_faults = g.H.Shelf.leg_faults c.args.shelf.now;
      leg_faults_after = g.H.Shelf.leg_faults c.create.new.shelf;
    } in
    let k : SinkSeen = record {
      written = g.K.Sink.written c.args.sink.now;
      written_after = g.K.Sink.written c.tell.new.sink;
      faults = g.K.Sink.faults c.args.sink.now;
      faults_after = g.K.Sink.faults c.tell.new.sink;
    } in
    let text : c.as_str.result.now ≡ created_text c.args.name.now c.args.geometry.legs =
    c.as_str.ensures.value ∙ c.in-Ok.ensures ∙ ap (created_text c.args.name.now) c.legs.ensures.value in
    all_answers h k c.args.name.now o c.tell.result c.in-Ok-create.ensures.images
    (subst (λ t. Told k t ends.Done c.tell.result) text c.tell.ensures.told)

pub returns-in-Ok-clause-answers : goal.returns-in-Ok-clause-answers
returns-in-Ok-clause-answers g c =
    let o : Origin = created_at (record { sizes = c.args.geometry; name = name_field c.args.name.now; uuid = c.args.uuid }) in
    let h : ShelfSeen = record {
      files = g.H.Shelf.contents c.args.shelf.now;
      files_after = g.H.Shelf.contents c.create.new.shelf;
      faults = g.H.Shelf.faults c.args.shelf.now;
      faults_after = g.H.Shelf.faults c.create.new.shelf;
      leg_faults = g.H.Shelf.leg_faults c.args.shelf.now;
      leg_faults_after = g.H.Shelf.leg_faults c.create.new.shelf;
    } in
    let k : SinkSeen = record {
      written = g.K.Sink.written c.args.sink.now;
      written_after = g.K.Sink.written c.tell_error.new.sink;
      faults = g.K.Sink.faults c.args.sink.now;
      faults_after = g.K.Sink.faults c.tell_error.new.sink;
    } in
    error_answers h k c.args.name.now o c.in-Err-create.error c.tell_error.result c.in-Err-create.ensures.images
    c.in-Err-create.ensures.cause c.tell_error.ensures.told

pub returns-clause-answers : goal.returns-clause-answers
returns-clause-answers g c =
    let o : Origin = created_at (record { sizes = c.args.geometry; name = name_field c.args.name.now; uuid = c.args.uuid }) in
    let h : ShelfSeen = record {
      files = g.H.Shelf.contents c.args.shelf.now;
      files_after = g.H.Shelf.contents c.args.shelf.now;
      faults = g.H.Shelf.faults c.args.shelf.now;
      faults_after = g.H.Shelf.faults c.args.shelf.now;
      leg_faults = g.H.Shelf.leg_faults c.args.shelf.now;
      leg_faults_after = g.H.Shelf.leg_faults c.args.shelf.now;
    } in
    let k : SinkSeen = record {
      written = g.K.Sink.written c.args.sink.now;
      written_after = g.K.Sink.written c.args.sink.now;
      faults = g.K.Sink.faults c.args.sink.now;
      faults_after = g.K.Sink.faults c.args.sink.now;
    } in
    let some : 0 < c.args.geometry.legs = omega (arith, c.legs.ensures.value, c.legs.ensures.range) in
    nothing_stands h k c.args.name.now o some refl refl
