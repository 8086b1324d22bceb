use Rattle.std.proofs.Common.{refl, subst}
use Rattle.image_files.specs.Closed.{OnlyTheseChange}
use Rattle.image_play.specs.Ends.NoMemory.{before}
use Rattle.image_play.proofs.running.run_legs.Goals as goal

pub returns : goal.returns
returns g c =
    before refl
    (subst (λ names. OnlyTheseChange names 0 8 (g.H.Shelf.contents c.args.shelf.now) (g.H.Shelf.contents c.close_after.new.shelf)) c.requires.names c.close_after.ensures.others)
