use Rattle.std.proofs.Common.{◌∙◌, ap}
use Rattle.mdc_types.specs.Geometry.{chunks_of}
use Rattle.node_copies.specs.Additions.{IsOf, no_place}
use Rattle.node_copies.proofs.TableLaws.{all_at}
use Rattle.node_copies.proofs.additions.Additions.gathered.Goals as goal

pub returns-clause-chunks : goal.returns-clause-chunks
returns-clause-chunks c = rw (← c.self.view_is) (c.gathered.ensures.chunks ∙ ap chunks_of (all_at (IsOf c.self.inside.geometry) no_place c.self.inside.places.items c.args.n c.index.result.now c.self.invariant c.requires c.index.ensures).sizes)
