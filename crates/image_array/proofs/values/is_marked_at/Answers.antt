use Rattle.std.proofs.Common.{sym, ◌<◌, subst, arith}
use Rattle.mdc_types.specs.Geometry.{chunk_of}
use Rattle.resync_worker.proofs.SectorLaws.{chunk_of-lt}
use Rattle.image_array.proofs.HeadLaws.{within, chunks_all}
use Rattle.image_array.proofs.values.is_marked_at.Goals as goal

pub is_marked-requires-clause-legs : goal.is_marked-requires-clause-legs
is_marked-requires-clause-legs c = c.requires.legs.legs

pub is_marked-requires-clause-within : goal.is_marked-requires-clause-within
is_marked-requires-clause-within c = within c.args.images.now c.args.head.now c.requires.legs c.requires.head

pub is_marked-requires-clause-chunk : goal.is_marked-requires-clause-chunk
is_marked-requires-clause-chunk c = λ l lt. rw c.chunk_of.ensures (subst (λ n. chunk_of c.args.head.now.geometry c.args.s < n)
    (sym (chunks_all c.args.images.now c.args.head.now c.requires.legs c.requires.head l lt))
    (chunk_of-lt c.args.head.now.geometry c.args.s (omega arith) c.requires.within))
