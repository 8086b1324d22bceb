use Rattle.std.proofs.Common.{◌≡◌, take, []}
use Rattle.lock_wire.specs.Packets.{link_of}
use Rattle.lock_wire.proofs.links.first_at.Given as goal

abbrev pub invariant-loop-i : goal.invariant-loop-i
invariant-loop-i l = link_of (take l.i l.posts) l.from l.to ≡ []
