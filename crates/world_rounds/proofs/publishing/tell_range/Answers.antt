use Rattle.std.proofs.Common.{refl}
use Rattle.world_rounds.proofs.publishing.tell_range.Goals as goal

pub returns : goal.returns
returns c = rw (← c.core.view_is, c.close_window.ensures.copy, c.put_range.ensures.ranges, c.tell_range.ensures) refl
