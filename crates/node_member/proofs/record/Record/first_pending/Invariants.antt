use Rattle.std.proofs.Common.{◌≡◌, ◌-◌}
use Rattle.dlm_modes.specs.First.{first_such}
use Rattle.node_member.specs.Members.{first_pending}
use Rattle.node_member.specs.Parts.{members_of}
use Rattle.node_member.proofs.record.Record.first_pending.Given as goal

abbrev pub invariant-loop-d : goal.invariant-loop-d
invariant-loop-d l = first_pending (members_of l.self) ≡ first_such (members_of l.self).pending l.d (16 - l.d)
