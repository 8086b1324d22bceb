use Rattle.std.proofs.Common.{◌≡◌, ◌-◌, is_none}
use Rattle.dlm_modes.specs.First.{first_such}
use Rattle.node_member.specs.Members.{begin_refusal, first_to_begin}
use Rattle.node_member.specs.Parts.{members_of}
use Rattle.node_member.proofs.record.Record.first_to_begin.Given as goal

abbrev pub invariant-loop-d : goal.invariant-loop-d
invariant-loop-d l = first_to_begin (members_of l.self) ≡ first_such (λ d. is_none (begin_refusal (members_of l.self) d)) l.d (16 - l.d)
