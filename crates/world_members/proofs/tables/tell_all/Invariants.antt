use Rattle.std.proofs.Common.{◌≡◌, ℕ, length, nat_lt, if◌then◌else◌}
use Rattle.msg_rounds.specs.Phases.{heard_death}
use Rattle.world_members.specs.Tables.{receivers_of}
use Rattle.world_members.proofs.tables.tell_all.Given as goal

abbrev pub invariant-loop-receiver : goal.invariant-loop-receiver
invariant-loop-receiver l = record {
  told : (m : ℕ) → receivers_of l.receivers m ≡ (if nat_lt m l.receiver-index then heard_death l.n (receivers_of l.initial.receivers m) else receivers_of l.initial.receivers m);
  space : l.space ≡ l.initial.space;
  size : length l.receivers ≡ 16;
}
