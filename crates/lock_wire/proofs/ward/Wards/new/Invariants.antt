use Rattle.std.proofs.Common.{◌≡◌, ℕ, ◌<◌, ◌%◌, get_or, length}
use Rattle.lock_wire.specs.Machine.{no_ward}
use Rattle.lock_wire.specs.Parts.{ward_of, no_ward_part}
use Rattle.lock_wire.proofs.ward.Wards.new.Given as goal

abbrev pub invariant-loop-r : goal.invariant-loop-r
invariant-loop-r l = record {
  long : length l.wards ≡ 21;
  wards : (s : ℕ) → s < l.r → ward_of (get_or l.wards s no_ward_part) ≡ record no_ward { master = s % l.nodes };
  range : (s : ℕ) → s < l.r → (get_or l.wards s no_ward_part).master < 16;
}
