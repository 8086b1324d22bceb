-- The invariant holds at the opening, and after each list of accepted events.
use Rattle.std.proofs.Common.{◌≡◌, ℕ, Bool, true, List, [], ◌∷◌, Some, None, refl, arith}
use Rattle.std.specs.Prelude.{◌&&◌, nat_lt, if◌then◌else◌}
use Rattle.std.proofs.lemmas.Bool.Decides.{nat_tests}
use Rattle.dlm_modes.specs.declared.mode.Mode.TheVariants.{CR}
use Rattle.dlm_space.specs.Orderly.{agree}
use Rattle.laws_rounds.specs.Machine.{Entry, opening, rounds_after, AreAccepted}
use Rattle.laws_rounds.specs.Invariants.{Apart, Held, Queues, Members, Told, Inv}
use Rattle.laws_rounds.proofs.Steps.{step_keeps}

members_agree : (a b : Bool) → agree (if a then Some CR else None) (if b then Some CR else None) ≡ true
members_agree a b = grind arith

opening_apart : (members : ℕ → Bool) → Apart (opening members)
opening_apart members = record {
  token = λ n m ne. refl;
  message = λ n m ne. refl;
  ack = λ n m ne. members_agree (nat_lt n 16 && members n) (nat_lt m 16 && members m);
}

opening_held : (members : ℕ → Bool) → Held (opening members)
opening_held members = record {
  token = λ n. refl;
  message = λ n. refl;
  ack = λ n. grind arith;
}

opening_queues : (members : ℕ → Bool) → Queues (opening members)
opening_queues members = record {
  token_requests = λ n. refl;
  token_conversions = refl;
  message_requests = λ n. refl;
  message_conversions = λ n. refl;
  ack_requests = refl;
  ack_conversions = λ n. refl;
}

opening_members : (members : ℕ → Bool) → Members (opening members)
opening_members members = record {
  fitting = λ n. grind arith;
  idle = λ n out. refl;
  sending = λ n sends. refl;
  below = λ n le. grind (arith, nat_tests);
}

opening_told : (members : ℕ → Bool) → Told (opening members) members []
opening_told members = record {
  fate_open = λ n p. cc;
  open_fate = λ n p. cc;
  block = λ n p. cc;
  valid = λ n p. refl;
  some_round = λ m busy. cc;
  from = λ m busy. cc;
  gone = λ m busy. refl;
  last = λ m busy. cc;
  taken = λ m t. refl;
  up = λ m. grind arith;
  addressed = λ n m p. cc;
  deeds = λ n m p. cc;
}

pub inv_after : (members : ℕ → Bool) (past : List Entry) → AreAccepted members past → Inv (rounds_after members past) members past
inv_after members [] a = record {
  apart = opening_apart members;
  held = opening_held members;
  queues = opening_queues members;
  members_are = opening_members members;
  told = opening_told members;
}
inv_after members (entry ∷ past) a = step_keeps (rounds_after members past) entry.event members past entry.answer (inv_after members past a.0) a.1.may
