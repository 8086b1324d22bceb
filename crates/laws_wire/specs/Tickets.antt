-- What a list of calls tells of each node's last ask or conversion on a resource.
use Rattle.std.specs.Prelude.{◌≡◌, ℕ, ◌<◌, ◌==◌, ◌&&◌, if◌then◌else◌, List, [], ◌∷◌, Option, Some, None}
use Rattle.dlm_modes.specs.declared.mode.Mode.{Mode}
use Rattle.dlm_space.specs.declared.answers.Converted.{Converted}
use Rattle.dlm_space.specs.declared.answers.Converted.TheVariants.{Queued}
use Rattle.dlm_space.specs.declared.answers.Granted.{Granted}
use Rattle.lock_wire.specs.Machine.{Wire, master_of, answer_from, serve_answer}
use Rattle.lock_wire.specs.Packets.{first}
use Rattle.lock_wire.specs.declared.packet.Packet.{Packet}
use Rattle.lock_wire.specs.declared.packet.Packet.TheVariants as packets
use Rattle.laws_wire.specs.Runs.{Call, Asks, Converts, Releases, Delivers, Serves, Dies, wire_after}
use Rattle.laws_wire.specs.Views.{Ticket, Settled, Open, Answered}

-- a conversion that is taken at once leaves nothing to answer
abbrev pub converted_to : Option Converted → Mode → Ticket → Ticket
converted_to (Some Queued) to ticket = Open to
converted_to answer to ticket = ticket

abbrev pub granted_to : ℕ → ℕ → Option Granted → Ticket → Ticket
granted_to n r None ticket = ticket
granted_to n r (Some g) ticket = if g.node == n then Answered g.mode else ticket

abbrev pub took : ℕ → Option Packet → Ticket → Ticket
took r (Some (packets.Granted s g)) ticket = if s == r then Settled else ticket
took r p ticket = ticket

-- an answer that was on its way is lost with the master
abbrev pub lost : Ticket → Ticket
lost (Answered to) = Open to
lost ticket = ticket

-- a call, at the state in which it is made
abbrev pub ticket_at : Wire → ℕ → ℕ → Call → Ticket → Ticket
ticket_at w n r (Asks k s to) ticket = if (s == r) && (k == n) then Open to else ticket
ticket_at w n r (Converts k s to value) ticket = if (s == r) && (k == n) then converted_to (answer_from (w.local k s) to) to ticket else ticket
ticket_at w n r (Releases k s value) ticket = ticket
ticket_at w n r (Delivers a b) ticket = if b == n then took r (first (w.link a b)) ticket else ticket
ticket_at w n r (Serves s) ticket = if s == r then granted_to n r (serve_answer w r) ticket else ticket
ticket_at w n r (Dies d) ticket = if n == d then Settled else (if master_of w r == d then lost ticket else ticket)

abbrev pub ticket_in : ℕ → List Call → ℕ → ℕ → Ticket
ticket_in nodes [] n r = Settled
ticket_in nodes (call ∷ past) n r = ticket_at (wire_after nodes past) n r call (ticket_in nodes past n r)

-- what a call that grants tells: a grant serves an ask that waits, and one that is taken answers it. So each is answered
-- at most once, by the mode that was asked
abbrev pub answers_open : ℕ → List Call → ℕ → Option Granted → Type 0
answers_open nodes past r None = Unit {0}
answers_open nodes past r (Some g) = ticket_in nodes past g.node r ≡ Open g.mode

abbrev pub answers_sent : ℕ → List Call → ℕ → Option Packet → Type 0
answers_sent nodes past b (Some (packets.Granted r g)) = r < 21 → ticket_in nodes past b r ≡ Answered g.mode
answers_sent nodes past b p = Unit {0}

abbrev pub IsAnswer : ℕ → List Call → Call → Type 0
IsAnswer nodes past (Serves r) = answers_open nodes past r (serve_answer (wire_after nodes past) r)
IsAnswer nodes past (Delivers a b) = answers_sent nodes past b (first ((wire_after nodes past).link a b))
IsAnswer nodes past call = Unit {0}

abbrev pub AreAnswers : ℕ → List Call → Type 0
AreAnswers nodes [] = Unit {0}
AreAnswers nodes (call ∷ past) = AreAnswers nodes past × IsAnswer nodes past call
