-- What a master knows of a node's lock on one resource, and what the packets on the way make of it.
use Rattle.std.specs.Prelude.{◌≡◌, ℕ, ◌==◌, Bool, true, false, not, ◌&&◌, if◌then◌else◌, List, [], ◌∷◌, slice_index_or, Option, Some, None}
use Rattle.dlm_modes.specs.Modes.{weaker, rank}
use Rattle.dlm_modes.specs.declared.mode.Mode.{Mode}
use Rattle.dlm_modes.specs.declared.mode.Mode.TheVariants.{NL}
use Rattle.dlm_space.specs.Locks.{Lock}
use Rattle.dlm_space.specs.Queues.{asks_of}
use Rattle.lock_wire.specs.Locals.{mode_held, converting, kept}
use Rattle.lock_wire.specs.declared.local.Local.{Local}
use Rattle.lock_wire.specs.declared.local.Local.TheVariants.{Free, Asking, Held, Converting}
use Rattle.lock_wire.specs.declared.packet.Packet.{Packet}
use Rattle.lock_wire.specs.declared.packet.Packet.TheVariants as packets

-- what a node tells its master of one resource
pub data Word : Type 0 where
  Asked : (to : Mode) → Word
  Converted : (to : Mode) → Word
  Released : Word
  Told : (l : Local) → Word

abbrev pub told_word : Option Local → List Word → List Word
told_word None words = words
told_word (Some l) words = Told l ∷ words

abbrev pub word_of : ℕ → Packet → List Word → List Word
word_of r (packets.Ask s to) words = if s == r then Asked to ∷ words else words
word_of r (packets.Convert s to value) words = if s == r then Converted to ∷ words else words
word_of r (packets.Release s value) words = if s == r then Released ∷ words else words
word_of r (packets.Report states) words = told_word (slice_index_or states r None) words
word_of r (packets.Granted s g) words = words
word_of r (packets.Called s asker) words = words

-- what the packets of a link tell of the resource, in order
abbrev pub words : ℕ → List Packet → List Word
words r [] = []
words r (p ∷ packets) = word_of r p (words r packets)

abbrev pub grant_of : ℕ → Packet → List Mode → List Mode
grant_of r (packets.Granted s g) modes = if s == r then g.mode ∷ modes else modes
grant_of r p modes = modes

-- the modes that the packets of a link grant on the resource, in order
abbrev pub grants : ℕ → List Packet → List Mode
grants r [] = []
grants r (p ∷ packets) = grant_of r p (grants r packets)

-- what a master knows of a node: nothing before its report; or something that no call leads to; or a local state
pub data View : Type 0 where
  Missing Stuck : View
  Is : (l : Local) → View

-- a conversion that waits is for a mode that isn't weaker, and between CW and PR it holds CR
abbrev pub proper : Local → Bool
proper (Converting from to) = not (weaker from to) && (rank (kept from to) == rank from)
proper l = true

abbrev pub heard : View → Word → View
heard Missing (Told l) = if proper l then Is l else Stuck
heard (Is Free) (Asked to) = Is (Asking to)
heard (Is (Held from)) (Converted to) = Is (converting from to)
heard (Is (Held from)) Released = Is Free
heard v word = Stuck

-- after all words
abbrev pub replay : View → List Word → View
replay v [] = v
replay v (word ∷ rest) = replay (heard v word) rest

-- what a table has of a node: what it holds, its conversions and its requests
abbrev pub entry : Option Mode → List Mode → List Mode → View
entry None [] [] = Is Free
entry None [] (to ∷ []) = Is (Asking to)
entry (Some mode) [] [] = Is (Held mode)
entry (Some from) (to ∷ []) [] = if weaker from to then Stuck else Is (converting from to)
entry held conversions requests = Stuck

abbrev pub entry_of : Lock → ℕ → View
entry_of lock n = entry (lock.held n) (asks_of n lock.conversions) (asks_of n lock.requests)

abbrev pub view_of : Bool → Lock → ℕ → View
view_of true lock n = Missing
view_of false lock n = entry_of lock n

-- the node waits for just this mode, which is over what it holds
abbrev pub Awaits : Local → Mode → Type 0
Awaits (Asking a) to = a ≡ to
Awaits (Converting from a) to = (a ≡ to) × (weaker to from ≡ true)
Awaits l to = ⊥

-- the view, the words on the way to the master, the grants on the way to the node, and its local state fit
abbrev pub Fits : View → List Word → List Mode → Local → Type 0
Fits v up [] l = replay v up ≡ Is l
Fits v up (to ∷ []) l = (v ≡ Is (Held to)) × (up ≡ []) × Awaits l to
Fits v up (to ∷ more ∷ rest) l = ⊥

-- the mode that a report tells
abbrev pub told_mode : List Word → Option Mode
told_mode (Told l ∷ rest) = mode_held l
told_mode up = None

-- the mode with which a master reckons
abbrev pub reckoned : Bool → Lock → List Word → ℕ → Option Mode
reckoned true lock up n = told_mode up
reckoned false lock up n = lock.held n

-- the first agrees with no more than the second, where nothing held counts as NL
abbrev pub covers : Option Mode → Option Mode → Bool
covers a None = true
covers None (Some b) = weaker NL b
covers (Some a) (Some b) = weaker a b

-- a report stands on the way
abbrev pub has_report : List Word → Bool
has_report [] = false
has_report (Told l ∷ rest) = true
has_report (word ∷ rest) = has_report rest

-- what became of a node's last ask, or of its last conversion that waits: there is none, or it was answered; it waits; or
-- it was answered with the mode, and the answer is on its way
pub data Ticket : Type 0 where
  Settled : Ticket
  Open : (to : Mode) → Ticket
  Answered : (to : Mode) → Ticket

abbrev pub open_in : Local → Ticket
open_in (Asking to) = Open to
open_in (Converting from to) = Open to
open_in l = Settled

-- by the local state, and the grants on the way
abbrev pub ticket_of : Local → List Mode → Ticket
ticket_of l [] = open_in l
ticket_of l (to ∷ rest) = Answered to
