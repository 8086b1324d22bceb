-- A small machine for tests of the definitions: three legs, of which two work, and nodes that are all alike.
use Rattle.std.specs.Prelude.{ℕ, ◌==◌, ◌+◌, nat_lt, Bool, true, false, not, if◌then◌else◌, List, [], ◌∷◌, ◌++◌, Option, Some, None, replicate, codes}
use Rattle.dlm_modes.specs.declared.mode.Mode.TheVariants.{EX}
use Rattle.mdc_types.specs.Geometry.{Sizes}
use Rattle.mdc_types.specs.Sectors.{zero_sector}
use Rattle.mdc_types.specs.Roles.{eight}
use Rattle.mdc_types.specs.declared.events.Wish.TheVariants as wishes
use Rattle.mdc_types.specs.declared.numbers.Range.{Range}
use Rattle.mdc_types.specs.declared.numbers.Sector.{Sector}
use Rattle.mdc_types.specs.declared.refusals.Refusal.{Refusal}
use Rattle.mdc_types.specs.declared.roles.Role.{Role}
use Rattle.mdc_types.specs.declared.roles.Role.TheVariants as roles
use Rattle.mdc_types.specs.declared.roles.NodeState.TheVariants as states
use Rattle.dlm_space.specs.Locks.{new_lock}
use Rattle.dlm_space.specs.Queues.{ask_for}
use Rattle.cluster_msgs.specs.declared.msg.Body.TheVariants as bodies
use Rattle.cluster_msgs.specs.declared.msg.Msg.{Msg}
use Rattle.msg_rounds.specs.Phases.{Receiving, new_receiving}
use Rattle.msg_rounds.specs.declared.phases.SenderPhase.{SenderPhase}
use Rattle.msg_rounds.specs.declared.phases.SenderPhase.TheVariants as senders
use Rattle.msg_rounds.specs.declared.phases.ReceiverPhase.TheVariants as receivers
use Rattle.node_member.specs.Members.{Members}
use Rattle.leg_failure.specs.Views.{NodeView, new_view}
use Rattle.node_bitmaps.specs.Bitmap.{Bitmap, empty}
use Rattle.mirror_io.specs.Flight.{new_write, new_read}
use Rattle.mirror_io.specs.declared.live.LiveWrite.{LiveWrite}
use Rattle.mirror_io.specs.declared.live.LiveRead.{LiveRead}
use Rattle.resync_worker.specs.Copying.{Passing, begun, filled}
use Rattle.node_recovery.specs.Progress.{Recovering, begun as new_recovery}
use Rattle.disk_addition.specs.declared.addition.Addition.{Addition}
use Rattle.disk_addition.specs.declared.addition.Addition.TheVariants.{Announced, Again}
use Rattle.slot_gathering.specs.Gatherings.{none_gathered}
use Rattle.cluster_model.specs.State.{Core, Copy, Adding, Offer, Tried, Untried, Unread, Loaded, Asked, Held}
use Rattle.cluster_model.specs.Changes.{no_copy, not_adding}

-- what the guards say that fail, in their order
abbrev pub failing : List (Option Refusal) → List Refusal
failing [] = []
failing (None ∷ rest) = failing rest
failing (Some r ∷ rest) = r ∷ failing rest

abbrev pub if_at : {A : Type 0} → ℕ → ℕ → Option A → Option A
if_at n m o = if n == m then o else None

-- twelve sectors of room for sixteen, in chunks of four
abbrev pub small : Sizes
small = record { legs = 3; sectors = 12; room = 16; chunk = 4; second = false }

-- legs 0 and 1 work, and leg 2 has this role
abbrev pub roles_with : Role → ℕ → Role
roles_with r l = if nat_lt l 2 then roles.Working else if l == 2 then r else roles.Spare

abbrev pub calls_leg : Role → NodeView
calls_leg r = new_view (roles_with r) 12 (λ l. false)

-- the node lost leg 1
abbrev pub unacked_view : NodeView
unacked_view = new_view (roles_with roles.Spare) 12 (λ l. l == 1)

-- the same, and leg 2 has this role
abbrev pub lost_with : Role → NodeView
lost_with r = new_view (roles_with r) 12 (λ l. l == 1)

abbrev pub lost_and_faulty : NodeView
lost_and_faulty = new_view (roles_with roles.Faulty) 12 (λ l. l == 1)

abbrev pub all_faulty : NodeView
all_faulty = new_view (λ l. roles.Faulty) 12 (λ l. false)

abbrev pub faulty_and_rebuilding : NodeView
faulty_and_rebuilding = new_view (λ l. if l == 1 then roles.Faulty else roles_with roles.Rebuilding l) 12 (λ l. false)

abbrev pub no_members : Members
no_members = record { live = λ n. false; pending = λ n. false; dead = λ n. false; heir = λ d. None; drawn = 3; completed = 3 }

abbrev pub up_members : Members
up_members = record no_members { live = λ n. true }

abbrev pub fenced_members : Members
fenced_members = record up_members { pending = λ n. true; dead = λ n. true }

abbrev pub last_members : Members
last_members = record up_members { drawn = 9223372036854775808 }

-- all pages are fresh, and all bits stand
abbrev pub fresh_bitmap : Bitmap
fresh_bitmap = record empty { marks = λ c l. true; fresh = λ p l. true }

-- all nodes are up and idle
abbrev pub base : Core
base = record {
  array = record { sizes = small; name = codes "array" ++ replicate 27 0; uuid = replicate 16 0 };
  state = λ n. states.Up;
  view = λ n. calls_leg roles.Spare;
  head = λ n l. 0;
  writes = λ n. [];
  reads = λ n. [];
  writes_made = λ n. 8;
  reads_made = λ n. 8;
  locks = λ r. new_lock;
  sender = λ n. senders.Idle;
  offer = λ n. None;
  receiver = λ n. new_receiving;
  heard = λ n. None;
  tried = λ n l. Untried;
  members = up_members;
  cut = λ n l. false;
  bitmap = λ n. fresh_bitmap;
  suspended = λ n o. None;
  copy = λ n. no_copy;
  recovery = λ n. None;
  adding = λ n. not_adding;
}

abbrev pub out : Core
out = record base { state = λ n. states.Out; members = no_members }

-- a joiner that has the token and has read all legs
abbrev pub read_leg : ℕ → Tried
read_leg l = Loaded (record { events = 3; roles = eight (roles_with roles.Spare); size = 12 })

abbrev pub tried_but : ℕ → ℕ → Tried
tried_but k l = if l == k then Untried else read_leg l

-- of the three legs the spare alone was read
abbrev pub only_spare : ℕ → Tried
only_spare l = if l == 2 then read_leg l else Unread

abbrev pub joining : Core
joining = record base { state = λ n. states.Joining; sender = λ n. senders.TokenHeld; tried = λ n l. if nat_lt l 3 then read_leg l else Untried }

abbrev pub sends : SenderPhase → Core
sends s = record base { sender = λ n. s }

abbrev pub sends_with : NodeView → Core
sends_with v = record (sends senders.MessageHeld) { view = λ n. v }

abbrev pub lost_legs : ℕ → Core
lost_legs l = record (sends senders.MessageHeld) { view = λ n. new_view (roles_with roles.Spare) 12 (λ k. k == l) }

abbrev pub a_meta : Offer
a_meta = record { wish = wishes.Meta; role = roles_with roles.Spare; size = 12; events = 4; written = λ l. false }

abbrev pub offering : Offer → Core
offering o = record (sends senders.Offered) { offer = λ n. Some o }

abbrev pub a_range : Range
a_range = record { lo = 4; hi = 8 }

abbrev pub adds : Addition → Adding
adds a = record not_adding { addition = a }

abbrev pub announced : Core
announced = record (sends senders.TokenHeld) { adding = λ n. adds (Announced 2) }

-- Receivers.

abbrev pub taken_one : Receiving
taken_one = record { phase = receivers.Taken; from = 1; gone = false }

abbrev pub waiting : Receiving
waiting = record taken_one { phase = receivers.Waiting }

abbrev pub range_message : Msg
range_message = record { slot = 1; body = bodies.Resyncing a_range }

-- node 1 calls those that hold something on `ack`
abbrev pub called : Core
called = record base { locks = λ r. record new_lock { held = λ n. Some EX; conversions = ask_for 1 EX ∷ [] } }

-- Requests.

abbrev pub v : Sector
v = zero_sector

abbrev pub a_write : LiveWrite
a_write = new_write 7 5 v

abbrev pub a_read : LiveRead
a_read = new_read 5 5 0

abbrev pub writes_at : ℕ → ℕ → List LiveWrite
writes_at n m = if n == m then a_write ∷ [] else []

abbrev pub many_writes : List LiveWrite
many_writes = replicate 16 (new_write 7 9 v)

abbrev pub many_reads : List LiveRead
many_reads = replicate 16 a_read

abbrev pub writing : Core
writing = record base { writes = λ n. a_write ∷ [] }

abbrev pub done_writing : Core
done_writing = record base { writes = λ n. record a_write { started = true; done = 3 } ∷ [] }

abbrev pub clearing : Core
clearing = record base { bitmap = λ n. record fresh_bitmap { set = λ c. true } }

-- Copying.

abbrev pub asked_copy : Copy
asked_copy = record no_copy { turn = Asked }

abbrev pub held_copy : Copy
held_copy = record no_copy { turn = Held }

abbrev pub holding_resync : Core
holding_resync = record base { copy = λ n. held_copy }

abbrev pub a_pass : Passing
a_pass = begun (λ c. true) (λ l. false)

abbrev pub with_buffer : Passing
with_buffer = filled a_pass 4 v 0

abbrev pub copies : Passing → Option Range → Core
copies p window = record base { copy = λ n. record held_copy { pass = Some p; window = window } }

-- the pass covers leg 2, and has nothing left to copy or has all
abbrev pub works_now : Bool → Core
works_now copied = record (sends_with (calls_leg roles.Rebuilding)) {
  copy = λ n. record held_copy { pass = Some (begun (λ c. not copied) (λ l. l == 2)) };
}

abbrev pub gathering : Core
gathering = record holding_resync { adding = λ n. adds (Again 2) }

-- eight slots of one page each
abbrev pub all_gathered : Adding
all_gathered = record (adds (Again 2)) { gathering = record none_gathered { next = 8 } }

-- Recovery.

abbrev pub pending_three : Core
pending_three = record holding_resync { members = record up_members { pending = λ n. n == 3 } }

abbrev pub a_recovery : Recovering
a_recovery = new_recovery 3

abbrev pub recovering : Core
recovering = record pending_three { recovery = λ n. Some a_recovery }

abbrev pub read_recovery : Recovering
read_recovery = record a_recovery { read = λ p l. true; found = λ c. c == 2 }

abbrev pub all_read : Core
all_read = record pending_three { recovery = λ n. Some read_recovery }

abbrev pub cleared_recovery : Recovering
cleared_recovery = record read_recovery { cleared = λ p l. true }

abbrev pub all_cleared : Core
all_cleared = record pending_three { recovery = λ n. Some cleared_recovery }
