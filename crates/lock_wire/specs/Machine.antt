-- The machine of a lock space spread over nodes: what its state is, which guard fails first, and what each call does.
use Rattle.std.specs.Prelude.{◌≡◌, ℕ, zero, suc, ◌%◌, ◌==◌, nat_lt, Bool, true, false, not, ◌&&◌, ◌||◌, if◌then◌else◌, List, [], ◌∷◌, ◌++◌, slice_index_or, Option, Some, None, is_some, is_none, Result, Ok, Err}
use Rattle.std.specs.Option.{option_map}
use Rattle.dlm_modes.specs.First.{first_such}
use Rattle.dlm_modes.specs.Guards.{unless, or_then}
use Rattle.dlm_modes.specs.Modes.{weaker}
use Rattle.dlm_modes.specs.Points.{with_at}
use Rattle.dlm_modes.specs.declared.block.Block.{Block}
use Rattle.dlm_modes.specs.declared.mode.Mode.{Mode}
use Rattle.dlm_space.specs.Locks.{Lock, new_locks, mode_of, is_writer, ask_refusal, ask_now_refusal, convert_refusal, grant_refusal, release_refusal, asked, asked_now, converted, granted, released, all_died, grant_answer, caller}
use Rattle.dlm_space.specs.declared.answers.Converted.{Converted}
use Rattle.dlm_space.specs.declared.answers.Granted.{Granted}
use Rattle.dlm_space.specs.declared.answers.LockError.{LockError}
use Rattle.mdc_types.specs.declared.refusals.Refusal.TheVariants.{NoNode, Fenced, NotUp, Rebuilding, LinkEmpty}
use Rattle.lock_wire.specs.Locals.{mode_held, converting, converting_answer, not_free, not_convertible, not_releasable}
use Rattle.lock_wire.specs.Packets.{first, rest}
use Rattle.lock_wire.specs.declared.ends.WireEnd.{WireEnd}
use Rattle.lock_wire.specs.declared.ends.WireEnd.TheVariants.{Refused, Memory}
use Rattle.lock_wire.specs.declared.ends.WireEnd.TheVariants as ends
use Rattle.lock_wire.specs.declared.local.Local.{Local}
use Rattle.lock_wire.specs.declared.local.Local.TheVariants.{Free, Asking, Held, Converting}
use Rattle.lock_wire.specs.declared.packet.Packet.{Packet}
use Rattle.lock_wire.specs.declared.packet.Packet.TheVariants as packets

-- who cares for a resource
pub record Ward : Type 0 where
  pub master : ℕ
  -- by node: its report to this master isn't taken
  pub awaited : ℕ → Bool
  -- this master took it over, and no holder of PW or EX wrote the block since
  pub stale : Bool
  -- by holder: the asker that the master's last Called named to it, since it served last
  pub called : ℕ → Option ℕ

pub record Wire : Type 0 where
  pub nodes : ℕ
  pub live : ℕ → Bool
  -- by node and resource
  pub local : ℕ → ℕ → Local
  -- from a node to a node
  pub link : ℕ → ℕ → List Packet
  -- by master and resource
  pub table : ℕ → ℕ → Lock
  -- by resource
  pub ward : ℕ → Ward

-- the value of f at two numbers is v
abbrev pub with_cell : {A : Type 0} → (ℕ → ℕ → A) → ℕ → ℕ → A → ℕ → ℕ → A
with_cell f n r v m s = if (s == r) && (m == n) then v else f m s

-- no such resource: no node is 16
abbrev pub no_ward : Ward
no_ward = record { master = 16; awaited = λ n. false; stale = false; called = λ n. None }

abbrev pub first_ward : ℕ → ℕ → Ward
first_ward nodes r = record no_ward { master = if nat_lt r 21 then r % nodes else 16 }

abbrev pub opened : ℕ → Wire
opened nodes = record {
  nodes = nodes;
  live = λ n. nat_lt n nodes;
  local = λ n r. Free;
  link = λ a b. [];
  table = λ m. new_locks;
  ward = first_ward nodes;
}

abbrev pub master_of : Wire → ℕ → ℕ
master_of w r = (w.ward r).master

-- the lock on the resource, at its master
abbrev pub lock_at : Wire → ℕ → Lock
lock_at w r = w.table (master_of w r) r

-- the least live node whose report on the resource isn't taken
abbrev pub is_awaited : Wire → ℕ → ℕ → Bool
is_awaited w r n = w.live n && (w.ward r).awaited n

abbrev pub first_awaited : Wire → ℕ → Option ℕ
first_awaited w r = first_such (is_awaited w r) 0 16

-- Guards.

abbrev pub no_node : Wire → ℕ → Option WireEnd
no_node w n = unless (nat_lt n w.nodes) (Refused (NoNode n))

abbrev pub fenced : Wire → ℕ → Option WireEnd
fenced w n = unless (w.live n) (Refused (Fenced n))

abbrev pub node_refusal : Wire → ℕ → Option WireEnd
node_refusal w n = or_then (no_node w n) (fenced w n)

abbrev pub ask_refusal_at : Wire → ℕ → ℕ → Option WireEnd
ask_refusal_at w n r = or_then (node_refusal w n) (not_free (w.local n r))

abbrev pub convert_refusal_at : Wire → ℕ → ℕ → Option WireEnd
convert_refusal_at w n r = or_then (node_refusal w n) (not_convertible (w.local n r))

abbrev pub release_refusal_at : Wire → ℕ → ℕ → Option WireEnd
release_refusal_at w n r = or_then (node_refusal w n) (not_releasable (w.local n r))

abbrev pub link_empty : Wire → ℕ → ℕ → Option WireEnd
link_empty w a b = unless (is_some (first (w.link a b))) (Refused (LinkEmpty a b))

abbrev pub deliver_refusal : Wire → ℕ → ℕ → Option WireEnd
deliver_refusal w a b = or_then (node_refusal w a) (or_then (node_refusal w b) (link_empty w a b))

abbrev pub not_up : Wire → ℕ → Option WireEnd
not_up w m = unless (w.live m) (Refused (NotUp m))

abbrev pub rebuilding : Option ℕ → Option WireEnd
rebuilding None = None
rebuilding (Some n) = Some (Refused (Rebuilding n))

abbrev pub serve_refusal : Wire → ℕ → Option WireEnd
serve_refusal w r = or_then (not_up w (master_of w r)) (or_then (rebuilding (first_awaited w r)) (option_map ends.Lock (grant_refusal (lock_at w r))))

-- the answer is Ok where nothing refuses the call, and else what refuses it; memory may run out in every call
abbrev pub IsAnswered : {A : Type 0} → Option WireEnd → Result A WireEnd → Type 0
IsAnswered refusal (Ok a) = refusal ≡ None
IsAnswered refusal (Err Memory) = Unit {0}
IsAnswered refusal (Err end) = refusal ≡ Some end

-- Calls of a node on its own lock: the local state, and a packet to the master.

abbrev pub with_local : Wire → ℕ → ℕ → Local → Wire
with_local w n r l = record w { local = with_cell w.local n r l }

abbrev pub sent : Wire → ℕ → ℕ → Packet → Wire
sent w a b p = record w { link = with_cell w.link a b (w.link a b ++ p ∷ []) }

abbrev pub asked_of : Wire → ℕ → ℕ → Mode → Wire
asked_of w n r mode = sent (with_local w n r (Asking mode)) n (master_of w r) (packets.Ask r mode)

abbrev pub convert_from : Local → Mode → Local
convert_from (Held from) to = converting from to
convert_from l to = l

abbrev pub answer_from : Local → Mode → Option Converted
answer_from (Held from) to = Some (converting_answer from to)
answer_from l to = None

abbrev pub converted_of : Wire → ℕ → ℕ → Mode → Option Block → Wire
converted_of w n r mode value = sent (with_local w n r (convert_from (w.local n r) mode)) n (master_of w r) (packets.Convert r mode value)

abbrev pub released_of : Wire → ℕ → ℕ → Option Block → Wire
released_of w n r value = sent (with_local w n r Free) n (master_of w r) (packets.Release r value)

-- A master's calls on its table. One that the table refuses changes nothing.

abbrev pub unless_refused : Option LockError → Lock → Lock → Lock
unless_refused None new old = new
unless_refused (Some e) new old = old

abbrev pub asking : Lock → ℕ → Mode → Lock
asking lock n mode = unless_refused (ask_refusal lock n) (asked lock n mode) lock

abbrev pub asking_now : Lock → ℕ → Mode → Lock
asking_now lock n mode = unless_refused (ask_now_refusal lock n mode) (asked_now lock n mode) lock

abbrev pub converts : Lock → ℕ → Mode → Option Block → Lock
converts lock n mode value = unless_refused (convert_refusal lock n) (converted lock n mode value) lock

abbrev pub releases : Lock → ℕ → Option Block → Lock
releases lock n value = unless_refused (release_refusal lock n) (released lock n value) lock

-- what the node reports is entered. A conversion is entered as what is held, and then waits again
abbrev pub entered : Lock → ℕ → Local → Lock
entered lock n Free = lock
entered lock n (Asking to) = asking lock n to
entered lock n (Held mode) = asking_now lock n mode
entered lock n (Converting from to) = converts (asking_now lock n from) n to None

-- the call writes the given value to the block
abbrev pub convert_writes : Lock → ℕ → Mode → Option Block → Bool
convert_writes lock n mode value = is_some value && is_none (convert_refusal lock n) && weaker (mode_of lock n) mode && is_writer (mode_of lock n)

abbrev pub release_writes : Lock → ℕ → Option Block → Bool
release_writes lock n value = is_some value && is_writer (mode_of lock n)

abbrev pub with_table : Wire → ℕ → ℕ → Lock → Wire
with_table w m r lock = record w { table = with_cell w.table m r lock }

abbrev pub with_ward : Wire → ℕ → Ward → Wire
with_ward w r ward = record w { ward = with_at w.ward r ward }

-- a block that was written isn't stale any more
abbrev pub written : Wire → ℕ → Bool → Wire
written w r writes = with_ward w r (record (w.ward r) { stale = (w.ward r).stale && not writes })

abbrev pub taken_report : Wire → ℕ → ℕ → Wire
taken_report w r n = with_ward w r (record (w.ward r) { awaited = with_at (w.ward r).awaited n false })

-- Callbacks.

-- the asker at the head whose mode disagrees with what the node holds
abbrev pub caller_of : Lock → ℕ → Option ℕ
caller_of lock n = if nat_lt n 16 then caller lock n else None

-- where it is the one that was named last, it isn't named again
abbrev pub new_caller : Option ℕ → Option ℕ → Option ℕ
new_caller None last = None
new_caller (Some a) None = Some a
new_caller (Some a) (Some b) = if a == b then None else Some a

abbrev pub last_caller : Option ℕ → Option ℕ → Option ℕ
last_caller None last = last
last_caller (Some a) last = Some a

abbrev pub calls_to : ℕ → Option ℕ → List Packet
calls_to r None = []
calls_to r (Some asker) = packets.Called r asker ∷ []

-- whom the master is to name to the node
abbrev pub named : Wire → ℕ → ℕ → ℕ → Option ℕ
named w m r n = new_caller (caller_of (w.table m r) n) ((w.ward r).called n)

-- the master names the asker at the head to each holder that disagrees with it
abbrev pub calls_out : Wire → ℕ → ℕ → Wire
calls_out w m r = record (with_ward w r (record (w.ward r) { called = λ n. last_caller (named w m r n) ((w.ward r).called n) })) {
  link = λ a b. if a == m then w.link a b ++ calls_to r (named w m r b) else w.link a b;
}

-- unless a report on the resource is awaited
abbrev pub calls_unless : Option ℕ → Wire → ℕ → ℕ → Wire
calls_unless None w m r = calls_out w m r
calls_unless (Some n) w m r = w

abbrev pub then_calls : Wire → ℕ → ℕ → Wire
then_calls w m r = calls_unless (first_awaited w r) w m r

-- Deliveries: b takes the first packet on the link from a.

abbrev pub reported_one : Wire → ℕ → ℕ → ℕ → Option Local → Wire
reported_one w a b r None = w
reported_one w a b r (Some l) = then_calls (taken_report (with_table w b r (entered (w.table b r) a l)) r a) b r

-- the states of the resources below a number are entered, one after the other
unfoldable pub reported : Wire → ℕ → ℕ → List (Option Local) → ℕ → Wire
reported w a b states zero = w
reported w a b states (suc r) = reported_one (reported w a b states r) a b r (slice_index_or states r None)

abbrev pub received : Wire → ℕ → ℕ → Option Packet → Wire
received w a b None = w
received w a b (Some (packets.Ask r mode)) = then_calls (with_table w b r (asking (w.table b r) a mode)) b r
received w a b (Some (packets.Convert r mode value)) =
    then_calls (with_table (written w r (convert_writes (w.table b r) a mode value)) b r (converts (w.table b r) a mode value)) b r
received w a b (Some (packets.Release r value)) =
    then_calls (with_table (written w r (release_writes (w.table b r) a value)) b r (releases (w.table b r) a value)) b r
received w a b (Some (packets.Granted r g)) = with_local w b r (Held g.mode)
received w a b (Some (packets.Called r asker)) = w
received w a b (Some (packets.Report states)) = reported w a b states 21

abbrev pub delivered : Wire → ℕ → ℕ → Wire
delivered w a b = received (record w { link = with_cell w.link a b (rest (w.link a b)) }) a b (first (w.link a b))

-- A master serves the head of its queues.

-- the block of a master that took over isn't valid before a holder wrote it
abbrev pub told : Bool → Granted → Granted
told stale g = record g { valid = g.valid && not stale }

abbrev pub serve_answer : Wire → ℕ → Option Granted
serve_answer w r = option_map (told (w.ward r).stale) (grant_answer (lock_at w r))

abbrev pub served_to : Wire → ℕ → ℕ → Option Granted → Wire
served_to w m r None = w
served_to w m r (Some g) =
    calls_out (sent (with_table (with_ward w r (record (w.ward r) { called = λ n. None })) m r (granted (w.table m r))) m g.node (packets.Granted r g)) m r

abbrev pub served : Wire → ℕ → Wire
served w r = served_to w (master_of w r) r (serve_answer w r)

-- A death.

-- who takes over: the least live node
abbrev pub heir : Wire → Option ℕ
heir w = first_such w.live 0 16

-- what node n tells of the resources of d: by resource, below a number
unfoldable pub states_below : Wire → ℕ → ℕ → ℕ → List (Option Local)
states_below w d n zero = []
states_below w d n (suc r) = states_below w d n r ++ (if master_of w r == d then Some (w.local n r) else None) ∷ []

abbrev pub report_of : Wire → ℕ → ℕ → Packet
report_of w d n = packets.Report (states_below w d n 21)

-- the node is gone, with its packets, its local states, and its entries in all tables
abbrev pub without_node : Wire → ℕ → Wire
without_node w d = record w {
  live = with_at w.live d false;
  local = λ n r. if n == d then Free else w.local n r;
  link = λ a b. if (a == d) || (b == d) then [] else w.link a b;
  table = λ m. all_died (w.table m) d;
}

-- the new master's ward: each live node's report is awaited
abbrev pub heirs_ward : (ℕ → Bool) → ℕ → Ward
heirs_ward live m = record { master = m; awaited = live; stale = true; called = λ n. None }

-- node m takes over from d
abbrev pub taken_over : Wire → ℕ → Option ℕ → Wire
taken_over w d None = w
taken_over w d (Some m) = record w {
  ward = λ r. if master_of w r == d then heirs_ward w.live m else w.ward r;
  link = λ a b. if (b == m) && w.live a then w.link a b ++ report_of w d a ∷ [] else w.link a b;
}

abbrev pub died_of : Wire → ℕ → Wire
died_of w d = taken_over (without_node w d) d (heir (without_node w d))

-- what the node holds: nothing where it is dead, or there is no such node
abbrev pub holds_of : Wire → ℕ → ℕ → Option Mode
holds_of w n r = if nat_lt n w.nodes && w.live n then mode_held (w.local n r) else None
