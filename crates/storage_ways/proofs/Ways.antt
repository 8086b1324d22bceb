-- The ways in which an accepted event changes the part, each with what its guards, the rounds and
-- the legs tell.
use Rattle.std.specs.Prelude.{◌≡◌, ◌≢◌, ◌⊎◌, ℕ, suc, ◌+◌, ◌/◌, ◌%◌, ◌<◌, ◌≤◌, ◌==◌, Bool, true, false, ◌&&◌, ◌||◌, if◌then◌else◌, Option, Some, None, option_map, nat_lt, List, []}
use Rattle.dlm_modes.specs.Points.{with_at}
use Rattle.mdc_types.specs.Bits.{has_bit}
use Rattle.mdc_types.specs.Geometry.{chunks_of, page_of, pages_of}
use Rattle.mdc_types.specs.Ranges.{holds}
use Rattle.mdc_types.specs.Roles.{role_of, eight, is_working, is_rebuilding, is_faulty}
use Rattle.mdc_types.specs.declared.numbers.Range.{Range}
use Rattle.mdc_types.specs.declared.numbers.Sector.{Sector}
use Rattle.mdc_types.specs.declared.events.Wish.TheVariants as wishes
use Rattle.mdc_types.specs.declared.roles.Roles.{Roles}
use Rattle.mdc_types.specs.declared.roles.NodeState.TheVariants as states
use Rattle.cluster_msgs.specs.declared.msg.Msg.{Msg}
use Rattle.md_superblock.specs.Arrays.{Says}
use Rattle.msg_rounds.specs.Phases.{Receiving, is_idle, has_processed, has_published, now_in, taken, new_receiving, heard_death}
use Rattle.msg_rounds.specs.declared.phases.SenderPhase.{SenderPhase}
use Rattle.msg_rounds.specs.declared.phases.SenderPhase.TheVariants as senders
use Rattle.msg_rounds.specs.declared.phases.ReceiverPhase.{ReceiverPhase}
use Rattle.msg_rounds.specs.declared.phases.ReceiverPhase.TheVariants as receivers
use Rattle.msg_rounds.specs.Refusals.{is_offered, is_taken}
use Rattle.disk_addition.specs.declared.addition.Addition.TheVariants.{Nothing}
use Rattle.leg_failure.specs.Views.{NodeView, works, is_target, is_unacked, new_view, lost_one, acknowledged, finished, taken as view_taken, fresh_targets}
use Rattle.mirror_io.specs.Flight.{write_in, is_done, new_write, started, done_on, start_in, done_in, without_write}
use Rattle.mirror_io.specs.declared.live.LiveWrite.{LiveWrite}
use Rattle.node_bitmaps.specs.Bitmap.{Bitmap, with_set, with_need, entered, exited, written, failed, found_page, forgotten, with_new_legs}
use Rattle.node_recovery.specs.Progress.{Recovering, begun as new_recovery, with_read, with_cleared, with_found}
use Rattle.resync_worker.specs.Copying.{Passing, begun, filled, copied, settled_at, completes, next_in}
use Rattle.resync_worker.specs.declared.buffer.Buffer.{Buffer}
use Rattle.suspend_ranges.specs.Suspended.{entry_of, suspends}
use Rattle.slot_gathering.specs.Gatherings.{gathered_page, all_pages}
use Rattle.cluster_model.specs.State.{Offer, Tried, Untried, Copy, NotAsked, Asked, Held}
use Rattle.cluster_model.specs.Changes.{no_view, no_copy, not_adding, covering, window_closed}
use Rattle.cluster_model.specs.Copying.{need_met}
use Rattle.cluster_model.specs.Bits.{is_degraded}
use Rattle.cluster_model.specs.Finishing.{adding_after}
use Rattle.cluster_model.specs.Gathering.{is_again, is_again_of}
use Rattle.cluster_model.specs.Joining.{says_of}
use Rattle.cluster_model.specs.Phases.{is_in, is_up, is_joining, is_metadata, is_unclean, offers as offers_wish}
use Rattle.cluster_model.specs.Superblocks.{says_of_offer, written_on}
use Rattle.cluster_model.specs.Wishes.{is_window}
use Rattle.laws_locks.specs.Rounded.{has_token}
use Rattle.laws_roles.proofs.Parts.{promotes, needs_known, with_finish, with_source, with_wish}
use Rattle.storage_ways.proofs.Sound.{Sound}
use Rattle.storage_ways.proofs.Parts.{Part, chunk_in, is_range, has_pass, covers, recovers, with_page, with_page_if, with_data, with_data_if, tried_values, decided_values, broken_there, decided_there, joined_there, settled_there, begun_there}

-- What guards tell.

-- nothing is unacked at the node
abbrev pub Acked : Part → ℕ → Type 0
Acked w n = (l : ℕ) → is_unacked (w.view n) l ≡ false

-- the new list has x as the write of this number, and else the old writes
abbrev pub Finds : List LiveWrite → List LiveWrite → ℕ → Option LiveWrite → Type 0
Finds new old k x = (j : ℕ) → write_in j new ≡ (if j == k then x else write_in j old)

-- no live write of the node is in the range
abbrev pub NoneWithin : Part → ℕ → ℕ → ℕ → Type 0
NoneWithin w n lo hi = (k : ℕ) (x : LiveWrite) → write_in k (w.writes n) ≡ Some x → holds lo hi x.sector ≡ false

-- nobody has published
abbrev pub Silent : Part → Type 0
Silent w = (m : ℕ) → has_published (w.sender m) ≡ false

abbrev pub receiver_now : Part → ℕ → ReceiverPhase → ℕ → Receiving
receiver_now w n phase = with_at w.receiver n (now_in phase (w.receiver n))

abbrev pub pass_with : Part → ℕ → (Passing → Passing) → ℕ → Copy
pass_with w n f = with_at w.copy n (record (w.copy n) { pass = option_map f (w.copy n).pass })

abbrev pub marks_with : Part → ℕ → NodeView → ℕ → Bitmap
marks_with w n v = with_at w.bitmap n (with_new_legs (w.bitmap n) (fresh_targets (w.view n) v))

abbrev pub copy_with : Part → ℕ → NodeView → ℕ → Copy
copy_with w n v = with_at w.copy n (covering (w.copy n) v)

-- Rounds.

-- an offer begins to stand
pub record Offering (w : Part) (n : ℕ) (o : Offer) : Type 0 where
  -- nobody offers
  pub none : (m : ℕ) → w.offer m ≡ None
  pub silent : Silent w
  pub inside : is_in (w.state n) ≡ true
  pub idle : is_idle (w.receiver n).phase ≡ true
  -- a wish but `meta` and `unclean`
  pub acked : needs_known o.wish ≡ true → Acked w n
  pub up : needs_known o.wish ≡ true → is_up (w.state n) ≡ true
  pub loaded : is_up (w.state n) ≡ false → is_metadata o.wish ≡ true
  -- a range: of whole chunks or empty, under a pass
  pub range : (r : Range) → o.wish ≡ wishes.Range r → is_window w.geometry r ≡ true
  pub pass : is_range o.wish ≡ true → has_pass (w.copy n) ≡ true
  -- leaving
  pub unclean : is_unclean o.wish ≡ true → (w.copy n).turn ≡ NotAsked
  -- a leg is to work: no slot is pending, nothing else is faulty, and all is copied
  pub none_pending : (l d : ℕ) → promotes o.wish l ≡ true → w.pending d ≡ false
  pub none_faulty : (l j : ℕ) → promotes o.wish l ≡ true → is_faulty ((w.view n).role j) ≡ true → j ≡ l
  pub rebuilding : (l : ℕ) → promotes o.wish l ≡ true → is_rebuilding ((w.view n).role l) ≡ true
  pub covered : (l : ℕ) → promotes o.wish l ≡ true → covers w n l ≡ true
  pub nothing_left : (l c : ℕ) (p : Passing) → promotes o.wish l ≡ true → (w.copy n).pass ≡ Some p → p.todo c ≡ false
  -- of a proposal: what it calls working works at the node, or is to work
  pub events : is_metadata o.wish ≡ true → o.events ≡ w.drawn + 1
  pub working : (l : ℕ) → is_working (o.role l) ≡ true → (works (w.view n) l || promotes o.wish l) ≡ true

-- a range is published
pub record Shutting (w : Part) (n : ℕ) (r : Range) (o : Offer) : Type 0 where
  pub node : n < 16
  pub offer : w.offer n ≡ Some o
  pub wish : o.wish ≡ wishes.Range r
  pub offered : is_offered (w.sender n) ≡ true
  pub others : (m : ℕ) → m ≢ n → w.offer m ≡ None
  pub up : is_up (w.state n) ≡ true
  pub calm : (m : ℕ) → is_idle (w.receiver m).phase ≡ true
  pub silent : Silent w
  pub none : NoneWithin w n r.lo r.hi

-- another offer is published
pub record Publishing (w : Part) (n : ℕ) (o : Offer) : Type 0 where
  pub offer : w.offer n ≡ Some o
  pub no_range : is_range o.wish ≡ false
  pub offered : is_offered (w.sender n) ≡ true
  pub others : (m : ℕ) → m ≢ n → w.offer m ≡ None
  pub inside : is_in (w.state n) ≡ true
  pub calm : (m : ℕ) → is_idle (w.receiver m).phase ≡ true
  pub silent : Silent w
  -- who leaves has nothing in flight
  pub drained : is_unclean o.wish ≡ true → w.writes n ≡ []

-- a round is whole at its sender
pub record Whole (w : Part) (n : ℕ) (o : Offer) : Type 0 where
  pub offer : w.offer n ≡ Some o
  pub others : (m : ℕ) → m ≢ n → w.offer m ≡ None
  pub inside : is_in (w.state n) ≡ true
  -- nobody else is loaded
  pub alone : (m : ℕ) → m ≢ n → is_in (w.state m) ≡ true → is_up (w.state m) ≡ true
  pub published : has_published (w.sender n) ≡ true
  pub only : (m : ℕ) → m ≢ n → has_published (w.sender m) ≡ false
  pub idle : is_idle (w.receiver n).phase ≡ true
  -- all others that are in have processed its message
  pub processed : (m : ℕ) → m ≢ n → is_in (w.state m) ≡ true → has_processed (w.receiver m).phase ≡ true
  -- of a round of the superblock: the others have its roles, and no addition
  pub role : (m l : ℕ) → m ≢ n → is_in (w.state m) ≡ true → is_metadata o.wish ≡ true → (w.view m).role l ≡ o.role l
  pub nothing : (m : ℕ) → m ≢ n → is_metadata o.wish ≡ true → (w.adding m).addition ≡ Nothing
  -- a loaded node offers `meta`
  pub loaded : is_up (w.state n) ≡ false → is_metadata o.wish ≡ true
  pub eight : (l : ℕ) → role_of (eight o.role) l ≡ o.role l

-- a receiver hears the published offer of another
pub record Hearing (w : Part) (n : ℕ) (o : Offer) : Type 0 where
  pub up : is_up (w.state n) ≡ true
  pub taken : is_taken (w.receiver n).phase ≡ true
  pub other : (w.receiver n).from ≢ n
  pub published : has_published (w.sender (w.receiver n).from) ≡ true
  pub offer : w.offer (w.receiver n).from ≡ Some o
  pub silent : w.offer n ≡ None
  -- who else publishes nothing
  pub only : (m : ℕ) → m ≢ (w.receiver n).from → has_published (w.sender m) ≡ false

-- the receiver's round is over, and nobody has published
pub record Resting (w : Part) (n : ℕ) : Type 0 where
  pub silent : Silent w
  pub up : is_up (w.state n) ≡ true

-- Coming and going.

pub record Joining (w : Part) (n : ℕ) : Type 0 where
  pub out : w.state n ≡ states.Out
  pub dead : w.live n ≡ false
  pub recovered : w.pending n ≡ false
  pub idle : w.sender n ≡ senders.Idle
  pub none : w.offer n ≡ None

pub record Coming (w : Part) (n k : ℕ) (says : Says) (ranges : ℕ → Option Range) : Type 0 where
  pub joining : w.state n ≡ states.Joining
  pub loaded : says_of (w.tried n k) ≡ Some says
  pub stands : w.super k ≡ Some says
  pub new : w.completed ≤ says.events
  pub none : (m : ℕ) → w.offer m ≡ None
  pub silent : Silent w
  pub idle : is_idle (w.receiver n).phase ≡ true
  -- nobody else is loaded
  pub alone : (m : ℕ) → is_in (w.state m) ≡ true → is_up (w.state m) ≡ true
  pub copy : w.copy n ≡ no_copy
  -- the ranges of the members
  pub members : (m : ℕ) → ranges m ≡ (if is_up (w.state m) then w.told m else None)

-- who goes in peace copies and recovers nothing and has no offer but to leave
pub record Going (w : Part) (n : ℕ) : Type 0 where
  pub node : n < 16
  pub live : w.live n ≡ true
  pub turn : (w.copy n).turn ≡ NotAsked
  pub pass : (w.copy n).pass ≡ None
  pub recovery : w.recovery n ≡ None
  pub writes : w.writes n ≡ []
  pub idle : is_idle (w.receiver n).phase ≡ true

pub record Leaving (w : Part) (n : ℕ) : Type 0 where
  pub going : Going w n
  pub up : is_up (w.state n) ≡ true
  pub sender : w.sender n ≡ senders.Idle
  pub none : w.offer n ≡ None
  pub clean : (c : ℕ) → (w.bitmap n).set c ≡ false

-- a node that isn't up gives up
pub record Quitting (w : Part) (n : ℕ) : Type 0 where
  pub going : Going w n
  pub not_up : is_up (w.state n) ≡ false
  pub silent : has_published (w.sender n) ≡ false
  pub clean : (c : ℕ) → (w.bitmap n).set c ≡ false

-- an unclean leaving is whole
pub record Parting (w : Part) (n : ℕ) (o : Offer) : Type 0 where
  pub going : Going w n
  pub whole : Whole w n o
  pub wish : is_unclean o.wish ≡ true
  pub up : is_up (w.state n) ≡ true

pub record Dying (w : Part) (n : ℕ) (told : ℕ → Option Range) : Type 0 where
  pub node : n < 16
  pub live : w.live n ≡ true
  -- the blocks of the locks that it held for writing are valid no more
  pub blocks : (m : ℕ) → told m ≡ (if (m == n) || recovers (w.recovery n) m then None else w.told m)

-- Requests.

pub record Asking (w : Part) (n s k : ℕ) (v : Sector) (new : List LiveWrite) : Type 0 where
  pub up : is_up (w.state n) ≡ true
  pub sector : s < w.geometry.room
  pub finds : Finds new (w.writes n) k (Some (new_write k s v))
  pub number : write_in k (w.writes n) ≡ None
  pub free : (m : ℕ) → m < 16 → suspends s (w.suspended n m) ≡ false
  pub alone : (m j : ℕ) (x : LiveWrite) → write_in j (w.writes m) ≡ Some x → (x.sector == s) ≡ false
  -- the node hasn't published that it leaves
  pub stays : (has_published (w.sender n) && offers_wish is_unclean (w.offer n)) ≡ false

-- a transfer of a write to a leg, tried
pub record Trying (w : Part) (n k l : ℕ) (x : LiveWrite) : Type 0 where
  pub up : is_up (w.state n) ≡ true
  pub write : write_in k (w.writes n) ≡ Some x
  pub sector : x.sector < w.geometry.room
  pub leg : l < w.geometry.legs
  pub target : is_target (w.view n) l ≡ true
  pub acked : Acked w n
  -- the chunk's bit surely stands on all targets
  pub marked : (j : ℕ) → is_target (w.view n) j ≡ true → (w.bitmap n).marks (chunk_in w x.sector) j ≡ true
  pub starts : Finds (start_in k (w.writes n)) (w.writes n) k (Some (started x))
  pub does : Finds (done_in k l (start_in k (w.writes n))) (w.writes n) k (Some (done_on l (started x)))

pub record Ending (w : Part) (n k : ℕ) (x : LiveWrite) : Type 0 where
  pub up : is_up (w.state n) ≡ true
  pub write : write_in k (w.writes n) ≡ Some x
  pub sector : x.sector < w.geometry.room
  pub finds : Finds (without_write k (w.writes n)) (w.writes n) k None

pub record Finishing (w : Part) (n k : ℕ) (x : LiveWrite) : Type 0 where
  pub ending : Ending w n k x
  pub acked : Acked w n
  -- all targets have the value
  pub done : (l : ℕ) → is_target (w.view n) l ≡ true → is_done x l ≡ true

-- Bitmaps.

pub record PageTo (w : Part) (n p l : ℕ) : Type 0 where
  pub up : is_up (w.state n) ≡ true
  pub page : p < pages_of w.geometry
  pub leg : l < w.geometry.legs
  pub target : is_target (w.view n) l ≡ true

pub record Clearing (w : Part) (n c : ℕ) : Type 0 where
  pub up : is_up (w.state n) ≡ true
  pub chunk : c < chunks_of w.geometry
  pub none : (k : ℕ) (x : LiveWrite) → write_in k (w.writes n) ≡ Some x → (chunk_in w x.sector == c) ≡ false
  pub need : (w.bitmap n).need c ≡ false
  pub acked : Acked w n
  -- no leg is faulty or rebuilds
  pub whole : (l : ℕ) → is_degraded (w.view n) l ≡ false

-- Copying.

-- a pass may begin
pub record Passes (w : Part) (n : ℕ) : Type 0 where
  pub up : is_up (w.state n) ≡ true
  pub turn : (w.copy n).turn ≡ Held
  pub pass : (w.copy n).pass ≡ None
  pub acked : Acked w n

pub record PassesAgain (w : Part) (n l : ℕ) : Type 0 where
  pub passes : Passes w n
  pub again : is_again_of (w.adding n).addition l ≡ true
  -- no page is left to gather
  pub all : all_pages w.geometry ≤ (w.adding n).gathering.next

-- the page that is due is read from the leg
pub record Gathers (w : Part) (n k p l : ℕ) (has : ℕ → Bool) : Type 0 where
  pub up : is_up (w.state n) ≡ true
  pub turn : (w.copy n).turn ≡ Held
  pub pass : (w.copy n).pass ≡ None
  pub again : is_again (w.adding n).addition ≡ true
  pub acked : Acked w n
  pub left : (w.adding n).gathering.next < all_pages w.geometry
  pub slot : k ≡ (w.adding n).gathering.next / pages_of w.geometry
  pub page : p ≡ (w.adding n).gathering.next % pages_of w.geometry
  pub works : works (w.view n) l ≡ true
  pub bits : (c : ℕ) → has c ≡ ((page_of c == p) && w.bit k c l)

pub record Fills (w : Part) (n s l : ℕ) (v : Sector) (p : Passing) (r : Range) : Type 0 where
  pub up : is_up (w.state n) ≡ true
  pub turn : (w.copy n).turn ≡ Held
  pub pass : (w.copy n).pass ≡ Some p
  pub empty : p.buffer ≡ None
  pub window : (w.copy n).window ≡ Some r
  pub next : next_in w.geometry p r ≡ Some s
  pub acked : Acked w n
  pub works : works (w.view n) l ≡ true
  pub value : v ≡ w.stored l s

-- there is a buffer
pub record Buffers (w : Part) (n : ℕ) (p : Passing) (b : Buffer) : Type 0 where
  pub up : is_up (w.state n) ≡ true
  pub turn : (w.copy n).turn ≡ Held
  pub pass : (w.copy n).pass ≡ Some p
  pub buffer : p.buffer ≡ Some b
  pub sector : b.sector < w.geometry.room
  pub acked : Acked w n

pub record Copies (w : Part) (n l : ℕ) (p : Passing) (b : Buffer) : Type 0 where
  pub buffers : Buffers w n p b
  pub leg : l < w.geometry.legs
  pub target : is_target (w.view n) l ≡ true

pub record Settles (w : Part) (n : ℕ) (p : Passing) (b : Buffer) : Type 0 where
  pub buffers : Buffers w n p b
  pub done : (l : ℕ) → is_target (w.view n) l ≡ true → has_bit b.done l ≡ true

pub record EndsPass (w : Part) (n : ℕ) : Type 0 where
  pub up : is_up (w.state n) ≡ true
  pub sender : w.sender n ≡ senders.Idle
  pub turn : (w.copy n).turn ≡ Held
  pub recovery : w.recovery n ≡ None
  pub window : (w.copy n).window ≡ None

-- Recovery.

pub record Recovers (w : Part) (n d : ℕ) : Type 0 where
  pub up : is_up (w.state n) ≡ true
  pub turn : (w.copy n).turn ≡ Held
  pub pass : (w.copy n).pass ≡ None
  pub recovery : w.recovery n ≡ None
  pub pending : w.pending d ≡ true
  pub heir : (h : ℕ) → w.heir d ≡ Some h → w.pending h ≡ false

-- an open recovery
pub record Open (w : Part) (n : ℕ) (r : Recovering) : Type 0 where
  pub up : is_up (w.state n) ≡ true
  pub recovery : w.recovery n ≡ Some r
  pub pending : w.pending r.slot ≡ true
  pub other : (r.slot == n) ≡ false

pub record SlotReads (w : Part) (n p l : ℕ) (r : Recovering) (has : ℕ → Bool) : Type 0 where
  pub opened : Open w n r
  pub page : p < pages_of w.geometry
  pub leg : l < w.geometry.legs
  pub works : works (w.view n) l ≡ true
  pub bits : (c : ℕ) → has c ≡ ((page_of c == p) && w.bit r.slot c l)

-- all pages were read on all legs that the node reads from, and what was found is marked on all
-- targets
pub record AllRead (w : Part) (n : ℕ) (r : Recovering) : Type 0 where
  pub opened : Open w n r
  pub acked : Acked w n
  pub read : (p l : ℕ) → p < pages_of w.geometry → works (w.view n) l ≡ true → r.read p l ≡ true

pub record SlotClears (w : Part) (n p l : ℕ) (r : Recovering) : Type 0 where
  pub all : AllRead w n r
  pub page : p < pages_of w.geometry
  pub leg : l < w.geometry.legs
  pub target : is_target (w.view n) l ≡ true
  pub marked : (c j : ℕ) → r.found c ≡ true → (w.bitmap n).set c ≡ true → is_target (w.view n) j ≡ true → (w.bitmap n).marks c j ≡ true

pub record EndsRecovery (w : Part) (n : ℕ) (r : Recovering) : Type 0 where
  pub all : AllRead w n r
  pub cleared : (p l : ℕ) → p < pages_of w.geometry → is_target (w.view n) l ≡ true → r.cleared p l ≡ true
  pub met : (c : ℕ) → r.found c ≡ true → (w.bitmap n).need c ≡ false

-- Superblocks.

pub record Writing (w : Part) (n l : ℕ) (o : Offer) : Type 0 where
  pub offer : w.offer n ≡ Some o
  pub meta : is_metadata o.wish ≡ true
  pub offered : is_offered (w.sender n) ≡ true
  pub inside : is_in (w.state n) ≡ true
  pub others : (m : ℕ) → m ≢ n → w.offer m ≡ None
  pub silent : Silent w
  pub eight : (l : ℕ) → role_of (eight o.role) l ≡ o.role l
  pub leg : l < w.geometry.legs

-- The ways.

pub data Way (w : Part) : Part → Type 0 where
  still : Way w w
  -- Rounds.

  -- a sender goes on, and neither publishes nor ends
  speaks : (n : ℕ) (s : SenderPhase) → has_published s ≡ has_published (w.sender n)
      → (has_token (w.sender n) ≡ true → has_token s ≡ true) → is_offered s ≡ false
      → Way w (record w { sender = with_at w.sender n s })
  -- an offer that isn't published is void, or given up
  voids : (n : ℕ) (s : SenderPhase) → has_published s ≡ false → is_offered s ≡ false
      → has_published (w.sender n) ≡ false
      → Way w (record w { sender = with_at w.sender n s; offer = with_at w.offer n None })
  offers : (n : ℕ) (o : Offer) → Offering w n o
      → Way w (record w {
        sender = with_at w.sender n senders.Offered;
        offer = with_at w.offer n (Some o);
        drawn = if is_metadata o.wish then w.drawn + 1 else w.drawn;
        ghost = with_wish w.ghost o.wish;
        moments = suc w.moments;
      })
  publishes : (n : ℕ) (o : Offer) → Publishing w n o
      → Way w (record w { sender = with_at w.sender n senders.Published })
  shuts : (n : ℕ) (r : Range) (o : Offer) (told : ℕ → Option Range) → Shutting w n r o
      → ((m : ℕ) → told m ≡ (if m == n then entry_of r else w.told m))
      → Way w (record w {
        sender = with_at w.sender n senders.Published;
        copy = with_at w.copy n (window_closed (w.copy n));
        suspended = λ m owner. if (m == n) && (owner == n) then entry_of r else w.suspended m owner;
        told = told;
      })
  opens : (n : ℕ) (r : Range) (o : Offer) → Whole w n o → o.wish ≡ wishes.Range r
      → Way w (record w {
        sender = with_at w.sender n senders.Idle;
        offer = with_at w.offer n None;
        copy = with_at w.copy n (record (w.copy n) { window = entry_of r });
        moments = suc w.moments;
      })
  announces : (n : ℕ) (o : Offer) → Whole w n o → needs_known o.wish ≡ true → is_metadata o.wish ≡ false → is_range o.wish ≡ false
      → Way w (record w {
        sender = with_at w.sender n senders.Idle;
        offer = with_at w.offer n None;
        adding = with_at w.adding n (adding_after (w.adding n) o.wish);
        moments = suc w.moments;
      })
  finishes : (n : ℕ) (o : Offer) → Whole w n o → is_metadata o.wish ≡ true
      → Way w (record w {
        state = with_at w.state n states.Up;
        view = with_at w.view n (finished (w.view n) o.role o.size);
        sender = with_at w.sender n senders.Idle;
        offer = with_at w.offer n None;
        completed = o.events;
        adding = with_at w.adding n (adding_after (w.adding n) o.wish);
        copy = copy_with w n (finished (w.view n) o.role o.size);
        bitmap = marks_with w n (finished (w.view n) o.role o.size);
        ghost = with_finish w.ghost o (w.adding n).addition;
        moments = suc w.moments;
      })
  readies : (n : ℕ) → has_processed (w.receiver n).phase ≡ true
      → Way w (record w { receiver = receiver_now w n receivers.Ready })
  takes : (n from : ℕ) (m : Option Msg) → is_idle (w.receiver n).phase ≡ true
      → Way w (record w { receiver = with_at w.receiver n (taken from); heard = with_at w.heard n m })
  hears_roles : (n : ℕ) (roles : Roles) (size : ℕ) (o : Offer) → Hearing w n o → is_metadata o.wish ≡ true → ((l : ℕ) → role_of roles l ≡ o.role l)
      → Way w (record w {
        view = with_at w.view n (view_taken (w.view n) (role_of roles) size);
        receiver = receiver_now w n receivers.Waiting;
        adding = with_at w.adding n (record (w.adding n) { addition = Nothing });
        copy = copy_with w n (view_taken (w.view n) (role_of roles) size);
        bitmap = marks_with w n (view_taken (w.view n) (role_of roles) size);
      })
  hears_range : (n : ℕ) (r : Range) (o : Offer) → Hearing w n o → o.wish ≡ wishes.Range r → NoneWithin w n r.lo r.hi
      → Way w (record w {
        receiver = receiver_now w n receivers.Waiting;
        suspended = λ m owner. if (m == n) && (owner == (w.receiver n).from) then entry_of r else w.suspended m owner;
      })
  hears : (n : ℕ) (o : Offer) → Hearing w n o → is_range o.wish ≡ false → is_metadata o.wish ≡ false
      → Way w (record w { receiver = receiver_now w n receivers.Waiting })
  resumes : (n : ℕ) → Resting w n
      → Way w (record w {
        view = with_at w.view n (acknowledged (w.view n));
        receiver = receiver_now w n receivers.Idle;
        heard = with_at w.heard n None;
      })
  rests : (n : ℕ) → Resting w n
      → Way w (record w { receiver = receiver_now w n receivers.Idle; heard = with_at w.heard n None })
  -- Superblocks.

  loads : (n l : ℕ) (t : Tried) → is_joining (w.state n) ≡ true → Silent w
      → Way w (record w { tried = λ m k. if (m == n) && (k == l) then t else w.tried m k })
  writes_super : (n l : ℕ) (o : Offer) → Writing w n l o
      → Way w (record w {
        offer = with_at w.offer n (Some (written_on l o));
        super = with_at w.super l (Some (says_of_offer o));
      })
  leaves_super : (n l : ℕ) (o : Offer) → Writing w n l o
      → Way w (record w { super = with_at w.super l (Some (says_of_offer o)) })
  loses : (n l : ℕ) → is_offered (w.sender n) ≡ false → is_up (w.state n) ≡ true ⊎ is_in (w.state n) ≡ true
      → Way w (record w { view = with_at w.view n (lost_one (w.view n) l) })
  -- Coming and going.

  joins : (n : ℕ) → Joining w n
      → Way w (record w {
        state = with_at w.state n states.Joining;
        live = with_at w.live n true;
        sender = with_at w.sender n senders.TokenAsked;
        broken = joined_there w.broken n;
      })
  comes : (n k : ℕ) (says : Says) (lost : ℕ → Bool) (ranges : ℕ → Option Range) → Coming w n k says ranges
      → Way w (record w {
        state = with_at w.state n states.Loaded;
        view = with_at w.view n (new_view (role_of says.roles) says.size lost);
        tried = with_at w.tried n (λ l. Untried);
        suspended = λ m owner. if m == n then ranges owner else w.suspended m owner;
        copy = copy_with w n (new_view (role_of says.roles) says.size lost);
        bitmap = marks_with w n (new_view (role_of says.roles) says.size lost);
        ghost = with_source w.ghost n k;
      })
  leaves : (n : ℕ) → Leaving w n
      → Way w (record w {
        state = with_at w.state n states.Out;
        view = with_at w.view n no_view;
        offer = with_at w.offer n None;
        heard = with_at w.heard n None;
        tried = with_at w.tried n (λ l. Untried);
        bitmap = with_at w.bitmap n (forgotten (w.bitmap n));
        suspended = λ m owner. if m == n then None else w.suspended m owner;
        copy = with_at w.copy n no_copy;
        recovery = with_at w.recovery n None;
        adding = with_at w.adding n not_adding;
        live = with_at w.live n false;
        pending = with_at w.pending n false;
      })
  quits : (n : ℕ) → Quitting w n
      → Way w (record w {
        state = with_at w.state n states.Out;
        view = with_at w.view n no_view;
        sender = with_at w.sender n senders.Idle;
        offer = with_at w.offer n None;
        heard = with_at w.heard n None;
        tried = with_at w.tried n (λ l. Untried);
        bitmap = with_at w.bitmap n (forgotten (w.bitmap n));
        suspended = λ m owner. if m == n then None else w.suspended m owner;
        copy = with_at w.copy n no_copy;
        recovery = with_at w.recovery n None;
        adding = with_at w.adding n not_adding;
        live = with_at w.live n false;
        pending = with_at w.pending n false;
      })
  parts : (n : ℕ) (o : Offer) → Parting w n o
      → Way w (record w {
        state = with_at w.state n states.Out;
        view = with_at w.view n no_view;
        sender = with_at w.sender n senders.Idle;
        offer = with_at w.offer n None;
        heard = with_at w.heard n None;
        tried = with_at w.tried n (λ l. Untried);
        bitmap = with_at w.bitmap n (forgotten (w.bitmap n));
        suspended = λ m owner. if m == n then None else w.suspended m owner;
        copy = with_at w.copy n no_copy;
        recovery = with_at w.recovery n None;
        adding = with_at w.adding n not_adding;
        live = with_at w.live n false;
        pending = with_at w.pending n true;
        moments = suc w.moments;
      })
  dies : (n : ℕ) (told : ℕ → Option Range) → Dying w n told
      → Way w (record w {
        state = with_at w.state n states.Out;
        view = with_at w.view n no_view;
        sender = with_at w.sender n senders.Idle;
        offer = with_at w.offer n None;
        receiver = λ m. if m == n then new_receiving else if has_published (w.sender n) then heard_death n (w.receiver m) else w.receiver m;
        heard = with_at w.heard n None;
        tried = with_at w.tried n (λ l. Untried);
        writes = with_at w.writes n [];
        bitmap = with_at w.bitmap n (forgotten (w.bitmap n));
        suspended = λ m owner. if (m == n) || (owner == n) then None else w.suspended m owner;
        told = told;
        copy = with_at w.copy n no_copy;
        recovery = with_at w.recovery n None;
        adding = with_at w.adding n not_adding;
        live = with_at w.live n false;
        pending = with_at w.pending n true;
        moments = suc w.moments;
      })
  -- Requests.

  asks : (n s k : ℕ) (v : Sector) (new : List LiveWrite) → Asking w n s k v new
      → Way w (record w {
        writes = with_at w.writes n new;
        bitmap = with_at w.bitmap n (entered (with_set (w.bitmap n) (chunk_in w s) true) (chunk_in w s));
      })
  outs : (n k l : ℕ) (x : LiveWrite) → Trying w n k l x
      → Way w (record w {
        writes = with_at w.writes n (done_in k l (start_in k (w.writes n)));
        stored = with_data w.stored l x.sector x.value;
        values = tried_values w.values x;
      })
  -- the transfer failed: the leg may have the value
  misses : (n k l : ℕ) (x : LiveWrite) (left : Bool) → Trying w n k l x
      → Way w (record w {
        writes = with_at w.writes n (start_in k (w.writes n));
        stored = with_data_if left w.stored l x.sector x.value;
        values = tried_values w.values x;
      })
  ends : (n k : ℕ) (x : LiveWrite) → Finishing w n k x
      → Way w (record w {
        writes = with_at w.writes n (without_write k (w.writes n));
        bitmap = with_at w.bitmap n (exited (w.bitmap n) (chunk_in w x.sector));
        values = decided_values w.values x.sector x.value;
        broken = decided_there w.broken x.sector;
      })
  breaks : (n k : ℕ) (x : LiveWrite) → Ending w n k x
      → Way w (record w {
        writes = with_at w.writes n (without_write k (w.writes n));
        bitmap = with_at w.bitmap n (with_need (exited (w.bitmap n) (chunk_in w x.sector)) (chunk_in w x.sector) true);
        broken = broken_there w.broken n x;
      })
  -- Bitmaps.

  marks : (n p l : ℕ) → PageTo w n p l
      → Way w (record w {
        bitmap = with_at w.bitmap n (written (w.bitmap n) p l);
        bit = with_page w.bit n p l (w.bitmap n).set;
      })
  -- the transfer failed: the page may stand there
  misses_page : (n p l : ℕ) (left : Bool) → PageTo w n p l
      → Way w (record w {
        bitmap = with_at w.bitmap n (failed (w.bitmap n) p l);
        bit = with_page_if left w.bit n p l (w.bitmap n).set;
      })
  clears : (n c : ℕ) → Clearing w n c
      → Way w (record w { bitmap = with_at w.bitmap n (with_set (w.bitmap n) c false) })
  -- Copying.

  turns : (n : ℕ) → is_up (w.state n) ≡ true → (w.copy n).turn ≡ NotAsked → (has_published (w.sender n) && offers_wish is_unclean (w.offer n)) ≡ false
      → Way w (record w { copy = with_at w.copy n (record (w.copy n) { turn = Asked }) })
  -- nobody else has it
  holds_turn : (n : ℕ) → is_up (w.state n) ≡ true → (w.copy n).turn ≡ Asked → ((m : ℕ) → (w.copy m).turn ≢ Held)
      → Way w (record w { copy = with_at w.copy n (record (w.copy n) { turn = Held }) })
  passes_own : (n : ℕ) → Passes w n
      → Way w (record w { copy = with_at w.copy n (record (w.copy n) { pass = Some (begun (w.bitmap n).need (λ l. false)) }) })
  passes_full : (n : ℕ) → Passes w n
      → Way w (record w { copy = with_at w.copy n (record (w.copy n) { pass = Some (begun (λ c. nat_lt c (chunks_of w.geometry)) (λ l. is_rebuilding ((w.view n).role l))) }) })
  passes_again : (n l : ℕ) → PassesAgain w n l
      → Way w (record w { copy = with_at w.copy n (record (w.copy n) { pass = Some (begun (w.adding n).gathering.gathered (λ k. k == l)) }) })
  gathers : (n k p l : ℕ) (has : ℕ → Bool) → Gathers w n k p l has
      → Way w (record w { adding = with_at w.adding n (record (w.adding n) { gathering = gathered_page (w.adding n).gathering has }) })
  fills : (n s l : ℕ) (v : Sector) (p : Passing) (r : Range) → Fills w n s l v p r
      → Way w (record w { copy = pass_with w n (λ q. filled q s v l) })
  copies : (n l : ℕ) (p : Passing) (b : Buffer) → Copies w n l p b
      → Way w (record w {
        copy = pass_with w n (λ q. copied q l);
        stored = with_data w.stored l b.sector b.value;
      })
  misses_copy : (n l : ℕ) (p : Passing) (b : Buffer) (left : Bool) → Copies w n l p b
      → Way w (record w { stored = with_data_if left w.stored l b.sector b.value })
  settles : (n : ℕ) (p : Passing) (b : Buffer) → Settles w n p b
      → Way w (record w {
        copy = pass_with w n (λ q. settled_at w.geometry q b);
        bitmap = with_at w.bitmap n (need_met (w.bitmap n) (completes w.geometry b));
        values = decided_values w.values b.sector b.value;
        broken = decided_there w.broken b.sector;
        since = settled_there w.since b.sector;
        moments = suc w.moments;
      })
  ends_pass : (n : ℕ) → EndsPass w n → Way w (record w { copy = with_at w.copy n no_copy })
  -- Recovery.

  recovers_slot : (n d : ℕ) → Recovers w n d
      → Way w (record w {
        heir = with_at w.heir d (Some n);
        recovery = with_at w.recovery n (Some (new_recovery d));
        since = begun_there w.since n;
      })
  slot_reads : (n p l : ℕ) (r : Recovering) (has : ℕ → Bool) → SlotReads w n p l r has
      → Way w (record w {
        bitmap = with_at w.bitmap n (found_page w.geometry (w.bitmap n) p has);
        recovery = with_at w.recovery n (Some (with_found (with_read r p l) has));
      })
  slot_clears : (n p l : ℕ) (r : Recovering) → SlotClears w n p l r
      → Way w (record w {
        bitmap = with_at w.bitmap r.slot (written (w.bitmap r.slot) p l);
        recovery = with_at w.recovery n (Some (with_cleared r p l));
        bit = with_page w.bit r.slot p l (λ c. false);
      })
  misses_slot : (n p l : ℕ) (r : Recovering) (left : Bool) → SlotClears w n p l r
      → Way w (record w {
        bitmap = with_at w.bitmap r.slot (failed (w.bitmap r.slot) p l);
        bit = with_page_if left w.bit r.slot p l (λ c. false);
      })
  ends_recovery : (n : ℕ) (r : Recovering) → EndsRecovery w n r
      → Way w (record w {
        pending = with_at w.pending r.slot false;
        heir = with_at w.heir r.slot None;
        recovery = with_at w.recovery n None;
      })

-- some ways, one after the other, each from a sound part
pub data Ways (w : Part) : Part → Type 0 where
  none : Ways w w
  more : {u v : Part} → Ways w u → Sound u → Way u v → Ways w v

abbrev pub one : {w v : Part} → Sound w → Way w v → Ways w v
one s x = more none s x
