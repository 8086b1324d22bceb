-- The changes of the core that an accepted event makes, each with what its guards tell.
use Rattle.std.proofs.Common.{◌≡◌, ◌⊎◌, ℕ, ◌<◌, ◌≤◌, ◌==◌, ◌&&◌, Bool, true, false, not, Option, Some, None, if◌then◌else◌}
use Rattle.std.specs.Prelude.{is_some, length, option_map, nat_lt, nat_le}
use Rattle.dlm_modes.specs.Guards.{first_of}
use Rattle.dlm_modes.specs.Points.{with_at}
use Rattle.dlm_modes.specs.declared.block.Block.{Block}
use Rattle.mdc_types.specs.Geometry.{nodes_of, chunks_of}
use Rattle.mdc_types.specs.declared.events.Wish.{Wish}
use Rattle.mdc_types.specs.declared.events.Wish.TheVariants as wishes
use Rattle.mdc_types.specs.declared.numbers.Range.{Range}
use Rattle.mdc_types.specs.declared.numbers.Sector.{Sector}
use Rattle.mdc_types.specs.declared.roles.Roles.{Roles}
use Rattle.mdc_types.specs.declared.roles.NodeState.TheVariants as states
use Rattle.dlm_space.specs.Locks.{Lock}
use Rattle.msg_rounds.specs.Locks.{message_res}
use Rattle.msg_rounds.specs.Phases.{Receiving, is_idle, has_published, now_in, taken}
use Rattle.msg_rounds.specs.declared.phases.SenderPhase.{SenderPhase}
use Rattle.msg_rounds.specs.declared.phases.SenderPhase.TheVariants as senders
use Rattle.msg_rounds.specs.declared.phases.ReceiverPhase.{ReceiverPhase}
use Rattle.msg_rounds.specs.declared.phases.ReceiverPhase.TheVariants as receivers
use Rattle.node_member.specs.Members.{Members, joined, begun, ended}
use Rattle.leg_failure.specs.Views.{is_last, lost_one, acknowledged}
use Rattle.cluster_msgs.specs.Reading.{message_in}
use Rattle.cluster_msgs.specs.declared.msg.Msg.{Msg}
use Rattle.cluster_msgs.specs.declared.msg.Body.TheVariants as bodies
use Rattle.mirror_io.specs.Flight.{write_in, without_write, without_read, start_in, done_in}
use Rattle.mirror_io.specs.declared.live.LiveWrite.{LiveWrite}
use Rattle.node_bitmaps.specs.Bitmap.{Bitmap, written, found_page}
use Rattle.node_recovery.specs.Progress.{Recovering, begun as new_recovery, with_read, with_cleared, with_found}
use Rattle.resync_worker.specs.Copying.{Passing, filled, copied, settled_at, completes}
use Rattle.resync_worker.specs.declared.buffer.Buffer.{Buffer}
use Rattle.suspend_ranges.specs.Suspended.{entry_of}
use Rattle.slot_gathering.specs.Gatherings.{gathered_page, all_pages}
use Rattle.cluster_model.specs.State.{Core, Copy, Offer, Tried, Loaded, Turn, sizes}
use Rattle.cluster_model.specs.Phases.{is_in, is_up, is_metadata, is_unclean, offers as offers_wish}
use Rattle.cluster_model.specs.Changes.{sender_now, sender_idle, with_copy, window_closed, node_out, no_copy}
use Rattle.cluster_model.specs.Joining.{missing_leg, newest, greatest, up}
use Rattle.cluster_model.specs.Leaving.{die}
use Rattle.cluster_model.specs.Publishing.{block_of, wish_is_due, range_told}
use Rattle.cluster_model.specs.Finishing.{superblock_changed, addition_changed}
use Rattle.cluster_model.specs.Wishes.{offered, wish_guards}
use Rattle.cluster_model.specs.Processing.{take_roles}
use Rattle.cluster_model.specs.Superblocks.{written_on}
use Rattle.cluster_model.specs.Writes.{bitmap_ended, ask_write}
use Rattle.cluster_model.specs.Reads.{ask_read}
use Rattle.cluster_model.specs.Copying.{next_sector, need_met, buffer_of}
use Rattle.cluster_model.specs.Passes.{begin_pass}
use Rattle.laws_sound.specs.Legs.{SaysFit}
use Rattle.laws_sound.specs.Requests.{Rests}

abbrev pub block_in : (ℕ → Lock) → Block
block_in locks = (locks message_res).block

-- all blocks stay as they are
abbrev pub KeepsBlocks : (ℕ → Lock) → (ℕ → Lock) → Type 0
KeepsBlocks new old = (r : ℕ) → (new r).block ≡ (old r).block

-- the block of `message` is this, and all others stay
pub record Publishes (new old : ℕ → Lock) (block : Block) : Type 0 where
  pub message : block_in new ≡ block
  pub slots : (m : ℕ) → m < 16 → (new m).block ≡ (old m).block

-- the members' events numbers and heirs are the same
pub record SameNumbers (new old : Members) : Type 0 where
  pub drawn : new.drawn ≡ old.drawn
  pub completed : new.completed ≡ old.completed
  pub heirs : (d h : ℕ) → new.heir d ≡ Some h → old.heir d ≡ Some h

-- nothing is in flight of the node
pub record Idles (core : Core) (n : ℕ) : Type 0 where
  pub rests : Rests (core.writes n) (core.reads n)

-- the marks of a bitmap change, and its sets get no more
pub record Marks (new old : Bitmap) : Type 0 where
  pub set : (c : ℕ) → new.set c ≡ true → old.set c ≡ true
  pub need : (c : ℕ) → new.need c ≡ true → old.need c ≡ true
  pub writes : (c : ℕ) → new.writes c ≡ old.writes c

-- the node hears what the published offer of this node says
pub record Hears (core : Core) (n : ℕ) (m : Msg) (from : ℕ) (o : Offer) : Type 0 where
  pub heard : core.heard n ≡ Some m
  pub busy : is_idle (core.receiver n).phase ≡ false
  pub sender : (core.receiver n).from ≡ from
  pub offer : core.offer from ≡ Some o
  pub block : block_in core.locks ≡ block_of core from o
  pub up : is_in (core.state from) ≡ true
  pub node : from < 16
  pub silent : core.offer n ≡ None

abbrev pub receiver_in : Core → ℕ → ReceiverPhase → ℕ → Receiving
receiver_in core n phase = with_at core.receiver n (now_in phase (core.receiver n))

abbrev pub pass_with : Core → ℕ → (Passing → Passing) → ℕ → Copy
pass_with core n f = with_at core.copy n (record (core.copy n) { pass = option_map f (core.copy n).pass })

pub data Change (core : Core) : Core → Type 0 where
  quiet : (head : ℕ → ℕ → ℕ) (cut : ℕ → ℕ → Bool) (locks : ℕ → Lock) → KeepsBlocks locks core.locks
      → Change core (record core { head = head; cut = cut; locks = locks })
  dies : (n : ℕ) → Change core (die core n)
  tells : (n : ℕ) (s : SenderPhase) (locks : ℕ → Lock) → KeepsBlocks locks core.locks → (has_published s ≡ true → has_published (core.sender n) ≡ true)
      → Change core (record (sender_now core n s) { locks = locks })
  readies : (n : ℕ) (locks : ℕ → Lock) → KeepsBlocks locks core.locks → is_idle (core.receiver n).phase ≡ false
      → Change core (record core { receiver = with_at core.receiver n (now_in receivers.Ready (core.receiver n)); locks = locks })
  turns : (n : ℕ) (t : Turn) (locks : ℕ → Lock) → KeepsBlocks locks core.locks
      → Change core (record (with_copy core n (record (core.copy n) { turn = t })) { locks = locks })
  joins : (n : ℕ) (head : ℕ → ℕ → ℕ) (locks : ℕ → Lock) → KeepsBlocks locks core.locks → core.state n ≡ states.Out
      → Change core (record core { state = with_at core.state n states.Joining; members = joined core.members n; head = head; sender = with_at core.sender n senders.TokenAsked; locks = locks })
  loads : (n l : ℕ) (t : Tried) → ((says : _) → t ≡ Loaded says → SaysFit (sizes core) says)
      → Change core (record core { tried = λ m k. if (m == n) && (k == l) then t else core.tried m k })
  comes : (n : ℕ) → core.state n ≡ states.Joining → core.offer n ≡ None → ((m : ℕ) → 16 ≤ m → core.state m ≡ states.Out) → nat_le core.members.completed (greatest (core.tried n)) ≡ true → missing_leg (core.tried n) (newest (core.tried n)) ≡ None
      → Change core (up core n)
  leaves : (n : ℕ) (members : Members) (locks : ℕ → Lock) (sender : ℕ → SenderPhase) → SameNumbers members core.members → KeepsBlocks locks core.locks
      → ((m : ℕ) → has_published (sender m) ≡ true → has_published (core.sender m) ≡ true) → is_idle (core.receiver n).phase ≡ true → Idles core n
      → Change core (record (node_out core n) { members = members; locks = locks; sender = sender })
  offers : (n : ℕ) (wish : Wish) → core.offer n ≡ None → is_in (core.state n) ≡ true → first_of (wish_guards core n wish) ≡ None
      → Change core (offered core n wish)
  writes_super : (n l : ℕ) (o : Offer) → core.offer n ≡ Some o → Change core (record core { offer = with_at core.offer n (Some (written_on l o)) })
  publishes : (n : ℕ) (o : Offer) (locks : ℕ → Lock) → core.offer n ≡ Some o → Publishes locks core.locks (block_of core n o) → ((m : ℕ) → is_idle (core.receiver m).phase ≡ true) → first_of (wish_is_due core n o o.wish) ≡ None
      → Change core (record (sender_now core n senders.Published) { locks = locks })
  shuts : (n : ℕ) (r : Range) (o : Offer) (locks : ℕ → Lock) → core.offer n ≡ Some o → o.wish ≡ wishes.Range r → n < 16 → Publishes locks core.locks (block_of core n o) → ((m : ℕ) → is_idle (core.receiver m).phase ≡ true)
      → Change core (record core { sender = with_at core.sender n senders.Published; locks = range_told locks n r; copy = with_at core.copy n (window_closed (core.copy n)); suspended = λ m owner. if (m == n) && (owner == n) then entry_of r else core.suspended m owner })
  opens : (n : ℕ) (o : Offer) (r : Range) (locks : ℕ → Lock) → core.offer n ≡ Some o → o.wish ≡ wishes.Range r → KeepsBlocks locks core.locks
      → Change core (record (sender_idle core n) { locks = locks; copy = with_at core.copy n (record (core.copy n) { window = entry_of r }) })
  announces : (n : ℕ) (wish : Wish) (locks : ℕ → Lock) → KeepsBlocks locks core.locks
      → Change core (addition_changed (record (sender_idle core n) { locks = locks }) n wish)
  finishes : (n : ℕ) (o : Offer) (locks : ℕ → Lock) → core.offer n ≡ Some o → is_metadata o.wish ≡ true → is_in (core.state n) ≡ true → KeepsBlocks locks core.locks
      → Change core (superblock_changed (record (sender_idle core n) { locks = locks }) n o)
  idles : (n : ℕ) (locks : ℕ → Lock) → KeepsBlocks locks core.locks → Change core (record (sender_idle core n) { locks = locks })
  takes : (n : ℕ) (from : ℕ) (locks : ℕ → Lock) → KeepsBlocks locks core.locks
      → Change core (record core { receiver = with_at core.receiver n (taken from); heard = with_at core.heard n (message_in (block_in core.locks).bytes); locks = locks })
  hears_roles : (n : ℕ) (locks : ℕ → Lock) (events size : ℕ) (roles : Roles) (m : Msg) (from : ℕ) (o : Offer) → KeepsBlocks locks core.locks → Hears core n m from o
      → (m.body ≡ bodies.Metadata events roles size) ⊎ (m.body ≡ bodies.Capacity events roles size)
      → Change core (record (take_roles core n roles size) { receiver = receiver_in core n receivers.Waiting; locks = locks })
  hears_range : (n : ℕ) (locks : ℕ → Lock) (r : Range) (m : Msg) (from : ℕ) (o : Offer) → KeepsBlocks locks core.locks → Hears core n m from o → m.body ≡ bodies.Resyncing r
      → Change core (record core { receiver = receiver_in core n receivers.Waiting; locks = locks; suspended = λ k owner. if (k == n) && (owner == (core.receiver n).from) then entry_of r else core.suspended k owner })
  hears : (n : ℕ) (locks : ℕ → Lock) → KeepsBlocks locks core.locks → is_idle (core.receiver n).phase ≡ false
      → Change core (record core { receiver = receiver_in core n receivers.Waiting; locks = locks })
  resumes_whole : (n : ℕ) (locks : ℕ → Lock) → KeepsBlocks locks core.locks
      → Change core (record core { view = with_at core.view n (acknowledged (core.view n)); receiver = receiver_in core n receivers.Idle; heard = with_at core.heard n None; locks = locks })
  resumes : (n : ℕ) (locks : ℕ → Lock) → KeepsBlocks locks core.locks
      → Change core (record core { receiver = receiver_in core n receivers.Idle; heard = with_at core.heard n None; locks = locks })
  asks_write : (n s : ℕ) (v : Sector) → nat_lt s (core.view n).sure_size ≡ true → nat_lt (length (core.writes n)) 16 ≡ true → not (has_published (core.sender n) && offers_wish is_unclean (core.offer n)) ≡ true → is_up (core.state n) ≡ true
      → Change core (ask_write core n s v)
  asks_read : (n s : ℕ) → nat_lt s (core.view n).sure_size ≡ true → nat_lt (length (core.reads n)) 16 ≡ true → not (has_published (core.sender n) && offers_wish is_unclean (core.offer n)) ≡ true → is_up (core.state n) ≡ true
      → Change core (ask_read core n s)
  marks : (k : ℕ) (m : Bitmap) → Marks m (core.bitmap k) → Change core (record core { bitmap = with_at core.bitmap k m })
  starts : (n k : ℕ) → is_some (write_in k (core.writes n)) ≡ true → Change core (record core { writes = with_at core.writes n (start_in k (core.writes n)) })
  outs : (n k l : ℕ) (head : ℕ → ℕ → ℕ) → is_some (write_in k (core.writes n)) ≡ true → Change core (record core { head = head; writes = with_at core.writes n (done_in k l (start_in k (core.writes n))) })
  ends_write : (n k : ℕ) (w : LiveWrite) (broken : Bool) → write_in k (core.writes n) ≡ Some w
      → Change core (record core { writes = with_at core.writes n (without_write k (core.writes n)); bitmap = with_at core.bitmap n (bitmap_ended core n (Some w) broken) })
  ends_read : (n k : ℕ) (head : ℕ → ℕ → ℕ) → Change core (record core { head = head; reads = with_at core.reads n (without_read k (core.reads n)) })
  passes : (n : ℕ) (todo legs : ℕ → Bool) → ((c : ℕ) → todo c ≡ true → ((core.bitmap n).need c ≡ true) ⊎ ((core.adding n).gathering.gathered c ≡ true) ⊎ (c < chunks_of (sizes core)))
      → Change core (begin_pass core n todo legs)
  gathers : (n : ℕ) (has : ℕ → Bool) → nat_lt (core.adding n).gathering.next (all_pages (sizes core)) ≡ true → ((c : ℕ) → has c ≡ true → c < chunks_of (sizes core))
      → Change core (record core { adding = with_at core.adding n (record (core.adding n) { gathering = gathered_page (core.adding n).gathering has }) })
  fills : (n s : ℕ) (v : Sector) (l : ℕ) (head : ℕ → ℕ → ℕ) → next_sector core n ≡ Some s → Change core (record core { head = head; copy = pass_with core n (λ p. filled p s v l) })
  copies : (n l : ℕ) (head : ℕ → ℕ → ℕ) → Change core (record core { head = head; copy = pass_with core n (λ p. copied p l) })
  settles : (n : ℕ) (b : Buffer) → buffer_of core n ≡ Some b
      → Change core (record core { copy = pass_with core n (λ p. settled_at (sizes core) p b); bitmap = with_at core.bitmap n (need_met (core.bitmap n) (completes (sizes core) b)) })
  ends_pass : (n : ℕ) (locks : ℕ → Lock) → KeepsBlocks locks core.locks → Change core (record core { copy = with_at core.copy n no_copy; locks = locks })
  recovers : (n d : ℕ) (locks : ℕ → Lock) → KeepsBlocks locks core.locks → n < nodes_of (sizes core) → d < nodes_of (sizes core)
      → Change core (record core { members = begun core.members n d; recovery = with_at core.recovery n (Some (new_recovery d)); locks = locks })
  slot_reads : (n : ℕ) (r : Recovering) (p l : ℕ) (has : ℕ → Bool) → core.recovery n ≡ Some r → ((c : ℕ) → has c ≡ true → c < chunks_of (sizes core))
      → Change core (record core { bitmap = with_at core.bitmap n (found_page (sizes core) (core.bitmap n) p has); recovery = with_at core.recovery n (Some (with_found (with_read r p l) has)) })
  slot_clears : (n : ℕ) (r : Recovering) (p l : ℕ) → core.recovery n ≡ Some r
      → Change core (record core { bitmap = with_at core.bitmap r.slot (written (core.bitmap r.slot) p l); recovery = with_at core.recovery n (Some (with_cleared r p l)) })
  recovered : (n : ℕ) (r : Recovering) (locks : ℕ → Lock) → core.recovery n ≡ Some r → KeepsBlocks locks core.locks
      → Change core (record core { members = ended core.members r.slot; recovery = with_at core.recovery n None; locks = locks })
  loses : (n l : ℕ) (sender : ℕ → SenderPhase) (offer : ℕ → Option Offer) → ((m : ℕ) → has_published (sender m) ≡ true → has_published (core.sender m) ≡ true) → ((m : ℕ) (o : Offer) → offer m ≡ Some o → core.offer m ≡ Some o)
      → is_last (core.view n) l ≡ false → l < (sizes core).legs
      → Change core (record core { sender = sender; offer = offer; view = with_at core.view n (lost_one (core.view n) l) })
  voids : (n : ℕ) → Change core (record core { sender = with_at core.sender n senders.MessageHeld; offer = with_at core.offer n None })

-- some changes, one after the other
pub data Changes (core : Core) : Core → Type 0 where
  still : Changes core core
  more : {mid new : Core} → Changes core mid → Change mid new → Changes core new

abbrev pub changed : {core new : Core} → Change core new → Changes core new
changed c = more still c
