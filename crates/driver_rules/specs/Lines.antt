-- The lines of the list of helping events: each gives at most one event, the first of its
-- alternatives whose condition and guards hold.
use Rattle.std.specs.Prelude.{ℕ, ◌==◌, Bool, true, false, not, ◌&&◌, ◌||◌, is_some, is_none}
use Rattle.std.specs.Prelude.{if◌then◌else◌, List, [], ◌∷◌, Option, Some, None}
use Rattle.dlm_modes.specs.First.{first_such}
use Rattle.dlm_modes.specs.Guards.{first_of}
use Rattle.mdc_types.specs.Geometry.{chunks_of, nodes_of}
use Rattle.mdc_types.specs.Roles.{is_rebuilding}
use Rattle.mdc_types.specs.declared.events.Event.{Event}
use Rattle.mdc_types.specs.declared.events.Event.TheVariants.{Grant, Load, Up, AskToken}
use Rattle.mdc_types.specs.declared.events.Event.TheVariants.{AskMessage, Offer, WriteSuper}
use Rattle.mdc_types.specs.declared.events.Event.TheVariants.{Publish, FinishRound, Quit, Take}
use Rattle.mdc_types.specs.declared.events.Event.TheVariants.{Processed, Resume, DropMessage}
use Rattle.mdc_types.specs.declared.events.Event.TheVariants.{WritePage, Out, EndWrite}
use Rattle.mdc_types.specs.declared.events.Event.TheVariants.{BreakWrite, In, Clear, AskResync}
use Rattle.mdc_types.specs.declared.events.Event.TheVariants.{Gather, PassOwn, PassFull}
use Rattle.mdc_types.specs.declared.events.Event.TheVariants.{PassAgain, CopyIn, CopyOut, Settle}
use Rattle.mdc_types.specs.declared.events.Event.TheVariants.{EndPass, Recover, SlotIn, SlotOut}
use Rattle.mdc_types.specs.declared.events.Event.TheVariants.{Recovered, LockDevice}
use Rattle.mdc_types.specs.declared.refusals.Refusal.{Refusal}
use Rattle.mdc_types.specs.declared.refusals.Refusal.TheVariants.{Draining}
use Rattle.mdc_types.specs.declared.resources.Res.{Res}
use Rattle.mdc_types.specs.declared.resources.Res.TheVariants as resources
use Rattle.dlm_space.specs.declared.ask.Ask.{Ask}
use Rattle.msg_rounds.specs.Refusals.{is_token_held, is_message_held}
use Rattle.leg_failure.specs.Views.{is_target, works}
use Rattle.mirror_io.specs.Flight.{missing_leg}
use Rattle.mirror_io.specs.declared.live.LiveWrite.{LiveWrite}
use Rattle.mirror_io.specs.declared.live.LiveRead.{LiveRead}
use Rattle.node_bitmaps.specs.Bitmap.{first_unmarked, first_old, first_needed}
use Rattle.node_member.specs.Members.{first_pending}
use Rattle.node_recovery.specs.Progress.{Recovering, unread, uncleared}
use Rattle.disk_addition.specs.declared.addition.Addition.{Addition}
use Rattle.disk_addition.specs.declared.addition.Addition.TheVariants.{Again}
use Rattle.cluster_model.specs.State.{Core, Offer as Offered, sizes}
use Rattle.cluster_model.specs.Phases.{copy_word, is_held, has_pass}
use Rattle.cluster_model.specs.Granting.{asker}
use Rattle.cluster_model.specs.Joining.{is_untried}
use Rattle.cluster_model.specs.Wishes.{holds_device_lock}
use Rattle.cluster_model.specs.Publishing.{unwritten_leg}
use Rattle.cluster_model.specs.Copying.{buffer_of, uncopied_target}
use Rattle.cluster_model.specs.Recovering.{leg_unread, leg_uncleared, pending_heir}
use Rattle.cluster_model.specs.Table.{refusal}
use Rattle.driver_rules.specs.Wants.{want, todo_chunk, covered_leg, is_least_member}

-- the event, where its guards hold
abbrev pub allowed : Core → Event → Option Event
allowed core e = if is_none (refusal core e) then Some e else None

-- the same, where the condition holds, and where something was found
abbrev pub allowed_if : Core → Bool → Event → Option Event
allowed_if core true e = allowed core e
allowed_if core false e = None

abbrev pub allowed_at : {A : Type 0} → Core → (A → Event) → Option A → Option Event
allowed_at core e None = None
allowed_at core e (Some a) = allowed core (e a)

-- the event of a page and a leg
abbrev pub of_page : (ℕ → ℕ → Event) → ℕ × ℕ → Event
of_page e place = e place.0 place.1

-- 1. A message that was sent to the node.

-- the write that `processed` waits for, where a loss holds it up
abbrev pub broken_for : Core → ℕ → Option Refusal → Option Event
broken_for core n (Some (Draining k)) = allowed core (BreakWrite n k)
broken_for core n r = None

abbrev pub receiving : Core → ℕ → Option Event
receiving core n = first_of (
    allowed core (Resume n)
    ∷ allowed core (Processed n)
    ∷ allowed core (DropMessage n)
    ∷ broken_for core n (refusal core (Processed n))
    ∷ allowed core (Take n)
    ∷ [])

-- 2. A lock that the node waits for: of the first resource where it is the head.

abbrev pub is_of : ℕ → Option Ask → Bool
is_of n None = false
is_of n (Some a) = a.node == n

abbrev pub heads : Core → ℕ → Res → Bool
heads core n res = is_of n (asker core res)

abbrev pub headed_by : Core → ℕ → Option Res
headed_by core n =
    if heads core n resources.Token then Some resources.Token
    else if heads core n resources.Message then Some resources.Message
    else if heads core n resources.Ack then Some resources.Ack
    else if heads core n resources.Resync then Some resources.Resync
    else None

abbrev pub granting : Core → ℕ → Option Event
granting core n = allowed_at core Grant (headed_by core n)

-- 3. The superblocks that a joining node reads.

abbrev pub untried_leg : Core → ℕ → Option ℕ
untried_leg core n = first_such (λ l. is_untried (core.tried n l)) 0 (sizes core).legs

abbrev pub joining : Core → ℕ → Option Event
joining core n =
    first_of (allowed_at core (Load n) (untried_leg core n) ∷ allowed core (Up n) ∷ [])

-- 4. The node's own round, from its offer on.

-- the first leg that the proposed roles want written and that doesn't have the superblock
abbrev pub unwritten_in : Option Offered → Option ℕ
unwritten_in None = None
unwritten_in (Some o) = unwritten_leg o

abbrev pub unwritten : Core → ℕ → Option ℕ
unwritten core n = unwritten_in (core.offer n)

abbrev pub sending : Core → ℕ → Option Event
sending core n = first_of (
    allowed core (FinishRound n)
    ∷ allowed_at core (WriteSuper n) (unwritten core n)
    ∷ allowed core (Publish n)
    ∷ allowed_at core (Offer n) (want core n)
    ∷ allowed_if core (is_message_held (core.sender n) && is_none (want core n)) (Quit n)
    ∷ [])

-- 5. The locks of the node's own round.

abbrev pub asking : Core → ℕ → Option Event
asking core n = first_of (
    allowed_if core (not (holds_device_lock core n)) (LockDevice n)
    ∷ allowed_if core (is_some (want core n)) (AskMessage n)
    ∷ allowed_if core (is_token_held (core.sender n) && is_none (want core n)) (Quit n)
    ∷ allowed_if core (is_some (want core n)) (AskToken n)
    ∷ [])

-- 6. The first page and target where a set chunk has no mark.

abbrev pub marking : Core → ℕ → Option Event
marking core n = allowed_at core (of_page (WritePage n))
    (first_unmarked (sizes core) (core.bitmap n) (is_target (core.view n)))

-- 7. Requests in flight.

-- the first live write with a target that doesn't have its value, and that target
abbrev pub with_target : ℕ → Option ℕ → Option (ℕ × ℕ) → Option (ℕ × ℕ)
with_target k None rest = rest
with_target k (Some l) rest = Some (k, l)

abbrev pub first_undone : (ℕ → Bool) → List LiveWrite → Option (ℕ × ℕ)
first_undone targets [] = None
first_undone targets (w ∷ ws) =
    with_target w.number (missing_leg targets w) (first_undone targets ws)

-- the first of the writes that may end
abbrev pub first_to_end : Core → ℕ → List LiveWrite → Option Event
first_to_end core n [] = None
first_to_end core n (w ∷ ws) =
    if is_none (refusal core (EndWrite n w.number)) then Some (EndWrite n w.number)
    else first_to_end core n ws

abbrev pub first_read : List LiveRead → Option ℕ
first_read [] = None
first_read (r ∷ rs) = Some r.number

abbrev pub flying : Core → ℕ → Option Event
flying core n = first_of (
    allowed_at core (of_page (Out n)) (first_undone (is_target (core.view n)) (core.writes n))
    ∷ first_to_end core n (core.writes n)
    ∷ allowed_at core (In n) (first_read (core.reads n))
    ∷ [])

-- 8. The pages of the slot that the node recovers.

abbrev pub unread_in : Core → ℕ → Option Recovering → Option (ℕ × ℕ)
unread_in core n None = None
unread_in core n (Some r) = unread (sizes core) r (works (core.view n))

abbrev pub uncleared_in : Core → ℕ → Option Recovering → Option (ℕ × ℕ)
uncleared_in core n None = None
uncleared_in core n (Some r) = uncleared (sizes core) r (is_target (core.view n))

abbrev pub recovering : Core → ℕ → Option Event
recovering core n = first_of (
    allowed_at core (of_page (SlotIn n)) (unread_in core n (core.recovery n))
    ∷ allowed_at core (of_page (SlotOut n)) (uncleared_in core n (core.recovery n))
    ∷ allowed core (Recovered n)
    ∷ [])

-- 9. The sector that the node copies.

abbrev pub copying : Core → ℕ → Option Event
copying core n = first_of (
    allowed core (CopyIn n)
    ∷ allowed_at core (CopyOut n) (uncopied_target core n (buffer_of core n))
    ∷ allowed core (Settle n)
    ∷ [])

-- 10. What a node that just holds the lock `resync` begins.

abbrev pub is_just_held : Core → ℕ → Bool
is_just_held core n = is_held (copy_word (core.copy n))

-- the first pending slot whose heir isn't pending
abbrev pub may_begin : Core → ℕ → Bool
may_begin core d =
    core.members.pending d && is_none (pending_heir core.members (core.members.heir d))

abbrev pub slot_to_begin : Core → Option ℕ
slot_to_begin core = first_such (may_begin core) 0 (nodes_of (sizes core))

-- all pages of the slot were read, and are cleared
abbrev pub is_clean : Core → ℕ → Bool
is_clean core n =
    is_some (core.recovery n) && is_none (leg_unread core n (core.recovery n))
    && is_none (leg_uncleared core n (core.recovery n))

abbrev pub again_leg : Addition → Option ℕ
again_leg (Again l) = Some l
again_leg a = None

-- a leg is rebuilding
abbrev pub rebuilds : Core → ℕ → Bool
rebuilds core n = is_some (first_such (λ l. is_rebuilding ((core.view n).role l)) 0 8)

abbrev pub some_pending : Core → Bool
some_pending core = is_some (first_pending core.members)

abbrev pub needs_copying : Core → ℕ → Bool
needs_copying core n = is_some (first_needed (sizes core) (core.bitmap n))

abbrev pub begun_when_held : Core → ℕ → Option Event
begun_when_held core n = first_of (
    allowed_at core (Recover n) (slot_to_begin core)
    ∷ allowed_if core (is_clean core n) (PassOwn n)
    ∷ allowed core (Gather n)
    ∷ allowed_at core (PassAgain n) (again_leg (core.adding n).addition)
    ∷ allowed_if core (rebuilds core n && not (some_pending core)) (PassFull n)
    ∷ allowed_if core (needs_copying core n) (PassOwn n)
    ∷ [])

abbrev pub beginning : Core → ℕ → Option Event
beginning core n = if is_just_held core n then begun_when_held core n else None

-- 11. The end of a pass, and of a lock under which nothing is to be done.

abbrev pub is_over : Core → ℕ → Bool
is_over core n =
    has_pass (copy_word (core.copy n)) && is_none (todo_chunk core n)
    && is_none (covered_leg core n) && is_none (core.recovery n)

abbrev pub is_idle : Core → ℕ → Bool
is_idle core n = is_just_held core n && is_none (beginning core n)

abbrev pub ending : Core → ℕ → Option Event
ending core n = allowed_if core (is_over core n || is_idle core n) (EndPass n)

-- 12. The lock under which nodes copy.

abbrev pub wants_to_copy : Core → ℕ → Bool
wants_to_copy core n =
    needs_copying core n
    || (is_least_member core n && (some_pending core || rebuilds core n))

abbrev pub turning : Core → ℕ → Option Event
turning core n = allowed_if core (wants_to_copy core n) (AskResync n)

-- 13. The first chunk that may leave the set, and the first page and target that isn't fresh.

abbrev pub chunk_to_clear : Core → ℕ → Option ℕ
chunk_to_clear core n =
    first_such (λ c. is_none (refusal core (Clear n c))) 0 (chunks_of (sizes core))

abbrev pub cleaning : Core → ℕ → Option Event
cleaning core n = first_of (
    allowed_at core (Clear n) (chunk_to_clear core n)
    ∷ allowed_at core (of_page (WritePage n))
    (first_old (sizes core) (core.bitmap n) (is_target (core.view n)))
    ∷ [])
