-- The ways in which an accepted event changes the part, each with what its guards and the rounds
-- tell.
use Rattle.std.specs.Prelude.{◌≡◌, ◌≢◌, ◌⊎◌, ℕ, ◌+◌, ◌≤◌, ◌==◌, Bool, true, false, ◌&&◌, ◌||◌, if◌then◌else◌, Option, Some, None, is_some}
use Rattle.dlm_modes.specs.Points.{with_at}
use Rattle.mdc_types.specs.Roles.{role_of, eight, is_working, is_rebuilding, is_faulty, is_spare, is_written}
use Rattle.mdc_types.specs.declared.roles.Role.{Role}
use Rattle.mdc_types.specs.declared.roles.Roles.{Roles}
use Rattle.mdc_types.specs.declared.roles.NodeState.TheVariants as states
use Rattle.cluster_msgs.specs.declared.msg.Msg.{Msg}
use Rattle.md_superblock.specs.Arrays.{Says}
use Rattle.msg_rounds.specs.Phases.{Receiving, is_idle, has_processed, has_published, now_in, taken, new_receiving, heard_death}
use Rattle.msg_rounds.specs.declared.phases.SenderPhase.{SenderPhase}
use Rattle.msg_rounds.specs.declared.phases.SenderPhase.TheVariants as senders
use Rattle.msg_rounds.specs.declared.phases.ReceiverPhase.{ReceiverPhase}
use Rattle.msg_rounds.specs.declared.phases.ReceiverPhase.TheVariants as receivers
use Rattle.msg_rounds.specs.Refusals.{is_offered}
use Rattle.disk_addition.specs.Wishes.{is_announced, is_readd}
use Rattle.disk_addition.specs.declared.addition.Addition.TheVariants.{Nothing}
use Rattle.leg_failure.specs.Views.{works, is_unacked, new_view, lost_one, acknowledged, finished, taken as view_taken}
use Rattle.cluster_model.specs.State.{Offer, Tried, Untried, Adding, Copy}
use Rattle.cluster_model.specs.Phases.{is_in, is_up, is_joining, is_metadata}
use Rattle.cluster_model.specs.Changes.{no_view, no_copy, not_adding, covering}
use Rattle.cluster_model.specs.Finishing.{adding_after}
use Rattle.cluster_model.specs.Gathering.{is_again_of}
use Rattle.cluster_model.specs.Joining.{says_of}
use Rattle.cluster_model.specs.Receiving.{told_state}
use Rattle.cluster_model.specs.Superblocks.{says_of_offer, written_on}
use Rattle.laws_locks.specs.Rounded.{has_token}
use Rattle.laws_roles.proofs.Parts.{Part, changes_super, offered_role, offered_size, is_written_to, heard_role, heard_size, promotes, needs_known, wants_spare, wants_faulty, rebuilds, covers, is_loaded, first_working, with_finish, with_source, with_promoted, is_late}

abbrev pub receiver_now : Part → ℕ → ReceiverPhase → ℕ → Receiving
receiver_now w n phase = with_at w.receiver n (now_in phase (w.receiver n))

-- eight roles tell them all
abbrev pub AreEight : (ℕ → Role) → Type 0
AreEight role = (l : ℕ) → role_of (eight role) l ≡ role l

-- the other receivers, where the node's message is published
pub record Hearers (w : Part) (n : ℕ) : Type 0 where
  pub from : (m : ℕ) → is_idle (w.receiver m).phase ≡ false → (w.receiver m).from ≡ n
  pub gone : (m : ℕ) → is_idle (w.receiver m).phase ≡ false → (w.receiver m).gone ≡ false
  pub told : (m : ℕ) → is_idle (w.receiver m).phase ≡ false
      → told_state (w.heard m) ≡ changes_super (w.offer n)
  pub role : (m l : ℕ) → is_idle (w.receiver m).phase ≡ false → changes_super (w.offer n) ≡ true
      → heard_role (w.heard m) l ≡ offered_role (w.offer n) l
  pub size : (m : ℕ) → is_idle (w.receiver m).phase ≡ false → changes_super (w.offer n) ≡ true
      → heard_size (w.heard m) ≡ offered_size (w.offer n)

-- what the guards of a wish tell
pub record Wished (w : Part) (n : ℕ) (o : Offer) : Type 0 where
  pub known : needs_known o.wish ≡ true → (l : ℕ) → is_unacked (w.view n) l ≡ false
  pub up : needs_known o.wish ≡ true → is_up (w.state n) ≡ true
  pub spare : (l : ℕ) → wants_spare o.wish l ≡ true → is_spare ((w.view n).role l) ≡ true
  pub faulty : (l : ℕ) → wants_faulty o.wish l ≡ true → is_faulty ((w.view n).role l) ≡ true
  pub adds : (l : ℕ) → rebuilds o.wish l ≡ true
      → (is_announced (w.adding n).addition l || is_readd (w.adding n).addition l) ≡ true
  pub rebuilt : (l : ℕ) → rebuilds o.wish l ≡ true → is_rebuilding (o.role l) ≡ true
  pub promoted : (l : ℕ) → promotes o.wish l ≡ true → is_rebuilding ((w.view n).role l) ≡ true
  pub worked : (l : ℕ) → promotes o.wish l ≡ true → is_working (o.role l) ≡ true
  pub all_known : (l : ℕ) → promotes o.wish l ≡ true → needs_known o.wish ≡ true

-- a superblock is proposed
pub record Proposal (w : Part) (n : ℕ) (o : Offer) : Type 0 where
  pub none : (m : ℕ) → w.offer m ≡ None
  pub meta : is_metadata o.wish ≡ true
  pub silent : has_published (w.sender n) ≡ false
  pub inside : is_in (w.state n) ≡ true
  pub idle : is_idle (w.receiver n).phase ≡ true
  pub events : o.events ≡ w.drawn + 1
  pub fresh : (l : ℕ) → o.written l ≡ false
  pub working : (l : ℕ) → is_working (o.role l) ≡ true
      → (works (w.view n) l || promotes o.wish l) ≡ true
  pub faulty : (l : ℕ) → is_faulty (o.role l) ≡ true
      → (is_faulty ((w.view n).role l) || is_working ((w.view n).role l)) ≡ true
  -- the size is that of the view, or over the one that an up node is sure of
  pub size : ((w.view n).size ≤ o.size)
      ⊎ ((is_up (w.state n) ≡ true) × ((w.view n).sure_size ≤ o.size))

-- a proposed superblock is written to a leg
pub record Writing (w : Part) (n : ℕ) (o : Offer) : Type 0 where
  pub offer : w.offer n ≡ Some o
  pub meta : is_metadata o.wish ≡ true
  pub others : (m : ℕ) → m ≢ n → w.offer m ≡ None
  -- nobody loads meanwhile
  pub alone : (m : ℕ) → has_token (w.sender m) ≡ true → is_joining (w.state m) ≡ false
  pub loaded : (m : ℕ) → is_loaded (w.state m) ≡ true → m ≡ n
  pub eight : AreEight o.role
  -- what works at the node works by the proposal
  pub serves : (l : ℕ) → works (w.view n) l ≡ true → is_working (o.role l) ≡ true

-- the node's round of the superblock is whole
pub record Whole (w : Part) (n : ℕ) (o : Offer) : Type 0 where
  pub offer : w.offer n ≡ Some o
  pub meta : is_metadata o.wish ≡ true
  pub others : (m : ℕ) → m ≢ n → w.offer m ≡ None
  pub inside : is_in (w.state n) ≡ true
  pub published : has_published (w.sender n) ≡ true
  pub idle : is_idle (w.receiver n).phase ≡ true
  pub eight : AreEight o.role
  pub works : is_working (o.role (first_working o.role)) ≡ true
  pub hearers : Hearers w n
  pub loaded : (m : ℕ) → is_loaded (w.state m) ≡ true → m ≡ n
  pub processed : (m : ℕ) → m ≢ n → is_in (w.state m) ≡ true
      → has_processed (w.receiver m).phase ≡ true

-- a receiver hears the roles and the size of the published offer
pub record Hearing (w : Part) (n : ℕ) (role : ℕ → Role) (size : ℕ) : Type 0 where
  pub says_role : (l : ℕ) → role l ≡ heard_role (w.heard n) l
  pub says_size : size ≡ heard_size (w.heard n)
  pub offer : changes_super (w.offer (w.receiver n).from) ≡ true
  pub offered : (l : ℕ) → role l ≡ offered_role (w.offer (w.receiver n).from) l
  pub offered_size : size ≡ offered_size (w.offer (w.receiver n).from)
  pub published : has_published (w.sender (w.receiver n).from) ≡ true
  -- the node is up, and offers nothing itself
  pub up : is_up (w.state n) ≡ true
  pub silent : w.offer n ≡ None

pub data Way (w : Part) : Part → Type 0 where
  still : Way w w
  speaks : (n : ℕ) (s : SenderPhase) → has_published s ≡ has_published (w.sender n)
      → (has_token (w.sender n) ≡ true → has_token s ≡ true) → is_offered s ≡ false
      → Way w (record w { sender = with_at w.sender n s })
  voids : (n : ℕ) → has_published (w.sender n) ≡ false
      → Way w (record w { sender = with_at w.sender n senders.MessageHeld; offer = with_at w.offer n None })
  readies : (n : ℕ) → has_processed (w.receiver n).phase ≡ true
      → Way w (record w { receiver = receiver_now w n receivers.Ready })
  joins : (n : ℕ) → w.state n ≡ states.Out → has_published (w.sender n) ≡ false
      → Way w (record w { state = with_at w.state n states.Joining; sender = with_at w.sender n senders.TokenAsked })
  loads : (n l : ℕ) (t : Tried) → is_joining (w.state n) ≡ true → has_token (w.sender n) ≡ true
      → (is_some (says_of t) ≡ true → w.super l ≡ says_of t)
      → Way w (record w { tried = λ m k. if (m == n) && (k == l) then t else w.tried m k })
  comes : (n k : ℕ) (says : Says) (lost : ℕ → Bool) → w.state n ≡ states.Joining
      → is_idle (w.receiver n).phase ≡ true
      → says_of (w.tried n k) ≡ Some says → w.completed ≤ says.events
      → w.offer n ≡ None → w.copy n ≡ no_copy
      → Way w (record w {
        state = with_at w.state n states.Loaded;
        view = with_at w.view n (new_view (role_of says.roles) says.size lost);
        tried = with_at w.tried n (λ l. Untried);
        copy = with_at w.copy n (covering (w.copy n) (new_view (role_of says.roles) says.size lost));
        ghost = with_source w.ghost n k;
      })
  goes : (n : ℕ) → has_published (w.sender n) ≡ false → is_idle (w.receiver n).phase ≡ true
      → Way w (record w {
        state = with_at w.state n states.Out;
        view = with_at w.view n no_view;
        sender = with_at w.sender n senders.Idle;
        offer = with_at w.offer n None;
        heard = with_at w.heard n None;
        tried = with_at w.tried n (λ l. Untried);
        adding = with_at w.adding n not_adding;
        copy = with_at w.copy n no_copy;
      })
  dies : (n : ℕ)
      → Way w (record w {
        state = with_at w.state n states.Out;
        view = with_at w.view n no_view;
        sender = with_at w.sender n senders.Idle;
        offer = with_at w.offer n None;
        receiver = λ m. if m == n then new_receiving else if has_published (w.sender n) then heard_death n (w.receiver m) else w.receiver m;
        heard = with_at w.heard n None;
        tried = with_at w.tried n (λ l. Untried);
        adding = with_at w.adding n not_adding;
        copy = with_at w.copy n no_copy;
      })
  offers : (n : ℕ) (o : Offer) → Proposal w n o → Wished w n o
      → Way w (record w {
        sender = with_at w.sender n senders.Offered;
        offer = with_at w.offer n (Some o);
        drawn = w.drawn + 1;
        ghost = with_promoted w.ghost o.wish;
      })
  offers_other : (n : ℕ) (o : Offer) → is_metadata o.wish ≡ false → has_published (w.sender n) ≡ false → Wished w n o
      → Way w (record w {
        sender = with_at w.sender n senders.Offered;
        offer = with_at w.offer n (Some o);
      })
  publishes : (n : ℕ) → ((m : ℕ) → is_idle (w.receiver m).phase ≡ true)
      → (changes_super (w.offer n) ≡ true → (l : ℕ) → is_written (offered_role (w.offer n) l) ≡ true → is_written_to (w.offer n) l ≡ true)
      → Way w (record w { sender = with_at w.sender n senders.Published })
  writes : (n l : ℕ) (o : Offer) → Writing w n o
      → Way w (record w {
        offer = with_at w.offer n (Some (written_on l o));
        super = with_at w.super l (Some (says_of_offer o));
      })
  -- a write that failed, and left the new superblock
  leaves : (n l : ℕ) (o : Offer) → Writing w n o
      → Way w (record w { super = with_at w.super l (Some (says_of_offer o)) })
  loses : (n l : ℕ) → is_offered (w.sender n) ≡ false → Way w (record w { view = with_at w.view n (lost_one (w.view n) l) })
  finishes : (n : ℕ) (o : Offer) → Whole w n o
      → Way w (record w {
        state = with_at w.state n states.Up;
        view = with_at w.view n (finished (w.view n) o.role o.size);
        sender = with_at w.sender n senders.Idle;
        offer = with_at w.offer n None;
        completed = o.events;
        adding = with_at w.adding n (adding_after (w.adding n) o.wish);
        copy = with_at w.copy n (covering (w.copy n) (finished (w.view n) o.role o.size));
        ghost = with_finish w.ghost o (w.adding n).addition;
      })
  -- a round that doesn't change the superblock ends, or one that isn't published is given up
  idles : (n : ℕ) → is_joining (w.state n) ≡ false
      → ((m : ℕ) → has_published (w.sender n) ≡ true → is_idle (w.receiver m).phase ≡ false → told_state (w.heard m) ≡ false)
      → Way w (record w { sender = with_at w.sender n senders.Idle; offer = with_at w.offer n None })
  takes : (n from : ℕ) (m : Option Msg) → is_idle (w.receiver n).phase ≡ true
      → Way w (record w { receiver = with_at w.receiver n (taken from); heard = with_at w.heard n m })
  hears : (n : ℕ) (roles : Roles) (size : ℕ) → Hearing w n (role_of roles) size
      → Way w (record w {
        view = with_at w.view n (view_taken (w.view n) (role_of roles) size);
        receiver = receiver_now w n receivers.Waiting;
        adding = with_at w.adding n (record (w.adding n) { addition = Nothing });
        copy = with_at w.copy n (covering (w.copy n) (view_taken (w.view n) (role_of roles) size));
      })
  passes : (n : ℕ) → told_state (w.heard n) ≡ false
      → Way w (record w { receiver = receiver_now w n receivers.Waiting })
  resumes : (n : ℕ) → is_late w n ≡ true
      → Way w (record w {
        view = with_at w.view n (acknowledged (w.view n));
        receiver = receiver_now w n receivers.Idle;
        heard = with_at w.heard n None;
      })
  rests : (n : ℕ) → is_late w n ≡ false
      → Way w (record w {
        receiver = receiver_now w n receivers.Idle;
        heard = with_at w.heard n None;
      })
  -- a device is announced, or is to be removed or added again
  announces : (n : ℕ) (o : Offer) → w.offer n ≡ Some o → needs_known o.wish ≡ true → is_metadata o.wish ≡ false → is_up (w.state n) ≡ true
      → is_idle (w.receiver n).phase ≡ true
      → Way w (record w { adding = with_at w.adding n (adding_after (w.adding n) o.wish) })
  gathers : (n : ℕ) (a : Adding) → a.addition ≡ (w.adding n).addition
      → Way w (record w { adding = with_at w.adding n a })
  -- a pass that covers no other legs goes on or ends, and one begins
  copies : (n : ℕ) (c : Copy) → ((l : ℕ) → covers c l ≡ true → covers (w.copy n) l ≡ true)
      → Way w (record w { copy = with_at w.copy n c })
  passes_over : (n : ℕ) (c : Copy) → is_up (w.state n) ≡ true
      → ((l : ℕ) → covers c l ≡ true → is_unacked (w.view n) l ≡ false)
      → ((l : ℕ) → covers c l ≡ true → (is_rebuilding ((w.view n).role l) || is_again_of (w.adding n).addition l) ≡ true)
      → Way w (record w { copy = with_at w.copy n c })

-- some ways, one after the other
pub data Ways (w : Part) : Part → Type 0 where
  none : Ways w w
  more : {u v : Part} → Ways w u → Way u v → Ways w v

abbrev pub one : {w v : Part} → Way w v → Ways w v
one x = more none x
