-- What the end of a sender's round keeps of the other locks, and its publish.
use Rattle.std.proofs.Common.{◌≡◌, ◌<◌, ℕ, Bool, true, false, Option, Some, None, refl, sym, ap, ◌∙◌, arith, ◌==◌, if◌then◌else◌}
use Rattle.std.proofs.lemmas.Bool.Decides.{nat_tests}
use Rattle.dlm_modes.specs.Points.{with_at}
use Rattle.dlm_modes.specs.declared.mode.Mode.TheVariants.{CR, EX}
use Rattle.dlm_modes.specs.declared.block.Block.{Block}
use Rattle.dlm_space.specs.Locks.{Lock, holding, let_go}
use Rattle.laws_rounds.specs.Following.{is_of_rounds}
use Rattle.mdc_types.specs.declared.events.Wish.{Wish}
use Rattle.mdc_types.specs.declared.events.Wish.TheVariants as wishes
use Rattle.mdc_types.specs.declared.numbers.Range.{Range}
use Rattle.msg_rounds.specs.Locks.{token_res, message_res, ack_res, published, finished, quitted}
use Rattle.msg_rounds.specs.Phases.{has_message}
use Rattle.msg_rounds.specs.declared.phases.SenderPhase.{SenderPhase}
use Rattle.msg_rounds.specs.declared.phases.SenderPhase.TheVariants as senders
use Rattle.cluster_model.specs.State.{Core, Offer, NotAsked}
use Rattle.cluster_model.specs.Guards.{is_out}
use Rattle.cluster_model.specs.Phases.{is_in, is_unclean, offers}
use Rattle.cluster_model.specs.Changes.{no_new_dev, device_unlocked, sender_now, sender_idle}
use Rattle.cluster_model.specs.Publishing.{publish_wish, publish_offer, block_of}
use Rattle.cluster_model.specs.Finishing.{round_over, superblock_changed, finish_wish, finish_offer}
use Rattle.laws_locks.specs.Others.{SlotLocks, Recoveries, ResyncLock, may_lock_device, DeviceLock, OtherLocks}
use Rattle.laws_locks.proofs.Unmoved.{SameElse, else_at, unmoved, still, sender_same, offer_same}
use Rattle.laws_locks.proofs.Devices.{unlocks_device, unlocked_not, unlocked_else}
use Rattle.laws_locks.proofs.Nodes.{gone_keeps}
use Rattle.laws_locks.proofs.Resting.{copy_still}

pub else_two : (locks : ℕ → Lock) (j k : ℕ) (a b : Lock) → is_of_rounds j ≡ true → is_of_rounds k ≡ true → SameElse (with_at (with_at locks j a) k b) locks
else_two locks j k a b e f r g = else_at (with_at locks j a) k b f r g ∙ else_at locks j a e r g

pub else_quitted : (locks : ℕ → Lock) (n : ℕ) (s : SenderPhase) → SameElse (quitted locks n s) locks
else_quitted locks n s = by_test (has_message s)
  where
    by_test : (b : Bool) → SameElse (with_at (if b then with_at locks message_res (let_go (locks message_res) n) else locks) token_res (let_go (locks token_res) n)) locks
    by_test true = else_two locks message_res token_res _ _ refl refl
    by_test false = else_at locks token_res _ refl

else_finished : (locks : ℕ → Lock) (n : ℕ) → SameElse (finished locks n) locks
else_finished locks n r e =
    else_at (with_at (with_at locks ack_res (holding (locks ack_res) n CR)) message_res (let_go (locks message_res) n)) token_res (let_go (locks token_res) n) refl r e
    ∙ else_two locks ack_res message_res (holding (locks ack_res) n CR) (let_go (locks message_res) n) refl refl r e

-- who goes on without EX there
goes_on : (core : Core) (n : ℕ) (s : SenderPhase) (m : ℕ) → ((device_unlocked core.locks n no_new_dev).held n ≡ Some EX → ⊥) → (device_unlocked core.locks n no_new_dev).held m ≡ Some EX → may_lock_device (core.sender m) ≡ true → may_lock_device (with_at core.sender n s m) ≡ true
goes_on core n s m none held may = by_test (m == n) (λ t. grind (arith, nat_tests))
  where
    by_test : (b : Bool) → (b ≡ true → m ≡ n) → may_lock_device (if b then s else core.sender m) ≡ true
    by_test true is = absurd (none (ap (device_unlocked core.locks n no_new_dev).held (sym (is refl)) ∙ held))
    by_test false is = may

-- A round is given up by a node that is up.
pub quit_up_keeps : (core : Core) (n : ℕ) → OtherLocks core → OtherLocks (record (sender_idle core n) { locks = device_unlocked (quitted core.locks n (core.sender n)) n })
quit_up_keeps core n o =
    let mid = record core { locks = device_unlocked core.locks n } in
    unmoved (record (sender_idle core n) { locks = device_unlocked (quitted core.locks n (core.sender n)) n }) mid (record {
      locks = unlocked_else (quitted core.locks n (core.sender n)) core.locks n (else_quitted core.locks n (core.sender n));
      turn = λ m. refl;
      recovers = λ m k. refl;
      live = refl;
      pending = refl;
      state = refl;
      sender = λ m held may. goes_on core n senders.Idle m (unlocked_not core.locks n) held may;
      offer = offer_same core.offer n None core.copy o.resync.unclean (λ e. cc);
    }) (unlocks_device core n o)

-- A publish.

published_keeps : (core : Core) (n : ℕ) (block : Block) → OtherLocks core → OtherLocks (record (sender_now core n senders.Published) { locks = device_unlocked (published core.locks n block) n })
published_keeps core n block o =
    let mid = record core { locks = device_unlocked core.locks n } in
    unmoved (record (sender_now core n senders.Published) { locks = device_unlocked (published core.locks n block) n }) mid (record {
      locks = unlocked_else (published core.locks n block) core.locks n (else_two core.locks message_res ack_res _ _ refl refl);
      turn = λ m. refl;
      recovers = λ m k. refl;
      live = refl;
      pending = refl;
      state = refl;
      sender = λ m held may. goes_on core n senders.Published m (unlocked_not core.locks n) held may;
      offer = o.resync.unclean;
    }) (unlocks_device core n o)

range_slots : (core : Core) (n : ℕ) (r : Range) → SlotLocks core → core.members.live n ≡ true → n < 16 → SlotLocks (publish_wish core n (wishes.Range r))
range_slots core n r s live lt = grind (arith, nat_tests, s.held n n)

range_recoveries : (core : Core) (n : ℕ) (r : Range) → Recoveries core → Recoveries (publish_wish core n (wishes.Range r))
range_recoveries core n r s = grind (arith, nat_tests)

range_resync : (core : Core) (n : ℕ) (r : Range) → ResyncLock core → n < 16 → ResyncLock (publish_wish core n (wishes.Range r))
range_resync core n r s lt = grind (arith, nat_tests)

range_device : (core : Core) (n : ℕ) (r : Range) → DeviceLock core → n < 16 → DeviceLock (publish_wish core n (wishes.Range r))
range_device core n r s lt = grind (arith, nat_tests)

wish_keeps : (core : Core) (n : ℕ) (w : Wish) → OtherLocks core → core.members.live n ≡ true → n < 16 → OtherLocks (publish_wish core n w)
wish_keeps core n (wishes.Range r) o live lt = record {
  slots = range_slots core n r o.slots live lt;
  recoveries = range_recoveries core n r o.recoveries;
  resync = range_resync core n r o.resync lt;
  device = range_device core n r o.device lt;
}
wish_keeps core n w o live lt = o

pub publish_keeps : (core : Core) (n : ℕ) (x : Option Offer) → OtherLocks core → core.members.live n ≡ true → n < 16 → OtherLocks (publish_offer core n x)
publish_keeps core n None o live lt = o
publish_keeps core n (Some q) o live lt = wish_keeps _ n q.wish (published_keeps core n (block_of core n q) o) live lt

-- A finish.

over_keeps : (core : Core) (n : ℕ) → OtherLocks core → core.sender n ≡ senders.Granted → OtherLocks (round_over core n)
over_keeps core n o g = unmoved (round_over core n) core (record {
  locks = else_finished core.locks n;
  turn = λ m. refl;
  recovers = λ m k. refl;
  live = refl;
  pending = refl;
  state = refl;
  sender = λ m held may. sender_same core.sender n senders.Idle m (λ e. grind arith) may;
  offer = offer_same core.offer n None core.copy o.resync.unclean (λ e. cc);
}) o

up_slots : (core : Core) (n : ℕ) (q : Offer) → SlotLocks core → SlotLocks (superblock_changed core n q)
up_slots core n q s = grind (arith, nat_tests)

up_recoveries : (core : Core) (n : ℕ) (q : Offer) → Recoveries core → is_in (core.state n) ≡ true → Recoveries (superblock_changed core n q)
up_recoveries core n q s i = grind (arith, nat_tests)

up_resync : (core : Core) (n : ℕ) (q : Offer) → ResyncLock core → ResyncLock (superblock_changed core n q)
up_resync core n q s = grind (arith, nat_tests)

up_device : (core : Core) (n : ℕ) (q : Offer) → DeviceLock core → is_in (core.state n) ≡ true → DeviceLock (superblock_changed core n q)
up_device core n q s i = record {
  fits = λ m. grind (arith, nat_tests, s.fits m);
  apart = s.apart;
  requests = s.requests;
  conversions = s.conversions;
}

super_keeps : (core : Core) (n : ℕ) (q : Offer) → OtherLocks core → is_in (core.state n) ≡ true → OtherLocks (superblock_changed core n q)
super_keeps core n q o i = record {
  slots = up_slots core n q o.slots;
  recoveries = up_recoveries core n q o.recoveries i;
  resync = up_resync core n q o.resync;
  device = up_device core n q o.device i;
}

finished_keeps : (core : Core) (n : ℕ) (q : Offer) (w : Wish) → OtherLocks core → is_in (core.state n) ≡ true → is_out (core.state n) ≡ false → (is_unclean w ≡ true → (core.copy n).turn ≡ NotAsked) → OtherLocks (finish_wish core n q w)
finished_keeps core n q (wishes.Range r) o i live none = still _ core (copy_still core n _ refl) o
finished_keeps core n q wishes.Unclean o i live none = gone_keeps core n false o live (none refl)
finished_keeps core n q (wishes.NewDisk l) o i live none = still _ core (record { locks = refl; turn = λ n. refl; recovers = λ n k. refl; members = refl; state = refl; sender = refl; offer = refl }) o
finished_keeps core n q (wishes.Remove l) o i live none = still _ core (record { locks = refl; turn = λ n. refl; recovers = λ n k. refl; members = refl; state = refl; sender = refl; offer = refl }) o
finished_keeps core n q (wishes.ReAdd l) o i live none = still _ core (record { locks = refl; turn = λ n. refl; recovers = λ n k. refl; members = refl; state = refl; sender = refl; offer = refl }) o
finished_keeps core n q w o i live none = super_keeps core n q o i

pub finish_keeps : (core : Core) (n : ℕ) (x : Option Offer) → core.offer n ≡ x → OtherLocks core → core.sender n ≡ senders.Granted → is_in (core.state n) ≡ true → is_out (core.state n) ≡ false → OtherLocks (finish_offer core n x)
finish_keeps core n None is o g i live = over_keeps core n o g
finish_keeps core n (Some q) is o g i live = finished_keeps (round_over core n) n q q.wish (over_keeps core n o g) i live (λ e. o.resync.unclean n (ap (offers is_unclean) is ∙ e))
