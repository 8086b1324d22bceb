-- What the other locks keep when a node comes in, leaves or dies.
use Rattle.std.proofs.Common.{◌≡◌, ◌≢◌, ◌<◌, ℕ, Bool, true, false, Some, None, refl, arith}
use Rattle.std.proofs.lemmas.Bool.Decides.{nat_tests}
use Rattle.dlm_modes.specs.Points.{with_at}
use Rattle.dlm_modes.specs.declared.mode.Mode.TheVariants.{CR}
use Rattle.dlm_space.specs.Locks.{all_let_go}
use Rattle.dlm_space.specs.Orderly.{agree}
use Rattle.dlm_space.proofs.QueueLaws.{asks_of-without}
use Rattle.mdc_types.specs.declared.roles.NodeState.TheVariants as states
use Rattle.node_member.specs.Members.{left}
use Rattle.cluster_model.specs.State.{Core, NotAsked}
use Rattle.cluster_model.specs.Guards.{is_out}
use Rattle.cluster_model.specs.Changes.{no_new_dev, sender_idle, node_out}
use Rattle.cluster_model.specs.Joining.{join, up}
use Rattle.cluster_model.specs.Leaving.{die}
use Rattle.laws_locks.specs.Others.{SlotLocks, Recoveries, ResyncLock, DeviceLock, OtherLocks}
use Rattle.laws_locks.proofs.Holders.{apart_hold}
use Rattle.laws_locks.proofs.Unmoved.{unmoved, offer_same}

die_slots : (core : Core) (n : ℕ) → SlotLocks core → SlotLocks (die core n)
die_slots core n s = grind (arith, nat_tests)

die_recoveries : (core : Core) (n : ℕ) → Recoveries core → Recoveries (die core n)
die_recoveries core n s = grind (arith, nat_tests)

die_resync : (core : Core) (n : ℕ) → ResyncLock core → ResyncLock (die core n)
die_resync core n s = grind (arith, nat_tests, asks_of-without)

die_device : (core : Core) (n : ℕ) → DeviceLock core → DeviceLock (die core n)
die_device core n s = grind (arith, nat_tests, asks_of-without)

join_slots : (core : Core) (n : ℕ) → SlotLocks core → Recoveries core → core.members.pending n ≡ false → SlotLocks (join core n)
join_slots core n s r p = grind (arith, nat_tests)

join_recoveries : (core : Core) (n : ℕ) → Recoveries core → core.members.pending n ≡ false → Recoveries (join core n)
join_recoveries core n r p = grind (arith, nat_tests)

join_resync : (core : Core) (n : ℕ) → ResyncLock core → n < 16 → core.state n ≡ states.Out → ResyncLock (join core n)
join_resync core n s lt out = grind (arith, nat_tests)

join_device : (core : Core) (n : ℕ) → DeviceLock core → n < 16 → core.state n ≡ states.Out → DeviceLock (join core n)
join_device core n s lt out = grind (arith, nat_tests)

-- a node that comes in takes CR on `no-new-dev`, where nobody else holds EX
up_slots : (core : Core) (n : ℕ) → SlotLocks core → SlotLocks (up core n)
up_slots core n s = grind (arith, nat_tests)

up_recoveries : (core : Core) (n : ℕ) → Recoveries core → core.state n ≡ states.Joining → Recoveries (up core n)
up_recoveries core n s j = grind (arith, nat_tests)

up_resync : (core : Core) (n : ℕ) → ResyncLock core → core.state n ≡ states.Joining → ResyncLock (up core n)
up_resync core n s j = grind (arith, nat_tests)

up_device : (core : Core) (n : ℕ) → DeviceLock core → core.state n ≡ states.Joining → ((m : ℕ) → m ≢ n → agree (Some CR) ((core.locks no_new_dev).held m) ≡ true) → DeviceLock (up core n)
up_device core n s j free = record {
  fits = λ m. grind (arith, nat_tests, s.fits m);
  apart = apart_hold (core.locks no_new_dev).held n (Some CR) s.apart free;
  requests = s.requests;
  conversions = s.conversions;
}

-- a node that lets go of all

abbrev pub gone : Core → ℕ → Bool → Core
gone core n clean = record (node_out core n) { members = left core.members n clean; locks = all_let_go core.locks n }

gone_slots : (core : Core) (n : ℕ) (clean : Bool) → SlotLocks core → SlotLocks (gone core n clean)
gone_slots core n clean s = grind (arith, nat_tests)

gone_recoveries : (core : Core) (n : ℕ) (clean : Bool) → Recoveries core → is_out (core.state n) ≡ false → Recoveries (gone core n clean)
gone_recoveries core n clean s live = grind (arith, nat_tests)

gone_resync : (core : Core) (n : ℕ) (clean : Bool) → ResyncLock core → (core.copy n).turn ≡ NotAsked → ResyncLock (gone core n clean)
gone_resync core n clean s none = grind (arith, nat_tests)

gone_device : (core : Core) (n : ℕ) (clean : Bool) → DeviceLock core → DeviceLock (gone core n clean)
gone_device core n clean s = grind (arith, nat_tests)

pub gone_keeps : (core : Core) (n : ℕ) (clean : Bool) → OtherLocks core → is_out (core.state n) ≡ false → (core.copy n).turn ≡ NotAsked → OtherLocks (gone core n clean)
gone_keeps core n clean o live none = record {
  slots = gone_slots core n clean o.slots;
  recoveries = gone_recoveries core n clean o.recoveries live;
  resync = gone_resync core n clean o.resync none;
  device = gone_device core n clean o.device;
}

-- the same where its sender is idle then too
pub quit_keeps : (core : Core) (n : ℕ) → OtherLocks (gone core n true) → OtherLocks (record (node_out (sender_idle core n) n) { members = left core.members n true; locks = all_let_go core.locks n })
quit_keeps core n o = unmoved (record (node_out (sender_idle core n) n) { members = left core.members n true; locks = all_let_go core.locks n }) (gone core n true) (record {
  locks = λ r e. refl;
  turn = λ m. refl;
  recovers = λ m k. refl;
  live = refl;
  pending = refl;
  state = refl;
  sender = λ m held may. grind (arith, nat_tests);
  offer = λ m. offer_same (with_at core.offer n None) n None (gone core n true).copy o.resync.unclean (λ e. cc) m;
}) o

pub die_keeps : (core : Core) (n : ℕ) → OtherLocks core → OtherLocks (die core n)
die_keeps core n o = record {
  slots = die_slots core n o.slots;
  recoveries = die_recoveries core n o.recoveries;
  resync = die_resync core n o.resync;
  device = die_device core n o.device;
}

pub join_keeps : (core : Core) (n : ℕ) → OtherLocks core → n < 16 → core.members.pending n ≡ false → core.state n ≡ states.Out → OtherLocks (join core n)
join_keeps core n o lt p out = record {
  slots = join_slots core n o.slots o.recoveries p;
  recoveries = join_recoveries core n o.recoveries p;
  resync = join_resync core n o.resync lt out;
  device = join_device core n o.device lt out;
}

pub up_keeps : (core : Core) (n : ℕ) → OtherLocks core → core.state n ≡ states.Joining → ((m : ℕ) → m ≢ n → agree (Some CR) ((core.locks no_new_dev).held m) ≡ true) → OtherLocks (up core n)
up_keeps core n o j free = record {
  slots = up_slots core n o.slots;
  recoveries = up_recoveries core n o.recoveries j;
  resync = up_resync core n o.resync j;
  device = up_device core n o.device j free;
}
