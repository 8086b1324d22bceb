-- What `resync` and the recoveries under it keep.
use Rattle.std.proofs.Common.{◌≡◌, ◌≢◌, ◌<◌, ℕ, Bool, true, false, List, [], Option, Some, None, refl, ap, ◌∙◌, arith}
use Rattle.std.proofs.lemmas.Bool.Decides.{nat_tests}
use Rattle.dlm_modes.specs.Points.{with_at}
use Rattle.dlm_modes.specs.declared.mode.Mode.{Mode}
use Rattle.dlm_modes.specs.declared.mode.Mode.TheVariants.{EX}
use Rattle.dlm_space.specs.declared.ask.Ask.{Ask}
use Rattle.dlm_space.specs.Queues.{asks_of}
use Rattle.dlm_space.specs.Orderly.{agree}
use Rattle.dlm_space.proofs.QueueLaws.{asks_of-push}
use Rattle.mdc_types.specs.declared.roles.NodeState.TheVariants as states
use Rattle.node_recovery.specs.Progress.{Recovering}
use Rattle.cluster_model.specs.State.{Core, Turn, NotAsked, Asked, Held}
use Rattle.cluster_model.specs.Phases.{is_unclean, offers}
use Rattle.cluster_model.specs.Changes.{resync_res, with_copy}
use Rattle.cluster_model.specs.Passes.{ask_resync, end_pass}
use Rattle.cluster_model.specs.Recovering.{recover, slot_recovered}
use Rattle.laws_locks.specs.Others.{turn_held, turn_request, recovers, SlotLocks, Recoveries, ResyncLock, DeviceLock, OtherLocks}
use Rattle.laws_locks.proofs.Holders.{apart_hold, apart_none}

-- A turn is asked.

ask_slots : (core : Core) (n : ℕ) → SlotLocks core → SlotLocks (ask_resync core n)
ask_slots core n s = grind (arith, nat_tests)

no_recovery : (recovers : Bool) (turn : Turn) → (recovers ≡ true → turn ≡ Held) → turn ≢ Held → recovers ≡ false
no_recovery recovers turn e f = grind arith

ask_recoveries : (core : Core) (n : ℕ) → Recoveries core → (core.copy n).turn ≡ NotAsked → Recoveries (ask_resync core n)
ask_recoveries core n s none = grind (arith, nat_tests)

ask_lock : (core : Core) (n : ℕ) → ResyncLock core → core.state n ≡ states.Up → (core.copy n).turn ≡ NotAsked → offers is_unclean (core.offer n) ≡ false → ResyncLock (ask_resync core n)
ask_lock core n s up none clean = grind (arith, nat_tests, asks_of-push)

pub ask_keeps : (core : Core) (n : ℕ) → OtherLocks core → core.state n ≡ states.Up → (core.copy n).turn ≡ NotAsked → offers is_unclean (core.offer n) ≡ false → OtherLocks (ask_resync core n)
ask_keeps core n o up none clean = record {
  slots = ask_slots core n o.slots;
  recoveries = ask_recoveries core n o.recoveries none;
  resync = ask_lock core n o.resync up none clean;
  device = record { fits = o.device.fits; apart = o.device.apart; requests = o.device.requests; conversions = o.device.conversions };
}

-- And is granted.

abbrev pub turn_served : Core → ℕ → List Ask → Core
turn_served core p rest = record (with_copy core p (record (core.copy p) { turn = Held })) {
  locks = with_at core.locks resync_res (record (core.locks resync_res) { held = with_at (core.locks resync_res).held p (Some EX); requests = rest });
}

served_slots : (core : Core) (p : ℕ) (rest : List Ask) → SlotLocks core → SlotLocks (turn_served core p rest)
served_slots core p rest s = grind (arith, nat_tests)

served_recoveries : (core : Core) (p : ℕ) (rest : List Ask) → Recoveries core → Recoveries (turn_served core p rest)
served_recoveries core p rest s = grind (arith, nat_tests)

served_lock : (core : Core) (p : ℕ) (rest : List Ask) → ResyncLock core → (core.copy p).turn ≡ Asked → ((m : ℕ) → m ≢ p → asks_of m rest ≡ turn_request (core.copy m).turn) → asks_of p rest ≡ [] → ((m : ℕ) → m ≢ p → agree (Some EX) ((core.locks resync_res).held m) ≡ true) → ResyncLock (turn_served core p rest)
served_lock core p rest s asks others mine free = record {
  held = λ m. grind (arith, nat_tests, s.held m);
  apart = apart_hold (core.locks resync_res).held p (Some EX) s.apart free;
  requests = λ m. grind (arith, nat_tests, others m);
  conversions = s.conversions;
  still = λ m e. grind (arith, nat_tests, s.still m);
  unclean = λ m e. grind (arith, nat_tests, s.unclean m);
}

pub served_keeps : (core : Core) (p : ℕ) (rest : List Ask) → OtherLocks core → (core.copy p).turn ≡ Asked → ((m : ℕ) → m ≢ p → asks_of m rest ≡ turn_request (core.copy m).turn) → asks_of p rest ≡ [] → ((m : ℕ) → m ≢ p → agree (Some EX) ((core.locks resync_res).held m) ≡ true) → OtherLocks (turn_served core p rest)
served_keeps core p rest o asks others mine free = record {
  slots = served_slots core p rest o.slots;
  recoveries = served_recoveries core p rest o.recoveries;
  resync = served_lock core p rest o.resync asks others mine free;
  device = record { fits = o.device.fits; apart = o.device.apart; requests = o.device.requests; conversions = o.device.conversions };
}

-- And is over.

end_slots : (core : Core) (n : ℕ) → SlotLocks core → SlotLocks (end_pass core n)
end_slots core n s = grind (arith, nat_tests)

end_recoveries : (core : Core) (n : ℕ) → Recoveries core → core.recovery n ≡ None → Recoveries (end_pass core n)
end_recoveries core n s none = grind (arith, nat_tests)

end_lock : (core : Core) (n : ℕ) → ResyncLock core → (core.copy n).turn ≡ Held → ResyncLock (end_pass core n)
end_lock core n s held = record {
  held = λ m. grind (arith, nat_tests, s.held m);
  apart = apart_none (core.locks resync_res).held n s.apart;
  requests = λ m. grind (arith, nat_tests, s.requests m);
  conversions = rw s.conversions refl;
  still = λ m e. grind (arith, nat_tests, s.still m);
  unclean = λ m e. grind (arith, nat_tests, s.unclean m);
}

pub end_keeps : (core : Core) (n : ℕ) → OtherLocks core → (core.copy n).turn ≡ Held → core.recovery n ≡ None → OtherLocks (end_pass core n)
end_keeps core n o held none = record {
  slots = end_slots core n o.slots;
  recoveries = end_recoveries core n o.recoveries none;
  resync = end_lock core n o.resync held;
  device = record { fits = o.device.fits; apart = o.device.apart; requests = o.device.requests; conversions = o.device.conversions };
}

-- A recovery.

recover_slots : (core : Core) (n d : ℕ) → SlotLocks core → core.recovery n ≡ None → d < 16 → SlotLocks (recover core n d)
recover_slots core n d s none lt = grind (arith, nat_tests)

recover_recoveries : (core : Core) (n d : ℕ) → Recoveries core → core.recovery n ≡ None → (core.copy n).turn ≡ Held → core.members.pending d ≡ true → core.state n ≡ states.Up → Recoveries (recover core n d)
recover_recoveries core n d s none held p up = grind (arith, nat_tests)

recover_lock : (core : Core) (n d : ℕ) → ResyncLock core → d < 16 → ResyncLock (recover core n d)
recover_lock core n d s lt = grind (arith, nat_tests)

recover_device : (core : Core) (n d : ℕ) → DeviceLock core → d < 16 → DeviceLock (recover core n d)
recover_device core n d s lt = grind (arith, nat_tests)

pub recover_keeps : (core : Core) (n d : ℕ) → OtherLocks core → core.recovery n ≡ None → d < 16 → (core.copy n).turn ≡ Held → core.members.pending d ≡ true → core.state n ≡ states.Up → OtherLocks (recover core n d)
recover_keeps core n d o none lt held p up = record {
  slots = recover_slots core n d o.slots none lt;
  recoveries = recover_recoveries core n d o.recoveries none held p up;
  resync = recover_lock core n d o.resync lt;
  device = recover_device core n d o.device lt;
}

-- one node has a turn
pub one_turn : (core : Core) (n m : ℕ) → ResyncLock core → (core.copy n).turn ≡ Held → (core.copy m).turn ≡ Held → n ≡ m
one_turn core n m s e f = two_ex n m _ _ (s.apart n m) (s.held n ∙ ap turn_held e) (s.held m ∙ ap turn_held f)
  where
    two_ex : (n m : ℕ) (a b : Option Mode) → (n ≢ m → agree a b ≡ true) → a ≡ Some EX → b ≡ Some EX → n ≡ m
    two_ex n m a b e f g = grind (arith, nat_tests)

recovered_slots : (core : Core) (n : ℕ) (r : Recovering) → SlotLocks core → core.recovery n ≡ Some r → r.slot < 16 → n ≢ r.slot → SlotLocks (slot_recovered core n (Some r))
recovered_slots core n r s is lt ne = grind (arith, nat_tests)

recovered_recoveries : (core : Core) (n : ℕ) (r : Recovering) → Recoveries core → core.recovery n ≡ Some r → ((m : ℕ) → m ≢ n → recovers (core.recovery m) r.slot ≡ false) → Recoveries (slot_recovered core n (Some r))
recovered_recoveries core n r s is alone = grind (arith, nat_tests)

recovered_lock : (core : Core) (n : ℕ) (r : Recovering) → ResyncLock core → r.slot < 16 → ResyncLock (slot_recovered core n (Some r))
recovered_lock core n r s lt = grind (arith, nat_tests)

recovered_device : (core : Core) (n : ℕ) (r : Recovering) → DeviceLock core → r.slot < 16 → DeviceLock (slot_recovered core n (Some r))
recovered_device core n r s lt = grind (arith, nat_tests)

itself : (recovery : Option Recovering) (r : Recovering) (n : ℕ) → recovery ≡ Some r → recovers recovery n ≡ false → n ≢ r.slot
itself recovery r n is e = grind (arith, nat_tests)

has_itself : (recovery : Option Recovering) (r : Recovering) → recovery ≡ Some r → recovers recovery r.slot ≡ true
has_itself recovery r is = grind (arith, nat_tests)

alone_in : (core : Core) (n m k : ℕ) → Recoveries core → ResyncLock core → (core.copy n).turn ≡ Held → m ≢ n → recovers (core.recovery m) k ≡ false
alone_in core n m k r s held ne = by_test (recovers (core.recovery m) k) refl
  where
    by_test : (b : Bool) → recovers (core.recovery m) k ≡ b → b ≡ false
    by_test false e = refl
    by_test true e = absurd (ne (one_turn core m n s (r.turn m k e) held))

pub recovered_keeps : (core : Core) (n : ℕ) (r : Recovering) → OtherLocks core → core.recovery n ≡ Some r → r.slot < 16 → OtherLocks (slot_recovered core n (Some r))
recovered_keeps core n r o is lt =
    let held = o.recoveries.turn n r.slot (has_itself _ r is) in
    record {
      slots = recovered_slots core n r o.slots is lt (itself _ r n is (o.recoveries.other n));
      recoveries = recovered_recoveries core n r o.recoveries is (λ m ne. alone_in core n m r.slot o.recoveries o.resync held ne);
      resync = recovered_lock core n r o.resync lt;
      device = recovered_device core n r o.device lt;
    }
