-- What `no-new-dev` keeps: it is locked, kept, let go, and goes back to CR.
use Rattle.std.proofs.Common.{◌≡◌, ◌≢◌, ℕ, Bool, true, false, Option, Some, refl, ap, ◌∙◌, arith, ◌==◌, if◌then◌else◌}
use Rattle.std.specs.Prelude.{is_none}
use Rattle.std.proofs.lemmas.Bool.Decides.{nat_tests}
use Rattle.dlm_modes.specs.Points.{with_at}
use Rattle.dlm_modes.specs.declared.mode.Mode.{Mode}
use Rattle.dlm_modes.specs.declared.mode.Mode.TheVariants.{CR, EX}
use Rattle.dlm_space.specs.Locks.{Lock, holding, let_go}
use Rattle.dlm_space.specs.Orderly.{agree}
use Rattle.mdc_types.specs.declared.roles.NodeState.{NodeState}
use Rattle.mdc_types.specs.declared.roles.NodeState.TheVariants as states
use Rattle.msg_rounds.specs.Refusals.{is_ex}
use Rattle.msg_rounds.specs.declared.phases.SenderPhase.{SenderPhase}
use Rattle.cluster_model.specs.State.{Core}
use Rattle.cluster_model.specs.Changes.{no_new_dev, device_unlocked}
use Rattle.cluster_model.specs.Processing.{device_lock_kept}
use Rattle.laws_locks.specs.Others.{SlotLocks, may_lock_device, device_fits, DeviceLock, OtherLocks}
use Rattle.laws_locks.proofs.Holders.{apart_hold, apart_none, apart_less}
use Rattle.laws_locks.proofs.Unmoved.{SameElse}

-- the node's hold there changes
abbrev pub device_as : Core → ℕ → Lock → Core
device_as core n lock = record core { locks = with_at core.locks no_new_dev lock }

as_slots : (core : Core) (n : ℕ) (lock : Lock) → SlotLocks core → SlotLocks (device_as core n lock)
as_slots core n lock s = grind (arith, nat_tests)

as_rest : (core : Core) (n : ℕ) (lock : Lock) → OtherLocks core → DeviceLock (device_as core n lock) → OtherLocks (device_as core n lock)
as_rest core n lock o d = record {
  slots = as_slots core n lock o.slots;
  recoveries = record { other = o.recoveries.other; turn = o.recoveries.turn; pending = o.recoveries.pending; out = o.recoveries.out };
  resync = record { held = o.resync.held; apart = o.resync.apart; requests = o.resync.requests; conversions = o.resync.conversions; still = o.resync.still; unclean = o.resync.unclean };
  device = d;
}

pub holds_device : (core : Core) (n : ℕ) (mode : Mode) → OtherLocks core → device_fits (core.state n) (core.sender n) (Some mode) ≡ true → ((m : ℕ) → m ≢ n → agree (Some mode) ((core.locks no_new_dev).held m) ≡ true) → OtherLocks (device_as core n (holding (core.locks no_new_dev) n mode))
holds_device core n mode o fit free = as_rest core n _ o (record {
  fits = λ m. grind (arith, nat_tests, o.device.fits m);
  apart = apart_hold (core.locks no_new_dev).held n (Some mode) o.device.apart free;
  requests = o.device.requests;
  conversions = o.device.conversions;
})

pub lets_device_go : (core : Core) (n : ℕ) → OtherLocks core → core.state n ≡ states.Up → OtherLocks (device_as core n (let_go (core.locks no_new_dev) n))
lets_device_go core n o up = as_rest core n _ o (record {
  fits = λ m. grind (arith, nat_tests, o.device.fits m);
  apart = apart_none (core.locks no_new_dev).held n o.device.apart;
  requests = o.device.requests;
  conversions = rw o.device.conversions refl;
})

ex_is : (held : Option Mode) → is_ex held ≡ true → held ≡ Some EX
ex_is held e = grind arith

ex_up : (state : NodeState) (s : SenderPhase) (held : Option Mode) → device_fits state s held ≡ true → held ≡ Some EX → device_fits state s (Some CR) ≡ true
ex_up state s held f e = grind arith

pub unlocks_device : (core : Core) (n : ℕ) → OtherLocks core → OtherLocks (record core { locks = device_unlocked core.locks n })
unlocks_device core n o = by_test (is_ex ((core.locks no_new_dev).held n)) (ex_is _)
  where
    by_test : (b : Bool) → (b ≡ true → (core.locks no_new_dev).held n ≡ Some EX) → OtherLocks (record core { locks = if b then with_at core.locks no_new_dev (holding (core.locks no_new_dev) n CR) else core.locks })
    by_test false e = o
    by_test true e = as_rest core n (holding (core.locks no_new_dev) n CR) o (record {
      fits = λ m. at m (ex_up _ _ _ (o.device.fits n) (e refl));
      apart = apart_less (core.locks no_new_dev).held n CR o.device.apart (e refl);
      requests = o.device.requests;
      conversions = o.device.conversions;
    })
      where
        at : (m : ℕ) → device_fits (core.state n) (core.sender n) (Some CR) ≡ true → device_fits (core.state m) (core.sender m) (with_at (core.locks no_new_dev).held n (Some CR) m) ≡ true
        at m f = grind (arith, nat_tests, o.device.fits m)

pub keeps_device : (core : Core) (n : ℕ) → OtherLocks core → core.state n ≡ states.Up → ((m : ℕ) → m ≢ n → agree (Some CR) ((core.locks no_new_dev).held m) ≡ true) → OtherLocks (record core { locks = device_lock_kept core.locks n })
keeps_device core n o up free = by_test (is_none ((core.locks no_new_dev).held n))
  where
    by_test : (b : Bool) → OtherLocks (record core { locks = if b then with_at core.locks no_new_dev (holding (core.locks no_new_dev) n CR) else core.locks })
    by_test false = o
    by_test true = holds_device core n CR o (rw up refl) free

-- then the node holds no EX there
pub unlocked_not : (locks : ℕ → Lock) (n : ℕ) → (device_unlocked locks n no_new_dev).held n ≡ Some EX → ⊥
unlocked_not locks n e = by_test (is_ex ((locks no_new_dev).held n)) refl e
  where
    by_test : (b : Bool) → is_ex ((locks no_new_dev).held n) ≡ b → ((if b then with_at locks no_new_dev (holding (locks no_new_dev) n CR) else locks) no_new_dev).held n ≡ Some EX → ⊥
    by_test true t e = grind (arith, nat_tests)
    by_test false t e = let yes : is_ex ((locks no_new_dev).held n) ≡ true = ap is_ex e in absurd (no_both _ t yes)
      where
        no_both : (b : Bool) → b ≡ false → b ≡ true → ⊥
        no_both b e f = grind arith

-- on other locks that are the same it does the same
pub unlocked_else : (now locks : ℕ → Lock) (n : ℕ) → SameElse now locks → SameElse (device_unlocked now n) (device_unlocked locks n)
unlocked_else now locks n same r f =
    ap (λ (l : Lock). (if is_ex (l.held n) then with_at now no_new_dev (holding l n CR) else now) r) (same no_new_dev refl)
    ∙ by_test (is_ex ((locks no_new_dev).held n))
  where
    by_test : (b : Bool) → (if b then with_at now no_new_dev (holding (locks no_new_dev) n CR) else now) r ≡ (if b then with_at locks no_new_dev (holding (locks no_new_dev) n CR) else locks) r
    by_test true = ap (λ (l : Lock). if r == no_new_dev then holding (locks no_new_dev) n CR else l) (same r f)
    by_test false = same r f

pub agrees_cr : (state : NodeState) (s : SenderPhase) (held : Option Mode) → device_fits state s held ≡ true → may_lock_device s ≡ false → agree (Some CR) held ≡ true
agrees_cr state s held f e = grind arith
