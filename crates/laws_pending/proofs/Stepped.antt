-- At each step of a run there are ways that change pending slots as its entry tells.
use Rattle.std.proofs.Common.{◌≡◌, ℕ, true, false, List, ◌∷◌, refl}
use Rattle.mdc_types.specs.declared.events.Event.{Event}
use Rattle.mdc_types.specs.declared.events.Event.TheVariants as events
use Rattle.mdc_types.specs.declared.outcomes.Entry.{Entry}
use Rattle.cluster_model.specs.Contents.{Opens}
use Rattle.cluster_model.specs.Opening.{Origin}
use Rattle.cluster_model.specs.Run.{Run, Step}
use Rattle.cluster_model.specs.State.{State}
use Rattle.laws_roles.specs.Laws.{Tells}
use Rattle.storage_ways.proofs.Parts.{Part}
use Rattle.storage_ways.proofs.QuietSteps.{has_transfer}
use Rattle.storage_ways.proofs.Runs.{At, run_ways, run_way, sound}
use Rattle.storage_ways.proofs.Ways.{Ways, one}
use Rattle.storage_ways.specs.Moments.{is_moment}
use Rattle.laws_writes.proofs.Settled.{Since}
use Rattle.laws_recovery.proofs.Recovered.{since_over}
use Rattle.laws_pending.proofs.Ghosts.{Pend}
use Rattle.laws_pending.proofs.Offers.{less, same_moments}
use Rattle.laws_pending.proofs.Owed.{New, new_way, Stays, stays_way, calm_stays}
use Rattle.laws_pending.proofs.Points.{clash, by_test}
use Rattle.laws_pending.proofs.Runs.{pend_over}

-- ways after which, whatever the ghosts were, a slot that became pending is new, and one that was
-- stays
pub record Stepped (w v : Part) : Type 0 where
  pub ways : Ways w v
  pub new : (z : Since) (p : Pend) (d : ℕ) → w.pending d ≡ false → v.pending d ≡ true → New v (since_over ways z) (pend_over ways p) d
  pub stays : (z : Since) (p : Pend) (d : ℕ) → w.pending d ≡ true → Stays v z (since_over ways z) p (pend_over ways p) d

moment_still : (e : Event) → is_moment e ≡ true → has_transfer e ≡ false
moment_still (events.Die n) m = refl
moment_still (events.Offer n wish) m = refl
moment_still (events.FinishRound n) m = refl
moment_still (events.Settle n) m = refl
moment_still e m = cc

module _ (o : Origin) (start : State) (opens : Opens o start) (tells : Tells o start) where
  pub stepped : (past : List Entry) (mid end : State) (x : Entry) → Run start past mid → Step mid x.event x.outcome end → Stepped (At o start opens tells past mid) (At o start opens tells (x ∷ past) end)
  stepped past mid end x run s = by_test (is_moment x.event) moment calm
    where
      w : Part
      w = At o start opens tells past mid

      v : Part
      v = At o start opens tells (x ∷ past) end

      moment : is_moment x.event ≡ true → Stepped w v
      moment m =
          let known = sound o start opens tells past mid run in
          let way = run_way o start opens tells past mid end x (moment_still x.event m) run s in
          record {
            ways = one known way;
            new = λ z p d. new_way w v way z p d;
            stays = λ z p d. stays_way w v way z p d known;
          }

      calm : is_moment x.event ≡ false → Stepped w v
      calm c =
          let xs = run_ways o start opens tells past mid end x run s in
          record {
            ways = xs;
            new = λ z p d was is. absurd (clash (w.pending d) ((less o start opens tells past mid end x run s c).pending d is) was);
            stays = λ z p d pend. calm_stays w v xs z p d (same_moments o start opens tells past mid end x c);
          }
