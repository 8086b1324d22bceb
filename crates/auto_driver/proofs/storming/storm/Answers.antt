use Rattle.std.proofs.Common.{◌≡◌, ◌+◌, ◌<◌, ◌≤◌, ℕ, Some, None, Err, refl, ap, sym, subst, ◌∙◌, arith}
use Rattle.driver_rules.specs.Storms.{turn, cut_after}
use Rattle.world_state.specs.Kept.{Kept, core_of}
use Rattle.cluster_core.specs.World.{Seen}
use Rattle.cluster_core.specs.Stands.{Stand, stand, FindsFull}
use Rattle.cluster_core.specs.declared.world.StepEnd.TheVariants.{TraceFull}
use Rattle.storm_turns.specs.Choosing.{name_of}
use Rattle.auto_driver.specs.declared.counting.Summary.{Summary}
use Rattle.auto_driver.specs.Storming.{Storm, Storms, Tries, Happens}
use Rattle.auto_driver.proofs.Stormy.{storms_below, below-more, turn_more, turn_full}
use Rattle.auto_driver.proofs.storming.storm.Goals.{in-Some+in-Ok, in-None}
use Rattle.auto_driver.proofs.storming.storm.Goals as goal

pub try_event-requires : goal.try_event-requires
try_event-requires g c =
    let below = storms_below c.args.k c.args.seed c.loop-i.i (stand c.args.world.now) _ c.loop-i.invariant.storms in
    let fits = c.ranges.k.fits in
    below-more (c.loop-i.i + 1) 4294967295 c.loop-i.counts below (omega (arith, fits))

pub returns-in-Err-clause-full : goal.returns-in-Err-clause-full
returns-in-Err-clause-full g c = λ is.
    let why : c.in-Err.why ≡ TraceFull = cc in
    let found = c.try_event.ensures.full (c.in-Err.is ∙ ap Err why) in
    let event : Some c.in-Some.e ≡ (turn (core_of c.loop-i.world.kept) c.loop-i.i c.loop-i.x c.loop-i.cut (name_of c.named-name.result)).event =
    sym c.in-Some.is ∙ c.turn-drawn.ensures.event ∙ ap (λ (k : Kept). (turn (core_of k) c.loop-i.i c.loop-i.x c.loop-i.cut (name_of c.named-name.result)).event) c.core.ensures.kept in
    turn_full c.args.k c.args.seed c.loop-i.i (stand c.args.world.now) (stand c.try_event.new.world) (record { at = stand c.loop-i.world; seed = c.loop-i.x; cut = c.loop-i.cut; counts = c.loop-i.counts }) c.named-name.result c.in-Some.e
    (omega arith) c.loop-i.invariant.storms c.named-name.ensures event (sym found.0) (subst (λ (s : Stand). FindsFull s c.in-Some.e) (sym found.0) found.1)

pub loop-i-preserved : goal.loop-i-preserved
loop-i-preserved g c =
    let old : Storm = record { at = stand c.loop-i.world; seed = c.loop-i.x; cut = c.loop-i.cut; counts = c.loop-i.counts } in
    let new : Storm = record { at = stand c.match-drawn.world; seed = c.turn-drawn.result.seed; cut = c.cut_after-cut.result; counts = c.match-drawn.counts } in
    let event_is : c.turn-drawn.result.event ≡ (turn (core_of c.loop-i.world.kept) c.loop-i.i c.loop-i.x c.loop-i.cut (name_of c.named-name.result)).event =
    c.turn-drawn.ensures.event ∙ ap (λ (k : Kept). (turn (core_of k) c.loop-i.i c.loop-i.x c.loop-i.cut (name_of c.named-name.result)).event) c.core.ensures.kept in
    let seed_is : c.turn-drawn.result.seed ≡ (turn (core_of c.loop-i.world.kept) c.loop-i.i c.loop-i.x c.loop-i.cut (name_of c.named-name.result)).seed =
    c.turn-drawn.ensures.seed ∙ ap (λ (k : Kept). (turn (core_of k) c.loop-i.i c.loop-i.x c.loop-i.cut (name_of c.named-name.result)).seed) c.core.ensures.kept in
    let cut_is : c.cut_after-cut.result ≡ cut_after (core_of c.loop-i.world.kept) c.loop-i.cut (name_of c.named-name.result) =
    c.cut_after-cut.ensures ∙ ap (λ (k : Kept). cut_after (core_of k) c.loop-i.cut (name_of c.named-name.result)) c.core-in-loop-i.ensures.kept in
    elim c.match-drawn.branch [
      | in-Some+in-Ok w ↦
          let tries = subst (λ (s : Summary). Tries w.in-Some.e old.at old.counts (stand w.try_event.new.world) s) (sym w.counts-is) w.in-Ok.ensures.ok in
          let happens = subst (λ (s : Seen). Tries w.in-Some.e old.at old.counts (stand s) c.match-drawn.counts) (sym w.world-is) tries in
          record {
            storms = turn_more c.args.k c.args.seed c.loop-i.i (stand c.args.world.now) old new c.named-name.result (Some w.in-Some.e) c.turn-drawn.result.seed c.loop-i.invariant.storms c.named-name.ensures (sym w.in-Some.is ∙ event_is) seed_is happens refl cut_is;
            origin = ap (λ (s : Seen). s.origin) w.world-is ∙ w.try_event.ensures.origin ∙ c.loop-i.invariant.origin;
          }
      | in-None w ↦
          record {
            storms = turn_more c.args.k c.args.seed c.loop-i.i (stand c.args.world.now) old new c.named-name.result None c.turn-drawn.result.seed c.loop-i.invariant.storms c.named-name.ensures (sym w.in-None.is ∙ event_is) seed_is (ap (λ (s : Seen). stand s) w.world-is, w.counts-is) refl cut_is;
            origin = ap (λ (s : Seen). s.origin) w.world-is ∙ c.loop-i.invariant.origin;
          }
    ]

pub returns-clause-ok : goal.returns-clause-ok
returns-clause-ok g c =
    let storm : Storm = record { at = stand c.loop-i.world; seed = c.loop-i.x; cut = c.loop-i.cut; counts = c.loop-i.counts } in
    let all : c.loop-i.i ≡ c.args.k = omega arith in
    record {
      storm = storm;
      storms = subst (λ j. Storms c.args.k c.args.seed j (stand c.args.world.now) storm) all c.loop-i.invariant.storms;
      ends = refl;
      counted = refl;
    }
