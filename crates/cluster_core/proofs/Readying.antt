-- What the laws of all runs tell of a world.
use Rattle.std.proofs.Common.{◌≡◌, ◌<◌, ◌≤◌, ◌-◌, ◌^◌, ℕ, length, arith}
use Rattle.laws_rounds.specs.News.{ToldRoundsGoOn}
use Rattle.laws_locks.proofs.Runs.{rounds_follow}
use Rattle.laws_locks.proofs.OtherRuns.{other_locks_hold, nothing_is_blocked, only_up}
use Rattle.laws_sound.proofs.Runs.{runs_are_in_range, runs_keep_a_leg, messages_are_read, offers_are_written, transfers_are_on_legs}
use Rattle.laws_sound.proofs.Counts.{runs_are_counted}
use Rattle.world_state.specs.Kept.{core_of}
use Rattle.world_state.specs.Ready.{Ready}
use Rattle.cluster_core.specs.World.{Seen, Reachable, state, trace_limit}

pub ready : ToldRoundsGoOn → (seen : Seen) → Reachable seen → Ready (core_of seen.kept)
ready told seen r =
    let o = seen.origin in
    let end = state seen in
    let counted = runs_are_counted o r.start end seen.past r.opens r.run in
    record {
      range = runs_are_in_range o r.start end seen.past r.opens r.run;
      leg = runs_keep_a_leg o r.start end seen.past r.opens r.run;
      messages = messages_are_read o r.start end seen.past r.opens r.run;
      supers = offers_are_written o r.start end seen.past r.opens r.run;
      on_legs = transfers_are_on_legs o r.start end seen.past r.opens r.run;
      writes_left = λ n. omega (arith, counted.writes n, r.few);
      reads_left = λ n. omega (arith, counted.reads n, r.few);
      rounded = (rounds_follow told o r.start end seen.past r.opens.origin r.opens.core r.run).rounded;
      others = other_locks_hold o r.start end seen.past r.opens.origin r.opens.core r.run;
      unblocked = nothing_is_blocked o r.start end seen.past r.opens.origin r.opens.core r.run;
      up_only = only_up o r.start end seen.past r.opens.origin r.opens.core r.run;
    }
