-- All that is known of writes and of stale legs, along some ways.
use Rattle.std.proofs.Common.{◌≡◌, ℕ, ◌==◌, Bool, true, false, if◌then◌else◌, refl}
use Rattle.storage_ways.proofs.Parts.{Part}
use Rattle.storage_ways.proofs.Sound.{Sound}
use Rattle.storage_ways.proofs.Ways.{Way, Ways}
use Rattle.storage_ways.proofs.Ways as ways
use Rattle.laws_writes.proofs.Ghosts.{Ghost, ghost_after}
use Rattle.laws_writes.proofs.Settled.{Since, since_after, Settled}
use Rattle.laws_writes.proofs.ReadNeedSteps.{settled_step}
use Rattle.laws_writes.proofs.Written.{Written, ghost_over, written_way}
use Rattle.laws_recovery.proofs.Ghosts.{Hold, hold_after}
use Rattle.laws_recovery.proofs.Known.{Known}
use Rattle.laws_recovery.proofs.Stale.{Stale}
use Rattle.laws_recovery.proofs.Step.{stale_step}

-- what was settled since is settled by the history
abbrev pub SinceIs : Part → Since → Type 0
SinceIs w z = (n s : ℕ) → z.since n s ≡ true → w.since n s ≡ true

pub record Recovered (w : Part) (g : Ghost) (h : Hold) (z : Since) : Type 0 where
  pub written : Written w g
  pub settled : Settled w z
  pub stale : Stale w g h z
  pub since : SinceIs w z

pub known_of : (w : Part) (g : Ghost) (h : Hold) (z : Since) → Sound w → Recovered w g h z → Known w g h z
known_of w g h z s r = record {
  sound = s;
  bits = r.written.bits;
  windows = r.written.windows;
  contents = r.written.contents;
  pages = r.written.pages;
  intents = r.written.intents;
  settled = r.settled;
  stale = r.stale;
}

keeps : (b c d : Bool) → (c ≡ true → d ≡ true) → (if b then true else c) ≡ true → (if b then true else d) ≡ true
keeps true c d f e = refl
keeps false c d f e = f e

stops : (b c d : Bool) → (c ≡ true → d ≡ true) → (if b then false else c) ≡ true → (if b then false else d) ≡ true
stops true c d f e = cc
stops false c d f e = f e

forgets : (b c d : Bool) → (c ≡ true → d ≡ true) → (if b then false else c) ≡ true → d ≡ true
forgets true c d f e = cc
forgets false c d f e = f e

since_step : (w v : Part) (x : Way w v) (z : Since) → SinceIs w z → SinceIs v (since_after x z)
since_step w v (ways.settles n p b e) z i m s = keeps (s == b.sector) (z.since m s) (w.since m s) (i m s)
since_step w v (ways.recovers_slot n d e) z i m s = stops (m == n) (z.since m s) (w.since m s) (i m s)
since_step w v (ways.dies n told e) z i m s = forgets (m == n) (z.since m s) (w.since m s) (i m s)
since_step w v (ways.parts n o e) z i m s = forgets (m == n) (z.since m s) (w.since m s) (i m s)
since_step w v x z i m s = i m s

pub recovered_way : (w v : Part) (x : Way w v) (g : Ghost) (h : Hold) (z : Since) → Sound w → Recovered w g h z → Recovered v (ghost_after x g) (hold_after x g h) (since_after x z)
recovered_way w v x g h z s r = record {
  written = written_way w v x g s r.written;
  settled = settled_step w v x s g r.written.contents z r.settled;
  stale = stale_step w v x g h z (known_of w g h z s r);
  since = since_step w v x z r.since;
}

-- the ghosts after some ways
abbrev pub hold_over : {w v : Part} → Ways w v → Ghost → Hold → Hold
hold_over ways.none g h = h
hold_over (ways.more xs s x) g h = hold_after x (ghost_over xs g) (hold_over xs g h)

abbrev pub since_over : {w v : Part} → Ways w v → Since → Since
since_over ways.none z = z
since_over (ways.more xs s x) z = since_after x (since_over xs z)

pub recovered_ways : (w v : Part) (xs : Ways w v) (g : Ghost) (h : Hold) (z : Since) → Recovered w g h z → Recovered v (ghost_over xs g) (hold_over xs g h) (since_over xs z)
recovered_ways w v ways.none g h z r = r
recovered_ways w v (ways.more {u = u} xs s x) g h z r = recovered_way u v x (ghost_over xs g) (hold_over xs g h) (since_over xs z) s (recovered_ways w u xs g h z r)
