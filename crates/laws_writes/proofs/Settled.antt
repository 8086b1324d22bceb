-- What an open recovery has read is to be copied, or was settled since.
use Rattle.std.specs.Prelude.{◌≡◌, ℕ, ◌<◌, ◌==◌, Bool, true, false, if◌then◌else◌, is_some}
use Rattle.storage_ways.proofs.Parts.{Part, chunk_in, has_pass, found_in}
use Rattle.storage_ways.proofs.Ways as ways
use Rattle.storage_ways.proofs.Ways.{Way}
use Rattle.laws_writes.proofs.Contents.{is_settled}

pub record Since : Type 0 where
  -- by node and sector: the sector was settled since the node's open recovery began, or since the
  -- node's slot is pending
  pub since : ℕ → ℕ → Bool

abbrev pub with_settled : Since → ℕ → Since
with_settled z t = record { since = λ n s. if s == t then true else z.since n s }

abbrev pub unsettled : Since → ℕ → Since
unsettled z n = record { since = λ m s. if m == n then false else z.since m s }

abbrev pub since_after : {w v : Part} → Way w v → Since → Since
since_after (ways.settles n p b e) z = with_settled z b.sector
since_after (ways.dies n told e) z = unsettled z n
since_after (ways.parts n o e) z = unsettled z n
since_after (ways.recovers_slot n d e) z = unsettled z n
since_after x z = z

-- a recovery settles under a pass
abbrev pub SincePass : Part → Since → Type 0
SincePass w z = (n s : ℕ) → is_some (w.recovery n) ≡ true → z.since n s ≡ true
    → has_pass (w.copy n) ≡ true

abbrev pub SinceSettled : Part → Since → Type 0
SinceSettled w z = (n s : ℕ) → is_some (w.recovery n) ≡ true → is_settled w n s ≡ true
    → z.since n s ≡ true

abbrev pub ReadNeed : Part → Since → Type 0
ReadNeed w z = (n s : ℕ) → s < w.geometry.room → found_in (w.recovery n) (chunk_in w s) ≡ true
    → z.since n s ≡ false → (w.bitmap n).need (chunk_in w s) ≡ true

pub record Settled (w : Part) (z : Since) : Type 0 where
  pub since_pass : SincePass w z
  pub since_settled : SinceSettled w z
  pub read_need : ReadNeed w z
