-- The slot that answers for the open writes of a sector, and where its bit stands.
use Rattle.std.specs.Prelude.{◌≡◌, ℕ, ◌+◌, ◌*◌, ◌<◌, Bool, true, false, ◌||◌, ◌&&◌}
use Rattle.mdc_types.specs.Geometry.{page_of, pages_of}
use Rattle.cluster_model.specs.Gathering.{is_again_of}
use Rattle.storage_ways.proofs.Parts.{Part, chunk_in, write_of, writes_at, has_started, todo, covers, recovers, found_in}
use Rattle.laws_writes.proofs.Ghosts.{Ghost, undecided}

-- the place of a slot's page with the chunk in the order of gathering
abbrev pub place_of : Part → ℕ → ℕ → ℕ
place_of w k c = k * pages_of w.geometry + page_of c

abbrev pub is_gathered : Part → ℕ → ℕ → Bool
is_gathered w n c = (w.adding n).gathering.gathered c

-- the page of slot k with chunk c was gathered by node n
abbrev pub IsPast : Part → ℕ → ℕ → ℕ → Type 0
IsPast w n k c = place_of w k c < (w.adding n).gathering.next

abbrev pub Keeper : Part → Ghost → Type 0
Keeper w g = (s : ℕ) → undecided g s ≡ true
    → (w.live (g.keeper s) || w.pending (g.keeper s)) ≡ true

abbrev pub KeeperBit : Part → Ghost → Type 0
KeeperBit w g = (s l : ℕ) → undecided g s ≡ true → w.ghost.good l ≡ true
    → w.bit (g.keeper s) (chunk_in w s) l ≡ true

-- a live keeper needs the chunk, or its write of the sector that started last is live
abbrev pub KeeperNeed : Part → Ghost → Type 0
KeeperNeed w g = (s : ℕ) → undecided g s ≡ true → w.live (g.keeper s) ≡ true
    → ((w.bitmap (g.keeper s)).need (chunk_in w s)
    || (writes_at (write_of w (g.keeper s) (g.number s)) s
    && has_started (write_of w (g.keeper s) (g.number s)))) ≡ true

abbrev pub KeeperRead : Part → Ghost → Type 0
KeeperRead w g = (s m : ℕ) → undecided g s ≡ true → recovers (w.recovery m) (g.keeper s) ≡ true
    → found_in (w.recovery m) (chunk_in w s) ≡ true → (w.bitmap m).need (chunk_in w s) ≡ true

abbrev pub CoveredIntent : Part → Ghost → Type 0
CoveredIntent w g = (n l s : ℕ) → covers w n l ≡ true → todo w n (chunk_in w s) ≡ false
    → undecided g s ≡ true → w.bit (g.keeper s) (chunk_in w s) l ≡ true

abbrev pub AgainIntent : Part → Ghost → Type 0
AgainIntent w g = (n l s : ℕ) → is_again_of (w.adding n).addition l ≡ true → undecided g s ≡ true
    → is_gathered w n (chunk_in w s) ≡ false → IsPast w n (g.keeper s) (chunk_in w s)
    → w.bit (g.keeper s) (chunk_in w s) l ≡ true

pub record Intents (w : Part) (g : Ghost) : Type 0 where
  pub keeper : Keeper w g
  pub keeper_bit : KeeperBit w g
  pub keeper_need : KeeperNeed w g
  pub keeper_read : KeeperRead w g
  pub covered_intent : CoveredIntent w g
  pub again_intent : AgainIntent w g
