-- Along each run over legs that tell: what is known at each place, and that each step is made of ways.
use Rattle.std.proofs.Common.{◌≡◌, inl, inr, ℕ, ◌<◌, ◌≤◌, ◌^◌, ◌&&◌, Bool, true, false, List, [], ◌∷◌, sym, ap, subst, ◌∙◌, arith, nat_lt, if◌then◌else◌}
use Rattle.std.proofs.lemmas.Bool.{cases_lt}
use Rattle.std.proofs.lemmas.Bool.Decides.{nat_tests}
use Rattle.std.proofs.lemmas.Nat.Bits.{bit_at_above}
use Rattle.mdc_types.specs.Bits.{has_bit}
use Rattle.mdc_types.specs.Geometry.{Sizes, chunks_of, nodes_of}
use Rattle.mdc_types.specs.declared.outcomes.Entry.{Entry}
use Rattle.md_superblock.specs.Arrays.{Array}
use Rattle.plain_history.specs.History.{candidates, values_at}
use Rattle.cluster_model.specs.State.{State, Legs, sizes}
use Rattle.cluster_model.specs.After.{after}
use Rattle.cluster_model.specs.Contents.{Opens}
use Rattle.cluster_model.specs.Opening.{Origin, array_of}
use Rattle.cluster_model.specs.Run.{Run, Step, Moves, Quiet, Written, Read, Failed, Left}
use Rattle.cluster_model.specs.Stored.{bit_on, data_on}
use Rattle.laws_locks.proofs.OtherRuns.{other_locks_hold}
use Rattle.laws_locks.proofs.Runs.{run_is}
use Rattle.laws_roles.specs.Laws.{Tells}
use Rattle.laws_roles.proofs.Known.{known}
use Rattle.laws_roles.proofs.Parts as roles
use Rattle.laws_roles.proofs.Parts.{supers, ghost_after, ghost_in}
use Rattle.laws_roles.proofs.Runs as role_runs
use Rattle.laws_roles.proofs.Runs.{array_is, holds}
use Rattle.laws_roles.proofs.Standing.{Bytes}
use Rattle.storage_ways.specs.Since.{since_in}
use Rattle.storage_ways.specs.Moments.{moments_in}
use Rattle.storage_ways.specs.Broken.{broken_in}
use Rattle.storage_ways.proofs.Flying.{flying, live_are}
use Rattle.storage_ways.proofs.KeptSteps.{Kept, kept_ways}
use Rattle.storage_ways.proofs.Moving.{Traced, traced, around, next}
use Rattle.storage_ways.proofs.Parts.{Part, bits_on}
use Rattle.storage_ways.proofs.Place.{Around, here, Place, sound_of}
use Rattle.storage_ways.proofs.Sound.{Sound}
use Rattle.storage_ways.proofs.Steps.{move_ways}
use Rattle.storage_ways.proofs.QuietSteps.{has_transfer, quiet_way}
use Rattle.storage_ways.proofs.Ways.{Way, Ways}

-- legs tell as at the start

told_move : (old : State) (e : _) (o : _) (new : Legs) → Moves old e o new → (l : ℕ) → new.told l ≡ old.legs.told l
told_move old e o new (Quiet nothing is legs) l = ap (λ (x : Legs). x.told l) legs
told_move old e o new (Written t v at value path done legs) l = ap (λ (x : Legs). x.told l) legs
told_move old e o new (Read t v at value path gives is legs) l = ap (λ (x : Legs). x.told l) legs
told_move old e o new (Failed t at is legs) l = ap (λ (x : Legs). x.told l) legs
told_move old e o new (Left t v at value path is legs) l = ap (λ (x : Legs). x.told l) legs

pub legs_tell : (start end : State) (past : List Entry) → Run start past end → (l : ℕ) → end.legs.told l ≡ start.legs.told l
legs_tell start end [] run l = ap (λ (s : State). s.legs.told l) run
legs_tell start end (x ∷ past) run l = told_move run.0 x.event x.outcome end.legs run.2.moves l ∙ legs_tell start run.0 past run.1 l

-- bits that stand are those of chunks and slots that there are

both : (a b : Bool) → (a && b) ≡ true → (a ≡ true) × (b ≡ true)
both a b e = grind arith

first_of_three : (a b c : Bool) → (a && b && c) ≡ true → a ≡ true
first_of_three a b c e = grind arith

below_by : (n k : ℕ) → nat_lt n k ≡ true → n < k
below_by n k e = grind (arith, nat_tests)

stands_in : (g : Sizes) (legs : Legs) (k c l : ℕ) → bits_on g legs k c l ≡ true → (c < chunks_of g) × (k < nodes_of g)
stands_in g legs k c l e =
    let t = both (nat_lt k (nodes_of g)) (bit_on g legs k c l) e in
    (below_by c (chunks_of g) (first_of_three (nat_lt c (chunks_of g)) _ _ t.1), below_by k (nodes_of g) t.0)

-- pending slots at the opening are those of nodes

few_nodes : (second : Bool) → (if second then 16 else 8) ≤ 16
few_nodes true = omega arith
few_nodes false = omega arith

bit_below : (set k n : ℕ) → set < 2 ^ k → has_bit set n ≡ true → n < k
bit_below set k n small e = elim (cases_lt n k) [
  | inl lt ↦ lt
  | inr past ↦ let no : has_bit set n ≡ false = grind (arith, nat_tests, bit_at_above set k n small past) in absurd (not_both (has_bit set n) e no)
]
  where
    not_both : (b : Bool) → b ≡ true → b ≡ false → ⊥
    not_both b e f = cc

-- what stands on the legs of an array
abbrev pub around_on : Array → Legs → roles.Ghost → Traced → Around
around_on array legs g t = record {
  super = supers array legs;
  bit = bits_on array.sizes legs;
  stored = data_on array.sizes legs;
  ghost = g;
  values = t.values;
  broken = t.broken;
  since = t.since;
  moments = t.moments;
}

module _ (o : Origin) (start : State) (opens : Opens o start) (tells : Tells o start) where
  abbrev pub home : ℕ
  home = role_runs.home o start opens tells

  -- what the entries tell
  abbrev pub traced_in : List Entry → Traced
  traced_in past = record { values = candidates (values_at o.base) past; broken = broken_in past; since = since_in past; moments = moments_in past }

  abbrev pub around_at : List Entry → State → Around
  around_at past end = around_on (array_of o) end.legs (ghost_in o home past) (traced_in past)

  abbrev pub At : List Entry → State → Part
  At past end = here end.core (around_at past end)

  place_from : (past : List Entry) (end : State) → Run start past end → Kept (At past end) → Place end.core (around_at past end)
  place_from past end run k =
      let h = holds o start opens tells past end run in
      let array = array_is o start end past opens run in
      record {
        known = known o start end past opens run;
        others = other_locks_hold o start end past opens.origin opens.core run;
        numbers = h.numbers;
        roles = h.roles;
        additions = h.additions;
        sources = h.sources;
        pass = k.pass;
        slots = k.slots;
        bits = λ n c l e. subst (λ (a : Array). c < chunks_of a.sizes) (sym array) (stands_in o.sizes end.legs n c l e).0;
        bit_slots = λ n c l e. subst (λ (a : Array). n < nodes_of a.sizes) (sym array) (stands_in o.sizes end.legs n c l e).1;
      }

  place_there : (past : List Entry) (mid : State) → Run start past mid → Place mid.core (around_at past mid) → Place mid.core (around mid.core mid.legs (ghost_in o home past) (traced_in past))
  place_there past mid run p = subst (λ (a : Array). Place mid.core (around_on a mid.legs (ghost_in o home past) (traced_in past))) (sym (array_is o start mid past opens run)) p

  -- what leads from the part at the step's start to that at its end, does so along the run
  carried : (P : Part → Part → Type 0) (past : List Entry) (mid end : State) (x : Entry) → Run start past mid → Step mid x.event x.outcome end
      → P (here mid.core (around mid.core mid.legs (ghost_in o home past) (traced_in past))) (here (after mid.core x.event x.outcome) (next mid (ghost_in o home past) (traced_in past) x.event x.outcome end.legs))
      → P (At past mid) (At (x ∷ past) end)
  carried P past mid end x run s w =
      let array = array_is o start mid past opens run in
      let g = ghost_in o home past in
      let vs = traced_in past in
      let leads = (run_is o start opens.core past mid run).leads in
      let live = live_are o start mid past opens run in
      subst (λ c. P (At past mid) (here end.core (around_on (array_of o) end.legs (ghost_after c x.event g) (traced_in (x ∷ past))))) leads
      (subst (λ f. P (At past mid) (here end.core (around_on (array_of o) end.legs (ghost_after mid.core x.event g) (traced x.event x.outcome f vs)))) (sym live)
      (subst (λ c. P (At past mid) (here c (around_on (array_of o) end.legs (ghost_after mid.core x.event g) (traced x.event x.outcome (flying mid.core.writes) vs)))) (sym s.core)
      (subst (λ (a : Array). P (here mid.core (around_on a mid.legs g vs)) (here (after mid.core x.event x.outcome) (around_on a end.legs (ghost_after mid.core x.event g) (traced x.event x.outcome (flying mid.core.writes) vs)))) array w)))

  ways_from : (past : List Entry) (mid end : State) (x : Entry) → Run start past mid → Step mid x.event x.outcome end → Place mid.core (around_at past mid) → Ways (At past mid) (At (x ∷ past) end)
  ways_from past mid end x run s p =
      let array = array_is o start mid past opens run in
      let bytes : Bytes mid.core.array = subst Bytes (sym array) (record { name = tells.name; uuid = tells.uuid }) in
      let told : (j : ℕ) → j < (sizes mid.core).legs → mid.legs.told j ≡ true
      = λ j lt. legs_tell start mid past run j ∙ tells.legs j (subst (λ (a : Array). j < a.sizes.legs) array lt) in
      carried Ways past mid end x run s (move_ways mid (ghost_in o home past) (traced_in past) (place_there past mid run p) bytes told x.event x.outcome end.legs s.accepted s.moves)

  first_kept : Kept (At [] start)
  first_kept =
      subst (λ c. Kept (here c (around_at [] start))) (sym opens.core)
      (record {
        pass = λ n e. cc;
        slots = λ d e. let lt = bit_below o.pending (nodes_of o.sizes) d opens.origin.pending e in let few = few_nodes o.sizes.second in omega (arith, lt, few);
      })

  kept_at : (past : List Entry) (end : State) → Run start past end → Kept (At past end)
  kept_at [] end run = subst (λ s. Kept (At [] s)) (sym run) first_kept
  kept_at (x ∷ past) end run =
      let k = kept_at past run.0 run.1 in
      kept_ways (At past run.0) (At (x ∷ past) end) (ways_from past run.0 end x run.1 run.2 (place_from past run.0 run.1 k)) k

  -- what is known at each place
  pub place : (past : List Entry) (end : State) → Run start past end → Place end.core (around_at past end)
  place past end run = place_from past end run (kept_at past end run)

  pub sound : (past : List Entry) (end : State) → Run start past end → Sound (At past end)
  sound past end run = sound_of end.core (around_at past end) (place past end run)

  -- each step is made of ways, each from a sound part
  pub run_ways : (past : List Entry) (mid end : State) (x : Entry) → Run start past mid → Step mid x.event x.outcome end → Ways (At past mid) (At (x ∷ past) end)
  run_ways past mid end x run s = ways_from past mid end x run s (place past mid run)

  -- of an event that transfers nothing, one way alone
  pub run_way : (past : List Entry) (mid end : State) (x : Entry) → has_transfer x.event ≡ false → Run start past mid → Step mid x.event x.outcome end → Way (At past mid) (At (x ∷ past) end)
  run_way past mid end x q run s =
      carried Way past mid end x run s (quiet_way mid (ghost_in o home past) (traced_in past) (place_there past mid run (place past mid run)) x.event x.outcome end.legs q s.accepted s.moves)
