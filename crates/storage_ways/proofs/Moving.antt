-- What the moves are of an event, and what stands on the legs after them.
use Rattle.std.proofs.Common.{◌≡◌, ℕ, ◌+◌, Bool, true, false, if◌then◌else◌, List, Option, Some, None, refl, sym, ap, subst, ◌∙◌}
use Rattle.mdc_types.specs.declared.events.Event.{Event}
use Rattle.mdc_types.specs.declared.events.Event.TheVariants as events
use Rattle.mdc_types.specs.declared.numbers.Sector.{Sector}
use Rattle.mdc_types.specs.declared.outcomes.Outcome.{Outcome}
use Rattle.mdc_types.specs.declared.outcomes.Outcome.TheVariants as outcomes
use Rattle.md_superblock.specs.Arrays.{Says}
use Rattle.dlm_space.specs.declared.ask.Ask.{Ask}
use Rattle.plain_history.specs.History.{PlainWrite, values_step}
use Rattle.resync_worker.specs.declared.buffer.Buffer.{Buffer}
use Rattle.cluster_model.specs.State.{State, Core, Legs, sizes}
use Rattle.cluster_model.specs.After.{after, done}
use Rattle.cluster_model.specs.Copying.{buffer_of, settled_with}
use Rattle.cluster_model.specs.Failures.{failure}
use Rattle.cluster_model.specs.Granting.{asker}
use Rattle.cluster_model.specs.Outcomes.{outcome_of, outcome_read, granted_to}
use Rattle.cluster_model.specs.Phases.{is_metadata}
use Rattle.cluster_model.specs.Run.{Moves, Quiet, Written, Read, Failed, Left, Gives, put}
use Rattle.cluster_model.specs.Stored.{data_on}
use Rattle.cluster_model.specs.Transfers.{Transfer, transfer_of}
use Rattle.laws_roles.proofs.OtherRows.{is_failed}
use Rattle.laws_roles.proofs.Parts as roles
use Rattle.laws_roles.proofs.Parts.{supers, ghost_after}
use Rattle.storage_ways.specs.Since.{since_step}
use Rattle.storage_ways.specs.Moments.{moments_step}
use Rattle.storage_ways.specs.Broken.{broken_step}
use Rattle.storage_ways.proofs.Flying.{flying}
use Rattle.storage_ways.proofs.Parts.{Part, bits_on}
use Rattle.storage_ways.proofs.Place.{Around, here}
use Rattle.storage_ways.proofs.Ways.{Ways}

-- what the entries tell: the values of sectors, where writes were broken, what was settled since, and
-- how many of them may offer, end a round, make a slot pending or settle
pub record Traced : Type 0 where
  pub values : ℕ → List Sector
  pub broken : ℕ → ℕ → Bool
  pub since : ℕ → ℕ → Bool
  pub moments : ℕ

-- what stands on these legs
abbrev pub around : Core → Legs → roles.Ghost → Traced → Around
around core legs g t = record {
  super = supers core.array legs;
  bit = bits_on (sizes core) legs;
  stored = data_on (sizes core) legs;
  ghost = g;
  values = t.values;
  broken = t.broken;
  since = t.since;
  moments = t.moments;
}

-- what the entries tell, after one more
abbrev pub traced : Event → Outcome → (ℕ → ℕ → Option PlainWrite) → Traced → Traced
traced e o writes t = record { values = values_step e o writes t.values; broken = broken_step e o writes t.broken; since = since_step e o t.since; moments = moments_step e t.moments }

-- and after an event
abbrev pub next : State → roles.Ghost → Traced → Event → Outcome → Legs → Around
next old g t e o new = around old.core new (ghost_after old.core e g) (traced e o (flying old.core.writes) t)

-- Moves of an event that transfers nothing, that reads, and that writes.

pub record Quiets (old : State) (e : Event) (o : Outcome) (new : Legs) : Type 0 where
  pub is : o ≡ outcome_of old.core e
  pub legs : new ≡ old.legs

pub quiet_of : (old : State) (e : Event) (o : Outcome) (new : Legs) → transfer_of old.core e ≡ None → Moves old e o new → Quiets old e o new
quiet_of old e o new none (Quiet nothing is legs) = record { is = is; legs = legs }
quiet_of old e o new none (Written t v at value path done legs) = cc
quiet_of old e o new none (Read t v at value path gives is legs) = cc
quiet_of old e o new none (Failed t at is legs) = cc
quiet_of old e o new none (Left t v at value path is legs) = cc

pub data Reads (old : State) (e : Event) (t : Transfer) (o : Outcome) (new : Legs) : Type 0 where
  reads : (v : Sector) → Gives old.legs t.leg t.place v → o ≡ outcome_read old.core e t v → new ≡ old.legs → Reads old e t o new
  fails : o ≡ failure old.core e t → new ≡ old.legs → Reads old e t o new

pub reads_of : (old : State) (e : Event) (t : Transfer) (o : Outcome) (new : Legs) → transfer_of old.core e ≡ Some t → t.value ≡ None → Moves old e o new → Reads old e t o new
reads_of old e t o new at none (Quiet nothing is legs) = absurd (cc)
reads_of old e t o new at none (Written u w also value path done legs) = let same : t ≡ u = cc in absurd (cc)
reads_of old e t o new at none (Read u w also value path gives is legs) =
    let same : u ≡ t = cc in
    reads w (subst (λ (x : Transfer). Gives old.legs x.leg x.place w) same gives) (is ∙ ap (λ (x : Transfer). outcome_read old.core e x w) same) legs
reads_of old e t o new at none (Failed u also is legs) = let same : u ≡ t = cc in fails (is ∙ ap (failure old.core e) same) legs
reads_of old e t o new at none (Left u w also value path is legs) = let same : t ≡ u = cc in absurd (cc)

pub data Puts (old : State) (e : Event) (t : Transfer) (v : Sector) (o : Outcome) (new : Legs) : Type 0 where
  well : o ≡ outcomes.Done → new ≡ put old.legs t.leg t.place v → Puts old e t v o new
  ill : o ≡ failure old.core e t → new ≡ old.legs → Puts old e t v o new
  left : o ≡ failure old.core e t → new ≡ put old.legs t.leg t.place v → Puts old e t v o new

put_there : (legs : Legs) (t u : Transfer) (v w : Sector) (new : Legs) → u ≡ t → w ≡ v → new ≡ put legs u.leg u.place w → new ≡ put legs t.leg t.place v
put_there legs t u v w new same v_is e = e ∙ ap (λ (x : Transfer). put legs x.leg x.place w) same ∙ ap (put legs t.leg t.place) v_is

pub puts_of : (old : State) (e : Event) (t : Transfer) (v : Sector) (o : Outcome) (new : Legs) → transfer_of old.core e ≡ Some t → t.value ≡ Some v → Moves old e o new → Puts old e t v o new
puts_of old e t v o new at has (Quiet nothing is legs) = absurd (cc)
puts_of old e t v o new at has (Written u w also value path done legs) =
    let same : u ≡ t = cc in
    let v_is : w ≡ v = cc in
    well done (put_there old.legs t u v w new same v_is legs)
puts_of old e t v o new at has (Read u w also value path gives is legs) = let same : t ≡ u = cc in absurd (cc)
puts_of old e t v o new at has (Failed u also is legs) = let same : u ≡ t = cc in ill (is ∙ ap (failure old.core e) same) legs
puts_of old e t v o new at has (Left u w also value path is legs) =
    let same : u ≡ t = cc in
    let v_is : w ≡ v = cc in
    left (is ∙ ap (failure old.core e) same) (put_there old.legs t u v w new same v_is legs)

-- Outcomes.

granted_well : (x : Option Ask) → is_failed (granted_to x) ≡ false
granted_well None = refl
granted_well (Some a) = refl

either_well : (b : Bool) (o p : Outcome) → is_failed o ≡ false → is_failed p ≡ false → is_failed (if b then o else p) ≡ false
either_well true o p e f = e
either_well false o p e f = f

settled_well : (x : Option Buffer) → is_failed (settled_with x) ≡ false
settled_well None = refl
settled_well (Some b) = refl

pub quiet_well : (core : Core) (e : Event) → is_failed (outcome_of core e) ≡ false
quiet_well core (events.Grant res) = granted_well (asker core res)
quiet_well core (events.Offer n wish) = either_well (is_metadata wish) (outcomes.Events (core.members.drawn + 1)) outcomes.Done refl refl
quiet_well core (events.Resume n) = either_well (core.receiver n).gone outcomes.Broken outcomes.Whole refl refl
quiet_well core (events.Settle n) = settled_well (buffer_of core n)
quiet_well core e = refl

pub done_when : (core : Core) (e : Event) (o : Outcome) → is_failed o ≡ false → after core e o ≡ done core e o
done_when core e (outcomes.Lost l) f = cc
done_when core e (outcomes.Io l) f = cc
done_when core e (outcomes.Unreached l) f = cc
done_when core e o f = refl

-- From what an outcome and legs are to what they are equal to.

pub moved : (old : State) (g : roles.Ghost) (t : Traced) (e : Event) (w : Part) (o was : Outcome) (new legs : Legs) → o ≡ was → new ≡ legs
    → Ways w (here (after old.core e was) (next old g t e was legs)) → Ways w (here (after old.core e o) (next old g t e o new))
moved old g t e w o was new legs is same xs =
    subst (λ x. Ways w (here (after old.core e x) (next old g t e x new))) (sym is)
    (subst (λ x. Ways w (here (after old.core e was) (next old g t e was x))) (sym same) xs)

-- what stands there is what is equal to it
pub standing_so : (w : Part) (core : Core) (s t : ℕ → Option Says) (b c : ℕ → ℕ → ℕ → Bool) (d f : ℕ → ℕ → Sector) (g : roles.Ghost) (tr : Traced) → s ≡ t → b ≡ c → d ≡ f
    → Ways w (here core (record { super = t; bit = c; stored = f; ghost = g; values = tr.values; broken = tr.broken; since = tr.since; moments = tr.moments })) → Ways w (here core (record { super = s; bit = b; stored = d; ghost = g; values = tr.values; broken = tr.broken; since = tr.since; moments = tr.moments }))
standing_so w core s t b c d f g tr e h i xs =
    subst (λ x. Ways w (here core (record { super = x; bit = b; stored = d; ghost = g; values = tr.values; broken = tr.broken; since = tr.since; moments = tr.moments }))) (sym e)
    (subst (λ x. Ways w (here core (record { super = t; bit = x; stored = d; ghost = g; values = tr.values; broken = tr.broken; since = tr.since; moments = tr.moments }))) (sym h)
    (subst (λ x. Ways w (here core (record { super = t; bit = c; stored = x; ghost = g; values = tr.values; broken = tr.broken; since = tr.since; moments = tr.moments }))) (sym i) xs))
