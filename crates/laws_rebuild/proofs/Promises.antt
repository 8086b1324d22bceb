-- The laws.
use Rattle.std.proofs.Common.{◌≡◌, ◌⊎◌, inl, inr, ℕ, ◌<◌, ◌||◌, Bool, true, false, List, [], ◌∷◌, Some, sym, ap, subst, ◌∙◌, arith}
use Rattle.mdc_types.specs.declared.numbers.Sector.{Sector}
use Rattle.mdc_types.specs.declared.outcomes.Entry.{Entry}
use Rattle.md_superblock.specs.Arrays.{Array}
use Rattle.resync_worker.specs.Copying.{Passing}
use Rattle.plain_history.specs.History.{IsIn, candidates, values_at}
use Rattle.cluster_model.specs.Contents.{SoundOpening}
use Rattle.cluster_model.specs.Opening.{Origin, array_of}
use Rattle.cluster_model.specs.Run.{Run}
use Rattle.cluster_model.specs.Served.{Trusted}
use Rattle.cluster_model.specs.State.{State, sizes}
use Rattle.cluster_model.specs.Stored.{data_on}
use Rattle.laws_roles.specs.Laws.{Tells}
use Rattle.laws_roles.proofs.Parts.{covered_by}
use Rattle.laws_roles.proofs.Promises.{runs_have_roles}
use Rattle.laws_roles.proofs.Runs.{array_is}
use Rattle.laws_writes.proofs.Ghosts.{is_among, same_sector}
use Rattle.laws_writes.proofs.Values.{among_in, in_among}
use Rattle.laws_recovery.specs.Laws.{IsLeft}
use Rattle.laws_recovery.proofs.Promises.{runs_rebuild, runs_serve_no_stale_leg}
use Rattle.laws_recovery.proofs.Values.{same_is}
use Rattle.laws_rebuild.specs.Laws.{HoldsNow, RunsHoldWhatIsSettled, RunsRebuildLegs}
use Rattle.laws_rebuild.specs.Settled.{settled_in_pass, settled_in_window}
use Rattle.laws_rebuild.proofs.Settling.{by_test, fresh_in_pass}
use Rattle.laws_rebuild.proofs.Windows.{in_pass, decided}

or_none : (a : Bool) → (a || false) ≡ true → a ≡ true
or_none a e = grind arith

-- what is among one value is that
only : (u v : Sector) (vs : List Sector) → vs ≡ v ∷ [] → IsIn u vs → u ≡ v
only u v vs e has = same_is u v (or_none (same_sector u v) (ap (λ ws. is_among u ws) (sym e) ∙ in_among u vs has))

-- At a place of a run.
module _ (o : Origin) (start end : State) (past : List Entry) (sound : SoundOpening o start) (tells : Tells o start) (run : Run start past end) where
  array : end.core.array ≡ array_of o
  array = array_is o start end past sound.opens run

  covered : (n l : ℕ) (p : Passing) → (end.core.copy n).pass ≡ Some p → p.covered l ≡ true → covered_by (end.core.copy n).pass l ≡ true
  covered n l p pass cov = ap (λ x. covered_by x l) pass ∙ cov

  holds_here : (n l s : ℕ) → covered_by (end.core.copy n).pass l ≡ true → settled_in_pass o past n s ≡ true → (s < (sizes end.core).room) × HoldsNow o past end l s
  holds_here n l s cov e =
      let is = fresh_in_pass o start sound tells past end run n l s cov e in (
        subst (λ (a : Array). s < a.sizes.room) (sym array) is.0,
        subst (λ (a : Array). IsIn (data_on a.sizes end.legs l s) (candidates (values_at o.base) past s)) (sym array) (among_in _ (candidates (values_at o.base) past s) is.1),
      )

  alike_here : (n l k s : ℕ) → covered_by (end.core.copy n).pass l ≡ true → settled_in_window o past n s ≡ true → k < (sizes end.core).legs → Trusted end k
      → data_on (sizes end.core) end.legs l s ≡ data_on (sizes end.core) end.legs k s
  alike_here n l k s cov e leg trusted =
      let one = decided o start sound tells past end run n s e in
      let here = holds_here n l s cov (in_pass o start sound tells past end run n s e) in
      let there = runs_serve_no_stale_leg o start end past sound tells run k s leg here.0 trusted in
      only _ one.0 (candidates (values_at o.base) past s) one.1 here.1 ∙ sym (only _ one.0 (candidates (values_at o.base) past s) one.1 there)

  copied_here : (n l s : ℕ) → covered_by (end.core.copy n).pass l ≡ true → HoldsNow o past end l s ⊎ IsLeft end s → HoldsNow o past end l s ⊎ ((settled_in_pass o past n s ≡ false) × IsLeft end s)
  copied_here n l s cov (inl now) = inl now
  copied_here n l s cov (inr left) = by_test (settled_in_pass o past n s) (λ t. inl (holds_here n l s cov t).1) (λ f. inr (f, left))

-- The laws.

pub runs_hold_what_is_settled : RunsHoldWhatIsSettled
runs_hold_what_is_settled o start end past sound tells run = record {
  holds = λ n l s p pass cov e. (holds_here o start end past sound tells run n l s (covered o start end past sound tells run n l p pass cov) e).1;
  alike = λ n l k s p pass cov e leg trusted. alike_here o start end past sound tells run n l k s (covered o start end past sound tells run n l p pass cov) e leg trusted;
}

pub runs_rebuild_legs : RunsRebuildLegs
runs_rebuild_legs o start end past sound tells run = record {
  written = λ n m l p up pass cov. (runs_have_roles o start end past sound.opens tells run).covered n m l p up pass cov;
  settled = λ n l s p pass cov e. (holds_here o start end past sound tells run n l s (covered o start end past sound tells run n l p pass cov) (in_pass o start sound tells past end run n s e)).1;
  copied = λ n l s p pass cov lt left. copied_here o start end past sound tells run n l s (covered o start end past sound tells run n l p pass cov)
      ((runs_rebuild o start end past sound tells run).copied n l s p pass cov lt left);
  promoted = λ n l s q offer work lt. (runs_rebuild o start end past sound tells run).promoted n l s q offer work lt;
}
