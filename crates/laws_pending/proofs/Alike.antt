-- While a slot is pending nodes read their first leg, and so they read the same.
use Rattle.std.proofs.Common.{◌≡◌, ℕ, ◌+◌, ◌<◌, true, List, ◌∷◌, ◌++◌, Some, None, refl, sym, ap, subst, ◌∙◌}
use Rattle.std.proofs.Math.Path.{fun_ext}
use Rattle.dlm_modes.proofs.FirstLaws.{first_such_some}
use Rattle.mdc_types.specs.Geometry.{data_offset}
use Rattle.mdc_types.specs.declared.events.Event.TheVariants as events
use Rattle.mdc_types.specs.declared.numbers.Sector.{Sector}
use Rattle.mdc_types.specs.declared.outcomes.Entry.{Entry}
use Rattle.mdc_types.specs.declared.outcomes.Outcome.TheVariants as outcomes
use Rattle.md_superblock.specs.Arrays.{Array}
use Rattle.leg_failure.specs.Views.{works}
use Rattle.plain_history.specs.History.{asked_reads}
use Rattle.read_balance.specs.Choice.{least_leg}
use Rattle.cluster_model.specs.Contents.{SoundOpening}
use Rattle.cluster_model.specs.Opening.{Origin}
use Rattle.cluster_model.specs.Run.{Run, Moves}
use Rattle.cluster_model.specs.State.{State, Legs, sizes}
use Rattle.laws_roles.specs.Laws.{Tells}
use Rattle.laws_roles.proofs.Runs.{array_is}
use Rattle.storage_ways.proofs.Guarding.{works_leg}
use Rattle.storage_ways.proofs.Place.{Place}
use Rattle.storage_ways.proofs.Runs.{around_at, place, legs_tell}
use Rattle.laws_recovery.proofs.Asked.{asked_are}
use Rattle.laws_pending.specs.Reads.{PendingRead, IsFirstLeg, ReadsAgree, IsLeftAlone, RunsReadTheFirstLeg, RunsReadAlike}
use Rattle.laws_pending.proofs.FirstLeg.{Given, given, first_place, pending_first, is_first}
use Rattle.laws_pending.proofs.Untouched.{join, place_is, stays}

module _ (o : Origin) (start : State) (sound : SoundOpening o start) (tells : Tells o start) where
  -- what such a read gave stands on the first leg
  pub record FirstRead (past : List Entry) (at : State) (x : Entry) (after : State) (s : ℕ) (v : Sector) (read : PendingRead past at x after s v) : Type 0 where
    pub leg : least_leg (works (at.core.view read.gives.node)) ≡ Some read.gives.leg
    pub value : v ≡ at.legs.content read.gives.leg (data_offset o.sizes + s)
    pub legs : after.legs ≡ at.legs

  pub first_read : (past : List Entry) (at : State) → Run start past at → (x : Entry) (after : State) (s : ℕ) (v : Sector) (read : PendingRead past at x after s v) → FirstRead past at x after s v read
  first_read past at run x after s v read =
      let n = read.gives.node in
      let l = read.gives.leg in
      let moves = subst (λ e. Moves at e x.outcome after.legs) read.gives.event read.step.moves in
      let g = given at n read.gives.number l v after.legs (subst (λ y. Moves at (events.In n read.gives.number) y after.legs) read.gives.outcome moves) in
      let p = place o start sound.opens tells past at run in
      let asked = sym (ap (λ f. f n read.gives.number) (asked_are o start at past sound.opens run)) ∙ read.gives.asked in
      let to = first_place at.core n read.gives.number s g.transfer asked (pending_first at.core n s read.slot (p.slots read.slot read.pending) read.pending) g.is in
      let leg = to.0 ∙ ap Some g.leg in
      let lt = works_leg at.core (around_at o start sound.opens tells past at) p n l (first_such_some (works (at.core.view n)) 0 8 l leg).passes in
      let told = legs_tell start at past run l ∙ tells.legs l (subst (λ (a : Array). l < a.sizes.legs) (array_is o start at past sound.opens run) lt) in
      record {
        leg = leg;
        value = g.value told ∙ ap (at.legs.content l) (to.1 ∙ place_is o start sound tells past at run s);
        legs = g.legs;
      }

  pub alike : (past : List Entry) (at : State) → Run start past at → ReadsAgree past at
  alike past at run x y after last end between s u v first rest second same alone =
      let one = first_read past at run x after s u first in
      let there : Run start (x ∷ past) after = (at, run, first.step) in
      let two = first_read (between ++ x ∷ past) last (join start after last (x ∷ past) between there rest) y end s v second in
      let leg = same_leg first.gives.leg second.gives.leg (sym one.leg ∙ ap least_leg (fun_ext same) ∙ two.leg) in
      one.value
      ∙ ap (λ (k : Legs). k.content first.gives.leg (data_offset o.sizes + s)) (sym one.legs)
      ∙ sym (stays o start sound tells (x ∷ past) after there between last rest s first.gives.leg alone)
      ∙ ap (λ j. last.legs.content j (data_offset o.sizes + s)) leg
      ∙ sym two.value
    where
      same_leg : (a b : ℕ) → Some a ≡ Some b → a ≡ b
      same_leg a b e = cc

-- The laws.

pub runs_read_the_first_leg : RunsReadTheFirstLeg
runs_read_the_first_leg o start at past sound tells run x after s v read = is_first at.core read.gives.node read.gives.leg (first_read o start sound tells past at run x after s v read).leg

pub runs_read_alike : RunsReadAlike
runs_read_alike o start at past sound tells run = alike o start sound tells past at run
