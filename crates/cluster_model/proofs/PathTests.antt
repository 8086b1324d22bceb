-- Paths and grants: for each guard a state in which just it fails, and what is said then.
use Rattle.std.proofs.Common.{◌≡◌, [], ◌∷◌, Some, refl}
use Rattle.dlm_modes.specs.First.{first_such}
use Rattle.mdc_types.specs.declared.events.Event.TheVariants.{Cut, Mend, Grant}
use Rattle.mdc_types.specs.declared.refusals.Refusal.TheVariants.{NoNode, NoLeg, NothingAsked, NotGrantable}
use Rattle.mdc_types.specs.declared.resources.Res.TheVariants as resources
use Rattle.dlm_space.specs.Locks.{new_lock}
use Rattle.dlm_space.specs.Queues.{ask_for}
use Rattle.dlm_modes.specs.declared.mode.Mode.TheVariants.{EX}
use Rattle.cluster_model.specs.Table.{guards}
use Rattle.cluster_model.proofs.Small.{failing, if_at, base}

no_node : failing (guards base (Cut 9 0)) ≡ (NoNode 9) ∷ []
unfolding first_such
no_node = refl

no_leg : failing (guards base (Mend 0 5)) ≡ (NoLeg 5) ∷ []
unfolding first_such
no_leg = refl

nothing_asked : failing (guards base (Grant resources.Token)) ≡ (NothingAsked resources.Token) ∷ []
unfolding first_such
nothing_asked = refl

never_asked : failing (guards base (Grant resources.NoNewDev)) ≡ (NothingAsked resources.NoNewDev) ∷ []
unfolding first_such
never_asked = refl

not_grantable : failing (guards (record base { locks = λ r. record new_lock { held = λ n. if_at n 1 (Some EX); requests = ask_for 0 EX ∷ [] } }) (Grant resources.Token)) ≡ (NotGrantable 1 EX) ∷ []
unfolding first_such
not_grantable = refl
