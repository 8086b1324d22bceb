use Rattle.std.proofs.Common.{◌≡◌, ◌<◌, ℕ, sym, ◌∙◌, map, length, subst}
use Rattle.std.proofs.lemmas.List.{length-map}
use Rattle.cluster_core.proofs.Reaching.{same_sizes}
use Rattle.cluster_core.proofs.world.World.look.Goals as goal

pub read_leg-requires-clause-there : goal.read_leg-requires-clause-there
read_leg-requires-clause-there g c =
    let fits = same_sizes _ c.self.invariant in
    subst (λ (n : ℕ). c.args.l < n) (sym fits.count ∙ length-map c.self.inside.legs.items g.L.LegDev.size) (rw (← c.self.view_is) at c.requires.leg)

pub read_leg-requires-clause-within : goal.read_leg-requires-clause-within
read_leg-requires-clause-within g c =
    let fits = same_sizes _ c.self.invariant in
    subst (λ (n : ℕ). c.args.at < n) (sym (fits.each c.args.l (rw (← c.self.view_is) at c.requires.leg))) (rw (← c.self.view_is) at c.requires.within)
