-- The ways of passes, by the legs that they cover.
use Rattle.std.proofs.lemmas.Bool.Decides.{nat_tests}
use Rattle.std.specs.Prelude.{option_map}
use Rattle.std.proofs.Common.{◌==◌, ◌||◌, arith, ◌≡◌, ℕ, Bool, true, false, Option, Some, None, refl, subst}
use Rattle.dlm_modes.specs.Points.{with_at}
use Rattle.mdc_types.specs.declared.numbers.Sector.{Sector}
use Rattle.md_superblock.specs.Arrays.{Says}
use Rattle.msg_rounds.specs.declared.phases.SenderPhase.TheVariants as senders
use Rattle.leg_failure.specs.Views.{unacked_leg}
use Rattle.resync_worker.specs.Copying.{Passing, filled, copied, settled_at}
use Rattle.resync_worker.specs.declared.buffer.Buffer.{Buffer}
use Rattle.cluster_model.specs.State.{Core}
use Rattle.laws_sound.proofs.Guarded.{all_none, unless_none, refused_none}
use Rattle.mdc_types.specs.Geometry.{Sizes}
use Rattle.mdc_types.specs.Roles.{is_rebuilding}
use Rattle.mdc_types.specs.declared.refusals.Refusal.TheVariants.{Unacked}
use Rattle.msg_rounds.specs.Refusals.{is_offered}
use Rattle.dlm_modes.specs.Guards.{first_of}
use Rattle.cluster_model.specs.Gathering.{is_again_of}
use Rattle.cluster_model.specs.Passes.{pass_guards, pass_full, pass_again_guards, pass_again}
use Rattle.cluster_model.specs.Phases.{is_up}
use Rattle.laws_roles.proofs.Parts.{covered_by, Ghost, part_of}
use Rattle.laws_roles.proofs.WishGuards.{all_known}
use Rattle.laws_roles.proofs.Ways.{passes_over, Ways, one}
use Rattle.laws_roles.proofs.Known.{Known}

pub fill_covers : (p : Option Passing) (s : ℕ) (v : Sector) (l j : ℕ) → covered_by (option_map (λ x. filled x s v l) p) j ≡ true → covered_by p j ≡ true
fill_covers None s v l j e = e
fill_covers (Some p) s v l j e = e

pub copy_covers : (p : Option Passing) (l j : ℕ) → covered_by (option_map (λ x. copied x l) p) j ≡ true → covered_by p j ≡ true
copy_covers None l j e = e
copy_covers (Some p) l j e = e

pub settle_covers : (z : Sizes) (p : Option Passing) (b : Buffer) (j : ℕ) → covered_by (option_map (λ x. settled_at z x b) p) j ≡ true → covered_by p j ≡ true
settle_covers z None b j e = e
settle_covers z (Some p) b j e = e

pub voided_not : (core : Core) (n : ℕ) → is_offered (with_at core.sender n senders.MessageHeld n) ≡ false
voided_not core n = let e : (n == n) ≡ true = grind (arith, nat_tests) in rw e refl

or_left : (a b : Bool) → a ≡ true → (a || b) ≡ true
or_left a b e = grind arith

or_right : (a b : Bool) → b ≡ true → (a || b) ≡ true
or_right a b e = grind arith

same_as : (f : ℕ → Bool) (l j : ℕ) → (j == l) ≡ true → f l ≡ true → f j ≡ true
same_as f l j e w = let same : l ≡ j = grind (arith, nat_tests) in subst (λ x. f x ≡ true) same w

pub full_way : (core : Core) → Known core → (sup : ℕ → Option Says) (g : Ghost) (n : ℕ) → first_of (pass_guards core n) ≡ None → Ways (part_of core sup g) (part_of (pass_full core n) sup g)
full_way core k sup g n ok =
    let a = (all_none (pass_guards core n) ok).1.1.1 in
    let up = unless_none (is_up (core.state n)) _ a.0 in
    let known = all_known core k n (refused_none Unacked (unacked_leg (core.view n)) a.1.1.0) in
    one (passes_over n _ up (λ l e. known l) (λ l e. or_left (is_rebuilding ((core.view n).role l)) (is_again_of (core.adding n).addition l) e))

pub again_way : (core : Core) → Known core → (sup : ℕ → Option Says) (g : Ghost) (n l : ℕ) → first_of (pass_again_guards core n l) ≡ None → Ways (part_of core sup g) (part_of (pass_again core n l) sup g)
again_way core k sup g n l ok =
    let a = (all_none (pass_again_guards core n l) ok).1.1.1 in
    let up = unless_none (is_up (core.state n)) _ a.1.0 in
    let known = all_known core k n (refused_none Unacked (unacked_leg (core.view n)) a.1.1.1.1.0) in
    let again = unless_none (is_again_of (core.adding n).addition l) _ a.1.1.1.0 in
    one (passes_over n _ up (λ j e. known j) (λ j e. or_right (is_rebuilding ((core.view n).role j)) (is_again_of (core.adding n).addition j) (same_as (is_again_of (core.adding n).addition) l j e again)))
