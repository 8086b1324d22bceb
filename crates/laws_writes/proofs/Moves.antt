-- How a node's copying moves in each way.
use Rattle.std.proofs.Common.{◌≡◌, ℕ, ◌<◌, ◌==◌, ◌&&◌, if◌then◌else◌, Bool, true, false, Option, Some, None, option_map, refl, sym, ap, ap₂, subst, ◌∙◌, arith}
use Rattle.std.specs.Prelude.{nat_lt}
use Rattle.dlm_modes.specs.Points.{with_at}
use Rattle.mdc_types.specs.Geometry.{Sizes, chunks_of}
use Rattle.mdc_types.specs.Roles.{role_of, is_rebuilding}
use Rattle.mdc_types.specs.declared.numbers.Sector.{Sector}
use Rattle.leg_failure.specs.Views.{NodeView, new_view, finished, taken as view_taken}
use Rattle.resync_worker.specs.Copying.{Passing, filled, copied, settled_at, begun, restarted, covering_only}
use Rattle.resync_worker.specs.declared.buffer.Buffer.{Buffer}
use Rattle.suspend_ranges.specs.Suspended.{entry_of}
use Rattle.cluster_model.specs.Changes.{no_copy, covering, window_closed}
use Rattle.cluster_model.specs.State.{Copy, Asked, Held}
use Rattle.cluster_model.specs.Copying.{next_for}
use Rattle.storage_ways.proofs.Parts.{Part, reached_in, buffer_in, tells_range, with_data}
use Rattle.storage_ways.proofs.Sound.{Sound}
use Rattle.storage_ways.proofs.Ways.{Way, Fills, Copies, Settles}
use Rattle.storage_ways.proofs.Ways as ways
use Rattle.laws_writes.proofs.Windows.{Windows}
use Rattle.laws_writes.proofs.Flights.{is_same, same_nat}

-- the sector is settled at the node in this way
abbrev pub Settling : {w v : Part} → Way w v → ℕ → ℕ → Type 0
Settling (ways.settles n p b e) a s = (a ≡ n) × (s ≡ b.sector)
Settling x a s = ⊥

-- Is says of the sector that is settled, if one is; and afterwards the legs hold what is stored
pub data Move (g : Sizes) (stored : ℕ → ℕ → Sector) (c d : Copy) (Is : ℕ → Type 0) : Type 0 where
  keeps : d.pass ≡ c.pass → d.window ≡ c.window → Move g stored c d Is
  covers : (legs : ℕ → Bool) → d.pass ≡ option_map (λ p. covering_only p legs) c.pass → d.window ≡ c.window → Move g stored c d Is
  -- nothing is reached, and there is no buffer
  restarts : reached_in d.pass ≡ 0 → buffer_in d.pass ≡ None → Move g stored c d Is
  opens : c.window ≡ None → d.pass ≡ c.pass → Move g stored c d Is
  fills : (s l : ℕ) (v : Sector) (p : Passing) → c.pass ≡ Some p → d.pass ≡ Some (filled p s v l) → d.window ≡ c.window → next_for g c.pass c.window ≡ Some s → stored l s ≡ v → Move g stored c d Is
  copies : (l : ℕ) (p : Passing) (b : Buffer) → c.pass ≡ Some p → p.buffer ≡ Some b → stored l b.sector ≡ b.value → d.pass ≡ Some (copied p l) → d.window ≡ c.window → Move g stored c d Is
  settles : (p : Passing) (b : Buffer) → c.pass ≡ Some p → p.buffer ≡ Some b → b.sector < g.room → Is b.sector → d.pass ≡ Some (settled_at g p b) → d.window ≡ c.window → Move g stored c d Is

at_one : {A : Type 0} (P : ℕ → A → Type 0) (f : ℕ → A) (n a : ℕ) (c : A) → P n c → P a (f a) → P a (with_at f n c a)
at_one P f n a c new old = by (a == n) refl
  where
    by : (b : Bool) → (a == n) ≡ b → P a (if b then c else f a)
    by true t = subst (λ m. P m c) (sym (is_same a n t)) new
    by false t = old

moved : (w : Part) (stored : ℕ → ℕ → Sector) (Is : ℕ → ℕ → Type 0) (n : ℕ) (d : Copy) → Move w.geometry stored (w.copy n) d (Is n) → (a : ℕ) → Move w.geometry stored (w.copy a) (with_at w.copy n d a) (Is a)
moved w stored Is n d m a = at_one (λ k e. Move w.geometry stored (w.copy k) e (Is k)) w.copy n a d m (keeps refl refl)

covered : (w : Part) (stored : ℕ → ℕ → Sector) (Is : ℕ → ℕ → Type 0) (n : ℕ) (v : NodeView) (a : ℕ) → Move w.geometry stored (w.copy a) (with_at w.copy n (covering (w.copy n) v) a) (Is a)
covered w stored Is n v = moved w stored Is n (covering (w.copy n) v) (covers (λ l. is_rebuilding (v.role l)) refl refl)

gone : (w : Part) (stored : ℕ → ℕ → Sector) (Is : ℕ → ℕ → Type 0) (n a : ℕ) → Move w.geometry stored (w.copy a) (with_at w.copy n no_copy a) (Is a)
gone w stored Is n = moved w stored Is n no_copy (restarts refl refl)

closed : (w : Part) (stored : ℕ → ℕ → Sector) (Is : ℕ → ℕ → Type 0) (n a : ℕ) → Move w.geometry stored (w.copy a) (with_at w.copy n (window_closed (w.copy n)) a) (Is a)
closed w stored Is n = moved w stored Is n (window_closed (w.copy n)) (by (w.copy n).pass refl)
  where
    by : (o : Option Passing) → (w.copy n).pass ≡ o → Move w.geometry stored (w.copy n) (window_closed (w.copy n)) (Is n)
    by None is = restarts (ap (λ o. reached_in (option_map restarted o)) is) (ap (λ o. buffer_in (option_map restarted o)) is)
    by (Some p) is = restarts (ap (λ o. reached_in (option_map restarted o)) is) (ap (λ o. buffer_in (option_map restarted o)) is)

passes : (w : Part) (stored : ℕ → ℕ → Sector) (Is : ℕ → ℕ → Type 0) (n : ℕ) (todo legs : ℕ → Bool) (a : ℕ) → Move w.geometry stored (w.copy a) (with_at w.copy n (record (w.copy n) { pass = Some (begun todo legs) }) a) (Is a)
passes w stored Is n todo legs = moved w stored Is n (record (w.copy n) { pass = Some (begun todo legs) }) (restarts refl refl)

abbrev Nothing : ℕ → ℕ → Type 0
Nothing a s = ⊥

pub data_there : (stored : ℕ → ℕ → Sector) (l s : ℕ) (v : Sector) → with_data stored l s v l s ≡ v
data_there stored l s v = ap₂ (λ x y. if x && y then v else stored l s) (same_nat l) (same_nat s)

pub moves : (w v : Part) (x : Way w v) → Sound w → Windows w → (a : ℕ) → Move w.geometry v.stored (w.copy a) (v.copy a) (Settling x a)
moves w v (ways.shuts n r o told p b) sound win a = closed w w.stored Nothing n a
moves w v (ways.opens n r o z is) sound win a =
    moved w w.stored Nothing n (record (w.copy n) { window = entry_of r }) (opens (win.range_shut n told) refl) a
  where
    told : tells_range w n ≡ true
    told = grind (arith, z.published, z.offer, is)
moves w v (ways.finishes n o z meta) sound win a = covered w w.stored Nothing n (finished (w.view n) o.role o.size) a
moves w v (ways.hears_roles n roles size o h meta same) sound win a = covered w w.stored Nothing n (view_taken (w.view n) (role_of roles) size) a
moves w v (ways.comes n j says lost ranges z) sound win a = covered w w.stored Nothing n (new_view (role_of says.roles) says.size lost) a
moves w v (ways.leaves n p) sound win a = gone w w.stored Nothing n a
moves w v (ways.quits n p) sound win a = gone w w.stored Nothing n a
moves w v (ways.parts n o p) sound win a = gone w w.stored Nothing n a
moves w v (ways.dies n told p) sound win a = gone w w.stored Nothing n a
moves w v (ways.turns n up not_asked stays) sound win a = moved w w.stored Nothing n (record (w.copy n) { turn = Asked }) (keeps refl refl) a
moves w v (ways.holds_turn n up asked free) sound win a = moved w w.stored Nothing n (record (w.copy n) { turn = Held }) (keeps refl refl) a
moves w v (ways.passes_own n p) sound win a = passes w w.stored Nothing n (w.bitmap n).need (λ l. false) a
moves w v (ways.passes_full n p) sound win a = passes w w.stored Nothing n (λ c. nat_lt c (chunks_of w.geometry)) (λ l. is_rebuilding ((w.view n).role l)) a
moves w v (ways.passes_again n l p) sound win a = passes w w.stored Nothing n (w.adding n).gathering.gathered (λ k. k == l) a
moves w v (ways.fills n s l y p r f) sound win a =
    moved w w.stored Nothing n (record (w.copy n) { pass = option_map (λ q. filled q s y l) (w.copy n).pass })
    (fills s l y p f.pass (ap (option_map (λ q. filled q s y l)) f.pass) refl (ap₂ (next_for w.geometry) f.pass f.window ∙ f.next) (sym f.value)) a
moves w v (ways.copies n l p b z) sound win a =
    moved w (with_data w.stored l b.sector b.value) Nothing n (record (w.copy n) { pass = option_map (λ q. copied q l) (w.copy n).pass })
    (copies l p b z.buffers.pass z.buffers.buffer (data_there w.stored l b.sector b.value) (ap (option_map (λ q. copied q l)) z.buffers.pass) refl) a
moves w v (ways.settles n p b e) sound win a =
    moved w w.stored (λ a s. (a ≡ n) × (s ≡ b.sector)) n (record (w.copy n) { pass = option_map (λ q. settled_at w.geometry q b) (w.copy n).pass })
    (settles p b e.buffers.pass e.buffers.buffer e.buffers.sector (refl, refl) (ap (option_map (λ q. settled_at w.geometry q b)) e.buffers.pass) refl) a
moves w v (ways.ends_pass n e) sound win a = gone w w.stored Nothing n a
moves w v x sound win a = keeps refl refl

pub same_geometry : (w v : Part) → Way w v → v.geometry ≡ w.geometry
same_geometry w v ways.still = refl
same_geometry w v x = refl
