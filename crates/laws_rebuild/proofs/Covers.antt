-- While a node has a pass, that covers no leg that it didn't cover before.
use Rattle.std.proofs.Common.{◌≡◌, ℕ, Bool, true, false, Option, Some, None, sym, ap, subst}
use Rattle.std.specs.Prelude.{is_some, option_map}
use Rattle.dlm_modes.specs.Points.{with_at}
use Rattle.mdc_types.specs.declared.events.Event.{Event}
use Rattle.mdc_types.specs.declared.events.Event.TheVariants as events
use Rattle.mdc_types.specs.declared.numbers.Sector.{Sector}
use Rattle.mdc_types.specs.declared.outcomes.Outcome.{Outcome}
use Rattle.mdc_types.specs.declared.outcomes.Outcome.TheVariants as outcomes
use Rattle.msg_rounds.specs.declared.phases.SenderPhase.{SenderPhase}
use Rattle.msg_rounds.specs.declared.phases.SenderPhase.TheVariants as senders
use Rattle.node_recovery.specs.Progress.{Recovering}
use Rattle.resync_worker.specs.Copying.{Passing, restarted, filled, copied, settled_at, covering_only}
use Rattle.cluster_model.specs.After.{after, done, after_loss, after_miss, with_super}
use Rattle.cluster_model.specs.Changes.{voided, headed}
use Rattle.cluster_model.specs.Copying.{filled_with, next_sector, buffer_of, buffer_sector, with_pass}
use Rattle.cluster_model.specs.Failures.{tried, request_failed, slot_failed}
use Rattle.cluster_model.specs.Gathering.{page_gathered, due_page}
use Rattle.cluster_model.specs.Reads.{end_read, read_sector}
use Rattle.cluster_model.specs.Recovering.{page_found, page_cleared}
use Rattle.cluster_model.specs.State.{Core, Copy}
use Rattle.cluster_model.specs.Transfers.{Transfer, transfer_of}
use Rattle.cluster_model.specs.Writes.{write_sector}
use Rattle.mirror_io.specs.Flight.{write_in, read_in}
use Rattle.laws_roles.proofs.Parts.{covered_by}
use Rattle.storage_ways.proofs.Parts.{Part, has_pass, covers}
use Rattle.storage_ways.proofs.QuietSteps.{has_transfer}
use Rattle.storage_ways.proofs.Ways as ways
use Rattle.storage_ways.proofs.Ways.{Way}
use Rattle.laws_writes.proofs.Points.{at_point, and_left, clash}

-- By one way.

mapped : (f : Passing → Passing) (x : Option Passing) (l : ℕ) → ((p : Passing) → (f p).covered l ≡ true → p.covered l ≡ true) → covered_by (option_map f x) l ≡ true → covered_by x l ≡ true
mapped f None l back e = e
mapped f (Some p) l back e = back p e

-- where a node changes how it copies
copy_at : (copy : ℕ → Copy) (n m l : ℕ) (y : Copy) → (covered_by y.pass l ≡ true → covered_by (copy n).pass l ≡ true) → covered_by (with_at copy n y m).pass l ≡ true → covered_by (copy m).pass l ≡ true
copy_at copy n m l y back = at_point (λ x. covered_by x.pass l ≡ true → covered_by (copy m).pass l ≡ true) copy n y m
    (λ is e. subst (λ j. covered_by (copy j).pass l ≡ true) (sym is) (back e)) (λ apart e. e)

-- where a node without a pass begins one
begun_at : (copy : ℕ → Copy) (n m l : ℕ) (y : Copy) → (copy n).pass ≡ None → has_pass (copy m) ≡ true → covered_by (with_at copy n y m).pass l ≡ true → covered_by (copy m).pass l ≡ true
begun_at copy n m l y gone has = at_point (λ x. covered_by x.pass l ≡ true → covered_by (copy m).pass l ≡ true) copy n y m
    (λ is e. absurd (clash (has_pass (copy n)) (subst (λ j. has_pass (copy j) ≡ true) is has) (ap is_some gone))) (λ apart e. e)

covering_less : (legs : ℕ → Bool) (x : Option Passing) (l : ℕ) → covered_by (option_map (λ p. covering_only p legs) x) l ≡ true → covered_by x l ≡ true
covering_less legs x l = mapped (λ p. covering_only p legs) x l (λ p e. and_left (p.covered l) (legs l) e)

no_cover : {A : Type 0} → false ≡ true → A
no_cover e = cc

pub covers_before : (w v : Part) (x : Way w v) (m l : ℕ) → has_pass (w.copy m) ≡ true → covers v m l ≡ true → covers w m l ≡ true
covers_before w v (ways.shuts n r o told e same) m l has = copy_at w.copy n m l _ (mapped restarted (w.copy n).pass l (λ p c. c))
covers_before w v (ways.opens n r o e wish) m l has = copy_at w.copy n m l _ (λ c. c)
covers_before w v (ways.finishes n o e meta) m l has = copy_at w.copy n m l _ (covering_less _ (w.copy n).pass l)
covers_before w v (ways.hears_roles n roles size o e meta same) m l has = copy_at w.copy n m l _ (covering_less _ (w.copy n).pass l)
covers_before w v (ways.comes n k says lost ranges e) m l has = copy_at w.copy n m l _ (covering_less _ (w.copy n).pass l)
covers_before w v (ways.leaves n e) m l has = copy_at w.copy n m l _ no_cover
covers_before w v (ways.quits n e) m l has = copy_at w.copy n m l _ no_cover
covers_before w v (ways.parts n o e) m l has = copy_at w.copy n m l _ no_cover
covers_before w v (ways.dies n told e) m l has = copy_at w.copy n m l _ no_cover
covers_before w v (ways.turns n up turn stays) m l has = copy_at w.copy n m l _ (λ c. c)
covers_before w v (ways.holds_turn n up turn alone) m l has = copy_at w.copy n m l _ (λ c. c)
covers_before w v (ways.passes_own n e) m l has = begun_at w.copy n m l _ e.pass has
covers_before w v (ways.passes_full n e) m l has = begun_at w.copy n m l _ e.pass has
covers_before w v (ways.passes_again n k e) m l has = begun_at w.copy n m l _ e.passes.pass has
covers_before w v (ways.fills n s i u p r e) m l has = copy_at w.copy n m l _ (mapped (λ q. filled q s u i) (w.copy n).pass l (λ q c. c))
covers_before w v (ways.copies n i p b e) m l has = copy_at w.copy n m l _ (mapped (λ q. copied q i) (w.copy n).pass l (λ q c. c))
covers_before w v (ways.settles n p b e) m l has = copy_at w.copy n m l _ (mapped (λ q. settled_at w.geometry q b) (w.copy n).pass l (λ q c. c))
covers_before w v (ways.ends_pass n e) m l has = copy_at w.copy n m l _ no_cover
covers_before w v x m l has = λ e. e

-- By an event that transfers a sector, which begins no pass.

abbrev Less : Core → Core → Type 0
Less core new = (m l : ℕ) → covered_by (new.copy m).pass l ≡ true → covered_by (core.copy m).pass l ≡ true

voided_less : (core : Core) (n : ℕ) (s : SenderPhase) → Less core (voided core n s)
voided_less core n senders.Offered m l e = e
voided_less core n s m l e = e

lost_less : (core : Core) (x : Option Transfer) → Less core (after_loss core x)
lost_less core None m l e = e
lost_less core (Some t) m l e = voided_less core t.node (core.sender t.node) m l e

missed_less : (core : Core) (x : Option Transfer) → Less core (after_miss core x)
missed_less core None m l e = e
missed_less core (Some t) m l e = voided_less core t.node (core.sender t.node) m l e

slot_less : (core : Core) (p i : ℕ) (x : Option Recovering) → Less core (slot_failed core p i x)
slot_less core p i None m l e = e
slot_less core p i (Some r) m l e = e

tried_less : (core : Core) (ev : Event) → Less core (tried core ev)
tried_less core (events.Out n k i) m l e = e
tried_less core (events.WritePage n p i) m l e = e
tried_less core (events.SlotOut n p i) m l e = slot_less core p i (core.recovery n) m l e
tried_less core ev m l e = e

failed_less : (core : Core) (ev : Event) → Less core (request_failed core ev)
failed_less core (events.Out n k i) m l e = e
failed_less core (events.In n k) m l e = e
failed_less core ev m l e = e

headed_less : (core : Core) (n i : ℕ) (x : Option ℕ) → Less core (headed core n i x)
headed_less core n i None m l e = e
headed_less core n i (Some s) m l e = e

pass_less : (core : Core) (n : ℕ) (f : Passing → Passing) → ((p : Passing) (l : ℕ) → (f p).covered l ≡ true → p.covered l ≡ true) → Less core (with_pass core n f)
pass_less core n f back m l e = copy_at core.copy n m l _ (mapped f (core.copy n).pass l (λ p c. back p l c)) e

super_less : (core : Core) (n i : ℕ) (o : Outcome) → Less core (with_super core n i o)
super_less core n i (outcomes.Super number v) m l e = e
super_less core n i o m l e = e

gathered_less : (core : Core) (n : ℕ) (x : Option (ℕ × ℕ)) (v : Sector) → Less core (page_gathered core n x v)
gathered_less core n None v m l e = e
gathered_less core n (Some due) v m l e = e

filled_less : (core : Core) (n i : ℕ) (x : Option ℕ) (v : Sector) → Less core (filled_with core n x i v)
filled_less core n i None v m l e = e
filled_less core n i (Some s) v m l e = pass_less (headed core n i (Some s)) n (λ p. filled p s v i) (λ p k c. c) m l e

found_less : (core : Core) (n p i : ℕ) (x : Option Recovering) (v : Sector) → Less core (page_found core n x p i v)
found_less core n p i None v m l e = e
found_less core n p i (Some r) v m l e = e

cleared_less : (core : Core) (n p i : ℕ) (x : Option Recovering) → Less core (page_cleared core n x p i)
cleared_less core n p i None m l e = e
cleared_less core n p i (Some r) m l e = e

in_less : (core : Core) (n k : ℕ) (o : Outcome) → Less core (done core (events.In n k) o)
in_less core n k (outcomes.Value i v) m l e = headed_less (end_read core n k) n i (read_sector (read_in k (core.reads n))) m l e
in_less core n k o m l e = e

gather_less : (core : Core) (n : ℕ) (o : Outcome) → Less core (done core (events.Gather n) o)
gather_less core n (outcomes.Page v) m l e = gathered_less core n (due_page core n) v m l e
gather_less core n o m l e = e

copy_in_less : (core : Core) (n : ℕ) (o : Outcome) → Less core (done core (events.CopyIn n) o)
copy_in_less core n (outcomes.Value i v) m l e = filled_less core n i (next_sector core n) v m l e
copy_in_less core n o m l e = e

copy_out_less : (core : Core) (n i : ℕ) (x : Option ℕ) → Less core (with_pass (headed core n i x) n (λ p. copied p i))
copy_out_less core n i None m l e = pass_less core n (λ p. copied p i) (λ p k c. c) m l e
copy_out_less core n i (Some s) m l e = pass_less (headed core n i (Some s)) n (λ p. copied p i) (λ p k c. c) m l e

slot_in_less : (core : Core) (n p i : ℕ) (o : Outcome) → Less core (done core (events.SlotIn n p i) o)
slot_in_less core n p i (outcomes.Page v) m l e = found_less core n p i (core.recovery n) v m l e
slot_in_less core n p i o m l e = e

done_less : (core : Core) (ev : Event) (o : Outcome) → has_transfer ev ≡ true → Less core (done core ev o)
done_less core (events.Load n i) o t m l e = super_less core n i o m l e
done_less core (events.WriteSuper n i) o t m l e = e
done_less core (events.WritePage n p i) o t m l e = e
done_less core (events.Out n k i) o t m l e = headed_less core n i (write_sector (write_in k (core.writes n))) m l e
done_less core (events.In n k) o t m l e = in_less core n k o m l e
done_less core (events.Gather n) o t m l e = gather_less core n o m l e
done_less core (events.CopyIn n) o t m l e = copy_in_less core n o m l e
done_less core (events.CopyOut n i) o t m l e = copy_out_less core n i (buffer_sector (buffer_of core n)) m l e
done_less core (events.SlotIn n p i) o t m l e = slot_in_less core n p i o m l e
done_less core (events.SlotOut n p i) o t m l e = cleared_less core n p i (core.recovery n) m l e
done_less core ev o t m l e = cc

pub covered_before : (core : Core) (ev : Event) (o : Outcome) → has_transfer ev ≡ true → (m l : ℕ) → covered_by ((after core ev o).copy m).pass l ≡ true → covered_by (core.copy m).pass l ≡ true
covered_before core ev (outcomes.Lost i) t m l e = tried_less core ev m l (lost_less (tried core ev) (transfer_of core ev) m l e)
covered_before core ev (outcomes.Io i) t m l e = tried_less core ev m l (failed_less (tried core ev) ev m l e)
covered_before core ev (outcomes.Unreached i) t m l e = missed_less core (transfer_of core ev) m l e
covered_before core ev o t m l e = done_less core ev o t m l e
