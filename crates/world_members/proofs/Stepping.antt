-- What comes of the single changes of a row, one after another.
use Rattle.std.proofs.Common.{◌≡◌, ◌==◌, ◌&&◌, ◌||◌, ℕ, Bool, true, false, not, Option, Some, None, refl, ap, ◌∙◌, arith, if◌then◌else◌}
use Rattle.std.specs.Prelude.{is_none}
use Rattle.std.proofs.Math.Path.{fun_ext}
use Rattle.dlm_modes.specs.Points.{with_at}
use Rattle.mdc_types.specs.declared.events.Event.TheVariants.{Load, Resume}
use Rattle.mdc_types.specs.declared.numbers.Range.{Range}
use Rattle.mdc_types.specs.declared.numbers.Sector.{Sector}
use Rattle.mdc_types.specs.declared.outcomes.Outcome.{Outcome}
use Rattle.mdc_types.specs.declared.outcomes.Outcome.TheVariants.{Broken, Whole}
use Rattle.mdc_types.specs.declared.roles.NodeState.TheVariants.{Loaded}
use Rattle.dlm_space.specs.Locks.{Lock}
use Rattle.leg_store.specs.Paths.{Paths, path_open, cut_path, mend_path}
use Rattle.leg_failure.specs.Views.{NodeView}
use Rattle.cluster_msgs.specs.declared.msg.Msg.{Msg}
use Rattle.cluster_msgs.specs.declared.msg.Body.{Body}
use Rattle.cluster_msgs.specs.declared.msg.Body.TheVariants as bodies
use Rattle.cluster_model.specs.State.{Core}
use Rattle.cluster_model.specs.After.{after, tried_as}
use Rattle.cluster_model.specs.Changes.{no_new_dev, sender_idle, node_out, with_view}
use Rattle.cluster_model.specs.Joining.{loaded, newest, view_from, range_of_member, up}
use Rattle.cluster_model.specs.Outcomes.{load_outcome}
use Rattle.md_superblock.specs.Arrays.{Says, says_in}
use Rattle.world_state.specs.Told.{has_failed}
use Rattle.cluster_model.specs.Leaving.{die}
use Rattle.cluster_model.specs.Processing.{device_lock_kept, do_body, do_message}
use Rattle.cluster_model.specs.Receiving.{told_state, resume, resume_outcome}
use Rattle.world_members.specs.Changes.{in_state, tries_over, member_died, locks_entered, locks_lost, suspends_at, range_dropped, receivers_told, requests_ended, hears, round_over, view_resumed_if}

-- Paths.

cut_test : (b is : Bool) → not (is && not b) ≡ (if b then true else not is)
cut_test b is = grind arith

mend_test : (b is : Bool) → not (is || b) ≡ (if b then false else not is)
mend_test b is = grind arith

pub path_cut : (paths now : Paths) (n l : ℕ) → path_open now ≡ cut_path (path_open paths) n l
    → ◌≡◌ {A = ℕ → ℕ → Bool} (λ m k. not (path_open now m k)) (λ m k. if (m == n) && (k == l) then true else not (path_open paths m k))
path_cut paths now n l e = fun_ext (λ m. fun_ext (λ k.
    ap (λ (f : ℕ → ℕ → Bool). not (f m k)) e ∙ cut_test ((m == n) && (k == l)) (path_open paths m k)))

pub path_mended : (paths now : Paths) (n l : ℕ) → path_open now ≡ mend_path (path_open paths) n l
    → ◌≡◌ {A = ℕ → ℕ → Bool} (λ m k. not (path_open now m k)) (λ m k. if (m == n) && (k == l) then false else not (path_open paths m k))
path_mended paths now n l e = fun_ext (λ m. fun_ext (λ k.
    ap (λ (f : ℕ → ℕ → Bool). not (f m k)) e ∙ mend_test ((m == n) && (k == l)) (path_open paths m k)))

-- Death.

dropped : (a b : Bool) (x : Option Range) → (if b then None else (if a then None else x)) ≡ (if a || b then None else x)
dropped a b x = grind arith

pub die_steps : (core : Core) (n : ℕ)
    → requests_ended (locks_lost (range_dropped (node_out (sender_idle (receivers_told (member_died core n) n) n) n) n) n) n
    ≡ die core n
die_steps core n = λ i. record (die core n) {
  suspended = fun_ext (λ m. fun_ext (λ owner. dropped (m == n) (owner == n) (core.suspended m owner))) i;
}

-- Coming in.

spread : (b : Bool) (f g : ℕ → Option Range) (o : ℕ) → (if b then f else g) o ≡ (if b then f o else g o)
spread true f g o = refl
spread false f g o = refl

entered : (core : Core) (n : ℕ)
    → in_state (tries_over (suspends_at (with_view (locks_entered core n) n (view_from (core.tried n) (newest (core.tried n)))) n (range_of_member core)) n) n Loaded
    ≡ up core n
entered core n = λ i. record (up core n) {
  suspended = fun_ext (λ m. fun_ext (λ owner. spread (m == n) (range_of_member core) (core.suspended m) owner)) i;
}

pub up_steps : (core : Core) (n : ℕ) (v : NodeView) (ranges : ℕ → Option Range)
    → v ≡ view_from (core.tried n) (newest (core.tried n)) → ranges ≡ range_of_member core
    → in_state (tries_over (suspends_at (with_view (locks_entered core n) n v) n ranges) n) n Loaded ≡ up core n
up_steps core n v ranges e f =
    ap (λ w. in_state (tries_over (suspends_at (with_view (locks_entered core n) n w) n ranges) n) n Loaded) e
    ∙ ap (λ r. in_state (tries_over (suspends_at (with_view (locks_entered core n) n (view_from (core.tried n) (newest (core.tried n)))) n r) n) n Loaded) f
    ∙ entered core n

-- A superblock.

pub super_after : (core : Core) (n l : ℕ) (v : Sector) (x : Option Says) → x ≡ says_in core.array l v.bytes
    → loaded core n l (tried_as x) ≡ after core (Load n l) (load_outcome l v x)
super_after core n l v None e = refl
super_after core n l v (Some says) e = ap (λ y. loaded core n l (tried_as y)) e

pub no_failure : (l : ℕ) (v : Sector) (x : Option Says) → has_failed (load_outcome l v x) ≡ false
no_failure l v None = refl
no_failure l v (Some says) = refl

-- The end of a round.

pub resume_steps : (core : Core) (n : ℕ) (b : Bool) → b ≡ (not (core.receiver n).gone && told_state (core.heard n))
    → view_resumed_if (hears (round_over core n) n None) n b ≡ resume core n
resume_steps core n true e = rw (← e) refl
resume_steps core n false e = rw (← e) refl

resumed_as : (core : Core) (n : ℕ) (b : Bool) (o : Outcome) → o ≡ (if b then Broken else Whole)
    → resume core n ≡ after core (Resume n) o
resumed_as core n true o e = rw e refl
resumed_as core n false o e = rw e refl

pub resume_after : (core : Core) (n : ℕ) (o : Outcome) → o ≡ resume_outcome core n → resume core n ≡ after core (Resume n) o
resume_after core n o e = resumed_as core n (core.receiver n).gone o e

-- Processing.

kept_same : (locks : ℕ → Lock) (n r : ℕ) (x : Lock) (b : Bool) → (r == no_new_dev) ≡ false
    → (if b then with_at locks no_new_dev x else locks) r ≡ locks r
kept_same locks n r x true e = rw e refl
kept_same locks n r x false e = refl

seen_same : (locks kept : ℕ → Lock) (r : ℕ) (x : Lock) (b : Bool) → (r == no_new_dev) ≡ false → kept r ≡ locks r
    → (if b then kept else with_at locks no_new_dev x) r ≡ locks r
seen_same locks kept r x true e f = f
seen_same locks kept r x false e f = rw e refl

kept_at : (locks : ℕ → Lock) (n r : ℕ) → (r == no_new_dev) ≡ false → device_lock_kept locks n r ≡ locks r
kept_at locks n r e = kept_same locks n r _ (is_none ((locks no_new_dev).held n)) e

pub did_locks : (core : Core) (n r : ℕ) (x : Option Msg) → (r == no_new_dev) ≡ false → (do_message core n x).locks r ≡ core.locks r
did_locks core n r None e = refl
did_locks core n r (Some m) e = by_body m.body
  where
    by_body : (b : Body) → (do_body core n (core.receiver n).from b).locks r ≡ core.locks r
    by_body (bodies.Metadata events roles size) = kept_at core.locks n r e
    by_body (bodies.Capacity events roles size) = kept_at core.locks n r e
    by_body (bodies.Resyncing range) = refl
    by_body (bodies.NewDisk l uuid) = seen_same core.locks (device_lock_kept core.locks n) r _ (core.cut n l) e (kept_at core.locks n r e)
    by_body (bodies.Remove l) = refl
    by_body (bodies.ReAdd l) = refl
    by_body bodies.NeedsSync = refl

pub did_receiver : (core : Core) (n : ℕ) (x : Option Msg) → (do_message core n x).receiver ≡ core.receiver
did_receiver core n None = refl
did_receiver core n (Some m) = by_body m.body
  where
    by_body : (b : Body) → (do_body core n (core.receiver n).from b).receiver ≡ core.receiver
    by_body (bodies.Metadata events roles size) = refl
    by_body (bodies.Capacity events roles size) = refl
    by_body (bodies.Resyncing range) = refl
    by_body (bodies.NewDisk l uuid) = refl
    by_body (bodies.Remove l) = refl
    by_body (bodies.ReAdd l) = refl
    by_body bodies.NeedsSync = refl
