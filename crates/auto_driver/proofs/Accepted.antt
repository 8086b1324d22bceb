-- What helps isn't refused.
use Rattle.std.proofs.Common.{◌≡◌, ℕ, Bool, true, false, if◌then◌else◌, List, [], ◌∷◌, Option, Some, None, refl, sym, ap, subst, ◌∙◌}
use Rattle.std.specs.Prelude.{is_none, is_some, not, ◌&&◌, ◌||◌}
use Rattle.dlm_modes.specs.Guards.{first_of}
use Rattle.cluster_model.specs.State.{Core, sizes}
use Rattle.cluster_model.specs.Table.{refusal}
use Rattle.driver_rules.specs.Lines.{allowed, allowed_if, allowed_at, of_page, broken_for, receiving, headed_by, granting, untried_leg, joining, unwritten, sending, asking, marking, first_undone, first_to_end, first_read, flying, unread_in, uncleared_in, recovering, copying, is_just_held, slot_to_begin, is_clean, again_leg, rebuilds, some_pending, needs_copying, begun_when_held, beginning, is_over, is_idle, ending, wants_to_copy, turning, chunk_to_clear, cleaning}
use Rattle.driver_rules.specs.Helpers.{found, lines, first_in, first_enabled, first_of_node, helped_node, next_help}
use Rattle.dlm_modes.specs.First.{first_such}
use Rattle.mdc_types.specs.Geometry.{chunks_of, nodes_of}
use Rattle.mdc_types.specs.Roles.{is_rebuilding}
use Rattle.mdc_types.specs.declared.events.Event.{Event}
use Rattle.mdc_types.specs.declared.events.Event.TheVariants.{Grant, Load, Up, AskToken}
use Rattle.mdc_types.specs.declared.events.Event.TheVariants.{AskMessage, Offer, WriteSuper}
use Rattle.mdc_types.specs.declared.events.Event.TheVariants.{Publish, FinishRound, Quit, Take}
use Rattle.mdc_types.specs.declared.events.Event.TheVariants.{Processed, Resume, DropMessage}
use Rattle.mdc_types.specs.declared.events.Event.TheVariants.{WritePage, Out, EndWrite}
use Rattle.mdc_types.specs.declared.events.Event.TheVariants.{BreakWrite, In, Clear, AskResync}
use Rattle.mdc_types.specs.declared.events.Event.TheVariants.{Gather, PassOwn, PassFull}
use Rattle.mdc_types.specs.declared.events.Event.TheVariants.{PassAgain, CopyIn, CopyOut, Settle}
use Rattle.mdc_types.specs.declared.events.Event.TheVariants.{EndPass, Recover, SlotIn, SlotOut}
use Rattle.mdc_types.specs.declared.events.Event.TheVariants.{Recovered, LockDevice}
use Rattle.mdc_types.specs.declared.refusals.Refusal.{Refusal}
use Rattle.mdc_types.specs.declared.refusals.Refusal.TheVariants.{Draining}
use Rattle.mdc_types.specs.declared.resources.Res.{Res}
use Rattle.mdc_types.specs.declared.resources.Res.TheVariants as resources
use Rattle.dlm_space.specs.declared.ask.Ask.{Ask}
use Rattle.msg_rounds.specs.Refusals.{is_token_held, is_message_held}
use Rattle.leg_failure.specs.Views.{is_target, works}
use Rattle.mirror_io.specs.Flight.{missing_leg}
use Rattle.mirror_io.specs.declared.live.LiveWrite.{LiveWrite}
use Rattle.mirror_io.specs.declared.live.LiveRead.{LiveRead}
use Rattle.node_bitmaps.specs.Bitmap.{first_unmarked, first_old, first_needed}
use Rattle.node_member.specs.Members.{first_pending}
use Rattle.node_recovery.specs.Progress.{Recovering, unread, uncleared}
use Rattle.disk_addition.specs.declared.addition.Addition.{Addition}
use Rattle.disk_addition.specs.declared.addition.Addition.TheVariants.{Again}
use Rattle.cluster_model.specs.Phases.{copy_word, is_held, has_pass}
use Rattle.cluster_model.specs.Granting.{asker}
use Rattle.cluster_model.specs.Joining.{is_untried}
use Rattle.cluster_model.specs.Wishes.{holds_device_lock}
use Rattle.cluster_model.specs.Publishing.{unwritten_leg}
use Rattle.cluster_model.specs.Copying.{buffer_of, uncopied_target}
use Rattle.cluster_model.specs.Recovering.{leg_unread, leg_uncleared, pending_heir}
use Rattle.driver_rules.specs.Wants.{want, todo_chunk, covered_leg, is_least_member}

-- no guard refuses the event, if there is one
abbrev IsAllowed : Core → Option Event → Type 0
IsAllowed core None = Unit {0}
IsAllowed core (Some e) = refusal core e ≡ None

abbrev AllAllowed : Core → List (Option Event) → Type 0
AllAllowed core [] = Unit {0}
AllAllowed core (o ∷ os) = IsAllowed core o × AllAllowed core os

allowed_is : (core : Core) (e : Event) → IsAllowed core (allowed core e)
allowed_is core e =
    elim (refusal core e) as (λ r. refusal core e ≡ r → IsAllowed core (if is_none r then Some e else None)) [
      | None ↦ λ is. is
      | Some r ↦ λ is. tt
    ] refl

allowed_if_is : (core : Core) (b : Bool) (e : Event) → IsAllowed core (allowed_if core b e)
allowed_if_is core true e = allowed_is core e
allowed_if_is core false e = tt

allowed_at_is : {A : Type 0} (core : Core) (e : A → Event) (o : Option A) → IsAllowed core (allowed_at core e o)
allowed_at_is core e None = tt
allowed_at_is core e (Some a) = allowed_is core (e a)

broken_is : (core : Core) (n : ℕ) (r : Option Refusal) → IsAllowed core (broken_for core n r)
broken_is core n (Some (Draining k)) = allowed_is core (BreakWrite n k)
broken_is core n r = tt

ended_is : (core : Core) (n : ℕ) (ws : List LiveWrite) → IsAllowed core (first_to_end core n ws)
ended_is core n [] = tt
ended_is core n (w ∷ ws) =
    elim (refusal core (EndWrite n w.number)) as (λ r. refusal core (EndWrite n w.number) ≡ r → IsAllowed core (if is_none r then Some (EndWrite n w.number) else first_to_end core n ws)) [
      | None ↦ λ is. is
      | Some r ↦ λ is. ended_is core n ws
    ] refl

first_of_is : (core : Core) (os : List (Option Event)) → AllAllowed core os → IsAllowed core (first_of os)
first_of_is core [] all = tt
first_of_is core (Some e ∷ os) all = all.0
first_of_is core (None ∷ os) all = first_of_is core os all.1

-- The lines.

receiving_is : (core : Core) (n : ℕ) → IsAllowed core (receiving core n)
receiving_is core n =
    let all : AllAllowed core (allowed core (Resume n) ∷ allowed core (Processed n) ∷ allowed core (DropMessage n) ∷ broken_for core n (refusal core (Processed n)) ∷ allowed core (Take n) ∷ []) = (allowed_is core (Resume n), (allowed_is core (Processed n), (allowed_is core (DropMessage n), (broken_is core n (refusal core (Processed n)), (allowed_is core (Take n), tt))))) in
    first_of_is core (allowed core (Resume n) ∷ allowed core (Processed n) ∷ allowed core (DropMessage n) ∷ broken_for core n (refusal core (Processed n)) ∷ allowed core (Take n) ∷ []) all

joining_is : (core : Core) (n : ℕ) → IsAllowed core (joining core n)
joining_is core n =
    let all : AllAllowed core (allowed_at core (Load n) (untried_leg core n) ∷ allowed core (Up n) ∷ []) = (allowed_at_is core (Load n) (untried_leg core n), (allowed_is core (Up n), tt)) in
    first_of_is core (allowed_at core (Load n) (untried_leg core n) ∷ allowed core (Up n) ∷ []) all

sending_is : (core : Core) (n : ℕ) → IsAllowed core (sending core n)
sending_is core n =
    let all : AllAllowed core (allowed core (FinishRound n) ∷ allowed_at core (WriteSuper n) (unwritten core n) ∷ allowed core (Publish n) ∷ allowed_at core (Offer n) (want core n) ∷ allowed_if core (is_message_held (core.sender n) && is_none (want core n)) (Quit n) ∷ []) = (allowed_is core (FinishRound n), (allowed_at_is core (WriteSuper n) (unwritten core n), (allowed_is core (Publish n), (allowed_at_is core (Offer n) (want core n), (allowed_if_is core (is_message_held (core.sender n) && is_none (want core n)) (Quit n), tt))))) in
    first_of_is core (allowed core (FinishRound n) ∷ allowed_at core (WriteSuper n) (unwritten core n) ∷ allowed core (Publish n) ∷ allowed_at core (Offer n) (want core n) ∷ allowed_if core (is_message_held (core.sender n) && is_none (want core n)) (Quit n) ∷ []) all

asking_is : (core : Core) (n : ℕ) → IsAllowed core (asking core n)
asking_is core n =
    let all : AllAllowed core (allowed_if core (not (holds_device_lock core n)) (LockDevice n) ∷ allowed_if core (is_some (want core n)) (AskMessage n) ∷ allowed_if core (is_token_held (core.sender n) && is_none (want core n)) (Quit n) ∷ allowed_if core (is_some (want core n)) (AskToken n) ∷ []) = (allowed_if_is core (not (holds_device_lock core n)) (LockDevice n), (allowed_if_is core (is_some (want core n)) (AskMessage n), (allowed_if_is core (is_token_held (core.sender n) && is_none (want core n)) (Quit n), (allowed_if_is core (is_some (want core n)) (AskToken n), tt)))) in
    first_of_is core (allowed_if core (not (holds_device_lock core n)) (LockDevice n) ∷ allowed_if core (is_some (want core n)) (AskMessage n) ∷ allowed_if core (is_token_held (core.sender n) && is_none (want core n)) (Quit n) ∷ allowed_if core (is_some (want core n)) (AskToken n) ∷ []) all

flying_is : (core : Core) (n : ℕ) → IsAllowed core (flying core n)
flying_is core n =
    let all : AllAllowed core (allowed_at core (of_page (Out n)) (first_undone (is_target (core.view n)) (core.writes n)) ∷ first_to_end core n (core.writes n) ∷ allowed_at core (In n) (first_read (core.reads n)) ∷ []) = (allowed_at_is core (of_page (Out n)) (first_undone (is_target (core.view n)) (core.writes n)), (ended_is core n (core.writes n), (allowed_at_is core (In n) (first_read (core.reads n)), tt))) in
    first_of_is core (allowed_at core (of_page (Out n)) (first_undone (is_target (core.view n)) (core.writes n)) ∷ first_to_end core n (core.writes n) ∷ allowed_at core (In n) (first_read (core.reads n)) ∷ []) all

recovering_is : (core : Core) (n : ℕ) → IsAllowed core (recovering core n)
recovering_is core n =
    let all : AllAllowed core (allowed_at core (of_page (SlotIn n)) (unread_in core n (core.recovery n)) ∷ allowed_at core (of_page (SlotOut n)) (uncleared_in core n (core.recovery n)) ∷ allowed core (Recovered n) ∷ []) = (allowed_at_is core (of_page (SlotIn n)) (unread_in core n (core.recovery n)), (allowed_at_is core (of_page (SlotOut n)) (uncleared_in core n (core.recovery n)), (allowed_is core (Recovered n), tt))) in
    first_of_is core (allowed_at core (of_page (SlotIn n)) (unread_in core n (core.recovery n)) ∷ allowed_at core (of_page (SlotOut n)) (uncleared_in core n (core.recovery n)) ∷ allowed core (Recovered n) ∷ []) all

copying_is : (core : Core) (n : ℕ) → IsAllowed core (copying core n)
copying_is core n =
    let all : AllAllowed core (allowed core (CopyIn n) ∷ allowed_at core (CopyOut n) (uncopied_target core n (buffer_of core n)) ∷ allowed core (Settle n) ∷ []) = (allowed_is core (CopyIn n), (allowed_at_is core (CopyOut n) (uncopied_target core n (buffer_of core n)), (allowed_is core (Settle n), tt))) in
    first_of_is core (allowed core (CopyIn n) ∷ allowed_at core (CopyOut n) (uncopied_target core n (buffer_of core n)) ∷ allowed core (Settle n) ∷ []) all

begun_is : (core : Core) (n : ℕ) → IsAllowed core (begun_when_held core n)
begun_is core n =
    let all : AllAllowed core (allowed_at core (Recover n) (slot_to_begin core) ∷ allowed_if core (is_clean core n) (PassOwn n) ∷ allowed core (Gather n) ∷ allowed_at core (PassAgain n) (again_leg (core.adding n).addition) ∷ allowed_if core (rebuilds core n && not (some_pending core)) (PassFull n) ∷ allowed_if core (needs_copying core n) (PassOwn n) ∷ []) = (allowed_at_is core (Recover n) (slot_to_begin core), (allowed_if_is core (is_clean core n) (PassOwn n), (allowed_is core (Gather n), (allowed_at_is core (PassAgain n) (again_leg (core.adding n).addition), (allowed_if_is core (rebuilds core n && not (some_pending core)) (PassFull n), (allowed_if_is core (needs_copying core n) (PassOwn n), tt)))))) in
    first_of_is core (allowed_at core (Recover n) (slot_to_begin core) ∷ allowed_if core (is_clean core n) (PassOwn n) ∷ allowed core (Gather n) ∷ allowed_at core (PassAgain n) (again_leg (core.adding n).addition) ∷ allowed_if core (rebuilds core n && not (some_pending core)) (PassFull n) ∷ allowed_if core (needs_copying core n) (PassOwn n) ∷ []) all

cleaning_is : (core : Core) (n : ℕ) → IsAllowed core (cleaning core n)
cleaning_is core n =
    let all : AllAllowed core (allowed_at core (Clear n) (chunk_to_clear core n) ∷ allowed_at core (of_page (WritePage n)) (first_old (sizes core) (core.bitmap n) (is_target (core.view n))) ∷ []) = (allowed_at_is core (Clear n) (chunk_to_clear core n), (allowed_at_is core (of_page (WritePage n)) (first_old (sizes core) (core.bitmap n) (is_target (core.view n))), tt)) in
    first_of_is core (allowed_at core (Clear n) (chunk_to_clear core n) ∷ allowed_at core (of_page (WritePage n)) (first_old (sizes core) (core.bitmap n) (is_target (core.view n))) ∷ []) all

beginning_is : (core : Core) (n : ℕ) → IsAllowed core (beginning core n)
beginning_is core n =
    elim (is_just_held core n) as (λ b. IsAllowed core (if b then begun_when_held core n else None)) [
      | true ↦ begun_is core n
      | false ↦ tt
    ]

lines_are : (core : Core) (n : ℕ) → AllAllowed core (lines core n)
lines_are core n = (receiving_is core n, (allowed_at_is core Grant (headed_by core n), (joining_is core n, (sending_is core n, (asking_is core n, (allowed_at_is core (of_page (WritePage n)) (first_unmarked (sizes core) (core.bitmap n) (is_target (core.view n))), (flying_is core n, (recovering_is core n, (copying_is core n, (beginning_is core n, (allowed_if_is core (is_over core n || is_idle core n) (EndPass n), (allowed_if_is core (wants_to_copy core n) (AskResync n), (cleaning_is core n, tt)))))))))))))

first_found_is : (core : Core) (os : List (Option Event)) → AllAllowed core os → IsAllowed core (first_in (found os))
first_found_is core [] all = tt
first_found_is core (None ∷ os) all = first_found_is core os all.1
first_found_is core (Some e ∷ os) all = all.0

of_node_is : (core : Core) (n : Option ℕ) → IsAllowed core (first_of_node core n)
of_node_is core None = tt
of_node_is core (Some n) = first_found_is core (lines core n) (lines_are core n)

-- the next event that helps isn't refused
pub next_help_accepted : (core : Core) (e : Event) → next_help core ≡ Some e → refusal core e ≡ None
next_help_accepted core e is = subst (IsAllowed core) is (of_node_is core (helped_node core))
