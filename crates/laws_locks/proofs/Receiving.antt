-- What the calls of a receiver keep.
use Rattle.std.proofs.Common.{◌≡◌, ℕ, Bool, true, false, not, List, ◌∷◌, Option, Some, None, refl, sym, subst, ◌&&◌, if◌then◌else◌}
use Rattle.std.specs.Prelude.{is_some, is_none, unwrap_or}
use Rattle.dlm_modes.specs.Guards.{first_of}
use Rattle.dlm_modes.specs.Points.{with_at}
use Rattle.dlm_modes.specs.declared.mode.Mode.TheVariants.{CR}
use Rattle.dlm_space.specs.Locks.{Lock, holding, let_go, caller}
use Rattle.cluster_msgs.specs.declared.msg.Body.{Body}
use Rattle.cluster_msgs.specs.declared.msg.Body.TheVariants as bodies
use Rattle.cluster_msgs.specs.declared.msg.Msg.{Msg}
use Rattle.leg_failure.specs.Views.{NodeView, acknowledged}
use Rattle.msg_rounds.specs.Locks.{message_res, ack_res, message_processed, resumed}
use Rattle.msg_rounds.specs.Phases.{Receiving, is_idle}
use Rattle.msg_rounds.specs.Refusals.{is_taken, may_resume, is_pr, take_refusal, processed_refusal, resume_refusal, drop_refusal}
use Rattle.msg_rounds.specs.declared.phases.ReceiverPhase.TheVariants as receivers
use Rattle.laws_rounds.specs.Machine as rounds
use Rattle.laws_rounds.specs.Following.{three_of, entry_of}
use Rattle.laws_rounds.proofs.Three.{three_else}
use Rattle.laws_rounds.proofs.Follows.{take_follows, processed_follows, resume_follows, drop_follows}
use Rattle.cluster_model.specs.State.{Core}
use Rattle.cluster_model.specs.Phases.{is_up}
use Rattle.cluster_model.specs.Changes.{no_new_dev}
use Rattle.cluster_model.specs.Receiving.{take_guards, take, called_by, receiver_now, receiver_idle, resume_guards, resume, told_state, drop_guards, drop_message}
use Rattle.cluster_model.specs.Processing.{processed_guards, processed, device_lock_kept, see_device, do_body, do_message}
use Rattle.laws_locks.specs.Following.{rounds_at}
use Rattle.laws_locks.proofs.Guarded.{tested, living}
use Rattle.laws_locks.proofs.Told.{up_is}
use Rattle.laws_locks.proofs.Keeping.{Kept, Quiet, follow_on, quiet_kept, rounds_on}

may_take : (locks : ℕ → Lock) (n : ℕ) (r : Receiving) → is_idle r.phase ≡ true → is_some (caller (locks ack_res) n) ≡ true → take_refusal locks n r ≡ None
may_take locks n r e f = rw e (rw f refl)

may_process : (r : Receiving) → is_taken r.phase ≡ true → not r.gone ≡ true → processed_refusal r ≡ None
may_process r e f = rw e (rw f refl)

may_go_on : (locks : ℕ → Lock) (n : ℕ) (r : Receiving) → may_resume r.phase ≡ true → is_pr ((locks message_res).held n) ≡ true → resume_refusal locks n r ≡ None
may_go_on locks n r e f = rw e (rw f refl)

may_drop : (r : Receiving) → is_taken r.phase ≡ true → r.gone ≡ true → drop_refusal r ≡ None
may_drop r e f = rw e (rw f refl)

some_is : (x : Option ℕ) → is_some x ≡ true → x ≡ Some (unwrap_or x 0)
some_is None e = cc
some_is (Some p) e = refl

three_lock_kept : (locks : ℕ → Lock) (n : ℕ) → three_of (device_lock_kept locks n) ≡ three_of locks
three_lock_kept locks n = by_test (is_none ((locks no_new_dev).held n))
  where
    by_test : (b : Bool) → three_of (if b then with_at locks no_new_dev (holding (locks no_new_dev) n CR) else locks) ≡ three_of locks
    by_test true = three_else locks no_new_dev _ refl
    by_test false = refl

three_device_seen : (locks : ℕ → Lock) (n : ℕ) (b : Bool) → three_of (if b then device_lock_kept locks n else with_at locks no_new_dev (let_go (locks no_new_dev) n)) ≡ three_of locks
three_device_seen locks n true = three_lock_kept locks n
three_device_seen locks n false = three_else locks no_new_dev _ refl

body_quiet : (core : Core) (n sender : ℕ) (b : Body) → Quiet (do_body core n sender b) core
body_quiet core n sender (bodies.Metadata events roles size) = record { rounds = rounds_on core (device_lock_kept core.locks n) (three_lock_kept core.locks n); offer = refl; live = refl; array = refl; slots = λ s. s }
body_quiet core n sender (bodies.Capacity events roles size) = record { rounds = rounds_on core (device_lock_kept core.locks n) (three_lock_kept core.locks n); offer = refl; live = refl; array = refl; slots = λ s. s }
body_quiet core n sender (bodies.NewDisk l uuid) = record { rounds = rounds_on core (see_device core n l).locks (three_device_seen core.locks n (core.cut n l)); offer = refl; live = refl; array = refl; slots = λ s. s }
body_quiet core n sender b = record { rounds = refl; offer = refl; live = refl; array = refl; slots = λ s. s }

pub message_quiet : (core : Core) (n : ℕ) (x : Option Msg) → Quiet (do_message core n x) core
message_quiet core n None = record { rounds = refl; offer = refl; live = refl; array = refl; slots = λ s. s }
message_quiet core n (Some m) = body_quiet core n (core.receiver n).from m.body

module _ (members : ℕ → Bool) (past : List rounds.Entry) (core : Core) (k : Kept members past core) where
  pub take_kept : (n : ℕ) → first_of (take_guards core n) ≡ None → Kept members (entry_of (rounds_at core) (rounds.Take n) ∷ past) (take core n)
  take_kept n e =
      let l = living core n _ k.nodes e in
      let a = tested (is_up (core.state n)) _ _ l.rest in
      let b = tested (is_idle (core.receiver n).phase) _ _ a.1 in
      let c = tested (is_some (caller (core.locks ack_res) n)) _ _ b.1 in
      record {
        follows = follow_on members past (rounds_at core) (rounds_at (take core n)) (rounds.Take n) refl k.follows
            (up_is _ a.0, may_take (three_of core.locks) n (rounds.receiving (rounds_at core) n) b.0 c.0)
            (take_follows core.state core.sender core.receiver core.locks (take core n).locks n (called_by core n) (some_is _ c.0) refl);
        offers = k.offers;
        block = k.block;
        live = k.live;
        slots = k.slots;
        nodes = k.nodes;
        low = k.low;
      }

  pub drop_kept : (n : ℕ) → first_of (drop_guards core n) ≡ None → Kept members (entry_of (rounds_at core) (rounds.Drop n) ∷ past) (drop_message core n)
  drop_kept n e =
      let l = living core n _ k.nodes e in
      let a = tested (is_taken (core.receiver n).phase) _ _ l.rest in
      let b = tested (core.receiver n).gone _ _ a.1 in
      record {
        follows = follow_on members past (rounds_at core) (rounds_at (drop_message core n)) (rounds.Drop n) refl k.follows
            (may_drop (rounds.receiving (rounds_at core) n) a.0 b.0)
            (drop_follows core.state core.sender core.receiver core.locks (drop_message core n).locks n refl);
        offers = k.offers;
        block = k.block;
        live = k.live;
        slots = k.slots;
        nodes = k.nodes;
        low = k.low;
      }

  resume_with : (n : ℕ) (view : ℕ → NodeView) → rounds.May (rounds_at core) (rounds.Resume n) → Kept members (entry_of (rounds_at core) (rounds.Resume n) ∷ past) (record (receiver_idle (record core { view = view }) n) { locks = resumed core.locks n })
  resume_with n view may = record {
    follows = follow_on members past (rounds_at core) _ (rounds.Resume n) refl k.follows may
        (resume_follows core.state core.sender core.receiver core.locks (resumed core.locks n) n refl);
    offers = k.offers;
    block = k.block;
    live = k.live;
    slots = k.slots;
    nodes = k.nodes;
    low = k.low;
  }

  pub resume_kept : (n : ℕ) → first_of (resume_guards core n) ≡ None → Kept members (entry_of (rounds_at core) (rounds.Resume n) ∷ past) (resume core n)
  resume_kept n e = by_test (not (core.receiver n).gone && told_state (core.heard n))
    where
      may : rounds.May (rounds_at core) (rounds.Resume n)
      may =
          let l = living core n _ k.nodes e in
          let a = tested (may_resume (core.receiver n).phase) _ _ l.rest in
          let b = tested (is_pr ((core.locks message_res).held n)) _ _ a.1 in
          may_go_on (three_of core.locks) n (rounds.receiving (rounds_at core) n) a.0 b.0

      by_test : (b : Bool) → Kept members (entry_of (rounds_at core) (rounds.Resume n) ∷ past) (record (receiver_idle (if b then record core { view = with_at core.view n (acknowledged (core.view n)) } else core) n) { locks = resumed core.locks n })
      by_test true = resume_with n (with_at core.view n (acknowledged (core.view n))) may
      by_test false = resume_with n core.view may

  processed_on : (n : ℕ) → rounds.May (rounds_at core) (rounds.Processed n) → Kept members (entry_of (rounds_at core) (rounds.Processed n) ∷ past) (record (receiver_now core n receivers.Waiting) { locks = message_processed core.locks n })
  processed_on n may = record {
    follows = follow_on members past (rounds_at core) _ (rounds.Processed n) refl k.follows may
        (processed_follows core.state core.sender core.receiver core.locks (message_processed core.locks n) n refl);
    offers = k.offers;
    block = k.block;
    live = k.live;
    slots = k.slots;
    nodes = k.nodes;
    low = k.low;
  }

pub processed_kept : (members : ℕ → Bool) (past : List rounds.Entry) (core : Core) → Kept members past core → (n : ℕ) → first_of (processed_guards core n) ≡ None → Kept members (entry_of (rounds_at core) (rounds.Processed n) ∷ past) (processed core n)
processed_kept members past core k n e =
    let l = living core n _ k.nodes e in
    let a = tested (is_taken (core.receiver n).phase) _ _ l.rest in
    let b = tested (not (core.receiver n).gone) _ _ a.1 in
    let may : rounds.May (rounds_at core) (rounds.Processed n) = may_process (rounds.receiving (rounds_at core) n) a.0 b.0 in
    let q = message_quiet core n (core.heard n) in
    let did = do_message core n (core.heard n) in
    subst (λ w. Kept members (entry_of w (rounds.Processed n) ∷ past) (processed core n)) q.rounds
    (processed_on members past did (quiet_kept members past did core k q) n (subst (λ w. rounds.May w (rounds.Processed n)) (sym q.rounds) may))
