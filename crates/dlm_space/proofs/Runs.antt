-- Every list of accepted calls keeps all locks orderly.
use Rattle.std.proofs.Common.{ℕ, List, [], ◌∷◌, true, false, ◌==◌, if◌then◌else◌}
use Rattle.dlm_modes.specs.Points.{with_at}
use Rattle.dlm_space.specs.Locks.{Lock, asked, asked_now, converted, converted_now, granted, released}
use Rattle.dlm_space.specs.Calls.{Call, Asks, AsksNow, Converts, ConvertsNow, Grants, Releases, Dies, AreAccepted, locks_after}
use Rattle.dlm_space.specs.Orderly.{IsOrderly}
use Rattle.dlm_space.proofs.Kept.{new_orderly, ask_keeps, ask_now_keeps, convert_keeps, convert_now_keeps, grant_keeps, release_keeps, die_keeps}

-- one lock of many is changed
at : (locks : ℕ → Lock) (s : ℕ) (v : Lock) → IsOrderly v → ((r : ℕ) → IsOrderly (locks r)) → (r : ℕ) → IsOrderly (with_at locks s v r)
at locks s v i all r = elim (r == s) as (λ b. IsOrderly (if b then v else locks r)) [ true ↦ i | false ↦ all r ]

pub runs_orderly : (past : List Call) → AreAccepted past → (r : ℕ) → IsOrderly (locks_after past r)
runs_orderly [] ok r = new_orderly
runs_orderly (Asks n s mode ∷ past) (ok, a) r =
    let locks = locks_after past in
    let all = runs_orderly past ok in
    at locks s (asked (locks s) n mode) (ask_keeps (locks s) n mode (all s) a.node a.accepted) all r
runs_orderly (AsksNow n s mode given ∷ past) (ok, a) r =
    let locks = locks_after past in
    let all = runs_orderly past ok in
    at locks s (asked_now (locks s) n mode) (ask_now_keeps (locks s) n mode (all s) a.node a.accepted) all r
runs_orderly (Converts n s mode value answer ∷ past) (ok, a) r =
    let locks = locks_after past in
    let all = runs_orderly past ok in
    at locks s (converted (locks s) n mode value) (convert_keeps (locks s) n mode value (all s) a.node a.accepted) all r
runs_orderly (ConvertsNow n s mode ∷ past) (ok, a) r =
    let locks = locks_after past in
    let all = runs_orderly past ok in
    at locks s (converted_now (locks s) n mode) (convert_now_keeps (locks s) n mode (all s) a.node a.accepted) all r
runs_orderly (Grants s g ∷ past) (ok, a) r =
    let locks = locks_after past in
    let all = runs_orderly past ok in
    at locks s (granted (locks s)) (grant_keeps (locks s) (all s) a.accepted) all r
runs_orderly (Releases n s value ∷ past) (ok, a) r =
    let locks = locks_after past in
    let all = runs_orderly past ok in
    at locks s (released (locks s) n value) (release_keeps (locks s) n value (all s) a.accepted) all r
runs_orderly (Dies n ∷ past) (ok, a) r = die_keeps (locks_after past r) n (runs_orderly past ok r)
