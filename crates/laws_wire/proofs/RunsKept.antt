-- Every list of accepted calls keeps the invariant.
use Rattle.std.proofs.Common.{◌≡◌, ℕ, ◌<◌, List, [], ◌∷◌, Bool, true, false, None, refl, sym, ap, ◌∙◌, arith, if◌then◌else◌}
use Rattle.std.proofs.lemmas.Bool.Decides.{nat_tests}
use Rattle.dlm_modes.specs.Modes.{weaker}
use Rattle.dlm_modes.specs.declared.mode.Mode.{Mode}
use Rattle.dlm_space.specs.Locks.{Lock}
use Rattle.dlm_space.specs.Queues.{asks_of}
use Rattle.lock_wire.specs.Locals.{mode_held, kept, converting, not_free, not_convertible, not_releasable}
use Rattle.lock_wire.specs.Machine
use Rattle.lock_wire.specs.Machine.{Wire, master_of, lock_at, convert_from, calls_unless, calls_out, received, reported, reported_one, taken_over, without_node, served_to}
use Rattle.lock_wire.specs.declared.local.Local.{Local}
use Rattle.lock_wire.specs.declared.local.Local.TheVariants.{Free, Asking, Held, Converting}
use Rattle.lock_wire.specs.declared.packet.Packet.TheVariants as packets
use Rattle.laws_wire.specs.Runs.{Call, Asks, Converts, Releases, Delivers, Serves, Dies, effect, IsAccepted, AreAccepted, wire_after}
use Rattle.laws_wire.specs.Views.{Asked, Converted, Released, Is, heard, Word, Told, Missing, Stuck, replay, entry_of, view_of, Fits, has_report, proper, covers, reckoned, words, grants}
use Rattle.laws_wire.specs.Invariants.{Kept, Inv}
use Rattle.laws_wire.specs.Sound.{LocksAgree, ReportsAreAwaited, ServesAfterReports, WireSound}
use Rattle.laws_wire.proofs.ViewLaws.{fits_covers, kept_again, kept_twice, never_missing, never_entry, not_stuck}
use Rattle.laws_wire.proofs.Steps.{apart-covers}
use Rattle.laws_wire.proofs.Wires.{lives, kept_said, kept_delivered, kept_served, kept_died, opened_inv, or_first, or_second, own_test, other_word, live_delivered, live_served, live_died, none_awaited, may_serve}

pub free_is : (l : Local) → not_free l ≡ None → l ≡ Free
free_is Free e = refl
free_is (Asking to) e = cc
free_is (Held m) e = cc
free_is (Converting f to) e = cc

pub held_is : (l : Local) → not_convertible l ≡ None → (m : Mode) × (l ≡ Held m)
held_is Free e = cc
held_is (Asking to) e = cc
held_is (Held m) e = (m, refl)
held_is (Converting f to) e = cc

pub released_is : (l : Local) → not_releasable l ≡ None → (m : Mode) × (l ≡ Held m)
released_is Free e = cc
released_is (Asking to) e = cc
released_is (Held m) e = (m, refl)
released_is (Converting f to) e = cc

proper_converting : (from to : Mode) → proper (converting from to) ≡ true
proper_converting from to =
    elim (weaker from to) as (λ b. weaker from to ≡ b → proper (if b then Held to else Converting (kept from to) to) ≡ true) [
      | true ↦ λ e. refl
      | false ↦ λ e. both (kept_again from to e) (kept_twice from to)
    ] refl
  where
    both : weaker (kept from to) to ≡ false → kept (kept from to) to ≡ kept from to → proper (Converting (kept from to) to) ≡ true
    both p q = grind (arith, nat_tests, p, q)

kept_call : (w : Wire) (call : Call) → Inv w → IsAccepted w call → (s : ℕ) → s < 21 → Kept (effect w call) s
kept_call w (Asks n r mode) i a s lt =
    let f : w.local n r ≡ Free = free_is _ (or_second (Machine.node_refusal w n) _ a.accepted) in
    kept_said w n r (Asking mode) (packets.Ask r mode) (Asked mode) (lives w n (or_first (Machine.node_refusal w n) _ a.accepted)) (ap (λ l. heard (Is l) (Asked mode)) f) refl (own_test r _ _) (λ k ne. other_word r k _ _ ne) (λ k. refl) s (i.kept s lt)
kept_call w (Converts n r mode value) i a s lt =
    let f = held_is (w.local n r) (or_second (Machine.node_refusal w n) _ a.accepted) in
    let is : convert_from (w.local n r) mode ≡ converting f.0 mode = ap (λ l. convert_from l mode) f.1 in
    kept_said w n r (convert_from (w.local n r) mode) (packets.Convert r mode value) (Converted mode) (lives w n (or_first (Machine.node_refusal w n) _ a.accepted)) (ap (λ l. heard (Is l) (Converted mode)) f.1 ∙ ap Is (sym is)) (ap proper is ∙ proper_converting f.0 mode) (own_test r _ _) (λ k ne. other_word r k _ _ ne) (λ k. refl) s (i.kept s lt)
kept_call w (Releases n r value) i a s lt =
    let f = released_is (w.local n r) (or_second (Machine.node_refusal w n) _ a.accepted) in
    kept_said w n r Free (packets.Release r value) Released (lives w n (or_first (Machine.node_refusal w n) _ a.accepted)) (ap (λ l. heard (Is l) Released) f.1) refl (own_test r _ _) (λ k ne. other_word r k _ _ ne) (λ k. refl) s (i.kept s lt)
kept_call w (Delivers x y) i a s lt = kept_delivered w x y i (lives w x (or_first (Machine.node_refusal w x) _ a.accepted)) s lt
kept_call w (Serves r) i a s lt = kept_served w r i a.resource a.accepted s lt
kept_call w (Dies n) i a s lt = kept_died w n i s lt

pub lived : (w : Wire) (call : Call) (n : ℕ) → (effect w call).live n ≡ true → w.live n ≡ true
lived w (Asks k r mode) n t = t
lived w (Converts k r mode value) n t = t
lived w (Releases k r value) n t = t
lived w (Delivers x y) n t = sym (ap (λ f. f n) (live_delivered w x y)) ∙ t
lived w (Serves r) n t = sym (ap (λ f. f n) (live_served w r)) ∙ t
lived w (Dies d) n t = live_died w d n t

nodes_call : (w : Wire) (call : Call) → Inv w → (n : ℕ) → (effect w call).live n ≡ true → n < 16
nodes_call w call i n t = i.nodes n (lived w call n t)

pub runs_keep : (nodes : ℕ) (past : List Call) → AreAccepted nodes past → Inv (wire_after nodes past)
runs_keep nodes [] ok = opened_inv nodes ok.0 ok.1
runs_keep nodes (call ∷ past) (ok, a) =
    let i = runs_keep nodes past ok in
    record { nodes = nodes_call (wire_after nodes past) call i; kept = kept_call (wire_after nodes past) call i a }

pub inv_agrees : (w : Wire) → Inv w → LocksAgree w
inv_agrees w i r n m lt ne ln lm =
    let k = i.kept r lt in
    apart-covers w.live _ (λ j. mode_held (w.local j r)) (λ j l. fits_covers ((w.ward r).awaited j) (lock_at w r) _ _ j (w.local j r) (k.fitting.fits j l)) k.fitting.apart n m ne ln lm

pub inv_covers : (w : Wire) → Inv w → (r n : ℕ) → r < 21 → w.live n ≡ true → (w.ward r).awaited n ≡ false → covers ((lock_at w r).held n) (mode_held (w.local n r)) ≡ true
inv_covers w i r n lt ln none =
    let k = i.kept r lt in
    ap (λ b. covers (reckoned b (lock_at w r) (words r (w.link n (master_of w r))) n) (mode_held (w.local n r))) (sym none) ∙ fits_covers ((w.ward r).awaited n) (lock_at w r) _ _ n (w.local n r) (k.fitting.fits n ln)

-- Reports.

not_is : (l : Local) → Stuck ≡ Is l → ⊥
not_is l e = cc

no_report : (k l : Local) (up : List Word) → replay (Is k) up ≡ Is l → has_report up ≡ false
no_report k l [] e = refl
no_report k l (word ∷ up) e =
    elim (heard (Is k) word) as (λ v. heard (Is k) word ≡ v → replay v up ≡ Is l → has_report (word ∷ up) ≡ false) [
      | Missing ↦ λ h r. absurd (never_missing k word h)
      | Stuck ↦ λ h r. absurd (not_stuck up l r)
      | Is j ↦ λ h r. quiet k j word up h (no_report j l up r)
    ] refl e
  where
    quiet : (k j : Local) (word : Word) (up : List Word) → heard (Is k) word ≡ Is j → has_report up ≡ false → has_report (word ∷ up) ≡ false
    quiet k j (Asked to) up h e = e
    quiet k j (Converted to) up h e = e
    quiet k j Released up h e = e
    quiet Free j (Told t) up h e = absurd (not_is j h)
    quiet (Asking a) j (Told t) up h e = absurd (not_is j h)
    quiet (Held m) j (Told t) up h e = absurd (not_is j h)
    quiet (Converting f a) j (Told t) up h e = absurd (not_is j h)

first_report : (l : Local) (up : List Word) → replay Missing up ≡ Is l → has_report up ≡ true
first_report l [] e = absurd (missing l e)
  where
    missing : (l : Local) → Missing ≡ Is l → ⊥
    missing l e = cc
first_report l (Asked to ∷ up) e = absurd (not_stuck up l e)
first_report l (Converted to ∷ up) e = absurd (not_stuck up l e)
first_report l (Released ∷ up) e = absurd (not_stuck up l e)
first_report l (Told t ∷ up) e = refl

fits_report : (b : Bool) (lock : Lock) (n : ℕ) (up : List Word) (down : List Mode) (l : Local) → Fits (view_of b lock n) up down l → b ≡ has_report up
fits_report true lock n up [] l f = sym (first_report l up f)
fits_report false lock n up [] l f =
    elim (entry_of lock n) as (λ v. entry_of lock n ≡ v → replay v up ≡ Is l → false ≡ has_report up) [
      | Missing ↦ λ e r. absurd (never_entry (lock.held n) (asks_of n lock.conversions) (asks_of n lock.requests) e)
      | Stuck ↦ λ e r. absurd (not_stuck up l r)
      | Is k ↦ λ e r. sym (no_report k l up r)
    ] refl f
fits_report true lock n up (to ∷ []) l f = absurd (missing to f.0)
  where
    missing : (to : Mode) → Missing ≡ Is (Held to) → ⊥
    missing to e = cc
fits_report false lock n up (to ∷ []) l f = sym (ap has_report f.1)
fits_report b lock n up (to ∷ more ∷ rest) l f = absurd f

pub inv_awaits : (w : Wire) → Inv w → ReportsAreAwaited w
inv_awaits w i r n lt ln = fits_report ((w.ward r).awaited n) (lock_at w r) n (words r (w.link n (master_of w r))) (grants r (w.link (master_of w r) n)) (w.local n r) ((i.kept r lt).fitting.fits n ln)

pub inv_serves : (w : Wire) → Inv w → ServesAfterReports w
inv_serves w i r n lt e ln = sym (inv_awaits w i r n lt ln) ∙ none_awaited w r i.nodes (may_serve w r e).none n ln

pub states_are_sound : (nodes : ℕ) (past : List Call) → AreAccepted nodes past → WireSound (wire_after nodes past)
states_are_sound nodes past ok = let i = runs_keep nodes past ok in record { agree = inv_agrees _ i; awaited = inv_awaits _ i; rebuilt = inv_serves _ i }
