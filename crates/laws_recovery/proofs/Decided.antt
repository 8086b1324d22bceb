-- Who answers for what a leg missed, where a sector is decided.
use Rattle.std.proofs.Common.{◌≡◌, ℕ, ◌==◌, ◌&&◌, ◌||◌, true, sym, subst}
use Rattle.mdc_types.specs.Roles.{is_written}
use Rattle.mdc_types.specs.declared.numbers.Sector.{Sector}
use Rattle.storage_ways.proofs.Parts.{Part, chunk_in, recovers, found_in}
use Rattle.laws_writes.proofs.Ghosts.{Ghost, undecided, with_value}
use Rattle.laws_writes.proofs.KeeperSteps.{keeper_set}
use Rattle.laws_writes.proofs.Settled.{Since}
use Rattle.laws_recovery.proofs.Ghosts.{Hold, with_keeper}
use Rattle.laws_recovery.proofs.Known.{Known}
use Rattle.laws_recovery.proofs.Lacks.{Decides, lacked, lacked_written, not_there}
use Rattle.laws_writes.proofs.Points.{clash, either_if, and_left, and_right, same_point}
use Rattle.laws_recovery.proofs.Stale.{lacks}

module _ (w : Part) (g : Ghost) (h : Hold) (z : Since) (a : Known w g h z) (n t : ℕ) (v : Sector) (d : Decides w g n t v) where
  -- where two values stood their keeper answers, and else it is as before
  by_keeper : (P : ℕ → ℕ → Type 0) (l s : ℕ) → lacks w (with_value g t v) l s ≡ true
      → (undecided g t ≡ true → P (g.keeper t) t) → (lacks w g l s ≡ true → P (h.hold l s) s) → P ((with_keeper h g t).hold l s) s
  by_keeper P l s lack new old = either_if (λ k. P k s) ((s == t) && undecided g t) (g.keeper t) (h.hold l s)
      (λ e. subst (λ q. P (g.keeper t) q) (sym (same_point s t (and_left (s == t) (undecided g t) e))) (new (and_right (s == t) (undecided g t) e)))
      (λ e. old (lacked w g a.sound n t v d l s e lack))

  -- a leg that all write to lacks what it did, elsewhere
  pub decided_else : (P : ℕ → Type 0) (l s : ℕ) → is_written (w.ghost.agreed.role l) ≡ true → lacks w (with_value g t v) l s ≡ true
      → (lacks w g l s ≡ true → P (h.hold l s)) → P ((with_keeper h g t).hold l s)
  decided_else P l s written lack old = either_if P ((s == t) && undecided g t) (g.keeper t) (h.hold l s)
      (λ e. absurd (clash (s == t) (and_left (s == t) (undecided g t) e) (not_there w g a.sound n t v d l s written lack)))
      (λ e. old (lacked_written w g a.sound n t v d l s written lack))

  pub decided_holder : (l s : ℕ) → w.ghost.missed l ≡ true → lacks w (with_value g t v) l s ≡ true
      → (w.live ((with_keeper h g t).hold l s) || w.pending ((with_keeper h g t).hold l s)) ≡ true
  decided_holder l s missed lack = by_keeper (λ k q. (w.live k || w.pending k) ≡ true) l s lack (λ two. a.intents.keeper t two) (λ old. a.stale.holder l s missed old)

  pub decided_bit : (l s x : ℕ) → w.ghost.good x ≡ true → lacks w (with_value g t v) l s ≡ true
      → (lacks w g l s ≡ true → w.bit (h.hold l s) (chunk_in w s) x ≡ true) → w.bit ((with_keeper h g t).hold l s) (chunk_in w s) x ≡ true
  decided_bit l s x good lack old = by_keeper (λ k q. w.bit k (chunk_in w q) x ≡ true) l s lack (λ two. a.intents.keeper_bit t x two good) old

  pub decided_set : (l s : ℕ) → w.ghost.missed l ≡ true → lacks w (with_value g t v) l s ≡ true
      → w.live ((with_keeper h g t).hold l s) ≡ true → (w.bitmap ((with_keeper h g t).hold l s)).set (chunk_in w s) ≡ true
  decided_set l s missed lack = by_keeper (λ k q. w.live k ≡ true → (w.bitmap k).set (chunk_in w q) ≡ true) l s lack
      (λ two. keeper_set w g a.bits a.intents t two) (λ old. a.stale.holder_set l s missed old)

  pub decided_read : (l s m : ℕ) → w.ghost.missed l ≡ true → lacks w (with_value g t v) l s ≡ true
      → recovers (w.recovery m) ((with_keeper h g t).hold l s) ≡ true → found_in (w.recovery m) (chunk_in w s) ≡ true → (w.bitmap m).set (chunk_in w s) ≡ true
  decided_read l s m missed lack = by_keeper (λ k q. recovers (w.recovery m) k ≡ true → found_in (w.recovery m) (chunk_in w q) ≡ true → (w.bitmap m).set (chunk_in w q) ≡ true) l s lack
      (λ two recover found. a.bits.need_set m (chunk_in w t) (a.intents.keeper_read t m two recover found)) (λ old. a.stale.holder_read l s m missed old)
