use Rattle.std.proofs.Common.{◌≡◌, ℕ, List, [], ◌∷◌, codes, decimal, string_bytes, refl, subst, ◌∙◌}
use Rattle.std.specs.Prelude.{IfOk}
use Rattle.report_text.specs.Lines.{line}
use Rattle.report_text.specs.Sets.{numbers_text}
use Rattle.report_text.proofs.queries.record_text.Goals as goal

abbrev record_with : List ℕ → List ℕ → ℕ → ℕ → List ℕ
record_with live pending drawn completed =
    line (codes "record") (codes "live" ∷ numbers_text live ∷ codes "pending" ∷ numbers_text pending ∷ codes "drawn" ∷ decimal drawn ∷ codes "completed" ∷ decimal completed ∷ [])

record_same : (a b : List ℕ) (d e : ℕ) (a₂ b₂ : List ℕ) (d₂ e₂ : ℕ) → a ≡ a₂ → b ≡ b₂ → d ≡ d₂ → e ≡ e₂ → record_with a b d e ≡ record_with a₂ b₂ d₂ e₂
record_same a b d e a₂ b₂ d₂ e₂ p q r s = rw (p, q, r, s) refl

pub returns : goal.returns
returns c =
    subst (λ (text : List ℕ). IfOk c.node_sets.result (λ t. string_bytes t ≡ text))
    (record_same _ _ _ _ _ _ _ _ (c.deref.ensures.value ∙ c.in_ok-live.ensures) (c.deref-2.ensures.value ∙ c.in_ok-pending.ensures) c.drawn.ensures c.completed.ensures)
    c.node_sets.ensures
