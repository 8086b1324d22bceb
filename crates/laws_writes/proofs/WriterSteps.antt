-- Each way keeps that a sector has one live write.
use Rattle.std.proofs.Common.{◌≡◌, ◌⊎◌, inl, inr, ℕ, ◌==◌, true, List, arith}
use Rattle.std.proofs.lemmas.Bool.Decides.{nat_tests}
use Rattle.mdc_types.specs.declared.numbers.Sector.{Sector}
use Rattle.mirror_io.specs.declared.live.LiveWrite.{LiveWrite}
use Rattle.storage_ways.proofs.Parts.{Part, write_of, writes_at}
use Rattle.storage_ways.proofs.Sound.{Sound}
use Rattle.storage_ways.proofs.Ways.{Way, Asking}
use Rattle.storage_ways.proofs.Ways as ways
use Rattle.laws_writes.proofs.Bits.{Bits, OneWriter, OneWrite}
use Rattle.laws_writes.proofs.Flights.{was_out, was_missed, was_ended, was_dead, IsAsked, asked_or_was, none_asked}

same_both : (a b c : ℕ) → a ≡ c → b ≡ c → (a == b) ≡ true
same_both a b c e f = grind (arith, nat_tests)

-- of two live writes of one sector both were before, or both are the one that is asked
one_asked : (w : Part) (n s k : ℕ) (v : Sector) (new : List LiveWrite) → Asking w n s k v new → (a m i j u : ℕ)
    → IsAsked n s k a i u ⊎ (writes_at (write_of w a i) u ≡ true) → IsAsked n s k m j u ⊎ (writes_at (write_of w m j) u ≡ true)
    → (IsAsked n s k a i u × IsAsked n s k m j u) ⊎ ((writes_at (write_of w a i) u ≡ true) × (writes_at (write_of w m j) u ≡ true))
one_asked w n s k v new x a m i j u (inl e) (inl f) = inl (e, f)
one_asked w n s k v new x a m i j u (inr e) (inr f) = inr (e, f)
one_asked w n s k v new x a m i j u (inl e) (inr f) = absurd (none_asked w n s k v new x m j u e.sector f)
one_asked w n s k v new x a m i j u (inr e) (inl f) = absurd (none_asked w n s k v new x a i u f.sector e)

pub one_writer : (w v : Part) → Way w v → Sound w → Bits w → OneWriter v
one_writer w v (ways.dies n told p) sound bits a m i j u = λ e f. bits.one_writer a m i j u (was_dead w n a i u e) (was_dead w n m j u f)
one_writer w v (ways.asks n t k y new x) sound bits a m i j u = λ e f.
    elim (one_asked w n t k y new x a m i j u (asked_or_was w n t k y new x a i u e) (asked_or_was w n t k y new x m j u f)) [
      | inl h ↦ same_both a m n h.0.node h.1.node
      | inr h ↦ bits.one_writer a m i j u h.0 h.1
    ]
one_writer w v (ways.outs n k l x t) sound bits a m i j u = λ e f. bits.one_writer a m i j u (was_out w n k l x t a i u e) (was_out w n k l x t m j u f)
one_writer w v (ways.misses n k l x left t) sound bits a m i j u = λ e f. bits.one_writer a m i j u (was_missed w n k l x t a i u e) (was_missed w n k l x t m j u f)
one_writer w v (ways.ends n k x z) sound bits a m i j u = λ e f. bits.one_writer a m i j u (was_ended w n k x z.ending a i u e) (was_ended w n k x z.ending m j u f)
one_writer w v (ways.breaks n k x z) sound bits a m i j u = λ e f. bits.one_writer a m i j u (was_ended w n k x z a i u e) (was_ended w n k x z m j u f)
one_writer w v x sound bits a m i j u = bits.one_writer a m i j u

pub one_write : (w v : Part) → Way w v → Sound w → Bits w → OneWrite v
one_write w v (ways.dies n told p) sound bits a m i j u = λ e f. bits.one_write a m i j u (was_dead w n a i u e) (was_dead w n m j u f)
one_write w v (ways.asks n t k y new x) sound bits a m i j u = λ e f.
    elim (one_asked w n t k y new x a m i j u (asked_or_was w n t k y new x a i u e) (asked_or_was w n t k y new x m j u f)) [
      | inl h ↦ same_both i j k h.0.number h.1.number
      | inr h ↦ bits.one_write a m i j u h.0 h.1
    ]
one_write w v (ways.outs n k l x t) sound bits a m i j u = λ e f. bits.one_write a m i j u (was_out w n k l x t a i u e) (was_out w n k l x t m j u f)
one_write w v (ways.misses n k l x left t) sound bits a m i j u = λ e f. bits.one_write a m i j u (was_missed w n k l x t a i u e) (was_missed w n k l x t m j u f)
one_write w v (ways.ends n k x z) sound bits a m i j u = λ e f. bits.one_write a m i j u (was_ended w n k x z.ending a i u e) (was_ended w n k x z.ending m j u f)
one_write w v (ways.breaks n k x z) sound bits a m i j u = λ e f. bits.one_write a m i j u (was_ended w n k x z a i u e) (was_ended w n k x z m j u f)
one_write w v x sound bits a m i j u = bits.one_write a m i j u
