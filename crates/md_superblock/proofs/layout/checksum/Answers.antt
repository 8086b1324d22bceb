use Rattle.std.proofs.Common.{arith, subst, sym, ◌∙◌, ◌+◌, ℕ}
use Rattle.md_superblock.proofs.Sums.{Sums, sums_none, sums_word, sums_own}
use Rattle.md_superblock.proofs.layout.checksum.Goals as goal
use Rattle.md_superblock.proofs.layout.checksum.Goals.{then-k-ne-CHECKSUM, else-k-ne-CHECKSUM}

pub loop-k-init : goal.loop-k-init
loop-k-init c = sums_none c.args.bytes.now

pub loop-k-preserved : goal.loop-k-preserved
loop-k-preserved c =
    let bytes = c.args.bytes.now in
    let k = c.loop-k.k in
    elim c.if-k-ne-CHECKSUM.branch [
      | then-k-ne-CHECKSUM w ↦ subst (λ (s : ℕ). Sums bytes (k + 1) s) (sym w.sum-is) (sums_word bytes k c.loop-k.sum w.from-sum.result (λ e. w.if-k-ne-CHECKSUM.true (omega arith)) (omega arith) (w.from-sum.ensures ∙ w.u32_at.ensures) c.loop-k.invariant)
      | else-k-ne-CHECKSUM w ↦ subst (λ (s : ℕ). Sums bytes (k + 1) s) (sym w.sum-is) (sums_own bytes k c.loop-k.sum (omega arith) c.loop-k.invariant)
    ]
