use Rattle.std.proofs.Common.{◌≡◌, ◌<◌, ◌^◌, ◌&&◌, ℕ, nat_lt, sym, ◌∙◌, subst, arith, Bool, refl}
use Rattle.mdc_types.specs.Bits.{has_bit}
use Rattle.leg_failure.proofs.SetLaws.{scan_more, scan_same}
use Rattle.image_array.specs.Heads.{is_pending}
use Rattle.image_array.proofs.HeadLaws.{nothing_yet, one_bit_more, one_bit_less}
use Rattle.image_array.proofs.marks.pending_slots.Goals as goal
use Rattle.image_array.proofs.marks.pending_slots.Goals.{then-is_pending, else-is_pending}

pub loop-k-init : goal.loop-k-init
loop-k-init c = record { bits = λ j. nothing_yet (is_pending c.args.images.now c.args.roles.now) j; range = omega arith }

pub loop-k-preserved : goal.loop-k-preserved
loop-k-preserved c =
    let p : ℕ → Bool = is_pending c.args.images.now c.args.roles.now in
    elim c.if-is_pending.branch [
      | then-is_pending w ↦ rw w.slots-is (record {
        bits = λ j. scan_more p c.loop-k.slots c.loop-k.k j _ w.with_node-slots.ensures (c.loop-k.invariant.bits j) (sym c.is_pending.ensures ∙ w.if-is_pending.true);
        range = one_bit_more c.loop-k.slots c.loop-k.k _ w.with_node-slots.ensures c.loop-k.invariant.range;
      })
      | else-is_pending w ↦ rw w.slots-is (record {
        bits = λ j. scan_same p c.loop-k.slots c.loop-k.k j _ refl (c.loop-k.invariant.bits j) (sym c.is_pending.ensures ∙ w.if-is_pending.false);
        range = one_bit_less c.loop-k.slots c.loop-k.k c.loop-k.invariant.range;
      })
    ]

pub returns-clause-slots : goal.returns-clause-slots
returns-clause-slots c =
    let e : c.loop-k.k ≡ c.args.nodes = omega arith in
    subst (λ n. (k : ℕ) → has_bit c.loop-k.slots k ≡ (nat_lt k n && is_pending c.args.images.now c.args.roles.now k)) e c.loop-k.invariant.bits

pub returns-clause-range : goal.returns-clause-range
returns-clause-range c =
    let e : c.loop-k.k ≡ c.args.nodes = omega arith in
    subst (λ n. c.loop-k.slots < 2 ^ n) e c.loop-k.invariant.range
