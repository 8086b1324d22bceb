use Rattle.std.proofs.Common.{◌-◌, sym, ◌∙◌, inl, inr, arith}
use Rattle.std.proofs.lemmas.Bool.{cases_lt, cases_eq}
use Rattle.dlm_modes.proofs.FirstLaws.{first_such_none, first_such_some}
use Rattle.node_bitmaps.specs.Map.{bitmap_of, chunks_in}
use Rattle.mdc_types.proofs.Blocks.{found_in, before_first}
use Rattle.map_index.proofs.indexed_map.IndexedMap.first_lacking.Goals as goal

pub unmarked_target-requires : goal.unmarked_target-requires
unmarked_target-requires c = rw c.self.view_is (found_in (bitmap_of c.args.self.now).set c.loop-c.from (chunks_in c.args.self.now) c.in-Some.c (sym c.first_set_from.ensures ∙ c.in-Some.is)).1

pub returns-in-Some-unmarked_target-clause-some : goal.returns-in-Some-unmarked_target-clause-some
returns-in-Some-unmarked_target-clause-some c =
    let found = sym c.first_set_from.ensures ∙ c.in-Some.is in
    record {
      within = (found_in (bitmap_of c.args.self.now).set c.loop-c.from (chunks_in c.args.self.now) c.in-Some.c found).1;
      in_set = (first_such_some (bitmap_of c.args.self.now).set c.loop-c.from (chunks_in c.args.self.now - c.loop-c.from) c.in-Some.c found).passes;
      leg = rw (← c.self.view_is) (sym c.unmarked_target.ensures ∙ c.in-Some-unmarked_target.is);
      before = λ k lt is. elim (cases_lt k c.loop-c.from) [
        | inl early ↦ c.loop-c.invariant k early is
        | inr late ↦ let f = before_first (bitmap_of c.args.self.now).set c.loop-c.from (chunks_in c.args.self.now - c.loop-c.from) c.in-Some.c found k late lt in cc
      ];
    }

pub overflow_add-from : goal.overflow_add-from
overflow_add-from c =
    let lt = rw (← c.self.view_is) at (found_in (bitmap_of c.args.self.now).set c.loop-c.from (chunks_in c.args.self.now) c.in-Some.c (sym c.first_set_from.ensures ∙ c.in-Some.is)).1 in
    omega (arith, lt, c.self.invariant.set_in.enough, c.self.invariant.set_in.few)

pub loop-c-smaller : goal.loop-c-smaller
loop-c-smaller c =
    let at = found_in (bitmap_of c.args.self.now).set c.loop-c.from (chunks_in c.args.self.now) c.in-Some.c (sym c.first_set_from.ensures ∙ c.in-Some.is) in
    omega (arith, at.0, at.1)

pub loop-c-preserved : goal.loop-c-preserved
loop-c-preserved c = λ k lt is. elim (cases_lt k c.loop-c.from) [
  | inl early ↦ c.loop-c.invariant k early is
  | inr late ↦ elim (cases_eq k c.in-Some.c) [
    | inl same ↦ rw (same, ← c.self.view_is) (sym c.unmarked_target.ensures ∙ c.in_default-unmarked_target.is)
    | inr other ↦ let f = before_first (bitmap_of c.args.self.now).set c.loop-c.from (chunks_in c.args.self.now - c.loop-c.from) c.in-Some.c (sym c.first_set_from.ensures ∙ c.in-Some.is) k late (omega (arith, lt, other)) in cc
  ]
]

pub returns-clause-none : goal.returns-clause-none
returns-clause-none c = λ none k below is. elim (cases_lt k c.loop-c.from) [
  | inl early ↦ c.loop-c.invariant k early is
  | inr late ↦ let f = first_such_none (bitmap_of c.args.self.now).set c.loop-c.from (chunks_in c.args.self.now - c.loop-c.from) (sym c.first_set_from.ensures ∙ c.in_default.is) k late (omega (arith, below, late)) in cc
]
