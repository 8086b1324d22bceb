-- The first chunk that may leave a node's set, by the first for which the guards of the chunk hold.
use Rattle.std.proofs.Common.{◌≡◌, ℕ, ◌+◌, ◌-◌, ◌<◌, ◌≤◌, Bool, true, false, not, ◌&&◌, List, [], ◌∷◌, Option, Some, None, refl, ap, sym, ◌∙◌, arith, if◌then◌else◌}
use Rattle.std.specs.Prelude.{is_none, nat_lt}
use Rattle.std.proofs.lemmas.Bool.Decides.{nat_tests}
use Rattle.dlm_modes.specs.First.{first_such}
use Rattle.dlm_modes.specs.Guards.{first_of, unless}
use Rattle.dlm_modes.proofs.FirstLaws.{first_such_some}
use Rattle.mdc_types.specs.Geometry.{chunks_of, chunk_start, chunk_end}
use Rattle.mdc_types.specs.declared.events.Event.{Event}
use Rattle.mdc_types.specs.declared.events.Event.TheVariants.{Clear}
use Rattle.mdc_types.specs.declared.refusals.Refusal.{Refusal}
use Rattle.mdc_types.specs.declared.refusals.Refusal.TheVariants.{NotUp, NoChunk, NotNeeded, Draining, Needed, Degraded}
use Rattle.mirror_io.specs.Flight.{write_within}
use Rattle.cluster_model.specs.State.{Core, sizes}
use Rattle.cluster_model.specs.Bits.{is_degraded}
use Rattle.cluster_model.specs.Guards.{refused_by, no_node, not_fenced, is_out, unacked}
use Rattle.cluster_model.specs.Phases.{needs_up}
use Rattle.cluster_model.specs.Table.{refusal}
use Rattle.world_state.specs.Ready.{Ready}
use Rattle.driver_rules.specs.Lines.{allowed, allowed_at, chunk_to_clear}
use Rattle.helper_lines.specs.Chunks.{is_settled, rests, is_still}
use Rattle.helper_lines.proofs.Firsts.{first_such_never, first_such_here, first_such_none_at, first_such_some_at, first_such_before, within, among_found, among_more, among_none}

-- where one of the chunk's own guards refuses, all are refused
fails : (a b c d chunk : Option Refusal) (set settled : Bool) (r s : Refusal) (write : Option ℕ) (u w : Option Refusal)
    → ((set && settled) && is_none write) ≡ false
    → is_none (first_of (a ∷ b ∷ c ∷ d ∷ chunk ∷ unless set r ∷ refused_by Draining write ∷ unless settled s ∷ u ∷ w ∷ [])) ≡ false
fails (Some x) b c d chunk set settled r s write u w is = refl
fails None (Some x) c d chunk set settled r s write u w is = refl
fails None None (Some x) d chunk set settled r s write u w is = refl
fails None None None (Some x) chunk set settled r s write u w is = refl
fails None None None None (Some x) set settled r s write u w is = refl
fails None None None None None false settled r s write u w is = refl
fails None None None None None true settled r s (Some k) u w is = refl
fails None None None None None true false r s None u w is = refl
fails None None None None None true true r s None u w is = cc

-- where none of them does, the others judge
passes : (a b c d chunk : Option Refusal) (set settled : Bool) (r s : Refusal) (write : Option ℕ) (u w : Option Refusal)
    → chunk ≡ None → ((set && settled) && is_none write) ≡ true
    → first_of (a ∷ b ∷ c ∷ d ∷ chunk ∷ unless set r ∷ refused_by Draining write ∷ unless settled s ∷ u ∷ w ∷ []) ≡ first_of (a ∷ b ∷ c ∷ d ∷ u ∷ w ∷ [])
passes (Some x) b c d chunk set settled r s write u w there is = refl
passes None (Some x) c d chunk set settled r s write u w there is = refl
passes None None (Some x) d chunk set settled r s write u w there is = refl
passes None None None (Some x) chunk set settled r s write u w there is = refl
passes None None None None (Some x) set settled r s write u w there is = cc
passes None None None None None false settled r s write u w there is = cc
passes None None None None None true false r s write u w there is = cc
passes None None None None None true true r s (Some k) u w there is = cc
passes None None None None None true true r s None u w there is = refl

in_range : (k n : ℕ) (r : Refusal) → k < n → unless (nat_lt k n) r ≡ None
in_range k n r lt = let is : nat_lt k n ≡ true = grind (arith, nat_tests) in rw is refl

first_and : (a b : Bool) → (a && b) ≡ true → a ≡ true
first_and true b is = refl
first_and false b is = is

at_most : (second : Bool) (n : ℕ) → n ≤ (if second then 63488 else 30720) → n ≤ 63488
at_most true n le = le
at_most false n le = omega arith

module _ (core : Core) (n : ℕ) where
  abbrev may_leave : ℕ → Bool
  may_leave c = is_none (refusal core (Clear n c))

  abbrev chunks : ℕ
  chunks = chunks_of (sizes core)

  abbrev write_at : ℕ → Option ℕ
  write_at c = write_within (chunk_start (sizes core) c) (chunk_end (sizes core) c) (core.writes n)

  abbrev out : Option Refusal
  out = unless (not (is_out (core.state n))) (NotUp n)

  abbrev whole : Option Refusal
  whole = refused_by Degraded (first_such (is_degraded (core.view n)) 0 8)

  stays : (c : ℕ) → is_still core n c ≡ false → may_leave c ≡ false
  stays c is = fails (no_node core n) (not_fenced core n) out (needs_up core n) (unless (nat_lt c chunks) (NoChunk c))
      ((core.bitmap n).set c) (not ((core.bitmap n).need c)) NotNeeded (Needed c) (write_at c) (unacked core n) whole is

  judged : (c : ℕ) → c < chunks → is_still core n c ≡ true → refusal core (Clear n c) ≡ first_of (no_node core n ∷ not_fenced core n ∷ out ∷ needs_up core n ∷ unacked core n ∷ whole ∷ [])
  judged c lt is = passes (no_node core n) (not_fenced core n) out (needs_up core n) (unless (nat_lt c chunks) (NoChunk c))
      ((core.bitmap n).set c) (not ((core.bitmap n).need c)) NotNeeded (Needed c) (write_at c) (unacked core n) whole (in_range c chunks (NoChunk c) lt) is

  -- still chunks, by those that are set and aren't to be copied

  only_settled : (c : ℕ) → is_still core n c ≡ true → is_settled core n c ≡ true
  only_settled c is = first_and (is_settled core n c) (rests core n c) is

  still_if : (c : ℕ) (b : Bool) → is_settled core n c ≡ true → rests core n c ≡ b → is_still core n c ≡ b
  still_if c b settled rest = rw (settled, rest) refl

  pub settled_there : (f c : ℕ) → first_such (is_settled core n) f (chunks - f) ≡ Some c → (f ≤ c) × (c < chunks)
  settled_there f c is =
      let first = first_such_some (is_settled core n) f (chunks - f) c is in
      (first.from, within f c chunks first.from first.below)

  pub still_found : (f c : ℕ) → first_such (is_settled core n) f (chunks - f) ≡ Some c → rests core n c ≡ true → first_such (is_still core n) f (chunks - f) ≡ Some c
  still_found f c is rest =
      among_found (is_settled core n) (is_still core n) only_settled f chunks c is (still_if c true (first_such_some (is_settled core n) f (chunks - f) c is).passes rest)

  pub still_more : (f c : ℕ) → first_such (is_settled core n) f (chunks - f) ≡ Some c → rests core n c ≡ false → first_such (is_still core n) f (chunks - f) ≡ first_such (is_still core n) (c + 1) (chunks - (c + 1))
  still_more f c is rest =
      among_more (is_settled core n) (is_still core n) only_settled f chunks c is (still_if c false (first_such_some (is_settled core n) f (chunks - f) c is).passes rest)

  pub still_none : (f : ℕ) → first_such (is_settled core n) f (chunks - f) ≡ None → first_such (is_still core n) f (chunks - f) ≡ None
  still_none f is = among_none (is_settled core n) (is_still core n) only_settled f chunks is

  pub few_chunks : Ready core → chunks ≤ 63488
  few_chunks ready = at_most (sizes core).second chunks ready.range.legs.sizes_fit.bits

  -- the first still chunk, if there is one, tells of all

  pub clear_none : first_such (is_still core n) 0 chunks ≡ None → chunk_to_clear core n ≡ None
  clear_none none = first_such_never may_leave chunks (λ j lt. stays j (first_such_none_at (is_still core n) chunks none j lt))

  below : (c : ℕ) → first_such (is_still core n) 0 chunks ≡ Some c → c < chunks
  below c is = (first_such_some_at (is_still core n) chunks c is).0

  pub clear_some : (c : ℕ) → first_such (is_still core n) 0 chunks ≡ Some c → refusal core (Clear n c) ≡ None → chunk_to_clear core n ≡ Some c
  clear_some c is accepted =
      first_such_here may_leave chunks c (below c is) (ap is_none accepted) (λ j lt. stays j (first_such_before (is_still core n) chunks c is j lt))

  pub clear_refused : (c : ℕ) (r : Refusal) → first_such (is_still core n) 0 chunks ≡ Some c → refusal core (Clear n c) ≡ Some r → chunk_to_clear core n ≡ None
  clear_refused c r is refused =
      let here : refusal core (Clear n c) ≡ first_of (no_node core n ∷ not_fenced core n ∷ out ∷ needs_up core n ∷ unacked core n ∷ whole ∷ []) = judged c (below c is) (first_such_some_at (is_still core n) chunks c is).1 in
      first_such_never may_leave chunks (λ j lt.
      elim (is_still core n j) as (λ b. is_still core n j ≡ b → may_leave j ≡ false) [
        | true ↦ λ still. ap is_none (judged j lt still ∙ sym here ∙ refused)
        | false ↦ λ moves. stays j moves
      ] refl)

  -- the chunk that was found is allowed
  pub clear_allowed : (c : ℕ) → chunk_to_clear core n ≡ Some c → allowed_at core (Clear n) (chunk_to_clear core n) ≡ Some (Clear n c)
  clear_allowed c is =
      let accepted : may_leave c ≡ true = (first_such_some_at may_leave chunks c is).1 in
      ap (allowed_at core (Clear n)) is ∙ ap (λ b. if b then Some (Clear n c) else None) accepted
