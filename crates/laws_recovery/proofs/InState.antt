-- What follows of stale legs in one state.
use Rattle.std.proofs.Common.{◌≡◌, ◌⊎◌, inl, inr, ℕ, ◌+◌, ◌*◌, ◌<◌, ◌≤◌, ◌==◌, ◌&&◌, ◌||◌, not, Bool, true, false, Option, Some, None, refl, sym, ap, subst, ◌∙◌, arith}
use Rattle.std.specs.Prelude.{is_some, nat_lt}
use Rattle.std.proofs.lemmas.Bool.{cases_lt}
use Rattle.std.proofs.lemmas.Bool.Decides.{nat_tests}
use Rattle.mdc_types.specs.Geometry.{chunk_of, page_of, pages_of, nodes_of}
use Rattle.mdc_types.specs.Roles.{is_working, is_faulty}
use Rattle.mdc_types.specs.declared.events.Wish.TheVariants as wishes
use Rattle.mdc_types.specs.declared.roles.Role.TheVariants.{Faulty}
use Rattle.node_recovery.specs.Progress.{Recovering}
use Rattle.resync_worker.specs.Copying.{Passing}
use Rattle.resync_worker.specs.Sectors.{is_behind}
use Rattle.resync_worker.specs.declared.buffer.Buffer.{Buffer}
use Rattle.leg_failure.specs.Views.{works}
use Rattle.plain_history.specs.History.{IsIn}
use Rattle.cluster_model.specs.State.{State, Offer, sizes}
use Rattle.cluster_model.specs.Copying.{buffer_of, buffer_in as core_buffer_in}
use Rattle.cluster_model.specs.Gathering.{is_again_of}
use Rattle.cluster_model.specs.Phases.{is_metadata, is_up}
use Rattle.cluster_model.specs.Served.{NoTrustedLegIsStale, Missed, MarkedOnTrusted, Stale, CalledFaulty, CalledIn}
use Rattle.cluster_model.specs.Stored.{bit_on, data_on}
use Rattle.laws_roles.proofs.InState.{up_in, same_leg}
use Rattle.laws_roles.proofs.Parts as roles
use Rattle.laws_roles.proofs.Parts.{number, said_role, changes_super, offered_role, promotes, wished, covered_by}
use Rattle.storage_ways.proofs.Moving.{Traced, around}
use Rattle.storage_ways.proofs.Parts.{Part, found_in, todo_in, buffer_in, reached_in, recovers, is_heir}
use Rattle.storage_ways.proofs.Place.{here, Place}
use Rattle.storage_ways.proofs.Roled.{up_served_good}
use Rattle.laws_writes.proofs.Ghosts.{Ghost, is_among}
use Rattle.laws_writes.proofs.Contents.{is_stale}
use Rattle.laws_writes.proofs.Kept.{trusted_good, some_good}
use Rattle.laws_writes.proofs.Settled.{Since}
use Rattle.laws_writes.proofs.Values.{ValuesAre, among_in}
use Rattle.laws_recovery.specs.Laws.{RebuildHolds, IsLeft, slot_left, read_left, Holds, AgainHolds, IsFound, was_gathered, will_be_gathered, slot_found, read_found}
use Rattle.laws_recovery.proofs.Ghosts.{Hold}
use Rattle.laws_recovery.proofs.Known.{Known}
use Rattle.laws_writes.proofs.Points.{clash}
use Rattle.laws_recovery.proofs.Stale.{lacks}

both : (a b : Bool) → (a && b) ≡ true → (a ≡ true) × (b ≡ true)
both a b e = grind arith

fresh : (a b : Bool) → a ≡ true → (a && not b) ≡ false → b ≡ true
fresh a b t e = grind arith

lack : (a b : Bool) → a ≡ true → b ≡ false → (a && not b) ≡ true
lack a b t e = grind arith

no_lack : (a b : Bool) → b ≡ false → (a && b) ≡ false
no_lack a b e = grind arith

good_or : (f good : Bool) → (f || good) ≡ true → (good ≡ true → ⊥) → f ≡ true
good_or true good e not_good = refl
good_or false good e not_good = absurd (not_good e)

module _ (state : State) (rg : roles.Ghost) (tr : Traced) (p : Place state.core (around state.core state.legs rg tr)) (g : Ghost) (h : Hold) (z : Since)
    (a : Known (here state.core (around state.core state.legs rg tr)) g h z) (same : ValuesAre (here state.core (around state.core state.legs rg tr)) g) where
  abbrev W : Part
  W = here state.core (around state.core state.legs rg tr)

  below : (s : ℕ) → s < (sizes state.core).room → nat_lt s (sizes state.core).room ≡ true
  below s lt = grind (arith, nat_tests)

  -- a leg that lacks nothing at a sector of the room holds a candidate there, and one that is stale lacks it
  holds_by : (l s : ℕ) → s < (sizes state.core).room → lacks W g l s ≡ false → Holds state tr.values l s
  holds_by l s lt e = subst (λ vs. IsIn (data_on (sizes state.core) state.legs l s) vs) (same s lt) (among_in _ (g.values s) (fresh (nat_lt s (sizes state.core).room) (is_among (data_on (sizes state.core) state.legs l s) (g.values s)) (below s lt) e))

  lacks_by : (l s : ℕ) → s < (sizes state.core).room → Stale state tr.values l s → lacks W g l s ≡ true
  lacks_by l s lt stale = by (lacks W g l s) refl
    where
      by : (b : Bool) → lacks W g l s ≡ b → b ≡ true
      by true e = refl
      by false e = absurd (stale (holds_by l s lt e))

  pub serves_fresh : NoTrustedLegIsStale state tr.values
  serves_fresh l s leg lt t = holds_by l s lt (a.stale.not_stale l s (trusted_good state rg tr p l t))

  -- what an up node reads from holds a candidate
  pub served_holds : (n l s : ℕ) → is_up (state.core.state n) ≡ true → works (state.core.view n) l ≡ true → s < (sizes state.core).room → Holds state tr.values l s
  served_holds n l s up works_there lt = holds_by l s lt (a.stale.not_stale l s (up_served_good W a.sound n l up works_there))

  -- a slot with a bit on each good leg marks the chunk on each leg that may be read
  marks_all : (k s : ℕ) → ((x : ℕ) → rg.good x ≡ true → W.bit k (chunk_of (sizes state.core) s) x ≡ true) → MarkedOnTrusted state k s
  marks_all k s bit =
      let some = some_good state rg tr p in
      record {
        slot = a.sound.within.slots k (chunk_of (sizes state.core) s) some.0 (bit some.0 some.1);
        marked = λ x leg t. (both (nat_lt k (nodes_of (sizes state.core))) (bit_on (sizes state.core) state.legs k (chunk_of (sizes state.core) s) x) (bit x (trusted_good state rg tr p x t))).1;
      }

  called_faulty : (l : ℕ) → CalledFaulty state l ⊎ CalledIn state Faulty l → (is_faulty (rg.agreed.role l) || rg.good l) ≡ true
  called_faulty l (inl c) = p.roles.view_faulty c.node l (up_in (state.core.state c.node) c.up) (ap is_faulty c.role)
  called_faulty l (inr c) =
      let is = c.current.stands in
      p.roles.super_faulty c.leg l (subst (λ x. state.core.members.completed ≤ number x) (sym is) c.current.new) (ap (λ x. is_faulty (said_role x l)) is ∙ ap is_faulty c.called)

  pub marks_missed : Missed state tr.values
  marks_missed l s leg lt called stale =
      let lacking = lacks_by l s lt stale in
      let faulty = good_or (is_faulty (rg.agreed.role l)) (rg.good l) (called_faulty l called) (λ good. clash (lacks W g l s) lacking (a.stale.not_stale l s good)) in
      (h.hold l s, marks_all (h.hold l s) s (λ x good. a.stale.holder_good l s x faulty lacking good))

  -- Rebuilding.

  found_by : (x : Option Recovering) (c : ℕ) → found_in x c ≡ true → (r : Recovering) × (x ≡ Some r) × (r.found c ≡ true)
  found_by None c e = cc
  found_by (Some r) c e = (r, refl, e)

  left_by : (n l s : ℕ) (q : Passing) → (state.core.copy n).pass ≡ Some q → q.covered l ≡ true → q.todo (chunk_of (sizes state.core) s) ≡ false → lacks W g l s ≡ true → IsLeft state s
  left_by n l s q pass covered copied lacking =
      let k = h.hold l s in
      let c = chunk_of (sizes state.core) s in
      let cover = ap (λ x. covered_by x l) pass ∙ covered in
      let done = ap (λ x. todo_in x c) pass ∙ copied in
      by (state.core.members.pending k) refl (a.stale.covered_arm n l s cover lacking done)
    where
      by : (b : Bool) → state.core.members.pending (h.hold l s) ≡ b → (b || found_in (state.core.recovery (h.hold l s)) (chunk_of (sizes state.core) s)) ≡ true → IsLeft state s
      by true e t = slot_left (h.hold l s) e (marks_all (h.hold l s) s (λ x good. a.stale.covered_good n l s x (ap (λ y. covered_by y l) pass ∙ covered) lacking (ap (λ y. todo_in y (chunk_of (sizes state.core) s)) pass ∙ copied) good))
      by false e t = let r = found_by (state.core.recovery (h.hold l s)) (chunk_of (sizes state.core) s) t in read_left (h.hold l s) r.0 r.1 r.2

  pub rebuilds : RebuildHolds tr.values state
  rebuilds = record {
    settled = λ n l s q pass covered lt behind. holds_by l s lt (settled_fresh n l s q pass covered behind);
    copied = λ n l s q pass covered lt copied. copied_by n l s q pass covered lt copied (lacks W g l s) refl;
    promoted = λ n l s o is work lt. holds_by l s lt (a.stale.not_stale l s (promoted_good n l o is work));
    buffer = λ n b is. buffer_by n b is;
  }
    where
      settled_fresh : (n l s : ℕ) (q : Passing) → (state.core.copy n).pass ≡ Some q → q.covered l ≡ true → is_behind (sizes state.core) q.reached s ≡ true → lacks W g l s ≡ false
      settled_fresh n l s q pass covered behind =
          no_lack (nat_lt s (sizes state.core).room) (is_stale W g l s)
          (a.contents.covered_settled n l s (ap (λ x. covered_by x l) pass ∙ covered) (ap (λ x. is_some x && is_behind (sizes state.core) (reached_in x) s) pass ∙ behind))

      copied_by : (n l s : ℕ) (q : Passing) → (state.core.copy n).pass ≡ Some q → q.covered l ≡ true → s < (sizes state.core).room → q.todo (chunk_of (sizes state.core) s) ≡ false → (b : Bool) → lacks W g l s ≡ b → Holds state tr.values l s ⊎ IsLeft state s
      copied_by n l s q pass covered lt copied true e = inr (left_by n l s q pass covered copied e)
      copied_by n l s q pass covered lt copied false e = inl (holds_by l s lt e)

      promoted_good : (n l : ℕ) (o : Offer) → state.core.offer n ≡ Some o → o.wish ≡ wishes.Work l → rg.good l ≡ true
      promoted_good n l o is work =
          let wish : wished promotes (state.core.offer n) l ≡ true = ap (λ x. wished promotes x l) is ∙ ap (λ x. promotes x l) work ∙ same_leg l in
          p.roles.offer_good n l (ap changes_super is ∙ ap is_metadata work) (p.additions.work_offered n l wish)

      buffer_by : (n : ℕ) (b : Buffer) → buffer_of state.core n ≡ Some b → IsIn b.value (tr.values b.sector)
      buffer_by n b is = by (state.core.copy n).pass refl is
        where
          by : (x : Option Passing) → (state.core.copy n).pass ≡ x → core_buffer_in x ≡ Some b → IsIn b.value (tr.values b.sector)
          by None pass e = cc
          by (Some q) pass e =
              let among = a.stale.buffer_value n b (ap buffer_in pass ∙ e) in
              let lt = a.sound.within.buffer n q b pass e in
              subst (λ vs. IsIn b.value vs) (same b.sector lt) (among_in b.value (g.values b.sector) among)

  -- What a leg missed that is added again.

  pub adds_again : AgainHolds rg.agreed tr.values state
  adds_again n l s is lt stale = record {
    slot = h.hold l s;
    marked = λ x working. (both (nat_lt (h.hold l s) (nodes_of (sizes state.core))) (bit_on (sizes state.core) state.legs (h.hold l s) (chunk_of (sizes state.core) s) x)
        (a.stale.holder_working l s x (a.sound.additions.again_missed n l again) lacking (ap is_working working))).1;
    found = by_gathered ((state.core.adding n).gathering.gathered (chunk_of (sizes state.core) s)) refl;
  }
    where
      again : is_again_of (state.core.adding n).addition l ≡ true
      again = ap (λ x. is_again_of x l) is ∙ same_leg l

      lacking : lacks W g l s ≡ true
      lacking = lacks_by l s lt stale

      needed : (m : ℕ) (r : Recovering) → state.core.recovery m ≡ Some r → r.found (chunk_of (sizes state.core) s) ≡ true → 0 < (state.core.adding n).gathering.next → (state.core.bitmap m).need (chunk_of (sizes state.core) s) ≡ true
      needed m r rec found some =
          a.settled.read_need m s lt (ap (λ y. found_in y (chunk_of (sizes state.core) s)) rec ∙ found) (a.stale.again_fresh n l s m again lacking some (ap is_some rec))

      by_arm : (b : Bool) → state.core.members.pending (h.hold l s) ≡ b → (b || found_in (state.core.recovery (h.hold l s)) (chunk_of (sizes state.core) s)) ≡ true
          → (state.core.adding n).gathering.gathered (chunk_of (sizes state.core) s) ≡ false → h.hold l s * pages_of (sizes state.core) + page_of (chunk_of (sizes state.core) s) < (state.core.adding n).gathering.next
          → IsFound rg.agreed state n (h.hold l s) (chunk_of (sizes state.core) s)
      by_arm true e t gathered past = slot_found e (λ x written. (both (nat_lt (h.hold l s) (nodes_of (sizes state.core))) (bit_on (sizes state.core) state.legs (h.hold l s) (chunk_of (sizes state.core) s) x)
          (a.stale.again_targets n l s x again lacking gathered past written)).1)
      by_arm false e t gathered past =
          let r = found_by (state.core.recovery (h.hold l s)) (chunk_of (sizes state.core) s) t in
          read_found (h.hold l s) r.0 r.1 r.2 (needed (h.hold l s) r.0 r.1 r.2 (omega (arith, past)))

      by_gathered : (b : Bool) → (state.core.adding n).gathering.gathered (chunk_of (sizes state.core) s) ≡ b → IsFound rg.agreed state n (h.hold l s) (chunk_of (sizes state.core) s)
      by_gathered true e = was_gathered e
      by_gathered false e = elim (cases_lt (h.hold l s * pages_of (sizes state.core) + page_of (chunk_of (sizes state.core) s)) (state.core.adding n).gathering.next) [
        | inl past ↦ by_arm (state.core.members.pending (h.hold l s)) refl (a.stale.again_arm n l s again lacking e past) e past
        | inr left ↦ will_be_gathered left
      ]

  -- What an open recovery has read.

  pub recovers_here : (n : ℕ) (r : Recovering) → state.core.recovery n ≡ Some r → (state.core.members.pending r.slot ≡ true) × (state.core.members.heir r.slot ≡ Some n)
  recovers_here n r is = (a.sound.turns.slot n r is, heir_is (state.core.members.heir r.slot) n (a.pages.recovery_heir n r.slot (ap (λ y. recovers y r.slot) is ∙ same_leg r.slot)))
    where
      heir_is : (x : Option ℕ) (m : ℕ) → is_heir x m ≡ true → x ≡ Some m
      heir_is None m e = cc
      heir_is (Some k) m e = ap Some (same_number k m e)
        where
          same_number : (i j : ℕ) → (i == j) ≡ true → i ≡ j
          same_number i j e = grind (arith, nat_tests)

  pub reads_here : (n c : ℕ) (r : Recovering) → state.core.recovery n ≡ Some r → r.found c ≡ true
      → (((state.core.bitmap n).set c ≡ true) × ((state.core.bitmap n).need c ≡ true)) ⊎ ((s : ℕ) → s < (sizes state.core).room → chunk_of (sizes state.core) s ≡ c → z.since n s ≡ true)
  reads_here n c r is found = by ((state.core.bitmap n).need c) refl
    where
      since : (state.core.bitmap n).need c ≡ false → (s : ℕ) → s < (sizes state.core).room → chunk_of (sizes state.core) s ≡ c → (b : Bool) → z.since n s ≡ b → b ≡ true
      since no_need s lt chunk true e = refl
      since no_need s lt chunk false e =
          let need = a.settled.read_need n s lt (ap (λ y. found_in y (chunk_of (sizes state.core) s)) is ∙ subst (λ d. r.found d ≡ true) (sym chunk) found) e in
          absurd (clash ((state.core.bitmap n).need c) (subst (λ d. (state.core.bitmap n).need d ≡ true) chunk need) no_need)

      by : (b : Bool) → (state.core.bitmap n).need c ≡ b
          → (((state.core.bitmap n).set c ≡ true) × ((state.core.bitmap n).need c ≡ true)) ⊎ ((s : ℕ) → s < (sizes state.core).room → chunk_of (sizes state.core) s ≡ c → z.since n s ≡ true)
      by true e = inl (a.bits.need_set n c e, e)
      by false e = inr (λ s lt chunk. since e s lt chunk (z.since n s) refl)
