-- The state in memory before anybody is in.
use Rattle.std.proofs.Common.{◌≡◌, ℕ, zero, suc, Bool, true, false, not, refl, List, [], ◌∷◌, get_or, replicate, ap, ◌∙◌, sym, Option, Some, None}
use Rattle.std.proofs.Math.Path.{fun_ext}
use Rattle.std.proofs.lemmas.Nat.Bits.{bit_at-zero}
use Rattle.std.specs.Option.{option_map}
use Rattle.mdc_types.specs.Bits.{has_bit}
use Rattle.mdc_types.specs.Roles.{role_of}
use Rattle.mdc_types.specs.declared.roles.Role.TheVariants.{Spare}
use Rattle.mdc_types.specs.declared.roles.NodeState.{NodeState}
use Rattle.mdc_types.specs.declared.roles.NodeState.TheVariants.{Out}
use Rattle.mdc_types.specs.declared.numbers.Range.{Range}
use Rattle.dlm_space.specs.Parts.{Part, locks_of}
use Rattle.dlm_space.specs.Locks.{Lock, new_locks}
use Rattle.leg_store.specs.Paths.{Paths, path_open, all_open}
use Rattle.leg_failure.specs.Views.{NodeView, Parts, view_of, new_view}
use Rattle.md_superblock.specs.Arrays.{Array, array_of}
use Rattle.md_superblock.specs.declared.identity.Identity.{Identity}
use Rattle.msg_rounds.specs.Phases.{Receiving, new_receiving}
use Rattle.msg_rounds.specs.declared.phases.SenderPhase.{SenderPhase}
use Rattle.msg_rounds.specs.declared.phases.SenderPhase.TheVariants.{Idle}
use Rattle.cluster_msgs.specs.declared.msg.Msg.{Msg}
use Rattle.node_member.specs.Members.{Members}
use Rattle.node_member.specs.Parts as members
use Rattle.suspend_ranges.specs.Suspended.{ranges_of, none_suspended}
use Rattle.node_requests.specs.Requests.{AllRequests, writes_of, reads_of, writes_made_of, reads_made_of}
use Rattle.node_bits.specs.Bitmaps.{Maps, bitmaps_of}
use Rattle.node_copies.specs.Copies.{Copyings, copies_of}
use Rattle.node_copies.specs.Recoveries.{Progresses, recoveries_of}
use Rattle.node_copies.specs.Additions.{Addings, adding_of}
use Rattle.cluster_model.specs.State as machine
use Rattle.cluster_model.specs.State.{Core}
use Rattle.cluster_model.specs.Changes.{no_view}
use Rattle.world_state.specs.Kept.{Kept, core_of, no_parts, offer_of, tried_of}
use Rattle.world_state.specs.Changed.{nobody_in}
use Rattle.world_state.specs.declared.attempt.Attempt.{Attempt}
use Rattle.world_state.specs.declared.attempt.Attempt.TheVariants.{Untried}
use Rattle.world_state.specs.declared.offer.Offer.{Offer}

-- what is read of equal elements
all_same : {A B : Type 0} (f : A → B) (count n : ℕ) (v d : A) → f v ≡ f d → f (get_or (replicate count v) n d) ≡ f d
all_same f zero n v d e = refl
all_same f (suc count) zero v d e = e
all_same f (suc count) (suc n) v d e = all_same f count n v d e

none_lost : has_bit 0 ≡ (λ l. false)
none_lost = fun_ext (λ l. rw (bit_at-zero l) refl)

no_roles : role_of (record { legs = [] }) ≡ (λ l. Spare)
no_roles = fun_ext (λ l. refl)

no_parts_view : view_of no_parts ≡ no_view
no_parts_view = rw (no_roles, none_lost) refl

eight_spares : role_of (record { legs = replicate 8 Spare }) ≡ (λ l. Spare)
eight_spares = fun_ext (λ l. all_same (λ x. x) 8 l Spare Spare refl)

spare_view : (v : Parts) → view_of v ≡ new_view (role_of (record { legs = replicate 8 Spare })) 0 (λ l. false) → view_of v ≡ no_view
spare_view v e = e ∙ rw eight_spares refl

abbrev from : Core → (ℕ → NodeState) → (ℕ → NodeView) → (ℕ → ℕ → ℕ) → (ℕ → Lock) → (ℕ → SenderPhase) → (ℕ → Option machine.Offer) → (ℕ → Receiving) → (ℕ → Option Msg)
    → (ℕ → ℕ → machine.Tried) → (ℕ → ℕ → Bool) → (ℕ → ℕ → Option Range) → Core
from core s v h l se o re he t c su = record core { state = s; view = v; head = h; locks = l; sender = se; offer = o; receiver = re; heard = he; tried = t; cut = c; suspended = su }

same_from : (core : Core) (s s1 : ℕ → NodeState) (v v1 : ℕ → NodeView) (h h1 : ℕ → ℕ → ℕ) (l l1 : ℕ → Lock) (se se1 : ℕ → SenderPhase) (o o1 : ℕ → Option machine.Offer)
    (re re1 : ℕ → Receiving) (he he1 : ℕ → Option Msg) (t t1 : ℕ → ℕ → machine.Tried) (c c1 : ℕ → ℕ → Bool) (su su1 : ℕ → ℕ → Option Range)
    → s ≡ s1 → v ≡ v1 → h ≡ h1 → l ≡ l1 → se ≡ se1 → o ≡ o1 → re ≡ re1 → he ≡ he1 → t ≡ t1 → c ≡ c1 → su ≡ su1
    → from core s v h l se o re he t c su ≡ from core s1 v1 h1 l1 se1 o1 re1 he1 t1 c1 su1
same_from core s s1 v v1 h h1 l l1 se se1 o o1 re re1 he he1 t t1 c c1 su su1 e0 e1 e2 e3 e4 e5 e6 e7 e8 e9 e10 =
    rw (e0, e1, e2, e3, e4, e5, e6, e7, e8, e9, e10) refl

module _ (i : Identity) (m : members.Parts) (r : AllRequests) (b : Maps) (c : Copyings) (p : Progresses) (a : Addings) (tried : List (List Attempt))
    (v : Parts) (space : List Part) (s : SenderPhase) (re : Receiving) (paths : Paths) (ranges : List (Option Range)) where
  pub emptied : view_of v ≡ new_view (role_of (record { legs = replicate 8 Spare })) 0 (λ l. false) → locks_of space ≡ new_locks → s ≡ Idle → re ≡ new_receiving
      → path_open paths ≡ all_open → ranges_of ranges ≡ none_suspended → tried ≡ replicate 16 (replicate 8 Untried)
      → core_of (record {
        identity = i;
        states = replicate 16 Out;
        views = replicate 16 v;
        heads = replicate 16 (replicate 8 0);
        requests = r;
        space = space;
        senders = replicate 16 s;
        offers = replicate 16 None;
        receivers = replicate 16 re;
        heard = replicate 16 None;
        tried = tried;
        members = m;
        paths = paths;
        bitmaps = b;
        suspended = replicate 16 ranges;
        copies = c;
        recoveries = p;
        additions = a;
      }) ≡ nobody_in (array_of i) (members.members_of m) r b c p a
  emptied e f g h k q t = same_from (nobody_in (array_of i) (members.members_of m) r b c p a) _ _ _ _ _ _ _ _ _ _ _ _ _ _ _ _ _ _ _ _ _ _
      (fun_ext (λ n. all_same (λ x. x) 16 n Out Out refl))
      (fun_ext (λ n. all_same view_of 16 n v no_parts (spare_view v e ∙ sym no_parts_view) ∙ no_parts_view))
      (fun_ext (λ n. fun_ext (λ l. all_same (λ xs. get_or xs l 0) 16 n (replicate 8 0) [] (all_same (λ x. x) 8 l 0 0 refl))))
      f
      (fun_ext (λ n. all_same (λ x. x) 16 n s Idle g))
      (fun_ext (λ n. all_same (option_map offer_of) 16 n None None refl))
      (fun_ext (λ n. all_same (λ x. x) 16 n re new_receiving h))
      (fun_ext (λ n. all_same (λ x. x) 16 n None None refl))
      (fun_ext (λ n. fun_ext (λ l. ap (λ xs. tried_of (get_or (get_or xs n []) l Untried)) t
      ∙ all_same (λ xs. tried_of (get_or xs l Untried)) 16 n (replicate 8 Untried) [] (all_same tried_of 8 l Untried Untried refl))))
      (ap (λ path n l. not (path n l)) k)
      (fun_ext (λ n. all_same ranges_of 16 n ranges [] q))
