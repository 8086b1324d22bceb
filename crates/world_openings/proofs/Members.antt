-- Members come in one after another.
use Rattle.std.proofs.Common.{◌≡◌, ◌≢◌, inl, inr, ℕ, zero, suc, ◌≤◌, ◌+◌, ◌<◌, ◌==◌, ◌&&◌, Bool, true, false, not, [], if◌then◌else◌, nat_lt, refl, arith, ap, sym, subst, ◌∙◌, Option, Some, None}
use Rattle.std.proofs.Math.Path.{fun_ext}
use Rattle.std.proofs.lemmas.Bool.{cases_eq}
use Rattle.std.proofs.lemmas.Bool.Decides.{nat_tests}
use Rattle.dlm_modes.specs.Points.{with_at}
use Rattle.dlm_modes.specs.First.{first_such}
use Rattle.dlm_modes.specs.declared.mode.Mode.{Mode}
use Rattle.dlm_modes.specs.declared.mode.Mode.TheVariants.{CR, PW}
use Rattle.mdc_types.specs.Bits.{has_bit}
use Rattle.mdc_types.specs.Geometry.{Sizes, chunks_of, pages_of, nodes_of}
use Rattle.mdc_types.specs.declared.roles.Roles.{Roles}
use Rattle.mdc_types.specs.Roles.{role_of}
use Rattle.mdc_types.specs.declared.roles.NodeState.{NodeState}
use Rattle.mdc_types.specs.declared.roles.NodeState.TheVariants.{Up, Out}
use Rattle.dlm_modes.proofs.FirstLaws.{first_such_same}
use Rattle.dlm_space.specs.Locks.{Lock, holding, new_lock, ask_now_refusal, blocker, is_against, disagrees}
use Rattle.msg_rounds.specs.Locks.{ack_res}
use Rattle.leg_failure.specs.Views.{NodeView, new_view}
use Rattle.node_bitmaps.specs.Bitmap.{Bitmap, empty}
use Rattle.node_bits.specs.Bitmaps.{opened}
use Rattle.cluster_model.specs.State.{Core}
use Rattle.cluster_model.specs.Opening.{Origin, core_at, is_member}
use Rattle.cluster_model.specs.Changes.{no_new_dev, no_view}
use Rattle.world_openings.specs.Members.{opened_with, locks_with, held_with, slot_with}

push : {A : Type 0} (f : Bool → A) (b x : Bool) → f (if b then true else x) ≡ (if b then f true else f x)
push f true x = refl
push f false x = refl

-- the nodes below n + 1 that are members
one_more : (member : ℕ → Bool) (n m : ℕ) → member n ≡ true
    → (member m && nat_lt m (n + 1)) ≡ (if m == n then true else (member m && nat_lt m n))
one_more member n m is = elim (cases_eq m n) [
  | inl same ↦ grind (arith, nat_tests, same, is)
  | inr other ↦ grind (arith, nat_tests, other)
]

by_member : {A : Type 0} (f : Bool → A) (member : ℕ → Bool) (n m : ℕ) → member n ≡ true
    → (if m == n then f true else f (member m && nat_lt m n)) ≡ f (member m && nat_lt m (n + 1))
by_member f member n m is = sym (ap f (one_more member n m is) ∙ push f (m == n) (member m && nat_lt m n))

not_one_more : (member : ℕ → Bool) (n m : ℕ) → member n ≡ false → (member m && nat_lt m (n + 1)) ≡ (member m && nat_lt m n)
not_one_more member n m is = elim (cases_eq m n) [
  | inl same ↦ grind (arith, nat_tests, same, is)
  | inr other ↦ grind (arith, nat_tests, other)
]

same_held : (f g : ℕ → Option Mode) → ((m : ℕ) → f m ≡ g m) → ◌≡◌ {A = Lock} (record new_lock { held = f }) (record new_lock { held = g })
same_held f g same = ap (λ h. record new_lock { held = h }) (fun_ext same)

abbrev below : (ℕ → Bool) → ℕ → ℕ → Bool
below member n m = member m && nat_lt m n

held_more : (member : ℕ → Bool) (n : ℕ) (mode : Mode) → member n ≡ true
    → holding (held_with (below member n) mode) n mode ≡ held_with (below member (n + 1)) mode
held_more member n mode is = same_held _ _ (λ m. by_member (λ b. if b then Some mode else None) member n m is)

slot_more : (member : ℕ → Bool) (n : ℕ) → member n ≡ true → holding (slot_with (below member n) n) n PW ≡ slot_with (below member (n + 1)) n
slot_more member n is = same_held _ _ (λ m. slot_held member n m is) where
  slot_held : (member : ℕ → Bool) (n m : ℕ) → member n ≡ true
      → (if m == n then Some PW else if (m == n) && below member n m then Some PW else None) ≡ (if (m == n) && below member (n + 1) m then Some PW else None)
  slot_held member n m is = elim (cases_eq m n) [
    | inl same ↦ grind (arith, nat_tests, same, is)
    | inr other ↦ grind (arith, nat_tests, other)
  ]

slot_same : (member : ℕ → Bool) (n r : ℕ) → r ≢ n → slot_with (below member n) r ≡ slot_with (below member (n + 1)) r
slot_same member n r other = same_held _ _ (λ m. kept member n r m other) where
  kept : (member : ℕ → Bool) (n r m : ℕ) → r ≢ n → (if (m == r) && below member n m then Some PW else None) ≡ (if (m == r) && below member (n + 1) m then Some PW else None)
  kept member n r m other = elim (cases_eq m r) [
    | inl same ↦ grind (arith, nat_tests, same, other)
    | inr else_where ↦ grind (arith, nat_tests, else_where)
  ]

abbrev bits_if : Origin → Bool → Bitmap
bits_if o b = record empty {
  set = λ c. b && o.warm && nat_lt c (chunks_of o.sizes);
  marks = λ c l. (b && o.warm && nat_lt c (chunks_of o.sizes)) && nat_lt l o.sizes.legs;
  fresh = λ p l. b && nat_lt p (pages_of o.sizes) && nat_lt l o.sizes.legs;
}

lock_at : (member : ℕ → Bool) (n r : ℕ) → member n ≡ true → n < 16
    → let l0 : ℕ → Lock = locks_with (below member n) in
    let l1 : ℕ → Lock = with_at l0 n (holding (l0 n) n PW) in
    let l2 : ℕ → Lock = with_at l1 ack_res (holding (l1 ack_res) n CR) in
    with_at l2 no_new_dev (holding (l2 no_new_dev) n CR) r ≡ locks_with (below member (n + 1)) r
lock_at member n r is lt = grind (arith, nat_tests, held_more member n CR is, slot_more member n is, slot_same member n r)

abbrev four : Origin → (ℕ → NodeState) → (ℕ → NodeView) → (ℕ → Lock) → (ℕ → Bitmap) → Core
four o s v l b = record (core_at o) { state = s; view = v; locks = l; bitmap = b }

same_four : (o : Origin) (s s1 : ℕ → NodeState) (v v1 : ℕ → NodeView) (l l1 : ℕ → Lock) (b b1 : ℕ → Bitmap) → s ≡ s1 → v ≡ v1 → l ≡ l1 → b ≡ b1
    → four o s v l b ≡ four o s1 v1 l1 b1
same_four o s s1 v v1 l l1 b b1 e f g h = rw (e, f, g, h) refl

-- a member came in
pub came_in : (o : Origin) (a b c d e f g : Core) (v : NodeView) (w : Bool) (n : ℕ) → is_member o n ≡ true → n < 16
    → v ≡ new_view (role_of o.roles) o.sizes.sectors (λ l. false) → w ≡ o.warm
    → a ≡ opened_with o (below (is_member o) n)
    → b ≡ record a { state = with_at a.state n Up }
    → c ≡ record b { view = with_at b.view n v }
    → d ≡ record c { locks = with_at c.locks n (holding (c.locks n) n PW) }
    → e ≡ record d { locks = with_at d.locks ack_res (holding (d.locks ack_res) n CR) }
    → f ≡ record e { locks = with_at e.locks no_new_dev (holding (e.locks no_new_dev) n CR) }
    → g ≡ record f { bitmap = with_at f.bitmap n (opened f.array.sizes w) }
    → g ≡ opened_with o (below (is_member o) (n + 1))
came_in o a b c d e f g x y n is lt view warm p q r s t u v =
    let member : ℕ → Bool = is_member o in
    rw (v, u, t, s, r, q, p, view, warm) (same_four o _ _ _ _ _ _ _ _
    (fun_ext (λ m. by_member (λ x. if x then Up else Out) member n m is))
    (fun_ext (λ m. by_member (λ x. if x then new_view (role_of o.roles) o.sizes.sectors (λ l. false) else no_view) member n m is))
    (fun_ext (λ m. lock_at member n m is lt))
    (fun_ext (λ m. by_member (bits_if o) member n m is)))

pub same_view : (r s : Roles) (a b : ℕ) → r ≡ s → a ≡ b → new_view (role_of r) a (λ l. false) ≡ new_view (role_of s) b (λ l. false)
same_view r s a b e f = rw (e, f) refl

pub below_most : (g : Sizes) (n : ℕ) → n < nodes_of g → n < 16
below_most g n lt = grind (arith, nat_tests)

-- no member came in
pub stayed_out : (o : Origin) (n : ℕ) → is_member o n ≡ false → opened_with o (below (is_member o) n) ≡ opened_with o (below (is_member o) (n + 1))
stayed_out o n is = ap (opened_with o) (fun_ext (λ m. sym (not_one_more (is_member o) n m is)))

none_below : (member : ℕ → Bool) (m : ℕ) → false ≡ (member m && nat_lt m 0)
none_below member m = grind (arith, nat_tests)

-- before the first, and after the last
pub none_yet : (o : Origin) → opened_with o (λ n. false) ≡ opened_with o (below (is_member o) 0)
none_yet o = ap (opened_with o) (fun_ext (λ m. none_below (is_member o) m))

all_below : (o : Origin) (n m : ℕ) → nodes_of o.sizes ≤ n → below (is_member o) n m ≡ is_member o m
all_below o n m le = grind (arith, nat_tests)

pub all_in : (o : Origin) (g : Sizes) (e n : ℕ) → g ≡ o.sizes → e ≡ nodes_of g → e ≤ n
    → opened_with o (below (is_member o) n) ≡ core_at o
all_in o g e n same end le =
    let last : nodes_of o.sizes ≤ n = subst (λ h. nodes_of h ≤ n) same (subst (λ k. k ≤ n) end le) in
    ap (opened_with o) (fun_ext (λ m. all_below o n m last)) ∙ refl

pub no_member : (o : Origin) (n : ℕ) (b : Bool) → b ≡ has_bit o.members n → b ≡ false → is_member o n ≡ false
no_member o n b is none = grind (arith, nat_tests, is, none)

-- no lock that a member takes is in its way

nowhere : (i n : ℕ) → first_such (λ k. false) i n ≡ None
unfolding first_such
nowhere i zero = refl
nowhere i (suc n) = nowhere (i + 1) n

free_of : (lock : Lock) (n : ℕ) (mode : Mode) → lock.held n ≡ None → lock.requests ≡ []
    → ((m : ℕ) → is_against lock n mode m ≡ false) → ask_now_refusal lock n mode ≡ None
free_of lock n mode held requests against =
    let none : blocker lock n mode ≡ None = first_such_same (is_against lock n mode) (λ k. false) 0 16 (λ k le lt. against k) ∙ nowhere 0 16 in
    rw (held, requests, none) refl

not_below : (member : ℕ → Bool) (n : ℕ) → below member n n ≡ false
not_below member n = grind (arith, nat_tests)

held_agrees : (b : Bool) → disagrees CR (if b then Some CR else None) ≡ false
held_agrees true = refl
held_agrees false = refl

not_against : (t d : Bool) → d ≡ false → (not t && d) ≡ false
not_against true d e = refl
not_against false d e = e

slot_against : (member : ℕ → Bool) (n m : ℕ) → is_against (slot_with (below member n) n) n PW m ≡ false
slot_against member n m = elim (cases_eq m n) [
  | inl same ↦ grind (arith, nat_tests, same)
  | inr other ↦ grind (arith, nat_tests, other)
]

slot_held : (member : ℕ → Bool) (n : ℕ) → (slot_with (below member n) n).held n ≡ None
slot_held member n = grind (arith, nat_tests)

free_at_slot : (member : ℕ → Bool) (n : ℕ) → ask_now_refusal (slot_with (below member n) n) n PW ≡ None
free_at_slot member n = free_of (slot_with (below member n) n) n PW (slot_held member n) refl (slot_against member n)

free_at_held : (member : ℕ → Bool) (n : ℕ) → ask_now_refusal (held_with (below member n) CR) n CR ≡ None
free_at_held member n = free_of (held_with (below member n) CR) n CR (rw (not_below member n) refl) refl
    (λ m. not_against (m == n) _ (held_agrees (below member n m)))

slot_there : (member : ℕ → Bool) (n : ℕ) → n < 16 → locks_with (below member n) n ≡ slot_with (below member n) n
slot_there member n lt = grind (arith, nat_tests)

other_place : (locks : ℕ → Lock) (n r : ℕ) (x : Lock) → n ≢ r → with_at locks n x r ≡ locks r
other_place locks n r x other = grind (arith, nat_tests, other)

module _ (o : Origin) (a b c d : Core) (v : NodeView) (n : ℕ) (lt : n < 16) (p : a ≡ opened_with o (below (is_member o) n))
    (q : b ≡ record a { state = with_at a.state n Up })
    (r : c ≡ record b { view = with_at b.view n v })
    (s : d ≡ record c { locks = with_at c.locks n (holding (c.locks n) n PW) }) where
  c_locks : c.locks ≡ locks_with (below (is_member o) n)
  c_locks = ap (λ k. k.locks) r ∙ ap (λ k. k.locks) q ∙ ap (λ k. k.locks) p

  d_ack : d.locks ack_res ≡ held_with (below (is_member o) n) CR
  d_ack = ap (λ k. k.locks ack_res) s ∙ other_place c.locks n ack_res _ (λ same. omega (arith, lt, same)) ∙ ap (λ f. f ack_res) c_locks

  d_dev : d.locks no_new_dev ≡ held_with (below (is_member o) n) CR
  d_dev = ap (λ k. k.locks no_new_dev) s ∙ other_place c.locks n no_new_dev _ (λ same. omega (arith, lt, same)) ∙ ap (λ f. f no_new_dev) c_locks

  pub free_ack : ask_now_refusal (d.locks ack_res) n CR ≡ None
  free_ack = ap (λ lock. ask_now_refusal lock n CR) d_ack ∙ free_at_held (is_member o) n

  pub free_dev : (e : Core) → e ≡ record d { locks = with_at d.locks ack_res (holding (d.locks ack_res) n CR) }
      → ask_now_refusal (e.locks no_new_dev) n CR ≡ None
  free_dev e t = ap (λ lock. ask_now_refusal lock n CR) (ap (λ k. k.locks no_new_dev) t ∙ d_dev) ∙ free_at_held (is_member o) n

pub free_slot : (o : Origin) (a b c : Core) (v : NodeView) (n : ℕ) → n < 16 → a ≡ opened_with o (below (is_member o) n)
    → b ≡ record a { state = with_at a.state n Up } → c ≡ record b { view = with_at b.view n v }
    → ask_now_refusal (c.locks n) n PW ≡ None
free_slot o a b c v n lt p q r =
    let locks : c.locks ≡ locks_with (below (is_member o) n) = ap (λ k. k.locks) r ∙ ap (λ k. k.locks) q ∙ ap (λ k. k.locks) p in
    ap (λ lock. ask_now_refusal lock n PW) (ap (λ f. f n) locks ∙ slot_there (is_member o) n lt) ∙ free_at_slot (is_member o) n
