-- Links over the list of all posts: one more, the first one off, and those of a node gone.
use Rattle.std.proofs.Common.{◌≡◌, ◌<◌, ◌+◌, ℕ, zero, suc, length, get_or, take, drop, List, [], ◌∷◌, ◌++◌, Bool, true, false, not, ◌==◌, ◌&&◌, ◌||◌, Some, refl, sym, ap, ◌∙◌, subst, arith, if◌then◌else◌}
use Rattle.std.specs.List.{remove}
use Rattle.std.specs.Prelude.{filter}
use Rattle.std.proofs.lemmas.Bool.Decides.{nat_tests}
use Rattle.std.proofs.Math.Path.{fun_ext}
use Rattle.lock_wire.specs.Packets.{IsOfResource, AreOfResources, is_on, link_of, first, rest, is_of, without_posts}
use Rattle.lock_wire.specs.Machine.{with_cell}
use Rattle.lock_wire.specs.Parts.{IsFirstOn}
use Rattle.lock_wire.specs.declared.links.Post.{Post}
use Rattle.lock_wire.specs.declared.packet.Packet.{Packet}

-- one more

pub link-push : (posts : List Post) (p : Post) (a b : ℕ) → link_of (posts ++ p ∷ []) a b ≡ (if (b == p.to) && (a == p.from) then link_of posts a b ++ p.packet ∷ [] else link_of posts a b)
link-push [] p a b = grind (arith, nat_tests)
link-push (x ∷ posts) p a b = grind (arith, link-push posts p a b)

pub resources-push : (posts : List Post) (p : Post) → AreOfResources posts → IsOfResource p.packet → AreOfResources (posts ++ p ∷ [])
resources-push [] p all one = (one, tt)
resources-push (x ∷ posts) p all one = (all.0, resources-push posts p all.1 one)

pub resources-append : (xs ys : List Post) → AreOfResources xs → AreOfResources ys → AreOfResources (xs ++ ys)
resources-append [] ys a b = b
resources-append (x ∷ xs) ys a b = (a.0, resources-append xs ys a.1 b)

pub resources-take : (posts : List Post) (i : ℕ) → AreOfResources posts → AreOfResources (take i posts)
resources-take posts zero all = tt
resources-take [] (suc i) all = tt
resources-take (x ∷ posts) (suc i) all = (all.0, resources-take posts i all.1)

pub resources-drop : (posts : List Post) (i : ℕ) → AreOfResources posts → AreOfResources (drop i posts)
resources-drop posts zero all = all
resources-drop [] (suc i) all = tt
resources-drop (x ∷ posts) (suc i) all = resources-drop posts i all.1

pub resources-remove : (posts : List Post) (i : ℕ) → AreOfResources posts → AreOfResources (remove posts i)
resources-remove posts i all = resources-append (take i posts) (drop (suc i) posts) (resources-take posts i all) (resources-drop posts (suc i) all)

pub resource_at : (posts : List Post) (i : ℕ) (d : Post) → i < length posts → AreOfResources posts → IsOfResource (get_or posts i d).packet
resource_at [] i d lt all = absurd (omega (arith, lt))
resource_at (x ∷ posts) zero d lt all = all.0
resource_at (x ∷ posts) (suc i) d lt all = resource_at posts i d (omega (arith, lt)) all.1

-- The first one off.

not_cons : {A : Type 0} (x : A) (xs : List A) → x ∷ xs ≡ [] → ⊥
not_cons x xs e = cc

off : (x : Post) (posts : List Post) (a b : ℕ) → link_of (x ∷ posts) a b ≡ [] → is_on a b x ≡ false
off x posts a b e = elim (is_on a b x) as (λ t. (if t then x.packet ∷ link_of posts a b else link_of posts a b) ≡ [] → t ≡ false) [ true ↦ λ h. absurd (not_cons _ _ h) | false ↦ λ h. refl ] e

then_off : (x : Post) (posts : List Post) (a b : ℕ) → link_of (x ∷ posts) a b ≡ [] → link_of posts a b ≡ []
then_off x posts a b e = elim (is_on a b x) as (λ t. (if t then x.packet ∷ link_of posts a b else link_of posts a b) ≡ [] → link_of posts a b ≡ []) [ true ↦ λ h. absurd (not_cons _ _ h) | false ↦ λ h. h ] e

pub first-packet : (posts : List Post) (a b i : ℕ) (d : Post) → i < length posts → link_of (take i posts) a b ≡ [] → is_on a b (get_or posts i d) ≡ true → link_of posts a b ≡ (get_or posts i d).packet ∷ link_of (remove posts i) a b
first-packet [] a b i d lt none on = absurd (omega (arith, lt))
first-packet (x ∷ posts) a b zero d lt none on = rw on refl
first-packet (x ∷ posts) a b (suc i) d lt none on =
    let o : is_on a b x ≡ false = off x (take i posts) a b none in
    rw o (first-packet posts a b i d (omega (arith, lt)) (then_off x (take i posts) a b none) on)

others : (x : Post) (a b m s : ℕ) → is_on a b x ≡ true → ((s == b) && (m == a)) ≡ false → is_on m s x ≡ false
others x a b m s on ne = grind (arith, nat_tests)

pub other-packets : (posts : List Post) (a b i : ℕ) (d : Post) (m s : ℕ) → i < length posts → is_on a b (get_or posts i d) ≡ true → ((s == b) && (m == a)) ≡ false → link_of (remove posts i) m s ≡ link_of posts m s
other-packets [] a b i d m s lt on ne = absurd (omega (arith, lt))
other-packets (x ∷ posts) a b zero d m s lt on ne = let o : is_on m s x ≡ false = others x a b m s on ne in rw o refl
other-packets (x ∷ posts) a b (suc i) d m s lt on ne = ap (λ l. if is_on m s x then x.packet ∷ l else l) (other-packets posts a b i d m s (omega (arith, lt)) on ne)

pub none_more : (posts : List Post) (a b i : ℕ) (d : Post) → i < length posts → link_of (take i posts) a b ≡ [] → is_on a b (get_or posts i d) ≡ false → link_of (take (i + 1) posts) a b ≡ []
none_more [] a b i d lt none on = absurd (omega (arith, lt))
none_more (x ∷ posts) a b zero d lt none on = rw on refl
none_more (x ∷ posts) a b (suc i) d lt none on =
    let o : is_on a b x ≡ false = off x (take i posts) a b none in
    let e : suc i + 1 ≡ suc (i + 1) = omega arith in
    rw (e, o) (none_more posts a b i d (omega (arith, lt)) (then_off x (take i posts) a b none) on)

here_or_else : {A : Type 0} (b : Bool) (x y z : A) → (b ≡ true → x ≡ y) → (b ≡ false → x ≡ z) → x ≡ (if b then y else z)
here_or_else true x y z p q = p refl
here_or_else false x y z p q = q refl

both_same : (m s a b : ℕ) → ((s == b) && (m == a)) ≡ true → (m ≡ a) × (s ≡ b)
both_same m s a b e = (grind (arith, nat_tests), grind (arith, nat_tests))

pub link-remove : (posts : List Post) (a b i : ℕ) (d : Post) → i < length posts → link_of (take i posts) a b ≡ [] → is_on a b (get_or posts i d) ≡ true → link_of (remove posts i) ≡ with_cell (link_of posts) a b (rest (link_of posts a b))
link-remove posts a b i d lt none on =
    fun_ext (λ m. fun_ext (λ s.
    here_or_else ((s == b) && (m == a)) _ _ _
    (λ t. let same = both_same m s a b t in ap (λ k. link_of (remove posts i) k s) same.0 ∙ ap (link_of (remove posts i) a) same.1 ∙ ap rest (sym (first-packet posts a b i d lt none on)))
    (λ f. other-packets posts a b i d m s lt on f)))

pub first_is : (posts : List Post) (a b i : ℕ) (p : Post) → IsFirstOn posts a b i → p ≡ get_or posts i p → Some p.packet ≡ first (link_of posts a b)
first_is posts a b i p f e = ap (λ (q : Post). Some q.packet) e ∙ sym (ap first (first-packet posts a b i p f.below f.none_before (f.on p)))

pub range_is : (posts : List Post) (a b i : ℕ) (p : Post) → IsFirstOn posts a b i → p ≡ get_or posts i p → AreOfResources posts → IsOfResource p.packet
range_is posts a b i p f e all = subst (λ (q : Post). IsOfResource q.packet) (sym e) (resource_at posts i p f.below all)

pub taken_off : (posts : List Post) (a b i : ℕ) → IsFirstOn posts a b i → link_of (remove posts i) ≡ with_cell (link_of posts) a b (rest (link_of posts a b))
taken_off [] a b i f = absurd (omega (arith, f.below))
taken_off (x ∷ posts) a b i f = link-remove (x ∷ posts) a b i x f.below f.none_before (f.on x)

sent_at : (f : ℕ → ℕ → List Packet) (b c : Bool) (m s a d : ℕ) (p : Packet) → (b ≡ true → m ≡ a) → (c ≡ true → s ≡ d) → (if c && b then f m s ++ p ∷ [] else f m s) ≡ (if c && b then f a d ++ p ∷ [] else f m s)
sent_at f true true m s a d p e g = ap (λ k. f k s ++ p ∷ []) (e refl) ∙ ap (λ k. f a k ++ p ∷ []) (g refl)
sent_at f false true m s a d p e g = refl
sent_at f b false m s a d p e g = refl

same : (m a : ℕ) → (m == a) ≡ true → m ≡ a
same m a t = grind (arith, nat_tests)

pub link-send : (posts : List Post) (p : Post) → link_of (posts ++ p ∷ []) ≡ with_cell (link_of posts) p.from p.to (link_of posts p.from p.to ++ p.packet ∷ [])
link-send posts p =
    fun_ext (λ m. fun_ext (λ s. link-push posts p m s ∙ sent_at (link_of posts) (m == p.from) (s == p.to) m s p.from p.to p.packet (same m p.from) (same s p.to)))

-- Those of a node gone.

pub link-without : (n a b : ℕ) (posts : List Post) → link_of (without_posts n posts) a b ≡ (if (a == n) || (b == n) then [] else link_of posts a b)
link-without n a b [] = grind arith
link-without n a b (x ∷ posts) = grind (arith, nat_tests, link-without n a b posts)

pub resources-without : (n : ℕ) (posts : List Post) → AreOfResources posts → AreOfResources (without_posts n posts)
resources-without n [] all = tt
resources-without n (x ∷ posts) all = elim (is_of n x) as (λ t. AreOfResources (if t then without_posts n posts else x ∷ without_posts n posts)) [ true ↦ resources-without n posts all.1 | false ↦ (all.0, resources-without n posts all.1) ]

pub without_posts-is : (n : ℕ) (posts : List Post) → filter (λ (p : Post). not (p.from == n) && not (p.to == n)) posts ≡ without_posts n posts
without_posts-is n [] = refl
without_posts-is n (x ∷ posts) = grind (arith, without_posts-is n posts)
