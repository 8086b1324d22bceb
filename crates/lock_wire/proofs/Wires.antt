-- The whole state, where a call changes several parts of it.
use Rattle.std.proofs.Common.{◌≡◌, ℕ, suc, ◌≤◌, ◌+◌, List, [], ◌∷◌, ◌++◌, Bool, true, false, ◌==◌, nat_lt, ◌&&◌, ◌||◌, Option, Some, None, refl, sym, ap, ◌∙◌, subst, arith, if◌then◌else◌}
use Rattle.std.proofs.lemmas.Bool.Decides.{nat_tests}
use Rattle.std.proofs.Math.Path.{fun_ext}
use Rattle.std.specs.Prelude.{slice_index_or}
use Rattle.std.specs.Option.{option_map}
use Rattle.dlm_modes.specs.Guards.{unless, or_then}
use Rattle.dlm_modes.specs.Points.{with_at}
use Rattle.mdc_types.specs.declared.refusals.Refusal.TheVariants.{NotUp}
use Rattle.lock_wire.specs.declared.ends.WireEnd.TheVariants as ends
use Rattle.dlm_space.specs.Locks.{Lock, new_locks, all_died, caller, grant_refusal, grant_answer}
use Rattle.dlm_space.specs.declared.answers.Granted.{Granted}
use Rattle.dlm_space.specs.declared.answers.LockError.{LockError}
use Rattle.dlm_space.specs.Parts.{Part}
use Rattle.lock_wire.specs.Machine.{Wire, Ward, with_cell, with_local, sent, named, caller_of, new_caller, last_caller, calls_to, calls_out, without_node, opened, first_ward, reported, reported_one, master_of, lock_at, first_awaited, rebuilding, serve_refusal, serve_answer, served, served_to, told}
use Rattle.lock_wire.specs.Parts.{Parts, Links, wire_of, locals_of, links_of, wards_of, tables_of, live_of, calls_one, calls_below, granting}
use Rattle.lock_wire.specs.declared.local.Local.{Local}
use Rattle.lock_wire.specs.declared.local.Local.TheVariants.{Free}
use Rattle.lock_wire.specs.declared.ward.Ward.{Ward as WardPart}
use Rattle.lock_wire.specs.declared.packet.Packet.{Packet}

-- a local state is set, and a packet sent
pub said-is : (p : Parts) (locals : List (List Local)) (links : Links) (n r m : ℕ) (l : Local) (packet : Packet) → m ≡ (wards_of p.wards r).master → locals_of locals ≡ with_cell (locals_of p.locals) n r l → links_of links ≡ with_cell (links_of p.links) n m (links_of p.links n m ++ packet ∷ []) → wire_of (record p { locals = locals; links = links }) ≡ sent (with_local (wire_of p) n r l) n (wards_of p.wards r).master packet
said-is p locals links n r m l packet at e f =
    let g : links_of links ≡ with_cell (links_of p.links) n (wards_of p.wards r).master (links_of p.links n (wards_of p.wards r).master ++ packet ∷ []) = subst (λ k. links_of links ≡ with_cell (links_of p.links) n k (links_of p.links n k ++ packet ∷ [])) at f in
    λ i. record (wire_of p) { local = e i; link = g i }

pub entered-is : (p : Parts) (tables : List (List Part)) (wards : List WardPart) (table : ℕ → ℕ → Lock) (ward : ℕ → Ward) → tables_of tables ≡ table → wards_of wards ≡ ward → wire_of (record p { tables = tables; wards = wards }) ≡ record (wire_of p) { table = table; ward = ward }
entered-is p tables wards table ward e f = λ i. record (wire_of p) { table = e i; ward = f i }

pub granting-is : (p : Parts) (tables : List (List Part)) (wards : List WardPart) (links : Links) (table : ℕ → ℕ → Lock) (ward : ℕ → Ward) (link : ℕ → ℕ → List Packet) → tables_of tables ≡ table → wards_of wards ≡ ward → links_of links ≡ link → wire_of (record p { tables = tables; wards = wards; links = links }) ≡ record (wire_of p) { table = table; ward = ward; link = link }
granting-is p tables wards links table ward link e f g = λ i. record (wire_of p) { table = e i; ward = f i; link = g i }

pub without-is : (p : Parts) (live : List Bool) (locals : List (List Local)) (links : Links) (tables : List (List Part)) (n : ℕ) → live_of live ≡ with_at (live_of p.live) n false → locals_of locals ≡ (λ m r. if m == n then Free else locals_of p.locals m r) → links_of links ≡ (λ a b. if (a == n) || (b == n) then [] else links_of p.links a b) → tables_of tables ≡ (λ m. all_died (tables_of p.tables m) n) → wire_of (record p { live = live; locals = locals; links = links; tables = tables }) ≡ without_node (wire_of p) n
without-is p live locals links tables n e f g h = λ i. record (wire_of p) { live = e i; local = f i; link = g i; table = h i }

pub opened-is : (p : Parts) (nodes : ℕ) → p.nodes ≡ nodes → live_of p.live ≡ (λ n. nat_lt n nodes) → locals_of p.locals ≡ (λ n r. Free) → links_of p.links ≡ (λ a b. []) → tables_of p.tables ≡ (λ m. new_locks) → wards_of p.wards ≡ first_ward nodes → wire_of p ≡ opened nodes
opened-is p nodes a b c d e f = λ i. record { nodes = a i; live = b i; local = c i; link = d i; table = e i; ward = f i }

nothing_more : {A : Type 0} (xs : List A) → xs ++ [] ≡ xs
nothing_more [] = refl
nothing_more (x ∷ xs) = ap (λ q. x ∷ q) (nothing_more xs)

same_cell : {A : Type 0} (f : ℕ → ℕ → A) (a b : ℕ) (v : A) → v ≡ f a b → with_cell f a b v ≡ f
same_cell f a b v e = fun_ext (λ x. fun_ext (λ y. at x y ((y == b) && (x == a)) refl))
  where
    both : (x y : ℕ) → ((y == b) && (x == a)) ≡ true → (x ≡ a) × (y ≡ b)
    both x y t = (grind (arith, nat_tests), grind (arith, nat_tests))

    at : (x y : ℕ) (t : Bool) → ((y == b) && (x == a)) ≡ t → (if t then v else f x y) ≡ f x y
    at x y true t = let s = both x y t in e ∙ ap (λ k. f k b) (sym s.0) ∙ ap (f x) (sym s.1)
    at x y false t = refl

same_point : {A : Type 0} (f : ℕ → A) (a : ℕ) (v : A) → v ≡ f a → with_at f a v ≡ f
same_point f a v e = fun_ext (λ x. at x (x == a) refl)
  where
    at : (x : ℕ) (t : Bool) → (x == a) ≡ t → (if t then v else f x) ≡ f x
    at x true t = let s : x ≡ a = grind (arith, nat_tests) in e ∙ ap f (sym s)
    at x false t = refl

-- nobody is named
pub names_nobody : (w : Wire) (m r n : ℕ) → named w m r n ≡ None → calls_one w m r n ≡ w
names_nobody w m r n e =
    let links : with_cell w.link m n (w.link m n ++ calls_to r (named w m r n)) ≡ w.link = same_cell w.link m n _ (ap (λ o. w.link m n ++ calls_to r o) e ∙ nothing_more (w.link m n)) in
    let called : with_at (w.ward r).called n (last_caller (named w m r n) ((w.ward r).called n)) ≡ (w.ward r).called = same_point (w.ward r).called n _ (ap (λ o. last_caller o ((w.ward r).called n)) e) in
    let wards : with_at w.ward r (record (w.ward r) { called = with_at (w.ward r).called n (last_caller (named w m r n) ((w.ward r).called n)) }) ≡ w.ward = ap (λ c. with_at w.ward r (record (w.ward r) { called = c })) called ∙ same_point w.ward r (w.ward r) refl in
    λ i. record w { ward = wards i; link = links i }

-- The callbacks, node by node.

below_none : (w : Wire) (m r : ℕ) → calls_below w m r 0 ≡ w
below_none w m r =
    let links : (calls_below w m r 0).link ≡ w.link = fun_ext (λ a. fun_ext (λ b. ap (λ t. if t then w.link a b ++ calls_to r (named w m r b) else w.link a b) (none (a == m) b))) in
    let wards : with_at w.ward r (record (w.ward r) { called = λ n. if nat_lt n 0 then last_caller (named w m r n) ((w.ward r).called n) else (w.ward r).called n }) ≡ w.ward = ap (λ c. with_at w.ward r (record (w.ward r) { called = c })) (fun_ext (λ n. ap (λ t. if t then last_caller (named w m r n) ((w.ward r).called n) else (w.ward r).called n) (never n))) ∙ same_point w.ward r (w.ward r) refl in
    λ i. record w { ward = wards i; link = links i }
  where
    never : (n : ℕ) → nat_lt n 0 ≡ false
    never n = grind (arith, nat_tests)

    none : (t : Bool) (b : ℕ) → (t && nat_lt b 0) ≡ false
    none true b = never b
    none false b = refl

pub below_start : (w : Wire) (m r : ℕ) → w ≡ calls_below w m r 0
below_start w m r = sym (below_none w m r)

-- one node more
one_below : (w : Wire) (m r k : ℕ) → calls_one (calls_below w m r k) m r k ≡ calls_below w m r (k + 1)
one_below w m r k =
    let links : (calls_one (calls_below w m r k) m r k).link ≡ (calls_below w m r (k + 1)).link = fun_ext (λ a. fun_ext (λ b. link_at a b)) in
    let wards : (calls_one (calls_below w m r k) m r k).ward ≡ (calls_below w m r (k + 1)).ward = fun_ext (λ s. ward_at s) in
    λ i. record w { ward = wards i; link = links i }
  where
    v : Wire
    v = calls_below w m r k

    mine : Ward
    mine = record (w.ward r) { called = λ n. if nat_lt n k then last_caller (named w m r n) ((w.ward r).called n) else (w.ward r).called n }

    self : (n : ℕ) → (n == n) ≡ true
    self n = grind (arith, nat_tests)

    ward_is : v.ward r ≡ mine
    ward_is = ap (λ t. if t then mine else w.ward r) (self r)

    not_yet : nat_lt k k ≡ false
    not_yet = grind (arith, nat_tests)

    called_is : (v.ward r).called k ≡ (w.ward r).called k
    called_is = ap (λ (u : Ward). u.called k) ward_is ∙ ap (λ t. if t then last_caller (named w m r k) ((w.ward r).called k) else (w.ward r).called k) not_yet

    named_is : named v m r k ≡ named w m r k
    named_is = ap (λ l. new_caller (caller_of (w.table m r) k) l) called_is

    link_is : v.link m k ≡ w.link m k
    link_is = ap (λ t. if (m == m) && t then w.link m k ++ calls_to r (named w m r k) else w.link m k) not_yet ∙ ap (λ t. if t then w.link m k ++ calls_to r (named w m r k) else w.link m k) (last (m == m))
      where
        last : (t : Bool) → (t && false) ≡ false
        last true = refl
        last false = refl

    tests : {A : Type 0} (a b : ℕ) (l new : List A) → (if (b == k) && (a == m) then new else (if (a == m) && nat_lt b k then new else l)) ≡ (if (a == m) && nat_lt b (k + 1) then new else l)
    tests a b l new = grind (arith, nat_tests)

    own_link : (a b : ℕ) → (if (b == k) && (a == m) then w.link m k ++ calls_to r (named w m r k) else v.link a b) ≡ (if (b == k) && (a == m) then w.link a b ++ calls_to r (named w m r b) else v.link a b)
    own_link a b = elim ((b == k) && (a == m)) as (λ t. ((b == k) && (a == m)) ≡ t → (if t then w.link m k ++ calls_to r (named w m r k) else v.link a b) ≡ (if t then w.link a b ++ calls_to r (named w m r b) else v.link a b)) [
      | true ↦ λ t. let e : b ≡ k = grind (arith, nat_tests) in let f : a ≡ m = grind (arith, nat_tests) in ap (λ x. w.link x k ++ calls_to r (named w m r k)) (sym f) ∙ ap (λ x. w.link a x ++ calls_to r (named w m r x)) (sym e)
      | false ↦ λ t. refl
    ] refl

    link_at : (a b : ℕ) → with_cell v.link m k (v.link m k ++ calls_to r (named v m r k)) a b ≡ (calls_below w m r (k + 1)).link a b
    link_at a b =
        ap (λ l. with_cell v.link m k (l ++ calls_to r (named v m r k)) a b) link_is
        ∙ ap (λ o. with_cell v.link m k (w.link m k ++ calls_to r o) a b) named_is
        ∙ own_link a b
        ∙ tests a b (w.link a b) (w.link a b ++ calls_to r (named w m r b))

    next : Ward
    next = record (w.ward r) { called = λ n. if nat_lt n (k + 1) then last_caller (named w m r n) ((w.ward r).called n) else (w.ward r).called n }

    called_tests : (n : ℕ) (new old : Option ℕ) → (if n == k then new else (if nat_lt n k then new else old)) ≡ (if nat_lt n (k + 1) then new else old)
    called_tests n new old = grind (arith, nat_tests)

    own_called : (n : ℕ) → (if n == k then last_caller (named w m r k) ((w.ward r).called k) else mine.called n) ≡ (if n == k then last_caller (named w m r n) ((w.ward r).called n) else mine.called n)
    own_called n = elim (n == k) as (λ t. (n == k) ≡ t → (if t then last_caller (named w m r k) ((w.ward r).called k) else mine.called n) ≡ (if t then last_caller (named w m r n) ((w.ward r).called n) else mine.called n)) [
      | true ↦ λ t. let e : n ≡ k = grind (arith, nat_tests) in ap (λ x. last_caller (named w m r x) ((w.ward r).called x)) (sym e)
      | false ↦ λ t. refl
    ] refl

    next_is : record (v.ward r) { called = with_at (v.ward r).called k (last_caller (named v m r k) ((v.ward r).called k)) } ≡ next
    next_is =
        ap (λ (u : Ward). record u { called = with_at u.called k (last_caller (named v m r k) (u.called k)) }) ward_is
        ∙ ap (λ o. record mine { called = with_at mine.called k (last_caller o (mine.called k)) }) named_is
        ∙ ap (λ x. record mine { called = with_at mine.called k (last_caller (named w m r k) x) }) (ap (λ t. if t then last_caller (named w m r k) ((w.ward r).called k) else (w.ward r).called k) not_yet)
        ∙ ap (λ f. record (w.ward r) { called = f }) (fun_ext (λ n. own_called n ∙ called_tests n (last_caller (named w m r n) ((w.ward r).called n)) ((w.ward r).called n)))

    twice : {A : Type 0} (t : Bool) (x y z : A) → (if t then x else (if t then y else z)) ≡ (if t then x else z)
    twice true x y z = refl
    twice false x y z = refl

    ward_at : (s : ℕ) → with_at v.ward r (record (v.ward r) { called = with_at (v.ward r).called k (last_caller (named v m r k) ((v.ward r).called k)) }) s ≡ with_at w.ward r next s
    ward_at s = ap (λ u. with_at v.ward r u s) next_is ∙ twice (s == r) next mine (w.ward s)

pub below_next : (w v u : Wire) (m r k : ℕ) → v ≡ calls_below w m r k → u ≡ calls_one v m r k → u ≡ calls_below w m r (k + 1)
below_next w v u m r k e f = f ∙ ap (λ x. calls_one x m r k) e ∙ one_below w m r k

nobody_calls : (lock : Lock) (n : ℕ) → 16 ≤ n → caller_of lock n ≡ None
nobody_calls lock n le = let e : nat_lt n 16 ≡ false = grind (arith, nat_tests) in ap (λ t. if t then caller lock n else None) e

names_none : (o last : Option ℕ) → o ≡ None → new_caller o last ≡ None
names_none o last e = ap (λ x. new_caller x last) e

pub below_end : (w : Wire) (m r : ℕ) → calls_below w m r 16 ≡ calls_out w m r
below_end w m r =
    let links : (calls_below w m r 16).link ≡ (calls_out w m r).link = fun_ext (λ a. fun_ext (λ b. in_range (a == m) (nat_lt b 16) (w.link a b) (calls_to r (named w m r b)) (λ f. ap (calls_to r) (out b f)))) in
    let called : (λ n. if nat_lt n 16 then last_caller (named w m r n) ((w.ward r).called n) else (w.ward r).called n) ≡ (λ n. last_caller (named w m r n) ((w.ward r).called n)) = fun_ext (λ n. all_called (nat_lt n 16) (named w m r n) ((w.ward r).called n) (out n)) in
    λ i. record w { ward = with_at w.ward r (record (w.ward r) { called = called i }); link = links i }
  where
    out : (n : ℕ) → nat_lt n 16 ≡ false → named w m r n ≡ None
    out n f = names_none _ _ (nobody_calls (w.table m r) n (past n f))
      where
        past : (n : ℕ) → nat_lt n 16 ≡ false → 16 ≤ n
        past n f = grind (arith, nat_tests)

    in_range : (a b : Bool) (l more : List Packet) → (b ≡ false → more ≡ []) → (if a && b then l ++ more else l) ≡ (if a then l ++ more else l)
    in_range true true l more f = refl
    in_range true false l more f = sym (ap (λ q. l ++ q) (f refl) ∙ nothing_more l)
    in_range false b l more f = refl

    all_called : (b : Bool) (o last : Option ℕ) → (b ≡ false → o ≡ None) → (if b then last_caller o last else last) ≡ last_caller o last
    all_called true o last f = refl
    all_called false o last f = sym (ap (λ x. last_caller x last) (f refl))

-- Reports, resource by resource.

pub reported-zero : (w : Wire) (a b : ℕ) (states : List (Option Local)) → reported w a b states 0 ≡ w
unfolding reported
reported-zero w a b states = refl

pub reported-suc : (w : Wire) (a b : ℕ) (states : List (Option Local)) (k : ℕ) → reported w a b states (suc k) ≡ reported_one (reported w a b states k) a b k (slice_index_or states k None)
unfolding reported
reported-suc w a b states k = refl

pub reported-next : (w v u : Wire) (a b : ℕ) (states : List (Option Local)) (k : ℕ) (o : Option Local) → v ≡ reported w a b states k → u ≡ reported_one v a b k o → o ≡ slice_index_or states k None → u ≡ reported w a b states (k + 1)
reported-next w v u a b states k o e f is =
    let next : k + 1 ≡ suc k = omega arith in
    f ∙ ap (λ x. reported_one x a b k o) e ∙ ap (reported_one (reported w a b states k) a b k) is ∙ sym (reported-suc w a b states k) ∙ ap (reported w a b states) (sym next)

-- Serving.

pub serve-refused : (w : Wire) (r m : ℕ) (o : Option LockError) → m ≡ master_of w r → w.live m ≡ true → first_awaited w r ≡ None → grant_refusal (w.table m r) ≡ o → serve_refusal w r ≡ option_map ends.Lock o
serve-refused w r m o at lives none g =
    ap (λ b. or_then (unless b (ends.Refused (NotUp (master_of w r)))) (or_then (rebuilding (first_awaited w r)) (option_map ends.Lock (grant_refusal (lock_at w r))))) (ap w.live (sym at) ∙ lives)
    ∙ ap (λ x. or_then (rebuilding x) (option_map ends.Lock (grant_refusal (lock_at w r)))) none
    ∙ ap (option_map ends.Lock) (ap (λ k. grant_refusal (w.table k r)) (sym at) ∙ g)

pub served-is : (w v u x : Wire) (r m : ℕ) (g : Granted) → m ≡ master_of w r → v ≡ w → Some g ≡ option_map (told (v.ward r).stale) (grant_answer (v.table m r)) → u ≡ granting v m r g → x ≡ calls_out u m r → x ≡ served w r
served-is w v u x r m g at same e f h =
    let answer : Some g ≡ serve_answer w r = e ∙ ap (λ (y : Wire). option_map (told (y.ward r).stale) (grant_answer (y.table m r))) same ∙ ap (λ k. option_map (told (w.ward r).stale) (grant_answer (w.table k r))) at in
    h ∙ ap (λ y. calls_out y m r) (f ∙ ap (λ y. granting y m r g) same) ∙ ap (λ k. calls_out (granting w k r g) k r) at ∙ ap (served_to w (master_of w r) r) answer

pub answer-is : (w v : Wire) (r m : ℕ) (g : Granted) → m ≡ master_of w r → v ≡ w → Some g ≡ option_map (told (v.ward r).stale) (grant_answer (v.table m r)) → Some g ≡ serve_answer w r
answer-is w v r m g at same e = e ∙ ap (λ (y : Wire). option_map (told (y.ward r).stale) (grant_answer (y.table m r))) same ∙ ap (λ k. option_map (told (w.ward r).stale) (grant_answer (w.table k r))) at

-- Taking over.

pub wards-is : (p : Parts) (wards : List WardPart) (ward : ℕ → Ward) → wards_of wards ≡ ward → wire_of (record p { wards = wards }) ≡ record (wire_of p) { ward = ward }
wards-is p wards ward e = λ i. record (wire_of p) { ward = e i }
