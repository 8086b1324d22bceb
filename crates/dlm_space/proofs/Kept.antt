-- What each call keeps of a lock.
use Rattle.std.proofs.Common.{◌≡◌, ◌≢◌, ◌<◌, ℕ, List, [], ◌∷◌, Bool, true, false, not, Option, Some, None, refl, sym, ap, subst, arith, if◌then◌else◌}
use Rattle.std.specs.Prelude.{is_some, unwrap_or}
use Rattle.std.proofs.lemmas.Bool.Decides.{nat_tests}
use Rattle.dlm_modes.specs.Modes.{weaker}
use Rattle.dlm_modes.specs.declared.block.Block.{Block}
use Rattle.dlm_modes.specs.declared.mode.Mode.{Mode}
use Rattle.dlm_modes.specs.declared.mode.Mode.TheVariants.{NL}
use Rattle.dlm_space.specs.Queues.{ask_for, asks, head}
use Rattle.dlm_modes.specs.Guards.{or_then}
use Rattle.dlm_modes.specs.Points.{with_at}
use Rattle.dlm_space.specs.Locks.{Lock, new_lock, mode_of, disagrees, blocker, blocked, ask_refusal, ask_now_refusal, convert_refusal, convert_now_refusal, head_refusal, grant_refusal, release_refusal, holding, with_value, asked, asked_now, queued, converted_value, converted, converted_now, granted_from, granted, released, died}
use Rattle.dlm_space.specs.Parts.{IsQueue}
use Rattle.dlm_space.specs.Orderly.{agree, IsOrderly}
use Rattle.dlm_space.specs.declared.answers.LockError.{LockError}
use Rattle.dlm_space.specs.declared.ask.Ask.{Ask}
use Rattle.dlm_space.proofs.QueueLaws.{asks_of-push, asks_of-without, IsQueue-push, IsQueue-without, IsQueue-rest, IsQueue-node, asks_head, asks_rest, once_head}
use Rattle.dlm_space.proofs.GuardLaws.{Free, free, Convertible, convertible, NoneAgainst, none_against, not_blocked, head_grantable}

agree_sym : (a b : Option Mode) → agree a b ≡ true → agree b a ≡ true
agree_sym a b e = grind arith

apart_at : {A : Type 0} (R : A → A → Bool) (f : ℕ → A) (n : ℕ) (v : A) → ((a b : A) → R a b ≡ true → R b a ≡ true) → ((p q : ℕ) → p ≢ q → R (f p) (f q) ≡ true) → ((m : ℕ) → m ≢ n → R v (f m) ≡ true) → (p q : ℕ) → p ≢ q → R (with_at f n v p) (with_at f n v q) ≡ true
apart_at R f n v s h g p q ne = grind (arith, nat_tests, h p q, g p, g q, s v (f p))

abbrev AllAgree : (ℕ → Option Mode) → Type 0
AllAgree f = (n m : ℕ) → n ≢ m → agree (f n) (f m) ≡ true

agree_hold : (lock : Lock) (n : ℕ) (mode : Mode) → AllAgree lock.held → NoneAgainst lock n mode → AllAgree (with_at lock.held n (Some mode))
agree_hold lock n mode h g = apart_at agree lock.held n (Some mode) agree_sym h (λ m ne. ap not (g m ne))

agree_leave : (lock : Lock) (n : ℕ) → AllAgree lock.held → AllAgree (with_at lock.held n None)
agree_leave lock n h = apart_at agree lock.held n None agree_sym h (λ m ne. refl)

weaker_against : (held other : Option Mode) (mode : Mode) → is_some held ≡ true → agree held other ≡ true → weaker (unwrap_or held NL) mode ≡ true → disagrees mode other ≡ false
weaker_against held other mode h a w = grind arith

-- a weaker mode disagrees with nobody
pub weaker_agrees : (lock : Lock) (n : ℕ) (mode : Mode) → IsOrderly lock → is_some (lock.held n) ≡ true → weaker (mode_of lock n) mode ≡ true → NoneAgainst lock n mode
weaker_agrees lock n mode i h w m ne = weaker_against (lock.held n) (lock.held m) mode h (i.agree n m (λ e. ne (sym e))) w

-- a node that holds does not request
pub holder_asks_not : (lock : Lock) (n : ℕ) → IsOrderly lock → is_some (lock.held n) ≡ true → asks n lock.requests ≡ false
holder_asks_not lock n i h = grind (arith, i.requester n)

pub new_orderly : IsOrderly new_lock
new_orderly = record {
  holders = λ n le. refl;
  agree = λ n m ne. refl;
  conversions = record { nodes = λ n le. refl; once = λ n. omega arith };
  requests = record { nodes = λ n le. refl; once = λ n. omega arith };
  converter = λ n e. grind arith;
  requester = λ n e. refl;
}

asked_orderly : (lock : Lock) (n : ℕ) (mode : Mode) → IsOrderly lock → n < 16 → Free lock n → IsOrderly (asked lock n mode)
asked_orderly lock n mode i lt f = record {
  holders = i.holders;
  agree = i.agree;
  conversions = i.conversions;
  requests = IsQueue-push n mode lock.requests i.requests lt f.asks;
  converter = i.converter;
  requester = λ m e. grind (arith, nat_tests, asks_of-push m lock.requests (ask_for n mode), i.requester m, f.holds);
}

queued_orderly : (lock : Lock) (n : ℕ) (mode : Mode) → IsOrderly lock → n < 16 → Convertible lock n → IsOrderly (queued lock n mode)
queued_orderly lock n mode i lt f = record {
  holders = i.holders;
  agree = i.agree;
  conversions = IsQueue-push n mode lock.conversions i.conversions lt f.asks;
  requests = i.requests;
  converter = λ m e. grind (arith, nat_tests, asks_of-push m lock.conversions (ask_for n mode), i.converter m, f.holds);
  requester = i.requester;
}

holding_orderly : (lock : Lock) (n : ℕ) (mode : Mode) → IsOrderly lock → n < 16 → asks n lock.requests ≡ false → NoneAgainst lock n mode → IsOrderly (holding lock n mode)
holding_orderly lock n mode i lt f g = record {
  holders = λ m le. grind (arith, nat_tests, i.holders m le);
  agree = agree_hold lock n mode i.agree g;
  conversions = i.conversions;
  requests = i.requests;
  converter = λ m e. grind (arith, nat_tests, i.converter m e);
  requester = λ m e. grind (arith, nat_tests, i.requester m e, f);
}

with_value_orderly : (lock : Lock) (value : Option Block) → IsOrderly lock → IsOrderly (with_value lock value)
with_value_orderly lock value i = record {
  holders = i.holders;
  agree = i.agree;
  conversions = i.conversions;
  requests = i.requests;
  converter = i.converter;
  requester = i.requester;
}

released_orderly : (lock : Lock) (n : ℕ) (value : Option Block) → IsOrderly lock → is_some (lock.held n) ≡ true → IsOrderly (released lock n value)
released_orderly lock n value i h = record {
  holders = λ m le. grind (arith, nat_tests, i.holders m le);
  agree = agree_leave lock n i.agree;
  conversions = IsQueue-without n lock.conversions i.conversions;
  requests = i.requests;
  converter = λ m e. grind (arith, nat_tests, asks_of-without m n lock.conversions, i.converter m);
  requester = λ m e. grind (arith, nat_tests, i.requester m e);
}

died_orderly : (lock : Lock) (n : ℕ) → IsOrderly lock → IsOrderly (died lock n)
died_orderly lock n i = record {
  holders = λ m le. grind (arith, nat_tests, i.holders m le);
  agree = agree_leave lock n i.agree;
  conversions = IsQueue-without n lock.conversions i.conversions;
  requests = IsQueue-without n lock.requests i.requests;
  converter = λ m e. grind (arith, nat_tests, asks_of-without m n lock.conversions, i.converter m);
  requester = λ m e. grind (arith, nat_tests, asks_of-without m n lock.requests, i.requester m);
}

converted_orderly : (lock : Lock) (a : Ask) (rest : List Ask) → IsOrderly lock → lock.conversions ≡ a ∷ rest → NoneAgainst lock a.node a.mode → IsOrderly (record lock { held = with_at lock.held a.node (Some a.mode); conversions = rest })
converted_orderly lock a rest i q g =
    let queue : IsQueue (a ∷ rest) = subst IsQueue q i.conversions in
    let lt : a.node < 16 = IsQueue-node a rest queue in
    let holds : is_some (lock.held a.node) ≡ true = i.converter a.node (rw q (asks_head a rest)) in
    record {
      holders = λ m le. grind (arith, nat_tests, i.holders m le);
      agree = agree_hold lock a.node a.mode i.agree g;
      conversions = IsQueue-rest a rest queue;
      requests = i.requests;
      converter = λ m e. grind (arith, nat_tests, i.converter m (rw q (asks_rest a rest m e)));
      requester = λ m e. grind (arith, nat_tests, i.requester m e, holds);
    }

requested_orderly : (lock : Lock) (a : Ask) (rest : List Ask) → IsOrderly lock → lock.requests ≡ a ∷ rest → NoneAgainst lock a.node a.mode → IsOrderly (record lock { held = with_at lock.held a.node (Some a.mode); requests = rest })
requested_orderly lock a rest i q g =
    let queue : IsQueue (a ∷ rest) = subst IsQueue q i.requests in
    let lt : a.node < 16 = IsQueue-node a rest queue in
    let once : asks a.node rest ≡ false = once_head a rest queue in
    record {
      holders = λ m le. grind (arith, nat_tests, i.holders m le);
      agree = agree_hold lock a.node a.mode i.agree g;
      conversions = i.conversions;
      requests = IsQueue-rest a rest queue;
      converter = λ m e. grind (arith, nat_tests, i.converter m e);
      requester = λ m e. grind (arith, nat_tests, i.requester m (rw q (asks_rest a rest m e)), once);
    }

granted_from_orderly : (lock : Lock) (conversions requests : List Ask) → lock.conversions ≡ conversions → lock.requests ≡ requests → head_refusal lock (head conversions requests) ≡ None → IsOrderly lock → IsOrderly (granted_from lock conversions requests)
granted_from_orderly lock (a ∷ rest) requests c q e i = converted_orderly lock a rest i c (none_against lock a.node a.mode i.holders (head_grantable lock a e))
granted_from_orderly lock [] (a ∷ rest) c q e i = requested_orderly lock a rest i q (none_against lock a.node a.mode i.holders (head_grantable lock a e))
granted_from_orderly lock [] [] c q e i = i

-- Each accepted call keeps a lock orderly.

record Both (a b : Option LockError) : Type 0 where
  first : a ≡ None
  second : b ≡ None

both : (first second : Option LockError) → or_then first second ≡ None → Both first second
both None second e = record { first = refl; second = e }
both (Some x) second e = cc

pub ask_keeps : (lock : Lock) (n : ℕ) (mode : Mode) → IsOrderly lock → n < 16 → ask_refusal lock n ≡ None → IsOrderly (asked lock n mode)
ask_keeps lock n mode i lt e = asked_orderly lock n mode i lt (free lock n e)

taken_orderly : (lock : Lock) (n : ℕ) (mode : Mode) → IsOrderly lock → n < 16 → asks n lock.requests ≡ false → blocked lock (blocker lock n mode) ≡ None → IsOrderly (holding lock n mode)
taken_orderly lock n mode i lt f e = holding_orderly lock n mode i lt f (none_against lock n mode i.holders (not_blocked lock _ e))

pub ask_now_keeps : (lock : Lock) (n : ℕ) (mode : Mode) → IsOrderly lock → n < 16 → ask_now_refusal lock n mode ≡ None → IsOrderly (asked_now lock n mode)
ask_now_keeps lock n mode i lt e = let b = both _ _ e in taken_orderly lock n mode i lt (free lock n b.first).asks b.second

pub convert_now_keeps : (lock : Lock) (n : ℕ) (mode : Mode) → IsOrderly lock → n < 16 → convert_now_refusal lock n mode ≡ None → IsOrderly (converted_now lock n mode)
convert_now_keeps lock n mode i lt e =
    let b = both _ _ e in
    taken_orderly lock n mode i lt (holder_asks_not lock n i (convertible lock n b.first).holds) b.second

pub convert_keeps : (lock : Lock) (n : ℕ) (mode : Mode) (value : Option Block) → IsOrderly lock → n < 16 → convert_refusal lock n ≡ None → IsOrderly (converted lock n mode value)
convert_keeps lock n mode value i lt e =
    let f : Convertible lock n = convertible lock n e in
    elim (weaker (mode_of lock n) mode) as (λ b. weaker (mode_of lock n) mode ≡ b → IsOrderly (if b then holding (with_value lock (converted_value (mode_of lock n) mode value)) n mode else queued lock n mode)) [
      | true ↦ λ w. holding_orderly (with_value lock (converted_value (mode_of lock n) mode value)) n mode (with_value_orderly lock (converted_value (mode_of lock n) mode value) i) lt (holder_asks_not lock n i f.holds) (weaker_agrees lock n mode i f.holds w)
      | false ↦ λ w. queued_orderly lock n mode i lt f
    ] refl

pub release_keeps : (lock : Lock) (n : ℕ) (value : Option Block) → IsOrderly lock → release_refusal lock n ≡ None → IsOrderly (released lock n value)
release_keeps lock n value i e = released_orderly lock n value i (grind arith)

pub grant_keeps : (lock : Lock) → IsOrderly lock → grant_refusal lock ≡ None → IsOrderly (granted lock)
grant_keeps lock i e = granted_from_orderly lock lock.conversions lock.requests refl refl e i

pub die_keeps : (lock : Lock) (n : ℕ) → IsOrderly lock → IsOrderly (died lock n)
die_keeps lock n i = died_orderly lock n i
