-- The calls of a run, from the opening on.
use Rattle.std.proofs.Common.{◌≡◌, ◌<◌, ◌≤◌, ℕ, zero, suc, Bool, true, false, List, [], ◌∷◌, Option, Some, None, refl, sym, ap, ◌∙◌, subst, arith, ◌==◌, ◌&&◌, if◌then◌else◌}
use Rattle.std.specs.Prelude.{nat_lt}
use Rattle.std.proofs.lemmas.Bool.Decides.{nat_tests}
use Rattle.std.proofs.Math.Path.{fun_ext}
use Rattle.dlm_modes.specs.Points.{with_at}
use Rattle.dlm_modes.specs.declared.mode.Mode.{Mode}
use Rattle.dlm_modes.specs.declared.mode.Mode.TheVariants.{CR, PW}
use Rattle.dlm_space.specs.Locks.{Lock, new_lock, new_locks, zero_block, holding, valid_block, ask_now_refusal}
use Rattle.dlm_space.specs.Calls.{Call, AsksNow, Leads}
use Rattle.dlm_space.specs.Sound.{CallsAreSound}
use Rattle.dlm_space.specs.Orderly.{agree}
use Rattle.dlm_space.proofs.Leading.{leads_nowhere, leads_on, ask_now_leads}
use Rattle.mdc_types.specs.declared.outcomes.Entry.{Entry}
use Rattle.msg_rounds.specs.Locks.{ack_res}
use Rattle.cluster_model.specs.Changes.{no_new_dev}
use Rattle.cluster_model.specs.Opening.{Origin, IsOrigin, is_member, held_by_members, bitmap_lock, locks_at}
use Rattle.laws_locks.specs.Following.{core_after, AreAccepted, rounds_in}
use Rattle.laws_locks.specs.Called.{calls_of, opening_calls, calls_in}
use Rattle.laws_locks.proofs.OtherRuns.{MembersAreClean}
use Rattle.laws_locks.specs.Laws.{CallsHold, CallsAreMade}
use Rattle.laws_locks.proofs.Runs.{run_kept, run_is, member_below, free_lock}
use Rattle.laws_locks.proofs.OtherRuns.{others_after}
use Rattle.laws_locks.proofs.Unblocking.{may_ask_now}
use Rattle.laws_locks.proofs.Calling.{Far}
use Rattle.laws_locks.proofs.CalledRows.{step_made}

-- The opening: what the members below k hold.

abbrev mode_by : Bool → Bool → Bool → Option Mode
mode_by ack device own = if ack then Some CR else if device then Some CR else if own then Some PW else None

abbrev lock_by : Origin → ℕ → (ℕ → Option Mode) → Lock
lock_by o k f = record new_lock { held = λ n. if nat_lt n k && is_member o n then f n else None }

abbrev locks_below : Origin → ℕ → ℕ → Lock
locks_below o k r = lock_by o k (λ n. mode_by (r == ack_res) (r == no_new_dev) (n == r))

none_below : (n : ℕ) (b : Bool) (m : Option Mode) → (if nat_lt n 0 && b then m else None) ≡ None
none_below n b m = grind (arith, nat_tests)

at_zero : (o : Origin) → new_locks ≡ locks_below o 0
at_zero o = fun_ext (λ r. λ i. record new_lock { held = λ n. sym (none_below n (is_member o n) (mode_by (r == ack_res) (r == no_new_dev) (n == r))) i })

own_last : (a b m : Bool) → a ≡ m → (if a then (if b then Some PW else None) else None) ≡ (if b && m then Some PW else None)
own_last a b m e = grind arith

at_end : (o : Origin) → locks_below o 16 ≡ locks_at o
at_end o = fun_ext (λ r. by_tests r (r == ack_res) (r == no_new_dev))
  where
    by_tests : (r : ℕ) (a b : Bool) → lock_by o 16 (λ n. mode_by a b (n == r)) ≡ (if a then held_by_members o CR else if b then held_by_members o CR else bitmap_lock o r)
    by_tests r true b = λ i. record new_lock { held = λ n. (let m : Bool = member_below o n i in if m then Some CR else None) }
    by_tests r false true = λ i. record new_lock { held = λ n. (let m : Bool = member_below o n i in if m then Some CR else None) }
    by_tests r false false = λ i. record new_lock { held = λ n. own_last (nat_lt n 16 && is_member o n) (n == r) (is_member o n) (member_below o n) i }

-- nothing is held yet by node k
not_yet : (k : ℕ) (b : Bool) (m : Option Mode) → (if nat_lt k k && b then m else None) ≡ None
not_yet k b m = grind (arith, nat_tests)

-- nobody below k has its bitmap
free_slot : (k n : ℕ) (b : Bool) → k < 16 → (if nat_lt n k && b then mode_by (k == ack_res) (k == no_new_dev) (n == k) else None) ≡ None
free_slot k n b lt = grind (arith, nat_tests)

agree_none : (mode : Mode) (held : Option Mode) → held ≡ None → agree (Some mode) held ≡ true
agree_none mode held e = grind arith

agree_cr : (b : Bool) → agree (Some CR) (if b then Some CR else None) ≡ true
agree_cr true = refl
agree_cr false = refl

apart_from : (j k : ℕ) → 16 ≤ j → k < 16 → (j == k) ≡ false
apart_from j k le lt = grind (arith, nat_tests)

-- one member more

more_held : (k n : ℕ) (b m : Bool) (mode : Option Mode) → (k ≡ n → m ≡ true) → (if n == k then mode else (if nat_lt n k && m then mode else None)) ≡ (if nat_lt n (suc k) && m then mode else None)
more_held k n b m mode e = grind (arith, nat_tests)

abbrev one_more : Origin → ℕ → ℕ → Lock
one_more o k = with_at (locks_below o k) k (holding (locks_below o k k) k PW)

abbrev two_more : Origin → ℕ → ℕ → Lock
two_more o k = with_at (one_more o k) ack_res (holding (locks_below o k ack_res) k CR)

abbrev three_more : Origin → ℕ → ℕ → Lock
three_more o k = with_at (two_more o k) no_new_dev (holding (locks_below o k no_new_dev) k CR)

slot_more : (k n r : ℕ) (m : Bool) (ack device : Bool) → k < 16 → (k ≡ n → m ≡ true) → r ≡ k → (r == ack_res) ≡ ack → (r == no_new_dev) ≡ device → (if n == k then Some PW else (if nat_lt n k && m then mode_by (k == ack_res) (k == no_new_dev) (n == k) else None)) ≡ (if nat_lt n (suc k) && m then mode_by ack device (n == r) else None)
slot_more k n r m ack device lt e f g h = grind (arith, nat_tests)

other_more : (k n r : ℕ) (m : Bool) → (r == ack_res) ≡ false → (r == no_new_dev) ≡ false → (r == k) ≡ false → (k ≡ n → m ≡ true) → (if nat_lt n k && m then mode_by false false (n == r) else None) ≡ (if nat_lt n (suc k) && m then mode_by false false (n == r) else None)
other_more k n r m a b c e = grind (arith, nat_tests)

is_number : (r j : ℕ) → (r == j) ≡ true → r ≡ j
is_number r j e = grind (arith, nat_tests)

module _ (o : Origin) (k : ℕ) (lt : k < 16) (is : is_member o k ≡ true) where
  member_at : (n : ℕ) → k ≡ n → is_member o n ≡ true
  member_at n e = ap (is_member o) (sym e) ∙ is

  more : three_more o k ≡ locks_below o (suc k)
  more = fun_ext (λ r. by_tests r (r == no_new_dev) (r == ack_res) (r == k) refl refl refl)
    where
      by_tests : (r : ℕ) (d a b : Bool) → (r == no_new_dev) ≡ d → (r == ack_res) ≡ a → (r == k) ≡ b → (if d then holding (locks_below o k no_new_dev) k CR else if a then holding (locks_below o k ack_res) k CR else if b then holding (locks_below o k k) k PW else lock_by o k (λ n. mode_by a d (n == r))) ≡ lock_by o (suc k) (λ n. mode_by a d (n == r))
      by_tests r true true b e f g = λ i. record new_lock { held = λ n. more_held k n true (is_member o n) (Some CR) (member_at n) i }
      by_tests r true false b e f g = λ i. record new_lock { held = λ n. more_held k n true (is_member o n) (Some CR) (member_at n) i }
      by_tests r false true b e f g = λ i. record new_lock { held = λ n. more_held k n true (is_member o n) (Some CR) (member_at n) i }
      by_tests r false false true e f g = λ i. record new_lock { held = λ n. slot_more k n r (is_member o n) false false lt (member_at n) (is_number r k g) f e i }
      by_tests r false false false e f g = λ i. record new_lock { held = λ n. other_more k n r (is_member o n) f e g (member_at n) i }

  slot_free : ask_now_refusal (locks_below o k k) k PW ≡ None
  slot_free = may_ask_now (locks_below o k k) k PW (free_slot k k (is_member o k) lt) refl (λ m ne. agree_none PW _ (free_slot k m (is_member o m) lt))

  ack_free : ask_now_refusal (locks_below o k ack_res) k CR ≡ None
  ack_free = may_ask_now (locks_below o k ack_res) k CR (not_yet k (is_member o k) (Some CR)) refl (λ m ne. agree_cr (nat_lt m k && is_member o m))

  device_free : ask_now_refusal (locks_below o k no_new_dev) k CR ≡ None
  device_free = may_ask_now (locks_below o k no_new_dev) k CR (not_yet k (is_member o k) (Some CR)) refl (λ m ne. agree_cr (nat_lt m k && is_member o m))

  same_ack : one_more o k ack_res ≡ locks_below o k ack_res
  same_ack = rw (apart_from ack_res k (omega arith) lt) refl

  same_device : two_more o k no_new_dev ≡ locks_below o k no_new_dev
  same_device = rw (apart_from no_new_dev k (omega arith) lt) refl

  first_lead : Leads (locks_below o k) (AsksNow k k PW (Some zero_block) ∷ []) (one_more o k)
  first_lead = ask_now_leads (locks_below o k) k k PW (Some zero_block) lt slot_free refl

  second_lead : Leads (one_more o k) (AsksNow k ack_res CR (Some zero_block) ∷ []) (two_more o k)
  second_lead = subst (λ l. ask_now_refusal l k CR ≡ None → Some zero_block ≡ valid_block l → Leads (one_more o k) (AsksNow k ack_res CR (Some zero_block) ∷ []) (with_at (one_more o k) ack_res (holding l k CR))) same_ack
      (λ e g. ask_now_leads (one_more o k) k ack_res CR (Some zero_block) lt e g) ack_free refl

  third_lead : Leads (two_more o k) (AsksNow k no_new_dev CR (Some zero_block) ∷ []) (three_more o k)
  third_lead = subst (λ l. ask_now_refusal l k CR ≡ None → Some zero_block ≡ valid_block l → Leads (two_more o k) (AsksNow k no_new_dev CR (Some zero_block) ∷ []) (with_at (two_more o k) no_new_dev (holding l k CR))) same_device
      (λ e g. ask_now_leads (two_more o k) k no_new_dev CR (Some zero_block) lt e g) device_free refl

  member_leads : (past : List Call) → Leads new_locks past (locks_below o k) → Leads new_locks (AsksNow k no_new_dev CR (Some zero_block) ∷ AsksNow k ack_res CR (Some zero_block) ∷ AsksNow k k PW (Some zero_block) ∷ past) (locks_below o (suc k))
  member_leads past l = subst (Leads new_locks (AsksNow k no_new_dev CR (Some zero_block) ∷ AsksNow k ack_res CR (Some zero_block) ∷ AsksNow k k PW (Some zero_block) ∷ past)) more
      (leads_on new_locks (two_more o k) (three_more o k) (AsksNow k ack_res CR (Some zero_block) ∷ AsksNow k k PW (Some zero_block) ∷ past) (AsksNow k no_new_dev CR (Some zero_block) ∷ [])
      (leads_on new_locks (one_more o k) (two_more o k) (AsksNow k k PW (Some zero_block) ∷ past) (AsksNow k ack_res CR (Some zero_block) ∷ [])
      (leads_on new_locks (locks_below o k) (one_more o k) past (AsksNow k k PW (Some zero_block) ∷ []) l first_lead)
      second_lead)
      third_lead)

-- a node that isn't a member
skipped : (k n : ℕ) (m : Bool) (mode : Option Mode) → (k ≡ n → m ≡ false) → (if nat_lt n k && m then mode else None) ≡ (if nat_lt n (suc k) && m then mode else None)
skipped k n m mode e = grind (arith, nat_tests)

skip : (o : Origin) (k : ℕ) → is_member o k ≡ false → locks_below o k ≡ locks_below o (suc k)
skip o k none = fun_ext (λ r. λ i. record new_lock { held = λ n. skipped k n (is_member o n) (mode_by (r == ack_res) (r == no_new_dev) (n == r)) (λ e. ap (is_member o) (sym e) ∙ none) i })

member_or_not : (o : Origin) (k : ℕ) → k < 16 → Leads new_locks (opening_calls o k) (locks_below o k) → (b : Bool) → is_member o k ≡ b → Leads new_locks (if b then AsksNow k no_new_dev CR (Some zero_block) ∷ AsksNow k ack_res CR (Some zero_block) ∷ AsksNow k k PW (Some zero_block) ∷ opening_calls o k else opening_calls o k) (locks_below o (suc k))
member_or_not o k lt before true is = member_leads o k lt is (opening_calls o k) before
member_or_not o k lt before false is = subst (Leads new_locks (opening_calls o k)) (skip o k is) before

opening_leads : (o : Origin) (k : ℕ) → k ≤ 16 → Leads new_locks (opening_calls o k) (locks_below o k)
unfolding opening_calls
opening_leads o zero le = subst (Leads new_locks []) (at_zero o) (leads_nowhere new_locks)
opening_leads o (suc k) le = member_or_not o k (omega arith) (opening_leads o k (omega arith)) (is_member o k) refl

opening_far : (o : Origin) → Far (locks_at o)
opening_far o r n le = ap (λ (l : Lock). l.held n) (far_lock o r le)
  where
    far_lock : (o : Origin) (r : ℕ) → 21 ≤ r → locks_at o r ≡ new_lock
    far_lock o r le = by_tests (r == ack_res) (r == no_new_dev) (not_ack r le) (not_device r le)
      where
        not_ack : (r : ℕ) → 21 ≤ r → (r == ack_res) ≡ false
        not_ack r le = grind (arith, nat_tests)

        not_device : (r : ℕ) → 21 ≤ r → (r == no_new_dev) ≡ false
        not_device r le = grind (arith, nat_tests)

        by_tests : (a b : Bool) → a ≡ false → b ≡ false → (if a then held_by_members o CR else if b then held_by_members o CR else bitmap_lock o r) ≡ new_lock
        by_tests true b e f = cc
        by_tests false true e f = cc
        by_tests false false e f = free_lock o r (omega arith)

-- The run.

record Called (o : Origin) (past : List Entry) : Type 0 where
  leads : Leads new_locks (calls_in o past) (core_after o past).locks
  far : Far (core_after o past).locks

called_after : (o : Origin) → IsOrigin o → MembersAreClean o → (past : List Entry) → AreAccepted o past → Called o past
called_after o is clean [] a = record { leads = subst (Leads new_locks (opening_calls o 16)) (at_end o) (opening_leads o 16 (omega arith)); far = opening_far o }
called_after o is clean (x ∷ past) a =
    let before = called_after o is clean past a.0 in
    let core = core_after o past in
    let m = step_made (is_member o) (rounds_in o past) core (run_kept o is past a.0) (others_after o is clean past a.0) before.far (calls_in o past) before.leads x.event x.outcome a.1 in
    record {
      leads = leads_on new_locks core.locks (core_after o (x ∷ past)).locks (calls_in o past) (calls_of core x.event x.outcome) before.leads m.leads;
      far = m.far before.far;
    }

pub calls_are_made : CallsAreSound → CallsAreMade
calls_are_made sound o start end past is opens run =
    let clean : MembersAreClean o = is.clean in
    let r = run_is o start opens past end run in
    let c = called_after o is clean past r.accepted in
    subst (CallsHold o past) (sym r.leads) (record { accepted = c.leads.accepted; leads = c.leads.leads; sound = sound (calls_in o past) c.leads.accepted })
