-- What the rounds tell of offers, senders and receivers at an event.
use Rattle.std.proofs.Common.{◌≡◌, ◌⊎◌, inl, inr, ℕ, ◌<◌, ◌==◌, Bool, true, false, if◌then◌else◌, List, [], ◌∷◌, Option, Some, None, refl, sym, ap, subst, ◌∙◌, arith}
use Rattle.std.specs.Prelude.{is_none as is_no}
use Rattle.std.proofs.lemmas.Bool.{cases_lt}
use Rattle.std.proofs.lemmas.Bool.Decides.{nat_tests}
use Rattle.dlm_modes.specs.declared.mode.Mode.{Mode}
use Rattle.dlm_modes.specs.declared.mode.Mode.TheVariants.{CR, CW, PR, EX}
use Rattle.dlm_modes.specs.Points.{with_at}
use Rattle.dlm_modes.specs.declared.block.Block.{Block}
use Rattle.mdc_types.specs.declared.events.Wish.{Wish}
use Rattle.mdc_types.specs.declared.roles.NodeState.{NodeState}
use Rattle.mdc_types.specs.declared.roles.NodeState.TheVariants as states
use Rattle.dlm_space.specs.Queues.{head, asks_of}
use Rattle.dlm_space.specs.Locks.{Lock, holding, with_value, granted, granted_from, let_go, queued, all_let_go}
use Rattle.dlm_space.specs.declared.ask.Ask.{Ask}
use Rattle.msg_rounds.specs.Holds.{NodeHolds, message_request, ack_conversion}
use Rattle.msg_rounds.specs.Locks.{token_res, message_res, ack_res, quitted, message_processed, finished, resumed, published}
use Rattle.msg_rounds.specs.Phases.{is_idle, may_receive, has_message, has_published}
use Rattle.msg_rounds.specs.Refusals.{is_ex, is_offered, is_granted, is_taken, is_message_held, is_token_held}
use Rattle.msg_rounds.specs.declared.phases.SenderPhase.{SenderPhase}
use Rattle.msg_rounds.specs.declared.phases.SenderPhase.TheVariants as senders
use Rattle.msg_rounds.specs.declared.phases.ReceiverPhase.{ReceiverPhase}
use Rattle.msg_rounds.specs.declared.phases.ReceiverPhase.TheVariants as receivers
use Rattle.cluster_model.specs.State.{Core, Offer}
use Rattle.cluster_model.specs.Phases.{is_in}
use Rattle.cluster_model.specs.Changes.{no_new_dev, device_unlocked}
use Rattle.cluster_model.specs.Processing.{device_lock_kept}
use Rattle.laws_locks.specs.Rounded.{Numbered, stands, offering, wish_fits, offer_fits}
use Rattle.laws_sound.proofs.Change.{Publishes}

pub here : {A : Type 0} (f : ℕ → A) (n : ℕ) (v : A) → with_at f n v n ≡ v
here f n v = let e : (n == n) ≡ true = grind (arith, nat_tests) in rw e refl

-- Offers.

none_is : (x : Option Offer) → is_no x ≡ true → x ≡ None
none_is None e = refl
none_is (Some o) e = cc

pub no_offer : (s : NodeState) (t : SenderPhase) (x : Option Offer) → offering s t x ≡ true → stands t ≡ false → x ≡ None
no_offer s t x e down = none_is x (by (stands t) down e)
  where
    by : (b : Bool) → b ≡ false → (if b then offer_fits s x else is_no x) ≡ true → is_no x ≡ true
    by true down e = cc
    by false down e = e

pub record Standing (s : NodeState) (x : Option Offer) : Type 0 where
  pub offer : Offer
  pub is : x ≡ Some offer
  pub up : is_in s ≡ true

fits_in : (s : NodeState) (w : Wish) → wish_fits s w ≡ true → is_in s ≡ true
fits_in states.Up w e = refl
fits_in states.Loaded w e = refl
fits_in s w e = cc

fits_stand : (s : NodeState) (x : Option Offer) → offer_fits s x ≡ true → Standing s x
fits_stand s None e = cc
fits_stand s (Some o) e = record { offer = o; is = refl; up = fits_in s o.wish e }

pub standing : (s : NodeState) (t : SenderPhase) (x : Option Offer) → offering s t x ≡ true → stands t ≡ true → Standing s x
standing s t x e stood = fits_stand s x (by (stands t) stood e)
  where
    by : (b : Bool) → b ≡ true → (if b then offer_fits s x else is_no x) ≡ true → offer_fits s x ≡ true
    by true stood e = e
    by false stood e = cc

pub offered_up : (s : NodeState) (o : Offer) → offering s senders.Offered (Some o) ≡ true → is_in s ≡ true
offered_up s o e = fits_in s o.wish e

pub offered_stands : (s : SenderPhase) → is_offered s ≡ true → (stands s ≡ true) × (has_message s ≡ true)
offered_stands senders.Offered e = (refl, refl)
offered_stands s e = cc

pub granted_stands : (s : SenderPhase) → is_granted s ≡ true → (stands s ≡ true) × (has_published s ≡ true) × (may_receive s ≡ false)
granted_stands senders.Granted e = (refl, refl, refl)
granted_stands s e = cc

pub published_stands : (s : SenderPhase) → has_published s ≡ true → stands s ≡ true
published_stands senders.Published e = refl
published_stands senders.Granted e = refl
published_stands s e = cc

pub held_silent : (s : SenderPhase) → is_message_held s ≡ true → stands s ≡ false
held_silent senders.MessageHeld e = refl
held_silent s e = cc

pub token_silent : (s : SenderPhase) → is_token_held s ≡ true → stands s ≡ false
token_silent senders.TokenHeld e = refl
token_silent s e = cc

pub receives_silent : (s : SenderPhase) → may_receive s ≡ true → stands s ≡ false
receives_silent senders.Idle e = refl
receives_silent senders.TokenAsked e = refl
receives_silent senders.TokenHeld e = refl
receives_silent s e = cc

pub is_taken_now : (r : ReceiverPhase) → is_taken r ≡ true → r ≡ receivers.Taken
is_taken_now receivers.Taken e = refl
is_taken_now r e = cc

-- a busy receiver's node sends nothing
pub busy_receives : (s : SenderPhase) (r : ReceiverPhase) → is_idle r ≡ false → (may_receive s ≡ false → r ≡ receivers.Idle) → may_receive s ≡ true
busy_receives s r busy f = by (may_receive s) refl
  where
    by : (b : Bool) → may_receive s ≡ b → b ≡ true
    by true e = refl
    by false e = let idle : is_idle r ≡ true = ap is_idle (f e) in cc

pub node_below : (core : Core) (n : ℕ) → Numbered core → is_in (core.state n) ≡ true → n < 16
node_below core n i up = elim (cases_lt n 16) [
  | inl lt ↦ lt
  | inr past ↦ let out : is_in (core.state n) ≡ false = ap is_in (i.beyond n past) in cc
]

-- Who is granted.

first_ask : (a : Ask) (rest : List Ask) → asks_of a.node (a ∷ rest) ≡ a.mode ∷ asks_of a.node rest
first_ask a rest = let e : (a.node == a.node) ≡ true = grind (arith, nat_tests) in rw e refl

-- the head's node asks its mode
pub record Asks (conversions requests : List Ask) (a : Ask) : Type 0 where
  pub rest : List Mode
  pub either : (asks_of a.node conversions ≡ a.mode ∷ rest) ⊎ (asks_of a.node requests ≡ a.mode ∷ rest)

pub head_asks : (conversions requests : List Ask) (a : Ask) → head conversions requests ≡ Some a → Asks conversions requests a
head_asks (b ∷ rest) requests a e = let same : b ≡ a = cc in subst (Asks (b ∷ rest) requests) same (record { rest = asks_of b.node rest; either = inl (first_ask b rest) })
head_asks [] (b ∷ rest) a e = let same : b ≡ a = cc in subst (Asks [] (b ∷ rest)) same (record { rest = asks_of b.node rest; either = inr (first_ask b rest) })
head_asks [] [] a e = cc

some_modes : (m : Mode) (ms : List Mode) → [] ≡ m ∷ ms → ⊥
some_modes m ms e = cc

request_ex : (s : SenderPhase) (held : Option Mode) (ms : List Mode) → message_request s held ≡ PR ∷ ms → ⊥
request_ex senders.MessageAsked None ms e = cc
request_ex senders.MessageAsked (Some h) ms e = cc
request_ex s held ms e = cc

-- who is granted PR on `message` has taken a message
pub pr_busy : (locks : ℕ → Lock) (s : SenderPhase) (r : ReceiverPhase) (a : Ask) → NodeHolds locks a.node s r → a.mode ≡ PR → Asks (locks message_res).conversions (locks message_res).requests a → is_idle r ≡ false
pr_busy locks s r a h pr q = by (is_idle r) refl (may_receive s) refl q.either
  where
    by : (b : Bool) → is_idle r ≡ b → (d : Bool) → may_receive s ≡ d → (asks_of a.node (locks message_res).conversions ≡ a.mode ∷ q.rest) ⊎ (asks_of a.node (locks message_res).requests ≡ a.mode ∷ q.rest) → b ≡ false
    by false idle d calm e = refl
    by true idle true calm (inl e) = let j = h.calm calm idle in absurd (some_modes a.mode q.rest (sym j.2 ∙ e))
    by true idle true calm (inr e) = let j = h.calm calm idle in absurd (some_modes a.mode q.rest (sym j.1 ∙ e))
    by true idle false calm (inl e) = absurd (some_modes a.mode q.rest (sym (h.sender.message_conversions calm) ∙ e))
    by true idle false calm (inr e) = absurd (request_ex s ((locks message_res).held a.node) q.rest (sym (h.sender.message_requests calm) ∙ e ∙ ap (λ m. m ∷ q.rest) pr))

converts_published : (s : SenderPhase) (held : Option Mode) (m : Mode) (ms : List Mode) → ack_conversion s held ≡ m ∷ ms → has_published s ≡ true
converts_published senders.Published held m ms e = refl
converts_published s held m ms e = cc

-- who is granted `ack` has published, or has nothing to say of it
pub ack_published : (locks : ℕ → Lock) (s : SenderPhase) (r : ReceiverPhase) (a : Ask) → NodeHolds locks a.node s r → may_receive s ≡ false → Asks (locks ack_res).conversions (locks ack_res).requests a → has_published s ≡ true
ack_published locks s r a h sends q = elim q.either [
  | inl e ↦ converts_published s ((locks ack_res).held a.node) a.mode q.rest (sym (h.sender.ack_conversions sends) ∙ e)
  | inr e ↦ absurd (some_modes a.mode q.rest (sym (h.sender.ack_requests sends) ∙ e))
]

-- Blocks.

pub granted_block : (lock : Lock) → (granted lock).block ≡ lock.block
granted_block lock = by lock.conversions lock.requests
  where
    by : (c r : List Ask) → (granted_from lock c r).block ≡ lock.block
    by (a ∷ c) r = refl
    by [] (a ∷ r) = refl
    by [] [] = refl

pub same_at : (locks : ℕ → Lock) (n : ℕ) (lock : Lock) → lock.block ≡ (locks n).block → (r : ℕ) → (with_at locks n lock r).block ≡ (locks r).block
same_at locks n lock e r = by (r == n) refl
  where
    by : (b : Bool) → (r == n) ≡ b → (if b then lock else locks r).block ≡ (locks r).block
    by true t = let same : r ≡ n = grind (arith, nat_tests) in e ∙ ap (λ k. (locks k).block) (sym same)
    by false t = refl

same_two : (locks : ℕ → Lock) (n k : ℕ) (a b : Lock) → a.block ≡ (locks n).block → b.block ≡ (with_at locks n a k).block → (r : ℕ) → (with_at (with_at locks n a) k b r).block ≡ (locks r).block
same_two locks n k a b e f r = same_at (with_at locks n a) k b f r ∙ same_at locks n a e r

pub unlocked_in : (locks : ℕ → Lock) (n r : ℕ) → (device_unlocked locks n r).block ≡ (locks r).block
unlocked_in locks n r = by (is_ex ((locks no_new_dev).held n))
  where
    by : (b : Bool) → ((if b then with_at locks no_new_dev (holding (locks no_new_dev) n CR) else locks) r).block ≡ (locks r).block
    by true = same_at locks no_new_dev (holding (locks no_new_dev) n CR) refl r
    by false = refl

pub kept_in : (locks : ℕ → Lock) (n r : ℕ) → (device_lock_kept locks n r).block ≡ (locks r).block
kept_in locks n r = by (is_no ((locks no_new_dev).held n))
  where
    by : (b : Bool) → ((if b then with_at locks no_new_dev (holding (locks no_new_dev) n CR) else locks) r).block ≡ (locks r).block
    by true = same_at locks no_new_dev (holding (locks no_new_dev) n CR) refl r
    by false = refl

pub quitted_in : (locks : ℕ → Lock) (n : ℕ) (s : SenderPhase) (r : ℕ) → (quitted locks n s r).block ≡ (locks r).block
quitted_in locks n s r = by (has_message s)
  where
    by : (b : Bool) → (with_at (if b then with_at locks message_res (let_go (locks message_res) n) else locks) token_res (let_go (locks token_res) n) r).block ≡ (locks r).block
    by true = same_two locks message_res token_res (let_go (locks message_res) n) (let_go (locks token_res) n) refl refl r
    by false = same_at locks token_res (let_go (locks token_res) n) refl r

pub finished_in : (locks : ℕ → Lock) (n r : ℕ) → (finished locks n r).block ≡ (locks r).block
finished_in locks n r =
    same_at (with_at (with_at locks ack_res (holding (locks ack_res) n CR)) message_res (let_go (locks message_res) n)) token_res (let_go (locks token_res) n) refl r
    ∙ same_two locks ack_res message_res (holding (locks ack_res) n CR) (let_go (locks message_res) n) refl refl r

pub processed_in : (locks : ℕ → Lock) (n r : ℕ) → (message_processed locks n r).block ≡ (locks r).block
processed_in locks n r = same_two locks ack_res message_res (let_go (locks ack_res) n) (queued (locks message_res) n PR) refl refl r

pub resumed_in : (locks : ℕ → Lock) (n r : ℕ) → (resumed locks n r).block ≡ (locks r).block
resumed_in locks n r = same_two locks ack_res message_res (holding (locks ack_res) n CR) (let_go (locks message_res) n) refl refl r

pub let_go_in : (locks : ℕ → Lock) (n r : ℕ) → (all_let_go locks n r).block ≡ (locks r).block
let_go_in locks n r = refl

other_at : (locks : ℕ → Lock) (n : ℕ) (lock : Lock) (r : ℕ) → (r == n) ≡ false → (with_at locks n lock r).block ≡ (locks r).block
other_at locks n lock r e = ap (λ b. (if b then lock else locks r).block) e

pub published_in : (locks : ℕ → Lock) (n : ℕ) (block : Block) → Publishes (device_unlocked (published locks n block) n) locks block
published_in locks n block = record {
  message = unlocked_in (published locks n block) n message_res;
  slots = λ m lt. unlocked_in (published locks n block) n m
      ∙ other_at (with_at locks message_res (holding (with_value (locks message_res) (Some block)) n CW)) ack_res (queued (locks ack_res) n EX) m (grind (arith, nat_tests))
      ∙ other_at locks message_res (holding (with_value (locks message_res) (Some block)) n CW) m (grind (arith, nat_tests));
}

stood : (b : Bool) → (b ≡ false → ⊥) → b ≡ true
stood true f = refl
stood false f = absurd (f refl)

-- the node's offer stands, where it has one
pub has_stood : (s : NodeState) (t : SenderPhase) (x : Option Offer) (o : Offer) → offering s t x ≡ true → x ≡ Some o → stands t ≡ true
has_stood s t x o e is = stood (stands t) (λ down. let none = no_offer s t x e down in cc)

pub stands_sends : (s : SenderPhase) → stands s ≡ true → may_receive s ≡ false
stands_sends senders.Offered e = refl
stands_sends senders.Published e = refl
stands_sends senders.Granted e = refl
stands_sends s e = cc
