-- What is known where an offer that isn't published was void, and where a superblock stands though its
-- write failed.
use Rattle.std.proofs.Common.{◌≡◌, ℕ, ◌==◌, Bool, true, false, if◌then◌else◌, Option, Some, None, refl, sym, ap, ◌∙◌, arith}
use Rattle.std.specs.Prelude.{is_some}
use Rattle.std.proofs.lemmas.Bool.Decides.{nat_tests}
use Rattle.dlm_modes.specs.Points.{with_at}
use Rattle.md_superblock.specs.Arrays.{Says}
use Rattle.msg_rounds.specs.Phases.{has_published}
use Rattle.msg_rounds.specs.declared.phases.SenderPhase.{SenderPhase}
use Rattle.msg_rounds.specs.declared.phases.SenderPhase.TheVariants as senders
use Rattle.cluster_model.specs.State.{Offer}
use Rattle.cluster_model.specs.Phases.{is_metadata, is_unclean, offers as offers_wish}
use Rattle.cluster_model.specs.Superblocks.{says_of_offer}
use Rattle.laws_locks.specs.Rounded.{has_token, stands}
use Rattle.laws_roles.proofs.Ways as role_ways
use Rattle.laws_roles.proofs.AdditionSteps.{additions_step}
use Rattle.laws_roles.proofs.SourceSteps.{sources_step}
use Rattle.laws_roles.proofs.NumberSteps.{numbers_step}
use Rattle.laws_roles.proofs.LateSteps.{roles_step}
use Rattle.storage_ways.proofs.Parts.{Part, roles_of}
use Rattle.storage_ways.proofs.Sound.{Sound, Rests, Within}

-- a void sender tells of nothing else
tells_same : {A : Type 0} (test : SenderPhase → A) (f : ℕ → SenderPhase) (n m : ℕ) → f n ≡ senders.Offered → test senders.MessageHeld ≡ test senders.Offered → test (with_at f n senders.MessageHeld m) ≡ test (f m)
tells_same {A = A} test f n m is e = by (m == n) refl
  where
    by : (b : Bool) → (m == n) ≡ b → test (if b then senders.MessageHeld else f m) ≡ test (f m)
    by true t = let same : n ≡ m = grind (arith, nat_tests) in e ∙ ap test (sym is) ∙ ap (λ i. test (f i)) same
    by false t = refl

-- a void offer is none, and others stay
was_offered : (f : ℕ → Option Offer) (n m : ℕ) → is_some (with_at f n None m) ≡ true → (with_at f n None m ≡ f m) × (is_some (f m) ≡ true)
was_offered f n m e = by (m == n) e
  where
    by : (b : Bool) → is_some (if b then None else f m) ≡ true → ((if b then None else f m) ≡ f m) × (is_some (f m) ≡ true)
    by true e = cc
    by false e = (refl, e)

void_stands : (f : ℕ → Option Offer) (g : ℕ → SenderPhase) (n m : ℕ) → is_some (f m) ≡ stands (g m) → is_some (with_at f n None m) ≡ stands (with_at g n senders.MessageHeld m)
void_stands f g n m e = by (m == n)
  where
    by : (b : Bool) → is_some (if b then None else f m) ≡ stands (if b then senders.MessageHeld else g m)
    by true = refl
    by false = e

unclean_still : (f : ℕ → Option Offer) (n m : ℕ) → offers_wish is_unclean (with_at f n None m) ≡ true → offers_wish is_unclean (f m) ≡ true
unclean_still f n m e = by (m == n) e
  where
    by : (b : Bool) → offers_wish is_unclean (if b then None else f m) ≡ true → offers_wish is_unclean (f m) ≡ true
    by true e = cc
    by false e = e

same_rests : (w : Part) (sender : ℕ → SenderPhase) (offer : ℕ → Option Offer) (super : ℕ → Option Says) → Rests w → Rests (record w { sender = sender; offer = offer; super = super })
same_rests w sender offer super r = record { writes = r.writes; copy = r.copy; recovery = r.recovery; set = r.set; need = r.need }

same_within : (w : Part) (sender : ℕ → SenderPhase) (offer : ℕ → Option Offer) (super : ℕ → Option Says) → Within w → Within (record w { sender = sender; offer = offer; super = super })
same_within w sender offer super r = record {
  geometry = r.geometry;
  set = r.set;
  need = r.need;
  todo = r.todo;
  buffer = r.buffer;
  found = r.found;
  gathered = r.gathered;
  bits = r.bits;
  slots = r.slots;
  writes = r.writes;
}

pub void_sound : (w : Part) (n : ℕ) → Sound w → w.sender n ≡ senders.Offered → Sound (record w { sender = with_at w.sender n senders.MessageHeld; offer = with_at w.offer n None })
void_sound w n s is =
    let way = role_ways.voids n (ap has_published is) in
    let v = record (roles_of w) { sender = with_at w.sender n senders.MessageHeld; offer = with_at w.offer n None } in
    let published : (m : ℕ) → has_published (with_at w.sender n senders.MessageHeld m) ≡ has_published (w.sender m) = λ m. tells_same has_published w.sender n m is refl in
    let token : (m : ℕ) → has_token (with_at w.sender n senders.MessageHeld m) ≡ has_token (w.sender m) = λ m. tells_same has_token w.sender n m is refl in
    record {
      numbers = numbers_step (roles_of w) v way s.numbers;
      roles = roles_step (roles_of w) v way s.numbers s.roles;
      additions = additions_step (roles_of w) v way s.numbers s.roles s.additions;
      sources = sources_step (roles_of w) v way s.numbers s.sources;
      phases = record {
        live = s.phases.live;
        pending = s.phases.pending;
        below = s.phases.below;
        alone = λ i j e f. s.phases.alone i j (sym (token i) ∙ e) (sym (token j) ∙ f);
        stands = λ m. void_stands w.offer w.sender n m (s.phases.stands m);
        offering = λ m e. s.phases.offering m (was_offered w.offer n m e).1;
        meta = λ m e down. let was = was_offered w.offer n m e in ap (offers_wish is_metadata) was.0 ∙ s.phases.meta m was.1 down;
        hearers = s.phases.hearers;
        from = λ i j e busy. s.phases.from i j (sym (published i) ∙ e) busy;
        gone = λ i j e busy. s.phases.gone i j (sym (published i) ∙ e) busy;
        sending = λ m e. s.phases.sending m (sym (published m) ∙ e);
        loaded = λ m e. token m ∙ s.phases.loaded m e;
        slots = s.phases.slots;
      };
      turns = record {
        one = s.turns.one;
        recovery = s.turns.recovery;
        slot = s.turns.slot;
        other = s.turns.other;
        unclean = λ m e. s.turns.unclean m (unclean_still w.offer n m e);
        pass = s.turns.pass;
      };
      rests = same_rests w (with_at w.sender n senders.MessageHeld) (with_at w.offer n None) w.super s.rests;
      within = same_within w (with_at w.sender n senders.MessageHeld) (with_at w.offer n None) w.super s.within;
      serves = s.serves;
    }

-- the new superblock stands there, though its write failed
pub super_sound : (w : Part) (n l : ℕ) (o : Offer) → Sound w → role_ways.Writing (roles_of w) n o → Sound (record w { super = with_at w.super l (Some (says_of_offer o)) })
super_sound w n l o s writing =
    let way = role_ways.leaves n l o writing in
    let v = record (roles_of w) { super = with_at w.super l (Some (says_of_offer o)) } in
    record {
      numbers = numbers_step (roles_of w) v way s.numbers;
      roles = roles_step (roles_of w) v way s.numbers s.roles;
      additions = additions_step (roles_of w) v way s.numbers s.roles s.additions;
      sources = sources_step (roles_of w) v way s.numbers s.sources;
      phases = record {
        live = s.phases.live;
        pending = s.phases.pending;
        below = s.phases.below;
        alone = s.phases.alone;
        stands = s.phases.stands;
        offering = s.phases.offering;
        meta = s.phases.meta;
        hearers = s.phases.hearers;
        from = s.phases.from;
        gone = s.phases.gone;
        sending = s.phases.sending;
        loaded = s.phases.loaded;
        slots = s.phases.slots;
      };
      turns = record {
        one = s.turns.one;
        recovery = s.turns.recovery;
        slot = s.turns.slot;
        other = s.turns.other;
        unclean = s.turns.unclean;
        pass = s.turns.pass;
      };
      rests = same_rests w w.sender w.offer (with_at w.super l (Some (says_of_offer o))) s.rests;
      within = same_within w w.sender w.offer (with_at w.super l (Some (says_of_offer o))) s.within;
      serves = s.serves;
    }
