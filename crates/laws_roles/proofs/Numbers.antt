-- Events numbers: what stands on the legs, what is offered and what was loaded.
use Rattle.std.specs.Prelude.{◌≡◌, ℕ, ◌<◌, ◌≤◌, true, is_some}
use Rattle.mdc_types.specs.Roles.{is_written}
use Rattle.msg_rounds.specs.Phases.{has_published}
use Rattle.cluster_model.specs.Joining.{says_of}
use Rattle.cluster_model.specs.Phases.{is_up, is_joining}
use Rattle.laws_locks.specs.Rounded.{has_token}
use Rattle.laws_roles.proofs.Parts.{Part, changes_super, offered_role, offered_events, offered_says, is_written_to, number}

abbrev pub SuperDrawn : Part → Type 0
SuperDrawn w = (k : ℕ) → number (w.super k) ≤ w.drawn

abbrev pub OfferDrawn : Part → Type 0
OfferDrawn w = (n : ℕ) → changes_super (w.offer n) ≡ true → offered_events (w.offer n) ≡ w.drawn

abbrev pub OfferNew : Part → Type 0
OfferNew w = (n : ℕ) → changes_super (w.offer n) ≡ true → w.completed < w.drawn

-- a superblock of the offer's number is the one that is offered
abbrev pub OfferSays : Part → Type 0
OfferSays w = (n k : ℕ) → changes_super (w.offer n) ≡ true
    → number (w.super k) ≡ offered_events (w.offer n) → w.super k ≡ offered_says (w.offer n)

abbrev pub OfferWritten : Part → Type 0
OfferWritten w = (n k : ℕ) → changes_super (w.offer n) ≡ true
    → is_written_to (w.offer n) k ≡ true → w.super k ≡ offered_says (w.offer n)

abbrev pub AllWritten : Part → Type 0
AllWritten w = (n l : ℕ) → has_published (w.sender n) ≡ true → changes_super (w.offer n) ≡ true
    → is_written (offered_role (w.offer n) l) ≡ true → is_written_to (w.offer n) l ≡ true

abbrev pub SameSays : Part → Type 0
SameSays w = (j k : ℕ) → number (w.super j) ≡ number (w.super k) → w.super j ≡ w.super k

-- what a joiner loaded still stands there, and it has the token
abbrev pub Loading : Part → Type 0
Loading w = (n k : ℕ) → is_some (says_of (w.tried n k)) ≡ true → w.super k ≡ says_of (w.tried n k)

abbrev pub LoaderJoins : Part → Type 0
LoaderJoins w = (n k : ℕ) → is_some (says_of (w.tried n k)) ≡ true
    → is_joining (w.state n) ≡ true

abbrev pub LoaderHolds : Part → Type 0
LoaderHolds w = (n k : ℕ) → is_some (says_of (w.tried n k)) ≡ true
    → has_token (w.sender n) ≡ true

abbrev pub HomeCurrent : Part → Type 0
HomeCurrent w = w.completed ≤ number (w.super w.ghost.home)

-- while a node is up, a current superblock stands on each leg that is agreed to be written
abbrev pub WrittenCurrent : Part → Type 0
WrittenCurrent w = (n k : ℕ) → is_up (w.state n) ≡ true
    → is_written (w.ghost.agreed.role k) ≡ true → w.completed ≤ number (w.super k)

pub record Numbers (w : Part) : Type 0 where
  pub some_completed : 1 ≤ w.completed
  pub super_drawn : SuperDrawn w
  pub offer_drawn : OfferDrawn w
  pub offer_new : OfferNew w
  pub offer_says : OfferSays w
  pub offer_written : OfferWritten w
  pub all_written : AllWritten w
  pub same_says : SameSays w
  pub loading : Loading w
  pub loader_joins : LoaderJoins w
  pub loader_holds : LoaderHolds w
  pub home_current : HomeCurrent w
  pub written_current : WrittenCurrent w
