-- What a superblock may say that is to be written: an offer that isn't published calls working what
-- works at its node, and the leg that it promotes. Who is loaded reads legs that a current superblock
-- calls working, that of the leg whose superblock it took.
use Rattle.std.specs.Prelude.{◌≡◌, ℕ, ◌≤◌, true, ◌||◌}
use Rattle.mdc_types.specs.Roles.{is_working}
use Rattle.msg_rounds.specs.Refusals.{is_offered}
use Rattle.leg_failure.specs.Views.{works}
use Rattle.laws_roles.proofs.Parts.{Part, changes_super, offered_role, number, said_role, is_loaded, wished, promotes}

abbrev pub OfferServes : Part → Type 0
OfferServes w = (n l : ℕ) → is_offered (w.sender n) ≡ true → changes_super (w.offer n) ≡ true
    → is_working (offered_role (w.offer n) l) ≡ true
    → (works (w.view n) l || wished promotes (w.offer n) l) ≡ true

abbrev pub SourceCurrent : Part → Type 0
SourceCurrent w = (n : ℕ) → is_loaded (w.state n) ≡ true → w.completed ≤ number (w.super (w.ghost.source n))

abbrev pub SourceWorks : Part → Type 0
SourceWorks w = (n l : ℕ) → is_loaded (w.state n) ≡ true → works (w.view n) l ≡ true
    → is_working (said_role (w.super (w.ghost.source n)) l) ≡ true

pub record Sources (w : Part) : Type 0 where
  pub offer_serves : OfferServes w
  pub source_current : SourceCurrent w
  pub source_works : SourceWorks w
