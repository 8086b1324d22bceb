-- The ways of a round that is whole.
use Rattle.std.proofs.Common.{◌≡◌, ◌≢◌, ℕ, ◌==◌, Bool, true, false, if◌then◌else◌, Option, Some, None, refl, sym, ap, subst, ◌∙◌, arith}
use Rattle.std.specs.Prelude.{is_some, is_none}
use Rattle.std.proofs.lemmas.Bool.Decides.{nat_tests}
use Rattle.dlm_modes.specs.First.{first_such}
use Rattle.dlm_modes.proofs.FirstLaws.{first_such_some}
use Rattle.dlm_modes.specs.Guards.{first_of}
use Rattle.dlm_modes.specs.Points.{with_at}
use Rattle.mdc_types.specs.Roles.{is_working}
use Rattle.mdc_types.specs.declared.events.Wish.{Wish}
use Rattle.mdc_types.specs.declared.events.Wish.TheVariants as wishes
use Rattle.mdc_types.specs.declared.roles.Role.{Role}
use Rattle.mdc_types.specs.declared.roles.NodeState.{NodeState}
use Rattle.mdc_types.specs.declared.roles.NodeState.TheVariants as states
use Rattle.md_superblock.specs.Arrays.{Says}
use Rattle.msg_rounds.specs.Phases.{is_idle, has_published, may_receive}
use Rattle.msg_rounds.specs.Refusals.{is_granted}
use Rattle.msg_rounds.specs.declared.phases.SenderPhase.{SenderPhase}
use Rattle.msg_rounds.specs.declared.phases.SenderPhase.TheVariants as senders
use Rattle.cluster_model.specs.State.{Core, Offer}
use Rattle.cluster_model.specs.Phases.{is_in, is_up, is_joining, is_metadata}
use Rattle.cluster_model.specs.Publishing.{message_of}
use Rattle.suspend_ranges.specs.Suspended.{entry_of}
use Rattle.cluster_model.specs.Finishing.{adding_after, finish_guards, finish, finish_offer, finish_wish, round_over}
use Rattle.cluster_model.specs.Receiving.{told_state}
use Rattle.laws_locks.specs.Rounded.{has_token, stands, wish_fits, offer_fits, offering}
use Rattle.laws_sound.proofs.Guarded.{all_none, unless_none}
use Rattle.laws_sound.proofs.RoundFacts.{no_offer}
use Rattle.laws_roles.proofs.Parts.{Part, Ghost, part_of, changes_super, offered_role, offered_size, heard_role, heard_size, first_working, with_finish, finished_by, needs_known, is_loaded}
use Rattle.laws_roles.proofs.Ways.{Way, Ways, one, more, finishes, idles, announces, copies, goes, Hearers, Whole}
use Rattle.laws_roles.proofs.Known.{Known, state_body, state_role, state_size}
use Rattle.laws_roles.proofs.Rows.{with_twice}
use Rattle.laws_roles.proofs.RoundRows.{its_offer, eight_of}

-- some leg works, so the first does
works_found : (role : ℕ → Role) (x : Option ℕ) → first_such (λ l. is_working (role l)) 0 8 ≡ x → is_some x ≡ true → is_working (role (first_working role)) ≡ true
works_found role None e some = cc
works_found role (Some l) e some = let p = (first_such_some (λ j. is_working (role j)) 0 8 l e).passes in rw e p

not_joining : (s : NodeState) → is_in s ≡ true → is_joining s ≡ false
not_joining states.Loaded e = refl
not_joining states.Up e = refl
not_joining s e = cc

loaded_is : (s : NodeState) → is_loaded s ≡ true → s ≡ states.Loaded
loaded_is states.Loaded e = refl
loaded_is s e = cc

abbrev up_offers : NodeState → Wish → Bool
up_offers s w = wish_fits s w

-- a loaded node's rounds change the superblock
is_up_by : (s : NodeState) (w : Wish) → is_metadata w ≡ false → needs_known w ≡ true → is_in s ≡ true → up_offers s w ≡ true → is_up s ≡ true
is_up_by states.Up w other known up fits = refl
is_up_by states.Loaded wishes.Meta other known up fits = cc
is_up_by states.Loaded w other known up fits = cc
is_up_by s w other known up fits = cc

module _ (core : Core) (k : Known core) (sup : ℕ → Option Says) (g : Ghost) where
  abbrev pub Here : Part
  Here = part_of core sup g

  says_there : (n m : ℕ) (o : Offer) → core.offer n ≡ Some o → has_published (core.sender n) ≡ true → is_idle (core.receiver m).phase ≡ false → core.heard m ≡ Some (message_of core n o)
  says_there n m o is p b = k.read.heard m b ∙ k.read.published n o p is

  hearers : (n : ℕ) (o : Offer) → core.offer n ≡ Some o → has_published (core.sender n) ≡ true → Hearers Here n
  hearers n o is p = record {
    from = λ m b. k.heard.from n m p b;
    gone = λ m b. k.heard.gone n m p b;
    told = λ m b. ap told_state (says_there n m o is p b) ∙ state_body core o o.wish ∙ sym (ap changes_super is);
    role = λ m l b meta. ap (λ x. heard_role x l) (says_there n m o is p b) ∙ state_role core o o.wish l (sym (ap changes_super is) ∙ meta) ∙ eight_of core k sup g n o is l ∙ sym (ap (λ x. offered_role x l) is);
    size = λ m b meta. ap heard_size (says_there n m o is p b) ∙ state_size core o o.wish (sym (ap changes_super is) ∙ meta) ∙ sym (ap offered_size is);
  }

  -- nobody else has an offer
  pub others_none : (n : ℕ) → has_token (core.sender n) ≡ true → (m : ℕ) → m ≢ n → core.offer m ≡ None
  others_none n has m ne = no_offer (core.state m) (core.sender m) (core.offer m) (k.rounded.offering.offers m) (by (stands (core.sender m)) refl)
    where
      holds : (s : SenderPhase) → stands s ≡ true → has_token s ≡ true
      holds senders.Offered e = refl
      holds senders.Published e = refl
      holds senders.Granted e = refl
      holds s e = cc

      by : (b : Bool) → stands (core.sender m) ≡ b → stands (core.sender m) ≡ false
      by false e = e
      by true e = absurd (ne (k.rounded.phased.alone m n (holds (core.sender m) e) has))

  -- who is loaded has the token
  pub loaded_alone : (n : ℕ) → has_token (core.sender n) ≡ true → (m : ℕ) → is_loaded (core.state m) ≡ true → m ≡ n
  loaded_alone n has m e = k.rounded.phased.alone m n (k.rounded.phased.loaded m (loaded_is (core.state m) e)) has

  -- the offer fits its node's state
  its_fit : (n : ℕ) (o : Offer) (w : Wish) → o.wish ≡ w → core.offer n ≡ Some o → core.sender n ≡ senders.Granted → up_offers (core.state n) w ≡ true
  its_fit n o w e is s =
      ap (up_offers (core.state n)) (sym e)
      ∙ subst (λ x. (if stands x then offer_fits (core.state n) (Some o) else is_none (Some o)) ≡ true) s
      (subst (λ x. offering (core.state n) (core.sender n) x ≡ true) is (k.rounded.offering.offers n))

  granted_is : (s : SenderPhase) → is_granted s ≡ true → s ≡ senders.Granted
  granted_is senders.Granted e = refl
  granted_is s e = cc

  whole : (n : ℕ) (o : Offer) → core.offer n ≡ Some o → is_metadata o.wish ≡ true → core.sender n ≡ senders.Granted → is_in (core.state n) ≡ true → Whole Here n o
  whole n o is meta s up = record {
    offer = is;
    meta = meta;
    others = others_none n (ap has_token s);
    inside = up;
    published = ap has_published s;
    idle = ap is_idle (k.rounded.phased.sending n (ap may_receive s));
    eight = eight_of core k sup g n o is;
    works = works_found o.role (first_such (λ l. is_working (o.role l)) 0 8) refl (k.leg.offered n o is);
    hearers = hearers n o is (ap has_published s);
    loaded = λ m e. loaded_alone n (ap has_token s) m e;
    processed = λ m ne inside. k.rounded.phased.processed n m s ne inside;
  }

  -- a round that doesn't change the superblock
  idle_told : (n : ℕ) (o : Offer) → core.offer n ≡ Some o → is_metadata o.wish ≡ false → (m : ℕ) → has_published (core.sender n) ≡ true → is_idle (core.receiver m).phase ≡ false → told_state (core.heard m) ≡ false
  idle_told n o is other m p b = ap told_state (says_there n m o is p b) ∙ state_body core o o.wish ∙ other

  idle_way : (n : ℕ) (o : Offer) → core.offer n ≡ Some o → is_metadata o.wish ≡ false → is_in (core.state n) ≡ true
      → Way Here (record Here { sender = with_at core.sender n senders.Idle; offer = with_at core.offer n None })
  idle_way n o is other up = idles n (not_joining (core.state n) up) (idle_told n o is other)

  -- what the finish of a round about a device makes of the addition
  device_way : (n : ℕ) (o : Offer) (w : Wish) → o.wish ≡ w → needs_known w ≡ true → is_metadata w ≡ false → core.offer n ≡ Some o → is_in (core.state n) ≡ true → up_offers (core.state n) w ≡ true
      → is_idle (core.receiver n).phase ≡ true
      → Ways Here (record Here { sender = with_at core.sender n senders.Idle; offer = with_at core.offer n None; adding = with_at core.adding n (adding_after (core.adding n) w) })
  device_way n o w e known other is up fits idle =
      subst (λ x. Ways Here (record Here { sender = with_at core.sender n senders.Idle; offer = with_at core.offer n None; adding = with_at core.adding n (adding_after (core.adding n) x) })) e
      (more (one (announces n o is (ap needs_known e ∙ known) (ap is_metadata e ∙ other) (is_up_by (core.state n) w other known up fits) idle))
      (idles n (not_joining (core.state n) up) (idle_told n o is (ap is_metadata e ∙ other))))

  finish_by : (n : ℕ) (o : Offer) (w : Wish) → o.wish ≡ w → core.offer n ≡ Some o → core.sender n ≡ senders.Granted → is_in (core.state n) ≡ true
      → Ways Here (part_of (finish_wish (round_over core n) n o w) sup (if is_metadata w then with_finish g o (core.adding n).addition else g))
  finish_by n o (wishes.Range r) w is s up = more (one (idle_way n o is (ap is_metadata w) up)) (copies n (record (core.copy n) { window = entry_of r }) (λ l e. e))
  finish_by n o (wishes.NewDisk l) w is s up = device_way n o (wishes.NewDisk l) w refl refl is up (its_fit n o (wishes.NewDisk l) w is s) (ap is_idle (k.rounded.phased.sending n (ap may_receive s)))
  finish_by n o (wishes.Remove l) w is s up = device_way n o (wishes.Remove l) w refl refl is up (its_fit n o (wishes.Remove l) w is s) (ap is_idle (k.rounded.phased.sending n (ap may_receive s)))
  finish_by n o (wishes.ReAdd l) w is s up = device_way n o (wishes.ReAdd l) w refl refl is up (its_fit n o (wishes.ReAdd l) w is s) (ap is_idle (k.rounded.phased.sending n (ap may_receive s)))
  finish_by n o wishes.Unclean w is s up =
      subst (λ x. Ways Here (record (part_of (finish_wish (round_over core n) n o wishes.Unclean) sup g) { sender = x })) (with_twice core.sender n senders.Idle)
      (more (one (idle_way n o is (ap is_metadata w) up)) (goes n (idle_silent n) (ap is_idle (k.rounded.phased.sending n (ap may_receive s)))))
    where
      idle_silent : (n : ℕ) → has_published (with_at core.sender n senders.Idle n) ≡ false
      idle_silent n = let e : (n == n) ≡ true = grind (arith, nat_tests) in rw e refl
  finish_by n o x w is s up = one (finishes n o (whole n o is (ap is_metadata w) s up))

  pub finish_way : (n : ℕ) → first_of (finish_guards core n) ≡ None → Ways Here (part_of (finish core n) sup (finished_by g (core.offer n) (core.adding n).addition))
  finish_way n ok =
      let a = (all_none (finish_guards core n) ok).1.1.1 in
      let granted = granted_is (core.sender n) (unless_none (is_granted (core.sender n)) _ a.0) in
      let s = its_offer core k sup g n (ap stands granted) in
      subst (λ x. Ways Here (part_of (finish_offer core n x) sup (finished_by g x (core.adding n).addition))) (sym s.is) (finish_by n s.offer s.offer.wish refl s.is granted s.up)
