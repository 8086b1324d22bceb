-- What windows keep out, in one state.
use Rattle.std.proofs.Common.{◌≡◌, ◌≢◌, ℕ, ◌==◌, ◌&&◌, not, Bool, true, false, Some, refl, ap, subst, ◌∙◌, arith}
use Rattle.std.specs.Prelude.{is_some}
use Rattle.std.proofs.lemmas.Bool.Decides.{nat_tests}
use Rattle.mdc_types.specs.Ranges.{holds}
use Rattle.mdc_types.specs.declared.events.Wish.TheVariants as wishes
use Rattle.mdc_types.specs.declared.numbers.Range.{Range}
use Rattle.mdc_types.specs.declared.roles.NodeState.{NodeState}
use Rattle.mdc_types.specs.declared.roles.NodeState.TheVariants as states
use Rattle.msg_rounds.specs.Phases.{has_processed, has_published}
use Rattle.msg_rounds.specs.declared.phases.SenderPhase.TheVariants as senders
use Rattle.mirror_io.specs.Flight.{write_in}
use Rattle.mirror_io.specs.declared.live.LiveWrite.{LiveWrite}
use Rattle.suspend_ranges.specs.Suspended.{entry_of, suspends}
use Rattle.cluster_model.specs.State.{State, Offer, Copy}
use Rattle.cluster_model.specs.Guards.{is_out}
use Rattle.cluster_model.specs.Phases.{is_in, is_up, offers}
use Rattle.laws_roles.proofs.InState.{up_is, up_in, up_role}
use Rattle.storage_ways.proofs.Parts.{Part, is_range, wish_range, tells_range, own, offered_range}
use Rattle.storage_ways.proofs.Sound.{Sound}
use Rattle.storage_ways.proofs.Place.{Around, here, Place, sound_of}
use Rattle.laws_writes.specs.Laws.{WindowsHold}
use Rattle.laws_writes.proofs.Windows.{Windows}
use Rattle.laws_writes.proofs.InState.{found_there, entry_holds}

in_not_out : (s : NodeState) → is_in s ≡ true → is_out s ≡ false
in_not_out s e = grind arith

up_not_out : (s : NodeState) → is_up s ≡ true → is_out s ≡ false
up_not_out s e = grind arith

no_wait : (t a b : Bool) → t ≡ false → (t && a && b) ≡ false
no_wait t a b e = grind arith

did_not_wait : (t a b : Bool) → b ≡ true → (t && a && not b) ≡ false
did_not_wait t a b e = grind arith

other_node : (a b : ℕ) → (a == b) ≡ false → a ≢ b
other_node a b e = grind (arith, nat_tests)

same_node : (a b : ℕ) → (a == b) ≡ true → a ≡ b
same_node a b e = grind (arith, nat_tests)

module _ (w : Part) (s : Sound w) (d : Windows w) where
  -- who writes, and who has a window, is up
  writer_up : (m k : ℕ) (x : LiveWrite) → write_in k (w.writes m) ≡ Some x → is_up (w.state m) ≡ true
  writer_up m k x is = by (is_up (w.state m)) refl
    where
      by : (b : Bool) → is_up (w.state m) ≡ b → b ≡ true
      by true e = refl
      by false e = let none = ap (write_in k) (s.rests.writes m e) in cc

  copier_up : (n : ℕ) (r : Range) → (w.copy n).window ≡ Some r → is_up (w.state n) ≡ true
  copier_up n r is = by (is_up (w.state n)) refl
    where
      by : (b : Bool) → is_up (w.state n) ≡ b → b ≡ true
      by true e = refl
      by false e = let none = ap (λ (c : Copy). c.window) (s.rests.copy n e) in cc

  not_telling : (n : ℕ) (r : Range) → (w.copy n).window ≡ Some r → tells_range w n ≡ false
  not_telling n r is = by (tells_range w n) refl
    where
      by : (b : Bool) → tells_range w n ≡ b → b ≡ false
      by true e = let shut = d.range_shut n e in cc
      by false e = refl

  pub open_list : (n m : ℕ) (r : Range) → (w.copy n).window ≡ Some r → is_up (w.state m) ≡ true → w.suspended m n ≡ Some r
  open_list n m r is up =
      d.list_own m n up (no_wait (tells_range w n) (not (m == n)) (not (has_processed (w.receiver m).phase)) (not_telling n r is))
      ∙ d.window_own n (ap is_some is) ∙ is

  pub open_free : (n m k : ℕ) (r : Range) (x : LiveWrite) → (w.copy n).window ≡ Some r → write_in k (w.writes m) ≡ Some x → holds r.lo r.hi x.sector ≡ false
  open_free n m k r x is there =
      let list = open_list n m r is (writer_up m k x there) in
      let node = s.phases.below n (up_not_out (w.state n) (copier_up n r is)) in
      subst (λ y. suspends x.sector y ≡ false) list (d.no_write_there m n k x.sector node (found_there (write_in k (w.writes m)) x there))

  -- A range whose round is granted: all others have processed its message.

  module _ (n : ℕ) (o : Offer) (r : Range) (granted : w.sender n ≡ senders.Granted) (offer : w.offer n ≡ Some o) (wish : o.wish ≡ wishes.Range r)
      (processed : (m : ℕ) → m ≢ n → is_in (w.state m) ≡ true → has_processed (w.receiver m).phase ≡ true) where
    tells : tells_range w n ≡ true
    tells = both (ap has_published granted) (ap (offers is_range) offer ∙ ap is_range wish)
      where
        both : {a b : Bool} → a ≡ true → b ≡ true → (a && b) ≡ true
        both e f = grind arith

    own_is : own w n ≡ entry_of r
    own_is = d.range_own n tells ∙ ap offered_range offer ∙ ap wish_range wish

    pub granted_list : (m : ℕ) → w.state m ≡ states.Up → w.suspended m n ≡ entry_of r
    granted_list m up = by (m == n) refl
      where
        by : (b : Bool) → (m == n) ≡ b → w.suspended m n ≡ entry_of r
        by true e = ap (λ z. w.suspended z n) (same_node m n e) ∙ own_is
        by false e =
            d.list_own m n (up_is (w.state m) up)
            (did_not_wait (tells_range w n) (not (m == n)) (has_processed (w.receiver m).phase) (processed m (other_node m n e) (up_in (w.state m) up)))
            ∙ own_is

    pub granted_free : (m k : ℕ) (x : LiveWrite) → write_in k (w.writes m) ≡ Some x → holds r.lo r.hi x.sector ≡ false
    granted_free m k x there =
        let up = writer_up m k x there in
        let list = granted_list m (up_role (w.state m) up) in
        let inside = s.phases.offering n (ap is_some offer) in
        let node = s.phases.below n (in_not_out (w.state n) inside) in
        entry_holds r x.sector (subst (λ y. suspends x.sector y ≡ false) list (d.no_write_there m n k x.sector node (found_there (write_in k (w.writes m)) x there)))

pub windows_hold : (state : State) (a : Around) (p : Place state.core a) → Windows (here state.core a) → WindowsHold state
windows_hold state a p d =
    let w = here state.core a in
    let s = sound_of state.core a p in
    record {
      open_list = λ n m r is up. open_list w s d n m r is (up_is (state.core.state m) up);
      open_free = λ n m k r x is there. open_free w s d n m k r x is there;
      granted_list = λ n m o r granted offer wish up. granted_list w s d n o r granted offer wish (λ i ne inside. p.known.rounded.phased.processed n i granted ne inside) m up;
      granted_free = λ n m k o r x granted offer wish there. granted_free w s d n o r granted offer wish (λ i ne inside. p.known.rounded.phased.processed n i granted ne inside) m k x there;
    }
