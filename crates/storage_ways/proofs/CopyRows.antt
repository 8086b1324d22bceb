-- The ways of copying: the lock `resync`, passes and gatherings.
use Rattle.std.proofs.Common.{◌≡◌, ℕ, ◌<◌, ◌≤◌, ◌/◌, ◌%◌, ◌==◌, ◌&&◌, ◌||◌, Bool, true, false, not, if◌then◌else◌, Option, Some, None, refl, sym, subst, arith, nat_lt}
use Rattle.std.specs.Prelude.{is_some}
use Rattle.std.proofs.lemmas.Bool.Decides.{nat_tests}
use Rattle.dlm_modes.proofs.FirstLaws.{first_such_some}
use Rattle.dlm_modes.specs.Guards.{first_of}
use Rattle.mdc_types.specs.Geometry.{Sizes, page_of, pages_of}
use Rattle.mdc_types.specs.declared.numbers.Range.{Range}
use Rattle.mdc_types.specs.declared.numbers.Sector.{Sector}
use Rattle.mdc_types.specs.declared.refusals.Refusal.TheVariants.{NotRead, NothingLeft}
use Rattle.msg_rounds.specs.Phases.{has_published}
use Rattle.msg_rounds.specs.Refusals.{is_offered, is_sender_idle}
use Rattle.msg_rounds.specs.declared.phases.SenderPhase.{SenderPhase}
use Rattle.msg_rounds.specs.declared.phases.SenderPhase.TheVariants as senders
use Rattle.leg_failure.specs.Views.{works, working_leg}
use Rattle.slot_gathering.specs.Gatherings.{Gathering, all_pages, page_to_gather}
use Rattle.slot_pages.specs.Slot.{page_has}
use Rattle.cluster_model.specs.State.{Core, Held, sizes}
use Rattle.cluster_model.specs.Gathering.{is_again, is_again_of, due_page, leg_to_gather, gather_guards, page_gathered, gather}
use Rattle.cluster_model.specs.Passes.{resync_guards, pass_guards, pass_again_guards, done_guards, ask_resync, pass_own, pass_full, pass_again, end_pass, open_window}
use Rattle.cluster_model.specs.Phases.{is_in, is_up, is_unclean, offers}
use Rattle.laws_sound.proofs.Guarded.{all_none, unless_none, refused_none, found_none}
use Rattle.storage_ways.proofs.Place.{Around, here, Place}
use Rattle.storage_ways.proofs.Blocks.{retold, told_high}
use Rattle.storage_ways.proofs.Guarding.{found_some, acked_by, not_asked, lock_alone, has_turn, none_open}
use Rattle.storage_ways.proofs.Ways.{Way, Acked, Passes, turns, passes_own, passes_full, passes_again, gathers, ends_pass}

idle_is : (s : SenderPhase) → is_sender_idle s ≡ true → s ≡ senders.Idle
idle_is senders.Idle e = refl
idle_is s e = cc

no_window : (w : Option Range) → open_window w ≡ None → w ≡ None
no_window None e = refl
no_window (Some r) e = cc

-- who hasn't offered to leave hasn't published that it leaves
stays_so : (offered published unclean : Bool) → not ((offered || published) && unclean) ≡ true → (published && unclean) ≡ false
stays_so offered published unclean e = grind arith

-- no leg is found to gather from only where no page is left
all_gathered : (n all : ℕ) (leg : Option ℕ) (due : ℕ × ℕ) → is_some leg ≡ true → (if is_some (if nat_lt n all then Some due else None) then leg else None) ≡ None → all ≤ n
all_gathered n all None due some e = cc
all_gathered n all (Some l) due some e = by (nat_lt n all) refl e
  where
    by : (b : Bool) → nat_lt n all ≡ b → (if is_some (if b then Some due else None) then Some l else None) ≡ None → all ≤ n
    by true t e = cc
    by false t e = grind (arith, nat_tests)

-- the page that is due
record Due (g : Sizes) (x : Gathering) : Type 0 where
  pub left : x.next < all_pages g
  pub is : page_to_gather g x ≡ Some (x.next / pages_of g, x.next % pages_of g)

due_by : (n all : ℕ) (due : ℕ × ℕ) → is_some (if nat_lt n all then Some due else None) ≡ true → (n < all) × ((if nat_lt n all then Some due else None) ≡ Some due)
due_by n all due e = by (nat_lt n all) refl e
  where
    by : (b : Bool) → nat_lt n all ≡ b → is_some (if b then Some due else None) ≡ true → (n < all) × ((if b then Some due else None) ≡ Some due)
    by true t e = (grind (arith, nat_tests), refl)
    by false t e = cc

due_is : (g : Sizes) (x : Gathering) → is_some (page_to_gather g x) ≡ true → Due g x
due_is g x e = let d = due_by x.next (all_pages g) (x.next / pages_of g, x.next % pages_of g) e in record { left = d.0; is = d.1 }

module _ (core : Core) (a : Around) (p : Place core a) where
  -- The lock.

  pub resync_way : (n : ℕ) → first_of (resync_guards core n) ≡ None → Way (here core a) (here (ask_resync core n) a)
  resync_way n ok =
      let g = (all_none (resync_guards core n) ok).1.1.1 in
      let c = core.copy n in
      retold (here core a) (ask_resync core n) a _ (told_high core.locks _ _ (omega arith))
      (turns n (unless_none (is_up (core.state n)) _ g.0) (not_asked c.turn c.pass c.window (unless_none _ _ g.1.1.0))
      (stays_so (is_offered (core.sender n)) (has_published (core.sender n)) (offers is_unclean (core.offer n)) (unless_none _ _ g.1.0)))

  pub end_pass_way : (n : ℕ) → first_of (done_guards core n) ≡ None → Way (here core a) (here (end_pass core n) a)
  end_pass_way n ok =
      let g = (all_none (done_guards core n) ok).1.1.1 in
      let c = core.copy n in
      retold (here core a) (end_pass core n) a _ (told_high core.locks _ _ (omega arith))
      (ends_pass n (record {
        up = unless_none (is_up (core.state n)) _ g.0;
        sender = idle_is (core.sender n) (unless_none _ _ g.1.0);
        turn = has_turn c.turn c.pass c.window (unless_none _ _ g.1.1.0);
        recovery = none_open (core.recovery n) (unless_none _ _ g.1.1.1.0);
        window = no_window c.window g.1.1.1.1.0;
      }))

  -- Passes.

  passes : (n : ℕ) → first_of (pass_guards core n) ≡ None → Passes (here core a) n
  passes n ok =
      let g = (all_none (pass_guards core n) ok).1.1.1 in
      let c = core.copy n in
      let alone = lock_alone c.turn c.pass c.window (unless_none _ _ g.1.0) in
      record { up = unless_none (is_up (core.state n)) _ g.0; turn = alone.turn; pass = alone.pass; acked = acked_by core a p n g.1.1.0 }

  pub own_way : (n : ℕ) → first_of (pass_guards core n) ≡ None → Way (here core a) (here (pass_own core n) a)
  own_way n ok = passes_own n (passes n ok)

  pub full_way : (n : ℕ) → first_of (pass_guards core n) ≡ None → Way (here core a) (here (pass_full core n) a)
  full_way n ok = passes_full n (passes n ok)

  up_inside : (n : ℕ) → is_up (core.state n) ≡ true → is_in (core.state n) ≡ true
  up_inside n up = grind arith

  pub again_way : (n l : ℕ) → first_of (pass_again_guards core n l) ≡ None → Way (here core a) (here (pass_again core n l) a)
  again_way n l ok =
      let g = (all_none (pass_again_guards core n l) ok).1.1.1.1 in
      let c = core.copy n in
      let alone = lock_alone c.turn c.pass c.window (unless_none _ _ g.1.0) in
      let up = unless_none (is_up (core.state n)) _ g.0 in
      let x = (core.adding n).gathering in
      passes_again n l (record {
        passes = record { up = up; turn = alone.turn; pass = alone.pass; acked = acked_by core a p n g.1.1.1.0 };
        again = unless_none (is_again_of (core.adding n).addition l) _ g.1.1.0;
        all = all_gathered x.next (all_pages (sizes core)) (working_leg (core.view n)) (x.next / pages_of (sizes core), x.next % pages_of (sizes core)) (p.known.leg.leg n (up_inside n up)) (refused_none NotRead (leg_to_gather core n) g.1.1.1.1.0);
      })

  -- Gatherings.

  -- the page that is due, and the leg from which it is read
  pub record PageDue (n : ℕ) : Type 0 where
    pub up : is_up (core.state n) ≡ true
    pub turn : (core.copy n).turn ≡ Held
    pub pass : (core.copy n).pass ≡ None
    pub again : is_again (core.adding n).addition ≡ true
    pub acked : Acked (here core a) n
    pub left : (core.adding n).gathering.next < all_pages (sizes core)
    pub due : due_page core n ≡ Some ((core.adding n).gathering.next / pages_of (sizes core), (core.adding n).gathering.next % pages_of (sizes core))
    pub leg : ℕ
    pub reads : working_leg (core.view n) ≡ Some leg
    pub works : works (core.view n) leg ≡ true

  pub page_due : (n : ℕ) → first_of (gather_guards core n) ≡ None → PageDue n
  page_due n ok =
      let g = (all_none (gather_guards core n) ok).1.1.1 in
      let c = core.copy n in
      let alone = lock_alone c.turn c.pass c.window (unless_none _ _ g.1.0) in
      let up = unless_none (is_up (core.state n)) _ g.0 in
      let d = due_is (sizes core) (core.adding n).gathering (found_none (due_page core n) NothingLeft g.1.1.1.1.0) in
      let l = found_some (working_leg (core.view n)) (p.known.leg.leg n (up_inside n up)) in
      record {
        up = up;
        turn = alone.turn;
        pass = alone.pass;
        again = unless_none (is_again (core.adding n).addition) _ g.1.1.0;
        acked = acked_by core a p n g.1.1.1.0;
        left = d.left;
        due = d.is;
        leg = l.item;
        reads = l.is;
        works = (first_such_some (works (core.view n)) 0 8 l.item l.is).passes;
      }

  pub gather_way : (n : ℕ) (d : PageDue n) (v : Sector)
      → ((c : ℕ) → page_has (sizes core) ((core.adding n).gathering.next % pages_of (sizes core)) v.bytes c ≡ ((page_of c == (core.adding n).gathering.next % pages_of (sizes core)) && a.bit ((core.adding n).gathering.next / pages_of (sizes core)) c d.leg))
      → Way (here core a) (here (gather core n v) a)
  gather_way n d v bits =
      subst (λ x. Way (here core a) (here (page_gathered core n x v) a)) (sym d.due)
      (gathers n _ _ d.leg (page_has (sizes core) ((core.adding n).gathering.next % pages_of (sizes core)) v.bytes) (record {
        up = d.up;
        turn = d.turn;
        pass = d.pass;
        again = d.again;
        acked = d.acked;
        left = d.left;
        slot = refl;
        page = refl;
        works = d.works;
        bits = bits;
      }))
