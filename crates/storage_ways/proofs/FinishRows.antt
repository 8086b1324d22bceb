-- The ways of a round that is whole.
use Rattle.std.proofs.Common.{◌≡◌, ◌≢◌, ℕ, suc, ◌<◌, Bool, true, false, if◌then◌else◌, Some, None, refl, sym, ap, subst, ◌∙◌, arith}
use Rattle.std.specs.Prelude.{is_some}
use Rattle.dlm_modes.specs.Guards.{first_of}
use Rattle.dlm_modes.specs.Points.{with_at}
use Rattle.mdc_types.specs.declared.events.Wish.{Wish}
use Rattle.mdc_types.specs.declared.events.Wish.TheVariants as wishes
use Rattle.mdc_types.specs.declared.roles.NodeState.{NodeState}
use Rattle.msg_rounds.specs.Phases.{is_idle, has_published, has_processed, may_receive}
use Rattle.msg_rounds.specs.Refusals.{is_granted}
use Rattle.msg_rounds.specs.declared.phases.ReceiverPhase.{ReceiverPhase}
use Rattle.msg_rounds.specs.declared.phases.SenderPhase.{SenderPhase}
use Rattle.msg_rounds.specs.declared.phases.SenderPhase.TheVariants as senders
use Rattle.disk_addition.specs.declared.addition.Addition.{Addition}
use Rattle.disk_addition.specs.declared.addition.Addition.TheVariants.{Nothing}
use Rattle.cluster_model.specs.State.{Core, Offer}
use Rattle.cluster_model.specs.Finishing.{adding_after, finish_guards, finish, finish_offer, finish_wish, round_over}
use Rattle.cluster_model.specs.Guards.{is_out}
use Rattle.cluster_model.specs.Phases.{is_in, is_up, is_metadata, is_unclean, offers as offers_wish}
use Rattle.cluster_model.specs.Publishing.{message_of}
use Rattle.cluster_model.specs.Receiving.{told_state}
use Rattle.laws_locks.specs.Rounded.{has_token, stands}
use Rattle.laws_sound.proofs.Guarded.{all_none, unless_none, living}
use Rattle.laws_roles.proofs.FinishRows.{others_none}
use Rattle.laws_roles.proofs.Known.{state_body, state_role}
use Rattle.laws_roles.proofs.Parts.{heard_role, is_nothing, needs_known, with_finish, finished_by}
use Rattle.laws_roles.proofs.RoundRows.{eight_of}
use Rattle.laws_roles.proofs.Rows.{with_twice}
use Rattle.storage_ways.proofs.Parts.{is_range}
use Rattle.storage_ways.proofs.Place.{Around, here, Place, sound_of}
use Rattle.storage_ways.proofs.Blocks.{retold, told_finished}
use Rattle.storage_ways.proofs.ComingRows.{alone_by}
use Rattle.storage_ways.proofs.GoingRows.{no_pass, no_recovery, live_at}
use Rattle.storage_ways.proofs.RoundRows.{its_offer, only_one}
use Rattle.storage_ways.proofs.Ways.{Way, Whole, opens, announces, finishes, parts}

granted_is : (s : SenderPhase) → is_granted s ≡ true → s ≡ senders.Granted
granted_is senders.Granted e = refl
granted_is s e = cc

processed_busy : (r : ReceiverPhase) → has_processed r ≡ true → is_idle r ≡ false
processed_busy r e = grind arith

nothing_is : (x : Addition) → is_nothing x ≡ true → x ≡ Nothing
nothing_is Nothing e = refl
nothing_is x e = cc

up_inside : (s : NodeState) → is_up s ≡ true → is_in s ≡ true
up_inside s e = grind arith

module _ (core : Core) (a : Around) (p : Place core a) where
  record Over (n : ℕ) : Type 0 where
    offer : Offer
    is : core.offer n ≡ Some offer
    granted : core.sender n ≡ senders.Granted
    inside : is_in (core.state n) ≡ true
    node : n < 16
    live : is_out (core.state n) ≡ false

  over : (n : ℕ) → first_of (finish_guards core n) ≡ None → Over n
  over n ok =
      let l = living core n _ p.known.rounded.numbered.nodes ok in
      let granted = granted_is (core.sender n) (unless_none (is_granted (core.sender n)) _ (all_none (finish_guards core n) ok).1.1.1.0) in
      let s = its_offer core a p n (ap stands granted) in
      record { offer = s.offer; is = s.is; granted = granted; inside = s.up; node = l.node; live = l.live }

  -- what a hearer of the round has heard
  heard_there : (n m : ℕ) (o : Over n) → is_idle (core.receiver m).phase ≡ false → core.heard m ≡ Some (message_of core n o.offer)
  heard_there n m o busy = p.known.read.heard m busy ∙ p.known.read.published n o.offer (ap has_published o.granted) o.is

  told_there : (n m : ℕ) (o : Over n) → is_idle (core.receiver m).phase ≡ false → is_metadata o.offer.wish ≡ true → told_state (core.heard m) ≡ true
  told_there n m o busy meta = ap told_state (heard_there n m o busy) ∙ state_body core o.offer o.offer.wish ∙ meta

  has_done : (n m : ℕ) (o : Over n) → m ≢ n → is_in (core.state m) ≡ true → has_processed (core.receiver m).phase ≡ true
  has_done n m o ne inside = p.known.rounded.phased.processed n m o.granted ne inside

  roles_there : (n m l : ℕ) (o : Over n) → m ≢ n → is_in (core.state m) ≡ true → is_metadata o.offer.wish ≡ true → (core.view m).role l ≡ o.offer.role l
  roles_there n m l o ne inside meta =
      let did = has_done n m o ne inside in
      let busy = processed_busy (core.receiver m).phase did in
      p.roles.took_roles m l did (told_there n m o busy meta)
      ∙ ap (λ x. heard_role x l) (heard_there n m o busy)
      ∙ state_role core o.offer o.offer.wish l meta
      ∙ eight_of core p.known a.super a.ghost n o.offer o.is l

  nothing_there : (n m : ℕ) (o : Over n) → m ≢ n → is_metadata o.offer.wish ≡ true → (core.adding m).addition ≡ Nothing
  nothing_there n m o ne meta = nothing_is (core.adding m).addition (by (is_nothing (core.adding m).addition) refl)
    where
      by : (b : Bool) → is_nothing (core.adding m).addition ≡ b → b ≡ true
      by true e = refl
      by false e =
          let up = p.additions.adder_up m e in
          let did = has_done n m o ne (up_inside (core.state m) up) in
          let none = p.additions.took_nothing m did (told_there n m o (processed_busy (core.receiver m).phase did) meta) in cc

  whole : (n : ℕ) (o : Over n) → Whole (here core a) n o.offer
  whole n o = record {
    offer = o.is;
    others = others_none core p.known a.super a.ghost n (ap has_token o.granted);
    inside = o.inside;
    alone = alone_by core a p n (ap has_token o.granted);
    published = ap has_published o.granted;
    only = only_one core a p n (ap has_token o.granted);
    idle = ap is_idle (p.known.rounded.phased.sending n (ap may_receive o.granted));
    processed = λ m ne inside. has_done n m o ne inside;
    role = λ m l ne inside meta. roles_there n m l o ne inside meta;
    nothing = λ m ne meta. nothing_there n m o ne meta;
    loaded = λ down. sym (ap (offers_wish is_metadata) o.is) ∙ (sound_of core a p).phases.meta n (ap is_some o.is) down;
    eight = eight_of core p.known a.super a.ghost n o.offer o.is;
  }

  -- a round more is whole
  abbrev pub counted : Around
  counted = record a { moments = suc a.moments }

  -- a device is announced, or is to be removed or added again
  device_way : (n : ℕ) (o : Over n) (w : Wish) → o.offer.wish ≡ w → needs_known w ≡ true → is_metadata w ≡ false → is_range w ≡ false
      → Way (here core a) (here (record (round_over core n) { adding = with_at core.adding n (adding_after (core.adding n) w) }) counted)
  device_way n o w e known other plain =
      subst (λ x. Way (here core a) (here (record (round_over core n) { adding = with_at core.adding n (adding_after (core.adding n) x) }) counted)) e
      (retold (here core a) (record (round_over core n) { adding = with_at core.adding n (adding_after (core.adding n) o.offer.wish) }) counted _ (told_finished core.locks n)
      (announces n o.offer (whole n o) (ap needs_known e ∙ known) (ap is_metadata e ∙ other) (ap is_range e ∙ plain)))

  part_way : (n : ℕ) (o : Over n) → o.offer.wish ≡ wishes.Unclean → Way (here core a) (here (finish_wish (round_over core n) n o.offer wishes.Unclean) counted)
  part_way n o e =
      let s = (sound_of core a p).turns in
      let c = core.copy n in
      let unclean : offers_wish is_unclean (core.offer n) ≡ true = ap (offers_wish is_unclean) o.is ∙ ap is_unclean e in
      let turn = p.others.resync.unclean n unclean in
      let published = ap has_published o.granted in
      let up = by (is_up (core.state n)) refl in
      subst (λ x. Way (here core a) (record (here (finish_wish (round_over core n) n o.offer wishes.Unclean) counted) { offer = x })) (sym (with_twice core.offer n None))
      (retold (here core a) (record (finish_wish (round_over core n) n o.offer wishes.Unclean) { offer = with_at core.offer n None }) counted _ (told_finished core.locks n)
      (parts n o.offer (record {
        going = record {
          node = o.node;
          live = live_at core a p n o.live;
          turn = turn;
          pass = no_pass c (s.pass n) turn;
          recovery = no_recovery (core.recovery n) c.turn (s.recovery n) turn;
          writes = (p.known.empty.drained n published unclean).writes;
          idle = ap is_idle (p.known.rounded.phased.sending n (ap may_receive o.granted));
        };
        whole = whole n o;
        wish = ap is_unclean e;
        up = up;
      })))
    where
      by : (b : Bool) → is_up (core.state n) ≡ b → b ≡ true
      by true t = refl
      by false t = let meta : is_metadata o.offer.wish ≡ true = (whole n o).loaded t in let other : is_metadata o.offer.wish ≡ false = ap is_metadata e in cc

  finish_by : (n : ℕ) (o : Over n) (w : Wish) → o.offer.wish ≡ w → Way (here core a) (here (finish_wish (round_over core n) n o.offer w) (record counted { ghost = if is_metadata w then with_finish a.ghost o.offer (core.adding n).addition else a.ghost }))
  finish_by n o (wishes.Range r) e = retold (here core a) (finish_wish (round_over core n) n o.offer (wishes.Range r)) counted _ (told_finished core.locks n) (opens n r o.offer (whole n o) e)
  finish_by n o (wishes.NewDisk l) e = device_way n o (wishes.NewDisk l) e refl refl refl
  finish_by n o (wishes.Remove l) e = device_way n o (wishes.Remove l) e refl refl refl
  finish_by n o (wishes.ReAdd l) e = device_way n o (wishes.ReAdd l) e refl refl refl
  finish_by n o wishes.Unclean e = part_way n o e
  finish_by n o w e = retold (here core a) (finish_wish (round_over core n) n o.offer w) (record counted { ghost = with_finish a.ghost o.offer (core.adding n).addition }) _ (told_finished core.locks n) (finishes n o.offer (whole n o) (ap is_metadata e))

  pub finish_way : (n : ℕ) → first_of (finish_guards core n) ≡ None → Way (here core a) (here (finish core n) (record counted { ghost = finished_by a.ghost (core.offer n) (core.adding n).addition }))
  finish_way n ok =
      let o = over n ok in
      subst (λ x. Way (here core a) (here (finish_offer core n x) (record counted { ghost = finished_by a.ghost x (core.adding n).addition }))) (sym o.is) (finish_by n o o.offer.wish refl)
