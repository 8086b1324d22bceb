-- Each change keeps what is in flight, and the bitmaps' counts of it.
use Rattle.std.proofs.Common.{◌≡◌, ℕ, ◌+◌, ◌<◌, ◌==◌, ◌&&◌, Bool, true, false, not, if◌then◌else◌, length, List, [], ◌∷◌, ◌++◌, Option, Some, None, refl, sym, ap, subst, ◌∙◌, arith}
use Rattle.std.specs.Prelude.{nat_lt, unwrap_or}
use Rattle.std.proofs.lemmas.Bool.{ltb-true}
use Rattle.std.proofs.lemmas.Bool.Decides.{nat_tests}
use Rattle.dlm_modes.specs.First.{first_such}
use Rattle.dlm_modes.specs.Guards.{first_of}
use Rattle.dlm_modes.specs.Points.{with_at}
use Rattle.dlm_modes.proofs.FirstLaws.{first_such_some}
use Rattle.mdc_types.specs.Geometry.{chunk_of}
use Rattle.mdc_types.specs.declared.events.Wish.{Wish}
use Rattle.mdc_types.specs.declared.events.Wish.TheVariants as wishes
use Rattle.mdc_types.specs.declared.refusals.Refusal.TheVariants.{Draining, Reading}
use Rattle.mdc_types.specs.declared.roles.NodeState.TheVariants as states
use Rattle.msg_rounds.specs.Phases.{has_published}
use Rattle.msg_rounds.specs.declared.phases.SenderPhase.{SenderPhase}
use Rattle.msg_rounds.specs.declared.phases.SenderPhase.TheVariants as senders
use Rattle.mirror_io.specs.Flight.{write_from, read_from, without_write, without_read, new_write, new_read, start_in, done_in}
use Rattle.mirror_io.specs.declared.live.LiveWrite.{LiveWrite}
use Rattle.mirror_io.specs.declared.live.LiveRead.{LiveRead}
use Rattle.node_bitmaps.specs.Bitmap.{Bitmap, with_set, entered, forgotten, with_new_legs, found_page, written}
use Rattle.leg_failure.specs.Views.{works, finished, taken as view_taken, fresh_targets}
use Rattle.mdc_types.specs.Roles.{role_of}
use Rattle.read_balance.specs.Choice.{chosen_leg, is_nearest}
use Rattle.resync_worker.specs.Copying.{completes}
use Rattle.cluster_model.specs.State.{Core, Offer, sizes}
use Rattle.cluster_model.specs.Phases.{is_up, is_unclean, offers as offers_wish}
use Rattle.cluster_model.specs.Joining.{newest, view_from}
use Rattle.cluster_model.specs.Publishing.{wish_is_due}
use Rattle.cluster_model.specs.Superblocks.{written_on}
use Rattle.cluster_model.specs.Wishes.{offer_of}
use Rattle.cluster_model.specs.Writes.{bitmap_ended}
use Rattle.cluster_model.specs.Reads.{given_leg, reads_first}
use Rattle.cluster_model.specs.Copying.{need_met}
use Rattle.laws_sound.specs.Legs.{LegsFit}
use Rattle.laws_sound.specs.Requests.{RequestsFit, BitmapFits, Rests, InFlight}
use Rattle.laws_sound.proofs.Guarded.{all_none, refused_none}
use Rattle.laws_sound.proofs.Points.{at_one, at_two, at_three}
use Rattle.laws_sound.proofs.RequestSteps.{none_fits, more_writes, more_reads, start_fits, done_fits, without_fits, without_read_fits, forgotten_fits, legs_fit, written_fits, found_fits, enter_fits, met_fits, end_fits, marks_fit, same_writes, writes_in-start, writes_in-done}
use Rattle.laws_sound.proofs.Change.{Change, dies, tells, joins, comes, leaves, offers, writes_super, publishes, shuts, opens, announces, finishes, idles, hears_roles, asks_write, asks_read, marks, starts, outs, ends_write, ends_read, settles, slot_reads, slot_clears, loses, voids}

found_below : (p : ℕ → Bool) (x : Option ℕ) → first_such p 0 8 ≡ x → unwrap_or x 0 < 8
found_below p None e = omega arith
found_below p (Some l) e = omega (arith, (first_such_some p 0 8 l e).below)

chosen_below : (v : ℕ → Bool) (head : ℕ → ℕ) (s : ℕ) (b : Bool) → unwrap_or (chosen_leg v head s b) 0 < 8
chosen_below v head s true = found_below v (first_such v 0 8) refl
chosen_below v head s false = found_below (is_nearest v head s) (first_such (is_nearest v head s) 0 8) refl

sure_below : (core : Core) (n s : ℕ) → LegsFit core → nat_lt s (core.view n).sure_size ≡ true → s < (sizes core).room
sure_below core n s l e = omega (arith, ltb-true s (core.view n).sure_size e, (l.views n).sure_size)

requests_step : (core new : Core) → Change core new → LegsFit core → InFlight core → (m : ℕ) → RequestsFit (sizes new) (new.writes m) (new.reads m) (new.writes_made m) (new.reads_made m)
requests_step core new (dies n) l i = at_two (λ m w r. RequestsFit (sizes core) w r (core.writes_made m) (core.reads_made m)) core.writes core.reads n [] [] i.requests (none_fits (sizes core) (core.writes_made n) (core.reads_made n))
requests_step core new (asks_write n s v sure few calm up) l i = at_two (λ m w a. RequestsFit (sizes core) w (core.reads m) a (core.reads_made m)) core.writes core.writes_made n
    (core.writes n ++ new_write (core.writes_made n) s v ∷ []) (core.writes_made n + 1) i.requests
    (more_writes (sizes core) (core.writes n) (core.reads n) (core.writes_made n) (core.reads_made n) (i.requests n) s v (ltb-true (length (core.writes n)) 16 few) (sure_below core n s l sure))
requests_step core new (asks_read n s sure few calm up) l i = at_two (λ m r b. RequestsFit (sizes core) (core.writes m) r (core.writes_made m) b) core.reads core.reads_made n
    (core.reads n ++ new_read (core.reads_made n) s (given_leg core n s) ∷ []) (core.reads_made n + 1) i.requests
    (more_reads (sizes core) (core.writes n) (core.reads n) (core.writes_made n) (core.reads_made n) (i.requests n) s (given_leg core n s) (ltb-true (length (core.reads n)) 16 few) (sure_below core n s l sure)
    (chosen_below (works (core.view n)) (core.head n) s (reads_first core n s)))
requests_step core new (starts n k some) l i = at_one (λ m w. RequestsFit (sizes core) w (core.reads m) (core.writes_made m) (core.reads_made m)) core.writes n (start_in k (core.writes n)) i.requests
    (start_fits (sizes core) (core.writes n) (core.reads n) (core.writes_made n) (core.reads_made n) (i.requests n) k)
requests_step core new (outs n k j head some) l i = at_one (λ m w. RequestsFit (sizes core) w (core.reads m) (core.writes_made m) (core.reads_made m)) core.writes n (done_in k j (start_in k (core.writes n))) i.requests
    (done_fits (sizes core) (start_in k (core.writes n)) (core.reads n) (core.writes_made n) (core.reads_made n) (start_fits (sizes core) (core.writes n) (core.reads n) (core.writes_made n) (core.reads_made n) (i.requests n) k) k j)
requests_step core new (ends_write n k w broken is) l i = at_one (λ m w. RequestsFit (sizes core) w (core.reads m) (core.writes_made m) (core.reads_made m)) core.writes n (without_write k (core.writes n)) i.requests
    (without_fits (sizes core) (core.writes n) (core.reads n) (core.writes_made n) (core.reads_made n) (i.requests n) k)
requests_step core new (ends_read n k head) l i = at_one (λ m r. RequestsFit (sizes core) (core.writes m) r (core.writes_made m) (core.reads_made m)) core.reads n (without_read k (core.reads n)) i.requests
    (without_read_fits (sizes core) (core.writes n) (core.reads n) (core.writes_made n) (core.reads_made n) (i.requests n) k)
requests_step core new c l i = i.requests

-- Bitmaps.

module _ (core : Core) (i : InFlight core) where
  bitmap_at : (n : ℕ) (m : Bitmap) → BitmapFits (sizes core) (core.writes n) m → (k : ℕ) → BitmapFits (sizes core) (core.writes k) (with_at core.bitmap n m k)
  bitmap_at n m f = at_one (λ k m. BitmapFits (sizes core) (core.writes k) m) core.bitmap n m i.bitmaps f

  writes_at : (n : ℕ) (ws : List LiveWrite) → BitmapFits (sizes core) ws (core.bitmap n) → (k : ℕ) → BitmapFits (sizes core) (with_at core.writes n ws k) (core.bitmap k)
  writes_at n ws f = at_one (λ k ws. BitmapFits (sizes core) ws (core.bitmap k)) core.writes n ws i.bitmaps f

  both_at : (n : ℕ) (ws : List LiveWrite) (m : Bitmap) → BitmapFits (sizes core) ws m → (k : ℕ) → BitmapFits (sizes core) (with_at core.writes n ws k) (with_at core.bitmap n m k)
  both_at n ws m f = at_two (λ k ws m. BitmapFits (sizes core) ws m) core.writes core.bitmap n ws m i.bitmaps f

  new_legs_at : (n : ℕ) (legs : ℕ → Bool) → (k : ℕ) → BitmapFits (sizes core) (core.writes k) (with_at core.bitmap n (with_new_legs (core.bitmap n) legs) k)
  new_legs_at n legs = bitmap_at n (with_new_legs (core.bitmap n) legs) (legs_fit (sizes core) (core.writes n) (core.bitmap n) legs (i.bitmaps n))

bitmaps_step : (core new : Core) → Change core new → LegsFit core → InFlight core → (m : ℕ) → BitmapFits (sizes new) (new.writes m) (new.bitmap m)
bitmaps_step core new (dies n) l i = both_at core i n [] (forgotten (core.bitmap n)) (forgotten_fits (sizes core) (core.bitmap n))
bitmaps_step core new (leaves n members locks sender same b p idle z) l i =
    bitmap_at core i n (forgotten (core.bitmap n)) (subst (λ ws. BitmapFits (sizes core) ws (forgotten (core.bitmap n))) (sym z.rests.0) (forgotten_fits (sizes core) (core.bitmap n)))
bitmaps_step core new (comes n joining none beyond fresh found) l i = new_legs_at core i n (fresh_targets (core.view n) (view_from (core.tried n) (newest (core.tried n))))
bitmaps_step core new (finishes n o locks is meta up b) l i = new_legs_at core i n (fresh_targets (core.view n) (finished (core.view n) o.role o.size))
bitmaps_step core new (hears_roles n locks events size roles m from o b h said) l i = new_legs_at core i n (fresh_targets (core.view n) (view_taken (core.view n) (role_of roles) size))
bitmaps_step core new (asks_write n s v sure few calm up) l i =
    both_at core i n (core.writes n ++ new_write (core.writes_made n) s v ∷ []) (entered (with_set (core.bitmap n) (chunk_of (sizes core) s) true) (chunk_of (sizes core) s))
    (enter_fits (sizes core) (core.writes n) (core.bitmap n) (core.writes_made n) s v l.sizes_fit (sure_below core n s l sure) (i.bitmaps n))
bitmaps_step core new (marks k m same) l i = bitmap_at core i k m (marks_fit (sizes core) (core.writes k) m (core.bitmap k) same (i.bitmaps k))
bitmaps_step core new (starts n k some) l i = writes_at core i n (start_in k (core.writes n)) (same_writes (sizes core) (core.writes n) (start_in k (core.writes n)) (core.bitmap n) (λ c. writes_in-start (sizes core) c k (core.writes n)) (i.bitmaps n))
bitmaps_step core new (outs n k j head some) l i = writes_at core i n (done_in k j (start_in k (core.writes n)))
    (same_writes (sizes core) (core.writes n) (done_in k j (start_in k (core.writes n))) (core.bitmap n) (λ c. writes_in-done (sizes core) c k j (start_in k (core.writes n)) ∙ writes_in-start (sizes core) c k (core.writes n)) (i.bitmaps n))
bitmaps_step core new (ends_write n k w broken is) l i = both_at core i n (without_write k (core.writes n)) (bitmap_ended core n (Some w) broken)
    (end_fits core n k (core.writes_made n) w broken l.sizes_fit ((i.requests n).write_sectors k w is) (i.requests n).order.writes_rise is (i.bitmaps n))
bitmaps_step core new (settles n b is) l i = bitmap_at core i n (need_met (core.bitmap n) (completes (sizes core) b)) (met_fits (sizes core) (core.writes n) (core.bitmap n) (completes (sizes core) b) (i.bitmaps n))
bitmaps_step core new (slot_reads n r p k has is fit) l i = bitmap_at core i n (found_page (sizes core) (core.bitmap n) p has) (found_fits (sizes core) (core.writes n) (core.bitmap n) p has fit (i.bitmaps n))
bitmaps_step core new (slot_clears n r p k is) l i = bitmap_at core i r.slot (written (core.bitmap r.slot) p k) (written_fits (sizes core) (core.writes r.slot) (core.bitmap r.slot) p k (i.bitmaps r.slot))
bitmaps_step core new c l i = i.bitmaps

-- Who isn't up, or leaves, has nothing in flight.

start_none : (k : ℕ) (ws : List LiveWrite) → ws ≡ [] → start_in k ws ≡ []
start_none k ws e = ap (start_in k) e

done_none : (k l : ℕ) (ws : List LiveWrite) → ws ≡ [] → done_in k l (start_in k ws) ≡ []
done_none k l ws e = ap (λ x. done_in k l (start_in k x)) e

without_none : (k : ℕ) (ws : List LiveWrite) → ws ≡ [] → without_write k ws ≡ []
without_none k ws e = ap (without_write k) e

read_none : (k : ℕ) (rs : List LiveRead) → rs ≡ [] → without_read k rs ≡ []
read_none k rs e = ap (without_read k) e

resting_step : (core new : Core) → Change core new → InFlight core → (m : ℕ) → is_up (new.state m) ≡ false → Rests (new.writes m) (new.reads m)
resting_step core new (dies n) i = at_three (λ m s w r. is_up s ≡ false → Rests w r) core.state core.writes core.reads n states.Out [] [] i.resting (λ e. (refl, refl))
resting_step core new (joins n head locks b out) i = at_one (λ m s. is_up s ≡ false → Rests (core.writes m) (core.reads m)) core.state n states.Joining i.resting (λ e. i.resting n (ap is_up out))
resting_step core new (comes n joining none beyond fresh found) i = at_one (λ m s. is_up s ≡ false → Rests (core.writes m) (core.reads m)) core.state n states.Loaded i.resting (λ e. i.resting n (ap is_up joining))
resting_step core new (leaves n members locks sender same b p idle z) i = at_one (λ m s. is_up s ≡ false → Rests (core.writes m) (core.reads m)) core.state n states.Out i.resting (λ e. z.rests)
resting_step core new (finishes n o locks is meta up b) i = at_one (λ m s. is_up s ≡ false → Rests (core.writes m) (core.reads m)) core.state n states.Up i.resting (λ e. cc)
resting_step core new (asks_write n s v sure few calm up) i = at_one (λ m w. is_up (core.state m) ≡ false → Rests w (core.reads m)) core.writes n (core.writes n ++ new_write (core.writes_made n) s v ∷ []) i.resting (λ e. cc)
resting_step core new (asks_read n s sure few calm up) i = at_one (λ m r. is_up (core.state m) ≡ false → Rests (core.writes m) r) core.reads n (core.reads n ++ new_read (core.reads_made n) s (given_leg core n s) ∷ []) i.resting (λ e. cc)
resting_step core new (starts n k some) i = at_one (λ m w. is_up (core.state m) ≡ false → Rests w (core.reads m)) core.writes n (start_in k (core.writes n)) i.resting (λ e. let r = i.resting n e in (start_none k (core.writes n) r.0, r.1))
resting_step core new (outs n k j head some) i = at_one (λ m w. is_up (core.state m) ≡ false → Rests w (core.reads m)) core.writes n (done_in k j (start_in k (core.writes n))) i.resting (λ e. let r = i.resting n e in (done_none k j (core.writes n) r.0, r.1))
resting_step core new (ends_write n k w broken is) i = at_one (λ m w. is_up (core.state m) ≡ false → Rests w (core.reads m)) core.writes n (without_write k (core.writes n)) i.resting (λ e. let r = i.resting n e in (without_none k (core.writes n) r.0, r.1))
resting_step core new (ends_read n k head) i = at_one (λ m x. is_up (core.state m) ≡ false → Rests (core.writes m) x) core.reads n (without_read k (core.reads n)) i.resting (λ e. let r = i.resting n e in (r.0, read_none k (core.reads n) r.1))
resting_step core new c i = i.resting

-- the node has published that it leaves
abbrev pub goes : SenderPhase → Option Offer → Bool
goes s x = has_published s && offers_wish is_unclean x

goes_more : (s t : SenderPhase) (x : Option Offer) → (has_published t ≡ true → has_published s ≡ true) → goes t x ≡ true → goes s x ≡ true
goes_more s t x p e = grind arith

no_offer : (s : SenderPhase) → goes s None ≡ true → ⊥
no_offer s e = by (has_published s) e
  where
    by : (b : Bool) → (b && false) ≡ true → ⊥
    by true e = cc
    by false e = cc

offer_is : (s : SenderPhase) (x y : Option Offer) → ((o : Offer) → y ≡ Some o → x ≡ Some o) → goes s y ≡ true → goes s x ≡ true
offer_is s x None sub e = absurd (no_offer s e)
offer_is s x (Some o) sub e = ap (goes s) (sub o refl) ∙ e

right : (a b : Bool) → (a && b) ≡ true → b ≡ true
right a b e = grind arith

conflict : (b : Bool) → not b ≡ true → b ≡ true → ⊥
conflict true a e = cc
conflict false a e = cc

pub none_from : (ws : List LiveWrite) → write_from 0 ws ≡ None → ws ≡ []
none_from [] e = refl
none_from (w ∷ ws) e = absurd (grind (arith, nat_tests))

pub none_read_from : (rs : List LiveRead) → read_from 0 rs ≡ None → rs ≡ []
none_read_from [] e = refl
none_read_from (r ∷ rs) e = absurd (grind (arith, nat_tests))

due_rests : (core : Core) (n : ℕ) (o : Offer) (w : Wish) → first_of (wish_is_due core n o w) ≡ None → is_unclean w ≡ true → Rests (core.writes n) (core.reads n)
due_rests core n o wishes.Unclean e is =
    let a = all_none (wish_is_due core n o wishes.Unclean) e in
    (none_from (core.writes n) (refused_none Draining (write_from 0 (core.writes n)) a.0), none_read_from (core.reads n) (refused_none Reading (read_from 0 (core.reads n)) a.1.0))
due_rests core n o w e is = cc

dies_leaving : (core : Core) (n : ℕ) → InFlight core → (m : ℕ) → goes (with_at core.sender n senders.Idle m) (with_at (with_at core.offer n None) n None m) ≡ true → Rests (with_at core.writes n [] m) (with_at core.reads n [] m)
dies_leaving core n i m = by (m == n)
  where
    by : (b : Bool) → goes (if b then senders.Idle else core.sender m) (if b then None else (if b then None else core.offer m)) ≡ true → Rests (if b then [] else core.writes m) (if b then [] else core.reads m)
    by true e = (refl, refl)
    by false e = i.leaving m e

leaves_leaving : (core : Core) (n : ℕ) (sender : ℕ → SenderPhase) → ((m : ℕ) → has_published (sender m) ≡ true → has_published (core.sender m) ≡ true) → InFlight core → (m : ℕ) → goes (sender m) (with_at core.offer n None m) ≡ true → Rests (core.writes m) (core.reads m)
leaves_leaving core n sender p i m = by (m == n)
  where
    by : (b : Bool) → goes (sender m) (if b then None else core.offer m) ≡ true → Rests (core.writes m) (core.reads m)
    by true e = absurd (no_offer (sender m) e)
    by false e = i.leaving m (goes_more (core.sender m) (sender m) (core.offer m) (p m) e)

module _ (core : Core) (i : InFlight core) where
  ends : (n : ℕ) → (m : ℕ) → goes (with_at core.sender n senders.Idle m) (with_at core.offer n None m) ≡ true → Rests (core.writes m) (core.reads m)
  ends n = at_two (λ m s x. goes s x ≡ true → Rests (core.writes m) (core.reads m)) core.sender core.offer n senders.Idle None i.leaving (λ e. cc)

  writes_gone : (n : ℕ) (ws : List LiveWrite) → (core.writes n ≡ [] → ws ≡ []) → (m : ℕ) → goes (core.sender m) (core.offer m) ≡ true → Rests (with_at core.writes n ws m) (core.reads m)
  writes_gone n ws f = at_one (λ m ws. goes (core.sender m) (core.offer m) ≡ true → Rests ws (core.reads m)) core.writes n ws i.leaving (λ e. let r = i.leaving n e in (f r.0, r.1))

leaving_step : (core new : Core) → Change core new → InFlight core → (m : ℕ) → goes (new.sender m) (new.offer m) ≡ true → Rests (new.writes m) (new.reads m)
leaving_step core new (dies n) i = dies_leaving core n i
leaving_step core new (tells n s locks b p) i = at_one (λ m s. goes s (core.offer m) ≡ true → Rests (core.writes m) (core.reads m)) core.sender n s i.leaving (λ e. i.leaving n (goes_more (core.sender n) s (core.offer n) p e))
leaving_step core new (joins n head locks b out) i = at_one (λ m s. goes s (core.offer m) ≡ true → Rests (core.writes m) (core.reads m)) core.sender n senders.TokenAsked i.leaving (λ e. cc)
leaving_step core new (leaves n members locks sender same b p idle z) i = leaves_leaving core n sender p i
leaving_step core new (offers n wish none up e) i = at_two (λ m s x. goes s x ≡ true → Rests (core.writes m) (core.reads m)) core.sender core.offer n senders.Offered (Some (offer_of core n wish)) i.leaving (λ e. cc)
leaving_step core new (writes_super n l o is) i = at_one (λ m x. goes (core.sender m) x ≡ true → Rests (core.writes m) (core.reads m)) core.offer n (Some (written_on l o)) i.leaving (λ e. i.leaving n (ap (goes (core.sender n)) is ∙ e))
leaving_step core new (publishes n o locks is b idle due) i = at_one (λ m s. goes s (core.offer m) ≡ true → Rests (core.writes m) (core.reads m)) core.sender n senders.Published i.leaving
    (λ e. due_rests core n o o.wish due (sym (ap (offers_wish is_unclean) is) ∙ e))
leaving_step core new (shuts n r o locks is w lt b idle) i = at_one (λ m s. goes s (core.offer m) ≡ true → Rests (core.writes m) (core.reads m)) core.sender n senders.Published i.leaving
    (λ e. let no : is_unclean (wishes.Range r) ≡ true = sym (ap is_unclean w) ∙ sym (ap (offers_wish is_unclean) is) ∙ e in cc)
leaving_step core new (opens n o r locks is w b) i = ends core i n
leaving_step core new (announces n wish locks b) i = ends core i n
leaving_step core new (idles n locks b) i = ends core i n
leaving_step core new (voids n) i = at_two (λ m s x. goes s x ≡ true → Rests (core.writes m) (core.reads m)) core.sender core.offer n senders.MessageHeld None i.leaving (λ e. cc)
leaving_step core new (finishes n o locks is meta up b) i = ends core i n
leaving_step core new (asks_write n s v sure few calm up) i = at_one (λ m w. goes (core.sender m) (core.offer m) ≡ true → Rests w (core.reads m)) core.writes n (core.writes n ++ new_write (core.writes_made n) s v ∷ []) i.leaving (λ e. absurd (conflict (goes (core.sender n) (core.offer n)) calm e))
leaving_step core new (asks_read n s sure few calm up) i = at_one (λ m r. goes (core.sender m) (core.offer m) ≡ true → Rests (core.writes m) r) core.reads n (core.reads n ++ new_read (core.reads_made n) s (given_leg core n s) ∷ []) i.leaving (λ e. absurd (conflict (goes (core.sender n) (core.offer n)) calm e))
leaving_step core new (starts n k some) i = writes_gone core i n (start_in k (core.writes n)) (start_none k (core.writes n))
leaving_step core new (outs n k j head some) i = writes_gone core i n (done_in k j (start_in k (core.writes n))) (done_none k j (core.writes n))
leaving_step core new (ends_write n k w broken is) i = writes_gone core i n (without_write k (core.writes n)) (without_none k (core.writes n))
leaving_step core new (ends_read n k head) i = at_one (λ m x. goes (core.sender m) (core.offer m) ≡ true → Rests (core.writes m) x) core.reads n (without_read k (core.reads n)) i.leaving (λ e. let r = i.leaving n e in (r.0, read_none k (core.reads n) r.1))
leaving_step core new (loses n l sender offer p sub last lt) i = λ m e. i.leaving m (goes_more (core.sender m) (sender m) (core.offer m) (p m) (offer_is (sender m) (core.offer m) (offer m) (sub m) e))
leaving_step core new c i = i.leaving

pub flight_step : (core new : Core) → Change core new → LegsFit core → InFlight core → InFlight new
flight_step core new c l i = record {
  requests = requests_step core new c l i;
  bitmaps = bitmaps_step core new c l i;
  resting = resting_step core new c i;
  leaving = leaving_step core new c i;
}
