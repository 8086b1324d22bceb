-- Each change keeps windows, passes, gatherings and recoveries within the room and the slots.
use Rattle.std.proofs.Common.{◌≡◌, ◌⊎◌, inl, inr, ℕ, ◌<◌, ◌==◌, ◌&&◌, ◌||◌, Bool, true, false, if◌then◌else◌, Option, Some, None, refl, sym, ap, subst, ◌∙◌, arith}
use Rattle.std.specs.Prelude.{nat_lt, option_map}
use Rattle.std.proofs.lemmas.Bool.{ltb-true, cases_lt}
use Rattle.std.proofs.lemmas.Bool.Decides.{nat_tests}
use Rattle.dlm_modes.specs.Points.{with_at}
use Rattle.mdc_types.specs.Geometry.{Sizes, IsGeometry, chunks_of, nodes_of, chunk_of}
use Rattle.mdc_types.specs.Roles.{role_of, is_rebuilding}
use Rattle.mdc_types.specs.declared.events.Wish.{Wish}
use Rattle.mdc_types.specs.declared.events.Wish.TheVariants as wishes
use Rattle.mdc_types.specs.declared.numbers.Range.{Range}
use Rattle.mdc_types.specs.declared.numbers.Sector.{Sector}
use Rattle.cluster_msgs.specs.Ranges.{IsRange, spelled_range}
use Rattle.cluster_msgs.specs.Reading.{range_in}
use Rattle.cluster_msgs.proofs.Said.{says_the_range}
use Rattle.cluster_msgs.specs.declared.msg.Body.TheVariants as bodies
use Rattle.cluster_msgs.specs.declared.msg.Msg.{Msg}
use Rattle.disk_addition.specs.Additions.{after}
use Rattle.disk_addition.specs.declared.addition.Addition.{Addition}
use Rattle.disk_addition.specs.declared.addition.Addition.TheVariants.{Nothing, Again}
use Rattle.leg_failure.specs.Views.{NodeView, finished, taken as view_taken}
use Rattle.node_recovery.specs.Progress.{Recovering, begun as new_recovery, with_read, with_cleared, with_found}
use Rattle.resync_worker.specs.Copying.{Passing, begun as new_pass, filled, copied, settled_at, restarted, covering_only}
use Rattle.resync_worker.specs.Sectors.{first_chunk_in, place_in, ends_chunk}
use Rattle.resync_worker.specs.declared.buffer.Buffer.{Buffer}
use Rattle.resync_worker.proofs.SectorLaws.{place_in-next}
use Rattle.slot_gathering.specs.Gatherings.{Gathering, all_pages, none_gathered, gathered_page}
use Rattle.suspend_ranges.specs.Suspended.{entry_of}
use Rattle.cluster_model.specs.State.{Core, Copy, Adding, Offer, Turn, sizes}
use Rattle.cluster_model.specs.Phases.{is_up, is_metadata}
use Rattle.node_member.specs.Members.{drawn_one}
use Rattle.mdc_types.specs.Bits.{with_bit}
use Rattle.cluster_model.specs.Changes.{no_new_dev, no_copy, not_adding, covering, window_closed}
use Rattle.cluster_model.specs.Joining.{newest, view_from, told_range, range_of_member}
use Rattle.cluster_model.specs.Finishing.{adding_after, gathering_after}
use Rattle.cluster_model.specs.Copying.{next_for}
use Rattle.laws_sound.specs.Legs.{LegsFit, WishFits, WindowFits}
use Rattle.laws_sound.specs.Requests.{InFlight}
use Rattle.laws_sound.specs.Copies.{RangeFits, PassFits, CopyFits, GatheringFits, RecoveryFits, InRoom}
use Rattle.laws_sound.proofs.Points.{at_one, some_at, none_at}
use Rattle.laws_sound.proofs.RequestSteps.{chunk_some}
use Rattle.laws_sound.proofs.LegSteps.{heard_is}
use Rattle.laws_sound.proofs.RoundFacts.{same_at}
use Rattle.dlm_modes.specs.declared.block.Block.{Block}
use Rattle.dlm_modes.specs.declared.mode.Mode.TheVariants.{CR, PW}
use Rattle.dlm_space.specs.Locks.{Lock, holding, with_value}
use Rattle.msg_rounds.specs.Locks.{ack_res}
use Rattle.cluster_model.specs.Publishing.{body_of, range_told}
use Rattle.laws_sound.proofs.Change.{Change, Hears, quiet, dies, tells, readies, turns, joins, idles, takes, publishes, hears, resumes_whole, resumes, comes, leaves, offers, shuts, opens, announces, finishes, hears_roles, hears_range, passes, gathers, fills, copies, settles, ends_pass, recovers, slot_reads, slot_clears, recovered}

-- Copies.

pub no_copy_fits : (g : Sizes) → CopyFits g no_copy
no_copy_fits g = record { window = λ r e. cc; pass = λ p e. cc }

mapped : (g : Sizes) (f : Passing → Passing) (x : Option Passing) → ((p : Passing) → PassFits g p → PassFits g (f p)) → ((p : Passing) → x ≡ Some p → PassFits g p) → (q : Passing) → option_map f x ≡ Some q → PassFits g q
mapped g f None keeps i q e = cc
mapped g f (Some p) keeps i q e = let same : f p ≡ q = cc in subst (PassFits g) same (keeps p (i p refl))

map_fits : (g : Sizes) (c : Copy) (f : Passing → Passing) → ((p : Passing) → PassFits g p → PassFits g (f p)) → CopyFits g c → CopyFits g (record c { pass = option_map f c.pass })
map_fits g c f keeps i = record { window = i.window; pass = mapped g f c.pass keeps i.pass }

covered_fits : (g : Sizes) (c : Copy) (v : NodeView) → CopyFits g c → CopyFits g (covering c v)
covered_fits g c v i = map_fits g c (λ p. covering_only p (λ l. is_rebuilding (v.role l))) (λ p f. record { todo = f.todo; buffer = f.buffer }) i

closed_fits : (g : Sizes) (c : Copy) → CopyFits g c → CopyFits g (window_closed c)
closed_fits g c i = record { window = λ r e. cc; pass = mapped g restarted c.pass (λ p f. record { todo = f.todo; buffer = λ b e. cc }) i.pass }

turned_fits : (g : Sizes) (c : Copy) (t : Turn) → CopyFits g c → CopyFits g (record c { turn = t })
turned_fits g c t i = record { window = i.window; pass = i.pass }

entry_is : (r q : Range) → entry_of r ≡ Some q → (r ≡ q) × (r.lo < r.hi)
entry_is r q e = by (nat_lt r.lo r.hi) refl e
  where
    by : (b : Bool) → nat_lt r.lo r.hi ≡ b → (if b then Some r else None) ≡ Some q → (r ≡ q) × (r.lo < r.hi)
    by true lt e = (cc, ltb-true r.lo r.hi lt)
    by false lt e = cc

window_fits : (g : Sizes) (r q : Range) → WindowFits g r → entry_of r ≡ Some q → RangeFits g q
window_fits g r q w e = let is = entry_is r q e in subst (RangeFits g) is.0 (record { order = is.1; hi = w.hi })

opened_fits : (g : Sizes) (c : Copy) (r : Range) → WindowFits g r → CopyFits g c → CopyFits g (record c { window = entry_of r })
opened_fits g c r w i = record { window = λ q e. window_fits g r q w e; pass = i.pass }

pub offered_window : (core : Core) (n : ℕ) (o : Offer) (r : Range) → LegsFit core → core.offer n ≡ Some o → o.wish ≡ wishes.Range r → WindowFits (sizes core) r
offered_window core n o r l is w = subst (WishFits (sizes core)) w (l.offers n o is).wish

begun_fits : (g : Sizes) (c : Copy) (todo legs : ℕ → Bool) → ((k : ℕ) → todo k ≡ true → k < chunks_of g) → CopyFits g c → CopyFits g (record c { pass = Some (new_pass todo legs) })
begun_fits g c todo legs fit i = record {
  window = i.window;
  pass = λ p e. let same : new_pass todo legs ≡ p = cc in subst (PassFits g) same (record { todo = fit; buffer = λ b e. cc });
}

filled_fits : (g : Sizes) (s : ℕ) (v : Sector) (l : ℕ) → s < g.room → (p : Passing) → PassFits g p → PassFits g (filled p s v l)
filled_fits g s v l lt p f = record { todo = f.todo; buffer = λ b e. let same : s ≡ b.sector = cc in subst (λ x. x < g.room) same lt }

copied_buffer : (g : Sizes) (l : ℕ) (x : Option Buffer) → ((b : Buffer) → x ≡ Some b → b.sector < g.room) → (b : Buffer) → option_map (λ (c : Buffer). record c { done = with_bit c.done l }) x ≡ Some b → b.sector < g.room
copied_buffer g l None i b e = cc
copied_buffer g l (Some c) i b e = let same : c.sector ≡ b.sector = cc in subst (λ x. x < g.room) same (i c refl)

copied_fits : (g : Sizes) (l : ℕ) (p : Passing) → PassFits g p → PassFits g (copied p l)
copied_fits g l p f = record { todo = f.todo; buffer = copied_buffer g l p.buffer f.buffer }

fewer_todo : (g : Sizes) (todo : ℕ → Bool) (s c : ℕ) (b : Bool) → (if b then with_at todo (chunk_of g s) false else todo) c ≡ true → todo c ≡ true
fewer_todo g todo s c true e = grind (arith, nat_tests)
fewer_todo g todo s c false e = e

settled_fits : (g : Sizes) (b : Buffer) (p : Passing) → PassFits g p → PassFits g (settled_at g p b)
settled_fits g b p f = record { todo = λ c e. f.todo c (fewer_todo g p.todo b.sector c (ends_chunk g b.sector) e); buffer = λ x e. cc }

placed : (g : Sizes) (todo : ℕ → Bool) (reached lo hi s : ℕ) (x : Option ℕ) → IsGeometry g → first_chunk_in g todo lo hi ≡ x → option_map (place_in g reached) x ≡ Some s → s < g.room
placed g todo reached lo hi s None geometry found e = cc
placed g todo reached lo hi s (Some c) geometry found e =
    let next = place_in-next g todo reached lo hi c (chunk_some g geometry) found in
    let same : place_in g reached c ≡ s = cc in
    subst (λ x. x < g.room) same (omega (arith, next.sector.below))

pub next_below : (g : Sizes) (p : Option Passing) (w : Option Range) (s : ℕ) → IsGeometry g → next_for g p w ≡ Some s → s < g.room
next_below g (Some p) (Some w) s geometry e = placed g p.todo p.reached w.lo w.hi s (first_chunk_in g p.todo w.lo w.hi) geometry refl e
next_below g (Some p) None s geometry e = cc
next_below g None w s geometry e = cc

any_todo : (core : Core) (n : ℕ) (c : ℕ) → InFlight core → InRoom core → ((core.bitmap n).need c ≡ true) ⊎ ((core.adding n).gathering.gathered c ≡ true) ⊎ (c < chunks_of (sizes core)) → c < chunks_of (sizes core)
any_todo core n c f i (inl e) = (f.bitmaps n).need c e
any_todo core n c f i (inr (inl e)) = (i.gatherings n).gathered c e
any_todo core n c f i (inr (inr e)) = e

module _ (core : Core) (i : InRoom core) where
  copy_at : (n : ℕ) (c : Copy) → CopyFits (sizes core) c → (m : ℕ) → CopyFits (sizes core) (with_at core.copy n c m)
  copy_at n c f = at_one (λ m c. CopyFits (sizes core) c) core.copy n c i.copies f

  covered_at : (n : ℕ) (v : NodeView) → (m : ℕ) → CopyFits (sizes core) (with_at core.copy n (covering (core.copy n) v) m)
  covered_at n v = copy_at n (covering (core.copy n) v) (covered_fits (sizes core) (core.copy n) v (i.copies n))

  pass_at : (n : ℕ) (f : Passing → Passing) → ((p : Passing) → PassFits (sizes core) p → PassFits (sizes core) (f p)) → (m : ℕ) → CopyFits (sizes core) (with_at core.copy n (record (core.copy n) { pass = option_map f (core.copy n).pass }) m)
  pass_at n f keeps = copy_at n (record (core.copy n) { pass = option_map f (core.copy n).pass }) (map_fits (sizes core) (core.copy n) f keeps (i.copies n))

copies_step : (core new : Core) → Change core new → LegsFit core → InFlight core → InRoom core → (m : ℕ) → CopyFits (sizes new) (new.copy m)
copies_step core new (dies n) l f i = copy_at core i n no_copy (no_copy_fits (sizes core))
copies_step core new (leaves n members locks sender same b p idle z) l f i = copy_at core i n no_copy (no_copy_fits (sizes core))
copies_step core new (turns n t locks b) l f i = copy_at core i n (record (core.copy n) { turn = t }) (turned_fits (sizes core) (core.copy n) t (i.copies n))
copies_step core new (comes n joining none beyond fresh found) l f i = covered_at core i n (view_from (core.tried n) (newest (core.tried n)))
copies_step core new (finishes n o locks is meta up b) l f i = covered_at core i n (finished (core.view n) o.role o.size)
copies_step core new (hears_roles n locks events size roles m from o b h said) l f i = covered_at core i n (view_taken (core.view n) (role_of roles) size)
copies_step core new (shuts n r o locks is w lt b idle) l f i = copy_at core i n (window_closed (core.copy n)) (closed_fits (sizes core) (core.copy n) (i.copies n))
copies_step core new (opens n o r locks is w b) l f i = copy_at core i n (record (core.copy n) { window = entry_of r }) (opened_fits (sizes core) (core.copy n) r (offered_window core n o r l is w) (i.copies n))
copies_step core new (passes n todo legs any) l f i = copy_at core i n (record (core.copy n) { pass = Some (new_pass todo legs) }) (begun_fits (sizes core) (core.copy n) todo legs (λ c e. any_todo core n c f i (any c e)) (i.copies n))
copies_step core new (fills n s v k head next) l f i = pass_at core i n (λ p. filled p s v k) (filled_fits (sizes core) s v k (next_below (sizes core) (core.copy n).pass (core.copy n).window s l.sizes_fit next))
copies_step core new (copies n k head) l f i = pass_at core i n (λ p. copied p k) (copied_fits (sizes core) k)
copies_step core new (settles n b is) l f i = pass_at core i n (λ p. settled_at (sizes core) p b) (settled_fits (sizes core) b)
copies_step core new (ends_pass n locks b) l f i = copy_at core i n no_copy (no_copy_fits (sizes core))
copies_step core new c l f i = i.copies

-- Suspended ranges.

where_fits : (g : Sizes) (b : Bool) (x y : Option Range) (q : Range) → (x ≡ Some q → RangeFits g q) → (y ≡ Some q → RangeFits g q) → (if b then x else y) ≡ Some q → RangeFits g q
where_fits g true x y q f h e = f e
where_fits g false x y q f h e = h e

member_told : (core : Core) (m : ℕ) (q : Range) → InRoom core → m < 16 → range_of_member core m ≡ Some q → RangeFits (sizes core) q
member_told core m q i lt e = where_fits (sizes core) (is_up (core.state m) && (core.locks m).valid) (told_range (range_in (core.locks m).block.bytes)) None q (i.told m q lt) (λ e. cc) e

down_none : (core : Core) (m : ℕ) (q : Range) → is_up (core.state m) ≡ false → range_of_member core m ≡ Some q → ⊥
down_none core m q down e = by (is_up (core.state m)) down e
  where
    by : (b : Bool) → b ≡ false → (if b && (core.locks m).valid then told_range (range_in (core.locks m).block.bytes) else None) ≡ Some q → ⊥
    by true down e = cc
    by false down e = cc

says_range : (core : Core) (o : Offer) (w : Wish) (r : Range) → WishFits (sizes core) w → body_of core o w ≡ bodies.Resyncing r → WindowFits (sizes core) r
says_range core o (wishes.Range x) r f e = let same : x ≡ r = cc in subst (WindowFits (sizes core)) same f
says_range core o (wishes.NewDisk l) r f e = cc
says_range core o (wishes.Remove l) r f e = cc
says_range core o (wishes.ReAdd l) r f e = cc
says_range core o wishes.Unclean r f e = cc
says_range core o (wishes.Grow z) r f e = cc
says_range core o w r f e = cc

heard_window : (core : Core) (n : ℕ) (m : Msg) (from : ℕ) (o : Offer) (r : Range) → LegsFit core → Hears core n m from o → m.body ≡ bodies.Resyncing r → WindowFits (sizes core) r
heard_window core n m from o r l h is = says_range core o o.wish r (l.offers from o h.offer).wish (sym (ap (λ (x : Msg). x.body) (heard_is core n m from o l h)) ∙ is)

suspended_step : (core new : Core) → Change core new → LegsFit core → InRoom core → (n m : ℕ) (r : Range) → new.suspended n m ≡ Some r → RangeFits (sizes new) r
suspended_step core new (dies n) l i = λ m k q e. where_fits (sizes core) ((m == n) || (k == n)) None (core.suspended m k) q (λ e. cc) (i.suspended m k q) e
suspended_step core new (leaves n members locks sender same b p idle z) l i = λ m k q e. where_fits (sizes core) (m == n) None (core.suspended m k) q (λ e. cc) (i.suspended m k q) e
suspended_step core new (comes n joining none beyond fresh found) l i = λ m k q e. where_fits (sizes core) (m == n) (range_of_member core k) (core.suspended m k) q
    (λ e. elim (cases_lt k 16) [ inl lt ↦ member_told core k q i lt e | inr past ↦ absurd (down_none core k q (ap is_up (beyond k past)) e) ]) (i.suspended m k q) e
suspended_step core new (shuts n r o locks is w lt b idle) l i = λ m k q e. where_fits (sizes core) ((m == n) && (k == n)) (entry_of r) (core.suspended m k) q
    (window_fits (sizes core) r q (offered_window core n o r l is w)) (i.suspended m k q) e
suspended_step core new (hears_range n locks r m from o b h is) l i = λ j k q e. where_fits (sizes core) ((j == n) && (k == (core.receiver n).from)) (entry_of r) (core.suspended j k) q
    (window_fits (sizes core) r q (heard_window core n m from o r l h is)) (i.suspended j k q) e
suspended_step core new c l i = i.suspended

-- The ranges in blocks.

abbrev pub TellsFit : Sizes → (ℕ → Lock) → Type 0
TellsFit g locks = (m : ℕ) (r : Range) → m < 16 → told_range (range_in (locks m).block.bytes) ≡ Some r → RangeFits g r

same_told : (g : Sizes) (new old : ℕ → Lock) → ((m : ℕ) → m < 16 → (new m).block ≡ (old m).block) → TellsFit g old → TellsFit g new
same_told g new old same i m r lt e = i m r lt (subst (λ (b : Block). told_range (range_in b.bytes) ≡ Some r) (same m lt) e)

-- a range that was spelled is read again
spelled_told : (g : Sizes) (x q : Range) → IsGeometry g → WindowFits g x → told_range (range_in (spelled_range x)) ≡ Some q → RangeFits g q
spelled_told g x q geometry w e =
    let is : IsRange x = record { hi = omega (arith, w.hi, geometry.room); order = w.order; empty = w.empty } in
    let read : range_in (spelled_range x) ≡ Some x = (says_the_range (spelled_range x) x).1 (record { range = is; bytes_are = refl }) in
    window_fits g x q w (sym (ap told_range read) ∙ e)

shut_told : (core : Core) (n : ℕ) (x : Range) (locks : ℕ → Lock) → IsGeometry (sizes core) → WindowFits (sizes core) x → TellsFit (sizes core) locks → TellsFit (sizes core) (range_told locks n x)
shut_told core n x locks geometry w i m r lt e = by (m == n) e
  where
    by : (b : Bool) → told_range (range_in (if b then holding (with_value (locks n) (Some (record { bytes = spelled_range x }))) n PW else locks m).block.bytes) ≡ Some r → RangeFits (sizes core) r
    by true e = spelled_told (sizes core) x r geometry w e
    by false e = i m r lt e

come_blocks : (locks : ℕ → Lock) (n m : ℕ) → (with_at (with_at locks ack_res (holding (locks ack_res) n CR)) no_new_dev (holding (locks no_new_dev) n CR) m).block ≡ (locks m).block
come_blocks locks n m = same_at (with_at locks ack_res (holding (locks ack_res) n CR)) no_new_dev (holding (locks no_new_dev) n CR) refl m ∙ same_at locks ack_res (holding (locks ack_res) n CR) refl m

told_step : (core new : Core) → Change core new → LegsFit core → InRoom core → TellsFit (sizes new) new.locks
told_step core new (quiet head cut locks b) l i = same_told (sizes core) locks core.locks (λ k lt. b k) i.told
told_step core new (tells n s locks b p) l i = same_told (sizes core) locks core.locks (λ k lt. b k) i.told
told_step core new (readies n locks b busy) l i = same_told (sizes core) locks core.locks (λ k lt. b k) i.told
told_step core new (turns n t locks b) l i = same_told (sizes core) locks core.locks (λ k lt. b k) i.told
told_step core new (joins n head locks b out) l i = same_told (sizes core) locks core.locks (λ k lt. b k) i.told
told_step core new (leaves n members locks sender same b p idle z) l i = same_told (sizes core) locks core.locks (λ k lt. b k) i.told
told_step core new (opens n o r locks is w b) l i = same_told (sizes core) locks core.locks (λ k lt. b k) i.told
told_step core new (announces n wish locks b) l i = same_told (sizes core) locks core.locks (λ k lt. b k) i.told
told_step core new (finishes n o locks is meta up b) l i = same_told (sizes core) locks core.locks (λ k lt. b k) i.told
told_step core new (idles n locks b) l i = same_told (sizes core) locks core.locks (λ k lt. b k) i.told
told_step core new (takes n from locks b) l i = same_told (sizes core) locks core.locks (λ k lt. b k) i.told
told_step core new (hears_roles n locks events size roles m from o b h said) l i = same_told (sizes core) locks core.locks (λ k lt. b k) i.told
told_step core new (hears_range n locks r m from o b h is) l i = same_told (sizes core) locks core.locks (λ k lt. b k) i.told
told_step core new (hears n locks b busy) l i = same_told (sizes core) locks core.locks (λ k lt. b k) i.told
told_step core new (resumes_whole n locks b) l i = same_told (sizes core) locks core.locks (λ k lt. b k) i.told
told_step core new (resumes n locks b) l i = same_told (sizes core) locks core.locks (λ k lt. b k) i.told
told_step core new (ends_pass n locks b) l i = same_told (sizes core) locks core.locks (λ k lt. b k) i.told
told_step core new (recovers n d locks b node slot) l i = same_told (sizes core) locks core.locks (λ k lt. b k) i.told
told_step core new (recovered n r locks is b) l i = same_told (sizes core) locks core.locks (λ k lt. b k) i.told
told_step core new (comes n joining none beyond fresh found) l i =
    same_told (sizes core) (with_at (with_at core.locks ack_res (holding (core.locks ack_res) n CR)) no_new_dev (holding (core.locks no_new_dev) n CR)) core.locks (λ k lt. come_blocks core.locks n k) i.told
told_step core new (publishes n o locks is b idle due) l i = same_told (sizes core) locks core.locks b.slots i.told
told_step core new (shuts n r o locks is w lt b idle) l i = shut_told core n r locks l.sizes_fit (offered_window core n o r l is w) (same_told (sizes core) locks core.locks b.slots i.told)
told_step core new c l i = i.told

-- Gatherings.

none_fits : (g : Sizes) → GatheringFits g none_gathered
none_fits g = record { next = omega arith; gathered = λ c e. cc }

after_fits : (g : Sizes) (x : Addition) (a : Gathering) → GatheringFits g a → GatheringFits g (gathering_after x a)
after_fits g (Again l) a i = none_fits g
after_fits g x a i = i

either : (a b : Bool) → (a || b) ≡ true → (a ≡ true) ⊎ (b ≡ true)
either true b e = inl refl
either false b e = inr e

page_fits : (g : Sizes) (a : Gathering) (has : ℕ → Bool) → nat_lt a.next (all_pages g) ≡ true → ((c : ℕ) → has c ≡ true → c < chunks_of g) → GatheringFits g a → GatheringFits g (gathered_page a has)
page_fits g a has lt fit i = record {
  next = let le = ltb-true a.next (all_pages g) lt in omega arith;
  gathered = λ c e. elim (either (a.gathered c) (has c) e) [ inl x ↦ i.gathered c x | inr x ↦ fit c x ];
}

gatherings_step : (core new : Core) → Change core new → InRoom core → (m : ℕ) → GatheringFits (sizes new) (new.adding m).gathering
gatherings_step core new (dies n) i = at_one (λ m (a : Adding). GatheringFits (sizes core) a.gathering) core.adding n not_adding i.gatherings (none_fits (sizes core))
gatherings_step core new (leaves n members locks sender same b p idle z) i = at_one (λ m (a : Adding). GatheringFits (sizes core) a.gathering) core.adding n not_adding i.gatherings (none_fits (sizes core))
gatherings_step core new (announces n wish locks b) i = at_one (λ m (a : Adding). GatheringFits (sizes core) a.gathering) core.adding n (adding_after (core.adding n) wish) i.gatherings
    (after_fits (sizes core) (after (core.adding n).addition wish) (core.adding n).gathering (i.gatherings n))
gatherings_step core new (finishes n o locks is meta up b) i = at_one (λ m (a : Adding). GatheringFits (sizes core) a.gathering) core.adding n (adding_after (core.adding n) o.wish) i.gatherings
    (after_fits (sizes core) (after (core.adding n).addition o.wish) (core.adding n).gathering (i.gatherings n))
gatherings_step core new (hears_roles n locks events size roles m from o b h said) i = at_one (λ m (a : Adding). GatheringFits (sizes core) a.gathering) core.adding n (record (core.adding n) { addition = Nothing }) i.gatherings (i.gatherings n)
gatherings_step core new (gathers n has lt fit) i = at_one (λ m (a : Adding). GatheringFits (sizes core) a.gathering) core.adding n (record (core.adding n) { gathering = gathered_page (core.adding n).gathering has }) i.gatherings
    (page_fits (sizes core) (core.adding n).gathering has lt fit (i.gatherings n))
gatherings_step core new c i = i.gatherings

-- Recoveries.

recovery_to : (core : Core) (n : ℕ) (r : Recovering) → InRoom core → RecoveryFits (sizes core) r → (m : ℕ) (q : Recovering) → with_at core.recovery n (Some r) m ≡ Some q → RecoveryFits (sizes core) q
recovery_to core n r i f = some_at (λ m q. RecoveryFits (sizes core) q) core.recovery n (Some r) i.recoveries (λ q e. let same : r ≡ q = cc in subst (RecoveryFits (sizes core)) same f)

recovery_gone : (core : Core) (n : ℕ) → InRoom core → (m : ℕ) (q : Recovering) → with_at core.recovery n None m ≡ Some q → RecoveryFits (sizes core) q
recovery_gone core n i = none_at (λ m q. RecoveryFits (sizes core) q) core.recovery n i.recoveries

recoveries_step : (core new : Core) → Change core new → InRoom core → (m : ℕ) (r : Recovering) → new.recovery m ≡ Some r → RecoveryFits (sizes new) r
recoveries_step core new (dies n) i = recovery_gone core n i
recoveries_step core new (leaves n members locks sender same b p idle z) i = recovery_gone core n i
recoveries_step core new (recovers n d locks b node slot) i = recovery_to core n (new_recovery d) i (record { slot = slot; found = λ c e. cc })
recoveries_step core new (slot_reads n r p l has is fit) i =
    let f = i.recoveries n r is in
    recovery_to core n (with_found (with_read r p l) has) i (record { slot = f.slot; found = λ c e. elim (either (r.found c) (has c) e) [ inl x ↦ f.found c x | inr x ↦ fit c x ] })
recoveries_step core new (slot_clears n r p l is) i = let f = i.recoveries n r is in recovery_to core n (with_cleared r p l) i (record { slot = f.slot; found = f.found })
recoveries_step core new (recovered n r locks is b) i = recovery_gone core n i
recoveries_step core new c i = i.recoveries

heirs_if : (core : Core) (b : Bool) → InRoom core → (d h : ℕ) → (if b then drawn_one core.members else core.members).heir d ≡ Some h → h < nodes_of (sizes core)
heirs_if core true i = i.heirs
heirs_if core false i = i.heirs

heirs_step : (core new : Core) → Change core new → InRoom core → (d h : ℕ) → new.members.heir d ≡ Some h → h < nodes_of (sizes new)
heirs_step core new (leaves n members locks sender same b p idle z) i = λ d h e. i.heirs d h (same.heirs d h e)
heirs_step core new (recovers n d locks b node slot) i = some_at (λ k h. h < nodes_of (sizes core)) core.members.heir d (Some n) i.heirs (λ h e. let same : n ≡ h = cc in subst (λ x. x < nodes_of (sizes core)) same node)
heirs_step core new (recovered n r locks is b) i = none_at (λ k h. h < nodes_of (sizes core)) core.members.heir r.slot i.heirs
heirs_step core new (offers n wish none up e) i = heirs_if core (is_metadata wish) i
heirs_step core new c i = i.heirs

pub room_step : (core new : Core) → Change core new → LegsFit core → InFlight core → InRoom core → InRoom new
room_step core new c l f i = record {
  copies = copies_step core new c l f i;
  suspended = suspended_step core new c l i;
  told = told_step core new c l i;
  gatherings = gatherings_step core new c i;
  recoveries = recoveries_step core new c i;
  heirs = heirs_step core new c i;
}
