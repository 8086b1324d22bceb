-- The guard holds the live writes after each change.
use Rattle.std.proofs.Common.{◌≡◌, ◌≢◌, ◌⊎◌, inl, inr, ℕ, zero, suc, ◌+◌, ◌<◌, ◌≤◌, ◌==◌, true, false, List, [], ◌∷◌, ◌++◌, length, set, Option, Some, None, refl, ap, sym, ◌∙◌, subst, arith, if◌then◌else◌}
use Rattle.std.specs.Prelude.{get_or, replicate, Result, Ok, Err, MatchResult, OnOk}
use Rattle.std.specs.Result.{is_err}
use Rattle.fs_guard.specs.declared.InFlight.{InFlight}
use Rattle.std.proofs.Math.ListN.{length-set}
use Rattle.std.proofs.Math.Path.{fun_ext}
use Rattle.std.proofs.lemmas.Bool.Decides.{nat_tests}
use Rattle.std.proofs.lemmas.List.{get_or_past, get_or_default, length-replicate}
use Rattle.dlm_modes.specs.First.{first_such}
use Rattle.dlm_modes.proofs.FirstLaws.{first_such_same}
use Rattle.mdc_types.specs.declared.numbers.Sector.{Sector}
use Rattle.mirror_io.specs.declared.live.LiveWrite.{LiveWrite}
use Rattle.mirror_io.specs.Flight.{Flight, no_flight, write_in, without_write, start_in, done_in, new_write}
use Rattle.fs_guard.specs.declared.Writer.{Writer}
use Rattle.fs_guard.specs.Writers.{writer, holder, without, without_node, AreApart}
use Rattle.fs_guard.proofs.Holders.{holder-begin, holder-end, holder-die, apart-begin, apart-end, apart-die}
use Rattle.cluster_model.specs.Writes.{any_of_sector}
use Rattle.node_requests.specs.Requests.{flight_of, AreWrites, IsGuarded, is_node}
use Rattle.node_requests.proofs.Flights.{parts, flight-set}
use Rattle.node_requests.proofs.Sectors.{any-push, any-start, any-done, any-found, any-ended, any-other, are_asked, are_started, are_done, are_ended}
use Rattle.node_requests.proofs.Room.{count_of, pigeons, room}

same_or_not : (s t : ℕ) → (s ≡ t) ⊎ (s ≢ t)
same_or_not s t = grind (arith, nat_tests)

below_or_not : (i k : ℕ) → (i < k) ⊎ (k ≤ i)
below_or_not i k = grind (arith, nat_tests)

-- The flight of one node changes.

writes_set : (flights : List Flight) (n : ℕ) (f : Flight) → n < length flights → ((m : ℕ) → AreWrites (flight_of flights m)) → AreWrites f → (m : ℕ) → AreWrites (flight_of (set flights n f) m)
writes_set flights n f lt all new m = subst AreWrites (sym (flight-set flights n m f lt)) (elim (m == n) as (λ b. AreWrites (if b then f else flight_of flights m)) [ true ↦ new | false ↦ all m ])

-- to one with writes of the same sectors
pub guarded_same : (flights : List Flight) (guard : List Writer) (n : ℕ) (f : Flight) → n < 16 → IsGuarded flights guard → AreWrites f
    → ((s : ℕ) → any_of_sector s f.writes ≡ any_of_sector s (flight_of flights n).writes) → IsGuarded (set flights n f) guard
guarded_same flights guard n f lt i new same =
    let within : n < length flights = omega (arith, i.sixteen) in
    record {
      sixteen = length-set flights n f ∙ i.sixteen;
      writes = writes_set flights n f within i.writes new;
      apart = i.apart;
      held = λ m s. grind (arith, nat_tests, flight-set flights n m f within, same s, i.held m s);
    }

past : (flights : List Flight) (s m : ℕ) → length flights ≤ m → any_of_sector s (flight_of flights m).writes ≡ false
past flights s m le = rw (get_or_past flights m no_flight le) refl

-- who holds a sector is one of the sixteen
below_at : (flights : List Flight) (guard : List Writer) (s m : ℕ) → IsGuarded flights guard → holder s guard ≡ Some m → m < 16
below_at flights guard s m i is = elim (below_or_not m 16) [
  | inl lt ↦ lt
  | inr le ↦ absurd (grind (arith, nat_tests, is, i.held m s, past flights s m (omega (arith, i.sixteen))))
]

is_first : (j k n : ℕ) → k ≤ j → j < k + n → first_such (λ m. is_node m (Some j)) k n ≡ Some j
unfolding first_such
is_first j k zero le lt = absurd (omega arith)
is_first j k (suc n) le lt = elim (same_or_not j k) [
  | inl same ↦ grind (arith, nat_tests, same)
  | inr other ↦ grind (arith, nat_tests, other, is_first j (k + 1) n (omega (arith, other)) (omega arith))
]

no_first : (k n : ℕ) → first_such (λ m. is_node m None) k n ≡ None
unfolding first_such
no_first k zero = refl
no_first k (suc n) = no_first (k + 1) n

first_is : (o : Option ℕ) (count : ℕ) → ((m : ℕ) → o ≡ Some m → m < count) → o ≡ first_such (λ m. is_node m o) 0 count
first_is None count below = sym (no_first 0 count)
first_is (Some j) count below = sym (is_first j 0 count (omega arith) (omega (arith, below j refl)))

-- the guard knows the writer of each sector
pub knows : (flights : List Flight) (guard : List Writer) (s : ℕ) → IsGuarded flights guard → holder s guard ≡ first_such (λ m. any_of_sector s (flight_of flights m).writes) 0 16
knows flights guard s i =
    first_is (holder s guard) 16 (λ m is. below_at flights guard s m i is) ∙ first_such_same (λ m. is_node m (holder s guard)) (λ m. any_of_sector s (flight_of flights m).writes) 0 16 (λ m le lt. sym (i.held m s))

-- there is room for the write of a node that has fewer than sixteen
pub has_room : (flights : List Flight) (guard : List Writer) (n : ℕ) → IsGuarded flights guard → n < 16 → length (flight_of flights n).writes < 16 → length guard < 256
has_room flights guard n i lt fewer =
    let few : (m : ℕ) → count_of m guard ≤ length (flight_of flights m).writes = λ m. pigeons m guard (flight_of flights m).writes i.apart (λ s held. i.held m s ∙ held) in
    room n guard i.apart (λ s m is. below_at flights guard s m i is) (λ m. omega (arith, few m, (i.writes m).few)) lt (omega (arith, few n))

no_writes : (f : Flight) → f.writes ≡ [] → AreWrites f
no_writes f none = record { few = rw none (omega arith); rise = rw none tt; apart = rw none tt }

begin_held : (flights : List Flight) (guard : List Writer) (n s m t : ℕ) (new f : Flight) (w : LiveWrite) → n < length flights → holder s guard ≡ None → f ≡ flight_of flights n → new.writes ≡ f.writes ++ w ∷ [] → w.sector ≡ s
    → any_of_sector t (flight_of flights m).writes ≡ is_node m (holder t guard) → any_of_sector t (flight_of (set flights n new) m).writes ≡ is_node m (holder t (guard ++ writer s n ∷ []))
begin_held flights guard n s m t new f w lt free is e of held = elim (same_or_not m n) [
  | inl same ↦ grind (arith, nat_tests, same, flight-set flights n m new lt, any-push t f.writes w, holder-begin t s n guard free)
  | inr other ↦ grind (arith, nat_tests, other, flight-set flights n m new lt, holder-begin t s n guard free)
]

end_held : (flights : List Flight) (guard : List Writer) (n k m t : ℕ) (new f : Flight) (w : LiveWrite) → n < length flights → AreApart guard → is_node n (holder w.sector guard) ≡ true → f ≡ flight_of flights n
    → write_in k f.writes ≡ Some w → AreWrites f → new.writes ≡ without_write k f.writes
    → any_of_sector t (flight_of flights m).writes ≡ is_node m (holder t guard) → any_of_sector t (flight_of (set flights n new) m).writes ≡ is_node m (holder t (without w.sector n guard))
end_held flights guard n k m t new f w lt apart mine is found was e held = elim (same_or_not t w.sector) [
  | inl same ↦ grind (arith, nat_tests, same, flight-set flights n m new lt, any-ended k f.writes w was.apart found, holder-end t w.sector n guard apart)
  | inr other ↦ grind (arith, nat_tests, other, flight-set flights n m new lt, any-other t k 0 f.writes_made f.writes w was.rise found other, holder-end t w.sector n guard apart)
]

die_held : (flights : List Flight) (guard : List Writer) (n m t : ℕ) (f : Flight) → n < length flights → AreApart guard → f.writes ≡ []
    → any_of_sector t (flight_of flights m).writes ≡ is_node m (holder t guard) → any_of_sector t (flight_of (set flights n f) m).writes ≡ is_node m (holder t (without_node n guard))
die_held flights guard n m t f lt apart none held = elim (same_or_not m n) [
  | inl same ↦ grind (arith, nat_tests, same, flight-set flights n m f lt, holder-die t n guard apart)
  | inr other ↦ grind (arith, nat_tests, other, flight-set flights n m f lt, holder-die t n guard apart)
]

-- A write begins, and ends; a node dies.

pub guarded_begin : (flights : List Flight) (guard : List Writer) (n s : ℕ) (v : Sector) (f : Flight) → n < 16 → IsGuarded flights guard → holder s guard ≡ None → f ≡ flight_of flights n → length f.writes < 16
    → IsGuarded (set flights n (record f { writes = f.writes ++ new_write f.writes_made s v ∷ []; writes_made = f.writes_made + 1 })) (guard ++ writer s n ∷ [])
guarded_begin flights guard n s v f lt i free is fewer =
    let within : n < length flights = omega (arith, i.sixteen) in
    let none : any_of_sector s f.writes ≡ false = rw (is, i.held n s, free) refl in
    let w : LiveWrite = new_write f.writes_made s v in
    let new : Flight = record f { writes = f.writes ++ w ∷ []; writes_made = f.writes_made + 1 } in
    record {
      sixteen = length-set flights n new ∙ i.sixteen;
      writes = writes_set flights n new within i.writes (are_asked f s v (subst AreWrites (sym is) (i.writes n)) fewer none);
      apart = apart-begin s n guard i.apart free;
      held = λ m t. begin_held flights guard n s m t new f w within free is refl refl (i.held m t);
    }

pub guarded_end : (flights : List Flight) (guard : List Writer) (n k : ℕ) (w : LiveWrite) (f : Flight) → n < 16 → IsGuarded flights guard → f ≡ flight_of flights n → write_in k f.writes ≡ Some w
    → IsGuarded (set flights n (record f { writes = without_write k f.writes })) (without w.sector n guard)
guarded_end flights guard n k w f lt i is found =
    let within : n < length flights = omega (arith, i.sixteen) in
    let was : AreWrites f = subst AreWrites (sym is) (i.writes n) in
    let new : Flight = record f { writes = without_write k f.writes } in
    let mine : is_node n (holder w.sector guard) ≡ true = sym (i.held n w.sector) ∙ ap (λ (x : Flight). any_of_sector w.sector x.writes) (sym is) ∙ any-found k f.writes w found in
    record {
      sixteen = length-set flights n new ∙ i.sixteen;
      writes = writes_set flights n new within i.writes (are_ended f k was);
      apart = apart-end w.sector n guard i.apart;
      held = λ m t. end_held flights guard n k m t new f w within i.apart mine is found was refl (i.held m t);
    }

pub guarded_die : (flights : List Flight) (guard : List Writer) (n : ℕ) (f : Flight) → n < 16 → IsGuarded flights guard → f.writes ≡ [] → IsGuarded (set flights n f) (without_node n guard)
guarded_die flights guard n f lt i none =
    let within : n < length flights = omega (arith, i.sixteen) in
    record {
      sixteen = length-set flights n f ∙ i.sixteen;
      writes = writes_set flights n f within i.writes (no_writes f none);
      apart = apart-die n guard i.apart;
      held = λ m t. die_held flights guard n m t f within i.apart none (i.held m t);
    }

-- At the start.

same_at : (count l : ℕ) → flight_of (replicate count no_flight) l ≡ no_flight
same_at zero l = refl
same_at (suc count) zero = refl
same_at (suc count) (suc l) = same_at count l

pub guarded_new : (flights : List Flight) → flights ≡ replicate 16 no_flight → IsGuarded flights []
guarded_new flights is = rw is record {
  sixteen = length-replicate 16 no_flight;
  writes = λ n. rw (same_at 16 n) (no_writes no_flight refl);
  apart = tt;
  held = λ n s. rw (same_at 16 n) refl;
}

pub none_new : {A : Type 0} (part : Flight → A) (flights : List Flight) → flights ≡ replicate 16 no_flight → parts part flights ≡ (λ n. part no_flight)
none_new part flights is = fun_ext (λ n. rw (is, same_at 16 n) refl)

-- The same in the words of calls: a flight that was found, and what it became.

found_at : (flights : List Flight) (guard : List Writer) (n : ℕ) (got : Flight) → n < 16 → IsGuarded flights guard → got ≡ get_or flights n got → got ≡ flight_of flights n
found_at flights guard n got lt i is = is ∙ get_or_default flights n got no_flight (omega (arith, i.sixteen))

pub begun_kept : (flights : List Flight) (guard now : List Writer) (n s : ℕ) (v : Sector) (got new : Flight) → n < 16 → IsGuarded flights guard → holder s guard ≡ None → length (flight_of flights n).writes < 16
    → got ≡ get_or flights n got → now ≡ guard ++ writer s n ∷ [] → new ≡ record got { writes = got.writes ++ new_write got.writes_made s v ∷ []; writes_made = got.writes_made + 1 } → IsGuarded (set flights n new) now
begun_kept flights guard now n s v got new lt i free fewer is writers asked =
    let here = found_at flights guard n got lt i is in
    rw (writers, asked) (guarded_begin flights guard n s v got lt i free here (subst (λ (f : Flight). length f.writes < 16) (sym here) fewer))

pub started_kept : (flights : List Flight) (guard : List Writer) (n k : ℕ) (got new : Flight) → n < 16 → IsGuarded flights guard → got ≡ get_or flights n got
    → new ≡ record got { writes = start_in k got.writes } → IsGuarded (set flights n new) guard
started_kept flights guard n k got new lt i is e =
    let here = found_at flights guard n got lt i is in
    rw e (guarded_same flights guard n _ lt i (are_started got k (subst AreWrites (sym here) (i.writes n))) (λ s. any-start s k got.writes ∙ ap (λ (f : Flight). any_of_sector s f.writes) here))

pub done_kept : (flights : List Flight) (guard : List Writer) (n k l : ℕ) (got new : Flight) → n < 16 → IsGuarded flights guard → got ≡ get_or flights n got
    → new ≡ record got { writes = done_in k l got.writes } → IsGuarded (set flights n new) guard
done_kept flights guard n k l got new lt i is e =
    let here = found_at flights guard n got lt i is in
    rw e (guarded_same flights guard n _ lt i (are_done got k l (subst AreWrites (sym here) (i.writes n))) (λ s. any-done s k l got.writes ∙ ap (λ (f : Flight). any_of_sector s f.writes) here))

pub ended_kept : (flights : List Flight) (guard now : List Writer) (n k : ℕ) (w : LiveWrite) (got new : Flight) → n < 16 → IsGuarded flights guard → got ≡ get_or flights n got
    → write_in k got.writes ≡ Some w → now ≡ without w.sector n guard → new ≡ record got { writes = without_write k got.writes } → IsGuarded (set flights n new) now
ended_kept flights guard now n k w got new lt i is found writers e = rw (writers, e) (guarded_end flights guard n k w got lt i (found_at flights guard n got lt i is) found)

pub died_kept : (flights : List Flight) (guard now : List Writer) (n : ℕ) (new : Flight) → n < 16 → IsGuarded flights guard → new.writes ≡ [] → now ≡ without_node n guard → IsGuarded (set flights n new) now
died_kept flights guard now n new lt i none writers = rw writers (guarded_die flights guard n new lt i none)

-- a write of a sector that nobody holds begins
pub no_error : {A : Type 0} (r : Result A InFlight) (o : Option ℕ) → o ≡ None → MatchResult r (λ x. o ≡ None) (λ e. o ≡ Some e.0) → is_err r ≡ true → ⊥
no_error (Ok x) o free told err = cc
no_error (Err e) o free told err = cc

pub on_ok : {A E : Type 0} (r : Result A E) (P : Type 0) → is_err r ≡ false → OnOk r P → P
on_ok (Ok x) P err told = told
on_ok (Err e) P err told = cc
