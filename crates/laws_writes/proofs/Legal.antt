-- Writes are asked where no other is live, and end after their start while they are live.
use Rattle.std.proofs.Common.{◌≡◌, ◌≢◌, ℕ, ◌==◌, ◌&&◌, not, Bool, true, false, List, Option, Some, None, refl, ap, ◌∙◌, arith}
use Rattle.std.proofs.lemmas.Bool.Decides.{nat_tests}
use Rattle.mdc_types.specs.Roles.{is_working, is_written}
use Rattle.mdc_types.specs.declared.events.Event.{Event}
use Rattle.mdc_types.specs.declared.events.Event.TheVariants as events
use Rattle.mdc_types.specs.declared.numbers.Sector.{Sector}
use Rattle.mdc_types.specs.declared.outcomes.Outcome.{Outcome}
use Rattle.mdc_types.specs.declared.roles.Role.{Role}
use Rattle.mirror_io.specs.Flight.{write_in}
use Rattle.mirror_io.specs.declared.live.LiveWrite.{LiveWrite}
use Rattle.plain_history.specs.History.{PlainWrite, HasBegun, IsFree, LegalEntry}
use Rattle.cluster_model.specs.State.{Core}
use Rattle.cluster_model.specs.Table.{refusal}
use Rattle.storage_ways.proofs.Parts.{read_leg, done_there, has_started}
use Rattle.storage_ways.proofs.Place.{Around, here, Place, sound_of}
use Rattle.storage_ways.proofs.Flying.{plain_of, flying}
use Rattle.storage_ways.proofs.RequestRows.{asking, ended}
use Rattle.laws_writes.specs.Laws.{IsOfWrites}
use Rattle.laws_writes.proofs.Ghosts.{Ghost}
use Rattle.laws_writes.proofs.Contents.{Contents}
use Rattle.laws_writes.proofs.Heirs.{up_inside}

works_target : (working written lost : Bool) → (working ≡ true → written ≡ true) → (working && not lost) ≡ true → (written && not lost) ≡ true
works_target working written lost h e = grind arith

working_written : (r : Role) → is_working r ≡ true → is_written r ≡ true
working_written r e = grind arith

begun_so : (x : Option LiveWrite) (w : LiveWrite) → x ≡ Some w → has_started x ≡ true → HasBegun (plain_of x)
begun_so None w is e = cc
begun_so (Some x) w is e = e

other_sector : (x : Option LiveWrite) (s : ℕ) (w : PlainWrite) → plain_of x ≡ Some w → ((y : LiveWrite) → x ≡ Some y → (y.sector == s) ≡ false) → w.sector ≢ s
other_sector None s w is free = cc
other_sector (Some y) s w is free =
    let apart = free y refl in
    let same : y.sector ≡ w.sector = ap sector_in is in
    grind (arith, nat_tests)
  where
    sector_in : Option PlainWrite → ℕ
    sector_in None = 0
    sector_in (Some z) = z.sector

module _ (core : Core) (a : Around) (p : Place core a) (g : Ghost) (c : Contents (here core a) g) where
  pub ask_free : (n s : ℕ) (v : Sector) → refusal core (events.AskWrite n s v) ≡ None → IsFree (flying core.writes) s
  ask_free n s v ok m j w is = other_sector (write_in j (core.writes m)) s w is (λ y there. (asking core a p n s v ok).alone m j y there)

  pub end_begun : (n k : ℕ) → refusal core (events.EndWrite n k) ≡ None → HasBegun (flying core.writes n k)
  end_begun n k ok =
      let e = ended core a p n k ok in
      let s = sound_of core a p in
      let l = read_leg (here core a) n in
      let there = s.serves n (up_inside (core.state n) e.finishing.ending.up) in
      let target = works_target (is_working ((core.view n).role l)) (is_written ((core.view n).role l)) ((core.view n).lost l) (working_written ((core.view n).role l)) there in
      let done = e.finishing.done l target in
      let found = e.finishing.ending.write in
      begun_so (write_in k (core.writes n)) e.write found (c.done_started n k l (ap (λ x. done_there x l) found ∙ done))

  pub write_legal : (e : Event) (o : Outcome) (reads : ℕ → ℕ → Option ℕ) (values : ℕ → List Sector) → IsOfWrites e → refusal core e ≡ None → LegalEntry (flying core.writes) reads values e o
  write_legal (events.AskWrite n s v) o reads values of ok = ask_free n s v ok
  write_legal (events.EndWrite n k) o reads values of ok = end_begun n k ok
  write_legal e o reads values of ok = elim of [ ]
