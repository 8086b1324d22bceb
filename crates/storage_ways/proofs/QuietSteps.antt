-- The way of each event that transfers nothing.
use Rattle.std.proofs.Common.{◌≡◌, ℕ, suc, Bool, true, false, Option, Some, None, refl, sym, ap, subst, arith}
use Rattle.mdc_types.specs.declared.events.Event.{Event}
use Rattle.mdc_types.specs.declared.events.Event.TheVariants as events
use Rattle.mdc_types.specs.declared.outcomes.Outcome.{Outcome}
use Rattle.mdc_types.specs.declared.outcomes.Outcome.TheVariants as outcomes
use Rattle.mirror_io.specs.Flight.{write_in}
use Rattle.mirror_io.specs.declared.live.LiveWrite.{LiveWrite}
use Rattle.plain_history.specs.History.{PlainWrite, values_step, with_end}
use Rattle.resync_worker.specs.declared.buffer.Buffer.{Buffer}
use Rattle.cluster_model.specs.State.{State, Core, Legs}
use Rattle.cluster_model.specs.After.{after, done}
use Rattle.cluster_model.specs.Copying.{buffer_of, settle, settled_with}
use Rattle.cluster_model.specs.Outcomes.{outcome_of}
use Rattle.cluster_model.specs.Run.{Moves}
use Rattle.cluster_model.specs.Table.{refusal}
use Rattle.cluster_model.specs.Transfers.{transfer_of}
use Rattle.cluster_model.specs.Writes.{end_write, break_write}
use Rattle.laws_roles.proofs.Parts as roles
use Rattle.storage_ways.specs.Since.{since_step}
use Rattle.storage_ways.specs.Broken.{broken_by, decided_by, broken_step}
use Rattle.storage_ways.proofs.Flying.{flying, plain_of}
use Rattle.storage_ways.proofs.Parts.{decided_values, decided_there, settled_there}
use Rattle.storage_ways.proofs.Place.{Around, here, Place, sound_of}
use Rattle.storage_ways.proofs.Moving.{Traced, around, next, quiet_of, quiet_well, done_when}
use Rattle.storage_ways.proofs.BitmapRows.{clear_way}
use Rattle.storage_ways.proofs.ComingRows.{join_way, up_way}
use Rattle.storage_ways.proofs.CopyRows.{resync_way, end_pass_way, own_way, full_way, again_way}
use Rattle.storage_ways.proofs.SectorRows.{settle_way, settled}
use Rattle.storage_ways.proofs.FinishRows.{finish_way}
use Rattle.storage_ways.proofs.GoingRows.{leave_way, die_way, quit_way}
use Rattle.storage_ways.proofs.GrantRows.{granted_way, token_way, message_asked_way}
use Rattle.storage_ways.proofs.OfferRows.{offer_way}
use Rattle.storage_ways.proofs.ReceivingRows.{process_way, resume_way, drop_way}
use Rattle.storage_ways.proofs.RecoveryRows.{recover_way, recovered_way}
use Rattle.storage_ways.proofs.RequestRows.{ask_way, end_way, ended, Broken, broken, break_way}
use Rattle.storage_ways.proofs.RoundRows.{publish_way, take_way}
use Rattle.storage_ways.proofs.Blocks.{retold, told_high}
use Rattle.storage_ways.proofs.Ways.{Way, Ways, one, still}

-- the event transfers a sector
abbrev pub has_transfer : Event → Bool
has_transfer (events.Load n l) = true
has_transfer (events.WriteSuper n l) = true
has_transfer (events.WritePage n p l) = true
has_transfer (events.Out n k l) = true
has_transfer (events.In n k) = true
has_transfer (events.Gather n) = true
has_transfer (events.CopyIn n) = true
has_transfer (events.CopyOut n l) = true
has_transfer (events.SlotIn n p l) = true
has_transfer (events.SlotOut n p l) = true
has_transfer e = false

no_transfer : (core : Core) (e : Event) → has_transfer e ≡ false → transfer_of core e ≡ None
no_transfer core (events.Load n l) q = cc
no_transfer core (events.WriteSuper n l) q = cc
no_transfer core (events.WritePage n p l) q = cc
no_transfer core (events.Out n k l) q = cc
no_transfer core (events.In n k) q = cc
no_transfer core (events.Gather n) q = cc
no_transfer core (events.CopyIn n) q = cc
no_transfer core (events.CopyOut n l) q = cc
no_transfer core (events.SlotIn n p l) q = cc
no_transfer core (events.SlotOut n p l) q = cc
no_transfer core e q = refl

module _ (old : State) (g : roles.Ghost) (vs : Traced) (p : Place old.core (around old.core old.legs g vs)) where
  abbrev pub A : Around
  A = around old.core old.legs g vs

  abbrev Done : Event → Type 0
  Done e = Way (here old.core A) (here (done old.core e (outcome_of old.core e)) (next old g vs e (outcome_of old.core e) old.legs))

  ended_values : (n k : ℕ) (x : LiveWrite) → write_in k (old.core.writes n) ≡ Some x → Way (here old.core A) (here (end_write old.core n k) (record A { values = decided_values vs.values x.sector x.value; broken = decided_there vs.broken x.sector })) → Done (events.EndWrite n k)
  ended_values n k x found w = subst (λ (y : Option PlainWrite). Way (here old.core A) (here (end_write old.core n k) (record A { values = λ s. with_end y s (vs.values s); broken = λ m s. decided_by y vs.broken m s }))) (sym (ap plain_of found)) w

  settled_values : (n : ℕ) (b : Buffer) → buffer_of old.core n ≡ Some b → Way (here old.core A) (here (settle old.core n) (record A { values = decided_values vs.values b.sector b.value; broken = decided_there vs.broken b.sector; since = settled_there vs.since b.sector; moments = suc vs.moments })) → Done (events.Settle n)
  settled_values n b is w = subst (λ y. Way (here old.core A) (here (settle old.core n) (record A { values = values_step (events.Settle n) (settled_with y) (flying old.core.writes) vs.values; broken = broken_step (events.Settle n) (settled_with y) (flying old.core.writes) vs.broken; since = since_step (events.Settle n) (settled_with y) vs.since; moments = suc vs.moments }))) (sym is) w

  broken_values : (n k : ℕ) (b : Broken old.core n k) → Done (events.BreakWrite n k)
  broken_values n k b = subst (λ (y : Option PlainWrite). Way (here old.core A) (here (break_write old.core n k) (record A { broken = λ m s. broken_by n y vs.broken m s }))) (sym (ap plain_of b.found)) (break_way old.core A n k b)

  done_way : (e : Event) → has_transfer e ≡ false → refusal old.core e ≡ None → Done e
  done_way (events.Cut n l) q ok = still
  done_way (events.Mend n l) q ok = still
  done_way (events.Die n) q ok = die_way old.core A p n ok
  done_way (events.Grant res) q ok = granted_way old.core A p res ok
  done_way (events.Join n) q ok = join_way old.core A p n ok
  done_way (events.Load n l) q ok = cc
  done_way (events.Up n) q ok = up_way old.core A p n ok
  done_way (events.Leave n) q ok = leave_way old.core A p n ok
  done_way (events.AskToken n) q ok = token_way old.core A p n ok
  done_way (events.AskMessage n) q ok = message_asked_way old.core A p n ok
  done_way (events.Offer n wish) q ok = offer_way old.core A p n wish ok
  done_way (events.WriteSuper n l) q ok = cc
  done_way (events.Publish n) q ok = publish_way old.core A p n ok
  done_way (events.FinishRound n) q ok = finish_way old.core A p n ok
  done_way (events.Quit n) q ok = quit_way old.core A p n ok
  done_way (events.Take n) q ok = take_way old.core A p n ok
  done_way (events.Processed n) q ok = process_way old.core A p n ok
  done_way (events.Resume n) q ok = resume_way old.core A p n ok
  done_way (events.DropMessage n) q ok = drop_way old.core A p n ok
  done_way (events.AskWrite n s v) q ok = ask_way old.core A p n s v ok
  done_way (events.WritePage n c l) q ok = cc
  done_way (events.Out n k l) q ok = cc
  done_way (events.EndWrite n k) q ok = let e = ended old.core A p n k ok in ended_values n k e.write e.finishing.ending.write (end_way old.core A p n k e)
  done_way (events.BreakWrite n k) q ok = broken_values n k (broken old.core A p n k ok)
  done_way (events.AskRead n s) q ok = still
  done_way (events.In n k) q ok = cc
  done_way (events.Clear n c) q ok = clear_way old.core A p n c ok
  done_way (events.AskResync n) q ok = resync_way old.core A p n ok
  done_way (events.Gather n) q ok = cc
  done_way (events.PassOwn n) q ok = own_way old.core A p n ok
  done_way (events.PassFull n) q ok = full_way old.core A p n ok
  done_way (events.PassAgain n l) q ok = again_way old.core A p n l ok
  done_way (events.CopyIn n) q ok = cc
  done_way (events.CopyOut n l) q ok = cc
  done_way (events.Settle n) q ok = let s = settled old.core A p n ok in settled_values n s.it.buffer s.it.of (settle_way old.core A p n s)
  done_way (events.EndPass n) q ok = end_pass_way old.core A p n ok
  done_way (events.Recover n d) q ok = recover_way old.core A p n d ok
  done_way (events.SlotIn n c l) q ok = cc
  done_way (events.SlotOut n c l) q ok = cc
  done_way (events.Recovered n) q ok = recovered_way old.core A p n ok
  done_way (events.LockDevice n) q ok = retold (here old.core A) (done old.core (events.LockDevice n) outcomes.Done) A _ (told_high old.core.locks _ _ (omega arith)) still

  -- one way alone
  pub quiet_way : (e : Event) (o : Outcome) (new : Legs) → has_transfer e ≡ false → refusal old.core e ≡ None → Moves old e o new → Way (here old.core A) (here (after old.core e o) (next old g vs e o new))
  quiet_way e o new q ok m =
      let is = quiet_of old e o new (no_transfer old.core e q) m in
      subst (λ x. Way (here old.core A) (here (after old.core e x) (next old g vs e x new))) (sym is.is)
      (subst (λ x. Way (here old.core A) (here (after old.core e (outcome_of old.core e)) (next old g vs e (outcome_of old.core e) x))) (sym is.legs)
      (subst (λ c. Way (here old.core A) (here c (next old g vs e (outcome_of old.core e) old.legs))) (sym (done_when old.core e (outcome_of old.core e) (quiet_well old.core e)))
      (done_way e q ok)))

  pub quiet_ways : (e : Event) (o : Outcome) (new : Legs) → has_transfer e ≡ false → refusal old.core e ≡ None → Moves old e o new → Ways (here old.core A) (here (after old.core e o) (next old g vs e o new))
  quiet_ways e o new q ok m = one (sound_of old.core A p) (quiet_way e o new q ok m)
