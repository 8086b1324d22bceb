-- The promises, by the laws of all runs.
use Rattle.std.proofs.Common.{List, ◌++◌, subst, ◌∙◌}
use Rattle.mdc_types.specs.declared.outcomes.Entry.{Entry}
use Rattle.plain_history.specs.History.{candidates, values_at}
use Rattle.cluster_model.specs.State.{State}
use Rattle.cluster_model.specs.Contents.{SoundOpening}
use Rattle.cluster_model.specs.Opening.{Origin}
use Rattle.cluster_model.specs.Run.{Run}
use Rattle.laws_locks.specs.Going.{OpenRoundsGoOn}
use Rattle.laws_locks.specs.Laws.{CallsAreMade, RoundsFollow}
use Rattle.laws_roles.specs.Laws.{Tells}
use Rattle.laws_roles.proofs.Promises.{runs_are_shut, runs_keep_the_size, runs_have_superblocks, runs_leave_a_leg}
use Rattle.laws_writes.proofs.Promises.{runs_keep_the_intent}
use Rattle.laws_recovery.proofs.Promises.{runs_are_legal, runs_serve_no_stale_leg}
use Rattle.laws_recovery.proofs.Promises.{runs_mark_what_is_missed, runs_rebuild}
use Rattle.laws_pending.proofs.Whole.{runs_recover_equal}
use Rattle.laws_history.proofs.Places.{runs_cut, legs_tell}
use Rattle.laws_promises.specs.Promises.{Promises}
use Rattle.laws_promises.proofs.Pages.{runs_keep_pages}
use Rattle.laws_promises.specs.Laws.{AtPlace, Promised, RunsKeepTheirPromises}

module _ (o : Origin) (start : State) (sound : SoundOpening o start) (tells : Tells o start) where
  promises_at : (here : State) (past : List Entry) → Run start past here
      → Promises (candidates (values_at o.base) past) start past here
  promises_at here past run = record {
    fresh = runs_serve_no_stale_leg o start here past sound tells run;
    shut = runs_are_shut o start here past sound.opens tells run;
    intent = runs_keep_the_intent o start here past sound tells run;
    missed = runs_mark_what_is_missed o start here past sound tells run;
    promoted = (runs_rebuild o start here past sound tells run).promoted;
    recovered = runs_recover_equal o start here past sound tells run;
    size = (runs_keep_the_size o start here past sound.opens tells run).size;
  }

  place_of : (end : State) (before later : List Entry) → Run start (later ++ before) end
      → AtPlace o start before later end
  place_of end before later run =
      let place = runs_cut start before later end run in
      record {
        place = place;
        told = λ l lt. legs_tell start before place.state place.before l ∙ tells.legs l lt;
        promises = promises_at place.state before place.before;
      }

  pub promised : (end : State) (past : List Entry) → Run start past end → Promised o start past end
  promised end past run = record {
    legal = runs_are_legal o start end past sound tells run;
    places = λ before later is. place_of end before later (subst (λ p. Run start p end) is run);
  }

pub keep_promises : CallsAreMade → RoundsFollow → OpenRoundsGoOn → RunsKeepTheirPromises
keep_promises calls rounds goes_on o start end past opens run = record {
  locks = calls o start end past opens.origin opens.core run;
  rounds = rounds o start end past opens.origin opens.core run;
  goes_on = goes_on o start end past opens.origin opens.core run;
  leg = runs_leave_a_leg o start end past opens run;
  told = λ tells. record {
    shut = runs_are_shut o start end past opens tells run;
    supers = runs_have_superblocks o start end past opens tells run;
    pages = runs_keep_pages o start end past opens tells run;
  };
  sound = λ sound tells. promised o start sound tells end past run;
}
