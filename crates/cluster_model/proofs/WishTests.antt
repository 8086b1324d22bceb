-- Wishes: for each guard a state in which just it fails, and what is said then.
use Rattle.std.proofs.Common.{◌≡◌, true, false, ◌==◌, [], ◌∷◌, refl}
use Rattle.std.specs.Prelude.{◌^◌}
use Rattle.dlm_modes.specs.First.{first_such}
use Rattle.mdc_types.specs.declared.events.Event.TheVariants.{Offer}
use Rattle.mdc_types.specs.declared.refusals.Refusal.TheVariants.{NoLeg, NotPhase, NoSector, NotNeeded, Unacked, NotRole, NotCopied, Pending, PathCut, Draining, Reading, Degraded, NoEvents, NoSize}
use Rattle.mdc_types.specs.declared.refusals.Part.TheVariants as parts
use Rattle.mdc_types.specs.declared.refusals.Word.TheVariants as words
use Rattle.mdc_types.specs.declared.roles.NodeState.TheVariants as states
use Rattle.mdc_types.specs.declared.roles.Role.TheVariants as roles
use Rattle.mdc_types.specs.declared.events.Wish.TheVariants as wishes
use Rattle.msg_rounds.specs.declared.phases.SenderPhase.TheVariants as senders
use Rattle.disk_addition.specs.declared.addition.Addition.TheVariants.{Announced, Removing, ReAdd}
use Rattle.cluster_model.specs.Table.{guards}
use Rattle.cluster_model.proofs.Small.{failing, calls_leg, lost_with, lost_and_faulty, all_faulty, faulty_and_rebuilding, up_members, last_members, sends, sends_with, lost_legs, a_range, adds, a_write, a_read, asked_copy, works_now}

loaded : failing (guards (record (sends senders.MessageHeld) { state = λ n. states.Loaded }) (Offer 0 (wishes.Remove 3))) ≡ (NotPhase parts.State words.Loaded) ∷ (NoLeg 3) ∷ (NotRole 3 roles.Spare) ∷ []
unfolding first_such
loaded = refl

early : failing (guards (record (lost_legs 1) { sender = λ n. senders.TokenHeld }) (Offer 0 wishes.Meta)) ≡ (NotPhase parts.Sender words.TokenHeld) ∷ []
unfolding first_such
early = refl

meta_not_needed : failing (guards (sends senders.MessageHeld) (Offer 0 wishes.Meta)) ≡ NotNeeded ∷ []
unfolding first_such
meta_not_needed = refl

meta_no_events : failing (guards (record (lost_legs 1) { members = last_members }) (Offer 0 wishes.Meta)) ≡ (NoEvents (2 ^ 63)) ∷ []
unfolding first_such
meta_no_events = refl

spare_unacked : failing (guards (record (lost_legs 1) { view = λ n. lost_and_faulty; adding = λ n. adds (Removing 2) }) (Offer 0 (wishes.Spare 2))) ≡ (Unacked 1) ∷ []
unfolding first_such
spare_unacked = refl

spare_nothing : failing (guards (sends_with (calls_leg roles.Faulty)) (Offer 0 (wishes.Spare 2))) ≡ (NotPhase parts.Addition words.Nothing) ∷ []
unfolding first_such
spare_nothing = refl

spare_not_faulty : failing (guards (record (sends senders.MessageHeld) { adding = λ n. adds (Removing 2) }) (Offer 0 (wishes.Spare 2))) ≡ (NotRole 2 roles.Spare) ∷ []
unfolding first_such
spare_not_faulty = refl

spare_no_leg : failing (guards (record (sends senders.MessageHeld) { adding = λ n. adds (Removing 5); view = λ n. all_faulty }) (Offer 0 (wishes.Spare 5))) ≡ (NoLeg 5) ∷ []
unfolding first_such
spare_no_leg = refl

rebuild_without_lock : failing (guards (record (sends senders.MessageHeld) { adding = λ n. adds (Announced 2) }) (Offer 0 (wishes.Rebuild 2))) ≡ (NotPhase parts.Addition words.Announced) ∷ []
unfolding first_such
rebuild_without_lock = refl

rebuild_not_spare : failing (guards (record (sends_with (calls_leg roles.Rebuilding)) { adding = λ n. adds (ReAdd 2) }) (Offer 0 (wishes.Rebuild 2))) ≡ (NotRole 2 roles.Rebuilding) ∷ []
unfolding first_such
rebuild_not_spare = refl

work_pending : failing (guards (record (works_now true) { members = record up_members { pending = λ n. n == 3 } }) (Offer 0 (wishes.Work 2))) ≡ (Pending 3) ∷ []
unfolding first_such
work_pending = refl

work_not_rebuilding : failing (guards (record (works_now true) { view = λ n. calls_leg roles.Spare }) (Offer 0 (wishes.Work 2))) ≡ (NotRole 2 roles.Spare) ∷ []
unfolding first_such
work_not_rebuilding = refl

work_degraded : failing (guards (record (works_now true) { view = λ n. faulty_and_rebuilding }) (Offer 0 (wishes.Work 2))) ≡ (Degraded 1) ∷ []
unfolding first_such
work_degraded = refl

work_not_copied : failing (guards (works_now false) (Offer 0 (wishes.Work 2))) ≡ (NotCopied 2) ∷ []
unfolding first_such
work_not_copied = refl

work_no_events : failing (guards (record (works_now true) { members = last_members }) (Offer 0 (wishes.Work 2))) ≡ (NoEvents (2 ^ 63)) ∷ []
unfolding first_such
work_no_events = refl

range_without_pass : failing (guards (sends senders.MessageHeld) (Offer 0 (wishes.Range a_range))) ≡ (NotPhase parts.Copy words.Nothing) ∷ []
unfolding first_such
range_without_pass = refl

range_unaligned : failing (guards (works_now true) (Offer 0 (wishes.Range (record { lo = 3; hi = 8 })))) ≡ (NoSector 3) ∷ []
unfolding first_such
range_unaligned = refl

range_draining : failing (guards (record (works_now true) { writes = λ n. a_write ∷ [] }) (Offer 0 (wishes.Range a_range))) ≡ (Draining 7) ∷ []
unfolding first_such
range_draining = refl

newdisk_not_spare : failing (guards (sends_with (calls_leg roles.Faulty)) (Offer 0 (wishes.NewDisk 2))) ≡ (NotRole 2 roles.Faulty) ∷ []
unfolding first_such
newdisk_not_spare = refl

newdisk_cut : failing (guards (record (sends senders.MessageHeld) { cut = λ n l. true }) (Offer 0 (wishes.NewDisk 2))) ≡ (PathCut 2) ∷ []
unfolding first_such
newdisk_cut = refl

remove_not_faulty : failing (guards (sends senders.MessageHeld) (Offer 0 (wishes.Remove 2))) ≡ (NotRole 2 roles.Spare) ∷ []
unfolding first_such
remove_not_faulty = refl

readd_not_faulty : failing (guards (sends senders.MessageHeld) (Offer 0 (wishes.ReAdd 2))) ≡ (NotRole 2 roles.Spare) ∷ []
unfolding first_such
readd_not_faulty = refl

readd_cut : failing (guards (record (sends_with (calls_leg roles.Faulty)) { cut = λ n l. true }) (Offer 0 (wishes.ReAdd 2))) ≡ (PathCut 2) ∷ []
unfolding first_such
readd_cut = refl

unclean_copying : failing (guards (record (sends senders.MessageHeld) { copy = λ n. asked_copy }) (Offer 0 wishes.Unclean)) ≡ (NotPhase parts.Copy words.Asked) ∷ []
unfolding first_such
unclean_copying = refl

unclean_draining : failing (guards (record (sends senders.MessageHeld) { writes = λ n. a_write ∷ [] }) (Offer 0 wishes.Unclean)) ≡ (Draining 7) ∷ []
unfolding first_such
unclean_draining = refl

unclean_reading : failing (guards (record (sends senders.MessageHeld) { reads = λ n. a_read ∷ [] }) (Offer 0 wishes.Unclean)) ≡ (Reading 5) ∷ []
unfolding first_such
unclean_reading = refl

grow_too_far : failing (guards (sends senders.MessageHeld) (Offer 0 (wishes.Grow 17))) ≡ (NoSize 17) ∷ []
unfolding first_such
grow_too_far = refl

grow_no_more : failing (guards (sends senders.MessageHeld) (Offer 0 (wishes.Grow 12))) ≡ (NoSize 12) ∷ []
unfolding first_such
grow_no_more = refl

spare_no_events : failing (guards (record (sends_with (calls_leg roles.Faulty)) { adding = λ n. adds (Removing 2); members = last_members }) (Offer 0 (wishes.Spare 2))) ≡ (NoEvents (2 ^ 63)) ∷ []
unfolding first_such
spare_no_events = refl

rebuild_unacked : failing (guards (record (sends_with lost_and_faulty) { adding = λ n. adds (ReAdd 2) }) (Offer 0 (wishes.Rebuild 2))) ≡ (Unacked 1) ∷ []
unfolding first_such
rebuild_unacked = refl

rebuild_no_leg : failing (guards (record (sends_with all_faulty) { adding = λ n. adds (ReAdd 5) }) (Offer 0 (wishes.Rebuild 5))) ≡ (NoLeg 5) ∷ []
unfolding first_such
rebuild_no_leg = refl

rebuild_no_events : failing (guards (record (sends_with (calls_leg roles.Faulty)) { adding = λ n. adds (ReAdd 2); members = last_members }) (Offer 0 (wishes.Rebuild 2))) ≡ (NoEvents (2 ^ 63)) ∷ []
unfolding first_such
rebuild_no_events = refl

work_unacked : failing (guards (record (works_now true) { view = λ n. lost_with roles.Rebuilding }) (Offer 0 (wishes.Work 2))) ≡ (Unacked 1) ∷ []
unfolding first_such
work_unacked = refl

work_no_leg : failing (guards (works_now true) (Offer 0 (wishes.Work 5))) ≡ (NoLeg 5) ∷ (NotRole 5 roles.Spare) ∷ (NotCopied 5) ∷ []
unfolding first_such
work_no_leg = refl

range_unacked : failing (guards (record (works_now true) { view = λ n. lost_with roles.Rebuilding }) (Offer 0 (wishes.Range a_range))) ≡ (Unacked 1) ∷ []
unfolding first_such
range_unacked = refl

newdisk_unacked : failing (guards (sends_with (lost_with roles.Spare)) (Offer 0 (wishes.NewDisk 2))) ≡ (Unacked 1) ∷ []
unfolding first_such
newdisk_unacked = refl

newdisk_no_leg : failing (guards (sends senders.MessageHeld) (Offer 0 (wishes.NewDisk 5))) ≡ (NoLeg 5) ∷ []
unfolding first_such
newdisk_no_leg = refl

remove_unacked : failing (guards (sends_with lost_and_faulty) (Offer 0 (wishes.Remove 2))) ≡ (Unacked 1) ∷ []
unfolding first_such
remove_unacked = refl

remove_no_leg : failing (guards (sends_with all_faulty) (Offer 0 (wishes.Remove 5))) ≡ (NoLeg 5) ∷ []
unfolding first_such
remove_no_leg = refl

readd_unacked : failing (guards (sends_with lost_and_faulty) (Offer 0 (wishes.ReAdd 2))) ≡ (Unacked 1) ∷ []
unfolding first_such
readd_unacked = refl

readd_no_leg : failing (guards (sends_with all_faulty) (Offer 0 (wishes.ReAdd 5))) ≡ (NoLeg 5) ∷ []
unfolding first_such
readd_no_leg = refl

grow_unacked : failing (guards (sends_with (lost_with roles.Spare)) (Offer 0 (wishes.Grow 14))) ≡ (Unacked 1) ∷ []
unfolding first_such
grow_unacked = refl

grow_no_events : failing (guards (record (sends senders.MessageHeld) { members = last_members }) (Offer 0 (wishes.Grow 14))) ≡ (NoEvents (2 ^ 63)) ∷ []
unfolding first_such
grow_no_events = refl
