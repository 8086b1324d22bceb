-- How nodes come and go: for each guard a state in which just it fails, and what is said then.
use Rattle.std.proofs.Common.{◌≡◌, true, ◌==◌, [], ◌∷◌, refl}
use Rattle.dlm_modes.specs.First.{first_such}
use Rattle.mdc_types.specs.declared.events.Event.TheVariants.{Die, Join, Load, Up, Leave}
use Rattle.mdc_types.specs.declared.refusals.Refusal.TheVariants.{NoNode, Fenced, NotUp, NoLeg, NotPhase, SlotLive, SlotPending, NotLoaded, Stale, Missing, Draining, Reading, Unclean, PageOld}
use Rattle.mdc_types.specs.declared.refusals.Part.TheVariants as parts
use Rattle.mdc_types.specs.declared.refusals.Word.TheVariants as words
use Rattle.mdc_types.specs.declared.roles.NodeState.TheVariants as states
use Rattle.msg_rounds.specs.declared.phases.SenderPhase.TheVariants as senders
use Rattle.cluster_model.specs.Table.{guards}
use Rattle.cluster_model.proofs.Small.{failing, no_members, fenced_members, fresh_bitmap, base, out, tried_but, only_spare, joining, waiting, a_write, a_read, asked_copy}

join_no_node : failing (guards out (Join 9)) ≡ (NoNode 9) ∷ []
unfolding first_such
join_no_node = refl

join_fenced : failing (guards (record out { members = record no_members { pending = λ n. true; dead = λ n. true } }) (Join 0)) ≡ (Fenced 0) ∷ (SlotPending 0) ∷ []
unfolding first_such
join_fenced = refl

join_live : failing (guards (record out { members = record no_members { live = λ n. true } }) (Join 0)) ≡ (SlotLive 0) ∷ []
unfolding first_such
join_live = refl

join_pending : failing (guards (record out { members = record no_members { pending = λ n. true } }) (Join 0)) ≡ (SlotPending 0) ∷ []
unfolding first_such
join_pending = refl

load_fenced : failing (guards (record joining { members = fenced_members }) (Load 0 1)) ≡ (Fenced 0) ∷ []
unfolding first_such
load_fenced = refl

load_no_leg : failing (guards joining (Load 0 5)) ≡ (NoLeg 5) ∷ []
unfolding first_such
load_no_leg = refl

load_up : failing (guards (record joining { state = λ n. states.Up }) (Load 0 1)) ≡ (NotPhase parts.State words.Up) ∷ []
unfolding first_such
load_up = refl

load_without_token : failing (guards (record joining { sender = λ n. senders.TokenAsked }) (Load 0 1)) ≡ (NotPhase parts.Sender words.TokenAsked) ∷ []
unfolding first_such
load_without_token = refl

up_loaded : failing (guards (record joining { state = λ n. states.Loaded }) (Up 0)) ≡ (NotPhase parts.State words.Loaded) ∷ []
unfolding first_such
up_loaded = refl

up_without_token : failing (guards (record joining { sender = λ n. senders.TokenAsked }) (Up 0)) ≡ (NotPhase parts.Sender words.TokenAsked) ∷ []
unfolding first_such
up_without_token = refl

up_not_loaded : failing (guards (record joining { tried = λ n l. tried_but 2 l }) (Up 0)) ≡ (NotLoaded 2) ∷ []
unfolding first_such
up_not_loaded = refl

up_stale : failing (guards (record joining { members = record joining.members { completed = 4 } }) (Up 0)) ≡ (Stale 3 4) ∷ []
unfolding first_such
up_stale = refl

up_missing : failing (guards (record joining { tried = λ n l. only_spare l }) (Up 0)) ≡ (Missing 0) ∷ []
unfolding first_such
up_missing = refl

leave_not_up : failing (guards (record base { state = λ n. states.Loaded }) (Leave 0)) ≡ (NotPhase parts.State words.Loaded) ∷ []
unfolding first_such
leave_not_up = refl

leave_sending : failing (guards (record base { sender = λ n. senders.TokenAsked }) (Leave 0)) ≡ (NotPhase parts.Sender words.TokenAsked) ∷ []
unfolding first_such
leave_sending = refl

leave_receiving : failing (guards (record base { receiver = λ n. waiting }) (Leave 0)) ≡ (NotPhase parts.Receiver words.Waiting) ∷ []
unfolding first_such
leave_receiving = refl

leave_copying : failing (guards (record base { copy = λ n. asked_copy }) (Leave 0)) ≡ (NotPhase parts.Copy words.Asked) ∷ []
unfolding first_such
leave_copying = refl

leave_draining : failing (guards (record base { writes = λ n. a_write ∷ [] }) (Leave 0)) ≡ (Draining 7) ∷ []
unfolding first_such
leave_draining = refl

leave_reading : failing (guards (record base { reads = λ n. a_read ∷ [] }) (Leave 0)) ≡ (Reading 5) ∷ []
unfolding first_such
leave_reading = refl

leave_unclean : failing (guards (record base { bitmap = λ n. record fresh_bitmap { set = λ c. c == 2 } }) (Leave 0)) ≡ (Unclean 2) ∷ []
unfolding first_such
leave_unclean = refl

leave_old : failing (guards (record base { bitmap = λ n. record fresh_bitmap { fresh = λ p l. l == 0 } }) (Leave 0)) ≡ (PageOld 1) ∷ []
unfolding first_such
leave_old = refl

die_no_node : failing (guards base (Die 9)) ≡ (NoNode 9) ∷ []
unfolding first_such
die_no_node = refl

die_fenced : failing (guards (record base { members = fenced_members }) (Die 0)) ≡ (Fenced 0) ∷ []
unfolding first_such
die_fenced = refl

die_out : failing (guards (record base { state = λ n. states.Out }) (Die 0)) ≡ (NotUp 0) ∷ []
unfolding first_such
die_out = refl
