-- What nodes want in small states.
use Rattle.std.proofs.Common.{◌≡◌, Some, None, refl}
use Rattle.dlm_modes.specs.First.{first_such}
use Rattle.mdc_types.specs.declared.events.Wish.TheVariants as wishes
use Rattle.mdc_types.specs.declared.roles.Role.TheVariants as roles
use Rattle.mdc_types.specs.declared.roles.NodeState.TheVariants as states
use Rattle.msg_rounds.specs.declared.phases.SenderPhase.TheVariants as senders
use Rattle.cluster_model.proofs.Small.{base, calls_leg, unacked_view, joining, sends}
use Rattle.mdc_types.specs.declared.events.Event.TheVariants.{AskToken, Quit}
use Rattle.driver_rules.specs.Wants.{want}
use Rattle.driver_rules.specs.Lines.{asking, sending}

-- a spare leg is to come in, for the least member alone
least_wants_the_spare : want base 0 ≡ Some (wishes.NewDisk 2)
unfolding first_such
least_wants_the_spare = refl

others_want_nothing : want base 1 ≡ None
unfolding first_such
others_want_nothing = refl

-- a faulty leg is to go
faulty_goes : want (record base { view = λ n. calls_leg roles.Faulty }) 0 ≡ Some (wishes.Remove 2)
unfolding first_such
faulty_goes = refl

-- a lost leg is to be told first, by each node
lost_is_told : want (record base { view = λ n. unacked_view }) 1 ≡ Some wishes.Meta
unfolding first_such
lost_is_told = refl

loaded_tells : want (record base { state = λ n. states.Loaded }) 1 ≡ Some wishes.Meta
unfolding first_such
loaded_tells = refl

joiners_want_nothing : want joining 0 ≡ None
unfolding first_such
joiners_want_nothing = refl

-- the token is asked for a want, and given up without one
wants_the_token : asking base 0 ≡ Some (AskToken 0)
unfolding first_such
wants_the_token = refl

gives_the_token_up : asking (sends senders.TokenHeld) 1 ≡ Some (Quit 1)
unfolding first_such
gives_the_token_up = refl

gives_the_message_up : sending (sends senders.MessageHeld) 1 ≡ Some (Quit 1)
unfolding first_such
gives_the_message_up = refl
