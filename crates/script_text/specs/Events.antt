-- The lines of events.
use Rattle.std.specs.Prelude.{ℕ, if◌then◌else◌, List, [], ◌∷◌, codes, Option, Some, None, Result, Ok, Err, ok_or}
use Rattle.std.specs.Str.{bytes_eq}
use Rattle.mdc_types.specs.declared.events.Event.{Event}
use Rattle.mdc_types.specs.declared.events.Event.TheVariants as events
use Rattle.mdc_types.specs.declared.events.Wish.{Wish}
use Rattle.mdc_types.specs.declared.events.Wish.TheVariants.{Meta, Spare, Rebuild, Work, Range, NewDisk, Remove, ReAdd, Unclean, Grow}
use Rattle.script_text.specs.declared.faults.FaultKind.{FaultKind}
use Rattle.script_text.specs.declared.faults.FaultKind.TheVariants.{Word, Count}
use Rattle.script_text.specs.declared.events.EventWord.{EventWord}
use Rattle.script_text.specs.declared.events.EventWord.TheVariants as words
use Rattle.script_text.specs.declared.events.NodeWord.{NodeWord}
use Rattle.script_text.specs.declared.events.NodeWord.TheVariants as of_node
use Rattle.script_text.specs.declared.events.NodeLegWord.{NodeLegWord}
use Rattle.script_text.specs.declared.events.NodeLegWord.TheVariants as of_node_leg
use Rattle.script_text.specs.declared.events.NodeNumberWord.{NodeNumberWord}
use Rattle.script_text.specs.declared.events.NodeNumberWord.TheVariants as of_node_number
use Rattle.script_text.specs.declared.events.NodeNumberLegWord.{NodeNumberLegWord}
use Rattle.script_text.specs.declared.events.NodeNumberLegWord.TheVariants as of_node_number_leg
use Rattle.script_text.specs.declared.events.PassKind.{PassKind}
use Rattle.script_text.specs.declared.events.PassKind.TheVariants as passes
use Rattle.script_text.specs.Judging.{◌>>=◌}
use Rattle.script_text.specs.Lines.{three}
use Rattle.script_text.specs.Arguments.{number_word, byte_word, value_word, alone, one_byte, one_number, two_bytes, two_numbers, byte_number, byte_number_byte, one_res}

-- The words.

-- requests, and what they write
abbrev pub request_word : List ℕ → Option EventWord
request_word word =
    if bytes_eq word (codes "w") then Some words.Write
    else if bytes_eq word (codes "out") then Some (words.NodeNumberLeg of_node_number_leg.Out)
    else if bytes_eq word (codes "ok") then Some (words.NodeNumber of_node_number.EndWrite)
    else if bytes_eq word (codes "r") then Some (words.NodeNumber of_node_number.AskRead)
    else if bytes_eq word (codes "in") then Some (words.NodeNumber of_node_number.In)
    else if bytes_eq word (codes "bit") then Some (words.NodeNumberLeg of_node_number_leg.WritePage)
    else if bytes_eq word (codes "clear") then Some (words.NodeNumber of_node_number.Clear)
    else if bytes_eq word (codes "break") then Some (words.NodeNumber of_node_number.BreakWrite)
    else None

-- rounds
abbrev pub round_word : List ℕ → Option EventWord
round_word word =
    if bytes_eq word (codes "grant") then Some words.Grant
    else if bytes_eq word (codes "token") then Some (words.Node of_node.AskToken)
    else if bytes_eq word (codes "message") then Some (words.Node of_node.AskMessage)
    else if bytes_eq word (codes "offer") then Some words.Offer
    else if bytes_eq word (codes "sb") then Some (words.NodeLeg of_node_leg.WriteSuper)
    else if bytes_eq word (codes "publish") then Some (words.Node of_node.Publish)
    else if bytes_eq word (codes "take") then Some (words.Node of_node.Take)
    else if bytes_eq word (codes "processed") then Some (words.Node of_node.Processed)
    else if bytes_eq word (codes "finish") then Some (words.Node of_node.FinishRound)
    else if bytes_eq word (codes "resume") then Some (words.Node of_node.Resume)
    else if bytes_eq word (codes "drop") then Some (words.Node of_node.DropMessage)
    else if bytes_eq word (codes "quit") then Some (words.Node of_node.Quit)
    else None

-- copying and recovery
abbrev pub copy_word : List ℕ → Option EventWord
copy_word word =
    if bytes_eq word (codes "ci") then Some (words.Node of_node.CopyIn)
    else if bytes_eq word (codes "co") then Some (words.NodeLeg of_node_leg.CopyOut)
    else if bytes_eq word (codes "settle") then Some (words.Node of_node.Settle)
    else if bytes_eq word (codes "resync") then Some (words.Node of_node.AskResync)
    else if bytes_eq word (codes "pass") then Some words.Pass
    else if bytes_eq word (codes "done") then Some (words.Node of_node.EndPass)
    else if bytes_eq word (codes "gather") then Some (words.Node of_node.Gather)
    else if bytes_eq word (codes "rec") then Some (words.NodeLeg of_node_leg.Recover)
    else if bytes_eq word (codes "slotin") then Some (words.NodeNumberLeg of_node_number_leg.SlotIn)
    else if bytes_eq word (codes "slotout") then Some (words.NodeNumberLeg of_node_number_leg.SlotOut)
    else if bytes_eq word (codes "recovered") then Some (words.Node of_node.Recovered)
    else None

-- members, paths and devices
abbrev pub member_word : List ℕ → Option EventWord
member_word word =
    if bytes_eq word (codes "cut") then Some (words.NodeLeg of_node_leg.Cut)
    else if bytes_eq word (codes "mend") then Some (words.NodeLeg of_node_leg.Mend)
    else if bytes_eq word (codes "die") then Some (words.Node of_node.Die)
    else if bytes_eq word (codes "join") then Some (words.Node of_node.Join)
    else if bytes_eq word (codes "load") then Some (words.NodeLeg of_node_leg.Load)
    else if bytes_eq word (codes "up") then Some (words.Node of_node.Up)
    else if bytes_eq word (codes "leave") then Some (words.Node of_node.Leave)
    else if bytes_eq word (codes "lockdev") then Some (words.Node of_node.LockDevice)
    else None

abbrev pub or_word : Option EventWord → Option EventWord → Option EventWord
or_word (Some w) other = Some w
or_word None other = other

abbrev pub event_word : List ℕ → Option EventWord
event_word word = or_word (request_word word) (or_word (round_word word) (or_word (copy_word word) (member_word word)))

-- The events of words that a node follows, and a leg, or a number.

abbrev pub node_event : NodeWord → ℕ → Event
node_event of_node.Die n = events.Die n
node_event of_node.Join n = events.Join n
node_event of_node.Up n = events.Up n
node_event of_node.Leave n = events.Leave n
node_event of_node.AskToken n = events.AskToken n
node_event of_node.AskMessage n = events.AskMessage n
node_event of_node.Publish n = events.Publish n
node_event of_node.FinishRound n = events.FinishRound n
node_event of_node.Quit n = events.Quit n
node_event of_node.Take n = events.Take n
node_event of_node.Processed n = events.Processed n
node_event of_node.Resume n = events.Resume n
node_event of_node.DropMessage n = events.DropMessage n
node_event of_node.AskResync n = events.AskResync n
node_event of_node.Gather n = events.Gather n
node_event of_node.CopyIn n = events.CopyIn n
node_event of_node.Settle n = events.Settle n
node_event of_node.EndPass n = events.EndPass n
node_event of_node.Recovered n = events.Recovered n
node_event of_node.LockDevice n = events.LockDevice n

-- of `rec` the second is the slot that the node recovers
abbrev pub node_leg_event : NodeLegWord → ℕ → ℕ → Event
node_leg_event of_node_leg.Cut n l = events.Cut n l
node_leg_event of_node_leg.Mend n l = events.Mend n l
node_leg_event of_node_leg.Load n l = events.Load n l
node_leg_event of_node_leg.WriteSuper n l = events.WriteSuper n l
node_leg_event of_node_leg.CopyOut n l = events.CopyOut n l
node_leg_event of_node_leg.Recover n d = events.Recover n d

abbrev pub node_number_event : NodeNumberWord → ℕ → ℕ → Event
node_number_event of_node_number.EndWrite n k = events.EndWrite n k
node_number_event of_node_number.BreakWrite n k = events.BreakWrite n k
node_number_event of_node_number.AskRead n s = events.AskRead n s
node_number_event of_node_number.In n k = events.In n k
node_number_event of_node_number.Clear n c = events.Clear n c

abbrev pub node_number_leg_event : NodeNumberLegWord → ℕ → ℕ → ℕ → Event
node_number_leg_event of_node_number_leg.WritePage n p l = events.WritePage n p l
node_number_leg_event of_node_number_leg.Out n k l = events.Out n k l
node_number_leg_event of_node_number_leg.SlotIn n p l = events.SlotIn n p l
node_number_leg_event of_node_number_leg.SlotOut n p l = events.SlotOut n p l

-- The other lines. Of an offer and of a pass, what follows the node is judged before the node, since a wrong
-- word, and a wrong number of words, are told before a word that is no number.

-- `w N S V`
abbrev pub write_event : List (List ℕ) → Result Event FaultKind
write_event args = do
  words ← ok_or (three args) Count
  node ← byte_word words.0
  sector ← number_word words.1
  value ← value_word words.2
  Ok (events.AskWrite node sector value)

-- `spare L`, `rebuild L` and `work L`
abbrev pub meta_with : List ℕ → List (List ℕ) → Result Wish FaultKind
meta_with word args =
    if bytes_eq word (codes "spare") then (one_byte args >>= λ l. Ok (Spare l))
    else if bytes_eq word (codes "rebuild") then (one_byte args >>= λ l. Ok (Rebuild l))
    else if bytes_eq word (codes "work") then (one_byte args >>= λ l. Ok (Work l))
    else Err Word

-- what follows `meta`
abbrev pub meta_wish : List (List ℕ) → Result Wish FaultKind
meta_wish [] = Ok Meta
meta_wish (word ∷ args) = meta_with word args

-- `LO HI`
abbrev pub range_wish : List (List ℕ) → Result Wish FaultKind
range_wish args = two_numbers args >>= λ x. Ok (Range (record { lo = x.0; hi = x.1 }))

-- a wish by its word and what follows it
abbrev pub wish_with : List ℕ → List (List ℕ) → Result Wish FaultKind
wish_with word args =
    if bytes_eq word (codes "meta") then meta_wish args
    else if bytes_eq word (codes "range") then range_wish args
    else if bytes_eq word (codes "newdisk") then (one_byte args >>= λ l. Ok (NewDisk l))
    else if bytes_eq word (codes "remove") then (one_byte args >>= λ l. Ok (Remove l))
    else if bytes_eq word (codes "readd") then (one_byte args >>= λ l. Ok (ReAdd l))
    else if bytes_eq word (codes "unclean") then alone Unclean args
    else if bytes_eq word (codes "grow") then (one_number args >>= λ z. Ok (Grow z))
    else Err Word

-- what follows the node of an offer
abbrev pub wish_of : List (List ℕ) → Result Wish FaultKind
wish_of [] = Err Count
wish_of (word ∷ args) = wish_with word args

-- `offer N WISH`
abbrev pub offer_event : List (List ℕ) → Result Event FaultKind
offer_event [] = Err Count
offer_event (node ∷ args) = do
  wish ← wish_of args
  n ← byte_word node
  Ok (events.Offer n wish)

-- `own`, `full` and `again L`
abbrev pub pass_kind_with : List ℕ → List (List ℕ) → Result PassKind FaultKind
pass_kind_with word args =
    if bytes_eq word (codes "own") then alone passes.Own args
    else if bytes_eq word (codes "full") then alone passes.Full args
    else if bytes_eq word (codes "again") then (one_byte args >>= λ l. Ok (passes.Again l))
    else Err Word

-- what follows the node of a pass
abbrev pub pass_of : List (List ℕ) → Result PassKind FaultKind
pass_of [] = Err Count
pass_of (word ∷ args) = pass_kind_with word args

abbrev pub pass_with : PassKind → ℕ → Event
pass_with passes.Own n = events.PassOwn n
pass_with passes.Full n = events.PassFull n
pass_with (passes.Again l) n = events.PassAgain n l

-- `pass N own`, `pass N full` and `pass N again L`
abbrev pub pass_event : List (List ℕ) → Result Event FaultKind
pass_event [] = Err Count
pass_event (node ∷ args) = do
  pass ← pass_of args
  n ← byte_word node
  Ok (pass_with pass n)

-- the event of the word and of what follows it
abbrev pub event_with : EventWord → List (List ℕ) → Result Event FaultKind
event_with (words.Node word) args = one_byte args >>= λ n. Ok (node_event word n)
event_with (words.NodeLeg word) args = two_bytes args >>= λ x. Ok (node_leg_event word x.0 x.1)
event_with (words.NodeNumber word) args = byte_number args >>= λ x. Ok (node_number_event word x.0 x.1)
event_with (words.NodeNumberLeg word) args = byte_number_byte args >>= λ x. Ok (node_number_leg_event word x.0 x.1 x.2)
event_with words.Write args = write_event args
event_with words.Grant args = one_res args >>= λ res. Ok (events.Grant res)
event_with words.Offer args = offer_event args
event_with words.Pass args = pass_event args

abbrev pub event_of : List ℕ → List (List ℕ) → Result Event FaultKind
event_of word args = do
  kind ← ok_or (event_word word) Word
  event_with kind args
