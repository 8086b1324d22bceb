-- The texts of events: their lines in a script.
use Rattle.std.specs.Prelude.{ℕ, List, [], ◌∷◌, codes, decimal}
use Rattle.mdc_types.specs.declared.events.Event.{Event}
use Rattle.mdc_types.specs.declared.events.Event.TheVariants.{Cut, Mend, Die, Grant, Join, Load, Up, Leave, AskToken, AskMessage, Offer, WriteSuper, Publish, FinishRound, Quit, Take, Processed, Resume, DropMessage, AskWrite, WritePage, Out, EndWrite, BreakWrite, AskRead, In, Clear, AskResync, Gather, PassOwn, PassFull, PassAgain, CopyIn, CopyOut, Settle, EndPass, Recover, SlotIn, SlotOut, Recovered, LockDevice}
use Rattle.mdc_types.specs.declared.events.Wish.{Wish}
use Rattle.mdc_types.specs.declared.events.Wish.TheVariants.{Meta, Spare, Rebuild, Work, Range, NewDisk, Remove, ReAdd, Unclean, Grow}
use Rattle.report_text.specs.Lines.{line}
use Rattle.report_text.specs.Values.{value_text}
use Rattle.report_text.specs.Words.{res_word}

abbrev pub wish_values : Wish → List (List ℕ)
wish_values Meta = codes "meta" ∷ []
wish_values (Spare l) = codes "meta" ∷ codes "spare" ∷ decimal l ∷ []
wish_values (Rebuild l) = codes "meta" ∷ codes "rebuild" ∷ decimal l ∷ []
wish_values (Work l) = codes "meta" ∷ codes "work" ∷ decimal l ∷ []
wish_values (Range range) = codes "range" ∷ decimal range.lo ∷ decimal range.hi ∷ []
wish_values (NewDisk l) = codes "newdisk" ∷ decimal l ∷ []
wish_values (Remove l) = codes "remove" ∷ decimal l ∷ []
wish_values (ReAdd l) = codes "readd" ∷ decimal l ∷ []
wish_values Unclean = codes "unclean" ∷ []
wish_values (Grow size) = codes "grow" ∷ decimal size ∷ []

abbrev pub event_line : Event → List ℕ
event_line (Cut n l) = line (codes "cut") (decimal n ∷ decimal l ∷ [])
event_line (Mend n l) = line (codes "mend") (decimal n ∷ decimal l ∷ [])
event_line (Die n) = line (codes "die") (decimal n ∷ [])
event_line (Grant res) = line (codes "grant") (res_word res ∷ [])
event_line (Join n) = line (codes "join") (decimal n ∷ [])
event_line (Load n l) = line (codes "load") (decimal n ∷ decimal l ∷ [])
event_line (Up n) = line (codes "up") (decimal n ∷ [])
event_line (Leave n) = line (codes "leave") (decimal n ∷ [])
event_line (AskToken n) = line (codes "token") (decimal n ∷ [])
event_line (AskMessage n) = line (codes "message") (decimal n ∷ [])
event_line (Offer n wish) = line (codes "offer") (decimal n ∷ wish_values wish)
event_line (WriteSuper n l) = line (codes "sb") (decimal n ∷ decimal l ∷ [])
event_line (Publish n) = line (codes "publish") (decimal n ∷ [])
event_line (FinishRound n) = line (codes "finish") (decimal n ∷ [])
event_line (Quit n) = line (codes "quit") (decimal n ∷ [])
event_line (Take n) = line (codes "take") (decimal n ∷ [])
event_line (Processed n) = line (codes "processed") (decimal n ∷ [])
event_line (Resume n) = line (codes "resume") (decimal n ∷ [])
event_line (DropMessage n) = line (codes "drop") (decimal n ∷ [])
event_line (AskWrite n s v) = line (codes "w") (decimal n ∷ decimal s ∷ value_text v.bytes ∷ [])
event_line (WritePage n p l) = line (codes "bit") (decimal n ∷ decimal p ∷ decimal l ∷ [])
event_line (Out n k l) = line (codes "out") (decimal n ∷ decimal k ∷ decimal l ∷ [])
event_line (EndWrite n k) = line (codes "ok") (decimal n ∷ decimal k ∷ [])
event_line (BreakWrite n k) = line (codes "break") (decimal n ∷ decimal k ∷ [])
event_line (AskRead n s) = line (codes "r") (decimal n ∷ decimal s ∷ [])
event_line (In n k) = line (codes "in") (decimal n ∷ decimal k ∷ [])
event_line (Clear n c) = line (codes "clear") (decimal n ∷ decimal c ∷ [])
event_line (AskResync n) = line (codes "resync") (decimal n ∷ [])
event_line (Gather n) = line (codes "gather") (decimal n ∷ [])
event_line (PassOwn n) = line (codes "pass") (decimal n ∷ codes "own" ∷ [])
event_line (PassFull n) = line (codes "pass") (decimal n ∷ codes "full" ∷ [])
event_line (PassAgain n l) = line (codes "pass") (decimal n ∷ codes "again" ∷ decimal l ∷ [])
event_line (CopyIn n) = line (codes "ci") (decimal n ∷ [])
event_line (CopyOut n l) = line (codes "co") (decimal n ∷ decimal l ∷ [])
event_line (Settle n) = line (codes "settle") (decimal n ∷ [])
event_line (EndPass n) = line (codes "done") (decimal n ∷ [])
event_line (Recover n d) = line (codes "rec") (decimal n ∷ decimal d ∷ [])
event_line (SlotIn n p l) = line (codes "slotin") (decimal n ∷ decimal p ∷ decimal l ∷ [])
event_line (SlotOut n p l) = line (codes "slotout") (decimal n ∷ decimal p ∷ decimal l ∷ [])
event_line (Recovered n) = line (codes "recovered") (decimal n ∷ [])
event_line (LockDevice n) = line (codes "lockdev") (decimal n ∷ [])
