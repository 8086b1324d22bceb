-- The texts of refusals.
use Rattle.std.specs.Prelude.{ℕ, List, [], ◌∷◌, codes, decimal}
use Rattle.mdc_types.specs.declared.refusals.Refusal.{Refusal}
use Rattle.mdc_types.specs.declared.refusals.Refusal.TheVariants.{NoNode, Fenced, NotUp, NoLeg, NotPhase, NoSector, NoPage, NoChunk, NoWrite, NoRead, NothingAsked, NotGrantable, Blocked, ReceiverBusy, NotCalled, SenderGone, SenderLive, NotGranted, SlotLive, SlotPending, NotPending, HeirPending, NotLoaded, Stale, Missing, NotNeeded, Unacked, NotRole, NotCopied, Pending, PathCut, Draining, Reading, Unclean, PageOld, NotTarget, NotWorking, NotWritten, NotRead, BitMissing, Suspended, InFlight, Full, Needed, Degraded, Window, NothingLeft, NoEvents, NoSize, NoExtent, NotHolding, Rebuilding, LinkEmpty, Waiting}
use Rattle.report_text.specs.Lines.{line}
use Rattle.report_text.specs.Words.{mode_word, part_word, phase_word, res_word, role_word}

abbrev pub refusal_line : Refusal → List ℕ
refusal_line (NoNode n) = line (codes "no-node") (decimal n ∷ [])
refusal_line (Fenced n) = line (codes "fenced") (decimal n ∷ [])
refusal_line (NotUp n) = line (codes "not-up") (decimal n ∷ [])
refusal_line (NoLeg l) = line (codes "no-leg") (decimal l ∷ [])
refusal_line (NotPhase part phase) = line (codes "not-phase") (part_word part ∷ phase_word phase ∷ [])
refusal_line (NoSector s) = line (codes "no-sector") (decimal s ∷ [])
refusal_line (NoPage p) = line (codes "no-page") (decimal p ∷ [])
refusal_line (NoChunk c) = line (codes "no-chunk") (decimal c ∷ [])
refusal_line (NoWrite k) = line (codes "no-write") (decimal k ∷ [])
refusal_line (NoRead k) = line (codes "no-read") (decimal k ∷ [])
refusal_line (NothingAsked res) = line (codes "nothing-asked") (res_word res ∷ [])
refusal_line (NotGrantable holder mode) = line (codes "not-grantable") (decimal holder ∷ mode_word mode ∷ [])
refusal_line (Blocked n) = line (codes "blocked") (decimal n ∷ [])
refusal_line (ReceiverBusy phase) = line (codes "receiver-busy") (phase_word phase ∷ [])
refusal_line NotCalled = codes "not-called"
refusal_line (SenderGone n) = line (codes "sender-gone") (decimal n ∷ [])
refusal_line (SenderLive n) = line (codes "sender-live") (decimal n ∷ [])
refusal_line (NotGranted res) = line (codes "not-granted") (res_word res ∷ [])
refusal_line (SlotLive n) = line (codes "slot-live") (decimal n ∷ [])
refusal_line (SlotPending n) = line (codes "slot-pending") (decimal n ∷ [])
refusal_line (NotPending d) = line (codes "not-pending") (decimal d ∷ [])
refusal_line (HeirPending h) = line (codes "heir-pending") (decimal h ∷ [])
refusal_line (NotLoaded l) = line (codes "not-loaded") (decimal l ∷ [])
refusal_line (Stale read completed) = line (codes "stale") (decimal read ∷ decimal completed ∷ [])
refusal_line (Missing l) = line (codes "missing") (decimal l ∷ [])
refusal_line NotNeeded = codes "not-needed"
refusal_line (Unacked l) = line (codes "unacked") (decimal l ∷ [])
refusal_line (NotRole l role) = line (codes "not-role") (decimal l ∷ role_word role ∷ [])
refusal_line (NotCopied l) = line (codes "not-copied") (decimal l ∷ [])
refusal_line (Pending d) = line (codes "pending") (decimal d ∷ [])
refusal_line (PathCut l) = line (codes "path-cut") (decimal l ∷ [])
refusal_line (Draining k) = line (codes "draining") (decimal k ∷ [])
refusal_line (Reading k) = line (codes "reading") (decimal k ∷ [])
refusal_line (Unclean c) = line (codes "unclean") (decimal c ∷ [])
refusal_line (PageOld l) = line (codes "page-old") (decimal l ∷ [])
refusal_line (NotTarget l) = line (codes "not-target") (decimal l ∷ [])
refusal_line (NotWorking l) = line (codes "not-working") (decimal l ∷ [])
refusal_line (NotWritten l) = line (codes "not-written") (decimal l ∷ [])
refusal_line (NotRead l) = line (codes "not-read") (decimal l ∷ [])
refusal_line (BitMissing l) = line (codes "bit-missing") (decimal l ∷ [])
refusal_line (Suspended n) = line (codes "suspended") (decimal n ∷ [])
refusal_line (InFlight n) = line (codes "in-flight") (decimal n ∷ [])
refusal_line (Full n) = line (codes "full") (decimal n ∷ [])
refusal_line (Needed c) = line (codes "needed") (decimal c ∷ [])
refusal_line (Degraded l) = line (codes "degraded") (decimal l ∷ [])
refusal_line (Window lo) = line (codes "window") (decimal lo ∷ [])
refusal_line NothingLeft = codes "nothing-left"
refusal_line (NoEvents e) = line (codes "no-events") (decimal e ∷ [])
refusal_line (NoSize z) = line (codes "no-size") (decimal z ∷ [])
refusal_line (NoExtent e) = line (codes "no-extent") (decimal e ∷ [])
refusal_line (NotHolding e) = line (codes "not-holding") (decimal e ∷ [])
refusal_line (Rebuilding n) = line (codes "rebuilding") (decimal n ∷ [])
refusal_line (LinkEmpty from to) = line (codes "link-empty") (decimal from ∷ decimal to ∷ [])
refusal_line Waiting = codes "waiting"
