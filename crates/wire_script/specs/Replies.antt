-- What one line of a wire script does in a lock space that is spread over nodes, and what is replied
-- to it.
use Rattle.std.specs.Prelude.{◌≡◌, ◌⊎◌, List, ◌∷◌, Option, Some, None}
use Rattle.std.specs.Option.{option_map}
use Rattle.dlm_space.specs.declared.answers.Converted.{Converted}
use Rattle.dlm_space.specs.declared.answers.Converted.TheVariants.{Now, Queued}
use Rattle.dlm_space.specs.declared.answers.Granted.{Granted}
use Rattle.mdc_types.specs.Resources.{number_of}
use Rattle.lock_wire.specs.Machine.{Wire, answer_from, serve_answer, holds_of}
use Rattle.lock_wire.specs.Packets.{first, kind_of}
use Rattle.lock_wire.specs.declared.ends.WireEnd.{WireEnd}
use Rattle.lock_wire.specs.declared.ends.WireEnd.TheVariants as ends
use Rattle.laws_wire.specs.Runs.{Call, Asks, Converts, Releases, Delivers, Serves, Dies}
use Rattle.laws_wire.specs.Runs.{refusal, effect, IsAccepted}
use Rattle.script_text.specs.declared.wire.WireLine.{WireLine}
use Rattle.script_text.specs.declared.wire.WireLine.TheVariants as lines
use Rattle.report_text.specs.declared.wire.WireReply.{WireReply}
use Rattle.report_text.specs.declared.wire.WireReply.TheVariants as replies

-- the call that the line makes. No value is given, and the query makes no call
abbrev pub call_of : WireLine → Option Call
call_of (lines.Ask n res mode) = Some (Asks n (number_of res) mode)
call_of (lines.Convert n res mode) = Some (Converts n (number_of res) mode None)
call_of (lines.Release n res) = Some (Releases n (number_of res) None)
call_of (lines.Deliver a b) = Some (Delivers a b)
call_of (lines.Serve res) = Some (Serves (number_of res))
call_of (lines.Die n) = Some (Dies n)
call_of (lines.Holds n res) = None

abbrev pub conversion_reply : Converted → WireReply
conversion_reply Now = replies.Converted
conversion_reply Queued = replies.Asked

abbrev pub grant_reply : Granted → WireReply
grant_reply g = replies.Granted g.node g.mode

-- what is replied to an accepted call: of a conversion whether it waits, of a delivery the kind of the
-- packet, of a serve whom it served
abbrev pub reply_to : Wire → Call → Option WireReply
reply_to w (Asks n r mode) = Some replies.Asked
reply_to w (Converts n r mode value) = option_map conversion_reply (answer_from (w.local n r) mode)
reply_to w (Releases n r value) = Some replies.Released
reply_to w (Delivers a b) = option_map replies.Took (option_map kind_of (first (w.link a b)))
reply_to w (Serves r) = option_map grant_reply (serve_answer w r)
reply_to w (Dies n) = Some replies.Died

-- what is replied to a refused call. Memory refuses none
abbrev pub refused_reply : WireEnd → Option WireReply
refused_reply (ends.Refused why) = Some (replies.Refused why)
refused_reply (ends.Lock why) = Some (replies.Denied why)
refused_reply ends.Memory = None

-- the line's call is accepted
pub record Accepts (w : Wire) (line : WireLine) (call : Call) (reply : WireReply) : Type 0 where
  pub makes : call_of line ≡ Some call
  pub accepted : IsAccepted w call
  pub says : Some reply ≡ reply_to w call

-- the line's call is refused, with the first guard that fails
pub record Refuses (w : Wire) (line : WireLine) (reply : WireReply) : Type 0 where
  pub call : Call
  pub makes : call_of line ≡ Some call
  pub why : WireEnd
  pub refused : refusal w call ≡ Some why
  pub says : Some reply ≡ refused_reply why

-- the query tells what the node holds
abbrev pub Tells : Wire → WireLine → WireReply → Type 0
Tells w (lines.Holds n res) reply = reply ≡ replies.Holds n (holds_of w n (number_of res))
Tells w line reply = ⊥

-- what is replied to the line at this state, and the call that is accepted, if one is
abbrev pub Replies : Wire → WireLine → Option Call → WireReply → Type 0
Replies w line (Some call) reply = Accepts w line call reply
Replies w line None reply = Refuses w line reply ⊎ Tells w line reply

-- nothing changes but by an accepted call
abbrev pub wire_with : Wire → Option Call → Wire
wire_with w None = w
wire_with w (Some call) = effect w call

-- the accepted calls, the newest first
abbrev pub calls_with : List Call → Option Call → List Call
calls_with past None = past
calls_with past (Some call) = call ∷ past

-- one line was taken
pub record Takes (w : Wire) (line : WireLine) (later : Wire) (reply : WireReply) : Type 0 where
  pub called : Option Call
  pub replies : Replies w line called reply
  pub after : later ≡ wire_with w called
