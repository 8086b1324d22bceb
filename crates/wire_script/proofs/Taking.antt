-- One line that was taken.
use Rattle.std.proofs.Common.{◌≡◌, inl, Some, None, Result, Ok, Err}
use Rattle.std.specs.Prelude.{IfOk}
use Rattle.std.specs.Result.{result_ok}
use Rattle.lock_wire.specs.Machine.{Wire, IsAnswered}
use Rattle.lock_wire.specs.declared.ends.WireEnd.{WireEnd}
use Rattle.lock_wire.specs.declared.ends.WireEnd.TheVariants as ends
use Rattle.laws_wire.specs.Runs.{Call, IsOfResource, refusal, effect}
use Rattle.script_text.specs.declared.wire.WireLine.{WireLine}
use Rattle.report_text.specs.declared.wire.WireReply.{WireReply}
use Rattle.wire_script.specs.Replies.{call_of, reply_to, refused_reply, Takes}

module _ (w later : Wire) (line : WireLine) (call : Call) (makes : call_of line ≡ Some call) where
  pub accepts : (reply : WireReply) → IsOfResource call → refusal w call ≡ None → Some reply ≡ reply_to w call → later ≡ effect w call → Takes w line later reply
  accepts reply resource accepted says after = record {
    called = Some call;
    replies = record { makes = makes; accepted = record { resource = resource; accepted = accepted }; says = says };
    after = after;
  }

  -- the call fails: it is refused, unless memory is wanting
  pub refuses : (A : Type 0) {E : Type 0} (end : WireEnd) (r : Result WireReply E) → IsAnswered {A = A} (refusal w call) (Err end) → result_ok r ≡ refused_reply end → later ≡ w → IfOk r (λ reply. Takes w line later reply)
  refuses A end (Err e) is says same = tt
  refuses A (ends.Refused why) (Ok reply) is says same = record {
    called = None;
    replies = inl (record { call = call; makes = makes; why = ends.Refused why; refused = is; says = says });
    after = same;
  }
  refuses A (ends.Lock why) (Ok reply) is says same = record {
    called = None;
    replies = inl (record { call = call; makes = makes; why = ends.Lock why; refused = is; says = says });
    after = same;
  }
  refuses A ends.Memory (Ok reply) is says same = cc
