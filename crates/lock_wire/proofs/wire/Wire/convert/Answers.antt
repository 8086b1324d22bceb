use Rattle.std.proofs.Common.{ap, sym, ◌≡◌, ◌∙◌}
use Rattle.lock_wire.specs.Machine.{Wire, convert_from, with_local, sent, master_of}
use Rattle.lock_wire.specs.Parts.{Parts, wire_of}
use Rattle.lock_wire.specs.declared.local.Local.TheVariants.{Held}
use Rattle.lock_wire.specs.declared.packet.Packet.TheVariants as packets
use Rattle.lock_wire.proofs.wire.Wire.convert.Goals as goal

pub returns-clause-ok : goal.returns-clause-ok
returns-clause-ok c =
    let was : (wire_of c.args.self.now).local c.args.n c.args.res ≡ Held c.in_ok-from.from = sym (ap (λ (p : Parts). (wire_of p).local c.args.n c.args.res) c.self.view_is) ∙ sym c.get.ensures ∙ c.in_ok-from.ensures.held in
    let is : c.converting.result ≡ convert_from ((wire_of c.args.self.now).local c.args.n c.args.res) c.args.mode = c.converting.ensures ∙ ap (λ l. convert_from l c.args.mode) (sym was) in
    c.say.ensures
    ∙ ap (λ (w : Wire). sent (with_local w c.args.n c.args.res c.converting.result) c.args.n (master_of w c.args.res) (packets.Convert c.args.res c.args.mode c.args.value)) c.room.ensures.same
    ∙ ap (λ l. sent (with_local (wire_of c.args.self.now) c.args.n c.args.res l) c.args.n (master_of (wire_of c.args.self.now) c.args.res) (packets.Convert c.args.res c.args.mode c.args.value)) is
