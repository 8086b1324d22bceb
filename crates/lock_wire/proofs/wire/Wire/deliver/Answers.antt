use Rattle.std.proofs.Common.{ap, sym, ◌≡◌, ◌∙◌, Some}
use Rattle.lock_wire.specs.Packets.{first, rest}
use Rattle.lock_wire.specs.Machine.{Wire, with_cell, received}
use Rattle.lock_wire.specs.Parts.{Parts, wire_of}
use Rattle.lock_wire.proofs.wire.Wire.deliver.Goals as goal

pub returns-clause-ok : goal.returns-clause-ok
returns-clause-ok c =
    let there : Some c.in-Some.packet ≡ first ((wire_of c.args.self.now).link c.args.from c.args.to) = sym c.in-Some.is ∙ c.first.ensures.first ∙ ap (λ (p : Parts). first ((wire_of p).link c.args.from c.args.to)) c.self.view_is in
    c.take_packet.ensures
    ∙ ap (λ (w : Wire). received w c.args.from c.args.to (Some c.in-Some.packet)) (c.take_off.ensures.wire ∙ ap (λ (w : Wire). record w { link = with_cell w.link c.args.from c.args.to (rest (w.link c.args.from c.args.to)) }) c.room.ensures.same)
    ∙ ap (received (record (wire_of c.args.self.now) { link = with_cell (wire_of c.args.self.now).link c.args.from c.args.to (rest ((wire_of c.args.self.now).link c.args.from c.args.to)) }) c.args.from c.args.to) there
