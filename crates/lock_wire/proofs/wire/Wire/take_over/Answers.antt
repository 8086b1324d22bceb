use Rattle.std.proofs.Common.{arith, ap, false, get_or, ◌≡◌, ◌<◌, ◌∙◌, ℕ, suc}
use Rattle.std.proofs.lemmas.List.{get_or_past}
use Rattle.lock_wire.specs.Parts.{Parts, wire_of}
use Rattle.lock_wire.proofs.Wires.{wards-is}
use Rattle.lock_wire.proofs.Reports.{over-is}
use Rattle.lock_wire.proofs.wire.Wire.take_over.Goals as goal

pub returns : goal.returns
returns c =
    let p : Parts = record { nodes = c.self.inside.nodes; live = c.self.inside.live; locals = c.self.inside.locals; links = c.self.inside.links; tables = c.self.inside.tables; wards = c.self.inside.wards } in
    let past : (n : ℕ) → 16 < suc n → get_or c.self.inside.live n false ≡ false = λ n lt. get_or_past c.self.inside.live n false (omega (arith, c.self.told, lt)) in
    over-is (wire_of c.args.self.now) (wire_of p) _ c.args.dead c.args.m past (ap wire_of c.self.view_is ∙ c.report_all.ensures) (wards-is p c.take_over.new.self _ c.take_over.ensures)
