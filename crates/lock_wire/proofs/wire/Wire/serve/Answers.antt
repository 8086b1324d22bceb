use Rattle.std.proofs.Common.{ap, sym, arith, ◌≡◌, ◌∙◌, true, Some, None}
use Rattle.dlm_space.specs.Locks.{grant_refusal}
use Rattle.lock_wire.specs.Machine.{Wire, master_of, first_awaited}
use Rattle.lock_wire.specs.Parts.{Parts, wire_of}
use Rattle.lock_wire.proofs.Wires.{serve-refused, answer-is, served-is}
use Rattle.lock_wire.proofs.wire.Wire.serve.Goals as goal

pub returns-in-Err-clause-refused : goal.returns-in-Err-clause-refused
returns-in-Err-clause-refused c =
    let at : c.master-m.result ≡ master_of (wire_of c.args.self.now) c.args.res = c.master-m.ensures.master ∙ ap (λ (p : Parts). master_of (wire_of p) c.args.res) c.self.view_is in
    let lives : (wire_of c.args.self.now).live c.master-m.result ≡ true = grind (arith, c.is_live.ensures, c.if-not-is_live.false) in
    let none : first_awaited (wire_of c.args.self.now) c.args.res ≡ None = sym c.first_awaited.ensures ∙ c.in_default.is in
    serve-refused (wire_of c.args.self.now) c.args.res c.master-m.result (Some c.in-Err.e) at lives none (ap (λ (w : Wire). grant_refusal (w.table c.master-m.result c.args.res)) (sym c.room.ensures.same) ∙ sym c.in-Err.ensures.refused)

pub returns-clause-refused : goal.returns-clause-refused
returns-clause-refused c =
    let at : c.master-m.result ≡ master_of (wire_of c.args.self.now) c.args.res = c.master-m.ensures.master ∙ ap (λ (p : Parts). master_of (wire_of p) c.args.res) c.self.view_is in
    let lives : (wire_of c.args.self.now).live c.master-m.result ≡ true = grind (arith, c.is_live.ensures, c.if-not-is_live.false) in
    let none : first_awaited (wire_of c.args.self.now) c.args.res ≡ None = sym c.first_awaited.ensures ∙ c.in_default.is in
    serve-refused (wire_of c.args.self.now) c.args.res c.master-m.result None at lives none (ap (λ (w : Wire). grant_refusal (w.table c.master-m.result c.args.res)) (sym c.room.ensures.same) ∙ sym c.in-Ok.ensures.refused)

pub returns-clause-answer : goal.returns-clause-answer
returns-clause-answer c =
    let at : c.master-m.result ≡ master_of (wire_of c.args.self.now) c.args.res = c.master-m.ensures.master ∙ ap (λ (p : Parts). master_of (wire_of p) c.args.res) c.self.view_is in
    answer-is (wire_of c.args.self.now) (wire_of c.room.new.self) c.args.res c.master-m.result c.in-Ok.told at c.room.ensures.same c.in-Ok.ensures.answer

pub returns-clause-ok : goal.returns-clause-ok
returns-clause-ok c =
    let at : c.master-m.result ≡ master_of (wire_of c.args.self.now) c.args.res = c.master-m.ensures.master ∙ ap (λ (p : Parts). master_of (wire_of p) c.args.res) c.self.view_is in
    served-is (wire_of c.args.self.now) (wire_of c.room.new.self) (wire_of c.grant.new.self) (wire_of c.call_out.new.self) c.args.res c.master-m.result c.in-Ok.told at c.room.ensures.same c.in-Ok.ensures.answer c.in-Ok.ensures.ok c.call_out.ensures.wire
