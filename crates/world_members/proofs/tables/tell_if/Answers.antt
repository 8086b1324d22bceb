use Rattle.std.proofs.Common.{◌≡◌, ℕ, Bool, sym, subst, if◌then◌else◌}
use Rattle.msg_rounds.specs.Phases.{Receiving, heard_death}
use Rattle.world_members.specs.Tables.{receivers_of}
use Rattle.world_members.proofs.tables.tell_if.Goals as goal

pub returns-then-published-clause-receivers : goal.returns-then-published-clause-receivers
returns-then-published-clause-receivers c =
    let told : Bool → ℕ → Receiving = λ b m. if b then heard_death c.args.n (receivers_of c.args.receivers.now m) else receivers_of c.args.receivers.now m in
    let P : Bool → Type 0 = λ b. receivers_of c.tell_all.new.receivers ≡ told b in
    subst P (sym c.if-published.true) c.tell_all.ensures.receivers
