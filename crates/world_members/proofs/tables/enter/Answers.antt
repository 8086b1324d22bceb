use Rattle.std.proofs.Common.{◌≡◌, None, refl, sym, subst}
use Rattle.dlm_modes.specs.declared.mode.Mode.TheVariants.{CR}
use Rattle.dlm_space.specs.Locks.{Lock, ask_now_refusal, holding}
use Rattle.dlm_space.specs.Parts.{locks_of}
use Rattle.msg_rounds.proofs.Lawful.{other, second}
use Rattle.world_members.proofs.tables.enter.Goals as goal

pub take_now-requires-2-clause-may : goal.take_now-requires-2-clause-may
take_now-requires-2-clause-may c =
    let same : locks_of c.take_now.new.space 19 ≡ locks_of c.args.space.now 19 = other _ _ 18 19 _ c.take_now.ensures refl in
    let P : Lock → Type 0 = λ lock. ask_now_refusal lock c.args.n CR ≡ None in
    subst P (sym same) c.requires.device

pub returns : goal.returns
returns c =
    let old = locks_of c.args.space.now in
    second old (locks_of c.take_now.new.space) (locks_of c.take_now-2.new.space) 18 19 (holding (old 18) c.args.n CR) (λ (lock : Lock). holding lock c.args.n CR) c.take_now.ensures c.take_now-2.ensures
