use Rattle.std.proofs.Common.{◌∙◌, ◌+◌, ◌*◌, ap, sym, List, ℕ, arith}
use Rattle.std.proofs.lemmas.List.{get_or_default}
use Rattle.mdc_types.specs.declared.roles.Role.TheVariants.{Working, Spare}
use Rattle.mdc_types.specs.declared.roles.Roles.{Roles}
use Rattle.mdc_types.specs.Roles.{role_of, role_code}
use Rattle.md_superblock.specs.Layout.{bytes_of, with_bytes}
use Rattle.md_superblock.specs.Pieces.{with_pieces}
use Rattle.md_superblock.proofs.PieceLaws.{role_pieces-zero, one_role_more}
use Rattle.md_superblock.proofs.writing.put_roles.Goals as goal

pub loop-l-init : goal.loop-l-init
loop-l-init c = ap (with_pieces c.args.b.now.bytes) (sym (role_pieces-zero (record { legs = c.args.legs.now })))

pub loop-l-preserved : goal.loop-l-preserved
loop-l-preserved c =
    let roles : Roles = record { legs = c.args.legs.now } in
    let more = one_role_more c.args.b.now.bytes roles c.loop-l.l in
    let code = c.code.ensures ∙ ap (role_code c.loop-l.l) (get_or_default c.args.legs.now c.loop-l.l Working Spare (omega arith)) in
    c.put_u16.ensures
    ∙ ap (λ (x : ℕ). with_bytes c.loop-l.b.bytes (256 + 2 * c.loop-l.l) (bytes_of 2 x)) code
    ∙ ap (λ (bytes : List ℕ). with_bytes bytes (256 + 2 * c.loop-l.l) (bytes_of 2 (role_code c.loop-l.l (role_of roles c.loop-l.l)))) c.loop-l.invariant
    ∙ sym more
