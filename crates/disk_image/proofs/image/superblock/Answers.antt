use Rattle.std.proofs.Common.{ap, subst, sym, ◌∙◌}
use Rattle.md_superblock.specs.Arrays.{array_of, super_for, spelled}
use Rattle.md_superblock.specs.Superblock.{IsSuper}
use Rattle.disk_image.specs.Created.{created_at, new_role}
use Rattle.mdc_types.specs.Roles.{eight}
use Rattle.disk_image.proofs.Origins.{is_super, new_says}
use Rattle.disk_image.proofs.image.superblock.Goals as goal

pub write-requires : goal.write-requires
write-requires c = subst (λ says. IsSuper (super_for (array_of c.args.array.now) c.args.l says))
    (sym (new_says (array_of c.args.array.now) c.all_work.result c.sectors.result
    (c.all_work.ensures ∙ ap (λ n. eight (new_role n)) c.legs.ensures.value) c.sectors.ensures.value))
    (is_super (created_at (array_of c.args.array.now)) c.args.l c.requires.origin c.requires.leg)

pub returns : goal.returns
returns c = c.write.ensures ∙ ap (λ says. spelled (super_for (array_of c.args.array.now) c.args.l says))
    (new_says (array_of c.args.array.now) c.all_work.result c.sectors.result
    (c.all_work.ensures ∙ ap (λ n. eight (new_role n)) c.legs.ensures.value) c.sectors.ensures.value)
