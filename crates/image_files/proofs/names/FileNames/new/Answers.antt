use Rattle.std.proofs.Common.{ap, sym, ◌∙◌, arith, map, ◌++◌, ◌∷◌, []}
use Rattle.std.specs.Prelude.{string_bytes}
use Rattle.std.specs.List.{range_with_len}
use Rattle.std.proofs.lemmas.List.FromFn.{map-range_with_len_more}
use Rattle.image_files.specs.Names.{leg_name}
use Rattle.image_files.proofs.GivenBack.{map_push}
use Rattle.image_files.proofs.names.FileNames.new.Goals as goal

pub loop-l-preserved : goal.loop-l-preserved
loop-l-preserved c =
    let at = c.loop-l in
    let file = c.in_ok-leg_name.field-0 in
    ap (map string_bytes) c.in_ok-push.ensures.items
    ∙ map_push string_bytes at.files.items file
    ∙ ap (λ xs. xs ++ string_bytes file ∷ []) at.invariant
    ∙ ap (λ b. map (leg_name c.args.name.now) (range_with_len 0 at.l) ++ b ∷ []) c.in_ok-leg_name.ensures
    ∙ sym (map-range_with_len_more (leg_name c.args.name.now) 0 at.l at.l (omega arith))
