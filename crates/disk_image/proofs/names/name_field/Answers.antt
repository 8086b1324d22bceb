use Rattle.std.proofs.Common.{ℕ, ◌++◌, ap, ◌∙◌, replicate, length, drop}
use Rattle.std.proofs.lemmas.List.{drop-replicate}
use Rattle.disk_image.specs.Files.{name_field}
use Rattle.disk_image.proofs.names.name_field.Goals as goal

pub returns : goal.returns
returns c =
    let n : ℕ = length c.as_bytes-bytes.result.now in
    let zero : ℕ = 0 in
    ap (λ xs. xs ++ drop n (replicate 32 zero)) c.copy_from_slice.ensures.after
    ∙ ap (λ xs. c.as_bytes-bytes.result.now ++ xs) (drop-replicate n 32 zero)
    ∙ ap name_field c.as_bytes-bytes.ensures.value
