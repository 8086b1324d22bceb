use Rattle.std.proofs.Common.{◌≡◌, length, drop, ◌++◌, ◌-◌, arith}
use Rattle.std.proofs.lemmas.List.{length-append}
use Rattle.cluster_msgs.proofs.Bytes.{arrays-put}
use Rattle.cluster_msgs.proofs.fields.put_arrays.Goals as goal

pub returns : goal.returns
returns c =
    let uuid = c.args.uuid.now in
    let rest = drop 16 c.args.out.now in
    let k : length rest ≡ length (uuid ++ rest) - 16 = omega (arith, length-append uuid rest, c.told-uuid) in
    rw (c.copy_from_slice.ensures.after, c.write_u16_into.ensures) (arrays-put uuid rest _ _ c.told-uuid k)
