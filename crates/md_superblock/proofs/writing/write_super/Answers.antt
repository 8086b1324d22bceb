use Rattle.std.proofs.Common.{◌≡◌, ◌∙◌, sym, ap, subst, List, ℕ, arith, rules}
use Rattle.mdc_types.specs.Sectors.{IsSector}
use Rattle.md_superblock.specs.Layout.{bytes_of, with_bytes, checksum_of}
use Rattle.md_superblock.specs.Superblock.{IsWritten}
use Rattle.md_superblock.proofs.Written.{HasSizes, before_sum, written, written_spells, steps_write, sum_writes}
use Rattle.md_superblock.proofs.ArrayLaws.{spelled_is}
use Rattle.md_superblock.proofs.writing.write_super.Goals as goal

pub returns-clause-grammar : goal.returns-clause-grammar
returns-clause-grammar c =
    let s = c.args.s.now in
    let sum = c.checksum-sum.result in
    let roles = c.put_roles.new.b.bytes in
    let sizes : HasSizes s = record { uuid = search rules; name = search rules; roles = c.put_roles.ensures.devices } in
    let before : roles ≡ before_sum s = steps_write s c.put_array.new.b.bytes c.put_device.new.b.bytes c.put_state.new.b.bytes roles c.put_array.ensures c.put_device.ensures c.put_state.ensures c.put_roles.ensures.bytes in
    let is : sum ≡ checksum_of (before_sum s) = c.checksum-sum.ensures.value ∙ ap checksum_of before in
    let sector : IsSector (before_sum s) = subst IsSector before c.checksum-sum.ensures.sector in
    let bytes = c.put_u32.ensures ∙ ap (λ (bytes : List ℕ). with_bytes bytes 216 (bytes_of 4 sum)) before ∙ sum_writes s sum in
    subst (IsWritten s) (sym bytes) (written_spells s sum sizes c.requires sector (omega arith) is)

pub returns-clause-bytes : goal.returns-clause-bytes
returns-clause-bytes c =
    let s = c.args.s.now in
    let sum = c.checksum-sum.result in
    let roles = c.put_roles.new.b.bytes in
    let before : roles ≡ before_sum s = steps_write s c.put_array.new.b.bytes c.put_device.new.b.bytes c.put_state.new.b.bytes roles c.put_array.ensures c.put_device.ensures c.put_state.ensures c.put_roles.ensures.bytes in
    let is : sum ≡ checksum_of (before_sum s) = c.checksum-sum.ensures.value ∙ ap checksum_of before in
    c.put_u32.ensures ∙ ap (λ (bytes : List ℕ). with_bytes bytes 216 (bytes_of 4 sum)) before ∙ sum_writes s sum ∙ ap (written s) is ∙ sym (spelled_is s)
