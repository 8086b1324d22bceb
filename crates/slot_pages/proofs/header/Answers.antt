use Rattle.std.proofs.Common.{refl, arith, ap, ◌∙◌, ◌*◌, ℕ, replicate}
use Rattle.byteorder.specs.Endian.{little_bytes}
use Rattle.std.proofs.lemmas.List.{length-replicate}
use Rattle.mdc_types.specs.Geometry.{nodes_of}
use Rattle.slot_pages.proofs.HeaderLaws.{header_is, zeros}
use Rattle.slot_pages.proofs.header.Goals as goal

pub returns-clause-bytes : goal.returns-clause-bytes
returns-clause-bytes c = λ i. header_is i (replicate 512 0) c.put_field.new.page c.put_field-2.new.page c.put_field-3.new.page c.put_field-4.new.page c.put_field-5.new.page c.put_field-6.new.page c.put_field-7.new.page
    c.bytes_of_u32.result c.bytes_of_u32-2.result c.args.uuid.now c.bytes_of_u64.result c.bytes_of_u64-2.result c.bytes_of_u32-3.result c.bytes_of_u32-4.result
    (little_bytes 4 0x6d746962) (little_bytes 4 5) (little_bytes 8 0) (little_bytes 8 c.args.g.now.room) (little_bytes 4 (512 * c.args.g.now.chunk)) (little_bytes 4 (nodes_of c.args.g.now))
    c.bytes_of_u32.ensures c.bytes_of_u32-2.ensures c.bytes_of_u64.ensures (c.bytes_of_u64-2.ensures ∙ ap (little_bytes 8) (c.from.ensures ∙ c.room.ensures.value)) (c.bytes_of_u32-3.ensures ∙ ap (λ (n : ℕ). little_bytes 4 (512 * n)) c.chunk.ensures.value) (c.bytes_of_u32-4.ensures ∙ ap (little_bytes 4) (c.from-2.ensures ∙ c.nodes.ensures))
    refl refl c.told-uuid refl refl refl refl (zeros 512 i)
    (c.put_field.ensures.bytes i) (c.put_field-2.ensures.bytes i) (c.put_field-3.ensures.bytes i) (c.put_field-4.ensures.bytes i) (c.put_field-5.ensures.bytes i) (c.put_field-6.ensures.bytes i) (c.put_field-7.ensures.bytes i)

pub returns-clause-sector : goal.returns-clause-sector
returns-clause-sector c = record { size = omega (arith, length-replicate {A = ℕ}); each = c.put_field-7.ensures.fit }
