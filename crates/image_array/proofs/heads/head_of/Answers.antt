use Rattle.std.proofs.Common.{sym, ◌∙◌, ap, subst, length, ◌<◌, ◌^◌}
use Rattle.mdc_types.specs.Geometry.{IsGeometry, nodes_of}
use Rattle.mdc_types.specs.declared.roles.Roles.{Roles}
use Rattle.image_array.proofs.HeadLaws.{head_is, within_by, nodes_all, is_origin, legs_by, long_by}
use Rattle.image_array.proofs.heads.head_of.Goals as goal

pub head_by-requires-clause-within : goal.head_by-requires-clause-within
head_by-requires-clause-within c =
    within_by c.args.images.now c.newest-l.result c.superblock-superblock.result.now c.requires c.newest-l.ensures.there c.superblock-superblock.ensures

pub head_by-requires-clause-slots : goal.head_by-requires-clause-slots
head_by-requires-clause-slots c =
    nodes_all c.args.images.now c.newest-l.result c.geometry-geometry.result c.requires c.newest-l.ensures.there c.geometry-geometry.ensures

pub returns-clause-head : goal.returns-clause-head
returns-clause-head c =
    head_is c.args.images.now c.head_by.result c.newest-l.result c.superblock-superblock.result.now c.geometry-geometry.result
    c.newest-l.ensures c.superblock-superblock.ensures c.geometry-geometry.ensures
    c.head_by.ensures.sizes c.head_by.ensures.name c.head_by.ensures.uuid c.head_by.ensures.roles c.head_by.ensures.events c.head_by.ensures.pending

pub returns-clause-origin : goal.returns-clause-origin
returns-clause-origin c =
    λ base. is_origin c.args.images.now c.head_by.result base c.requires
    (head_is c.args.images.now c.head_by.result c.newest-l.result c.superblock-superblock.result.now c.geometry-geometry.result
    c.newest-l.ensures c.superblock-superblock.ensures c.geometry-geometry.ensures
    c.head_by.ensures.sizes c.head_by.ensures.name c.head_by.ensures.uuid c.head_by.ensures.roles c.head_by.ensures.events c.head_by.ensures.pending)
    (subst IsGeometry (sym c.head_by.ensures.sizes) c.room-room.ensures.sound)
    (ap length c.head_by.ensures.name ∙ c.has_lengths.ensures.name)
    (ap length c.head_by.ensures.uuid ∙ c.has_lengths.ensures.uuid)
    (ap (λ (r : Roles). length r.legs) c.head_by.ensures.roles ∙ c.has_lengths.ensures.roles)
    (subst (λ g. c.head_by.result.pending < 2 ^ nodes_of g) (sym c.head_by.ensures.sizes) c.head_by.ensures.range)

pub returns-clause-legs : goal.returns-clause-legs
returns-clause-legs c =
    legs_by c.args.images.now c.newest-l.result c.geometry-geometry.result c.head_by.result.geometry c.requires c.newest-l.ensures.there
    c.geometry-geometry.ensures c.head_by.ensures.sizes

pub returns-clause-long : goal.returns-clause-long
returns-clause-long c =
    long_by c.args.images.now c.newest-l.result c.geometry-geometry.result c.head_by.result.geometry c.requires c.newest-l.ensures.there
    c.geometry-geometry.ensures c.head_by.ensures.sizes
