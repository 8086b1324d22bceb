use Rattle.std.proofs.Common.{◌≡◌, map, refl, sym, ap, ◌∙◌, arith}
use Rattle.std.proofs.lemmas.List.{length-map}
use Rattle.mdc_types.specs.declared.events.Event.TheVariants.{Load}
use Rattle.mdc_types.specs.declared.outcomes.Outcome.TheVariants.{Unread}
use Rattle.md_superblock.specs.Arrays.{says_in}
use Rattle.cluster_model.specs.After.{after}
use Rattle.cluster_model.specs.Transfers.{reads_from}
use Rattle.world_state.specs.Kept.{core_of}
use Rattle.world_state.specs.Told.{seen_of, has_failed}
use Rattle.world_state.proofs.Carrying.{got, not_got}
use Rattle.world_members.proofs.Stepping.{super_after, no_failure}
use Rattle.world_members.proofs.Telling.{loads_at}
use Rattle.world_members.proofs.joining.load.Goals as goal

pub receive-requires : goal.receive-requires
receive-requires g c =
    let p = loads_at (core_of c.args.core.now) c.args.n c.args.l (map g.L.LegDev.size c.args.legs.now.items) c.requires.ready c.requires.accepted c.requires.fits in
    record {
      node = p.node;
      leg = p.leg;
      there = omega (arith, p.there, length-map c.args.legs.now.items g.L.LegDev.size);
      within = p.within;
    }

pub returns-in-Ok : goal.returns-in-Ok
returns-in-Ok g c =
    let core = core_of c.args.core.now in
    let n = c.args.n in
    let l = c.args.l in
    let x = says_in core.array l c.in-Ok.v.bytes in
    let before = seen_of g.L.LegDev.contents g.L.LegDev.size g.L.LegDev.faults g.L.LegDev.plan c.args.legs.now.items in
    let now = seen_of g.L.LegDev.contents g.L.LegDev.size g.L.LegDev.faults g.L.LegDev.plan c.receive.new.legs.items in
    let effect : core_of c.note_super.new.core ≡ after core (Load n l) c.note_super.result =
    c.note_super.ensures.core ∙ super_after core n l c.in-Ok.v x refl ∙ ap (after core (Load n l)) (sym c.note_super.ensures.outcome) in
    record {
      carried = got c.args.core.now c.note_super.new.core before now (Load n l) c.note_super.result (reads_from n l 8) c.requires.accepted refl refl effect
          c.in-Ok.v c.in-Ok.ensures c.note_super.ensures.outcome (ap has_failed c.note_super.ensures.outcome ∙ no_failure l c.in-Ok.v x);
    }

pub returns-in-Err : goal.returns-in-Err
returns-in-Err g c =
    let n = c.args.n in
    let l = c.args.l in
    let before = seen_of g.L.LegDev.contents g.L.LegDev.size g.L.LegDev.faults g.L.LegDev.plan c.args.legs.now.items in
    let now = seen_of g.L.LegDev.contents g.L.LegDev.size g.L.LegDev.faults g.L.LegDev.plan c.receive.new.legs.items in
    record {
      carried = not_got c.args.core.now c.set_try.new.core before now (Load n l) (Unread l) (reads_from n l 8) c.requires.accepted refl refl c.set_try.ensures
          c.in-Err.field-0 c.in-Err.ensures refl;
    }
