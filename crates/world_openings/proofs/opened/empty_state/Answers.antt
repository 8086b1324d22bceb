use Rattle.std.proofs.Common.{◌∙◌}
use Rattle.world_openings.proofs.Empty.{nobody, same_members}
use Rattle.world_openings.proofs.opened.empty_state.Goals as goal

pub returns-clause-core : goal.returns-clause-core
returns-clause-core c =
    c.empty.ensures.core ∙ nobody c.args.opening.now _ _ c.in_ok-requests.requests c.in_ok-bitmaps.bitmaps c.in_ok-copies.copies c.in_ok-recoveries.recoveries c.in_ok-additions.additions
    c.identity.ensures (c.new-members.ensures ∙ same_members _ _ _ _ _ _ c.members.ensures c.pending.ensures c.events.ensures)
    c.in_ok-requests.ensures.writes c.in_ok-requests.ensures.reads c.in_ok-requests.ensures.writes_made c.in_ok-requests.ensures.reads_made
    c.in_ok-bitmaps.ensures.bits c.in_ok-copies.ensures.copies c.in_ok-recoveries.ensures.recoveries c.in_ok-additions.ensures.adding
