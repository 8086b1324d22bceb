use Rattle.std.specs.Prelude.{Option, option_map}
use Rattle.slot_pages.specs.Slot.{page_has}
use Rattle.node_recovery.specs.Progress.{Recovering, with_found, with_read}
use Rattle.node_copies.proofs.TableLaws.{all_at}
use Rattle.node_copies.specs.Recoveries.{recovery_of, IsOf, no_place}
use Rattle.node_copies.proofs.TableLaws.{place_call}
use Rattle.node_copies.proofs.recoveries.Recoveries.note_page.Goals as goal

pub note_page-requires-clause-size : goal.note_page-requires-clause-size
note_page-requires-clause-size c = (all_at (IsOf c.self.inside.geometry) no_place c.self.inside.places.items c.args.n c.index_mut.result.now c.self.invariant c.requires.node c.index_mut.ensures.value).size

pub returns-clause-recovery : goal.returns-clause-recovery
returns-clause-recovery c = rw (← c.self.view_is) (place_call recovery_of (IsOf c.self.inside.geometry) (λ (x : Option Recovering). option_map (λ (r : Recovering). with_found (with_read r c.args.p c.args.l) (page_has c.self.inside.geometry c.args.p c.args.page.now.bytes)) x) no_place c.self.inside.places.items c.args.n c.index_mut.result.now (c.note_page.new.x) c.self.invariant c.requires.node c.index_mut.ensures.value (c.note_page.ensures.recovery))
