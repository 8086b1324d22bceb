use Rattle.std.proofs.Common.{refl}
use Rattle.slot_pages.proofs.GrammarLaws.{empty_bit, empty_sector}
use Rattle.slot_pages.proofs.empty_page.Goals as goal

pub returns-else-p-eq0-clause-bits : goal.returns-else-p-eq0-clause-bits
returns-else-p-eq0-clause-bits c = λ k here. empty_bit 512 k

pub returns-else-p-eq0-clause-sector : goal.returns-else-p-eq0-clause-sector
returns-else-p-eq0-clause-sector c = empty_sector 512 refl
