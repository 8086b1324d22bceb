-- A conversion from PW to PW writes its value.
use Rattle.std.proofs.Common.{◌≡◌, ℕ, Option, Some, refl}
use Rattle.dlm_modes.specs.declared.block.Block.{Block}
use Rattle.dlm_modes.specs.declared.mode.Mode.TheVariants.{PW}
use Rattle.dlm_space.specs.Locks.{Lock, converted, holding, with_value}

pub written : (lock : Lock) (n : ℕ) (value : Option Block) → lock.held n ≡ Some PW → converted lock n PW value ≡ holding (with_value lock value) n PW
written lock n value held = rw held refl
