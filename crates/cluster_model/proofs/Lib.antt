pub mod Small
mod PathTests
mod MemberTests
mod SenderTests
mod WishTests
mod ReceiverTests
mod RequestTests
mod CopyTests
mod RecoveryTests
pub mod Player
pub mod RowTests
mod RoundTests
mod SuspensionTests
mod ChangeTests
mod RecoveryRows
mod RequestRows
mod RecovererRows
mod ReAddRows
mod AdditionRows
mod JoinRows
pub mod Legs
mod ServedTests
mod TrustedTests
mod MarkedTests
mod SizeTests
mod OpeningTests
mod MoveTests
mod RecoveredTests
