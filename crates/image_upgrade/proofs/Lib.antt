pub mod AtLaws
pub mod BackLaws
pub mod PutLaws
pub mod StoreLaws
pub mod UpgradeLaws
pub mod StandLaws
