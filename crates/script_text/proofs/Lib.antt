pub mod OutsideLaws
pub mod DueLaws
pub mod LinesLaws
pub mod NumbersLaws
pub mod HexLaws
pub mod ReadingLaws
pub mod PlacesLaws
pub mod GrammarLaws
mod ImagesLaws
mod LockLaws
mod WireLaws
pub mod InputLaws
pub mod PartLaws
