pub mod Files
pub mod Created
pub mod Laws
