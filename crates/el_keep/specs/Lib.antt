pub mod Comments
pub mod Seams
pub mod Kept
pub mod Widened
pub mod Parts
pub mod Rendered
pub mod Texts
pub mod Laws
