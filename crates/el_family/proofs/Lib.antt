pub mod Courses
pub mod Grown
pub mod MeantTrees
pub mod OneFamily
pub mod Settled
pub mod TreeLines
pub mod Walks
pub mod Whole
