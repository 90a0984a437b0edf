pub mod Numbers
pub mod Putting
pub mod Fdclose
pub mod Fdswap
pub mod Fdmove
pub mod Redirfd
pub mod Heredoc
pub mod Piperw
