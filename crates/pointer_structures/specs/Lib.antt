pub mod Prunes
pub mod Refusals
pub mod Stacks
pub mod Trees
pub mod Watches
