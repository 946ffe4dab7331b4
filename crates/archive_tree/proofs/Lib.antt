pub mod TreeLaws
pub mod Stacks
pub mod Rooms
pub mod Paths
pub mod Moves
pub mod Archives
