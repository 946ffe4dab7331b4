pub mod Painting
pub mod Coloring
pub mod Handling
