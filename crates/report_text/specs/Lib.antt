pub mod Texts
pub mod BufferTexts
pub mod Placed
