pub mod Places
pub mod PanelPieces
pub mod Texts
pub mod Chains
pub mod Gathered
pub mod Told
