pub mod ChainLaws
pub mod WholeLaws
pub mod ChainSymbolLaws
pub mod LengthLaws
pub mod JumpLaws
