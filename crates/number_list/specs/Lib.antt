pub mod Rules
pub mod Left
