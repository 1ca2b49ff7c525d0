pub mod Rules
pub mod NamedKeys
