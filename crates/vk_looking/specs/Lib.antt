-- what functions say besides
pub mod FilesToRead
pub mod LookMachine
