-- what functions, laws and examples say besides
pub mod Printed
