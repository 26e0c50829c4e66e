pub mod SymbolTable
pub mod Read
