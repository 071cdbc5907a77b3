pub mod Aut
