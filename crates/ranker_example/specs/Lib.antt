pub mod Lifo
