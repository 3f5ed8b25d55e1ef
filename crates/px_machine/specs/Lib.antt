pub mod Unpruned
pub mod Reads
pub mod Shelves
pub mod Tables
pub mod Facts
pub mod Machines
