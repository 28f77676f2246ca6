-- Records that remain, packed.
pub mod Packing
