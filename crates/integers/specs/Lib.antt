-- Laws of ℤ: linear facts for omega, sizes, signs, bits, sums over lists.
pub mod Sides
pub mod Linear
pub mod Sizes
pub mod Signs
pub mod Bits
pub mod Sums
