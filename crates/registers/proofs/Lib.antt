pub mod Bits
mod Listing
mod Masks
