mod TypeByte
pub mod Codec
pub mod Contents
pub mod Packets
pub mod Parts
