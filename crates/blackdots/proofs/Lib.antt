pub mod ByteOnes
mod Adding
mod BitmapDots
mod RunDots
pub mod Drawn
