mod Cutting
mod Stepping
mod Begun
mod Heading
mod Adding
mod OneHead
