pub mod Faults
pub mod Tags
pub mod Records
pub mod Reading
pub mod Heads
pub mod HeadLaws
pub mod Lines
pub mod Reports
