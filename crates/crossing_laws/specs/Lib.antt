pub mod Brackets
pub mod FirstVoid
pub mod Listed
pub mod StepTests
