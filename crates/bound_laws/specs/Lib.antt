pub mod Bounds
pub mod QuestionBounds
