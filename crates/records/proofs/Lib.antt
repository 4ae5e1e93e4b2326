pub mod Sizes
pub mod Tables
pub mod RefusalParts
pub mod RoundTrip
pub mod Answers
pub mod SingleFields
pub mod Reading
