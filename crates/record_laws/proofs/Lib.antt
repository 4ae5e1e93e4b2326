pub mod VoidStations
pub mod Forms
pub mod Outcome
pub mod Jobs
pub mod RefusalSizes
