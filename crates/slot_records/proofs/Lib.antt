mod SlotSteps
pub mod Inputs
