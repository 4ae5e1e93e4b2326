pub mod RecordForm
pub mod RefusalSizes
