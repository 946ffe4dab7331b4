pub mod ElementOrders
pub mod Verbatim
pub mod ShownRecords
pub mod RecordFields
pub mod Reescaped
pub mod Unsorted
pub mod Sorting
