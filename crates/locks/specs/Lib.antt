pub mod Hand
pub mod View
pub mod Changes
pub mod Asked
pub mod Admission
