pub mod Fields
pub mod PlaceTexts
pub mod Order
pub mod Refusals
pub mod Computed
pub mod Answered
