pub mod Lower
pub mod Framing
pub mod Closing
pub mod Meeting
pub mod Forms
