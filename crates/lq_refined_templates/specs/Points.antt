-- Points of normal programs and their templates: definitions.
pub mod Annotation
pub mod Seen
pub mod Point
pub mod Templates
pub mod Pure
pub mod Reading
pub mod Laws
pub mod Sample
pub mod Examples
pub mod MoreExamples
