-- Principal types of programs, and the types by which the uses of their definitions are instantiated.
pub mod Annotation
pub mod Inference
pub mod Instantiation
pub mod Solution
