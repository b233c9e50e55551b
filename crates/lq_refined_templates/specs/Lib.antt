-- Templates, the points of programs where the typing rules take them, and programs with their points.
pub mod Points
pub mod Programs
pub mod Templates
