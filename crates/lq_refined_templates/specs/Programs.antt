-- Programs with their points: what they stand for.
pub mod BlockView
pub mod PointView
pub mod PureView
