-- Classes of terms under the least congruence, with undo, over circular lists.
pub mod Classes
pub mod Ring
