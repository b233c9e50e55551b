-- Normal forms that can be read as programs of the typing rules: definitions.
pub mod Normal
pub mod Uses
pub mod Laws
