-- What a simple type is, without the memory that holds it. A datatype's name is its number.
use Rattle.std.specs.Prelude.{ℕ}

mutual
  pub data MlType : Type 0 where
    int : MlType
    bool : MlType
    unit : MlType
    var : ℕ → MlType
    arrow : MlType → MlType → MlType
    tuple : MlTypes → MlType
    array : MlType → MlType
    named : ℕ → MlTypes → MlType
    map_of : MlType → MlType

  pub data MlTypes : Type 0 where
    no_types : MlTypes
    more_types : MlType → MlTypes → MlTypes
