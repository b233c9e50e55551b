-- The fields of predeclared constructors.
use Rattle.std.proofs.Common.{◌≡◌, ℕ, Bool, true, false, ◌==◌, if◌then◌else◌, List, [], ◌∷◌, Option, Some, None, subst}
use Rattle.lq_sound_values.specs.Inhabitants.Datatypes.{AllCovariantIn, AnyVariable, AreCovariant}
use Rattle.lq_text_walk.specs.Scoped.Signature.{signature_in}
use Rattle.lq_text_tree.specs.Signatures.{constructor_in, predeclared}
use Rattle.lq_text_tree.specs.Types.{Constructor}

abbrev IsCovariant : Option Constructor → Type 0
IsCovariant None = Unit {0}
IsCovariant (Some k) = AllCovariantIn AnyVariable k.fields

-- of each constructor of the list
abbrev EachCovariant : List (ℕ × Constructor) → Type 0
EachCovariant [] = Unit {0}
EachCovariant (e ∷ es) = AllCovariantIn AnyVariable e.1.fields × EachCovariant es

found_covariant : (es : List (ℕ × Constructor)) → EachCovariant es → AreCovariant (constructor_in es)
found_covariant [] each c k h = cc
found_covariant (e ∷ es) each c k h = by (e.0 == c) h (λ g. found_covariant es each.1 c k g)
  where
    by : (b : Bool) → (if b then Some e.1 else constructor_in es c) ≡ Some k → (constructor_in es c ≡ Some k → AllCovariantIn AnyVariable k.fields)
        → AllCovariantIn AnyVariable k.fields
    by true h rest = subst IsCovariant h each.0
    by false h rest = rest h

pub predeclared_covariant : AreCovariant (signature_in [])
predeclared_covariant = found_covariant predeclared (tt, ((tt, ((tt, tt), tt)), (tt, ((tt, tt), tt))))
