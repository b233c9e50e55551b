-- Trees whose patterns are as texts have them: the pattern of an arm is flat, and a parameter is what may be one.
use Rattle.std.specs.Prelude.{◌≡◌, true, List, [], ◌∷◌}
use Rattle.lq_text_tree.specs.Items.{ItemTree, ItemForm, type_of, let_of, let_rec_of}
use Rattle.lq_text_tree.specs.Pattern.{Pattern}
use Rattle.lq_text_tree.specs.Tree.{Tree}
use Rattle.lq_text_walk.specs.Walk.Fold.{Algebra, fold}
use Rattle.lq_text_resolve.specs.Resolution.Parameters.{is_taken}
use Rattle.lq_meaning_normal_form.specs.Types.Written.{Takes, Each}
use Rattle.lq_sound_readiness.specs.NormalReading.Suits.{EachArmSuits, IsFlat}

-- a parameter of a text: a name, `_`, `()` or a tuple of names and `_`
abbrev pub IsParameter : Pattern → Type 0
IsParameter q = IsFlat q × (is_taken q ≡ true)

-- Patterns where parameters are of this kind.
module _ (P : Pattern → Type 0) where
  abbrev pub being_flat : Algebra (Type 0)
  being_flat = record {
    leaf = λ t h. Unit {0};
    one = λ t h a. a;
    two = λ t h a b. a × b;
    three = λ t h a b c. a × b × c;
    row = λ t h as_. Each as_;
    function = λ t q b. P q × b;
    let_in = λ t q e b. e × b;
    let_rec = λ t f i p q e b. P q × e × b;
    match_on = λ t e as_. e × EachArmSuits as_;
  }

  abbrev pub HasFlat : Tree → Type 0
  HasFlat = fold being_flat

  abbrev pub ItemHasFlat : ItemForm → Type 0
  ItemHasFlat (type_of d) = Unit {0}
  ItemHasFlat (let_of q e) = HasFlat e
  ItemHasFlat (let_rec_of f r) = P r.parameter × HasFlat r.body

  abbrev pub ItemsHaveFlat : List ItemTree → Type 0
  ItemsHaveFlat [] = Unit {0}
  ItemsHaveFlat (i ∷ is) = ItemHasFlat i.form × ItemsHaveFlat is

-- once names are bound, a parameter is a name, `_` or `()`, and a tuple has become a match
abbrev pub ItemsAreFlat : List ItemTree → Type 0
ItemsAreFlat = ItemsHaveFlat Takes
