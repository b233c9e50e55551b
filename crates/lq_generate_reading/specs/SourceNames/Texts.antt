-- Programs whose recursive functions and named definitions have source names.
use Rattle.std.specs.Prelude.{◌≡◌, ℕ, List, [], ◌∷◌, slice_get, Option, Some, None}
use Rattle.lq_text_tree.specs.Items.{ItemTree, ItemForm, type_of, let_of, let_rec_of}
use Rattle.lq_text_tree.specs.Pattern.{Pattern, pattern, bind}
use Rattle.lq_text_tree.specs.Tree.{Tree}
use Rattle.lq_text_walk.specs.Walk.Fold.{Algebra, fold}
use Rattle.lq_meaning_normal_form.specs.Types.Written.{Each, EachBody}

-- the source name of a binder by those of all binders; what is no binder has none
abbrev pub source_of : Option (Option ℕ) → Option ℕ
source_of None = None
source_of (Some s) = s

abbrev pub text_in : List (Option ℕ) → ℕ → Option ℕ
text_in sources x = source_of (slice_get sources x)

-- the name has a source name
abbrev pub HasText : (ℕ → Option ℕ) → ℕ → Type 0
HasText text x = (s : ℕ) × (text x ≡ Some s)

-- each function that is defined by `let rec` has one
abbrev pub having_texts : (ℕ → Option ℕ) → Algebra (Type 0)
having_texts text = record {
  leaf = λ t h. Unit {0};
  one = λ t h a. a;
  two = λ t h a b. a × b;
  three = λ t h a b c. a × b × c;
  row = λ t h as_. Each as_;
  function = λ t q b. b;
  let_in = λ t q e b. e × b;
  let_rec = λ t f i p q e b. HasText text f × e × b;
  match_on = λ t e as_. e × EachBody as_;
}

-- in an expression
abbrev pub FunctionsHaveTexts : (ℕ → Option ℕ) → Tree → Type 0
FunctionsHaveTexts text = fold (having_texts text)

-- a pattern that is a name; of others nothing is asked
abbrev pub NameHasText : (ℕ → Option ℕ) → Pattern → Type 0
NameHasText text (pattern l (bind x)) = HasText text x
NameHasText text (pattern l f) = Unit {0}

abbrev pub ItemHasTexts : (ℕ → Option ℕ) → ItemForm → Type 0
ItemHasTexts text (type_of d) = Unit {0}
ItemHasTexts text (let_of q e) = NameHasText text q × FunctionsHaveTexts text e
ItemHasTexts text (let_rec_of f r) = HasText text f × FunctionsHaveTexts text r.body

-- What a program defines has source names: the functions of `let rec`, also inside expressions, and the names of `let x = ..`.
abbrev pub DefinesTexts : (ℕ → Option ℕ) → List ItemTree → Type 0
DefinesTexts text [] = Unit {0}
DefinesTexts text (i ∷ is) = ItemHasTexts text i.form × DefinesTexts text is
