-- Types as they are written. A case for each line of the grammar, which stands over it; a line with a star has one case more for what may
-- follow. What has been read of a row stands before what is the whole row. A type stands at its first token, parentheses aside.
use Rattle.std.specs.Prelude.{ℕ, List, [], ◌∷◌, ◌++◌}
use Rattle.lq_base_names.specs.declared.place.Place.{Place}
use Rattle.lq_text_grammar.specs.declared.kind.Kind.TheVariants as kind
use Rattle.lq_text_tree.specs.TypeTree.{TypeTree, type_tree, variable, apply, product, arrow}
use Rattle.lq_text_tree.specs.TypeView.{type_trees_of}
use Rattle.lq_text_parser.specs.Syntax.Tokens.{Token, place_of, place_at, Is, IsName, Stops}

pub data TypePhrase : Type 0 where
  a_type : TypeTree → TypePhrase
  a_product : TypeTree → TypePhrase
  an_applied : TypeTree → TypePhrase
  -- further members of a product
  members : List TypeTree → List TypeTree → TypePhrase
  -- further types in parentheses, up to the last one
  inside : List TypeTree → List TypeTree → TypePhrase
  -- names behind a type that begins at a place
  names : Place → TypeTree → TypeTree → TypePhrase

-- The tokens begin with this, and those are left.
pub data ReadsType : TypePhrase → List Token → List Token → Type 0 where
  -- type ::= product ("->" type)?
  type_product : {a : TypeTree} {ts us : List Token}
      → ReadsType (a_product a) ts us → Stops (kind.Arrow ∷ []) us
      → ReadsType (a_type a) ts us
  type_arrow : {a b : TypeTree} {t : Token} {ts us vs : List Token}
      → ReadsType (a_product a) ts (t ∷ us) → Is kind.Arrow t → ReadsType (a_type b) us vs
      → ReadsType (a_type (type_tree (place_at ts) (arrow a b))) ts vs
  -- product ::= applied ("*" applied)*
  product_one : {a : TypeTree} {ts us : List Token}
      → ReadsType (an_applied a) ts us → Stops (kind.Star ∷ []) us
      → ReadsType (a_product a) ts us
  product_more : {a b : TypeTree} {cs : List TypeTree} {t : Token} {ts us vs ws : List Token}
      → ReadsType (an_applied a) ts (t ∷ us) → Is kind.Star t → ReadsType (an_applied b) us vs
      → ReadsType (members (a ∷ b ∷ []) cs) vs ws
      → ReadsType (a_product (type_tree (place_at ts) (product (type_trees_of cs)))) ts ws
  members_end : {rs : List TypeTree} {ts : List Token} → Stops (kind.Star ∷ []) ts → ReadsType (members rs rs) ts ts
  members_more : {rs cs : List TypeTree} {b : TypeTree} {t : Token} {us vs ws : List Token}
      → Is kind.Star t → ReadsType (an_applied b) us vs → ReadsType (members (rs ++ b ∷ []) cs) vs ws
      → ReadsType (members rs cs) (t ∷ us) ws
  -- applied ::= ('name | name | "(" type ("," type)* ")") name*
  applied_variable : {x : ℕ} {a : TypeTree} {t : Token} {us vs : List Token}
      → IsName kind.TypeVariable x t
      → ReadsType (names (place_of t) (type_tree (place_of t) (variable x)) a) us vs
      → ReadsType (an_applied a) (t ∷ us) vs
  applied_name : {x : ℕ} {a : TypeTree} {t : Token} {us vs : List Token}
      → IsName kind.LowerName x t
      → ReadsType (names (place_of t) (type_tree (place_of t) (apply (type_trees_of []) x (place_of t))) a) us vs
      → ReadsType (an_applied a) (t ∷ us) vs
  applied_inside : {a b : TypeTree} {t u : Token} {us vs ws : List Token}
      → Is kind.Open t → ReadsType (a_type a) us (u ∷ vs) → Is kind.Close u
      → ReadsType (names (place_of t) a b) vs ws
      → ReadsType (an_applied b) (t ∷ us) ws
  -- two types or more in parentheses have a type name behind them
  applied_row : {a b d : TypeTree} {cs : List TypeTree} {x : ℕ} {t u v : Token} {us vs ws xs ys : List Token}
      → Is kind.Open t → ReadsType (a_type a) us (u ∷ vs) → Is kind.Comma u → ReadsType (a_type b) vs ws
      → ReadsType (inside (a ∷ b ∷ []) cs) ws (v ∷ xs) → IsName kind.LowerName x v
      → ReadsType (names (place_of t) (type_tree (place_of t) (apply (type_trees_of cs) x (place_of v))) d) xs ys
      → ReadsType (an_applied d) (t ∷ us) ys
  inside_end : {rs : List TypeTree} {t : Token} {us : List Token} → Is kind.Close t → ReadsType (inside rs rs) (t ∷ us) us
  inside_more : {rs cs : List TypeTree} {b : TypeTree} {t : Token} {us vs ws : List Token}
      → Is kind.Comma t → ReadsType (a_type b) us vs → ReadsType (inside (rs ++ b ∷ []) cs) vs ws
      → ReadsType (inside rs cs) (t ∷ us) ws
  names_end : {p : Place} {a : TypeTree} {ts : List Token} → Stops (kind.LowerName ∷ []) ts → ReadsType (names p a a) ts ts
  names_more : {p : Place} {a b : TypeTree} {x : ℕ} {t : Token} {us vs : List Token}
      → IsName kind.LowerName x t
      → ReadsType (names p (type_tree p (apply (type_trees_of (a ∷ [])) x (place_of t))) b) us vs
      → ReadsType (names p a b) (t ∷ us) vs
