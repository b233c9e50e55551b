-- The items of programs: a case for each line of the grammar.
use Rattle.std.specs.Prelude.{ℕ, List, [], ◌∷◌, ◌++◌}
use Rattle.lq_text_grammar.specs.Grammar.{begin_item}
use Rattle.lq_text_grammar.specs.declared.kind.Kind.TheVariants as kind
use Rattle.lq_text_tree.specs.Items.{Named, Construct, ItemTree, type_of, let_of, let_rec_of}
use Rattle.lq_text_tree.specs.Pattern.{Pattern}
use Rattle.lq_text_tree.specs.Tree.{Tree}
use Rattle.lq_text_tree.specs.TreeView.{Recursive}
use Rattle.lq_text_tree.specs.TypeTree.{TypeTree}
use Rattle.lq_text_tree.specs.TypeView.{type_trees_of}
use Rattle.lq_text_parser.specs.Syntax.Expressions.{Reads, a_definition, a_recursive}
use Rattle.lq_text_parser.specs.Syntax.Tokens.{Token, place_of, Is, IsName, Stops, Maybe, Taken}
use Rattle.lq_text_parser.specs.Syntax.Types.{ReadsType, an_applied}

pub data DefinitionPhrase : Type 0 where
  -- the parameters of a type with its name's token still to come; further ones up to the parenthesis
  parameters : List Named → DefinitionPhrase
  more_parameters : List Named → List Named → DefinitionPhrase
  -- constructors: those before, and all
  constructors : List Construct → List Construct → DefinitionPhrase
  more_constructors : List Construct → List Construct → DefinitionPhrase
  -- the types of a constructor's fields, and further ones
  fields : List TypeTree → DefinitionPhrase
  more_fields : List TypeTree → List TypeTree → DefinitionPhrase

pub data ReadsDefinition : DefinitionPhrase → List Token → List Token → Type 0 where
  -- params ::= 'name | "(" 'name ("," 'name)* ")"
  parameters_none : {ts : List Token} → ReadsDefinition (parameters []) ts ts
  parameters_one : {x : ℕ} {t : Token} {us : List Token}
      → IsName kind.TypeVariable x t
      → ReadsDefinition (parameters ((record { name = x; place = place_of t }) ∷ [])) (t ∷ us) us
  parameters_many : {x : ℕ} {ps : List Named} {t u : Token} {us vs : List Token}
      → Is kind.Open t → IsName kind.TypeVariable x u
      → ReadsDefinition (more_parameters ((record { name = x; place = place_of u }) ∷ []) ps) us vs
      → ReadsDefinition (parameters ps) (t ∷ u ∷ us) vs
  parameters_end : {ps : List Named} {t : Token} {us : List Token} → Is kind.Close t → ReadsDefinition (more_parameters ps ps) (t ∷ us) us
  parameters_more : {x : ℕ} {ps qs : List Named} {t u : Token} {us vs : List Token}
      → Is kind.Comma t → IsName kind.TypeVariable x u
      → ReadsDefinition (more_parameters (ps ++ (record { name = x; place = place_of u }) ∷ []) qs) us vs
      → ReadsDefinition (more_parameters ps qs) (t ∷ u ∷ us) vs
  -- constructor ::= Name ("of" applied ("*" applied)*)?
  constructor : {c : ℕ} {cs ds : List Construct} {rs : List TypeTree} {t : Token} {us vs ws : List Token}
      → IsName kind.UpperName c t → ReadsDefinition (fields rs) us vs
      → ReadsDefinition (more_constructors (cs ++ (record { name = c; place = place_of t; fields = type_trees_of rs }) ∷ []) ds) vs ws
      → ReadsDefinition (constructors cs ds) (t ∷ us) ws
  constructors_end : {cs : List Construct} {ts : List Token} → Stops (kind.Bar ∷ []) ts → ReadsDefinition (more_constructors cs cs) ts ts
  constructors_more : {cs ds : List Construct} {t : Token} {us vs : List Token}
      → Is kind.Bar t → ReadsDefinition (constructors cs ds) us vs → ReadsDefinition (more_constructors cs ds) (t ∷ us) vs
  fields_none : {ts : List Token} → Stops (kind.Of ∷ []) ts → ReadsDefinition (fields []) ts ts
  fields_some : {a : TypeTree} {bs : List TypeTree} {t : Token} {us vs ws : List Token}
      → Is kind.Of t → ReadsType (an_applied a) us vs → ReadsDefinition (more_fields (a ∷ []) bs) vs ws
      → ReadsDefinition (fields bs) (t ∷ us) ws
  fields_end : {rs : List TypeTree} {ts : List Token} → Stops (kind.Star ∷ []) ts → ReadsDefinition (more_fields rs rs) ts ts
  fields_more : {rs cs : List TypeTree} {b : TypeTree} {t : Token} {us vs ws : List Token}
      → Is kind.Star t → ReadsType (an_applied b) us vs → ReadsDefinition (more_fields (rs ++ b ∷ []) cs) vs ws
      → ReadsDefinition (more_fields rs cs) (t ∷ us) ws

-- item ::= "type" params? name "=" "|"? constructor ("|" constructor)*
--        | "let" (name param* | "_" | "(" ")") "=" seq
--        | "let" "rec" recursive
pub data ReadsItem : ItemTree → ℕ → List Token → ℕ → List Token → Type 0 where
  item_type : {x n : ℕ} {ps : List Named} {cs : List Construct} {t u v : Token} {us vs ws xs : List Token}
      → Is kind.Type t → ReadsDefinition (parameters ps) us (u ∷ v ∷ vs) → IsName kind.LowerName x u → Is kind.Equal v
      → Maybe kind.Bar vs ws → ReadsDefinition (constructors [] cs) ws xs
      → ReadsItem (record { place = place_of t; form = type_of (record { name = x; place = place_of u; parameters = ps; constructors = cs }) }) n (t ∷ us) n xs
  item_let : {p : Pattern} {b : Tree} {t : Token} {n i : ℕ} {us vs : List Token}
      → Is kind.Let t → Reads (a_definition p b) n us i vs
      → ReadsItem (record { place = place_of t; form = let_of p b }) n (t ∷ us) i vs
  item_rec : {f : ℕ} {r : Recursive} {t u : Token} {n i : ℕ} {us vs : List Token}
      → Is kind.Let t → Is kind.Rec u → Reads (a_recursive f r) n us i vs
      → ReadsItem (record { place = place_of t; form = let_rec_of f r }) n (t ∷ u ∷ us) i vs

-- program ::= (item ";;"?)*
-- The items before, and all.
pub data ReadsItems : List ItemTree → List ItemTree → ℕ → List Token → ℕ → List Token → Type 0 where
  items_end : {is : List ItemTree} {n : ℕ} {ts : List Token} → Stops begin_item ts → ReadsItems is is n ts n ts
  items_more : {i : ItemTree} {is js : List ItemTree} {n k m : ℕ} {ts us vs ws : List Token}
      → ReadsItem i n ts k us → Taken kind.DoubleSemicolon us vs → ReadsItems (is ++ i ∷ []) js k vs m ws
      → ReadsItems is js n ts m ws
