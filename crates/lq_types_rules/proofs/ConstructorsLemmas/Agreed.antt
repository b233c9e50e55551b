-- The constructors of datatypes are those of the items.
use Rattle.std.proofs.Common.{◌≡◌, ℕ, List, [], ◌∷◌, ◌++◌, map, refl, sym, ap, ap₂, ◌∙◌}
use Rattle.std.proofs.lemmas.List.{append-nil, append_assoc, length-map}
use Rattle.lq_text_tree.specs.Items.{Construct, Datatype, ItemTree, ItemForm, type_of, let_of, let_rec_of}
use Rattle.lq_text_tree.specs.Signatures.{all_written, constructor_of, constructors_of, all_constructors, constructor_in, predeclared}
use Rattle.lq_text_tree.specs.Types.{Constructor}
use Rattle.lq_text_walk.specs.Scoped.Signature.{DataTree, signed, constructors_in, constructor_tree, data_tree}
use Rattle.lq_text_datatypes.specs.Datatypes.{datatype_in, datatypes_in}
use Rattle.lq_types_rules.specs.Constructors.Agreeing.{SignaturesAgree}

one_agrees : (d : Datatype) (cs : List Construct) → map (signed (data_tree d)) (map (constructor_tree d) cs) ≡ map (constructor_of d.name d.parameters) cs
one_agrees d [] = refl
one_agrees d (c ∷ cs) = ap₂ (λ (n : ℕ) (ks : List (ℕ × Constructor)). (c.name, record { datatype = d.name; parameters = n; fields = all_written d.parameters c.fields }) ∷ ks)
    (length-map d.parameters (λ p. p.name)) (one_agrees d cs)

pub joined : (ds es : List DataTree) → constructors_in (ds ++ es) ≡ constructors_in ds ++ constructors_in es
joined [] es = refl
joined (d ∷ ds) es = ap (λ ks. map (signed d) d.constructors ++ ks) (joined ds es) ∙ sym (append_assoc (map (signed d) d.constructors) (constructors_in ds) (constructors_in es))

form_agrees : (f : ItemForm) → constructors_in (datatype_in f) ≡ constructors_of f
form_agrees (type_of d) = append-nil (map (signed (data_tree d)) (map (constructor_tree d) d.constructors)) ∙ one_agrees d d.constructors
form_agrees (let_of p e) = refl
form_agrees (let_rec_of f r) = refl

items_agree : (is : List ItemTree) → constructors_in (datatypes_in is) ≡ all_constructors is
items_agree [] = refl
items_agree (i ∷ is) = joined (datatype_in i.form) (datatypes_in is) ∙ ap₂ (λ (a b : List (ℕ × Constructor)). a ++ b) (form_agrees i.form) (items_agree is)

pub agree : SignaturesAgree
agree is c = ap (λ ks. constructor_in (predeclared ++ ks) c) (items_agree is)
