-- The datatypes of items, one after another.
use Rattle.std.proofs.Common.{◌≡◌, ◌+◌, ◌<◌, ℕ, List, [], ◌∷◌, ◌++◌, take, length, get_or, sym, ap, ◌∙◌}
use Rattle.std.proofs.lemmas.List.{append_assoc, append-nil, map-append, take_more}
use Rattle.lq_base_names.specs.declared.name.Name.{Name}
use Rattle.lq_text_tree.specs.Items.{ItemTree, item_view, parsed_items}
use Rattle.lq_text_tree.specs.declared.item.Item.{Item}
use Rattle.lq_text_walk.specs.Scoped.Signature.{DataTree}
use Rattle.lq_text_datatypes.specs.Datatypes.{datatype_in, datatypes_in}

datatypes_more : (is : List ItemTree) (i : ItemTree) → datatypes_in (is ++ i ∷ []) ≡ datatypes_in is ++ datatype_in i.form
datatypes_more [] i = append-nil (datatype_in i.form)
datatypes_more (j ∷ is) i = ap (λ (ds : List DataTree). datatype_in j.form ++ ds) (datatypes_more is i) ∙ sym (append_assoc (datatype_in j.form) (datatypes_in is) (datatype_in i.form))

pub one_more : (is : List (Item Name)) (at : ℕ) (i : Item Name) (old new : List DataTree) → at < length is → i ≡ get_or is at i
    → old ≡ datatypes_in (parsed_items (take at is)) → new ≡ old ++ datatype_in (item_view Name (λ n. n.0) i).form → new ≡ datatypes_in (parsed_items (take (at + 1) is))
one_more is at i old new less here before then =
    then ∙ ap (λ (ds : List DataTree). ds ++ datatype_in (item_view Name (λ n. n.0) i).form) before
    ∙ sym (datatypes_more (parsed_items (take at is)) (item_view Name (λ n. n.0) i))
    ∙ ap datatypes_in (sym (map-append (item_view Name (λ n. n.0)) (take at is) (i ∷ [])))
    ∙ ap (λ (js : List (Item Name)). datatypes_in (parsed_items js)) (sym (take_more is at i less ∙ ap (λ (j : Item Name). take at is ++ j ∷ []) (sym here)))
