-- An item that defines a datatype.
use Rattle.std.proofs.Common.{◌≡◌, [], ◌∷◌, map, subst, sym, ap, ◌∙◌}
use Rattle.lq_base_names.specs.declared.name.Name.{Name}
use Rattle.lq_text_tree.specs.Items.{item_form_view, definition_view}
use Rattle.lq_text_tree.specs.declared.item.ItemNode.{ItemNode}
use Rattle.lq_text_tree.specs.declared.item.ItemNode.TheVariants as node
use Rattle.lq_text_tree.specs.declared.item.TypeDefinition.{TypeDefinition}
use Rattle.lq_text_scope.specs.Complaints.{least_with}
use Rattle.lq_text_scope.specs.Datatypes.{name_of, of_datatype, with_constructors, type_arity}
use Rattle.lq_text_scope.specs.Known.{known_with}
use Rattle.lq_text_scope.specs.Passing.{about_item, known_at}
use Rattle.lq_text_scope.specs.States.{HasFound, known_of, best_of, open_of}
use Rattle.lq_text_scope.specs.declared.checker.Checker.{Checker}

pub defined_item : (old new : Checker) (d : TypeDefinition) (n : ItemNode Name) → n ≡ node.Type d → new.names.now ≡ old.names.now
    → map name_of new.variables ≡ map name_of old.variables → new.constructors ≡ with_constructors old.constructors (definition_view d).constructors
    → new.types ≡ type_arity (definition_view d) ∷ old.types
    → open_of new ≡ 0 → best_of new ≡ least_with (best_of old) (of_datatype (known_of old) (definition_view d)) → new.seen ≡ []
    → HasFound old new (about_item (known_of old) (item_form_view Name (λ m. m.0) n)) (known_at (known_of old) (item_form_view Name (λ m. m.0) n)) 0
defined_item old new d n is names variables constructors types closed best seen =
    subst (λ m. HasFound old new (about_item (known_of old) (item_form_view Name (λ x. x.0) m)) (known_at (known_of old) (item_form_view Name (λ x. x.0) m)) 0) (sym is)
    (record {
      names = names;
      known = ap (λ vs. known_with vs new.constructors new.types) variables ∙ ap (λ cs. known_with (map name_of old.variables) cs new.types) constructors
          ∙ ap (λ ts. known_with (map name_of old.variables) (with_constructors old.constructors (definition_view d).constructors) ts) types;
      open_ = closed;
      best = best;
      seen = seen;
    })
