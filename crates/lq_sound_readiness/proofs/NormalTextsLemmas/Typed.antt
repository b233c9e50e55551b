-- A program's own definitions of datatypes give its definitions types.
use Rattle.std.specs.Prelude.{map}
use Rattle.std.proofs.Common.{◌≡◌, ℕ, suc, List, [], ◌∷◌, ◌++◌, length, Option, Some, refl, sym, ap, ◌∙◌, subst}
use Rattle.std.proofs.lemmas.List.{length-map}
use Rattle.lq_base_names.specs.declared.place.Place.{Place}
use Rattle.lq_text_tree.specs.Pattern.{bound_in}
use Rattle.lq_text_tree.specs.Items.{Construct, Datatype, Named, ItemTree, ItemForm, type_of, let_of, let_rec_of}
use Rattle.lq_text_tree.specs.Signatures.{all_written, constructor_in, constructor_of, constructors_of, all_constructors, predeclared}
use Rattle.lq_text_tree.specs.Types.{Signature, Constructor}
use Rattle.lq_text_tree.specs.TypingRules.{Annotation, ItemsAre}
use Rattle.lq_meaning_steps.specs.Model.FromTree.{items_of}
use Rattle.lq_text_scope.specs.Datatypes.{with_constructors}
use Rattle.lq_text_walk.specs.Scoped.Signature.{constructors_in, constructor_tree, data_tree, signature_in, signed}
use Rattle.lq_text_datatypes.specs.Datatypes.{datatype_in, datatypes_in}
use Rattle.lq_text_resolve.specs.Binding.Binding.{sources_of}
use Rattle.lq_text_resolve.specs.Binding.Making.{Frame, frame_with, Items_made, first_frame, shown, named, made, taken, item_made, items_made}
use Rattle.lq_text_resolve.specs.Resolution.Resolution.{scoping_of}
use Rattle.lq_sound_readiness.specs.NormalTexts.Laws.{AnnotatedProgramsHaveTypes}

-- the definitions of datatypes among items
abbrev with_type : Place → ItemForm → List ItemTree → List ItemTree
with_type p (type_of d) is = record { place = p; form = type_of d } ∷ is
with_type p (let_of q e) is = is
with_type p (let_rec_of f r) is = is

abbrev types_among : List ItemTree → List ItemTree
types_among [] = []
types_among (i ∷ is) = with_type i.place i.form (types_among is)

-- they are no items of the meaning
with-none : (p : Place) (f : ItemForm) (ts : List ItemTree) → items_of ts ≡ [] → items_of (with_type p f ts) ≡ []
with-none p (type_of d) ts e = e
with-none p (let_of q x) ts e = e
with-none p (let_rec_of f r) ts e = e

types-none : (is : List ItemTree) → items_of (types_among is) ≡ []
types-none [] = refl
types-none (i ∷ is) = with-none i.place i.form (types_among is) (types-none is)

-- ---- constructors

-- a constructor of a datatype with so many parameters
abbrev sized : Datatype → Construct → ℕ → ℕ × Constructor
sized d c k = (c.name, record { datatype = d.name; parameters = k; fields = all_written d.parameters c.fields })

same-constructors : (d : Datatype) (cs : List Construct) → map (constructor_of d.name d.parameters) cs ≡ map (signed (data_tree d)) (map (constructor_tree d) cs)
same-constructors d [] = refl
same-constructors d (c ∷ cs) =
    let head = ap (sized d c) (length-map d.parameters (λ (p : Named). p.name)) in let rest = same-constructors d cs in cc

same-with : (p : Place) (f : ItemForm) (ts is : List ItemTree) → all_constructors ts ≡ constructors_in (datatypes_in is)
    → all_constructors (with_type p f ts) ≡ constructors_in (datatype_in f ++ datatypes_in is)
same-with p (type_of d) ts is e = let head = same-constructors d d.constructors in cc
same-with p (let_of q x) ts is e = e
same-with p (let_rec_of f r) ts is e = e

types-same : (is : List ItemTree) → all_constructors (types_among is) ≡ constructors_in (datatypes_in is)
types-same [] = refl
types-same (i ∷ is) = same-with i.place i.form (types_among is) is (types-same is)

-- items without constructors add none
adds-none : (ts us : List ItemTree) → all_constructors us ≡ [] → all_constructors (ts ++ us) ≡ all_constructors ts
adds-none [] us e = e
adds-none (t ∷ ts) us e = ap (λ ks. constructors_of t.form ++ ks) (adds-none ts us e)

module _ (names : List (List ℕ)) where
  made-none : (p : Place) (f : ItemForm) (rest : Frame → ℕ → List (Option ℕ) → Items_made)
      → ((k : Frame) (n : ℕ) (s : List (Option ℕ)) → all_constructors (rest k n s).items ≡ [])
      → (k : Frame) (n : ℕ) (s : List (Option ℕ)) → all_constructors (item_made names p f k n s rest).items ≡ []
  made-none p (type_of d) rest after k n s = after (frame_with k.variables (with_constructors k.constructors d.constructors)) n s
  made-none p (let_of q e) rest after k n s =
      let x = made names e k n (s ++ sources_of (bound_in q)) in after (shown (length s) q k) x.next x.sources
  made-none p (let_rec_of f r) rest after k n s =
      let l = named (length s) f k in let x = taken r.place r.parameter (made names r.body) l n (s ++ Some f ∷ []) in after l (suc x.next) x.sources

  all-none : (is : List ItemTree) (k : Frame) (n : ℕ) (s : List (Option ℕ)) → all_constructors (items_made names k n s is).items ≡ []
  all-none [] k n s = refl
  all-none (i ∷ is) k n s = made-none i.place i.form (λ l m r. items_made names l m r is) (λ l m r. all-none is l m r) k n s

-- ---- the rules

module _ (g : Signature) (n : Annotation) where
  with-before : (p : Place) (f : ItemForm) (ts us : List ItemTree) → ItemsAre g n [] (ts ++ us) → ItemsAre g n [] (with_type p f ts ++ us)
  with-before p (type_of d) ts us h = h
  with-before p (let_of q e) ts us h = h
  with-before p (let_rec_of f r) ts us h = h

  types-before : (is us : List ItemTree) → ItemsAre g n [] us → ItemsAre g n [] (types_among is ++ us)
  types-before [] us h = h
  types-before (i ∷ is) us h = with-before i.place i.form (types_among is) us (types-before is us h)

pub have-types : AnnotatedProgramsHaveTypes
have-types known is n obeys =
    let bound = (scoping_of known is).items in let types = types_among is in
    let none = adds-none types bound (all-none known is first_frame 0 []) in
    let same = sym (none ∙ types-same is) in
    let before = types-before (signature_in (scoping_of known is).datatypes) n is bound obeys in
    let moved = subst (λ ks. ItemsAre (constructor_in (predeclared ++ ks)) n [] (types ++ bound)) same before in
    (n, types, types-none is, moved)
