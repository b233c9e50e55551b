-- What the normal form of an expression ends in: where that is a function, its type is the expression's.
use Rattle.std.proofs.Common.{◌≡◌, ℕ, ◌+◌, ◌&&◌, Bool, true, false, if◌then◌else◌, List, [], ◌∷◌, ◌++◌, All, ◌⊎◌, inl, inr, refl, sym, subst}
use Rattle.std.proofs.lemmas.List.Elements.{All-cons, All-head, All-nil, All-tail}
use Rattle.lq_base_names.specs.declared.place.Place.{Place}
use Rattle.lq_meaning_normal_form.specs.Outcomes.Flattening.{Let, let_one, let_function, put_in}
use Rattle.lq_meaning_normal_form.specs.Outcomes.Naming.{is_pure, behind}
use Rattle.lq_meaning_normal_form.specs.Outcomes.OnePass.{Normal, body_under, list_of_atoms, normal, normal_of, rest_of_chain, all_items}
use Rattle.lq_refined_templates.specs.Points.Annotation.{Annotation}
use Rattle.lq_sound_scope.specs.Scalars.Scalar.{end_type}
use Rattle.lq_text_walk.specs.Scoped.Numbers.{nodes_of, numbers_in, numbering}
use Rattle.lq_text_tree.specs.MlType.{MlType}
use Rattle.lq_text_tree.specs.Pattern.{Pattern, pattern, any, bind, nothing, tuple_of, build_of, bound_in}
use Rattle.lq_text_tree.specs.Tree as form
use Rattle.lq_text_tree.specs.Tree.{Tree, tree, Form, Trees, no_trees, more_trees}
use Rattle.lq_text_tree.specs.Types.{Signature, plain, Names}
use Rattle.lq_text_tree.specs.TypingRules as rules
use Rattle.lq_text_tree.specs.TypingRules.{TreeIs, TreesAre, RuleIs, PartsAre, Every, plain_names, type_in, last_type}
use Rattle.lq_text_walk.specs.Walk.Fold.{fold_all}

module _ (P : ℕ → Type 0) where
  pub all_right : (xs ys : List ℕ) → All P (xs ++ ys) → All P ys
  all_right [] ys h = h
  all_right (x ∷ xs) ys h = all_right xs ys (All-tail P x (xs ++ ys) h)

  pub all_left : (xs ys : List ℕ) → All P (xs ++ ys) → All P xs
  all_left [] ys h = All-nil P
  all_left (x ∷ xs) ys h = All-cons P x xs (All-head P x (xs ++ ys) h) (all_left xs ys (All-tail P x (xs ++ ys) h))

  pub all_last : (xs : List ℕ) (x : ℕ) → All P (xs ++ x ∷ []) → P x
  all_last xs x h = All-head P x [] (all_right xs (x ∷ []) h)

module _ (n : Annotation) (x : ℕ) where
  -- lets in front don't change the end
  pub end_in : (ls : List Let) (t : Tree) → end_type n x (put_in ls t) ≡ end_type n x t
  end_in [] t = refl
  end_in (let_one i p q e ∷ ls) t = end_in ls t
  end_in (let_function i p f j m q b ∷ ls) t = end_in ls t

  module _ (P : ℕ → Type 0) (m : rules.Annotation) where
    -- the end has the type of the name, or that of a node of this type, which is one of some nodes
    abbrev pub EndsAs : MlType → Tree → Type 0
    EndsAs a t = (end_type n x t ≡ n.names x) ⊎ ((j : ℕ) × (end_type n x t ≡ n.types j) × (m.nodes j ≡ a) × P j)

    typed_alike : (a b : MlType) (t : Tree) → a ≡ b → EndsAs b t → EndsAs a t
    typed_alike a b t e = subst (λ c. EndsAs c t) (sym e)

    under_ends : (a : MlType) (k : ℕ) (q : Pattern) (N : Normal) → EndsAs a N.last → EndsAs a (body_under k q N).last
    under_ends a k (pattern p any) N h = h
    under_ends a k (pattern p (bind y)) N h = h
    under_ends a k (pattern p nothing) N h = h
    under_ends a k (pattern p (tuple_of qs)) N h = inl refl
    under_ends a k (pattern p (build_of c o qs)) N h = inl refl

    either : (a : MlType) (c : Bool) (N M : Normal) → EndsAs a N.last → EndsAs a M.last → EndsAs a (if c then N else M).last
    either a true N M h k = h
    either a false N M h k = k

    list_ends : (a : MlType) (i : ℕ) (p : Place) (k : ℕ) (xs : Trees) → EndsAs a (list_of_atoms i p k xs).last
    list_ends a i p k no_trees = inl refl
    list_ends a i p k (more_trees y ys) = inl refl

    module _ (g : Signature) where
      mutual
        pub ends : (t : Tree) (ns : Names) (k : ℕ) → TreeIs g m Every ns t → All P (nodes_of t) → EndsAs (type_in m t) (normal k t).last
        ends (tree i p f) ns k h all = form_ends f i p ns k (h.0 tt) h.1 all

        form_ends : (f : Form) (i : ℕ) (p : Place) (ns : Names) (k : ℕ) → RuleIs g m ns f (m.nodes i) → PartsAre g m Every ns f
            → All P (nodes_of (tree i p f)) → EndsAs (m.nodes i) (normal_of k i p f).last
        form_ends (form.fun q b) i p ns k r h all = inr (i, refl, refl, all_last P (nodes_of b) i all)
        form_ends (form.let_in q e b) i p ns k r h all =
            let E = normal k e in let B = normal (behind E.next q) b in
            let inside = all_right P (nodes_of e) (nodes_of b) (all_left P (nodes_of e ++ nodes_of b) (i ∷ []) all) in
            typed_alike (m.nodes i) (type_in m b) (body_under E.next q B).last r.0
            (under_ends (type_in m b) E.next q B (ends b (plain_names m (bound_in q) ++ ns) (behind E.next q) h.1 inside))
        form_ends (form.let_rec f j o q b e) i p ns k r h all =
            let B = normal (behind k q) b in
            let inside = all_right P (nodes_of b) (j ∷ nodes_of e) (all_left P (nodes_of b ++ (j ∷ nodes_of e)) (i ∷ []) all) in
            typed_alike (m.nodes i) (type_in m e) (normal B.next e).last r.0
            (ends e ((f, plain (m.binders f)) ∷ ns) B.next h.2 (All-tail P j (nodes_of e) inside))
        form_ends (form.chain no_trees) i p ns k r h all = inl refl
        form_ends (form.chain (more_trees e es)) i p ns k r h all =
            let nodes = all_left P (numbers_in (fold_all numbering (more_trees e es))) (i ∷ []) all in
            let N = normal k e in
            typed_alike (m.nodes i) (last_type m e es) (rest_of_chain i p N es).last r
            (rest_ends es i p e ns N h.1 (all_right P (nodes_of e) (numbers_in (fold_all numbering es)) nodes)
            (ends e ns k h.0 (all_left P (nodes_of e) (numbers_in (fold_all numbering es)) nodes)))
        form_ends (form.list_of es) i p ns k r h all = let Q = all_items k es in list_ends (m.nodes i) i p Q.next Q.atoms
        form_ends (form.and_of a b) i p ns k r h all = either (m.nodes i) (is_pure a && is_pure b) _ _ (inl refl) (inl refl)
        form_ends (form.or_of a b) i p ns k r h all = either (m.nodes i) (is_pure a && is_pure b) _ _ (inl refl) (inl refl)
        form_ends f i p ns k r h all = inl refl

        -- what is left of a chain behind an expression
        rest_ends : (es : Trees) (i : ℕ) (p : Place) (e : Tree) (ns : Names) (N : Normal) → TreesAre g m Every ns es
            → All P (numbers_in (fold_all numbering es)) → EndsAs (type_in m e) N.last → EndsAs (last_type m e es) (rest_of_chain i p N es).last
        rest_ends no_trees i p e ns N h all G = G
        rest_ends (more_trees d es) i p e ns N h all G =
            let D = normal (N.next + 1) d in
            rest_ends es i p d ns D h.1 (all_right P (nodes_of d) (numbers_in (fold_all numbering es)) all)
            (ends d ns (N.next + 1) h.0 (all_left P (nodes_of d) (numbers_in (fold_all numbering es)) all))
