-- The example.
use Rattle.std.specs.Prelude.{All}
use Rattle.std.proofs.Common.{◌≡◌, ℕ, suc, ◌+◌, ◌<◌, take, drop, List, [], ◌∷◌, inl, inr, refl, sym, ap, ap₂, ◌∙◌, arith}
use Rattle.std.proofs.lemmas.Bool.{false≢true}
use Rattle.lq_text_tree.specs.MlType as ml
use Rattle.lq_text_tree.specs.MlType.{MlType}
use Rattle.lq_text_tree.specs.Tree.{Tree, tree, use_of, call}
use Rattle.lq_text_tree.specs.Types.{Scheme, plain, general, put, IsInstance}
use Rattle.lq_text_tree.specs.TypingRules.{DefinesBy, IsValueTree}
use Rattle.lq_text_walk.specs.Walk.Visits.{Visit, leave, visits_of_items}
use Rattle.lq_text_walk.specs.Scoped.Scoping.{IsScoped}
use Rattle.lq_types_rules.specs.Constructors.Tasks.{size_of}
use Rattle.lq_types_rules.specs.Typings.Example.{at, function, identity, pair, program, ill_program, types, to_itself, both, Examples}
use Rattle.lq_types_rules.specs.Typings.Inference.{IsIllTyped}
use Rattle.lq_types_rules.specs.Typings.Principal as principal
use Rattle.lq_types_rules.specs.Typings.Principal.{IsAnnotation, IsItemInstance, IsPrincipalAnnotation, IsNumbered}
use Rattle.lq_types_rules.proofs.TypingsLemmas.Alike.{first_of_two, second_of_two}
use Rattle.lq_types_rules.proofs.TypingsLemmas.Lists.{to_all}

scoped : IsScoped program
scoped = record { nodes = refl; few_nodes = omega arith; binders = refl; named = refl; few_binders = omega arith; scoped = refl }

obeys : IsAnnotation program types
obeys = (
  general [] (to_itself (ml.var 0)),
  (refl, tt, tt),
  refl,
  (λ w. (ml.var 0, refl, refl), (λ w. refl, tt)),
  (
    plain both,
    (refl, λ v. v.0),
    refl,
    (
      λ w. refl,
      (
        (λ w. refl, ((λ w. (λ i. ml.int, λ i m. absurd (false≢true m), refl), tt), (λ w. refl, tt))),
        ((λ w. refl, ((λ w. (λ i. ml.bool, λ i m. absurd (false≢true m), refl), tt), (λ w. refl, tt))), tt),
      ),
    ),
    tt,
  ),
)

-- ---- any other annotation is an instance

-- what a value is used at is an instance of its type
used : (e : Tree) (a c : MlType) (s : Scheme) → IsValueTree e → DefinesBy [] e a s → IsInstance s c → (by : ℕ → MlType) × (c ≡ put by a)
used e a c (plain b) value d h = absurd (d.1 value)
used e a c (general fixed b) value d h = (h.0, h.2 ∙ ap (put h.0) d.0)

-- what is used from one type to another, and is from a type to itself, has the one type twice
turned : (a c d z u : MlType) (by : ℕ → MlType) → a ≡ to_itself z → c ≡ put by a → c ≡ ml.arrow d u → u ≡ d
turned a c d z u by own instance at_use =
    let same : ml.arrow d u ≡ to_itself (put by z) = sym at_use ∙ instance ∙ ap (put by) own in
    ap second_of_two same ∙ sym (ap first_of_two same)

module _ (o : ℕ → MlType) (h : IsAnnotation program o) where
  itself : o 1 ≡ to_itself (o 10)
  itself = let f = h.3.0 tt in f.1 ∙ ap₂ ml.arrow (sym f.2) (h.3.1.0 tt)

  identity_used : (c : MlType) → IsInstance h.0 c → (by : ℕ → MlType) × (c ≡ put by (o 1))
  identity_used c i = used function (o 1) c h.0 tt h.1 i

  number_is : o 4 ≡ ml.int
  number_is =
      let tree_is = h.4.3.1.0 in let by = identity_used (o 2) (tree_is.1.0.0 tt) in
      turned (o 1) (o 2) (o 3) (o 10) (o 4) by.0 itself by.1 (tree_is.0 tt) ∙ tree_is.1.1.0 tt

  flag_is : o 7 ≡ ml.bool
  flag_is =
      let tree_is = h.4.3.1.1.0 in let by = identity_used (o 5) (tree_is.1.0.0 tt) in
      turned (o 1) (o 5) (o 6) (o 10) (o 7) by.0 itself by.1 (tree_is.0 tt) ∙ tree_is.1.1.0 tt

  both_is : o 8 ≡ both
  both_is = h.4.3.0 tt ∙ ap₂ (λ (a : MlType) (b : MlType). ml.tuple (ml.more_types a (ml.more_types b ml.no_types))) number_is flag_is

  identity_instance : IsItemInstance 9 types o identity
  identity_instance =
      let by : ℕ → MlType = λ i. o 10 in (
        by,
        to_all (λ k. o k ≡ put by (types k)) (0 ∷ 1 ∷ []) (h.3.1.0 tt, (itself, tt)),
        to_all (λ x. o (9 + x) ≡ put by (types (9 + x))) (0 ∷ 1 ∷ []) (h.2 ∙ itself, (refl, tt)),
      )

  pair_instance : IsItemInstance 9 types o pair
  pair_instance =
      let by : ℕ → MlType = λ i. o 10 in
      let number = h.4.3.1.0 in let flag = h.4.3.1.1.0 in (
        by,
        to_all (λ k. o k ≡ put by (types k)) (2 ∷ 3 ∷ 4 ∷ 5 ∷ 6 ∷ 7 ∷ 8 ∷ []) (
          number.0 tt ∙ ap₂ ml.arrow (number.1.1.0 tt) number_is,
          (
            number.1.1.0 tt,
            (number_is, (flag.0 tt ∙ ap₂ ml.arrow (flag.1.1.0 tt) flag_is, (flag.1.1.0 tt, (flag_is, (both_is, tt))))),
          ),
        ),
        to_all (λ x. o (9 + x) ≡ put by (types (9 + x))) (2 ∷ []) (h.4.2 ∙ both_is, tt),
      )

  instances : principal.IsInstance program types o
  instances = to_all (IsItemInstance 9 types o) (identity ∷ pair ∷ []) (identity_instance, (pair_instance, tt))

-- the variable comes eight times in the types of the identity
numbered : All (IsNumbered 9 types) (identity ∷ pair ∷ [])
numbered =
    let again : 0 < 1 = omega arith in
    to_all (IsNumbered 9 types) (identity ∷ pair ∷ []) (
      inr (refl, inl (again, inl (again, inl (again, inl (again, inl (again, inl (again, inl (again, tt)))))))),
      (tt, tt),
    )

-- ---- a variable that is called with itself

also_scoped : IsScoped ill_program
also_scoped = record { nodes = refl; few_nodes = omega arith; binders = refl; named = refl; few_binders = omega arith; scoped = refl }

-- no type is that of a function from it
endless : (a b : MlType) → a ≡ ml.arrow a b → ⊥
endless a b e = let sizes : size_of a ≡ suc (size_of a + size_of b) = ap size_of e in omega (arith, sizes)

abbrev visits : List Visit
visits = visits_of_items ill_program.items

refused : IsIllTyped ill_program (at 1 18)
refused = record {
  front = take 10 visits;
  visit = leave (tree 2 (at 1 18) (call (tree 0 (at 1 18) (use_of 1)) (tree 1 (at 1 20) (use_of 1))));
  later = drop 11 visits;
  split = refl;
  there = refl;
  can = (λ k. ml.int, (tt, (tt, (tt, (tt, (tt, (tt, (tt, (refl, (tt, (refl, tt)))))))))));
  cannot = λ types h.
      let first : types 0 ≡ types 5 = h.1.1.1.1.1.1.1.0 in
      let second : types 1 ≡ types 5 = h.1.1.1.1.1.1.1.1.1.0 in
      let called : types 0 ≡ ml.arrow (types 1) (types 2) = h.1.1.1.1.1.1.1.1.1.1.0 in
      endless (types 5) (types 2) (sym first ∙ called ∙ ap (λ (a : MlType). ml.arrow a (types 2)) second);
}

pub examples : Examples
examples = record {
  scoped = scoped;
  answered = (record { obeys = obeys; general = λ others h. instances others h }, refl, refl, numbered);
  also_scoped = also_scoped;
  refused = refused;
}
