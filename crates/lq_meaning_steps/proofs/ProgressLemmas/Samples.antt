-- The types of the examples, and why others have none.
use Rattle.std.proofs.Common.{◌≡◌, [], ◌∷◌, refl, sym, ◌∙◌}
use Rattle.lq_text_tree.specs.MlType as ml
use Rattle.lq_text_tree.specs.MlType.{MlType}
use Rattle.lq_text_tree.specs.Tree as form
use Rattle.lq_text_tree.specs.Tree.{Tree, no_trees}
use Rattle.std.proofs.Math.IntN.{pos}
use Rattle.lq_text_tree.specs.Types.{Constructor, list_type, Scheme, plain, general}
use Rattle.lq_text_tree.specs.Signatures.{signature_of}
use Rattle.lq_text_tree.specs.TypingRules.{Annotation, DefinesBy, ItemsAre}
use Rattle.lq_meaning_steps.specs.Progress.Examples.{node, pair, SumExample, TableExample, box_of, IdentityExample, array_item, stored_number, stored_flag, ArrayExample, StuckExample, BoxExample, CalculationExample, FunctionExample, ChoiceExample, MatchExample, ElementExample, EffectExample}

pub identity_example : IdentityExample
identity_example = (
  general [] (ml.arrow (ml.var 0) (ml.var 0)),
  (refl, tt, tt),
  refl,
  ((λ w. (ml.var 0, refl, refl)), ((λ w. refl), tt)),
  (
    plain ml.unit,
    (refl, λ h. h),
    refl,
    ((λ w. (refl, refl)), ((λ w. refl), (((λ w. ((λ i. ml.int), (λ i h. cc h), refl)), tt), ((λ w. refl), tt)))),
    (plain ml.bool, (refl, λ h. h), refl, ((λ w. refl), (((λ w. ((λ i. ml.bool), (λ i h. cc h), refl)), tt), ((λ w. refl), tt))), tt),
  ),
)

-- both uses of the array have its one type
two_types : (a b c d e f : MlType) → a ≡ ml.array b → b ≡ list_type c → ml.int ≡ c → d ≡ ml.array e → e ≡ list_type f → ml.bool ≡ f → a ≡ d → ⊥
two_types a b c d e f h i j k l m s = cc

no_types : (n : Annotation) (s : Scheme)
    → DefinesBy [] (node 2 (form.make (node 0 (form.whole (pos 0))) (node 1 (form.list_of no_trees)))) (n.nodes 2) s
    → ItemsAre (signature_of (array_item ∷ stored_number ∷ stored_flag ∷ [])) n ((0, s) ∷ []) (stored_number ∷ stored_flag ∷ []) → ⊥
no_types n (general fixed b) d h = d.1
no_types n (plain b) d h =
    let one = h.3 in
    let two = h.4.3 in
    let list = one.1.2.0 tt in
    let other = two.1.2.0 tt in
    two_types (n.nodes 3) (n.nodes 6) list.0 (n.nodes 8) (n.nodes 11) other.0 (one.0 tt).0 list.1 (sym (one.1.2.1.0.0 tt) ∙ list.2.0) (two.0 tt).0 other.1 (sym (two.1.2.1.0.0 tt) ∙ other.2.0)
    (one.1.0.0 tt ∙ sym (two.1.0.0 tt))

pub array_example : ArrayExample
array_example = (
  (
    plain (ml.array (list_type ml.int)),
    (refl, λ h. h),
    refl,
    ((λ w. (refl, refl)), (((λ w. refl), tt), ((λ w. (ml.int, refl, tt)), tt))),
    (
      plain ml.unit,
      (refl, λ h. h),
      refl,
      ((λ w. (refl, refl, refl)), (((λ w. refl), tt), ((λ w. refl), tt), ((λ w. (ml.int, refl, (refl, tt))), (((λ w. refl), tt), tt)))),
      tt,
    ),
  ),
  λ n h. no_types n h.0 h.1 h.4,
)

pub stuck_example : StuckExample
stuck_example = (refl, λ n h. let k = (h.3.0 tt).0 in let m = h.3.1.0.0 tt in cc (k, m))

abbrev box : Constructor
box = record { datatype = 12; parameters = 1; fields = ml.more_types (ml.var 0) ml.no_types }

pub box_example : BoxExample
box_example = (
  general [] (ml.arrow (box_of (ml.var 0)) (ml.var 0)),
  (refl, tt, tt),
  refl,
  (
    (λ w. (box_of (ml.var 0), refl, refl)),
    (
      (λ w. ((ml.more_types (ml.var 0) ml.no_types, (box, ml.more_types (ml.var 0) ml.no_types, refl, refl, refl, refl), (ml.var 0, ml.no_types, refl, refl, refl)), refl, tt)),
      (((λ w. refl), tt), (((λ w. refl), tt), tt)),
    ),
  ),
  (
    plain ml.unit,
    (refl, λ h. h),
    refl,
    (
      (λ w. (refl, refl)),
      (
        (λ w. refl),
        (
          ((λ w. ((λ i. ml.int), (λ i h. cc h), refl)), tt),
          ((λ w. (box, ml.more_types ml.int ml.no_types, refl, refl, refl, refl)), (((λ w. refl), tt), tt)),
        ),
      ),
    ),
    tt,
  ),
)

pub sum_example : SumExample
sum_example = (
  [],
  pair,
  tt,
  refl,
  refl,
  refl,
  (
    (λ w. ((ml.more_types ml.int (ml.more_types ml.int ml.no_types), refl, (ml.int, ml.more_types ml.int ml.no_types, refl, refl, (ml.int, ml.no_types, refl, refl, refl))), refl, tt)),
    (
      ((λ w. refl), tt),
      (
        (
          (λ w. (refl, refl, refl)),
          (
            ((λ w. (refl, refl, refl)), (((λ w. refl), tt), ((λ w. refl), tt))),
            ((λ w. refl), tt),
            (
              (λ w. refl),
              (
                ((λ w. refl), tt),
                ((λ w. refl), (((λ w. (refl, refl, refl)), (((λ w. refl), tt), ((λ w. refl), tt))), (((λ w. (refl, refl, refl)), (((λ w. refl), tt), ((λ w. refl), tt))), tt))),
              ),
            ),
          ),
        ),
        tt,
      ),
    ),
  ),
  (
    plain ml.unit,
    (refl, λ h. h),
    refl,
    (
      (λ w. refl),
      (
        (
          (λ w. (refl, refl)),
          (
            (λ w. refl),
            (
              ((λ w. (ml.var, (λ i h. refl), refl)), tt),
              ((λ w. refl), (((λ w. refl), tt), (((λ w. (refl, refl)), ((λ w. refl), tt)), tt))),
            ),
          ),
        ),
        (((λ w. refl), tt), tt),
      ),
    ),
    tt,
  ),
)

pub table_example : TableExample
table_example g =
    ((ml.int, ml.int, refl, refl, (refl, refl)), refl, (ml.int, refl, refl), ((refl, tt), tt), λ h. let e = h.2 in cc e)

pub calculation_example : CalculationExample
calculation_example g = (
  ((ml.int, ml.int, refl, refl, (refl, refl, refl)), tt, refl, refl, tt),
  ((ml.int, ml.int, refl, refl, (refl, refl, refl)), tt, refl, refl, tt),
)

pub function_example : FunctionExample
function_example g = (
  ((ml.int, (ml.int, ml.int, (0, plain ml.int) ∷ [], refl, refl, refl), refl), tt, refl, refl, tt),
  (
    (ml.int, ml.int, (1, plain ml.int) ∷ [], refl, (ml.int, refl, refl), (ml.int, refl, refl)),
    tt,
    refl,
    (ml.int, (ml.int, ml.int, (1, plain ml.int) ∷ [], refl, refl, (ml.int, refl, refl)), refl),
    tt,
  ),
  ((ml.int, (0, plain ml.int) ∷ [], refl, refl, refl), tt, refl, refl, tt),
)

pub choice_example : ChoiceExample
choice_example g = (
  ((refl, refl, refl), tt, refl, refl, tt),
  ((refl, refl, refl), tt, refl, refl, tt),
  ((ml.unit, refl, refl), tt, refl, refl, tt),
)

some_constructor : Constructor
some_constructor = record { datatype = 5; parameters = 1; fields = ml.more_types (ml.var 0) ml.no_types }

pub match_example : MatchExample
unfolding some_constructor
match_example =
    let one = ml.more_types ml.int ml.no_types in (
      (
        ml.named 5 one,
        (one, (ml.int, ml.no_types, refl, refl, refl), (some_constructor, one, refl, refl, refl, refl)),
        (
          (0, plain ml.int) ∷ [],
          (one, (some_constructor, one, refl, refl, refl, refl), (ml.int, ml.no_types, (0, plain ml.int) ∷ [], [], refl, refl, refl, (refl, refl))),
          refl,
          tt,
        ),
      ),
      tt,
      refl,
      refl,
      tt,
    )

pub element_example : ElementExample
element_example g = (
  ((ml.array ml.int, ml.int, (ml.int, refl, refl), refl, (refl, refl)), ((refl, tt), tt), refl, refl, ((refl, tt), tt)),
  ((ml.array ml.int, ml.int, ml.int, (ml.int, refl, refl), refl, refl, (refl, refl, refl)), ((refl, tt), tt), refl, refl, ((refl, tt), tt)),
)

pub effect_example : EffectExample
effect_example g = (
  ((ml.unit, refl, (refl, refl)), tt, refl, refl, tt),
  ((ml.int, refl, (refl, refl)), tt, refl, refl, tt),
  ((ml.bool, refl, (refl, refl)), tt, refl, refl, tt),
)
