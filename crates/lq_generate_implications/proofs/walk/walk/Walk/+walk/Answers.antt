use Rattle.std.proofs.Common.{◌+◌, [], ◌∷◌, ◌++◌, cond, take, get_or, map, refl, sym, ap, ap₂, subst, ◌∙◌, rules}
use Rattle.std.proofs.lemmas.List.{map-append, take_all, take_more}
use Rattle.lq_refined_rules.specs.Checks.Match.{in_arm}
use Rattle.lq_refined_rules.specs.Checks.Operation.{bind, body_context, body_type, type_of}
use Rattle.lq_refined_rules.specs.Checks.Listing.{from}
use Rattle.lq_refined_rules.specs.Checks.Pure.{formula_of}
use Rattle.lq_refined_rules.specs.Checks.Tree as tree
use Rattle.lq_refined_rules.specs.Checks.Tree.{has_default, last, passes_on}
use Rattle.lq_refined_rules.specs.Obligations.Obligations.{each, of_block, of_constructor, of_default, of_first, of_operation, of_recursive, subtyping}
use Rattle.lq_base_names.specs.declared.name.Name.{Name}
use Rattle.lq_refined_types.specs.Parts.Part.{known}
use Rattle.lq_refined_templates.specs.Programs.BlockView.{arms_view, binding_view, bindings_view, block_view, operation_view, pattern_view}
use Rattle.lq_refined_templates.specs.Programs.PureView.{pure_view, use_view}
use Rattle.lq_logic_predicates.specs.Formula.{negation}
use Rattle.lq_refined_types.specs.Types.Context.{guard}
use Rattle.lq_refined_subtyping.specs.Table.Growing.{Extends-trans}
use Rattle.lq_refined_subtyping.specs.Table.Whole.{refined_at}
use Rattle.lq_refined_types.specs.Subtyping.Implication.{of_flow}
use Rattle.lq_refined_templates.specs.declared.programs.block.Operation.{the_lemmas}
use Rattle.lq_generate_operations.specs.Basis.Basis.{constructors_at, scopes_of}
use Rattle.lq_generate_implications.proofs.ObligationsLemmas.Stating.{on-ok}
use Rattle.lq_generate_implications.specs.Walk.Asking.{Asks}
use Rattle.lq_generate_implications.specs.Walk.Choosing.{of_arm}
use Rattle.lq_generate_implications.specs.Walk.Through.{Enters}
use Rattle.lq_generate_implications.proofs.WalkLemmas.Matching.{fun-asks, if-ok, match-data, match-first, matched-none, matched-some}
use Rattle.lq_generate_implications.proofs.WalkLemmas.Opening.{asks-entered, asks-enters, enters-as, enters-asks, finds-enters, let-go}
use Rattle.lq_generate_implications.proofs.WalkLemmas.Passing.{asks-passed, passes-as, passes-enters, passes-trans}
use Rattle.lq_generate_implications.proofs.WalkLemmas.Views.{bindings-more, block_seen, fun_seen, function_seen, if_seen, value_seen}
use Rattle.lq_generate_implications.proofs.WalkLemmas.Walks.{asks-as, asks-each, asks-kept, asks-nothing, asks-seen, asks-trans, row-kept}
use Rattle.lq_generate_implications.proofs.walk.walk.Walk.+walk.Goals as goal

pub body-returns : goal.body-returns
body-returns t c =
    let b = c.args.basis.now in
    let w = c.args.self.now in
    let v = c.enter_body.new.self in
    let u = c.block.new.self in
    let i = c.in_ok-inner.inner in
    let r = refined_at (scopes_of b) w.types c.args.row in
    let y = c.args.parameter.0 in
    let k = block_view c.args.body.now in
    asks-entered b w c.args.env c.requires.sound v u c.back_to.new.self i.env (λ P Γ. body_context Γ y r) (λ P Γ. [])
    (λ P Γ. of_block P Γ k (body_type (scopes_of b) y r)) c.in_ok-inner.ensures.enters
    (subst (λ q. Asks b v u i.env (λ P Γ. of_block P Γ k q)) c.in_ok-inner.ensures.refined c.in_ok-block.ensures)
    (let-go w.names v.names u.names c.back_to.new.self c.len-mark.result c.in_ok-inner.ensures.enters.opens.names c.in_ok-block.ensures.moves.names
    c.len-mark.ensures c.back_to.ensures)

pub when_true-returns : goal.when_true-returns
when_true-returns t c =
    let b = c.args.basis.now in
    let w = c.args.self.now in
    let v = c.enter_when.new.self in
    let u = c.block.new.self in
    let n = c.in_ok-inner.inner in
    let k = block_view c.args.branch.now in
    let e = c.in_ok-inner.ensures.enters in
    let a = c.in_ok-block.ensures in
    asks-entered b w c.args.env c.requires.sound v u u.names n (λ P Γ. guard (known (formula_of (pure_view c.args.condition.now))) ∷ Γ) (λ P Γ. [])
    (λ P Γ. of_block P Γ k (refined_at (scopes_of b) w.types c.args.expected)) e
    (asks-kept b w v u n c.args.expected (λ P Γ q. of_block P Γ k q) e.opens.types c.requires.expected a) (a.moves.names ∙ c.in_ok-inner.ensures.names)

pub when_false-returns : goal.when_false-returns
when_false-returns t c =
    let b = c.args.basis.now in
    let w = c.args.self.now in
    let v = c.enter_unless.new.self in
    let u = c.block.new.self in
    let n = c.in_ok-inner.inner in
    let k = block_view c.args.branch.now in
    let e = c.in_ok-inner.ensures.enters in
    let a = c.in_ok-block.ensures in
    asks-entered b w c.args.env c.requires.sound v u u.names n (λ P Γ. guard (known (negation (formula_of (pure_view c.args.condition.now)))) ∷ Γ) (λ P Γ. [])
    (λ P Γ. of_block P Γ k (refined_at (scopes_of b) w.types c.args.expected)) e
    (asks-kept b w v u n c.args.expected (λ P Γ q. of_block P Γ k q) e.opens.types c.requires.expected a) (a.moves.names ∙ c.in_ok-inner.ensures.names)

pub arm-returns : goal.arm-returns
arm-returns t c =
    let b = c.args.basis.now in
    let w = c.args.self.now in
    let v = c.enter_arm.new.self in
    let u = c.block.new.self in
    let n = c.in_ok-inner.inner in
    let a = c.args.arm.now in
    let e = c.in_ok-inner.ensures in
    asks-entered b w c.args.env c.requires.sound v u c.back_to.new.self n (λ P Γ. in_arm P Γ (use_view c.args.used) (pattern_view a.pattern)) (λ P Γ. [])
    (λ P Γ. of_block P Γ (block_view a.body) (refined_at (scopes_of b) w.types c.args.expected)) e
    (asks-kept b w v u n c.args.expected (λ P Γ q. of_block P Γ (block_view a.body) q) e.opens.types c.requires.expected c.in_ok-block.ensures)
    (let-go w.names v.names u.names c.back_to.new.self c.len-mark.result e.opens.names c.in_ok-block.ensures.moves.names c.len-mark.ensures c.back_to.ensures)

pub constructor-returns-in-Some : goal.constructor-returns-in-Some
constructor-returns-in-Some t c =
    let b = c.args.basis.now in
    let w = c.args.self.now in
    let r = refined_at (scopes_of b) w.types c.args.expected in
    on-ok c.arm.result c.arm.ensures (λ a.
    asks-as b w c.args.env c.requires.sound c.arm.new.self (λ P Γ. of_arm P Γ (use_view c.args.used) c.index-arms-at.result r) _
    (λ P Γ h. ap (λ x. of_arm P Γ (use_view c.args.used) x r) c.index-arms-at.is
    ∙ sym (c.in-Some.ensures.same P Γ c.args.place (use_view c.args.used) c.args.covered r c.index-arms-at.result)) a)

pub constructor-returns-in-None : goal.constructor-returns-in-None
constructor-returns-in-None t c =
    let b = c.args.basis.now in
    let w = c.args.self.now in
    let r = refined_at (scopes_of b) w.types c.args.expected in
    on-ok c.missing.result c.missing.ensures (λ a.
    asks-as b w c.args.env c.requires.sound c.missing.new.self _ _
    (λ P Γ h. sym (c.in-None.ensures P Γ c.args.place (use_view c.args.used) c.args.covered r)) a)

pub rest-returns-in-Some : goal.rest-returns-in-Some
rest-returns-in-Some t c =
    let b = c.args.basis.now in
    let w = c.args.self.now in
    let r = refined_at (scopes_of b) w.types c.args.expected in
    on-ok c.arm.result c.arm.ensures (λ a.
    asks-as b w c.args.env c.requires.sound c.arm.new.self (λ P Γ. of_arm P Γ (use_view c.args.used) c.index-arms-at.result r) _
    (λ P Γ h. ap (λ x. of_arm P Γ (use_view c.args.used) x r) c.index-arms-at.is
    ∙ sym (c.in-Some.ensures.same P Γ (use_view c.args.used) r c.index-arms-at.result)) a)

pub rest-returns-in-None : goal.rest-returns-in-None
rest-returns-in-None t c =
    let b = c.args.basis.now in
    let w = c.args.self.now in
    let r = refined_at (scopes_of b) w.types c.args.expected in
    asks-as b w c.args.env c.requires.sound w (λ P Γ. []) _ (λ P Γ h. sym (c.in-None.ensures P Γ (use_view c.args.used) r))
    (asks-nothing b w c.args.env c.requires.sound)

pub value-returns : goal.value-returns
value-returns t c =
    let b = c.args.basis.now in
    let w0 = c.args.self.now in
    let w1 = c.given.new.self in
    let w2 = c.operation.new.self in
    let w3 = c.enter_name.new.self in
    let env = c.args.env in
    let row = c.in_ok-row.row in
    let f = c.in_ok-row.ensures in
    let a = c.in_ok-operation.ensures in
    let x = c.args.name.0 in
    let n = c.in_ok-inner.inner in
    let o = operation_view c.args.operation.now in
    finds-enters b w0 env c.requires w1 w3 n row (λ P Γ. type_of P Γ o) (λ P Γ q. bind x q Γ) (λ P Γ q. of_operation P Γ c.args.place o q) f
    (asks-enters b w1 env f.moves.sound w2 w3 n (λ P Γ. bind x (refined_at (scopes_of b) w1.types row) Γ)
    (λ P Γ. of_operation P Γ c.args.place o (refined_at (scopes_of b) w1.types row)) a
    (subst (λ q. Enters b w2 w3 env n (λ P Γ. bind x q Γ) (λ P Γ. [])) (row-kept b w1.types w2.types row a.moves.types f.there) c.in_ok-inner.ensures))

pub function-returns : goal.function-returns
function-returns t c =
    let b = c.args.basis.now in
    let w0 = c.args.self.now in
    let w1 = c.template.new.self in
    let w2 = c.enter_name.new.self in
    let w3 = c.body.new.self in
    let env = c.args.env in
    let row = c.in_ok-row.row in
    let f = c.in_ok-row.ensures in
    let e = c.in_ok-inner.ensures in
    let g = c.args.name.0 in
    let p = c.args.point in
    let y = c.args.parameter.0 in
    let n = c.in_ok-inner.inner in
    let k = block_view c.args.body.now in
    let s = scopes_of b in
    let q = refined_at s w1.types row in
    enters-as b w0 env c.requires w3 n (λ P Γ. bind g (P.template p) Γ)
    (λ P Γ. of_block P (body_context (bind g (P.template p) Γ) y (P.template p)) k (body_type s y (P.template p))) _
    (λ P Γ h. ap (λ z. of_block P (body_context (bind g (P.template p) Γ) y (P.template p)) k (body_type z y (P.template p))) (sym h.0.scopes))
    (finds-enters b w0 env c.requires w1 w3 n row (λ P Γ. P.template p) (λ P Γ r. bind g r Γ)
    (λ P Γ r. of_block P (body_context (bind g r Γ) y r) k (body_type s y r)) f
    (enters-asks b w1 env f.moves.sound w2 w3 n (λ P Γ. bind g q Γ) (λ P Γ. of_block P (body_context Γ y q) k (body_type s y q)) e
    (asks-kept b w1 w2 w3 n row (λ P Γ r. of_block P (body_context Γ y r) k (body_type s y r)) e.opens.types f.there c.in_ok-body.ensures)))

pub block-returns : goal.block-returns
block-returns t c =
    let b = c.args.basis.now in
    let w = c.args.self.now in
    let v = c.through.new.self in
    let x = c.operation.new.self in
    let u = c.flows.new.self in
    let k = c.args.block.now in
    let o = operation_view k.last in
    let l = k.place in
    let n = c.in_ok-inner.inner in
    let r = c.args.expected in
    let q = refined_at (scopes_of b) w.types r in
    let p = c.in_ok-inner.ensures in
    let a1 = c.in_ok-operation.ensures in
    let a2 = c.in_ok-flows.ensures in
    let a : Asks b v u n (λ P Γ. of_block P Γ (last l o) q) =
    asks-trans b v n p.opens.sound x u (λ P Γ. of_operation P Γ l o q) (λ P Γ. cond (passes_on o) [] (subtyping P Γ (type_of P Γ o) q (from l of_flow)))
    (asks-kept b w v x n r (λ P Γ z. of_operation P Γ l o z) p.opens.types c.requires.expected a1)
    (asks-kept b w x u n r (λ P Γ z. cond (passes_on o) [] (subtyping P Γ (type_of P Γ o) z (from l of_flow)))
    (Extends-trans w.types.rows.items v.types.rows.items x.types.rows.items p.opens.types a1.moves.types) c.requires.expected a2) in
    asks-passed b w c.args.env c.requires.sound v u c.back_to.new.self n (bindings_view c.deref.result.now) (λ P Γ. of_block P Γ (last l o) q) _
    (λ P Γ Δ os h.
    sym (ap (λ z. of_block P Γ z q) (block_seen k ∙ ap (λ bs. bindings_view bs (last l o)) (sym c.deref.ensures.value)) ∙ h.against (last l o) q)) p a
    (let-go w.names v.names u.names c.back_to.new.self c.len-mark.result p.opens.names a.moves.names c.len-mark.ensures c.back_to.ensures)

pub arms-returns-in-Some : goal.arms-returns-in-Some
arms-returns-in-Some t c =
    let b = c.args.basis.now in
    let w = c.args.self.now in
    let v = c.matched.new.self in
    let u = c.datatype.new.self in
    let m = c.in_ok-found.ensures in
    let x = use_view c.args.used in
    let arms = arms_view c.args.arms.now in
    let r = refined_at (scopes_of b) w.types c.args.expected in
    let cs = constructors_at b.declared.now c.in-Some.name.0 in
    on-ok c.datatype.result c.datatype.ensures (λ a.
    asks-as b w c.args.env c.requires.sound u
    (λ P Γ. each (λ i. of_constructor P Γ c.args.place x (has_default arms) i r arms) cs ++ of_default P Γ x arms r) _
    (λ P Γ h.
    let k = matched-some P Γ b x c.in_ok-found.found c.in-Some.name c.in-Some.is (m.matched P Γ h) in
    match-data P Γ c.args.place c.args.point x arms r cs k.0 k.1)
    (asks-trans b w c.args.env c.requires.sound v u (λ P Γ. [])
    (λ P Γ. each (λ i. of_constructor P Γ c.args.place x (has_default arms) i r arms) cs ++ of_default P Γ x arms r) m.asks
    (asks-kept b w v u c.args.env c.args.expected
    (λ P Γ q. each (λ i. of_constructor P Γ c.args.place x (has_default arms) i q arms) cs ++ of_default P Γ x arms q) m.asks.moves.types
    c.requires.expected a)))

pub arms-returns-in-None : goal.arms-returns-in-None
arms-returns-in-None t c =
    let b = c.args.basis.now in
    let w = c.args.self.now in
    let v = c.matched.new.self in
    let u = c.first.new.self in
    let m = c.in_ok-found.ensures in
    let x = use_view c.args.used in
    let arms = arms_view c.args.arms.now in
    let r = refined_at (scopes_of b) w.types c.args.expected in
    on-ok c.first.result c.first.ensures (λ a.
    asks-as b w c.args.env c.requires.sound u (λ P Γ. of_first P Γ x arms r) _
    (λ P Γ h. match-first P Γ c.args.place c.args.point x arms r (matched-none P Γ b x c.in_ok-found.found c.in-None.is (m.matched P Γ h)))
    (asks-trans b w c.args.env c.requires.sound v u (λ P Γ. []) (λ P Γ. of_first P Γ x arms r) m.asks
    (asks-kept b w v u c.args.env c.args.expected (λ P Γ q. of_first P Γ x arms q) m.asks.moves.types c.requires.expected a)))

pub binding-returns-in-Value : goal.binding-returns-in-Value
binding-returns-in-Value t c =
    let b = c.args.basis.now in
    let w = c.args.self.now in
    let u = c.value.new.self in
    let x = c.in-Value.name.0 in
    let l = c.in-Value.place in
    let o = operation_view c.in-Value.operation in
    if-ok c.value.result c.value.ensures (λ n e.
    passes-as b w u c.args.env n (λ k. tree.binding x l o k) (binding_view c.args.binding.now)
    (λ k. ap (λ f. f k) (sym (ap binding_view c.in-Value.is ∙ value_seen c.in-Value.name l c.in-Value.operation)))
    (passes-enters b w c.args.env c.requires u n (λ P Γ. bind x (type_of P Γ o) Γ) (λ P Γ. of_operation P Γ l o (type_of P Γ o)) (λ k. tree.binding x l o k)
    (λ P Γ. record { against = λ z s. refl; given = λ z. refl; context = λ z. refl; last = λ z. refl }) e))

pub binding-returns-in-Function : goal.binding-returns-in-Function
binding-returns-in-Function t c =
    let b = c.args.basis.now in
    let w = c.args.self.now in
    let u = c.function.new.self in
    let g = c.in-Function.name.0 in
    let p = c.in-Function.point in
    let y = c.in-Function.parameter.0 in
    let d = block_view c.deref.result.now in
    if-ok c.function.result c.function.ensures (λ n e.
    passes-as b w u c.args.env n (λ k. tree.recursive g p y d k) (binding_view c.args.binding.now)
    (λ k. ap (λ x. tree.recursive g p y (block_view x) k) c.deref.ensures
    ∙ ap (λ f. f k) (sym (ap binding_view c.in-Function.is ∙ function_seen c.in-Function.name p c.in-Function.parameter c.in-Function.body)))
    (passes-enters b w c.args.env c.requires u n (λ P Γ. bind g (P.template p) Γ) (λ P Γ. of_recursive P Γ g p y d) (λ k. tree.recursive g p y d k)
    (λ P Γ. record { against = λ z s. refl; given = λ z. refl; context = λ z. refl; last = λ z. refl }) e))

pub operation-arms-requires : goal.operation-arms-requires
operation-arms-requires t c = (
  let e = c.deref-in-Match.ensures.value in let d = c.in-Match.is in let u = c.decreases in search (rules, the_lemmas) depth 9,
  (c.requires.sound, c.requires.expected),
)

pub operation-returns-in-Fun : goal.operation-returns-in-Fun
operation-returns-in-Fun t c =
    let b = c.args.basis.now in
    let w = c.args.self.now in
    let u = c.body.new.self in
    let l = c.args.place in
    let p = c.in-Fun.field-0 in
    let y = c.in-Fun.parameter.0 in
    let k = c.in-Fun.body.value in
    let r = refined_at (scopes_of b) w.types c.args.expected in
    on-ok c.body.result c.body.ensures (λ a.
    asks-seen b w u c.args.env l r (operation_view c.args.operation.now) (tree.fun p y (block_view k))
    (ap operation_view c.in-Fun.is ∙ fun_seen p c.in-Fun.parameter c.in-Fun.body)
    (asks-as b w c.args.env c.requires.sound u
    (λ P Γ. of_block P (body_context Γ y r) (block_view c.deref.result.now) (body_type (scopes_of b) y r)) _
    (λ P Γ h. ap (λ x. of_block P (body_context Γ y r) (block_view x) (body_type (scopes_of b) y r)) c.deref.ensures
    ∙ fun-asks P Γ l p y (block_view k) r (scopes_of b) h.0.scopes) a))

pub operation-returns-in_ok-when_true-in-If : goal.operation-returns-in_ok-when_true-in-If
operation-returns-in_ok-when_true-in-If t c =
    let b = c.args.basis.now in
    let w = c.args.self.now in
    let v = c.when_true.new.self in
    let u = c.when_false.new.self in
    let l = c.args.place in
    let i = c.in-If in
    let f = formula_of (pure_view i.condition) in
    let x = c.deref-in-If.result.now in
    let y = c.deref-in-If-2.result.now in
    let r = refined_at (scopes_of b) w.types c.args.expected in
    let p = c.in_ok-when_true-in-If.ensures in
    on-ok c.when_false.result c.when_false.ensures (λ a.
    asks-seen b w u c.args.env l r (operation_view c.args.operation.now)
    (tree.if_else i.field-0 (pure_view i.condition) (block_view i.then.value) (block_view i.otherwise.value))
    (ap operation_view i.is ∙ if_seen i.field-0 i.condition i.then i.otherwise)
    (asks-as b w c.args.env c.requires.sound u
    (λ P Γ. of_block P (guard (known f) ∷ Γ) (block_view x) r ++ of_block P (guard (known (negation f)) ∷ Γ) (block_view y) r) _
    (λ P Γ h. ap₂ (λ m n. of_block P (guard (known f) ∷ Γ) (block_view m) r ++ of_block P (guard (known (negation f)) ∷ Γ) (block_view n) r)
    c.deref-in-If.ensures c.deref-in-If-2.ensures)
    (asks-trans b w c.args.env c.requires.sound v u (λ P Γ. of_block P (guard (known f) ∷ Γ) (block_view x) r)
    (λ P Γ. of_block P (guard (known (negation f)) ∷ Γ) (block_view y) r) p
    (asks-kept b w v u c.args.env c.args.expected (λ P Γ q. of_block P (guard (known (negation f)) ∷ Γ) (block_view y) q) p.moves.types
    c.requires.expected a))))

pub operation-returns-in_default : goal.operation-returns-in_default
operation-returns-in_default t c =
    let b = c.args.basis.now in
    let w = c.args.self.now in
    let r = refined_at (scopes_of b) w.types c.args.expected in
    on-ok c.leaf.result c.leaf.ensures (λ f. f (search (rules, the_lemmas)) r)

-- past the end of a row of names
abbrev no_name : Name
no_name = record { 0 = 0 }

pub datatype-loop-constructor-preserved : goal.datatype-loop-constructor-preserved
datatype-loop-constructor-preserved t c =
    let b = c.args.basis.now in
    let w = c.args.self.now in
    let v = c.loop-constructor.self in
    let u = c.constructor.new.self in
    let k = c.loop-constructor.invariant in
    let i = c.loop-constructor.constructor-index in
    let items = c.constructors_of-constructor-items.result.now in
    let arms = arms_view c.args.arms.now in
    let x = use_view c.args.used in
    let d = c.has_default-covered.result in
    let r = refined_at (scopes_of b) w.types c.args.expected in
    let e = ap (map (λ (n : Name). n.0)) (take_more items i no_name c.loop-constructor-test.true)
    ∙ map-append (λ (n : Name). n.0) (take i items) (get_or items i no_name ∷ []) in
    asks-each b w v u c.args.env (λ P Γ n. of_constructor P Γ c.args.place x d n r arms) (map (λ n. n.0) (take i items)) (get_or items i no_name).0
    (map (λ n. n.0) (take (i + 1) items)) c.requires.sound (sym e) k
    (asks-kept b w v u c.args.env c.args.expected (λ P Γ q. of_constructor P Γ c.args.place x d (get_or items i no_name).0 q arms) k.moves.types
    c.requires.expected c.in_ok-constructor.ensures)

pub datatype-returns : goal.datatype-returns
datatype-returns t c =
    let b = c.args.basis.now in
    let w = c.args.self.now in
    let v = c.loop-constructor.self in
    let u = c.rest.new.self in
    let k = c.loop-constructor.invariant in
    let i = c.loop-constructor.constructor-index in
    let items = c.constructors_of-constructor-items.result.now in
    let arms = arms_view c.args.arms.now in
    let x = use_view c.args.used in
    let l = c.args.place in
    let r = refined_at (scopes_of b) w.types c.args.expected in
    let cs = constructors_at b.declared.now c.args.name.0 in
    let e = ap (map (λ (n : Name). n.0)) (take_all i items c.loop-constructor-test.false ∙ c.constructors_of-constructor-items.ensures) in
    asks-trans b w c.args.env c.requires.sound v u (λ P Γ. each (λ n. of_constructor P Γ l x (has_default arms) n r arms) cs)
    (λ P Γ. of_default P Γ x arms r)
    (asks-as b w c.args.env c.requires.sound v
    (λ P Γ. each (λ n. of_constructor P Γ l x c.has_default-covered.result n r arms) (map (λ n. n.0) (take i items))) _
    (λ P Γ h. ap₂ (λ d ns. each (λ n. of_constructor P Γ l x d n r arms) ns) c.has_default-covered.ensures e) k)
    (asks-kept b w v u c.args.env c.args.expected (λ P Γ q. of_default P Γ x arms q) k.moves.types c.requires.expected c.in_ok-rest.ensures)

pub through-loop-binding-preserved : goal.through-loop-binding-preserved
through-loop-binding-preserved t c =
    let b = c.args.basis.now in
    let w = c.args.self.now in
    let v = c.loop-binding.self in
    let u = c.binding.new.self in
    let i = c.loop-binding.binding-index in
    let items = c.args.bindings.now in
    let x = c.binding-item.result in
    let n = c.in_ok-at.at in
    passes-as b w u c.args.env n (λ k. bindings_view (take i items) (binding_view x k)) (bindings_view (take (i + 1) items))
    (λ k. ap (λ y. bindings_view (take i items) (binding_view y k)) c.binding-item.is ∙ bindings-more items i x k c.loop-binding-test.true)
    (passes-trans b w c.args.env c.requires v u c.loop-binding.at n (bindings_view (take i items)) (binding_view x) c.loop-binding.invariant
    c.in_ok-at.ensures)
