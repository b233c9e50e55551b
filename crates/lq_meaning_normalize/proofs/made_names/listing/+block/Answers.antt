use Rattle.std.proofs.Common.{◌≡◌, ◌∙◌, ℕ, List, [], ◌∷◌, ◌++◌, map, OnOk, refl, sym, ap, subst, append_assoc}
use Rattle.std.proofs.lemmas.List.{append-nil}
use Rattle.lq_meaning_normal_tree.specs.BlockView.{binding_view, block_view, branch_view, lets_view, operation_node_view, operation_view, recursive_view}
use Rattle.lq_meaning_normal_tree.specs.declared.block.Binding.{Binding}
use Rattle.lq_meaning_normal_tree.specs.declared.block.Block.{Block, out-Block}
use Rattle.lq_meaning_normal_tree.specs.declared.block.Branch.{Branch, out-Branch}
use Rattle.lq_meaning_normal_tree.specs.declared.block.Recursive.{out-Recursive}
use Rattle.lq_base_names.specs.declared.name.Binder.{Binder}
use Rattle.lq_text_tree.specs.Pattern.{bound_in}
use Rattle.lq_text_tree.specs.PatternView.{pat_view}
use Rattle.lq_text_tree.specs.TreeView.{Case, cases_of}
use Rattle.lq_meaning_normalize.specs.MadeNames.Numbers.{binders_view}
use Rattle.lq_meaning_normalize.specs.MadeNames.Order.{names_of, names_of_cases, names_of_form}
use Rattle.lq_meaning_normalize.specs.MadeNames.Parts.{names_of_function, names_of_let, names_of_lets}
use Rattle.lq_meaning_normalize.proofs.MadeNamesLemmas.Adding.{name_added, row_done, row_next, then}
use Rattle.lq_meaning_normalize.proofs.MadeNamesLemmas.Blocks.{block_names, branch_seen, function_names, operation_names, recursive_names, seen_fun, seen_if, seen_match, simple_names, value_names}
use Rattle.lq_meaning_normalize.proofs.MadeNamesLemmas.Lets.{put-names}
use Rattle.lq_meaning_normalize.proofs.made_names.listing.+block.Goals as goal

-- ---- blocks

pub push_block-returns : goal.push_block-returns
push_block-returns τ c =
    let b = out-Block c.args.block.now in
    let old = binders_view c.args.names.now.items in
    let mid = binders_view c.push_bindings.new.names.items in
    let ls = lets_view b.bindings.items in
    let e = operation_view b.last in
    let first : mid ≡ old ++ names_of_lets ls =
    c.in_ok-push_bindings.ensures ∙ ap (λ (l : List Binding). old ++ names_of_lets (map binding_view l)) c.deref.ensures.value in
    let whole : mid ++ names_of_form (operation_node_view b.last.node) ≡ old ++ names_of (block_view c.args.block.now) =
    ap (λ (l : List ℕ). mid ++ l) (sym (operation_names b.last))
    ∙ (ap (λ (l : List ℕ). l ++ names_of e) first ∙ (append_assoc old (names_of_lets ls) (names_of e)
    ∙ ap (λ (l : List ℕ). old ++ l) (sym (block_names c.args.block.now ∙ put-names ls e)))) in
    subst (λ (l : List ℕ). OnOk c.push_operation.result (binders_view c.push_operation.new.names.items ≡ l)) whole c.push_operation.ensures

-- ---- bindings

abbrev lets_among : List Binding → List ℕ
lets_among bs = names_of_lets (map binding_view bs)

pub push_bindings-loop-binding-preserved : goal.push_bindings-loop-binding-preserved
push_bindings-loop-binding-preserved τ c =
    row_next lets_among (λ b. names_of_let (binding_view b)) refl (λ x xs. refl) c.args.bindings.now c.loop-binding.binding-index c.binding-item.result _ _ _
    c.loop-binding-test.true c.binding-item.is c.loop-binding.invariant c.in_ok-push_binding.ensures

pub push_bindings-returns : goal.push_bindings-returns
push_bindings-returns τ c =
    row_done lets_among (λ b. names_of_let (binding_view b)) refl (λ x xs. refl) c.args.bindings.now c.loop-binding.binding-index _ _ c.loop-binding-test.false
    c.loop-binding.invariant

pub push_binding-returns-in_ok-push-in-Value : goal.push_binding-returns-in_ok-push-in-Value
push_binding-returns-in_ok-push-in-Value τ c =
    let x = c.in-Value.local in
    let o = c.in-Value.operation in
    let old = binders_view c.args.names.now.items in
    then old _ _ (names_of_form (operation_node_view o.node)) (x.binder.0 ∷ []) c.in_ok-push_operation-in-Value.ensures
    (name_added c.push_operation.new.names.items c.push.new.self.items x.binder c.in_ok-push-in-Value.ensures.items)
    ∙ ap (λ (l : List ℕ). old ++ l) (ap (λ (l : List ℕ). l ++ x.binder.0 ∷ []) (sym (operation_names o)) ∙ sym (value_names c.args.binding.now x o c.in-Value.is))

pub push_binding-returns-in_ok-push-in-Function : goal.push_binding-returns-in_ok-push-in-Function
push_binding-returns-in_ok-push-in-Function τ c =
    let f = c.in-Function.name in
    let r = c.in-Function.function in
    let old = binders_view c.args.names.now.items in
    let inner = names_of_function (recursive_view r) in
    let whole : binders_view c.push-in-Function.new.self.items ++ inner ≡ old ++ names_of_let (binding_view c.args.binding.now) =
    ap (λ (l : List ℕ). l ++ inner) (name_added c.args.names.now.items c.push-in-Function.new.self.items f c.in_ok-push-in-Function.ensures.items)
    ∙ (append_assoc old (f.0 ∷ []) inner ∙ ap (λ (l : List ℕ). old ++ l) (sym (recursive_names c.args.binding.now f r c.in-Function.is))) in
    subst (λ (l : List ℕ). OnOk c.push_function.result (binders_view c.push_function.new.names.items ≡ l)) whole c.push_function.ensures

pub push_function-returns : goal.push_function-returns
push_function-returns τ c =
    let r = out-Recursive c.args.function.now in
    let old = binders_view c.args.names.now.items in
    let inner = names_of (block_view r.body.value) in
    let mid = binders_view c.push.new.self.items in
    let whole : mid ++ names_of (block_view c.deref.result.now) ≡ old ++ names_of_function (recursive_view c.args.function.now) =
    ap (λ (b : Block). mid ++ names_of (block_view b)) c.deref.ensures
    ∙ (ap (λ (l : List ℕ). l ++ inner) (name_added c.args.names.now.items c.push.new.self.items r.parameter.binder c.in_ok-push.ensures.items)
    ∙ (append_assoc old (r.parameter.binder.0 ∷ []) inner ∙ ap (λ (l : List ℕ). old ++ l) (sym (function_names c.args.function.now)))) in
    subst (λ (l : List ℕ). OnOk c.push_block.result (binders_view c.push_block.new.names.items ≡ l)) whole c.push_block.ensures

-- ---- operations

pub push_operation-returns-in_ok-push-in-Fun : goal.push_operation-returns-in_ok-push-in-Fun
push_operation-returns-in_ok-push-in-Fun τ c =
    let x = c.in-Fun.parameter in
    let b = c.in-Fun.body in
    let old = binders_view c.args.names.now.items in
    let inner = names_of (block_view b.value) in
    let mid = binders_view c.push.new.self.items in
    let whole : mid ++ names_of (block_view c.deref.result.now) ≡ old ++ names_of_form (operation_node_view c.args.operation.now.node) =
    ap (λ (d : Block). mid ++ names_of (block_view d)) c.deref.ensures
    ∙ (ap (λ (l : List ℕ). l ++ inner) (name_added c.args.names.now.items c.push.new.self.items x.binder c.in_ok-push-in-Fun.ensures.items)
    ∙ (append_assoc old (x.binder.0 ∷ []) inner
    ∙ ap (λ (l : List ℕ). old ++ l) (sym (ap (λ a. names_of_form (operation_node_view a)) c.in-Fun.is ∙ ap names_of_form (seen_fun x b))))) in
    subst (λ (l : List ℕ). OnOk c.push_block.result (binders_view c.push_block.new.names.items ≡ l)) whole c.push_block.ensures

pub push_operation-returns-in_ok-push_block-in-If : goal.push_operation-returns-in_ok-push_block-in-If
push_operation-returns-in_ok-push_block-in-If τ c =
    let e = c.in-If.field-0 in
    let a = c.in-If.then in
    let b = c.in-If.otherwise in
    let old = binders_view c.args.names.now.items in
    let A = names_of (block_view a.value) in
    let B = names_of (block_view b.value) in
    let mid = binders_view c.push_block-in-If.new.names.items in
    let first : mid ≡ old ++ A =
    c.in_ok-push_block-in-If.ensures ∙ ap (λ (d : Block). old ++ names_of (block_view d)) c.deref-in-If.ensures in
    let whole : mid ++ names_of (block_view c.deref-in-If-2.result.now) ≡ old ++ names_of_form (operation_node_view c.args.operation.now.node) =
    ap (λ (d : Block). mid ++ names_of (block_view d)) c.deref-in-If-2.ensures
    ∙ (ap (λ (l : List ℕ). l ++ B) first ∙ (append_assoc old A B
    ∙ ap (λ (l : List ℕ). old ++ l) (sym (ap (λ n. names_of_form (operation_node_view n)) c.in-If.is ∙ ap names_of_form (seen_if e a b))))) in
    subst (λ (l : List ℕ). OnOk c.push_block-in-If-2.result (binders_view c.push_block-in-If-2.new.names.items ≡ l)) whole c.push_block-in-If-2.ensures

pub push_operation-returns-in-Match : goal.push_operation-returns-in-Match
push_operation-returns-in-Match τ c =
    let bs = c.in-Match.branches in
    let old = binders_view c.args.names.now.items in
    let whole : old ++ names_of_cases (cases_of (map branch_view c.deref-in-Match.result.now)) ≡ old ++ names_of_form (operation_node_view c.args.operation.now.node) =
    ap (λ (l : List Branch). old ++ names_of_cases (cases_of (map branch_view l))) c.deref-in-Match.ensures.value
    ∙ ap (λ (l : List ℕ). old ++ l) (sym (ap (λ n. names_of_form (operation_node_view n)) c.in-Match.is ∙ ap names_of_form (seen_match c.in-Match.field-0 c.in-Match.field-1 bs))) in
    subst (λ (l : List ℕ). OnOk c.push_branches.result (binders_view c.push_branches.new.names.items ≡ l)) whole c.push_branches.ensures

pub push_operation-returns-in_default : goal.push_operation-returns-in_default
push_operation-returns-in_default τ c =
    let old = binders_view c.args.names.now.items in
    sym (ap (λ (l : List ℕ). old ++ l) (simple_names c.args.operation.now.node c.in_default.not-Fun c.in_default.not-If c.in_default.not-Match) ∙ append-nil old)

-- ---- arms

abbrev cases_among : List Branch → List ℕ
cases_among bs = names_of_cases (cases_of (map branch_view bs))

abbrev case_names : Branch → List ℕ
case_names b = bound_in (branch_view b).pattern ++ names_of (branch_view b).body

case_more : (b : Branch) (bs : List Branch) → cases_among (b ∷ bs) ≡ case_names b ++ cases_among bs
case_more b bs = sym (append_assoc (bound_in (branch_view b).pattern) (names_of (branch_view b).body) (cases_among bs))

pub push_branches-loop-branch-preserved : goal.push_branches-loop-branch-preserved
push_branches-loop-branch-preserved τ c =
    let x = c.branch-item.result in
    let old = binders_view c.loop-branch.names.items in
    let both : binders_view c.push_block.new.names.items ≡ old ++ case_names x =
    then old _ _ (bound_in (pat_view Binder (λ b. b.0) (out-Branch x).pattern)) (names_of (block_view (out-Branch x).body)) c.in_ok-push_names.ensures c.in_ok-push_block.ensures
    ∙ ap (λ (e : Case). old ++ (bound_in e.pattern ++ names_of e.body)) (sym (branch_seen x)) in
    row_next cases_among case_names refl case_more c.args.branches.now c.loop-branch.branch-index x _ old _ c.loop-branch-test.true c.branch-item.is
    c.loop-branch.invariant both

pub push_branches-returns : goal.push_branches-returns
push_branches-returns τ c =
    row_done cases_among case_names refl case_more c.args.branches.now c.loop-branch.branch-index _ _ c.loop-branch-test.false c.loop-branch.invariant
