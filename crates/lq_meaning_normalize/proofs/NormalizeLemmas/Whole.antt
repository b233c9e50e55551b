-- A whole tree, a recursive function, and a whole program.
use Rattle.std.proofs.Common.{◌≡◌, ℕ, ◌+◌, ◌<◌, ◌≤◌, true, List, [], ◌∷◌, ◌++◌, map, drop, length, get_or, refl, sym, ap, ap₂, ◌∙◌, append_assoc, append-nil, rules}
use Rattle.std.proofs.lemmas.List.{drop_more, drop_all}
use Rattle.lq_base_names.specs.declared.name.Binder.{Binder}
use Rattle.lq_base_names.specs.declared.place.Place.{Place}
use Rattle.lq_text_tree.specs.Items.{ItemTree, item_view}
use Rattle.lq_text_tree.specs.Pattern.{Pattern}
use Rattle.lq_text_tree.specs.Tree.{Tree}
use Rattle.lq_text_tree.specs.TreeView.{Recursive, function_view, scoped_view}
use Rattle.lq_text_tree.specs.PatternView.{pat_view}
use Rattle.lq_text_tree.specs.declared.expr.Function.{Function, out-Function}
use Rattle.lq_text_tree.specs.declared.expr.Node.{the_lemmas}
use Rattle.lq_text_tree.specs.declared.item.Item.{Item}
use Rattle.lq_meaning_normal_form.specs.Outcomes.Flattening.{Let}
use Rattle.lq_meaning_normal_form.specs.Outcomes.Naming.{behind, parameter}
use Rattle.lq_meaning_normalize.specs.Pass.Forming.{Formed, block_of, body_under, formed}
use Rattle.lq_meaning_normal_form.specs.Outcomes.Flattening.{normal_of}
use Rattle.lq_meaning_normal_form.specs.Outcomes.OnePass.{OnePassIsBoth}
use Rattle.lq_meaning_normalize.specs.Pass.Rules.{items_have_rules, PassAgrees}
use Rattle.lq_meaning_normalize.proofs.NormalizeLemmas.Programs.{program_is}
use Rattle.lq_meaning_normalize.specs.Normalize.Frames.{plugged, under_parameter}
use Rattle.lq_meaning_normalize.specs.Normalize.Program.{formed_body, formed_function, formed_item, formed_program, next_behind, next_behind_all}
use Rattle.lq_meaning_normalize.specs.declared.normalize.frames.Frame.{Frame}
use Rattle.lq_meaning_normalize.specs.declared.normalize.frames.Parameter.{Parameter}

-- where nothing is left around it and nothing was bound before it
pub tree_made : (fs : List Frame) (ls : List Let) (k : ℕ) (t : Tree) (F : Formed) → fs ≡ [] → ls ≡ [] → F ≡ plugged fs (formed ls k t) → F ≡ formed [] k t
tree_made fs ls k t F none unbound is = is ∙ ap₂ (λ gs ms. plugged gs (formed ms k t)) none unbound

abbrev pub the_function : ℕ → Place → Pattern → Tree → Recursive
the_function i p q b = record { id = i; place = p; parameter = q; body = b }

pub function_made : (r : Recursive) (k n : ℕ) (x : Parameter) (q : Pattern) (b d : Tree) → q ≡ parameter k r.parameter → n ≡ behind k r.parameter
    → b ≡ block_of (formed [] n r.body) → d ≡ under_parameter x b → ((t : Tree) → under_parameter x t ≡ body_under k r.parameter t)
    → the_function r.id r.place q d ≡ formed_function k r
function_made r k n x q b d local next is under names =
    ap₂ (the_function r.id r.place) local
    (under ∙ names b ∙ ap (body_under k r.parameter) (is ∙ ap (λ m. block_of (formed [] m r.body)) next))

abbrev seen : Item Binder → ItemTree
seen = item_view Binder (λ b. b.0)

-- one definition more
pub more_defined : (xs : List (Item Binder)) (at : ℕ) (x : Item Binder) (old new whole : List ItemTree) (k n : ℕ) → at < length xs → x ≡ get_or xs at x
    → new ≡ old ++ formed_item k (seen x).place (seen x).form → n ≡ next_behind k (seen x).form
    → old ++ formed_program k (map seen (drop at xs)) ≡ whole → new ++ formed_program n (map seen (drop (at + 1) xs)) ≡ whole
more_defined xs at x old new whole k n within here added next before =
    let one : drop at xs ≡ x ∷ drop (at + 1) xs = drop_more xs at x within ∙ ap (λ (y : Item Binder). y ∷ drop (at + 1) xs) (sym here) in
    ap₂ (λ js m. js ++ formed_program m (map seen (drop (at + 1) xs))) added next
    ∙ append_assoc old (formed_item k (seen x).place (seen x).form) (formed_program (next_behind k (seen x).form) (map seen (drop (at + 1) xs)))
    ∙ ap (λ ys. old ++ formed_program k (map seen ys)) (sym one) ∙ before

all_defined : (xs : List (Item Binder)) (at : ℕ) (old whole : List ItemTree) (k : ℕ) → length xs ≤ at → old ++ formed_program k (map seen (drop at xs)) ≡ whole → old ≡ whole
all_defined xs at old whole k far before = sym (append-nil old) ∙ ap (λ ys. old ++ formed_program k (map seen ys)) (sym (drop_all at xs far)) ∙ before

pub program_made : OnePassIsBoth → PassAgrees → (xs : List (Item Binder)) (is : List ItemTree) (at k m n : ℕ) (old : List ItemTree) → length xs ≤ at → map seen xs ≡ is → k ≡ m
    → old ++ formed_program n (map seen (drop at xs)) ≡ formed_program k (map seen xs) → items_have_rules is ≡ true → old ≡ normal_of m is
program_made one_pass agrees xs is at k m n old far items same before rules =
    all_defined xs at old (formed_program k (map seen xs)) n far before ∙ ap₂ formed_program same items ∙ program_is one_pass agrees is m rules

pub all_named : (xs : List (Item Binder)) (is : List ItemTree) (at k m n : ℕ) → length xs ≤ at → map seen xs ≡ is → k ≡ m
    → next_behind_all n (map seen (drop at xs)) ≡ next_behind_all k (map seen xs) → n ≡ next_behind_all m is
all_named xs is at k m n far items same before =
    ap (λ ys. next_behind_all n (map seen ys)) (sym (drop_all at xs far)) ∙ before ∙ ap₂ next_behind_all same items

pub more_named : (xs : List (Item Binder)) (at : ℕ) (x : Item Binder) (whole k n : ℕ) → at < length xs → x ≡ get_or xs at x → n ≡ next_behind k (seen x).form
    → next_behind_all k (map seen (drop at xs)) ≡ whole → next_behind_all n (map seen (drop (at + 1) xs)) ≡ whole
more_named xs at x whole k n within here next before =
    let one : drop at xs ≡ x ∷ drop (at + 1) xs = drop_more xs at x within ∙ ap (λ (y : Item Binder). y ∷ drop (at + 1) xs) (sym here) in
    ap (λ m. next_behind_all m (map seen (drop (at + 1) xs))) next ∙ ap (λ ys. next_behind_all k (map seen ys)) (sym one) ∙ before

function_seen : (f : Function Binder) → function_view Binder (λ b. b.0) f
    ≡ the_function (out-Function Binder f).id (out-Function Binder f).place (pat_view Binder (λ b. b.0) (out-Function Binder f).parameter) (scoped_view (out-Function Binder f).body.value)
function_seen f = search (rules, the_lemmas)

-- the same of a function in memory
pub function_formed : (f : Function Binder) (k n : ℕ) (x : Parameter) (q : Pattern) (b d e : Tree) → q ≡ parameter k (pat_view Binder (λ b. b.0) (out-Function Binder f).parameter)
    → n ≡ behind k (pat_view Binder (λ b. b.0) (out-Function Binder f).parameter) → b ≡ block_of (formed [] n e) → e ≡ scoped_view (out-Function Binder f).body.value → d ≡ under_parameter x b
    → ((t : Tree) → under_parameter x t ≡ body_under k (pat_view Binder (λ b. b.0) (out-Function Binder f).parameter) t)
    → the_function (out-Function Binder f).id (out-Function Binder f).place q d ≡ formed_function k (function_view Binder (λ b. b.0) f)
function_formed f k n x q b d e local next is body under names =
    let o = out-Function Binder f in
    function_made (the_function o.id o.place (pat_view Binder (λ b. b.0) o.parameter) (scoped_view o.body.value)) k n x q b d local next
    (is ∙ ap (λ t. block_of (formed [] n t)) body) under names
    ∙ ap (formed_function k) (sym (function_seen f))
