-- The lines of programs, one item more at a time.
use Rattle.std.specs.Prelude.{slice_get}
use Rattle.std.specs.declared.alloc.Global.{Global}
use Rattle.std.specs.declared.vec.Vec.{Vec}
use Rattle.std.proofs.Common.{◌≡◌, ℕ, zero, suc, ◌+◌, ◌<◌, ◌≤◌, All, List, [], ◌∷◌, ◌++◌, length, map, take, get_or, Option, Some, None, IfSome, refl, sym, ap, ap₂, subst, ◌∙◌, append_assoc, arith}
use Rattle.std.proofs.lemmas.List.{take_more}
use Rattle.std.proofs.lemmas.List.Elements.{All-head, All-tail}
use Rattle.lq_refined_rules.specs.Checks.Tree as t
use Rattle.lq_refined_types.specs.Parts.Part.{Scopes}
use Rattle.lq_refined_templates.specs.Programs.BlockView.{block_view, item_view, program_view}
use Rattle.lq_refined_templates.specs.declared.programs.block.Item.{Item}
use Rattle.lq_refined_templates.specs.declared.programs.block.Item.TheVariants as item
use Rattle.lq_refined_templates.specs.Points.Templates.{templates_at}
use Rattle.lq_refined_types.specs.Types.Refined.{Refined, Refineds, unit_type, more}
use Rattle.lq_refined_subtyping.specs.Table.Forms.{at, each}
use Rattle.lq_refined_subtyping.specs.Table.Growing.{extends-at}
use Rattle.lq_refined_subtyping.specs.Table.Whole.{count_of, types_of, Grows}
use Rattle.lq_refined_subtyping.specs.declared.table.table.RefinedTypes.{RefinedTypes}
use Rattle.lq_refined_types.specs.Subtyping.Splitting.{first_of}
use Rattle.std.proofs.lemmas.Option.{slice_get-get_or, slice_get-map, slice_get_within}
use Rattle.std.specs.Option.{option_map}
use Rattle.lq_top_answers.specs.Assignment.Views.{assignment_view}
use Rattle.lq_base_names.specs.declared.name.Name.{Name}
use Rattle.lq_logic_text.specs.Views.{source_view}
use Rattle.lq_refined_substitution.specs.Substitution.Views.{scopes_view}
use Rattle.lq_top_answers.specs.TypeText.Views.{writing_view}
use Rattle.lq_top_answers.specs.declared.inferred.lines.Solution.{Solution}
use Rattle.lq_top_answers.specs.Inferred.Lines.{Inferred, definition_line, named_line, point_of, types_text_of}
use Rattle.lq_top_answers.specs.Inferred.Views.{AreBelow, AreThere, at_or_unit, plain_line, rows_of, solution_view, template_of}

text-append : (i : Inferred) (xs : List Item) (x : Item) → types_text_of i (program_view (xs ++ x ∷ [])) ≡ types_text_of i (program_view xs) ++ types_text_of i (item_view x t.no_items)
text-append i [] (item.Define x l k b) = refl
text-append i [] (item.DefineFunction f p y b) = refl
text-append i [] (item.RunUnit b) = refl
text-append i [] (item.RunAny b) = refl
text-append i (item.Define y l k b ∷ xs) x =
    ap (λ (r : List ℕ). definition_line i y.0 (point_of k (block_view b)) ++ r) (text-append i xs x)
    ∙ sym (append_assoc (definition_line i y.0 (point_of k (block_view b))) (types_text_of i (program_view xs)) (types_text_of i (item_view x t.no_items)))
text-append i (item.DefineFunction f p y b ∷ xs) x =
    ap (λ (r : List ℕ). definition_line i f.0 p ++ r) (text-append i xs x)
    ∙ sym (append_assoc (definition_line i f.0 p) (types_text_of i (program_view xs)) (types_text_of i (item_view x t.no_items)))
text-append i (item.RunUnit b ∷ xs) x = text-append i xs x
text-append i (item.RunAny b ∷ xs) x = text-append i xs x

-- one item more
pub text_more : (i : Inferred) (xs : List Item) (at : ℕ) (x : Item) (start before after : List ℕ) → at < length xs → x ≡ get_or xs at x → before ≡ start ++ types_text_of i (program_view (take at xs))
    → after ≡ before ++ types_text_of i (item_view x t.no_items) → after ≡ start ++ types_text_of i (program_view (take (at + 1) xs))
text_more i xs at x start before after lt here is now =
    now ∙ ap (λ (l : List ℕ). l ++ types_text_of i (item_view x t.no_items)) is
    ∙ append_assoc start (types_text_of i (program_view (take at xs))) (types_text_of i (item_view x t.no_items))
    ∙ ap (λ (l : List ℕ). start ++ l)
    (sym (text-append i (take at xs) x) ∙ ap (λ l. types_text_of i (program_view l)) (ap (λ y. take at xs ++ y ∷ []) here ∙ sym (take_more xs at x lt)))

-- the template of a point by its number
pub no_row : (types : List Refined) (rows : List (Vec ℕ Global)) (k : ℕ) → slice_get rows k ≡ None → template_of types rows k ≡ unit_type
no_row types [] k e = refl
no_row types (r ∷ rows) zero e = absurd cc
no_row types (r ∷ rows) (suc k) e = no_row types rows k e

first_each : (types : List Refined) (is : List ℕ) → first_of (each types is) ≡ at_or_unit types (slice_get is 0)
first_each types [] = refl
first_each types (n ∷ is) = refl

pub some_row : (types : List Refined) (rows : List (Vec ℕ Global)) (k : ℕ) (row : Vec ℕ Global) → slice_get rows k ≡ Some row → template_of types rows k ≡ at_or_unit types (slice_get row.items 0)
some_row types [] k row e = absurd cc
some_row types (r ∷ rows) zero row e = let same : r ≡ row = cc in first_each types r.items ∙ ap (λ (v : Vec ℕ Global). at_or_unit types (slice_get v.items 0)) same
some_row types (r ∷ rows) (suc k) row e = some_row types rows k row e

-- the old types stay
each_kept : (S : Scopes) (old new : RefinedTypes) → Grows old new → (is : List ℕ) → All (λ r. r < count_of old) is → each (types_of S new) is ≡ each (types_of S old) is
each_kept S old new grows [] there = refl
each_kept S old new grows (n ∷ is) there =
    ap₂ more (extends-at S old.rows.items new.rows.items n grows (All-head (λ r. r < count_of old) n is there))
    (each_kept S old new grows is (All-tail (λ r. r < count_of old) n is there))

pub rows_kept : (S : Scopes) (old new : RefinedTypes) → Grows old new → (rows : List (Vec ℕ Global)) → AreThere old rows → rows_of (types_of S new) rows ≡ rows_of (types_of S old) rows
rows_kept S old new grows [] there = refl
rows_kept S old new grows (r ∷ rows) there =
    ap₂ (λ (a : Refineds) (l : List Refineds). a ∷ l)
    (each_kept S old new grows r.items (All-head (λ (row : Vec ℕ Global). All (λ r. r < count_of old) row.items) r rows there))
    (rows_kept S old new grows rows (All-tail (λ (row : Vec ℕ Global). All (λ r. r < count_of old) row.items) r rows there))

pub there_kept : (n m : ℕ) → n ≤ m → (rows : List (Vec ℕ Global)) → AreBelow n rows → AreBelow m rows
there_kept n m le rows there = λ k d lt j e low. let h = there k d lt j e low in omega arith

-- what the first number of a row is below
pub first_below : (n : ℕ) (rows : List (Vec ℕ Global)) (k : ℕ) (row : Vec ℕ Global) → AreBelow n rows → slice_get rows k ≡ Some row → (o : Option ℕ) → o ≡ slice_get row.items 0 → IfSome o (λ r. r < n)
first_below n rows k row there here None is = tt
first_below n rows k row there here (Some r) is =
    let lt = slice_get_within rows k row here in
    let same : get_or rows k row ≡ row = (let e = slice_get-get_or rows k row lt in cc) in
    let low = slice_get_within row.items 0 r (sym is) in
    let first : get_or row.items 0 r ≡ r = (let e = slice_get-get_or row.items 0 r low in cc) in
    let all = subst (λ (v : Vec ℕ Global). All (λ q. q < n) v.items) same (there k row lt) in
    subst (λ (q : ℕ). q < n) first (all 0 r low)

-- the same lines by the types that are there now
pub same_solution : (old new : RefinedTypes) (s : Solution) → Grows old new → AreThere old s.templates.now → solution_view new s ≡ solution_view old s
same_solution old new s grows there =
    ap (λ (tss : List Refineds). record { template = λ k. first_of (templates_at tss k); assignment = assignment_view s.assignment.now; writing = writing_view s.writing.now })
    (rows_kept (scopes_view s.scopes.now) old new grows s.templates.now there)

named_plain : (i : Inferred) (r : Refined) (o : Option Name) → named_line i r (Some (source_view o)) ≡ plain_line i r o
named_plain i r None = refl
named_plain i r (Some x) = refl

pub source_found : (i : Inferred) (r : Refined) (S : List (Option Name)) (b : ℕ) (o : Option Name) → Some o ≡ slice_get S b → named_line i r (slice_get (map source_view S) b) ≡ plain_line i r o
source_found i r S b o here = ap (named_line i r) (slice_get-map source_view S b ∙ ap (option_map source_view) (sym here)) ∙ named_plain i r o

pub source_none : (i : Inferred) (r : Refined) (S : List (Option Name)) (b : ℕ) → None ≡ slice_get S b → named_line i r (slice_get (map source_view S) b) ≡ []
source_none i r S b here = ap (named_line i r) (slice_get-map source_view S b ∙ ap (option_map source_view) (sym here))
