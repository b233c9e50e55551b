-- What is left to do of a tree: each frame makes of what a part becomes what its node becomes.
use Rattle.std.specs.Prelude.{◌≡◌, ℕ, Bool, true, false, List, [], ◌∷◌, ◌++◌, map, Option, Some, None, if◌then◌else◌}
use Rattle.lq_meaning_normal_tree.specs.AtomView.{atom_view}
use Rattle.lq_meaning_normal_tree.specs.BlockView.{block_view, branch_view, lets_view, local_view}
use Rattle.lq_meaning_normal_tree.specs.declared.block.Local.{Local}
use Rattle.lq_base_names.specs.declared.name.Binder.{Binder}
use Rattle.lq_base_names.specs.declared.place.Place.{Place}
use Rattle.lq_meaning_normal_form.specs.Outcomes.Flattening.{Let, let_function}
use Rattle.lq_meaning_normal_form.specs.Outcomes.Naming.{is_use, id_of, place_of, behind}
use Rattle.lq_meaning_normalize.specs.Pass.Forming.{Goes, Formed, FormedRow, FormedCases, operation, atom, named, operand, block_of, after_one, after_two, connective, over_two, after_three, over_choice, over_three, with_atom, literal, settled, bound, over_cases, over_row, function, recursive, formed, formed_all, formed_items, formed_chain, formed_rest, formed_cases}
use Rattle.lq_meaning_normalize.specs.Pass.Views.{became, lets_of, under_view}
use Rattle.lq_meaning_normalize.specs.declared.pass.making.Pass.{Pass}
use Rattle.lq_text_tree.specs.Pattern.{Pattern}
use Rattle.lq_text_tree.specs.declared.pattern.Pat.{Pat}
use Rattle.lq_text_tree.specs.PatternView.{pat_view}
use Rattle.lq_text_tree.specs.Tree as form
use Rattle.lq_text_tree.specs.Tree.{Tree, tree, Trees}
use Rattle.lq_text_tree.specs.TreeView.{Case, Recursive, trees_of, cases_of, scoped_view, cases_view}
use Rattle.lq_text_walk.specs.Walk.Shape as shape
use Rattle.lq_text_walk.specs.Walk.Shape.{Two, Three, Row, Shape, listed_cases}
use Rattle.lq_text_walk.specs.Walk.View.{one_view, two_view, three_view, row_view}
use Rattle.lq_meaning_normalize.specs.Normalize.Parts.{parts_left, arms_left}
use Rattle.lq_meaning_normalize.specs.declared.normalize.frames.Frame.{Frame}
use Rattle.lq_meaning_normalize.specs.declared.normalize.frames.Label.{Label}
use Rattle.lq_meaning_normalize.specs.declared.normalize.frames.Machine.{Machine}
use Rattle.lq_meaning_normalize.specs.declared.normalize.frames.Next.{Next}
use Rattle.lq_meaning_normalize.specs.declared.normalize.frames.Next.TheVariants as next
use Rattle.lq_meaning_normalize.specs.declared.normalize.frames.Operand.{Operand}
use Rattle.lq_meaning_normalize.specs.declared.normalize.frames.Parameter.{Parameter}
use Rattle.lq_meaning_normalize.specs.declared.normalize.frames.Scrutinee.{Scrutinee}
use Rattle.lq_meaning_normalize.specs.declared.normalize.frames.Step.{Step}
use Rattle.lq_meaning_normalize.specs.declared.normalize.frames.Step.TheVariants as step

-- a tree that is made next
abbrev pub forms : Tree → Goes
forms t ls k = formed ls k t

-- a pure expression, as an operand that is done
abbrev pub done : Operand → Formed
done x = atom [] 0 x.pure (atom_view x.atom)

-- the same behind these lets
abbrev pub done_behind : List Let → Operand → Formed
done_behind ls x = atom ls 0 x.pure (atom_view x.atom)

-- ---- operands

abbrev pub after_left : Two → ℕ → Place → Formed → Tree → Formed → Formed
after_left h i p A b F = over_two h i p A (operand b F)

abbrev pub after_middle : Three → ℕ → Place → Formed → Tree → Tree → Formed → Formed
after_middle h i p A b c F = let B = operand b F in over_three h i p A B (operand c (formed B.lets B.next c))

abbrev pub after_last : Three → ℕ → Place → Formed → Formed → Tree → Formed → Formed
after_last h i p A B c F = over_three h i p A B (operand c F)

abbrev pub after_then : ℕ → Place → List Let → Tree → Tree → Formed → Formed
after_then i p ls x c F = over_choice i p (atom ls 0 true x) F (formed [] F.next c)

abbrev pub after_else : ℕ → Place → List Let → Tree → Tree → Formed → Formed
after_else i p ls x a F = operation ls F.next (tree i p (form.if_else x a (block_of F)))

-- ---- rows

-- what one part of a row becomes, and the parts from one on
abbrev pub part_of_row : Row → Tree → Formed → Formed
part_of_row shape.list_of e F = named (id_of e) (place_of e) F
part_of_row h e F = operand e F

abbrev pub parts_of_row : Row → List Let → ℕ → Trees → FormedRow
parts_of_row shape.list_of ls k es = formed_items ls k es
parts_of_row h ls k es = formed_all ls k es

-- a node of these parts
abbrev pub row_of_parts : Row → ℕ → Place → FormedRow → Formed
row_of_parts shape.tuple i p R = operation R.lets R.next (tree i p (form.tuple (trees_of R.atoms)))
row_of_parts (shape.build c w) i p R = operation R.lets R.next (tree i p (form.build c w (trees_of R.atoms)))
row_of_parts shape.list_of i p R = literal i p R
row_of_parts shape.chain i p R = operation R.lets R.next (tree i p form.assert_false)

-- what one part becomes, as a row
abbrev pub one_part : Formed → FormedRow
one_part F = record { lets = F.lets; next = F.next; atoms = F.last ∷ [] }

-- parts that are done, before others
abbrev pub behind_parts : List Tree → FormedRow → FormedRow
behind_parts xs R = record { lets = R.lets; next = R.next; atoms = xs ++ R.atoms }

abbrev pub after_part : Row → ℕ → Place → List Tree → Tree → List Tree → Formed → Formed
after_part h i p xs e es F = row_of_parts h i p (behind_parts xs (with_atom (part_of_row h e F) (λ ls k. parts_of_row h ls k (trees_of es))))

-- a node with these parts
abbrev pub row_node : Row → ℕ → Place → List Let → ℕ → List Tree → Formed
row_node h i p ls k es = over_row h i p (formed_all ls k (trees_of es)) (formed_items ls k (trees_of es)) (formed_chain ls k i p (trees_of es))

abbrev pub after_link : ℕ → Place → List Tree → Formed → Formed
after_link i p es F = settled (formed_rest i p F (trees_of es))

-- ---- bodies

abbrev pub under_parameter : Parameter → Tree → Tree
under_parameter x b = under_view x.local x.pattern b

abbrev pub function_node : ℕ → Place → List Let → ℕ → Pattern → Tree → Formed
function_node i p ls k q b = function ls i p k q (formed [] (behind k q) b)

-- a recursive function and what follows
abbrev pub recursive_node : ℕ → Place → List Let → ℕ → ℕ → Recursive → Tree → Formed
recursive_node i p ls k f r e =
    let B = formed [] (behind k r.parameter) r.body in settled (formed (recursive ls i p f r.id r.place k r.parameter B) B.next e)

abbrev pub after_body : ℕ → Place → List Let → Parameter → Formed → Formed
after_body i p ls x F = operation ls F.next (tree i p (form.fun (local_view x.local) (under_parameter x (block_of F))))

abbrev pub after_under : List Let → Local → Pat Binder → Formed → Formed
after_under ls x q F = operation ls F.next (under_view x (Some q) (block_of F))

abbrev pub after_function : ℕ → Place → List Let → ℕ → Label → Parameter → Tree → Formed → Formed
after_function i p ls f r x e F = settled (formed (ls ++ let_function i p f r.id r.place (local_view x.local) (under_parameter x (block_of F)) ∷ []) F.next e)

-- ---- matches

abbrev pub scrutinee_view : Scrutinee → Tree
scrutinee_view x = tree x.id x.local.place (form.use_of x.local.binder.0)

-- a match with these arms before the others
abbrev pub match_with : ℕ → Place → List Let → Tree → List Case → FormedCases → Formed
match_with i p ls x done C = operation ls C.next (tree i p (form.match_on x (cases_of (done ++ listed_cases C.cases))))

abbrev pub after_arm : ℕ → Place → List Let → Tree → List Case → Pattern → List Case → Formed → Formed
after_arm i p ls x done q cs F = match_with i p ls x (done ++ record { pattern = q; body = block_of F } ∷ []) (formed_cases F.next (cases_of cs))

-- the variable that a node is, if it is one
abbrev pub variable_in : Shape → Option ℕ
variable_in (shape.leaf (shape.use_of x)) = Some x
variable_in s = None

-- what a match looks at: a variable stands for itself, and what is none is bound
abbrev pub looked_at : Tree → Formed → Formed
looked_at e F = if is_use e then atom F.lets F.next true e else named (id_of e) (place_of e) F

abbrev pub after_scrutinee : ℕ → Place → Tree → List Case → Formed → Formed
after_scrutinee i p e cs F = let E = looked_at e F in over_cases i p E (formed_cases E.next (cases_of cs))

-- the bindings so far, and this
abbrev pub with_tree : Pass → Tree → FormedRow
with_tree P t = record { lets = lets_of P; next = P.next; atoms = t ∷ [] }

-- ---- frames

abbrev pub step_view : ℕ → Place → Step → Formed → Formed
step_view i p (step.One h a) F = after_one (one_view h) i p (scoped_view a.now) F
step_view i p (step.First h a b) F = after_two (two_view h) i p (scoped_view a.now) (scoped_view b.now) F (forms (scoped_view b.now))
step_view i p (step.Second h x b) F = after_left (two_view h) i p (done x) (scoped_view b.now) F
step_view i p (step.Connective h x ls) F = connective (two_view h) i p (done_behind (lets_view ls.items) x) F
step_view i p (step.Three h a b c) F =
    after_three (three_view h) i p (scoped_view a.now) (scoped_view b.now) (scoped_view c.now) F (forms (scoped_view b.now)) (forms (scoped_view c.now))
step_view i p (step.Middle h x b c) F = after_middle (three_view h) i p (atom [] 0 true (atom_view x)) (scoped_view b.now) (scoped_view c.now) F
step_view i p (step.Last h x y c) F = after_last (three_view h) i p (atom [] 0 true (atom_view x)) (atom [] 0 true (atom_view y)) (scoped_view c.now) F
step_view i p (step.Then x ls c) F = after_then i p (lets_view ls.items) (atom_view x) (scoped_view c.now) F
step_view i p (step.Else x a ls) F = after_else i p (lets_view ls.items) (atom_view x) (block_view a) F
step_view i p (step.Row h e es xs) F = after_part (row_view h) i p (map atom_view xs.items) (scoped_view e.now) (parts_left es) F
step_view i p (step.Chain es) F = after_link i p (parts_left es) F
step_view i p (step.Body x ls) F = after_body i p (lets_view ls.items) x F
step_view i p (step.Bound q b) F = bound i p (pat_view Binder (λ b. b.0) q.now) F (forms (scoped_view b.now))
step_view i p (step.Under x q ls) F = after_under (lets_view ls.items) x q F
step_view i p step.Settle F = settled F
step_view i p (step.Function f r x ls e) F = after_function i p (lets_view ls.items) f.0 r x (scoped_view e.now) F
step_view i p (step.Scrutinee e cs) F = after_scrutinee i p (scoped_view e.now) (listed_cases (cases_view Binder (λ b. b.0) cs.now)) F
step_view i p (step.Arm x q cs done ls) F =
    after_arm i p (lets_view ls.items) (scrutinee_view x) (map branch_view done.items) (pat_view Binder (λ b. b.0) q) (arms_left cs) F

abbrev pub step_at : Label → Step → Formed → Formed
step_at l s F = step_view l.id l.place s F

-- frames around what the innermost part becomes
abbrev pub plugged : List Frame → Formed → Formed
plugged [] F = F
plugged (f ∷ fs) F = step_at f.label f.step (plugged fs F)

abbrev pub next_view : Pass → Next → Formed
next_view P (next.Enter e) = formed (lets_of P) P.next (scoped_view e.now)
next_view P (next.Made n) = became P n

-- what the whole becomes
abbrev pub whole : Machine → Next → Formed
whole M n = plugged M.frames.items (next_view M.pass n)

-- from the one machine to the other what is next stands for the same whole
abbrev pub MakesWhole : Machine → Machine → Next → Formed → Type 0
MakesWhole M N n F = whole N n ≡ plugged M.frames.items F
