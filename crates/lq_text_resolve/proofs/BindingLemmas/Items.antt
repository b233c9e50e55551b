-- A pass over the visits of a program makes the items that it has once its names are bound.
use Rattle.std.proofs.Common.{◌≡◌, ℕ, suc, ◌-◌, Bool, true, false, List, [], ◌∷◌, ◌++◌, length, Option, Some, sym, ap, ◌∙◌}
use Rattle.std.proofs.lemmas.List.{append_assoc, append-nil}
use Rattle.lq_base_names.specs.declared.place.Place.{Place}
use Rattle.lq_text_tree.specs.Items.{ItemTree, ItemForm, type_of, let_of, let_rec_of}
use Rattle.lq_text_tree.specs.Pattern.{Pattern, bound_in}
use Rattle.lq_text_tree.specs.Tree.{Tree}
use Rattle.lq_text_tree.specs.TreeView.{Recursive}
use Rattle.lq_text_walk.specs.Walk.Visits.{Visit, leave_item, leave_function, declare, show, under, visits_of, visits_of_item, visits_of_items}
use Rattle.lq_text_scope.specs.Datatypes.{with_constructors}
use Rattle.lq_text_resolve.specs.Binding.Binding.{is_tuple, numbered, sources_of}
use Rattle.lq_text_resolve.specs.Binding.Machine.{Machine, first_machine, machine_with, run, values_under, parameter_in}
use Rattle.lq_text_resolve.specs.Binding.Making.{Bound_tree, Frame, first_frame, frame_with, program_made, Value, part, Items_made, items_with, item_before, item_made, items_made, made, matched, next_before, source_before, start_of, shown, named, taken_body, recursive_with}
use Rattle.lq_text_resolve.proofs.BindingLemmas.Running.{at, values_with, walked, taken_run, body_is, number_is}

abbrev pub bound_tree : List ItemTree → List (Option ℕ) → Bound_tree
bound_tree is s = record { items = is; sources = s }

-- what a machine has made
abbrev pub done_by : Machine → Items_made
done_by m = items_with m.items m.next m.sources

abbrev behind : List ItemTree → Items_made → Items_made
behind before x = items_with (before ++ x.items) x.next x.sources

behind_item : (before : List ItemTree) (i : ItemTree) (x : Items_made) → behind (before ++ i ∷ []) x ≡ behind before (item_before i x)
behind_item before i x = ap (λ (is : List ItemTree). items_with is x.next x.sources) (append_assoc before (i ∷ []) x.items)

module _ (names : List (List ℕ)) where
  -- the visits of these items, wherever they begin
  abbrev AllRun : List ItemTree → Type 0
  AllRun is =
      (k : Frame) (n : ℕ) (s : List (Option ℕ)) (before : List ItemTree) (ns : List ℕ) (ws : List Value) (b : Bool)
      → done_by (run names (machine_with k n s ns ws b before) (visits_of_items is)) ≡ behind before (items_made names k n s is)

  abbrev item_of : Place → ItemForm → ItemTree
  item_of p f = record { place = p; form = f }

  let_runs : (p : Place) (q : Pattern) (e : Tree) (is : List ItemTree) → AllRun is → (k : Frame) (n : ℕ) (s : List (Option ℕ)) (before : List ItemTree) (ns : List ℕ) (ws : List Value) (b : Bool)
      → done_by (run names (machine_with k n s ns ws b before) (visits_of_item (item_of p (let_of q e)) ++ visits_of_items is))
      ≡ behind before (item_made names p (let_of q e) k n s (λ l m r. items_made names l m r is))
  let_runs p q e is rest k n s before ns ws b =
      let s1 = s ++ sources_of (bound_in q) in let x = made names e k n s1 in let last = leave_item (item_of p (let_of q e)) in
      let item = item_of p (let_of (numbered (length s) q) (part p x.value)) in
      ap (λ (vs : List Visit). done_by (run names (at k n s1 (length s ∷ ns) ws before) vs))
      (append_assoc (visits_of e ++ show q ∷ []) (last ∷ []) (visits_of_items is) ∙ append_assoc (visits_of e) (show q ∷ []) (last ∷ visits_of_items is))
      ∙ ap done_by (walked names e k n s1 (length s ∷ ns) ws false before (show q ∷ (last ∷ visits_of_items is)))
      ∙ rest (shown (length s) q k) x.next x.sources (before ++ item ∷ []) ns ws false
      ∙ behind_item before item (items_made names (shown (length s) q k) x.next x.sources is)

  let_rec_runs : (p : Place) (f : ℕ) (r : Recursive) (is : List ItemTree) → AllRun is → (k : Frame) (n : ℕ) (s : List (Option ℕ)) (before : List ItemTree) (ns : List ℕ) (ws : List Value) (b : Bool)
      → done_by (run names (machine_with k n s ns ws b before) (visits_of_item (item_of p (let_rec_of f r)) ++ visits_of_items is))
      ≡ behind before (item_made names p (let_rec_of f r) k n s (λ l m r. items_made names l m r is))
  let_rec_runs p f r is rest k n s before ns ws b =
      let q = r.parameter in let l = named (length s) f k in let s1 = s ++ Some f ∷ [] in let start = start_of q s1 in
      let x = made names r.body (shown start q l) (next_before (is_tuple q) n) (source_before (is_tuple q) s1 ++ sources_of (bound_in q)) in
      let number = next_before (is_tuple q) x.next in
      let last = leave_item (item_of p (let_rec_of f r)) in
      let us = under q (visits_of r.body) in
      let tail = last ∷ visits_of_items is in
      let item = λ (c : Tree). item_of p (let_rec_of (length s) (recursive_with number r.place (parameter_in q start) c)) in
      let body = taken_body (is_tuple q) start q (matched (length s1) q n) (part r.place x.value) x.next in
      ap (λ (vs : List Visit). done_by (run names (machine_with l n s1 (length s ∷ ns) ws true before) (declare q ∷ vs)))
      (append_assoc (us ++ leave_function r ∷ []) (last ∷ []) (visits_of_items is) ∙ append_assoc us (leave_function r ∷ []) tail)
      ∙ ap done_by (taken_run names q r.body (walked names r.body) l n s1 (length s ∷ ns) ws before (leave_function r ∷ tail))
      ∙ ap (λ (c : Tree). done_by (run names (machine_with l (suc number) x.sources ns (values_under q (x.value ∷ values_with q (length s1) n ws)) false (before ++ item c ∷ [])) (visits_of_items is)))
      (body_is r.place q start (length s1) n x.value ws (number - 1) ∙ number_is q start (matched (length s1) q n) (part r.place x.value) x.next)
      ∙ rest l (suc number) x.sources (before ++ item body ∷ []) ns (values_under q (x.value ∷ values_with q (length s1) n ws)) false
      ∙ behind_item before (item body) (items_made names l (suc number) x.sources is)

  item_runs : (p : Place) (f : ItemForm) (is : List ItemTree) → AllRun is → (k : Frame) (n : ℕ) (s : List (Option ℕ)) (before : List ItemTree) (ns : List ℕ) (ws : List Value) (b : Bool)
      → done_by (run names (machine_with k n s ns ws b before) (visits_of_item (item_of p f) ++ visits_of_items is))
      ≡ behind before (item_made names p f k n s (λ l m r. items_made names l m r is))
  item_runs p (type_of d) is rest k n s before ns ws b = rest (frame_with k.variables (with_constructors k.constructors d.constructors)) n s before ns ws false
  item_runs p (let_of q e) is rest k n s before ns ws b = let_runs p q e is rest k n s before ns ws b
  item_runs p (let_rec_of f r) is rest k n s before ns ws b = let_rec_runs p f r is rest k n s before ns ws b

  pub all_run : (is : List ItemTree) → AllRun is
  all_run [] k n s before ns ws b = ap (λ (is : List ItemTree). items_with is n s) (sym (append-nil before))
  all_run (i ∷ is) k n s before ns ws b = item_runs i.place i.form is (all_run is) k n s before ns ws b

  -- a whole program
  pub program_runs : (is : List ItemTree) → (let m = run names first_machine (visits_of_items is) in bound_tree m.items m.sources) ≡ program_made names is
  program_runs is = ap (λ (x : Items_made). bound_tree x.items x.sources) (all_run is first_frame 0 [] [] [] [] false)

  -- and the number of the node behind its last
  pub program_next : (is : List ItemTree) → (run names first_machine (visits_of_items is)).next ≡ (items_made names first_frame 0 [] is).next
  program_next is = ap (λ (x : Items_made). x.next) (all_run is first_frame 0 [] [] [] [] false)
