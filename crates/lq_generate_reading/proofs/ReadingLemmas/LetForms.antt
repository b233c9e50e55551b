-- Bindings, one after another.
use Rattle.std.proofs.Common.{◌≡◌, ◌∙◌, ℕ, suc, ◌+◌, ◌-◌, Bool, false, true, List, [], ◌∷◌, ◌++◌, length, drop, Some, refl, sym, ap, ap₂, subst, append_assoc, arith, rules}
use Rattle.std.proofs.lemmas.List.{length-append, length-map}
use Rattle.std.specs.declared.alloc.Global.{Global}
use Rattle.std.specs.declared.boxed.Box.{Box}
use Rattle.std.specs.declared.vec.Vec.{Vec}
use Rattle.lq_meaning_normal_tree.specs.BlockView.{binding_view, block_view, local_view, operation_node_view, operation_view, recursive_view}
use Rattle.lq_meaning_normal_tree.specs.declared.block.Binding.{Binding}
use Rattle.lq_meaning_normal_tree.specs.declared.block.Bound.TheVariants as bound
use Rattle.lq_meaning_normal_tree.specs.declared.block.Local.{Local}
use Rattle.lq_meaning_normal_tree.specs.declared.block.Operation.{Operation}
use Rattle.lq_meaning_normal_tree.specs.declared.block.OperationNode.{the_lemmas}
use Rattle.lq_meaning_normal_tree.specs.declared.block.Recursive.{Recursive, out-Recursive}
use Rattle.lq_refined_rules.specs.Checks.Tree as t
use Rattle.lq_base_names.specs.declared.name.Binder.{Binder}
use Rattle.lq_base_names.specs.declared.place.Place.{Place}
use Rattle.lq_meaning_normal_form.specs.Outcomes.Flattening.{Let, let_one, let_function, put_in}
use Rattle.lq_refined_templates.specs.Programs.BlockView as made
use Rattle.lq_refined_templates.specs.Programs.BlockView.{Around}
use Rattle.lq_refined_templates.specs.Programs.PointView.{point_view}
use Rattle.lq_refined_templates.specs.declared.programs.block.Binding.{Binding as MadeBinding, the_lemmas as made_lemmas}
use Rattle.lq_refined_templates.specs.declared.programs.block.Binding.TheVariants as made_bound
use Rattle.lq_refined_templates.specs.declared.programs.block.Block.{Block as MadeBlock, roll-Block}
use Rattle.lq_refined_templates.specs.declared.programs.block.Operation.{Operation as MadeOperation}
use Rattle.lq_refined_templates.specs.Points.Annotation.{Annotation}
use Rattle.lq_refined_templates.specs.Points.Point.{Point, whole}
use Rattle.lq_refined_templates.specs.Points.Pure.{Read, after, with_one, with_two}
use Rattle.lq_refined_templates.specs.Points.Reading.{block_of, function_names, parameter_of}
use Rattle.lq_refined_templates.specs.Points.Seen.{Seen, seen, seen_until, scope_at}
use Rattle.lq_text_tree.specs.Tree.{Tree}
use Rattle.lq_text_tree.specs.TreeView as view
use Rattle.lq_text_walk.specs.Walk.Visits.{place_of}
use Rattle.lq_generate_reading.specs.Visibility.Growing.{front_dropped, Longer-trans}
use Rattle.lq_generate_reading.specs.Visibility.Notes.{annotation_view, types_in}
use Rattle.lq_generate_reading.specs.declared.visibility.notes.Notes.{Notes}
use Rattle.lq_generate_reading.specs.Reading.Blocks.{block_read, let_of, let_seen, own_of, own_read, recursive_of, recursive_read, Binds}
use Rattle.lq_generate_reading.specs.Reading.Names.{left_of, Sees}
use Rattle.lq_generate_reading.specs.Reading.State.{count_of, points_in, scopes_of, seen_of, Reads}
use Rattle.lq_generate_reading.specs.Reading.Through.{Through}
use Rattle.lq_generate_reading.specs.declared.reading.state.State.{State}
use Rattle.lq_generate_reading.proofs.ReadingLemmas.BlockForms.{binding_seen, bound_view, operation_seen}
use Rattle.lq_generate_reading.proofs.ReadingLemmas.OwnForms.{after_behind, own_block}

-- what follows a let behind what it is read as
pub let_next : (n : Annotation) (g : Bool) (k : ℕ) (Δ : List Seen) (l : Let) (ls : List Let) (e : Tree) → block_of n g k Δ (put_in (l ∷ ls) e)
    ≡ with_two (let_of n k Δ l) (block_of n g (after k (let_of n k Δ l)) (let_seen n l ∷ Δ) (put_in ls e)) (λ f c. f c)
let_next n g k Δ (let_one i l q e) ls b = refl
let_next n g k Δ (let_function i l f j m q b) ls e =
    let Θ = seen_until i f ∷ Δ in
    let x = parameter_of q in
    let w = whole (scope_at n Θ j) (function_names n q b) (n.names f) in
    let B : Read t.Block = block_of n true (suc k) (seen x ∷ Θ) b in
    ap (λ h. let E = block_of n g h Θ (put_in ls e) in record { read = t.recursive f k x B.read E.read; points = w ∷ (B.points ++ E.points) })
    (sym (after_behind {A = ℕ × t.Block} k w (with_one B (λ c. (k, c)))))

-- ---- a binding in memory

seen_value : (x : Local) (o : Operation) (i : ℕ) (l : Place) → bound_view (bound.Value x o) i l ≡ let_one i l (local_view x) (operation_view o)
seen_value x o i l = search (rules, the_lemmas)

seen_function : (f : Binder) (r : Recursive) (i : ℕ) (l : Place) → bound_view (bound.Function f r) i l
    ≡ let_function i l f.0 (recursive_view r).id (recursive_view r).place (recursive_view r).parameter (recursive_view r).body
seen_function f r i l = search (rules, the_lemmas)

pub recursive_seen : (r : Recursive) → recursive_view r
    ≡ record { id = (out-Recursive r).id; place = (out-Recursive r).place; parameter = local_view (out-Recursive r).parameter; body = block_view (out-Recursive r).body.value }
recursive_seen r = search (rules, the_lemmas)

pub value_is : (b : Binding) (x : Local) (o : Operation) → b.bound ≡ bound.Value x o → binding_view b ≡ let_one b.id b.place (local_view x) (operation_view o)
value_is b x o e = binding_seen b ∙ (ap (λ y. bound_view y b.id b.place) e ∙ seen_value x o b.id b.place)

pub function_is : (b : Binding) (f : Binder) (r : Recursive) → b.bound ≡ bound.Function f r → binding_view b
    ≡ let_function b.id b.place f.0 (recursive_view r).id (recursive_view r).place (recursive_view r).parameter (recursive_view r).body
function_is b f r e = binding_seen b ∙ (ap (λ y. bound_view y b.id b.place) e ∙ seen_function f r b.id b.place)

-- what a value's let is read as
pub value_let : (n : Annotation) (k : ℕ) (Δ : List Seen) (i : ℕ) (l : Place) (x : Local) (o : Operation)
    → let_of n k Δ (let_one i l (local_view x) (operation_view o))
    ≡ with_one (own_of n false k Δ o.id (operation_node_view o.node)) (λ y c. t.binding x.binder.0 o.place y c)
value_let n k Δ i l x o =
    ap (λ r. with_one r (λ y c. t.binding x.binder.0 (place_of (operation_view o)) (t.last_operation y) c)) (own_block n false k Δ o)
    ∙ ap (λ e. with_one (own_of n false k Δ o.id (operation_node_view o.node)) (λ y c. t.binding x.binder.0 (place_of e) y c)) (operation_seen o)

module _ (m : Notes) where
  pub count_of_points : (old new : State) (ps : List Point) → points_in m new ≡ points_in m old ++ ps → count_of new ≡ count_of old + length ps
  count_of_points old new ps h =
      let e : length (points_in m new) ≡ length (points_in m old ++ ps) = ap length h in
      let k = length-append (points_in m old) ps in
      let a = length-map new.points.items (point_view (scopes_of new) (types_in m)) in
      let b = length-map old.points.items (point_view (scopes_of old) (types_in m)) in
      omega arith

  -- one let more
  pub binds_next : (old mid new : State) (f h x : Around) (l : Let) (ls : List Let) (W : Read t.Block) (g : Bool) (e : Tree)
      → Through m old mid f W (block_read m mid g (put_in (l ∷ ls) e)) → Binds m mid new x l → ((b : t.Block) → h b ≡ f (x b))
      → Through m old new h W (block_read m new g (put_in ls e))
  binds_next old mid new f h x l ls W g e s d u = record {
    between = s.between ++ r.points;
    points = d.points ∙ (ap (λ ps. ps ++ r.points) s.points ∙ append_assoc (points_in m old) s.between r.points);
    is = s.is
        ∙ (ap (λ R. record { read = f R.read; points = s.between ++ R.points }) (let_next n g (count_of mid) (seen_of mid) l ls e)
        ∙ (ap₂ (λ b ps. record { read = b; points = ps }) (ap (λ y. f (y rest.read)) (sym d.read) ∙ sym (u rest.read))
        (sym (append_assoc s.between r.points rest.points))
        ∙ ap (λ R. record { read = h R.read; points = (s.between ++ r.points) ++ R.points }) (sym moves)));
    scopes = Longer-trans (scopes_of old) (scopes_of mid) (scopes_of new) s.scopes d.scopes;
    stands = d.stands;
  }
    where
      n : Annotation
      n = annotation_view m

      r : Read Around
      r = let_of n (count_of mid) (seen_of mid) l

      rest : Read t.Block
      rest = block_of n g (after (count_of mid) r) (let_seen n l ∷ seen_of mid) (put_in ls e)

      moves : block_of n g (count_of new) (seen_of new) (put_in ls e) ≡ rest
      moves = ap₂ (λ k Δ. block_of n g k Δ (put_in ls e)) (count_of_points mid new r.points d.points) d.seen

  -- a value is read, and its name is bound
  pub binds_value : (old mid new : State) (b : Binding) (x : Local) (o : Operation) (y : t.Operation) (f : Around) → b.bound ≡ bound.Value x o
      → Reads m old mid y (own_read m old false o.id (operation_node_view o.node))
      → Sees m mid new (record { name = x.binder.0; until = Some b.id } ∷ seen_of mid) → f ≡ (λ c. t.binding x.binder.0 o.place y c)
      → Binds m old new f (binding_view b)
  binds_value old mid new b x o y f e d s u =
      subst (Binds m old new f) (sym (value_is b x o e))
      (record {
        read = u ∙ (ap (λ z c. t.binding x.binder.0 o.place z c) d.read ∙ ap (λ r. r.read) (sym lets));
        points = s.points ∙ (d.points ∙ ap (λ r. points_in m old ++ r.points) (sym lets));
        seen = s.seen ∙ ap (λ Δ. record { name = x.binder.0; until = Some b.id } ∷ Δ) d.seen;
        scopes = Longer-trans (scopes_of old) (scopes_of mid) (scopes_of new) d.scopes s.scopes;
        stands = s.stands;
      })
    where
      lets : let_of (annotation_view m) (count_of old) (seen_of old) (let_one b.id b.place (local_view x) (operation_view o))
          ≡ with_one (own_read m old false o.id (operation_node_view o.node)) (λ z c. t.binding x.binder.0 o.place z c)
      lets = value_let (annotation_view m) (count_of old) (seen_of old) b.id b.place x o

  -- the name of a function is bound, and it is read
  pub binds_function : (old mid new : State) (b : Binding) (x : Binder) (r : Recursive) (y : ℕ × t.Block) (f : Around) → b.bound ≡ bound.Function x r
      → Sees m old mid (record { name = x.0; until = Some b.id } ∷ seen_of old) → Reads m mid new y (recursive_read m mid x.0 (recursive_view r))
      → f ≡ (λ c. t.recursive x.0 y.0 (out-Recursive r).parameter.binder.0 y.1 c) → Binds m old new f (binding_view b)
  binds_function old mid new b x r y f e s d u =
      subst (Binds m old new f) (sym (function_is b x r e))
      (record {
        read = u ∙ (ap (λ z c. t.recursive x.0 z.0 (out-Recursive r).parameter.binder.0 z.1 c) (d.read ∙ ap (λ q. q.read) here)
            ∙ ap (λ q c. t.recursive x.0 whole_read.read.0 q whole_read.read.1 c) (sym parameter));
        points = d.points ∙ (ap (λ ps. ps ++ (recursive_read m mid x.0 (recursive_view r)).points) s.points ∙ ap (λ q. points_in m old ++ q.points) here);
        seen = d.seen ∙ s.seen;
        scopes = Longer-trans (scopes_of old) (scopes_of mid) (scopes_of new) s.scopes d.scopes;
        stands = d.stands;
      })
    where
      n : Annotation
      n = annotation_view m

      v : view.Recursive
      v = recursive_view r

      whole_read : Read (ℕ × t.Block)
      whole_read = recursive_of n (count_of old) (seen_until b.id x.0 ∷ seen_of old) x.0 v.id v.parameter v.body

      here : recursive_read m mid x.0 (recursive_view r) ≡ whole_read
      here = ap₂ (λ k Δ. recursive_of n k Δ x.0 v.id v.parameter v.body) s.count s.seen

      parameter : parameter_of v.parameter ≡ (out-Recursive r).parameter.binder.0
      parameter = ap (λ w. parameter_of w.parameter) (recursive_seen r)

  -- a block is read, and its names are let go
  pub block_end : (old mid two new : State) (Γ : List Seen) (f : Around) (W R : Read t.Block) (y : t.Block) → Through m old mid f W R
      → seen_of mid ≡ Γ ++ seen_of old → Reads m mid two y R → Sees m two new (left_of two (length (seen_of old))) → Reads m old new (f y) W
  block_end old mid two new Γ f W R y s e d u = record {
    read = ap f d.read ∙ ap (λ r. r.read) (sym s.is);
    points = u.points
        ∙ (d.points ∙ (ap (λ ps. ps ++ R.points) s.points ∙ (append_assoc (points_in m old) s.between R.points
        ∙ ap (λ r. points_in m old ++ r.points) (sym s.is))));
    seen = u.seen ∙ (ap (λ l. drop (length l - length (seen_of old)) l) (d.seen ∙ e) ∙ front_dropped Γ (seen_of old));
    scopes = Longer-trans (scopes_of old) (scopes_of mid) (scopes_of new) s.scopes (Longer-trans (scopes_of mid) (scopes_of two) (scopes_of new) d.scopes u.scopes);
    stands = u.stands;
  }

-- ---- what is made of bindings

pub made_value : (x : Binder) (l : Place) (o : MadeOperation) → made.binding_view (made_bound.Value x l o) ≡ (λ c. t.binding x.0 l (made.operation_view o) c)
made_value x l o = search (rules, made_lemmas)

pub made_function : (f : Binder) (k : ℕ) (y : Binder) (b : Box MadeBlock Global)
    → made.binding_view (made_bound.Function f k y b) ≡ (λ c. t.recursive f.0 k y.0 (made.block_view b.value) c)
made_function f k y b = search (rules, made_lemmas)

pub made_blocks : (bs : Vec MadeBinding Global) (l : Place) (o : MadeOperation)
    → made.block_view (roll-Block record { bindings = bs; place = l; last = o }) ≡ made.bindings_view bs.items (t.last l (made.operation_view o))
made_blocks bs l o = search (rules, made_lemmas)

pub bindings-push : (xs : List MadeBinding) (x : MadeBinding) (c : t.Block) → made.bindings_view (xs ++ x ∷ []) c ≡ made.bindings_view xs (made.binding_view x c)
bindings-push [] x c = refl
bindings-push (y ∷ xs) x c = ap (made.binding_view y) (bindings-push xs x c)
