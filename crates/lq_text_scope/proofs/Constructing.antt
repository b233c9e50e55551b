-- The constructors and the parameters of a datatype, one after another.
use Rattle.std.proofs.Common.{◌≡◌, ℕ, zero, suc, ◌+◌, ◌<◌, false, List, [], ◌∷◌, ◌++◌, map, drop, reverse, length, get_or, Option, refl, sym, ap, ◌∙◌, arith}
use Rattle.std.proofs.lemmas.List.{map-append, reverse-append}
use Rattle.lq_text_tree.specs.Items.{Construct, Datatype, Named}
use Rattle.lq_text_scope.specs.Complaints.{Complaint, least_with}
use Rattle.lq_text_scope.specs.Datatypes.{Frame, arity_of, name_of, named_of, of_constructors, of_types, parameter_name, frame_of, of_datatype, type_arity}
use Rattle.lq_text_scope.specs.Known.{Arity, Known}
use Rattle.lq_text_scope.specs.Patterns.{again, repeated, shown_name, shown_names}
use Rattle.lq_text_scope.proofs.Rows.{least_acts}

pub drop_by : {X : Type 0} (xs : List X) (at : ℕ) (x : X) → at < length xs → x ≡ get_or xs at x → drop at xs ≡ x ∷ drop (at + 1) xs
drop_by {X} xs at x less is = let next : at + 1 ≡ suc at = omega arith in from_here xs at less is ∙ ap (λ (n : ℕ). x ∷ drop n xs) (sym next)
  where
    from_here : (ys : List X) (at : ℕ) → at < length ys → x ≡ get_or ys at x → drop at ys ≡ x ∷ drop (suc at) ys
    from_here [] at less is = absurd (omega (arith, less))
    from_here (y ∷ ys) zero less is = ap (λ (z : X). z ∷ ys) (sym is)
    from_here (y ∷ ys) (suc at) less is = from_here ys at (omega (arith, less)) is

pub one_constructor : (r : Frame) (known now : List Arity) (c : Construct) (rest : List Construct) (best named typed : Option Complaint) → now ≡ arity_of c ∷ known
    → named ≡ least_with best (again (map name_of known) (named_of c)) → typed ≡ least_with named (of_types r false c.fields)
    → least_with typed (of_constructors r now rest) ≡ least_with best (of_constructors r known (c ∷ rest))
one_constructor r known now c rest best named typed next names types =
    ap (λ (l : List Arity). least_with typed (of_constructors r l rest)) next
    ∙ ap (λ (b : Option Complaint). least_with b (of_constructors r (arity_of c ∷ known) rest)) (types ∙ ap (λ (b : Option Complaint). least_with b (of_types r false c.fields)) names)
    ∙ sym (least_acts (least_with best (again (map name_of known) (named_of c))) (of_types r false c.fields) (of_constructors r (arity_of c ∷ known) rest))
    ∙ sym (least_acts best (again (map name_of known) (named_of c)) (of_types r false c.fields ++ of_constructors r (arity_of c ∷ known) rest))

pub map_reverse : {X Y : Type 0} (f : X → Y) (xs : List X) → map f (reverse xs) ≡ reverse (map f xs)
map_reverse f [] = refl
map_reverse f (x ∷ xs) =
    ap (map f) (reverse-append (x ∷ []) xs) ∙ map-append f (reverse xs) (x ∷ []) ∙ ap (λ l. l ++ f x ∷ []) (map_reverse f xs) ∙ sym (reverse-append (f x ∷ []) (map f xs))

names_shown : (ns : List Named) → map name_of (map shown_name ns) ≡ map parameter_name ns
names_shown [] = refl
names_shown (n ∷ ns) = ap (λ (l : List ℕ). n.name ∷ l) (names_shown ns)

pub shown_known : (ns : List Named) (known : List Arity) → map name_of (shown_names ns ++ known) ≡ reverse (map parameter_name ns) ++ map name_of known
shown_known ns known =
    map-append name_of (shown_names ns) known ∙ ap (λ (l : List ℕ). l ++ map name_of known) (map_reverse name_of (map shown_name ns) ∙ ap reverse (names_shown ns))

abbrev pub framed : List Arity → List ℕ → ℕ → Frame
framed ts ps x = record { types = ts; parameters = ps; itself = x }

pub whole_datatype : (k : Known) (d : Datatype) (ts : List Arity) (ps : List ℕ) (best named bound built : Option Complaint)
    → ts ≡ type_arity d ∷ k.types → ps ≡ reverse (map parameter_name d.parameters)
    → named ≡ least_with best (again (map name_of k.types) (record { name = d.name; place = d.place })) → bound ≡ least_with named (repeated [] d.parameters)
    → built ≡ least_with bound (of_constructors (framed ts ps d.name) k.constructors d.constructors) → built ≡ least_with best (of_datatype k d)
whole_datatype k d ts ps best named bound built types parameters names repeats constructors =
    let same : framed ts ps d.name ≡ frame_of k d = ap (λ (l : List Arity). framed l ps d.name) types ∙ ap (λ (l : List ℕ). framed (type_arity d ∷ k.types) l d.name) parameters in
    constructors ∙ ap (λ (f : Frame). least_with bound (of_constructors f k.constructors d.constructors)) same
    ∙ ap (λ (b : Option Complaint). least_with b (of_constructors (frame_of k d) k.constructors d.constructors)) (repeats ∙ ap (λ (b : Option Complaint). least_with b (repeated [] d.parameters)) names)
    ∙ sym (least_acts (least_with best (again (map name_of k.types) (record { name = d.name; place = d.place }))) (repeated [] d.parameters) (of_constructors (frame_of k d) k.constructors d.constructors))
    ∙ sym (least_acts best (again (map name_of k.types) (record { name = d.name; place = d.place })) (repeated [] d.parameters ++ of_constructors (frame_of k d) k.constructors d.constructors))
