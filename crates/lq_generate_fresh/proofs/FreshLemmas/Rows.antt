-- Rows of templates: what was made so far, of a whole that is still to be finished.
use Rattle.std.proofs.Common.{◌≡◌, ◌∙◌, ℕ, zero, suc, ◌+◌, ◌<◌, ◌≤◌, List, [], ◌∷◌, ◌++◌, All, length, map, drop, get_or, refl, sym, ap, ap₂, subst, append_assoc, arith}
use Rattle.std.proofs.lemmas.List.{append-nil, map_push}
use Rattle.std.proofs.lemmas.List.Elements.{All-head, All-nil, All-push, All-tail, All-weaker}
use Rattle.lq_refined_instances.specs.Scopes.{Scope}
use Rattle.lq_refined_types.specs.Parts.Part.{Scopes}
use Rattle.lq_logic_predicates.specs.declared.symbol.Symbol.TheVariants.{Position}
use Rattle.lq_refined_types.specs.Types.Refined.{Refined, Refineds, none, more}
use Rattle.lq_refined_subtyping.specs.Table.Forms.{at, row_of}
use Rattle.lq_refined_subtyping.specs.Table.Whole.{count_of, refined_at}
use Rattle.lq_text_qualifiers.specs.Faults.Shapes.{shape_of}
use Rattle.lq_text_qualifiers.specs.Faults.Shapes as shapes
use Rattle.lq_refined_templates.specs.Templates.Fresh.{AllMade, Made, arguments, components}
use Rattle.lq_refined_templates.specs.Templates.Scopes.{Unknown, with_position, with_symbol}
use Rattle.lq_text_tree.specs.MlType as ml
use Rattle.lq_text_tree.specs.MlType.{MlType, MlTypes}
use Rattle.lq_text_tree.specs.Types.{Signature}
use Rattle.lq_types_table.specs.Heads as types
use Rattle.lq_generate_fresh.specs.Fresh.Fields.{shapes_of}
use Rattle.lq_generate_fresh.specs.Fresh.Growing.{made_both, made_count, made_nothing}
use Rattle.lq_generate_fresh.specs.Fresh.Views.{all_types, unknowns_of, Describes, IsGrown, IsMade}
use Rattle.lq_generate_fresh.specs.Fresh.Walking.{above, template_wanted, AllWanted, AreTemplates, IsTemplate, Wanted}
use Rattle.lq_generate_fresh.specs.declared.fresh.fields.Datatypes.{Datatypes}
use Rattle.lq_generate_fresh.specs.declared.fresh.templates.Templates.{Templates}
use Rattle.lq_generate_fresh.proofs.FreshLemmas.Walked.{count_kept, grown_both, grown_made, grown_none, made_before, rows_mapped, rows_there}

-- these types, and then the others
abbrev pub prefixed : List Refined → Refineds → Refineds
prefixed [] rest = rest
prefixed (t ∷ ts) rest = more t (prefixed ts rest)

prefixed_more : (ts : List Refined) (t : Refined) (rest : Refineds) → prefixed (ts ++ t ∷ []) rest ≡ prefixed ts (more t rest)
prefixed_more [] t rest = refl
prefixed_more (x ∷ ts) t rest = ap (more x) (prefixed_more ts t rest)

prefixed_none : (ts : List Refined) → prefixed ts none ≡ row_of ts
prefixed_none [] = refl
prefixed_none (x ∷ ts) = ap (more x) (prefixed_none ts)

-- what is left begins at the next unknown
abbrev pub Rest : Type 0
Rest = Signature → (ℕ → List ℕ) → ℕ → AllMade

-- the unknowns and the types that were made, where the whole is finished by the rest
pub record IsPart (old new : Templates) (rs : List ℕ) (whole rest : AllMade) : Type 0 where
  pub unknowns : List Unknown
  pub made : IsMade old new unknowns
  pub all : whole.unknowns ≡ unknowns ++ rest.unknowns
  pub types : (S : Scopes) → whole.types ≡ prefixed (map (at (all_types S new)) rs) rest.types

pub record RowsDone (D : Datatypes) (old new : Templates) (rs : List ℕ) (whole : AllWanted) (rest : Rest) : Type 0 where
  pub there : All (λ r. r < count_of new.types) rs
  pub grown : IsGrown old new
  pub part : (g : Signature) (ordered : ℕ → List ℕ) → Describes D g ordered
      → IsPart old new rs (whole g ordered) (rest g ordered (length (unknowns_of new)))

-- one more template in front of others
abbrev pub in_front : Made → AllMade → AllMade
in_front m rest = record { types = more m.type rest.types; unknowns = m.unknowns ++ rest.unknowns }

abbrev pub nothing : AllMade
nothing = record { types = none; unknowns = [] }

module _ (D : Datatypes) where
  pub rows_begin : (old : Templates) (rest : Rest) → RowsDone D old old [] (λ g ordered. rest g ordered (length (unknowns_of old))) rest
  rows_begin old rest = record {
    there = All-nil (λ r. r < count_of old.types);
    grown = grown_none old;
    part = λ g ordered d. record {
      unknowns = [];
      made = made_nothing old;
      all = refl;
      types = λ S. refl;
    };
  }

  -- what was made afterwards made no unknown and no type of the row
  pub rows_wait : (old mid new : Templates) (rs : List ℕ) (whole : AllWanted) (rest : Rest) → RowsDone D old mid rs whole rest → IsMade mid new []
      → RowsDone D old new rs whole rest
  rows_wait old mid new rs whole rest h p =
      let later : IsGrown mid new = grown_made mid new [] p in
      record {
        there = rows_there mid new rs later h.there;
        grown = grown_both old mid new h.grown later;
        part = λ g ordered d.
            let x : IsPart old mid rs (whole g ordered) (rest g ordered (length (unknowns_of mid))) = h.part g ordered d in
            subst (λ k. IsPart old new rs (whole g ordered) (rest g ordered k)) (sym (count_kept mid new p))
            record {
              unknowns = x.unknowns;
              made = made_before old mid new x.unknowns x.made p;
              all = x.all;
              types = λ S. x.types S ∙ ap (λ ts. prefixed ts (rest g ordered (length (unknowns_of mid))).types) (sym (rows_mapped S mid new rs later h.there));
            };
      }

  pub rows_next : (old mid new : Templates) (rs longer : List ℕ) (r : ℕ) (whole : AllWanted) (rest later : Rest) (m : Wanted)
      → RowsDone D old mid rs whole rest → IsTemplate D mid new r m → longer ≡ rs ++ r ∷ []
      → ((g : Signature) (ordered : ℕ → List ℕ) → rest g ordered (length (unknowns_of mid))
      ≡ in_front (m g ordered) (later g ordered (length (unknowns_of mid) + length (m g ordered).unknowns)))
      → RowsDone D old new longer whole later
  rows_next old mid new rs longer r whole rest later m h p e step =
      subst (λ l. RowsDone D old new l whole later) (sym e)
      record {
        there = All-push (λ k. k < count_of new.types) rs r (rows_there mid new rs p.grown h.there) p.there;
        grown = grown_both old mid new h.grown p.grown;
        part = λ g ordered d.
            let k : ℕ = length (unknowns_of mid) in
            let x : IsPart old mid rs (whole g ordered) (rest g ordered k) = h.part g ordered d in
            let one : Made = m g ordered in
            let next : AllMade = later g ordered (k + length one.unknowns) in
            subst (λ i. IsPart old new (rs ++ r ∷ []) (whole g ordered) (later g ordered i)) (sym (made_count mid new one.unknowns (p.made g ordered d)))
            record {
              unknowns = x.unknowns ++ one.unknowns;
              made = made_both old mid new x.unknowns one.unknowns x.made (p.made g ordered d);
              all =
                  x.all
                  ∙ (ap (λ (a : AllMade). x.unknowns ++ a.unknowns) (step g ordered) ∙ sym (append_assoc x.unknowns one.unknowns next.unknowns));
              types = λ S.
                  x.types S
                  ∙ (ap (λ (a : AllMade). prefixed (map (at (all_types S mid)) rs) a.types) (step g ordered)
                  ∙ (ap₂ (λ ts (t : Refined). prefixed ts (more t next.types)) (sym (rows_mapped S mid new rs p.grown h.there))
                  (sym (p.refined g ordered d S))
                  ∙ (sym (prefixed_more (map (at (all_types S new)) rs) (refined_at S new.types r) next.types)
                  ∙ ap (λ ts. prefixed ts next.types) (sym (map_push (at (all_types S new)) rs r)))));
            };
      }

  pub rows_all : (old new : Templates) (rs : List ℕ) (whole : AllWanted) (rest : Rest) → RowsDone D old new rs whole rest
      → ((g : Signature) (ordered : ℕ → List ℕ) → rest g ordered (length (unknowns_of new)) ≡ nothing) → AreTemplates D old new rs whole
  rows_all old new rs whole rest h end = record {
    there = h.there;
    grown = h.grown;
    refined = λ g ordered d S.
        let x : IsPart old new rs (whole g ordered) (rest g ordered (length (unknowns_of new))) = h.part g ordered d in
        sym (x.types S
        ∙ (ap (λ (a : AllMade). prefixed (map (at (all_types S new)) rs) a.types) (end g ordered) ∙ prefixed_none (map (at (all_types S new)) rs)));
    made = λ g ordered d.
        let x : IsPart old new rs (whole g ordered) (rest g ordered (length (unknowns_of new))) = h.part g ordered d in
        subst (IsMade old new)
        (sym (x.all ∙ (ap (λ (a : AllMade). x.unknowns ++ a.unknowns) (end g ordered) ∙ append-nil x.unknowns))) x.made;
  }

-- ---- the parts of a type

one_more : (i : ℕ) → suc i ≡ i + 1
one_more i = omega arith

pub parts_rest : (F : ℕ → MlType) (ps : List ℕ) (i : ℕ) → i < length ps
    → types.each F (drop i ps) ≡ ml.more_types (F (get_or ps i 0)) (types.each F (drop (i + 1) ps))
parts_rest F ps i h = subst (λ k. types.each F (drop i ps) ≡ ml.more_types (F (get_or ps i 0)) (types.each F (drop k ps))) (one_more i) (from ps i h)
  where
    from : (qs : List ℕ) (k : ℕ) → k < length qs → types.each F (drop k qs) ≡ ml.more_types (F (get_or qs k 0)) (types.each F (drop (suc k) qs))
    from [] k h = absurd (omega arith)
    from (q ∷ qs) zero h = refl
    from (q ∷ qs) (suc k) h = from qs k (omega arith)

pub parts_end : (F : ℕ → MlType) (ps : List ℕ) (i : ℕ) → length ps ≤ i → types.each F (drop i ps) ≡ ml.no_types
parts_end F [] zero h = refl
parts_end F [] (suc i) h = refl
parts_end F (p ∷ ps) zero h = absurd (omega arith)
parts_end F (p ∷ ps) (suc i) h = parts_end F ps i (omega arith)

pub shapes_each : (F : ℕ → MlType) (ps : List ℕ) → map (λ p. shape_of (F p)) ps ≡ shapes_of (types.each F ps)
shapes_each F [] = refl
shapes_each F (p ∷ ps) = ap (λ ss. shape_of (F p) ∷ ss) (shapes_each F ps)

pub above_part : (ps : List ℕ) (i : ℕ) → i < length ps → get_or ps i 0 < above ps
above_part [] i h = absurd (omega arith)
above_part (p ∷ ps) zero h = omega arith
above_part (p ∷ ps) (suc i) h = let k = above_part ps i (omega arith) in omega arith

pub above_low : (n : ℕ) (ps : List ℕ) → All (λ p. p < n) ps → above ps ≤ n
above_low n [] h = omega arith
above_low n (p ∷ ps) h =
    let k : p < n = All-head (λ q. q < n) p ps h in let rest = above_low n ps (All-tail (λ q. q < n) p ps h) in omega arith

pub parts_there : (n m : ℕ) (ps : List ℕ) → n < m → All (λ p. p < n) ps → All (λ p. p < m) ps
parts_there n m ps l h = All-weaker (λ p. p < n) (λ p. p < m) (λ p k. omega arith) ps h

-- ---- loops over the parts of a type

module _ (D : Datatypes) (F : ℕ → MlType) (ps : List ℕ) (Γ : Scope) where
  -- what is left of arguments, and of components whose tops have a scope, from the i-th on
  abbrev pub arguments_rest : ℕ → Rest
  arguments_rest i = λ g ordered k. arguments g ordered k Γ (types.each F (drop i ps))

  abbrev pub components_rest : Scope → ℕ → Rest
  components_rest Δ i = λ g ordered k. components g ordered k Γ Δ i (types.each F (drop i ps))

  pub arguments_next : (old mid new : Templates) (rs longer : List ℕ) (r : ℕ) (Δ : Scope) (whole : AllWanted) (i : ℕ)
      → RowsDone D old mid rs whole (arguments_rest i) → i < length ps
      → IsTemplate D mid new r (template_wanted (length (unknowns_of mid)) Δ Δ [] (F (get_or ps i 0))) → Δ ≡ Γ → longer ≡ rs ++ r ∷ []
      → RowsDone D old new longer whole (arguments_rest (i + 1))
  arguments_next old mid new rs longer r Δ whole i h l p scope e =
      let n : ℕ = length (unknowns_of mid) in
      let t : MlType = F (get_or ps i 0) in
      rows_next D old mid new rs longer r whole (arguments_rest i) (arguments_rest (i + 1)) (template_wanted n Γ Γ [] t) h
      (subst (λ (E : Scope). IsTemplate D mid new r (template_wanted n E E [] t)) scope p) e
      (λ g ordered. ap (arguments g ordered n Γ) (parts_rest F ps i l))

  pub components_next : (old mid one new : Templates) (rs longer : List ℕ) (r : ℕ) (Inner Δ Later : Scope) (whole : AllWanted) (i : ℕ)
      → RowsDone D old mid rs whole (components_rest Δ i) → i < length ps
      → IsTemplate D mid one r (template_wanted (length (unknowns_of mid)) Inner Δ [] (F (get_or ps i 0))) → Inner ≡ Γ → longer ≡ rs ++ r ∷ []
      → IsMade one new [] → Later ≡ with_position i (shape_of (F (get_or ps i 0))) Δ
      → RowsDone D old new longer whole (components_rest Later (i + 1))
  components_next old mid one new rs longer r Inner Δ Later whole i h l p scope e made top =
      let n : ℕ = length (unknowns_of mid) in
      let t : MlType = F (get_or ps i 0) in
      let E : Scope = with_position i (shape_of t) Δ in
      rows_wait D old one new longer whole (components_rest Later (i + 1))
      (rows_next D old mid one rs longer r whole (components_rest Δ i) (components_rest Later (i + 1)) (template_wanted n Γ Δ [] t) h
      (subst (λ (G : Scope). IsTemplate D mid one r (template_wanted n G Δ [] t)) scope p) e
      (λ g ordered.
      ap (components g ordered n Γ Δ i) (parts_rest F ps i l)
      ∙ ap₂ (λ (H : Scope) j.
      let m = template_wanted n Γ Δ [] t g ordered in
      in_front m (components g ordered (n + length m.unknowns) Γ H j (types.each F (drop (i + 1) ps)))) (sym top) (one_more i)))
      made

-- the scope of the next component's top
pub position_added : (i k : ℕ) (s t : shapes.Shape) (Γ Δ Later : Scope) → Later ≡ with_symbol (Position k) s Δ → k ≡ i + 1 → s ≡ t → Δ ≡ Γ
    → Later ≡ with_position i t Γ
position_added i k s t Γ Δ Later e number shape scope =
    e
    ∙ (ap₂ (λ n (x : shapes.Shape). with_symbol (Position n) x Δ) (number ∙ sym (one_more i)) shape ∙ ap (with_position i t) scope)
