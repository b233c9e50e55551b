-- A graph grows by the arcs of a row, and goes back.
use Rattle.std.proofs.Common.{◌≡◌, ℕ, zero, suc, ◌≤◌, ◌<◌, refl, sym, ap, subst, ◌∙◌, arith, List, [], ◌∷◌, ◌++◌, length, take, drop, get_or, replicate}
use Rattle.std.proofs.lemmas.List.{length-take-le, get_or-take, length-replicate, take_all}
use Rattle.lq_prover_differences.specs.declared.arc.Arc.{Arc}
use Rattle.lq_prover_differences.specs.declared.vertex.Vertex.{Vertex}
use Rattle.lq_prover_differences.specs.declared.trail.Note.{Note}
use Rattle.lq_prover_differences.specs.declared.graph.Start.{Start}
use Rattle.lq_prover_differences.specs.Passes.{blank, vertex_at, order_at, values, AtRest}
use Rattle.lq_prover_differences.specs.Links.{kept}
use Rattle.lq_prover_differences.specs.Trail.{first_of, NotesBelow, IsTrailed, IsReached, start_at, HasStarts}
use Rattle.lq_prover_differences.specs.Graphs.{LeadsBack, Rests, Stands}
use Rattle.lq_prover_differences.proofs.Solving.{solved_none}
use Rattle.lq_prover_differences.proofs.Trails.{below_taken, below_trailed, starts_more, starts_pushed, starts_back, reached_back, reached_same, trailed_same}

pub back_graph : (arcs : List Arc) (links : List ℕ) (vertices new : List Vertex) (order fallen : List ℕ) (trail : List Note) (starts : List Start) (r : ℕ)
    → Rests arcs links vertices order fallen trail starts → r < length starts
    → ((v : ℕ) → kept (vertex_at new) v ≡ first_of (drop (start_at starts r).trail trail) v (kept (vertex_at vertices) v))
    → ((v : ℕ) → AtRest (vertex_at new) (order_at order) v) → length new ≡ length vertices
    → Stands (take (start_at starts r).arcs arcs) (take (start_at starts r).arcs links) new order fallen (take (start_at starts r).trail trail) (take r starts)
back_graph arcs links vertices new order fallen trail starts r h l back rest same = record {
  rests = record {
    back = record {
      ordered = h.back.ordered ∙ sym same;
      below = below_taken (start_at starts r).trail trail (length new) (subst (λ n. NotesBelow trail n) (sym same) h.back.below);
      links_in = λ i m.
          let k : i < r = (let e = length-take-le r starts (omega arith) in omega arith) in
          let e : start_at (take r starts) i ≡ start_at starts i = get_or-take r starts i _ k in
          let o = h.back.led.arcs_rise i r k l in let p = length-take-le (start_at starts r).arcs links (h.back.links_in r l) in
          subst (λ (x : Start). x.arcs ≤ length (take (start_at starts r).arcs links)) (sym e) (omega arith);
      led = starts_back starts r arcs links (take (start_at starts r).arcs links) trail (kept (vertex_at vertices)) (kept (vertex_at new)) h.back.led l back linked;
    };
    rest = rest;
    empty = h.empty;
  };
  same = length-take-le (start_at starts r).arcs links (h.back.links_in r l) ∙ sym (length-take-le (start_at starts r).arcs arcs (h.back.led.arcs_in r l));
  reached = reached_back starts r arcs links (take (start_at starts r).arcs links) trail (kept (vertex_at vertices)) (kept (vertex_at new)) h.back.led l back linked;
}
  where
    linked : (j : ℕ) → j < (start_at starts r).arcs → get_or (take (start_at starts r).arcs links) j 0 ≡ get_or links j 0
    linked j m = get_or-take (start_at starts r).arcs links j 0 m

vertex_none : (n v : ℕ) → vertex_at (replicate n blank) v ≡ blank
vertex_none zero v = refl
vertex_none (suc n) zero = refl
vertex_none (suc n) (suc v) = vertex_none n v

order_none : (n v : ℕ) → order_at (replicate n 0) v ≡ 0
order_none zero v = refl
order_none (suc n) zero = refl
order_none (suc n) (suc v) = order_none n v

pub new_graph : (n : ℕ) → Stands [] [] (replicate n blank) (replicate n 0) [] [] []
new_graph n = record {
  rests = record {
    back = record {
      ordered = length-replicate n 0 ∙ sym (length-replicate n blank);
      below = tt;
      links_in = λ i l. absurd (omega arith);
      led = record {
        arcs_in = λ i l. absurd (omega arith);
        trail_in = λ i l. absurd (omega arith);
        arcs_rise = λ i j l m. absurd (omega arith);
        trail_rises = λ i j l m. absurd (omega arith);
        reached = λ i l. absurd (omega arith);
      };
    };
    rest = λ v. (subst (λ (x : Vertex). x.next ≡ x.kept.value) (sym (vertex_none n v)) refl, order_none n v);
    empty = refl;
  };
  same = refl;
  reached = record {
    solved = solved_none (values (vertex_at (replicate n blank))) (λ v. ap (λ (x : Vertex). x.kept.value) (vertex_none n v));
    unnamed = λ v e k. tt;
    before = λ j l. absurd (omega arith);
    last = λ v. subst (λ m. Rattle.lq_prover_differences.specs.Links.IsLatest [] v 0 m) (sym (ap (λ (x : Vertex). x.kept.last) (vertex_none n v)))
        (record { within = omega arith; here = λ j q. absurd (omega arith); none = λ j l m. absurd (omega arith) });
  };
}

-- what leads back is forgotten
pub forgotten : (arcs : List Arc) (links : List ℕ) (vertices : List Vertex) (order fallen : List ℕ) (trail : List Note) (starts : List Start)
    → Stands arcs links vertices order fallen trail starts → Stands arcs links vertices order fallen [] []
forgotten arcs links vertices order fallen trail starts h = record {
  rests = record {
    back = record {
      ordered = h.rests.back.ordered;
      below = tt;
      links_in = λ i l. absurd (omega arith);
      led = record {
        arcs_in = λ i l. absurd (omega arith);
        trail_in = λ i l. absurd (omega arith);
        arcs_rise = λ i j l m. absurd (omega arith);
        trail_rises = λ i j l m. absurd (omega arith);
        reached = λ i l. absurd (omega arith);
      };
    };
    rest = h.rests.rest;
    empty = h.rests.empty;
  };
  same = h.same;
  reached = h.reached;
}

-- one more start
pub pushed_graph : (arcs : List Arc) (links : List ℕ) (vertices : List Vertex) (order fallen : List ℕ) (trail : List Note) (starts : List Start) (start : Start)
    → Stands arcs links vertices order fallen trail starts → start.arcs ≡ length arcs → start.trail ≡ length trail → Stands arcs links vertices order fallen trail (starts ++ start ∷ [])
pushed_graph arcs links vertices order fallen trail starts start h ea et = record {
  rests = record {
    back = record {
      ordered = h.rests.back.ordered;
      below = h.rests.back.below;
      links_in = λ i l. let k = more.arcs_in i l in let s = h.same in omega arith;
      led = more;
    };
    rest = h.rests.rest;
    empty = h.rests.empty;
  };
  same = h.same;
  reached = h.reached;
}
  where
    more : HasStarts (starts ++ start ∷ []) arcs links trail (kept (vertex_at vertices))
    more = starts_pushed starts start arcs links trail (kept (vertex_at vertices)) h.rests.back.led h.reached ea et

-- arcs came behind, and the trail grew
pub leads_on : (arcs others : List Arc) (links more : List ℕ) (vertices new : List Vertex) (order later fallen : List ℕ) (trail longer : List Note) (starts : List Start)
    → Stands arcs links vertices order fallen trail starts → take (length arcs) others ≡ arcs → ((j : ℕ) → j < length arcs → get_or more j 0 ≡ get_or links j 0)
    → length arcs ≤ length more → length later ≡ length new → length new ≡ length vertices
    → IsTrailed (length vertices) trail longer (kept (vertex_at vertices)) (kept (vertex_at new)) → LeadsBack others more new later longer starts
leads_on arcs others links more vertices new order later fallen trail longer starts h front linked room ordered same p = record {
  ordered = ordered;
  below = subst (λ n. NotesBelow longer n) (sym same) (below_trailed (length vertices) trail longer (kept (vertex_at vertices)) (kept (vertex_at new)) p h.rests.back.below);
  links_in = λ i l. let k = h.rests.back.led.arcs_in i l in omega arith;
  led = starts_more starts arcs others links more (length vertices) trail longer (kept (vertex_at vertices)) (kept (vertex_at new)) h.rests.back.led front linked p;
}

pub back_graph_by : (arcs : List Arc) (links : List ℕ) (vertices lent new : List Vertex) (order fallen : List ℕ) (trail : List Note) (starts : List Start) (r : ℕ) (start : Start)
    → Rests arcs links vertices order fallen trail starts → r < length starts → start_at starts r ≡ start → lent ≡ vertices
    → ((v : ℕ) → kept (vertex_at new) v ≡ first_of (drop start.trail trail) v (kept (vertex_at lent) v))
    → ((order : ℕ → ℕ) → ((v : ℕ) → AtRest (vertex_at lent) order v) → (v : ℕ) → AtRest (vertex_at new) order v) → length new ≡ length vertices
    → Stands (take start.arcs arcs) (take start.arcs links) new order fallen (take start.trail trail) (take r starts)
back_graph_by arcs links vertices lent new order fallen trail starts r start h l e w back rest same =
    subst (λ (x : Start). Stands (take x.arcs arcs) (take x.arcs links) new order fallen (take x.trail trail) (take r starts)) e
    (back_graph arcs links vertices new order fallen trail starts r h l
    (subst (λ (x : Start). (v : ℕ) → kept (vertex_at new) v ≡ first_of (drop x.trail trail) v (kept (vertex_at vertices) v)) (sym e)
    (subst (λ (u : List Vertex). (v : ℕ) → kept (vertex_at new) v ≡ first_of (drop start.trail trail) v (kept (vertex_at u) v)) w back))
    (rest (order_at order) (subst (λ (u : List Vertex). (v : ℕ) → AtRest (vertex_at u) (order_at order) v) (sym w) h.rest)) same)

pub default_same : (starts : List Start) (r : ℕ) (d e : Start) → r < length starts → get_or starts r d ≡ get_or starts r e
default_same [] r d e l = absurd (omega arith)
default_same (x ∷ starts) zero d e l = refl
default_same (x ∷ starts) (suc r) d e l = default_same starts r d e (omega arith)

pub front_get : (xs ys : List ℕ) (j : ℕ) → take (length xs) ys ≡ xs → j < length xs → get_or ys j 0 ≡ get_or xs j 0
front_get xs ys j e l = sym (get_or-take (length xs) ys j 0 l) ∙ ap (λ z. get_or z j 0) e

-- the arcs before are still solved when there is room for more
pub reached_on : (arcs others lent : List Arc) (links room more : List ℕ) (vertices seen : List Vertex) (from : ℕ) → IsReached arcs links (length arcs) (kept (vertex_at vertices))
    → length links ≡ length arcs → take (length arcs) others ≡ arcs → lent ≡ others → take (length links) room ≡ links → more ≡ room → seen ≡ vertices → from ≡ length arcs
    → IsReached lent more from (kept (vertex_at seen))
reached_on arcs others lent links room more vertices seen from h same front el roomy em ev ef =
    subst (λ n. IsReached lent more n (kept (vertex_at seen))) (sym ef)
    (subst (λ (l : List Arc). IsReached l more (length arcs) (kept (vertex_at seen))) (sym el)
    (reached_same arcs others links more (length arcs) (kept (vertex_at vertices)) (kept (vertex_at seen)) (front ∙ sym (take_all (length arcs) arcs (omega arith)))
    (λ j l. ap (λ (z : List ℕ). get_or z j 0) em ∙ front_get links room j roomy (omega arith)) (λ v. ap (λ (z : List Vertex). kept (vertex_at z) v) ev) h))

-- what was lent to be solved is given back
pub leads_then : (arcs others : List Arc) (links room lent more : List ℕ) (vertices seen new : List Vertex) (order shown later fallen : List ℕ) (trail longer : List Note) (starts : List Start) (from : ℕ)
    → Stands arcs links vertices order fallen trail starts → take (length arcs) others ≡ arcs → take (length links) room ≡ links → length links ≤ length room
    → lent ≡ room → seen ≡ vertices → shown ≡ order → from ≡ length arcs
    → ((j : ℕ) → j < from → get_or more j 0 ≡ get_or lent j 0) → length more ≡ length lent → length new ≡ length seen → length later ≡ length shown
    → IsTrailed (length seen) trail longer (kept (vertex_at seen)) (kept (vertex_at new)) → LeadsBack others more new later longer starts
leads_then arcs others links room lent more vertices seen new order shown later fallen trail longer starts from h front roomy enough el ev eo ef before ml nl ol p =
    leads_on arcs others links more vertices new order later fallen trail longer starts h front
    (λ j l. before j (omega arith) ∙ ap (λ (z : List ℕ). get_or z j 0) el ∙ front_get links room j roomy (let s = h.same in omega arith))
    (let a = ml ∙ ap length el in let s = h.same in omega arith)
    (ol ∙ ap length eo ∙ h.rests.back.ordered ∙ sym (nl ∙ ap length ev)) (nl ∙ ap length ev)
    (subst (λ (z : List Vertex). IsTrailed (length z) trail longer (kept (vertex_at z)) (kept (vertex_at new))) ev p)

-- nothing is offered any more
pub rests_again : (arcs : List Arc) (links : List ℕ) (vertices seen new : List Vertex) (order shown later fallen : List ℕ) (trail : List Note) (starts : List Start)
    → LeadsBack arcs links vertices order trail starts → seen ≡ vertices → shown ≡ order → ((v : ℕ) → kept (vertex_at new) v ≡ kept (vertex_at seen) v)
    → ((v : ℕ) → AtRest (vertex_at new) (order_at later) v) → length new ≡ length seen → length later ≡ length shown → fallen ≡ [] → Rests arcs links new later fallen trail starts
rests_again arcs links vertices seen new order shown later fallen trail starts h ev eo same rest nl ol empty = record {
  back = record {
    ordered = ol ∙ ap length eo ∙ h.ordered ∙ sym (nl ∙ ap length ev);
    below = subst (λ n. NotesBelow trail n) (sym (nl ∙ ap length ev)) h.below;
    links_in = h.links_in;
    led = starts_more starts arcs arcs links links (length vertices) trail trail (kept (vertex_at vertices)) (kept (vertex_at new)) h.led (take_all (length arcs) arcs (omega arith)) (λ j l. refl)
        (trailed_same (length vertices) trail (kept (vertex_at vertices)) (kept (vertex_at new)) (λ v. same v ∙ ap (λ (z : List Vertex). kept (vertex_at z) v) ev));
  };
  rest = rest;
  empty = empty;
}
