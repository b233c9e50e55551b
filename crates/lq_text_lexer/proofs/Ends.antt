-- The end of a comment.
use Rattle.std.proofs.Common.{◌≡◌, ◌<◌, ◌+◌, ◌-◌, ℕ, zero, suc, List, drop, refl, sym, ap, ◌∙◌, subst, arith, add-one, sub-one}
use Rattle.std.proofs.lemmas.List.{drop-drop}
use Rattle.lq_text_lexer.specs.declared.comments.Mark.TheVariants.{Opening, Closing, Other, End}
use Rattle.lq_text_lexer.specs.Comments.{mark_of, EndsComment, ends, nests, passes}

pub ends_once : {bytes rest : List ℕ} → mark_of bytes ≡ Closing → EndsComment bytes rest → rest ≡ drop 2 bytes
ends_once is (ends m e) = e
ends_once is (nests m e f) = absurd cc
ends_once is (passes m e) = absurd cc

pub after_opening : {bytes rest : List ℕ} → mark_of bytes ≡ Opening → EndsComment bytes rest → (middle : List ℕ) × EndsComment (drop 2 bytes) middle × EndsComment middle rest
after_opening is (ends m e) = absurd cc
after_opening is (nests {middle = middle} m e f) = (middle, e, f)
after_opening is (passes m e) = absurd cc

pub after_other : {bytes rest : List ℕ} → mark_of bytes ≡ Other → EndsComment bytes rest → EndsComment (drop 1 bytes) rest
after_other is (ends m e) = absurd cc
after_other is (nests m e f) = absurd cc
after_other is (passes m e) = e

pub no_end : {bytes rest : List ℕ} → mark_of bytes ≡ End → EndsComment bytes rest → ⊥
no_end is (ends m e) = cc
no_end is (nests m e f) = cc
no_end is (passes m e) = cc

-- a comment ends once
pub one_end : {bytes rest other : List ℕ} → EndsComment bytes rest → EndsComment bytes other → rest ≡ other
one_end (ends m e) also = e ∙ sym (ends_once m also)
one_end {other = other} (nests {middle = middle} m e f) also =
    let parts = after_opening m also in
    one_end f (subst (λ (l : List ℕ). EndsComment l other) (sym (one_end e parts.1)) parts.2)
one_end (passes m e) also = one_end e (after_other m also)

-- From inside so many comments, these bytes lead behind the end of the outermost one.
pub Leaves : ℕ → List ℕ → List ℕ → Type 0
Leaves zero bytes rest = bytes ≡ rest
Leaves (suc depth) bytes rest = (middle : List ℕ) × EndsComment bytes middle × Leaves depth middle rest

-- wherever the one leads, the other leads
pub record SameEnds (depth : ℕ) (bytes : List ℕ) (depth' : ℕ) (bytes' : List ℕ) : Type 0 where
  pub forth : (rest : List ℕ) → Leaves depth bytes rest → Leaves depth' bytes' rest
  pub back : (rest : List ℕ) → Leaves depth' bytes' rest → Leaves depth bytes rest

abbrev pub stays : (bytes : List ℕ) → SameEnds 1 bytes 1 bytes
stays bytes = record { forth = λ rest h. h; back = λ rest h. h }

two_on : (text : List ℕ) (at at' : ℕ) → at' ≡ at + 2 → drop 2 (drop at text) ≡ drop at' text
two_on text at at' is = drop-drop 2 at text ∙ ap (λ (k : ℕ). drop k text) (sym is)

one_on : (text : List ℕ) (at at' : ℕ) → at' ≡ at + 1 → drop 1 (drop at text) ≡ drop at' text
one_on text at at' is = drop-drop 1 at text ∙ ap (λ (k : ℕ). drop k text) (sym is)

module _ (text start : List ℕ) (at at' : ℕ) where
  pub by_opening : (depth : ℕ) → 0 < depth → Opening ≡ mark_of (drop at text) → at' ≡ at + 2 → SameEnds depth (drop at text) 1 start → SameEnds (depth + 1) (drop at' text) 1 start
  unfolding Leaves
  by_opening zero some is on same = absurd (omega arith)
  by_opening (suc depth) some is on same = rw (← two_on text at at' on, add-one) record {
    forth = λ rest h. same.forth rest (h.2.0, nests (sym is) h.1 h.2.1, h.2.2);
    back = λ rest h.
        let was = same.back rest h in
        let parts = after_opening (sym is) was.1 in
        (parts.0, parts.1, (was.0, parts.2, was.2));
  }

  pub by_closing : (depth : ℕ) → 0 < depth → Closing ≡ mark_of (drop at text) → at' ≡ at + 2 → SameEnds depth (drop at text) 1 start → SameEnds (depth - 1) (drop at' text) 1 start
  unfolding Leaves
  by_closing zero some is on same = absurd (omega arith)
  by_closing (suc depth) some is on same = rw (← two_on text at at' on, sub-one) record {
    forth = λ rest h. same.forth rest (drop 2 (drop at text), ends (sym is) refl, h);
    back = λ rest h.
        let was = same.back rest h in
        subst (λ (l : List ℕ). Leaves depth l rest) (ends_once (sym is) was.1) was.2;
  }

  pub by_other : (depth : ℕ) → 0 < depth → Other ≡ mark_of (drop at text) → at' ≡ at + 1 → SameEnds depth (drop at text) 1 start → SameEnds depth (drop at' text) 1 start
  unfolding Leaves
  by_other zero some is on same = absurd (omega arith)
  by_other (suc depth) some is on same = rw (← one_on text at at' on) record {
    forth = λ rest h. same.forth rest (h.0, passes (sym is) h.1, h.2);
    back = λ rest h. let was = same.back rest h in (was.0, after_other (sym is) was.1, was.2);
  }

pub is_open : (bytes start : List ℕ) (depth : ℕ) → 0 < depth → End ≡ mark_of bytes → SameEnds depth bytes 1 start → (rest : List ℕ) → EndsComment start rest → ⊥
unfolding Leaves
is_open bytes start zero some is same rest h = omega arith
is_open bytes start (suc depth) some is same rest h = no_end (sym is) (same.back rest (rest, h, refl)).1

pub has_ended : (bytes start : List ℕ) (depth : ℕ) → depth ≡ 0 → SameEnds depth bytes 1 start → EndsComment start bytes
unfolding Leaves
has_ended bytes start zero none same = let h = same.forth bytes refl in subst (λ (l : List ℕ). EndsComment start l) h.2 h.1
has_ended bytes start (suc depth) none same = absurd (omega arith)
