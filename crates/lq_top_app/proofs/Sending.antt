-- A report that is written piece by piece.
use Rattle.std.proofs.Common.{◌≡◌, List, ℕ, ◌++◌, take, drop, Option, Some, None, refl, sym, ap, ◌∙◌, append_assoc}
use Rattle.std.proofs.lemmas.List.{take-append-drop}
use Rattle.lq_top_words.specs.Inputs.Visits.{Visit}
use Rattle.lq_base_io.specs.Sink.{with_more}
use Rattle.lq_top_app.specs.declared.status.Status.{Status}
use Rattle.lq_top_app.specs.declared.status.Status.TheVariants.{Good, Rejected, Undecided, Refused, Usage, File, SinkFault, Memory}
use Rattle.lq_top_app.specs.Ends.{Ends}
use Rattle.lq_top_app.specs.Report.{IsDue}
use Rattle.lq_top_app.proofs.Statuses.{no_fault_due, no_memory_due}

-- the front of the report was taken
pub record SentTo (report rest : List ℕ) (old new : Option (List ℕ)) : Type 0 where
  pub sent : List ℕ
  pub parts : report ≡ sent ++ rest
  pub taken : new ≡ with_more sent old

more_twice : (a b : List ℕ) (o : Option (List ℕ)) → with_more b (with_more a o) ≡ with_more (a ++ b) o
more_twice a b None = refl
more_twice a b (Some taken) = ap (λ (l : List ℕ). Some l) (append_assoc taken a b)

pub one_more : (report rest back : List ℕ) (n : ℕ) (old mid new : Option (List ℕ)) → back ≡ drop n rest → new ≡ with_more (take n rest) mid → SentTo report rest old mid → SentTo report back old new
one_more report rest back n old mid new is_back takes so_far = record {
  sent = so_far.sent ++ take n rest;
  parts = so_far.parts ∙ ap (λ (l : List ℕ). so_far.sent ++ l) (sym (take-append-drop n rest)) ∙ sym (append_assoc so_far.sent (take n rest) (drop n rest)) ∙ ap (λ (l : List ℕ). (so_far.sent ++ take n rest) ++ l) (sym is_back);
  taken = takes ∙ ap (with_more (take n rest)) so_far.taken ∙ more_twice so_far.sent (take n rest) old;
}

-- a whole report that is due was taken
pub sent_whole : (words : List (List ℕ)) (v : Visit) (s : Status) (report : List ℕ) (old new : Option (List ℕ)) → IsDue words v s report → new ≡ with_more report old → Ends (IsDue words v) old new s
sent_whole words v Good r old new due is = (r, due, is)
sent_whole words v Rejected r old new due is = (r, due, is)
sent_whole words v Undecided r old new due is = (r, due, is)
sent_whole words v Refused r old new due is = (r, due, is)
sent_whole words v Usage r old new due is = (r, due, is)
sent_whole words v File r old new due is = (r, due, is)
sent_whole words v SinkFault r old new due is = absurd (no_fault_due words v r due)
sent_whole words v Memory r old new due is = absurd (no_memory_due words v r due)
