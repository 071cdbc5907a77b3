-- Laws of the text that is printed: by what the call answers, and by what is asked. Relies on the laws of checks and of questions.
use Prim.Native.Nat.{ℕ, ◌≤◌}
use mathlib.Core.Path.{◌≡◌, sym, ap, ◌∙◌, subst}
use mathlib.Core.List.{List, [], ◌∷◌}
use native.Mathlib.Omega.{arith}
use lib.ListN.{length, get_or}
use Rattle.rules.specs.Slices.{overwrite}
use Rattle.rules.proofs.SliceLaws.{overwrite-long}
use Rattle.tables.specs.declared.Refusal.{Refusal}
use Rattle.tables.specs.Checks.{Checked, ◌then◌}
use Rattle.tables.specs.Answers.{Answer, answer, turned_back, carried_out, slice_after}
use Rattle.std.proofs.Common.{Ok, Err}
use Rattle.lines.specs.Lines.{refused_line}
use Rattle.questions.specs.declared.Question.{Question}
use Rattle.checker.specs.Graph.{graph_text_at, graph_checks, graph_answer, graph_slice}
use Rattle.questions.specs.Questions.{asked_of}
use Rattle.questions.proofs.QuestionLaws.{asked_refused, asked_question}
use Rattle.aut.specs.Aut.{refusal_text, text_after, graph_printed, aut_text, Printed}

-- ---- what the call answers

module _ (text entry : List ℕ) where
  count_printed : (c : Checked) (count : ℕ) (exit : List ℕ) → carried_out (count ∷ []) ≡ answer c (length text ∷ []) → exit ≡ slice_after c (overwrite text entry) entry
      → Printed (text_after c text) entry count exit
  unfolding answer slice_after
  count_printed (Ok u) count exit e w = record { count_is = ap (λ (a : Answer). get_or a.values 0 0) e; bytes_are = w }
  count_printed (Err r) count exit e w = absurd (let none : 1 ≡ 0 = ap (λ (a : Answer). length a.values) e in omega arith)

  refusal_printed : (c : Checked) (r : Refusal) (mid : List ℕ) → turned_back r ≡ answer c (length text ∷ []) → mid ≡ slice_after c (overwrite text entry) entry
      → {count : ℕ} {exit : List ℕ} → (count ≡ length (refusal_text r)) × (exit ≡ overwrite (refusal_text r) mid) → Printed (text_after c text) entry count exit
  unfolding answer slice_after
  refusal_printed (Ok u) r mid e w p = absurd (let none : 0 ≡ 1 = ap (λ (a : Answer). length a.values) e in omega arith)
  refusal_printed (Err x) r mid e w (p, v) =
      let same : refusal_text r ≡ refusal_text x = ap (λ (a : Answer). refused_line a.number a.place) e in
      record { count_is = p ∙ ap length same; bytes_are = v ∙ (λ i. overwrite (same i) (w i)) }

module _ (s : List ℕ) (q : Question) (entry : List ℕ) where
  pub graph_count : {count : ℕ} {exit : List ℕ} → (carried_out (count ∷ []) ≡ graph_answer s q (length entry)) → exit ≡ graph_slice s q entry
      → Printed (graph_printed s q (length entry)) entry count exit
  unfolding graph_answer graph_slice
  graph_count {count} {exit} e w = count_printed (graph_text_at s q) entry (graph_checks s q (length entry)) count exit e w

  pub graph_refusal : (r : Refusal) {mid : List ℕ} → turned_back r ≡ graph_answer s q (length entry) → mid ≡ graph_slice s q entry
      → {count : ℕ} {exit : List ℕ} → (count ≡ length (refusal_text r)) × (exit ≡ overwrite (refusal_text r) mid) → Printed (graph_printed s q (length entry)) entry count exit
  unfolding graph_answer graph_slice
  graph_refusal r {mid} e w p = refusal_printed (graph_text_at s q) entry (graph_checks s q (length entry)) r mid e w p

-- ---- what is asked

module _ (s entry : List ℕ) {count : ℕ} {exit : List ℕ} where
  pub text_refused : (r : Refusal) → asked_of s ≡ Err r → (count ≡ length (refusal_text r)) × (exit ≡ overwrite (refusal_text r) entry)
      → Printed (aut_text s (length entry)) entry count exit
  unfolding aut_text ◌then◌
  text_refused r e (p, w) = rw (asked_refused s r e) (record { count_is = p; bytes_are = w })

  pub text_asked : (q : Question) → asked_of s ≡ Ok q → Printed (graph_printed s q (length entry)) entry count exit
      → Printed (aut_text s (length entry)) entry count exit
  unfolding aut_text ◌then◌
  text_asked q e p =
      let (passed, same) = asked_question s q e in
      rw passed (subst (λ (x : Question). Printed (graph_printed s x (length entry)) entry count exit) (sym same) p)

-- ---- what is handed over

-- the text lies within the buffer
pub printed_within : {text entry : List ℕ} {count : ℕ} {exit : List ℕ} → Printed text entry count exit → count ≤ length exit
printed_within {text} {entry} p = omega (arith, p.count_is, overwrite-long text entry, ap length p.bytes_are)
