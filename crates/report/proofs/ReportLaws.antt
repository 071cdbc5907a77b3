-- The text by what is asked, how long it can be, and the composed text. Relies on the laws of lines, of `questions` and of decisions.
use Prim.Native.Nat.{ℕ, ◌*◌, ◌^◌, ◌≤◌, ◌<◌}
use mathlib.Core.Path.{◌≡◌, refl, sym, ap, ◌∙◌}
use mathlib.Core.Bool.{Bool, true, false}
use mathlib.Core.List.{List, [], ◌∷◌, ◌++◌, flat_map}
use native.Mathlib.Omega.{arith}
use lib.Dec.{ltb, eqb}
use lib.ListN.{length, get_or, length-append}
use borrow.Author.Tests.{ltb-false, lt-ltb, le-ltb}
use Rattle.rules.specs.declared.Mode.{Mode}
use Rattle.rules.specs.declared.Mode.TheVariants.{Full, Partial}
use Rattle.rules.specs.Slices.{write_at, overwrite}
use Rattle.rules.specs.Machines.{Machine}
use Rattle.rules.specs.declared.Candidate.{Candidate}
use Rattle.rules.specs.Rounds.{mark, kept_count, rounds}
use Rattle.rules.specs.Steps.{slots, steps}
use Rattle.rules.proofs.SliceLaws.{write_at-overwrite}
use Rattle.rules.proofs.MarkLaws.{mark_within}
use Rattle.rules.proofs.StepLaws.{length-slots}
use Rattle.tables.specs.declared.Refusal.{Refusal}
use Rattle.tables.specs.Checks.{Checked, refuse, fault}
use Rattle.tables.specs.Answers.{number_of, counted, Answer, answer, turned_back, carried_out, slice_after}
use Rattle.tables.specs.File.{tables_of}
use Rattle.tables.proofs.CheckLaws.{turned_back_lem}
use Rattle.tables.specs.declared.Reason.TheVariants.{NoRoom}
use Rattle.std.proofs.Common.{Result, IsOk, Ok, Err}
use Rattle.questions.specs.declared.Question.{Question}
use Rattle.questions.specs.Pairs.{demand_of, supply_of}
use Rattle.questions.specs.Questions.{question_of, program_checks, asked_of}
use Rattle.questions.proofs.QuestionLaws.{question_asked, asked_refused, asked_question}
use Rattle.lines.specs.Lines.{file_line, verdict_line, step_line, step_lines}
use Rattle.report.specs.Report.{refusal_line, asked_line, mode_text, decision_text, text_after, text, room_fault, report_answer, report_bytes}
use Rattle.report.specs.declared.pages.Found.{Found}
use Rattle.report.specs.Pages.{found_text, verdict_of, verdict_at, steps_at, page_text}
use Rattle.lines.proofs.LineLaws.{refused_short, file_short, start_short, verdict_short, step_short}
use Rattle.lines.proofs.StepsLaws.{slots_lines}
use Rattle.questions.proofs.PairLaws.{few_pairs}

-- ---- by what is asked

pub text_refused : (s : List ℕ) (r : Refusal) → asked_of s ≡ Err r → text s ≡ refusal_line r
unfolding text
text_refused s r e = rw (asked_refused s r e) refl

-- ---- how long the text can be

steps_fit : (cs : List Candidate) → length (flat_map (λ c. step_line c.supply.row c.task.row) cs) ≤ 47 * length cs
unfolding flat_map
steps_fit [] = omega arith
steps_fit (c ∷ cs) =
    let ih = steps_fit cs in
    omega (
      arith,
      length-append (step_line c.supply.row c.task.row) (flat_map (λ c. step_line c.supply.row c.task.row) cs),
      step_short c.supply.row c.task.row,
    )

mode_fits : (mode : Mode) (D S : Machine) (t w : ℕ) → D.n * S.n ≤ 4096 → length (mode_text mode D S t w) ≤ 192578
unfolding mode_text
mode_fits mode D S t w h =
    let m : ℕ = mark mode D S t w in
    let cs : List Candidate = slots mode D S m t w in
    let few = mark_within mode D S t w in
    omega (
      arith,
      length-append (verdict_line mode (eqb m 0) (rounds mode D S) (kept_count mode D S)) (flat_map (λ c. step_line c.supply.row c.task.row) cs),
      verdict_short mode (eqb m 0) (rounds mode D S) (kept_count mode D S),
      steps_fit cs,
      length-slots mode D S m t w,
      few,
    )

text_after_fits : (s : List ℕ) (c : Checked) → program_checks s ≡ c → length (text_after c s) ≤ 385321
text_after_fits s (Err r) e = let few = refused_short (number_of r.reason) r.place in omega arith
text_after_fits s (Ok u) e =
    let q : Question = question_of s in
    let few = few_pairs s q (question_asked s e) in
    let every = mode_fits Full (demand_of s q) (supply_of s q) q.demand.state q.supply.state few in
    let some = mode_fits Partial (demand_of s q) (supply_of s q) q.demand.state q.supply.state few in
    simp length-append
    (omega (arith, file_short (length s) (tables_of s), start_short q.demand.table q.supply.table q.demand.state q.supply.state, every, some))

-- every text fits 385,321 bytes
pub text_fits : (s : List ℕ) → length (text s) ≤ 385321
unfolding text
text_fits s = text_after_fits s (program_checks s) refl

pub text_short : (s : List ℕ) → length (text s) < 2 ^ 64
text_short s = omega (arith, text_fits s)

-- ---- the composed text

-- what a mode found is the mode's text
module _ (mode : Mode) (D S : Machine) (t w : ℕ) (f : Found) (verdict : f.verdict ≡ verdict_of mode D S t w) (run : f.steps.now ≡ steps mode D S t w) where
  lines_are : step_lines (steps mode D S t w) ≡ flat_map (λ c. step_line c.supply.row c.task.row) (slots mode D S (mark mode D S t w) t w)
  unfolding steps
  lines_are = slots_lines (slots mode D S (mark mode D S t w) t w)

  found_text_lem : found_text mode f ≡ mode_text mode D S t w
  unfolding found_text mode_text
  found_text_lem =
      (λ i. verdict_line mode (verdict i).yes (verdict i).rounds (verdict i).kept ++ step_lines (run i))
      ∙ ap (λ (l : List ℕ). verdict_line mode (eqb (mark mode D S t w) 0) (rounds mode D S) (kept_count mode D S) ++ l) lines_are

-- where a question is asked, the answers to it
module _ (s : List ℕ) (q : Question) (asks : asked_of s ≡ Ok q) (k : ℕ) (count : tables_of s ≡ k) where
  text_outcome : text s ≡ file_line (length s) k ++ asked_line q ++ decision_text Full s q ++ decision_text Partial s q
  unfolding text
  text_outcome =
      let (passed, same) = asked_question s q asks in
      ap (λ (c : Checked). text_after c s) passed
      ∙ (λ i. file_line (length s) (count i) ++ asked_line (same i) ++ decision_text Full s (same i) ++ decision_text Partial s (same i))

  pub answered_page : (every some : Found) → every.verdict ≡ verdict_at Full s q → every.steps.now ≡ steps_at Full s q
      → some.verdict ≡ verdict_at Partial s q → some.steps.now ≡ steps_at Partial s q
      → page_text (Ok (record { bytes = length s; tables = k; question = q; full = every; partial = some })) ≡ text s
  answered_page every some v l w m =
      (λ i. file_line (length s) k ++ asked_line q
      ++ found_text_lem Full (demand_of s q) (supply_of s q) q.demand.state q.supply.state every v l i
      ++ found_text_lem Partial (demand_of s q) (supply_of s q) q.demand.state q.supply.state some w m i)
      ∙ sym text_outcome

-- ---- the call

module _ (s entry : List ℕ) where
  pub room_short : length entry < length (text s)
      → (turned_back (refuse NoRoom 0) ≡ report_answer s (length entry)) × (entry ≡ report_bytes s entry)
  unfolding report_answer report_bytes room_fault fault
  room_short h = turned_back_lem _ (refuse NoRoom 0) _ _ _ (rw (lt-ltb _ _ h) refl)

  pub text_written : (count : ℕ) (exit : List ℕ) → length (text s) ≤ length entry → count ≡ length (text s) → exit ≡ write_at 0 (text s) entry
      → (carried_out (count ∷ []) ≡ report_answer s (length entry)) × (exit ≡ report_bytes s entry)
  unfolding report_answer report_bytes room_fault fault answer slice_after
  text_written count exit h e w =
      (rw (le-ltb _ _ h) (ap (λ (n : ℕ). carried_out (n ∷ [])) e), rw (le-ltb _ _ h) (w ∙ write_at-overwrite (text s) entry h))

-- the count that is returned is within the lent bytes
pub count_within : (s : List ℕ) (room count : ℕ) → carried_out (count ∷ []) ≡ report_answer s room → count ≤ room
unfolding report_answer room_fault fault answer
count_within s room count e = go (ltb room (length (text s))) refl e
  where
    go : (b : Bool) → ltb room (length (text s)) ≡ b → carried_out (count ∷ []) ≡ answer (fault b NoRoom 0) (length (text s) ∷ []) → count ≤ room
    go true f a = let none : length (count ∷ []) ≡ 0 = ap (λ (x : Answer). length x.values) a in absurd (omega arith)
    go false f a = let same : count ≡ length (text s) = ap (λ (x : Answer). get_or x.values 0 0) a in let most : length (text s) ≤ room = ltb-false room (length (text s)) f in omega arith

-- with room for the longest text no call is turned back
module _ (s : List ℕ) (room : ℕ) (h : 385321 ≤ room) where
  enough : ltb room (length (text s)) ≡ false
  enough = let fits = text_fits s in le-ltb room (length (text s)) (let few : length (text s) ≤ room = omega arith in few)

  pub always_written : report_answer s room ≡ carried_out (length (text s) ∷ [])
  unfolding report_answer room_fault fault answer
  always_written = rw enough refl

  pub never_refused : (r : Result ℕ Refusal) → counted r ≡ report_answer s room → IsOk r
  never_refused (Ok n) e = refl
  never_refused (Err r) e = let none : 0 ≡ length (length (text s) ∷ []) = ap (λ (x : Answer). length x.values) (e ∙ always_written) in absurd (omega arith)

  pub whole_count : (count : ℕ) → carried_out (count ∷ []) ≡ report_answer s room → count ≡ length (text s)
  whole_count count e = ap (λ (x : Answer). get_or x.values 0 0) (e ∙ always_written)

pub bytes_written : (s entry : List ℕ) → 385321 ≤ length entry → report_bytes s entry ≡ overwrite (text s) entry
unfolding report_bytes room_fault fault slice_after
bytes_written s entry h = rw (enough s (length entry) h) refl
