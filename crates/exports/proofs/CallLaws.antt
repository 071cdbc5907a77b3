-- Laws of the calls from the bench tool, by the length of the report and by what the covered call answers. Relies on the laws of numbers in bytes.
use Rattle.std.proofs.Common.{◌≡◌, ℕ, ◌<◌, ◌≤◌, List, [], ◌∷◌, length, refl, sym, ap, ◌∙◌, ◌^◌}
use Rattle.std.proofs.lemmas.Bool.{ne_eqb}
use borrow.Author.Tests.{lt-ltb, le-ltb}
use Rattle.rules.specs.Slices.{overwrite}
use Rattle.tables.specs.declared.Refusal.{Refusal}
use Rattle.tables.specs.Answers.{Answer, number_of, turned_back}
use Rattle.tables.proofs.CheckLaws.{numbered_from_one}
use Rattle.tables.specs.declared.Reason.TheVariants.{NoRoom}
use Rattle.exports.specs.Bytes.{number_bytes, numbers_in}
use Rattle.exports.specs.Calls.{asked, report_of, returned, reported, written, AnswerAgrees}
use Rattle.exports.specs.Lent.{Holds, AllBelow}
use Rattle.exports.proofs.ByteLaws.{numbers_back}

-- ---- the question, and the numbers of a report, each by itself

pub asked_same : {d s t u w d' s' t' u' w' : ℕ} → d ≡ d' → s ≡ s' → t ≡ t' → u ≡ u' → w ≡ w' → asked d s t u w ≡ asked d' s' t' u' w'
asked_same e f g h k = λ i. asked (e i) (f i) (g i) (h i) (k i)

pub three_same : {x y z u v w : ℕ} (before : List ℕ) {after : List ℕ} → after ≡ overwrite (number_bytes (x ∷ y ∷ z ∷ [])) before → AllBelow (2 ^ 64) (x ∷ y ∷ z ∷ [])
    → x ≡ u → y ≡ v → z ≡ w → (after ≡ overwrite (number_bytes (u ∷ v ∷ w ∷ [])) before) × (numbers_in after ≡ u ∷ v ∷ w ∷ [])
three_same {x} {y} {z} {u} {v} {w} before bytes small e f g =
    let same : x ∷ y ∷ z ∷ [] ≡ u ∷ v ∷ w ∷ [] = λ i. e i ∷ f i ∷ g i ∷ [] in (
      bytes ∙ ap (λ (l : List ℕ). overwrite (number_bytes l) before) same,
      ap numbers_in bytes ∙ numbers_back (x ∷ y ∷ z ∷ []) before refl small ∙ same,
    )

-- a call turned back has no reason with the number 0
pub place_reported : (r : Refusal) → report_of (turned_back r) ≡ r.place ∷ 0 ∷ 0 ∷ []
unfolding report_of
place_reported r = rw (ne_eqb _ _ (numbered_from_one r.reason)) refl

-- ---- a report that is too short

module _ (report : List ℕ) (short : length report < 24) where
  pub returned_short : (a : Answer) {n : ℕ} → n ≡ number_of NoRoom → n ≡ returned a report
  unfolding returned
  returned_short a e = rw (lt-ltb (length report) 24 short) e

  pub reported_short : (a : Answer) → report ≡ reported a report
  unfolding reported
  reported_short a = rw (lt-ltb (length report) 24 short) refl

  pub written_short : (xs bytes : List ℕ) → bytes ≡ written report xs bytes
  unfolding written
  written_short xs bytes = rw (lt-ltb (length report) 24 short) refl

-- ---- one that is long enough

-- what is returned and reported of an answer
pub record Answered (a : Answer) (report : List ℕ) (n : ℕ) (after : List ℕ) : Type 0 where
  pub number : n ≡ returned a report
  pub report_is : after ≡ reported a report
  pub agrees : AnswerAgrees a n after

module _ (report : List ℕ) (long : 24 ≤ length report) where
  pub written_long : (xs bytes : List ℕ) {after : List ℕ} → Holds xs bytes after → after ≡ written report xs bytes
  unfolding written
  written_long xs bytes h = rw (le-ltb (length report) 24 long) h.bytes

  -- where three numbers are reported that tell the answer
  pub answered : (a b : Answer) {n x y z u v w : ℕ} {after : List ℕ} → b ≡ a → n ≡ b.number → report_of b ≡ u ∷ v ∷ w ∷ [] → x ≡ u → y ≡ v → z ≡ w
      → after ≡ overwrite (number_bytes (x ∷ y ∷ z ∷ [])) report → numbers_in after ≡ x ∷ y ∷ z ∷ [] → Answered a report n after
  unfolding returned reported
  answered a b {n} {x} {y} {z} {u} {v} {w} {after} same number three e f g bytes back =
      let numbers : x ∷ y ∷ z ∷ [] ≡ report_of a = (λ i. e i ∷ f i ∷ g i ∷ []) ∙ sym three ∙ ap report_of same in
      let returns : n ≡ a.number = number ∙ ap (λ (x : Answer). x.number) same in
      record {
        number = rw (le-ltb (length report) 24 long) returns;
        report_is = rw (le-ltb (length report) 24 long) (bytes ∙ ap (λ (l : List ℕ). overwrite (number_bytes l) report) numbers);
        agrees = record { number_is = returns; report_is = back ∙ numbers };
      }
