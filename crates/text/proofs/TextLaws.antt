-- Laws of text: pieces that are written one after the other, and the digits of a number. Relies on `rules` for what a slice holds.
use Prim.Native.Nat.{ℕ, zero, suc, ◌+◌, ◌*◌, ◌/◌, ◌%◌, ◌^◌, ◌-◌, ◌≤◌, ◌<◌}
use mathlib.Core.Path.{◌≡◌, refl, sym, ap, ◌∙◌}
use mathlib.Core.Bool.{Bool, true, false, cond}
use mathlib.Core.List.{List, [], ◌∷◌, ◌++◌}
use native.Mathlib.Omega.{arith}
use lib.Dec.{ltb}
use native.Mathlib.Nat.{pow-suc, pow-le-pow_right}
use lib.ListN.{length, take, set, get_or, length-append}
use lib.Seq.{length-take-le, take-suc}
use native.Mathlib.Numerals.{add-one}
use borrow.Author.Tests.{ltb-true, ltb-false, lt-ltb, le-ltb}
use Rattle.io.specs.Digits.{hex_digit_ascii, last_digits, IsDigitCount}
use Rattle.rules.specs.Slices.{write_at}
use Rattle.rules.proofs.SliceLaws.{write_at-append}
use Rattle.text.specs.Text.{digit, digits_in, decimal}
use Rattle.text.specs.Writing.{Wrote}
use Rattle.text.specs.declared.Writer.{Writer}

-- ---- pieces one after the other

pub wrote_none : {w : Writer} → Wrote [] w w
unfolding write_at
wrote_none = record { buffer = refl; place = λ fits. omega arith; bytes = λ fits. refl }

-- two pieces written make one
pub wrote_both : {xs ys : List ℕ} {before mid after : Writer} → Wrote xs before mid → Wrote ys mid after → Wrote (xs ++ ys) before after
wrote_both {xs} {ys} {before} {mid} {after} w v =
    let together = length-append xs ys in
    record {
      buffer = v.buffer ∙ w.buffer;
      place = λ fits. let b = w.place (omega arith) in let c = v.place (omega arith) in omega arith;
      bytes =
          λ fits.
          let b = w.place (omega arith) in
          v.bytes (omega arith) ∙ (λ i. write_at (b i) ys (w.bytes (omega arith) i)) ∙ sym (write_at-append before.at xs ys before.out.now);
    }

-- a text that is written from the first byte of a buffer on
pub wrote_whole : {text buffer : List ℕ} {begun after : Writer} → begun.at ≡ 0 → begun.out.now ≡ buffer → length text < 2 ^ 64 → Wrote text begun after
    → (after.at ≡ length text) × (after.out.now ≡ write_at 0 text buffer)
wrote_whole {text} {begun = begun} first same short w =
    let fits : begun.at + length text < 2 ^ 64 = omega arith in
    (omega (arith, w.place fits), w.bytes fits ∙ (λ i. write_at (first i) text (same i)))

-- ---- digits

-- a digit below 10 as `io` writes it
glyph_digit : (d : ℕ) → d < 10 → hex_digit_ascii d ≡ digit d
glyph_digit d h = rw (lt-ltb d 10 h) refl

-- the fewest digits that hold a number are its digits without leading zeros
digits_fewest : (k f n : ℕ) → IsDigitCount 10 1 n k → k ≤ f → last_digits 10 k n ≡ digits_in f n
unfolding digits_in
digits_fewest zero f n w h = absurd (omega arith)
digits_fewest (suc k) zero n w h = absurd (omega arith)
digits_fewest (suc zero) (suc f) n w h =
    let low : n < 10 = w.1 in
    let same : n % 10 ≡ n = omega arith in
    rw (lt-ltb n 10 low) (rw same (ap (λ (d : ℕ). d ∷ []) (glyph_digit n low)))
digits_fewest (suc (suc k)) (suc f) n w h =
    let most : n < 10 ^ suc k * 10 = rw (sym (pow-suc 10 (suc k))) w.1 in
    let less : suc (suc k) - 1 ≡ suc k = omega arith in
    let least : 10 ^ suc k ≤ n = rw (sym less) (w.2 (omega arith)) in
    let tens : 10 ^ suc k ≡ 10 ^ k * 10 = pow-suc 10 k in
    let lesser : suc k - 1 ≡ k = omega arith in
    let ih = digits_fewest (suc k) f (n / 10) (omega arith, omega arith, λ _. rw lesser (omega arith)) (omega arith) in
    rw (le-ltb n 10 (omega arith), glyph_digit (n % 10) (omega arith)) (ap (λ (l : List ℕ). l ++ (digit (n % 10) ∷ [])) ih)

-- 20 digits hold every number of 64 bits
few_digits : (n k : ℕ) → n < 2 ^ 64 → IsDigitCount 10 1 n k → k ≤ 20
few_digits n k h w = go (ltb 20 k) refl
  where
    go : (b : Bool) → ltb 20 k ≡ b → k ≤ 20
    go true e =
        let more : 20 < k = ltb-true 20 k e in
        let least : 10 ^ (k - 1) ≤ n = w.2 (omega arith) in
        let long : 20 ≤ k - 1 = omega arith in
        let large : 10 ^ 20 ≤ 10 ^ (k - 1) = pow-le-pow_right (omega arith) long in
        absurd (omega arith)
    go false e = ltb-false 20 k e

-- what `io::decimal` leaves in its array
pub decimal_spelled : (n k : ℕ) (out : List ℕ) → n < 2 ^ 64 → IsDigitCount 10 1 n k → take k out ≡ last_digits 10 k n → take k out ≡ decimal n
unfolding decimal
decimal_spelled n k out h w e = e ∙ digits_fewest k 20 n w (few_digits n k h w)

digits_in_lem : (k n : ℕ) → length (digits_in k n) ≤ k
unfolding digits_in
digits_in_lem zero n = omega arith
digits_in_lem (suc k) n = go (ltb n 10) (digits_in_lem k (n / 10))
  where
    go : (b : Bool) → length (digits_in k (n / 10)) ≤ k → length (cond b (digit n ∷ []) (digits_in k (n / 10) ++ (digit (n % 10) ∷ []))) ≤ suc k
    go true h = omega arith
    go false h = omega (arith, length-append (digits_in k (n / 10)) (digit (n % 10) ∷ []))

-- a number takes at most 20 bytes
pub length-decimal : (n : ℕ) → length (decimal n) ≤ 20
unfolding decimal
length-decimal n = digits_in_lem 20 n

-- one byte more of a piece
pub byte_written : (start i : ℕ) (piece old : List ℕ) → i < length piece
    → set (write_at start (take i piece) old) (start + i) (get_or piece i 0) ≡ write_at start (take (i + 1) piece) old
unfolding write_at
byte_written start i piece old h =
    let place : start + i ≡ start + length (take i piece) = omega (arith, length-take-le i piece) in
    ap (λ (k : ℕ). set (write_at start (take i piece) old) k (get_or piece i 0)) place
    ∙ sym (write_at-append start (take i piece) (get_or piece i 0 ∷ []) old)
    ∙ ap (λ (l : List ℕ). write_at start l old) (sym (take-suc piece i 0 h) ∙ ap (λ (k : ℕ). take k piece) (sym (add-one i)))
