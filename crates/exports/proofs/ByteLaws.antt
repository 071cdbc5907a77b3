-- Laws of numbers in slices of bytes: what is written is read back, and what is not stays. Relies on the laws of what is written to a slice.
use Rattle.std.proofs.Common.{◌≡◌, ℕ, suc, ◌*◌, ◌/◌, ◌%◌, ◌^◌, ◌≤◌, List, [], ◌∷◌, length, refl, sym, ap, ap₂, ◌∙◌, arith}
use Rattle.std.specs.Int.{w16, w64, to_le_bytes}
use Rattle.std.proofs.lemmas.Nat.{from_le_bytes-to_le_bytes_8}
use mathlib.Core.List.{flat_map}
use Rattle.rules.specs.Slices.{overwrite}
use Rattle.rules.proofs.ListLaws.{length-flat_map}
use Rattle.exports.specs.Bytes.{word_bytes, words_in, with_words, number_bytes, numbers_in}
use Rattle.exports.specs.Lent.{Holds, AllBelow}

-- ---- marks or steps in a slice of bytes

pub length-word_bytes : (xs : List ℕ) → length (word_bytes xs) ≡ 2 * length xs
length-word_bytes = length-flat_map (to_le_bytes w16) 2 (λ x. refl)

pub length-number_bytes : (xs : List ℕ) → length (number_bytes xs) ≡ 8 * length xs
length-number_bytes = length-flat_map (to_le_bytes w64) 8 (λ x. refl)

pub length-words : (bytes : List ℕ) → length (words_in bytes) ≡ length bytes / 2
unfolding words_in
length-words [] = refl
length-words (odd ∷ []) = refl
length-words (low ∷ high ∷ bytes) = let rest = length-words bytes in omega arith

-- what is written is read back, before what was there
pub words_written : (xs bytes : List ℕ) → 2 * length xs ≤ length bytes → AllBelow 65536 xs → words_in (overwrite (word_bytes xs) bytes) ≡ overwrite xs (words_in bytes)
unfolding overwrite flat_map words_in
words_written [] bytes room small = refl
words_written (x ∷ xs) [] room small = absurd (omega arith)
words_written (x ∷ xs) (odd ∷ []) room small = absurd (omega arith)
words_written (x ∷ xs) (low ∷ high ∷ bytes) room small =
    let here = small 0 in
    ap₂ (λ (y : ℕ) (ys : List ℕ). y ∷ ys) (omega arith) (words_written xs bytes (omega arith) (λ i. small (suc i)))

-- what was there is written as it was
pub same_written : (bytes : List ℕ) → AllBelow 256 bytes → with_words (words_in bytes) bytes ≡ bytes
unfolding overwrite flat_map words_in with_words
same_written [] small = refl
same_written (odd ∷ []) small = refl
same_written (low ∷ high ∷ bytes) small =
    let first = small 0 in
    let second = small 1 in
    ap₂ (λ (x : ℕ) (xs : List ℕ). x ∷ xs) (omega arith) (ap₂ (λ (x : ℕ) (xs : List ℕ). x ∷ xs) (omega arith) (same_written bytes (λ i. small (suc (suc i)))))

-- so only what is written changes bytes
rest_written : (xs bytes : List ℕ) → 2 * length xs ≤ length bytes → AllBelow 256 bytes
    → with_words (overwrite xs (words_in bytes)) bytes ≡ overwrite (word_bytes xs) bytes
unfolding overwrite flat_map words_in with_words
rest_written [] bytes room small = same_written bytes small
rest_written (x ∷ xs) [] room small = absurd (omega arith)
rest_written (x ∷ xs) (odd ∷ []) room small = absurd (omega arith)
rest_written (x ∷ xs) (low ∷ high ∷ bytes) room small =
    ap (λ (l : List ℕ). x % 256 ∷ x / 256 % 256 ∷ l) (rest_written xs bytes (omega arith) (λ i. small (suc (suc i))))

pub holds_same : (bytes : List ℕ) → AllBelow 256 bytes → Holds (words_in bytes) bytes bytes
holds_same bytes small = record { bytes = sym (same_written bytes small); words = refl }

pub holds_written : (xs bytes : List ℕ) {after : List ℕ} → 2 * length xs ≤ length bytes → AllBelow 65536 xs → AllBelow 256 bytes → after ≡ overwrite (word_bytes xs) bytes
    → Holds (overwrite xs (words_in bytes)) bytes after
holds_written xs bytes room few small e = record { bytes = e ∙ sym (rest_written xs bytes room small); words = ap words_in e ∙ words_written xs bytes room few }

-- ---- the numbers of a report

pub numbers_back : (xs report : List ℕ) → length xs ≡ 3 → AllBelow (2 ^ 64) xs → numbers_in (overwrite (number_bytes xs) report) ≡ xs
unfolding overwrite flat_map
numbers_back (x ∷ y ∷ z ∷ []) report e small =
    ap₂ (λ (n : ℕ) (ns : List ℕ). n ∷ ns) (from_le_bytes-to_le_bytes_8 x (small 0))
    (ap₂ (λ (n : ℕ) (ns : List ℕ). n ∷ ns) (from_le_bytes-to_le_bytes_8 y (small 1)) (ap (λ (n : ℕ). n ∷ []) (from_le_bytes-to_le_bytes_8 z (small 2))))
numbers_back [] report e small = absurd (omega arith)
numbers_back (x ∷ []) report e small = absurd (omega arith)
numbers_back (x ∷ y ∷ []) report e small = absurd (omega arith)
numbers_back (x ∷ y ∷ z ∷ w ∷ xs) report e small = absurd (omega arith)
