-- Laws of the file's fields. Relies on nothing.
use Prim.Native.Nat.{ℕ, zero, suc, ◌+◌, ◌*◌, ◌≤◌, ◌<◌}
use mathlib.Core.Path.{◌≡◌, refl, sym}
use mathlib.Core.List.{List}
use mathlib.Core.Logic.{⊎_elim}
use native.Mathlib.Nat.{le_of_suc-le-suc, eq-or-lt_of_le}
use native.Mathlib.Numerals.{add-one}
use native.Mathlib.Omega.{arith}
use lib.ListN.{length, take, drop, length-take, length-drop, get_or-eq_default}
use borrow.Author.Tests.{le-ltb}
use Rattle.rules.specs.Rows.{row}
use Rattle.tables.specs.declared.reads.Entry.{Entry}
use Rattle.tables.specs.File.{byte_at, word_at, tables_of, entry_place, entry_of, body_length, end_before, body_of, row_place, row_of}
use Rattle.tables.specs.Checks.{scan}
use Rattle.tables.specs.Part.{span, entry_span}
use Rattle.tables.specs.Open.{row_fault, body_fault}

module _ (s : List ℕ) where
  -- ---- past the end

  pub byte_past : (at : ℕ) → length s ≤ at → 0 ≡ byte_at s at
  byte_past at l = sym (get_or-eq_default s 0 l)

  pub word_past : (at : ℕ) → length s ≤ at → 0 ≡ word_at s at
  unfolding word_at
  word_past at l = omega (arith, byte_past at l, byte_past (at + 1) (omega arith))

  pub entry_past : (i : ℕ) → length s ≤ entry_place i → record { kind = 0; states = 0; rows = 0; offset = 0 } ≡ entry_of s i
  unfolding entry_of
  entry_past i l =
      let kind = byte_past (entry_place i) l in
      let states = byte_past (entry_place i + 1) (omega arith) in
      let rows = word_past (entry_place i + 2) (omega arith) in
      let offset = word_past (entry_place i + 4) (omega arith) in
      λ x. record { kind = kind x; states = states x; rows = rows x; offset = offset x }

  pub row_past : (j : ℕ) → length s ≤ row_place j → row 0 0 0 ≡ row_of s j
  unfolding row_of
  row_past j l =
      let from = byte_past (row_place j) l in
      let target = byte_past (row_place j + 1) (omega arith) in
      let set = word_past (row_place j + 2) (omega arith) in
      λ x. row (from x) (target x) (set x)

  -- ---- bytes

  -- of bytes, a set is 16 bits
  pub set_below : ((at : ℕ) → byte_at s at < 256) → (j : ℕ) → (row_of s j).set < 65536
  unfolding row_of word_at
  set_below h j = omega (arith, h (row_place j + 2), h (row_place j + 2 + 1))

  -- ---- the bodies, back to back

  pub end_first : end_before s 0 ≡ 2 + 6 * tables_of s
  unfolding end_before
  end_first = refl

  pub end_next : (i : ℕ) → end_before s (i + 1) ≡ end_before s i + body_length (entry_of s i)
  unfolding end_before
  end_next i = rw add-one

  -- the end of the body that an entry tells, from the end of what precedes it
  pub end_more : (i end b : ℕ) (e : Entry) → end ≡ end_before s i → e ≡ entry_of s i → b ≡ body_length e → end + b ≡ end_before s (i + 1)
  end_more i end b e p q r = rw (end_next i, p, r, q)

  pub end_upto : (i n : ℕ) → i ≤ n → end_before s i ≤ end_before s n
  unfolding end_before
  end_upto i zero l = let z : i ≡ 0 = omega arith in rw z (omega arith)
  end_upto i (suc n) l =
      ⊎_elim (λ q. rw q (omega arith)) (λ t. omega (arith, end_upto i n (le_of_suc-le-suc t))) (eq-or-lt_of_le l)

  -- a body that is inside the file has all its bytes
  pub body_length_lem : (i : ℕ) → (entry_of s i).offset + body_length (entry_of s i) ≤ length s → length (body_of s i) ≡ body_length (entry_of s i)
  unfolding body_of
  body_length_lem i l = simp (length-take, length-drop) (omega arith)

  -- so its part is where its entry tells
  pub span_within : (e : Entry) → e.offset + body_length e ≤ length s → entry_span (length s) e ≡ span e.offset (body_length e)
  unfolding entry_span
  span_within e l = rw (le-ltb (length s) (e.offset + body_length e) l) refl

  -- tables of at most 512 rows: where their bodies end at most
  pub end_most : (i : ℕ) → ((j : ℕ) → j < i → (entry_of s j).rows ≤ 512) → end_before s i ≤ 2 + 6 * tables_of s + 2048 * i
  unfolding end_before body_length
  end_most zero h = omega arith
  end_most (suc i) h = omega (arith, end_most i (λ j l. h j (omega arith)), h i (omega arith))

  -- the checks of the body that an entry tells of
  pub body_checks_lem : (i : ℕ) (e : Entry) → e ≡ entry_of s i
      → scan (row_fault (take (body_length e) (drop e.offset s)) e.states e.offset) e.rows ≡ body_fault s i
  unfolding body_fault body_of
  body_checks_lem i e q = rw q
