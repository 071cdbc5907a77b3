-- Laws of rows in body form: a row that is written is the row that is read, and rows of a table written one after the other are a body that
-- Open accepts. Relies on the laws of what is written to a slice.
use Prim.Native.Nat.{ℕ, zero, suc, ◌+◌, ◌*◌, ◌/◌, ◌%◌, ◌≤◌, ◌<◌}
use mathlib.Core.Path.{◌≡◌, refl, sym, ap, ◌∙◌, subst, subst₂}
use mathlib.Core.List.{List, [], ◌∷◌, flat_map, Memᴰ}
use mathlib.Core.Logic.{◌⊎◌, inl, inr}
use native.Mathlib.Omega.{arith}
use lib.Arith.{lt_of_le-ne}
use lib.Dec.{T, not_T, ltb, ltb→lt, nltb→le}
use lib.ListN.{length, get_or}
use lib.Seq.{ext_get_or}
use Rattle.rules.specs.declared.Row.{Row}
use Rattle.rules.specs.Lists.{Pairwise}
use Rattle.rules.specs.Rows.{row, RisesTo}
use Rattle.rules.specs.Slices.{write_at}
use Rattle.rules.proofs.Booleans.{T-or}
use Rattle.rules.proofs.ListLaws.{get_or-mem, pairwise-get_or}
use Rattle.rules.proofs.BelowLaws.{length-list_below, get_or-list_below}
use Rattle.rules.proofs.SliceLaws.{write_at-other, write_at-entry}
use Rattle.tables.specs.File.{word_at, row_of, row_bytes, body_bytes}
use Rattle.tables.specs.Tables.{rows_of}
use Rattle.tables.specs.Accepted.{TableBody}

-- ---- a row that is written

module _ (body : List ℕ) (i : ℕ) (r : Row) where
  -- is read where it was written
  pub row_written : 4 * i + 4 ≤ length body → row_of (write_at (4 * i) (row_bytes r) body) i ≡ r
  unfolding row_of word_at row_bytes
  row_written room =
      let s = write_at (4 * i) (row_bytes r) body in
      let here : 4 * i ≡ 4 * i + 0 = omega arith in
      let from : get_or s (4 * i) 0 ≡ r.from = ap (λ (k : ℕ). get_or s k 0) here ∙ write_at-entry (4 * i) (row_bytes r) body 0 (omega arith) (omega arith) in
      let target : get_or s (4 * i + 1) 0 ≡ r.target = write_at-entry (4 * i) (row_bytes r) body 1 (omega arith) (omega arith) in
      let low : get_or s (4 * i + 2) 0 ≡ r.set % 256 = write_at-entry (4 * i) (row_bytes r) body 2 (omega arith) (omega arith) in
      let last : 4 * i + 2 + 1 ≡ 4 * i + 3 = omega arith in
      let high : get_or s (4 * i + 2 + 1) 0 ≡ r.set / 256 = rw last (write_at-entry (4 * i) (row_bytes r) body 3 (omega arith) (omega arith)) in
      let set : get_or s (4 * i + 2) 0 + 256 * get_or s (4 * i + 2 + 1) 0 ≡ r.set = omega arith in
      λ k. record { from = from k; target = target k; set = set k }

  -- and leaves the others as they are
  pub row_left : (j : ℕ) → (j ≡ i → ⊥) → row_of (write_at (4 * i) (row_bytes r) body) j ≡ row_of body j
  unfolding row_of word_at row_bytes
  row_left j n =
      let here : 4 * j ≡ 4 * j + 0 = omega arith in
      let last : 4 * j + 2 + 1 ≡ 4 * j + 3 = omega arith in
      rw (last, same 1 (omega arith), same 2 (omega arith), same 3 (omega arith), here, same 0 (omega arith)) refl
    where
      apart : (k : ℕ) → k < 4 → (4 * j + k < 4 * i) ⊎ (4 * i + 4 ≤ 4 * j + k)
      apart k l = go (T-or (ltb j i))
        where
          go : T (ltb j i) ⊎ (T (ltb j i) → ⊥) → (4 * j + k < 4 * i) ⊎ (4 * i + 4 ≤ 4 * j + k)
          go (inl t) = let m = ltb→lt j i t in inl (omega arith)
          go (inr t) = let m = nltb→le j i (not_T (ltb j i) t) in inr (let q : i < j = lt_of_le-ne m (λ e. n (sym e)) in omega arith)

      same : (k : ℕ) → k < 4 → get_or (write_at (4 * i) (row_bytes r) body) (4 * j + k) 0 ≡ get_or body (4 * j + k) 0
      same k l = write_at-other (4 * i) (row_bytes r) body (4 * j + k) (apart k l)

-- ---- rows written one after the other

pub length-bytes : (rows : List Row) → length (body_bytes rows) ≡ 4 * length rows
unfolding flat_map row_bytes
length-bytes [] = refl
length-bytes (r ∷ rs) = omega (arith, length-bytes rs)

pub bytes_row : (rows : List Row) (j : ℕ) → row_of (body_bytes rows) j ≡ get_or rows j (row 0 0 0)
unfolding flat_map row_of word_at row_bytes
bytes_row [] j = refl
bytes_row (r ∷ rs) zero =
    let set : r.set % 256 + 256 * (r.set / 256) ≡ r.set = omega arith in
    λ k. record { from = r.from; target = r.target; set = set k }
bytes_row (r ∷ rs) (suc j) =
    let next : (k : ℕ) → 4 * suc j + k ≡ suc (suc (suc (suc (4 * j + k)))) = λ k. omega arith in
    let zeroth : 4 * suc j ≡ suc (suc (suc (suc (4 * j)))) = omega arith in
    let last : 4 * suc j + 2 + 1 ≡ suc (suc (suc (suc (4 * j + 2 + 1)))) = omega arith in
    rw (last, next 1, next 2, zeroth) (bytes_row rs j)

-- the rows of these bytes are the rows
pub bytes_rows : (rows : List Row) → rows_of (body_bytes rows) (length rows) ≡ rows
bytes_rows rows =
    ext_get_or (row 0 0 0) (rows_of (body_bytes rows) (length rows)) rows (length-list_below (row_of (body_bytes rows)) (length rows))
    (λ j l. let k : j < length rows = omega (arith, length-list_below (row_of (body_bytes rows)) (length rows)) in
    get_or-list_below (row_of (body_bytes rows)) (row 0 0 0) (length rows) j k ∙ bytes_row rows j)

-- rising rows between the states of a table are a body that Open accepts
pub bytes_body : (n : ℕ) (rows : List Row) → 1 ≤ n → n ≤ 64 → length rows ≤ 512
    → ((r : Row) → Memᴰ r rows → (1 ≤ r.from) × (r.from < n)) → ((r : Row) → Memᴰ r rows → r.target < n) → Pairwise RisesTo rows
    → TableBody n (length rows) (body_bytes rows)
bytes_body n rows some few short from target rise = record {
  some_state = some;
  few_states = few;
  few_rows = short;
  four_bytes = length-bytes rows;
  from_low = λ j l. subst (λ (r : Row). 1 ≤ r.from) (sym (bytes_row rows j)) (from (get_or rows j (row 0 0 0)) (get_or-mem (row 0 0 0) rows j l)).0;
  from_high = λ j l. subst (λ (r : Row). r.from < n) (sym (bytes_row rows j)) (from (get_or rows j (row 0 0 0)) (get_or-mem (row 0 0 0) rows j l)).1;
  target_high = λ j l. subst (λ (r : Row). r.target < n) (sym (bytes_row rows j)) (target (get_or rows j (row 0 0 0)) (get_or-mem (row 0 0 0) rows j l));
  rising = λ j l. subst₂ RisesTo (sym (bytes_row rows j)) (sym (bytes_row rows (suc j))) (pairwise-get_or (row 0 0 0) RisesTo rows rise j (suc j) (omega arith) l);
}
