-- Laws of the tables of an accepted file: their machines are sound, their rows rise by from-state, and their sets are 16 bits, so that 16 resources
-- settle inclusion and maximality. Relies on what Open guarantees.
use Prim.Native.Nat.{ℕ, ◌+◌, ◌≤◌, ◌<◌}
use mathlib.Core.Path.{◌≡◌, sym, subst}
use mathlib.Core.List.{List, Memᴰ}
use mathlib.Core.Logic.{◌⊎◌, inl, inr}
use native.Mathlib.Omega.{arith}
use native.Mathlib.Nat.{eq-or-lt_of_le}
use lib.Dec.{T, ltb, ltb→lt, nltb→le, not_T}
use lib.ListN.{length, take, drop, length-take, get_or-eq_default}
use lib.Seq.{get_or-take, get_or-drop}
use Rattle.rules.specs.declared.Row.{Row}
use Rattle.rules.specs.declared.Move.{Move}
use Rattle.rules.specs.Rows.{row}
use Rattle.rules.specs.Sets.{has, inside, larger, maximal}
use Rattle.rules.specs.Machines.{Sound, machine, IsMove, IsTableMove, idles, takes}
use Rattle.rules.specs.Rounds.{sets}
use Rattle.rules.proofs.Booleans.{T-or}
use Rattle.rules.proofs.BelowLaws.{length-list_below, get_or-list_below}
use Rattle.rules.proofs.ListLaws.{map-mem, mem_map}
use Rattle.rules.proofs.SetLaws.{sixteen_has, sixteen_inside, sixteen_larger}
use Rattle.rules.proofs.MaximalLaws.{sixteen_maximal}
use Rattle.rules.proofs.MachineLaws.{table_sound, table_moves_lem}
use Rattle.rules.proofs.RowLaws.{rises_from}
use Rattle.tables.specs.File.{byte_at, entry_of, body_length, body_of, row_of}
use Rattle.tables.specs.Accepted.{TableBody, Accepted}
use Rattle.tables.specs.Tables.{rows_of, machine_of}
use Rattle.tables.proofs.FileLaws.{set_below}
use Rattle.tables.proofs.AcceptedLaws.{rows_rise}

module _ (n m : ℕ) (body : List ℕ) (b : TableBody n m body) where
  -- the from-states of a body's rows do not fall
  pub from_rises : (i j : ℕ) → i ≤ j → j < m → (row_of body i).from ≤ (row_of body j).from
  from_rises i j l h = go (eq-or-lt_of_le l)
    where
      go : (i ≡ j) ⊎ (i < j) → (row_of body i).from ≤ (row_of body j).from
      go (inl e) = subst (λ (x : ℕ). (row_of body i).from ≤ (row_of body x).from) e (omega arith)
      go (inr k) = rises_from (row_of body i) (row_of body j) (rows_rise n m body b i j k h)

  pub body_sound : Sound (machine (record { n = n; rows = rows_of body m }))
  body_sound =
      table_sound (record { n = n; rows = rows_of body m }) (let some = b.some_state in omega arith)
      (λ j l. let k : j < m = omega (arith, length-list_below (row_of body) m) in
      subst (λ (r : Row). r.target < n) (sym (get_or-list_below (row_of body) (row 0 0 0) m j k)) (b.target_high j k))

-- the machine of each table of an accepted file is sound
pub accepted_sound : (s : List ℕ) (k i : ℕ) → Accepted s k → i < k → Sound (machine_of s i)
accepted_sound s k i a l = body_sound (entry_of s i).states (entry_of s i).rows (body_of s i) (a.table i l)

-- ---- the sets of a file's tables are 16 bits

part_byte : (s : List ℕ) → ((at : ℕ) → byte_at s at < 256) → (start n at : ℕ) → byte_at (take n (drop start s)) at < 256
part_byte s bytes start n at = go (T-or (ltb at n))
  where
    go : T (ltb at n) ⊎ (T (ltb at n) → ⊥) → byte_at (take n (drop start s)) at < 256
    go (inl t) = rw (get_or-take n (drop start s) at 0 (ltb→lt at n t), get_or-drop start s at 0) (bytes (start + at))
    go (inr f) =
        let past : n ≤ at = nltb→le at n (not_T (ltb at n) f) in
        let long : length (take n (drop start s)) ≤ at = simp length-take (omega arith) in
        rw (get_or-eq_default (take n (drop start s)) 0 long) (omega arith)

module _ (s : List ℕ) (bytes : (at : ℕ) → byte_at s at < 256) (i q : ℕ) where
  pub move_below : (m : Move) → IsMove (machine_of s i) q m → m.set < 65536
  unfolding body_of
  move_below m h = go ((table_moves_lem (rows_of (body_of s i) (entry_of s i).rows) q m).0 h)
    where
      go : IsTableMove (rows_of (body_of s i) (entry_of s i).rows) q m → m.set < 65536
      go (idles z e) = rw e (omega arith)
      go (takes n j l f e) =
          let k : j < (entry_of s i).rows = omega (arith, length-list_below (row_of (body_of s i)) (entry_of s i).rows) in
          rw (e, get_or-list_below (row_of (body_of s i)) (row 0 0 0) (entry_of s i).rows j k)
          (set_below (body_of s i) (part_byte s bytes (entry_of s i).offset (body_length (entry_of s i))) j)

  module _ (m : Move) (h : IsMove (machine_of s i) q m) where
    -- a row names none but the 16 resources
    pub filed_has : (r : ℕ) → T (has r m.set) → r < 16
    filed_has r = sixteen_has m.set r (move_below m h)

    -- they settle whether its set is inside another
    pub filed_inside : (G : ℕ) → ((r : ℕ) → r < 16 → T (has r m.set) → T (has r G)) → T (inside m.set G)
    filed_inside G = sixteen_inside m.set G (move_below m h)

    -- and a strictly larger set has one of them more
    pub filed_larger : (B : ℕ) → T (larger m.set B) → (r : ℕ) × (r < 16) × T (has r m.set) × (T (has r B) → ⊥)
    filed_larger B = sixteen_larger m.set B (move_below m h)

    -- each response lies under a maximal one, whose set is 16 bits too
    pub filed_maximal : (G : ℕ) → T (inside m.set G)
        → (C : ℕ) × Memᴰ C (sets ((machine_of s i).moves q)) × (C < 65536) × T (maximal (sets ((machine_of s i).moves q)) G C) × T (inside m.set C)
    filed_maximal G p =
        sixteen_maximal (sets ((machine_of s i).moves q)) G m.set
        (λ C n. let (b, k, e) = mem_map (λ (x : Move). x.set) ((machine_of s i).moves q) n in rw e (move_below b k)) (map-mem (λ (x : Move). x.set) h) p
