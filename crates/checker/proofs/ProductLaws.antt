-- Laws of Join and Merge together: the answer and the bytes, by what the checks find; and what is written is a body of the product. Relies on the laws of
-- products, of rows in body form, and of two tables of a kind that nothing turns back.
use Prim.Native.Nat.{ℕ, ◌*◌, ◌≤◌, ◌<◌}
use mathlib.Core.Path.{◌≡◌, refl, sym, ap, ap₂, ◌∙◌, subst, subst₂}
use mathlib.Core.List.{List, [], ◌∷◌, Memᴰ}
use mathlib.Core.Logic.{◌↔◌}
use native.Mathlib.Omega.{arith}
use lib.ListN.{length, get_or, take, drop}
use lib.Arith.{digits_lt}
use lib.Seq.{take-append_seam}
use borrow.Author.Tests.{ltb-false}
use Rattle.rules.specs.declared.Row.{Row}
use Rattle.rules.specs.Rows.{move}
use Rattle.rules.specs.Slices.{overwrite}
use Rattle.rules.specs.Machines.{Machine, Sound, IsMove, machine, widen}
use Rattle.rules.specs.Products.{Rule, join_state, product, IsPairRow}
use Rattle.rules.proofs.WideningLaws.{widen_none}
use Rattle.rules.proofs.ProductLaws.{product_rises, product_from, product_target}
use Rattle.tables.specs.declared.Refusal.{Refusal}
use Rattle.tables.specs.declared.kinds.Kind.{Kind}
use Rattle.tables.specs.Checks.{Checked, ◌then◌}
use Rattle.tables.specs.Answers.{Answer, counted, turned_back, carried_out, slice_after}
use Rattle.tables.specs.File.{body_bytes}
use Rattle.tables.specs.Accepted.{TableBody}
use Rattle.tables.specs.Tables.{rows_of, table_of, machine_of}
use Rattle.tables.proofs.CheckLaws.{fault_passed, then_left, then_right, carried_out_lem, passed, turned_whatever}
use Rattle.tables.proofs.RowLaws.{length-bytes, bytes_rows, bytes_body}
use Rattle.std.proofs.Common.{Result, Ok, Err}
use Rattle.machines.specs.Stored.{HasTable}
use Rattle.joins.specs.Joins.{rows_checks, rows_answer, rows_slice}
use Rattle.questions.specs.Sizes.{size_checks}
use Rattle.questions.proofs.PairLaws.{table_at_sound}
use Rattle.questions.proofs.SizeLaws.{first_at, second_at, states_few}
use Rattle.checker.specs.Products.{product_checks, product_answer, product_slice, written_table, IsProduct}

-- n and m, as they are returned
pub size_told : {x y n m : ℕ} → x ≡ n → y ≡ m → carried_out (x ∷ y ∷ []) ≡ carried_out (n ∷ m ∷ [])
size_told = ap₂ (λ (n m : ℕ). carried_out (n ∷ m ∷ []))

-- the answer that writing gives to a table of n states
abbrev answer_of : ℕ → Result ℕ Refusal → Answer
answer_of n (Ok m) = carried_out (n ∷ m ∷ [])
answer_of n (Err r) = turned_back r

module _ (kind : Kind) (s : List ℕ) (i j : ℕ) (a : size_checks kind s i j ≡ Ok tt) where
  -- the two tables can be loaded
  pub first_filed : HasTable s i
  first_filed = let t = first_at kind s i j a in record { table = t.table; within = t.within }

  pub second_filed : HasTable s j
  second_filed = let t = second_at kind s i j a in record { table = t.table; within = t.within }

  pub first_sound : Sound (machine_of s i)
  first_sound = table_at_sound s i 0 (first_at kind s i j a)

  pub second_sound : Sound (machine_of s j)
  second_sound = table_at_sound s j 0 (second_at kind s i j a)

  module _ (rows : List Row) where
    -- the rows decide
    rows_decide : (room : ℕ) → product_checks kind s i j rows room ≡ rows_checks rows room
    unfolding product_checks ◌then◌
    rows_decide room = rw a refl

    by_rows : (room n : ℕ) → n ≡ (table_of s i).n * (table_of s j).n → (w : Result ℕ Refusal) → counted w ≡ rows_answer rows room
        → answer_of n w ≡ product_answer kind s i j rows room
    unfolding product_answer rows_answer
    by_rows room n product (Ok m) e =
        let (passes, values) = passed (rows_checks rows room) m [] (length rows ∷ []) (sym e) in
        let told = carried_out_lem (rows_checks rows room) ((table_of s i).n * (table_of s j).n ∷ length rows ∷ []) [] [] passes in
        rw (rows_decide room) (ap₂ (λ (x y : ℕ). carried_out (x ∷ y ∷ [])) product (sym (ap (λ (l : List ℕ). get_or l 0 0) values)) ∙ told.0)
    by_rows room n product (Err r) e = rw (rows_decide room) (turned_whatever _ r _ _ _ e)

  -- the two machines, as they are loaded
  module _ {one two : Machine} (e : one ≡ widen 0 (machine_of s i)) (f : two ≡ widen 0 (machine_of s j)) where
    product_is : one.n * two.n ≡ (table_of s i).n * (table_of s j).n
    product_is = ap₂ (λ (D E : Machine). D.n * E.n) e f

    pub product_few : one.n * two.n ≤ 64
    product_few = rw product_is (states_few kind s i j a)

    -- what writing the rows that they give comes to
    pub write_answers : (rows : Machine → Machine → List Row) {n : ℕ} → n ≡ one.n * two.n → (entry exit : List ℕ) {w v : Result ℕ Refusal}
        → counted w ≡ rows_answer (rows one two) (length entry) → exit ≡ rows_slice (rows one two) entry → w ≡ v
        → record {
          answer : answer_of n v ≡ product_answer kind s i j (rows (machine_of s i) (machine_of s j)) (length entry);
          slice : exit ≡ product_slice kind s i j (rows (machine_of s i) (machine_of s j)) entry;
        }
    unfolding product_slice rows_slice
    write_answers rows {n} product entry exit {w} {v} told left same =
        let found : rows one two ≡ rows (machine_of s i) (machine_of s j) =
        ap₂ rows (e ∙ widen_none (machine_of s i)) (f ∙ widen_none (machine_of s j)) in
        let made : List Row = rows (machine_of s i) (machine_of s j) in
        record {
          answer =
              by_rows made (length entry) n (product ∙ product_is) v
              (ap counted (sym same) ∙ told ∙ ap (λ (z : List Row). rows_answer z (length entry)) found);
          slice =
              left ∙ ap (λ (z : List Row). slice_after (rows_checks z (length entry)) (overwrite (body_bytes z) entry) entry) found
              ∙ ap (λ (c : Checked). slice_after c (overwrite (body_bytes made) entry) entry) (sym (rows_decide made (length entry)));
        }

-- ---- what is written

module _ (kind : Kind) (rule : Rule) (s : List ℕ) (i j n m room : ℕ)
    (told : product_answer kind s i j (product rule (machine_of s i) (machine_of s j)).rows room ≡ carried_out (n ∷ m ∷ [])) where
  abbrev D : Machine
  D = machine_of s i

  abbrev E : Machine
  E = machine_of s j

  abbrev rows : List Row
  rows = (product rule D E).rows

  outcome : (product_checks kind s i j rows room ≡ Ok tt) × ((table_of s i).n * (table_of s j).n ∷ length rows ∷ [] ≡ n ∷ m ∷ [])
  unfolding product_answer
  outcome = passed (product_checks kind s i j rows room) _ _ _ told

  -- nothing turns the two tables back
  pub asked : size_checks kind s i j ≡ Ok tt
  unfolding product_checks
  asked = then_left _ _ outcome.0

  few_rows : length rows ≤ 512
  unfolding product_checks rows_checks
  few_rows = ltb-false 512 (length rows) (fault_passed _ _ _ (then_left _ _ (then_right _ _ outcome.0)))

  n_is : n ≡ D.n * E.n
  n_is = sym (ap (λ (l : List ℕ). get_or l 0 0) outcome.1)

  m_is : m ≡ length rows
  m_is = sym (ap (λ (l : List ℕ). get_or l 1 0) outcome.1)

  module _ (entry exit : List ℕ) (lent : length entry ≡ room) (left : exit ≡ product_slice kind s i j rows entry) where
    bytes_are : take (4 * m) exit ≡ body_bytes rows
    unfolding product_slice overwrite slice_after
    bytes_are =
        let long : 4 * m ≡ length (body_bytes rows) = ap (λ (x : ℕ). 4 * x) m_is ∙ sym (length-bytes rows) in
        ap₂ take long (left ∙ ap (λ (c : Checked). slice_after c (overwrite (body_bytes rows) entry) entry) (ap (product_checks kind s i j rows) lent ∙ outcome.0))
        ∙ take-append_seam (body_bytes rows) (drop (length (body_bytes rows)) entry)

    -- the rows that are read from them are the product's
    rows_are : rows_of (take (4 * m) exit) m ≡ rows
    rows_are = ap₂ rows_of bytes_are m_is ∙ bytes_rows rows

    body_is : TableBody n m (take (4 * m) exit)
    body_is =
        let d = first_sound kind s i j asked in
        let e = second_sound kind s i j asked in
        let one = digits_lt {q = 0} {m = D.n} {r = 0} {c = E.n} d.fin e.fin in
        subst (λ (x : List ℕ). TableBody n m x) (sym bytes_are)
        (subst₂ (λ (x y : ℕ). TableBody x y (body_bytes rows)) (sym n_is) (sym m_is)
        (bytes_body (D.n * E.n) rows (omega arith) (states_few kind s i j asked) few_rows
        (product_from rule D E) (product_target rule D E d e) (product_rises rule D E)))

    pub machine_is : machine (written_table n m exit) ≡ machine (product rule D E)
    unfolding product
    machine_is = ap₂ (λ (x : ℕ) (z : List Row). machine (record { n = x; rows = z })) n_is rows_are

    pub is_product : {P : ℕ → ℕ → ℕ → ℕ → Type 0} → ((r : Row) → Memᴰ r rows ↔ IsPairRow D E P r)
        → ((a b set target : ℕ) → a < D.n → b < E.n → ((k : ℕ) × IsMove (machine (product rule D E)) (join_state E.n a b) (move k set target)) ↔ P a b set target)
        → IsProduct D E P n m exit
    is_product {P} given moved = record {
      states = n_is;
      body = body_is;
      rows = λ r. subst (λ (z : List Row). Memᴰ r z ↔ IsPairRow D E P r) (sym rows_are) (given r);
      moves = λ a b set target p q.
          subst (λ (M : Machine). ((k : ℕ) × IsMove M (join_state E.n a b) (move k set target)) ↔ P a b set target) (sym machine_is) (moved a b set target p q);
    }
