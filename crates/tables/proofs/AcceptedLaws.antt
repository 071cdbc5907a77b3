-- Open accepts a file of k tables exactly if `Accepted` holds of it. Relies on the laws of checks and fields.
use Prim.Native.Nat.{ℕ, zero, suc, ◌+◌, ◌*◌, ◌-◌, ◌≤◌, ◌<◌}
use mathlib.Core.Path.{◌≡◌, refl, sym, ◌∙◌, ap}
use mathlib.Core.List.{List, [], ◌∷◌}
use mathlib.Core.Bool.{Bool, true, false, not, ◌||◌}
use mathlib.Core.Logic.{⊎_elim}
use native.Mathlib.Nat.{le_of_suc-le-suc, eq-or-lt_of_le}
use native.Mathlib.Omega.{arith}
use lib.ListN.{length}
use lib.Dec.{ltb, leb, eqb, eqb-suc-zero}
use borrow.Author.Tests.{lt-ltb, ltb-false, leb-false, eqb-true, eqb-false, le-ltb, lt-leb, eq-eqb, ne_eqb, not-false}
use Rattle.rules.specs.Rows.{rises}
use Rattle.rules.proofs.Booleans.{or_false_l, or_false_r}
use Rattle.rules.proofs.RowLaws.{rises_trans}
use Rattle.tables.specs.declared.Refusal.{Refusal}
use Rattle.tables.specs.declared.kinds.Kind.{Kind}
use Rattle.tables.specs.declared.kinds.UnknownKind.{UnknownKind}
use Rattle.tables.specs.Checks.{Checked, scan, ◌then◌}
use Rattle.tables.specs.Answers.{Answer, answer, counted, carried_out}
use Rattle.tables.specs.File.{tables_of, entry_place, entry_of, body_length, end_before, body_of, row_of}
use Rattle.tables.specs.Open.{outside, header_fault, entry_fault, length_fault, is_above, row_fault, body_fault, file_fault, open_of}
use Rattle.tables.specs.Accepted.{TableBody, Accepted, Laid}
use Rattle.tables.proofs.CheckLaws.{turned_by, fault_passed, passed_fault, then_left, then_right, then_both, scan_each, each_scan}
use Rattle.tables.proofs.FileLaws.{end_first, end_next, end_upto, end_most, body_length_lem}
use Rattle.std.proofs.Common.{Ok, Err, Result}
use Rattle.std.specs.Result.{is_err}
use Rattle.tables.specs.Kinds.{kind_of}

no_values : {k : ℕ} → ◌≡◌ {A = List ℕ} (k ∷ []) [] → ⊥
no_values e = let z : ◌≡◌ {A = ℕ} 0 1 = cc in omega arith

-- ---- tests that fail, and what holds then

outside_low : (low high x : ℕ) → outside low high x ≡ false → low ≤ x
unfolding outside
outside_low low high x e = ltb-false x low (or_false_l (ltb x low) (ltb high x) e)

pub outside_high : (low high x : ℕ) → outside low high x ≡ false → x ≤ high
unfolding outside
outside_high low high x e = ltb-false high x (or_false_r (ltb x low) (ltb high x) e)

-- a byte is no kind's exactly if it is not 1 or 2
pub unknown_kind : (code : ℕ) → is_err (kind_of code) ≡ outside 1 2 code
unfolding kind_of outside
unknown_kind zero = refl
unknown_kind (suc zero) = refl
unknown_kind (suc (suc zero)) = refl
unknown_kind (suc (suc (suc n))) =
    simp (
      ne_eqb (suc (suc (suc n))) 1 (λ e. absurd (omega arith)),
      ne_eqb (suc (suc (suc n))) 2 (λ e. absurd (omega arith)),
      lt-ltb 2 (suc (suc (suc n))) (omega arith),
      le-ltb (suc (suc (suc n))) 1 (omega arith),
    )

-- so a look at the kind of a byte tells whether it is outside
pub outside_kind : (code : ℕ) {r : Result Kind UnknownKind} {b t : Bool} → r ≡ kind_of code → b ≡ is_err r → b ≡ t → outside 1 2 code ≡ t
outside_kind code e f g = sym (unknown_kind code) ∙ ap is_err (sym e) ∙ sym f ∙ g

not_outside : (low high x : ℕ) → low ≤ x → x ≤ high → outside low high x ≡ false
unfolding outside
not_outside low high x l h = simp (le-ltb _ _ l, le-ltb _ _ h)

module _ (s : List ℕ) where
  -- ---- the header

  pub record GoodHeader : Type 0 where
    pub some : 1 ≤ tables_of s
    pub few : tables_of s ≤ 16
    pub contents : entry_place (tables_of s) ≤ length s

  pub header_passed : header_fault s ≡ Ok tt → GoodHeader
  unfolding header_fault
  header_passed e =
      let r = then_right _ _ e in
      let k = fault_passed _ _ _ (then_left _ _ r) in
      record { some = outside_low 1 16 _ k; few = outside_high 1 16 _ k; contents = ltb-false _ _ (fault_passed _ _ _ (then_right _ _ r)) }

  passed_header : GoodHeader → header_fault s ≡ Ok tt
  unfolding header_fault
  passed_header h =
      let two : 2 ≤ length s = omega (arith, h.contents) in
      then_both _ _ (passed_fault _ _ _ (le-ltb _ _ two))
      (then_both _ _ (passed_fault _ _ _ (not_outside 1 16 _ h.some h.few)) (passed_fault _ _ _ (le-ltb _ _ h.contents)))

  -- ---- a contents entry

  pub record GoodEntry (i : ℕ) : Type 0 where
    pub kind_low : 1 ≤ (entry_of s i).kind
    pub kind_high : (entry_of s i).kind ≤ 2
    pub states_low : 1 ≤ (entry_of s i).states
    pub states_high : (entry_of s i).states ≤ 64
    pub rows_high : (entry_of s i).rows ≤ 512
    pub place : (entry_of s i).offset ≡ end_before s i

  pub entry_passed : (i : ℕ) → entry_fault s i ≡ Ok tt → GoodEntry i
  unfolding entry_fault
  entry_passed i e =
      let e2 = then_right _ _ e in
      let e3 = then_right _ _ e2 in
      let kind = fault_passed _ _ _ (then_left _ _ e) in
      let states = fault_passed _ _ _ (then_left _ _ e2) in
      record {
        kind_low = outside_low 1 2 _ kind;
        kind_high = outside_high 1 2 _ kind;
        states_low = outside_low 1 64 _ states;
        states_high = outside_high 1 64 _ states;
        rows_high = ltb-false _ _ (fault_passed _ _ _ (then_left _ _ e3));
        place = eqb-true _ _ (not-false _ (fault_passed _ _ _ (then_right _ _ e3)));
      }

  passed_entry : (i : ℕ) → GoodEntry i → entry_fault s i ≡ Ok tt
  unfolding entry_fault
  passed_entry i l =
      then_both _ _ (passed_fault _ _ _ (not_outside 1 2 _ l.kind_low l.kind_high))
      (then_both _ _ (passed_fault _ _ _ (not_outside 1 64 _ l.states_low l.states_high))
      (then_both _ _ (passed_fault _ _ _ (le-ltb _ _ l.rows_high)) (passed_fault _ _ _ (ap not (eq-eqb _ _ l.place)))))

  -- where the bodies end at most, as far as the entries have passed
  pub end_short : (i : ℕ) → i ≤ 16 → tables_of s ≤ 16 → scan (entry_fault s) i ≡ Ok tt → end_before s i ≤ 32866
  end_short i l k e = omega (arith, end_most s i (λ j u. (entry_passed j (scan_each (entry_fault s) i e j u)).rows_high))

  -- ---- the length

  pub length-passed : length_fault s ≡ Ok tt → length s ≡ end_before s (tables_of s)
  unfolding length_fault
  length-passed e = eqb-true _ _ (not-false _ (fault_passed _ _ _ e))

  passed_length : length s ≡ end_before s (tables_of s) → length_fault s ≡ Ok tt
  unfolding length_fault
  passed_length e = passed_fault _ _ _ (ap not (eq-eqb _ _ e))

-- ---- a row

pred_suc : (j : ℕ) → suc j - 1 ≡ j
pred_suc j = omega arith

module _ (body : List ℕ) (n start : ℕ) where
  pub record GoodRow (j : ℕ) : Type 0 where
    pub from_low : 1 ≤ (row_of body j).from
    pub from_high : (row_of body j).from < n
    pub target_high : (row_of body j).target < n
    pub above : is_above body j ≡ true

  -- of a row that is not the first, being above says that it rises
  above_next : (j : ℕ) → is_above body (suc j) ≡ true → rises (row_of body j) (row_of body (suc j)) ≡ true
  above_next j e = rw (eqb-suc-zero j, pred_suc j) at e

  next_above : (j : ℕ) → rises (row_of body j) (row_of body (suc j)) ≡ true → is_above body (suc j) ≡ true
  next_above j e = rw (eqb-suc-zero j, pred_suc j) e

  row_passed : (j : ℕ) → row_fault body n start j ≡ Ok tt → GoodRow j
  unfolding row_fault
  row_passed j e =
      let from = (row_of body j).from in
      let t = fault_passed (eqb from 0 || leb n from) _ _ (then_left _ _ e) in
      let z = eqb-false from 0 (or_false_l (eqb from 0) (leb n from) t) in
      let e2 = then_right _ _ e in
      record {
        from_low = omega arith;
        from_high = leb-false n from (or_false_r (eqb from 0) (leb n from) t);
        target_high = leb-false _ _ (fault_passed _ _ _ (then_left _ _ e2));
        above = not-false _ (fault_passed _ _ _ (then_right _ _ e2));
      }

  passed_row : (j : ℕ) → GoodRow j → row_fault body n start j ≡ Ok tt
  unfolding row_fault
  passed_row j r =
      let from = (row_of body j).from in
      let some : eqb from 0 ≡ false = ne_eqb from 0 (λ e. let l = r.from_low in absurd (omega arith)) in
      let target : leb n (row_of body j).target ≡ false = lt-leb _ _ r.target_high in
      then_both _ _ (passed_fault (eqb from 0 || leb n from) _ _ (simp (some, lt-leb _ _ r.from_high)))
      (then_both _ _ (passed_fault _ _ _ target) (passed_fault _ _ _ (ap not r.above)))

  -- the rows of a body that ends where it should
  rows_passed : (m : ℕ) → 1 ≤ n → n ≤ 64 → m ≤ 512 → length body ≡ 4 * m → scan (row_fault body n start) m ≡ Ok tt → TableBody n m body
  rows_passed m some few rows long e =
      let row : (j : ℕ) → j < m → GoodRow j = λ j l. row_passed j (scan_each (row_fault body n start) m e j l) in
      record {
        some_state = some;
        few_states = few;
        few_rows = rows;
        four_bytes = long;
        from_low = λ j l. (row j l).from_low;
        from_high = λ j l. (row j l).from_high;
        target_high = λ j l. (row j l).target_high;
        rising = λ j l. above_next j (row (suc j) l).above;
      }

  -- a body passes wherever it starts
  pub passed_rows : (m : ℕ) → TableBody n m body → scan (row_fault body n start) m ≡ Ok tt
  passed_rows m b =
      each_scan (row_fault body n start) m
      (λ j l. passed_row j
      (record { from_low = b.from_low j l; from_high = b.from_high j l; target_high = b.target_high j l; above = above j l }))
    where
      above : (j : ℕ) → j < m → is_above body j ≡ true
      above zero l = refl
      above (suc j) l = next_above j (b.rising j l)

-- ---- the file

module _ (s : List ℕ) where
  -- the parts of a file that passes
  pub record Parts : Type 0 where
    pub header : GoodHeader s
    pub entries : (i : ℕ) → i < tables_of s → GoodEntry s i
    pub long : length s ≡ end_before s (tables_of s)

  parts : header_fault s ≡ Ok tt → scan (entry_fault s) (tables_of s) ≡ Ok tt → length_fault s ≡ Ok tt → Parts
  parts h c l =
      record {
        header = header_passed s h;
        entries = λ i u. entry_passed s i (scan_each (entry_fault s) (tables_of s) c i u);
        long = length-passed s l;
      }

  within : Parts → (i : ℕ) → i < tables_of s → (entry_of s i).offset + body_length (entry_of s i) ≤ length s
  within p i u = omega (arith, (p.entries i u).place, end_next s i, end_upto s (i + 1) (tables_of s) (omega arith), p.long)

  short : Parts → length s ≤ 32866
  short p = omega (arith, p.long, p.header.few, end_most s (tables_of s) (λ i u. (p.entries i u).rows_high))

  parts_laid : Parts → Laid s (tables_of s)
  parts_laid p = record { contents = p.header.contents; within = within p; short = short p }

  -- with the header, the contents and the length passed, the bodies can be read
  pub laid : header_fault s ≡ Ok tt → scan (entry_fault s) (tables_of s) ≡ Ok tt → length_fault s ≡ Ok tt → Laid s (tables_of s)
  laid h c l = parts_laid (parts h c l)

  pub passed_accepted : file_fault s ≡ Ok tt → Accepted s (tables_of s)
  unfolding file_fault body_fault body_length
  passed_accepted e =
      let e2 = then_right _ _ e in
      let e3 = then_right _ _ e2 in
      let p = parts (then_left _ _ e) (then_left _ _ e2) (then_left _ _ e3) in
      let bodies = scan_each (body_fault s) (tables_of s) (then_right _ _ e3) in
      record {
        count = refl;
        some_table = p.header.some;
        few_tables = p.header.few;
        kind_low = λ i u. (p.entries i u).kind_low;
        kind_high = λ i u. (p.entries i u).kind_high;
        back_to_back = λ i u. (p.entries i u).place;
        whole = p.long;
        table = λ i u.
            let l = p.entries i u in
            rows_passed (body_of s i) (entry_of s i).states (entry_of s i).offset (entry_of s i).rows l.states_low l.states_high l.rows_high
            (body_length_lem s i (within p i u)) (bodies i u);
      }

  accepted_parts : (k : ℕ) → Accepted s k → Parts
  accepted_parts k a =
      let below : (i : ℕ) → i < tables_of s → i < k = λ i l. omega (arith, a.count) in
      record {
        header =
            record {
              some = rw a.count a.some_table;
              few = rw a.count a.few_tables;
              contents = omega (arith, a.whole, end_first s, end_upto s 0 k (omega arith));
            };
        entries = λ i l.
            record {
              kind_low = a.kind_low i (below i l);
              kind_high = a.kind_high i (below i l);
              states_low = (a.table i (below i l)).some_state;
              states_high = (a.table i (below i l)).few_states;
              rows_high = (a.table i (below i l)).few_rows;
              place = a.back_to_back i (below i l);
            };
        long = rw a.count a.whole;
      }

  pub accepted_laid : (k : ℕ) → Accepted s k → Laid s k
  accepted_laid k a = rw a.count at (parts_laid (accepted_parts k a))

  pub accepted_passed : (k : ℕ) → Accepted s k → file_fault s ≡ Ok tt
  unfolding file_fault body_fault
  accepted_passed k a =
      let p = accepted_parts k a in
      let body : (i : ℕ) → i < tables_of s → TableBody (entry_of s i).states (entry_of s i).rows (body_of s i) = λ i l. a.table i (omega (arith, a.count)) in
      then_both _ _ (passed_header s p.header)
      (then_both _ _ (each_scan (entry_fault s) (tables_of s) (λ i l. passed_entry s i (p.entries i l)))
      (then_both _ _ (passed_length s p.long)
      (each_scan (body_fault s) (tables_of s)
      (λ i l. passed_rows (body_of s i) (entry_of s i).states (entry_of s i).offset (entry_of s i).rows (body i l)))))

  -- what an answer of Open tells of the file
  pub tables_passed : (k : ℕ) → counted (Ok k) ≡ open_of s → (file_fault s ≡ Ok tt) × (tables_of s ≡ k)
  unfolding open_of answer
  tables_passed k e = go (file_fault s) refl e
    where
      go : (c : Checked) → file_fault s ≡ c → counted (Ok k) ≡ answer c (tables_of s ∷ []) → (file_fault s ≡ Ok tt) × (tables_of s ≡ k)
      go (Ok u) p q = let v : k ∷ [] ≡ tables_of s ∷ [] = ap (λ (a : Answer). a.values) q in (p, cc)
      go (Err r) p q = let v : k ∷ [] ≡ [] = ap (λ (a : Answer). a.values) q in absurd (no_values v)

  pub refused_fault : (r : Refusal) → counted (Err r) ≡ open_of s → file_fault s ≡ Err r
  unfolding open_of answer
  refused_fault r e = go (file_fault s) refl e
    where
      go : (c : Checked) → file_fault s ≡ c → counted (Err r) ≡ answer c (tables_of s ∷ []) → file_fault s ≡ Err r
      go (Ok u) p q = let v : [] ≡ tables_of s ∷ [] = ap (λ (a : Answer). a.values) q in absurd (no_values (sym v))
      go (Err f) p q = p ∙ ap Err (turned_by _ _ (sym q))

  -- what opening finds is handed on, or a check of the count of tables goes on
  pub open_stops : {o : Result ℕ Refusal} {r : Refusal} (b : Checked) → counted o ≡ open_of s → o ≡ Err r → Err r ≡ file_fault s then b
  unfolding ◌then◌
  open_stops b e p = rw (refused_fault _ (rw p at e)) refl

  pub open_goes : {o : Result ℕ Refusal} {k : ℕ} {c : Checked} → counted o ≡ open_of s → o ≡ Ok k → (check : ℕ → Checked) → c ≡ check k
      → c ≡ file_fault s then check (tables_of s)
  unfolding ◌then◌
  open_goes e p check q = let (passed, count) = tables_passed _ (rw p at e) in rw (passed, count) q

  pub opened_accepted : (k : ℕ) → counted (Ok k) ≡ open_of s → Accepted s k
  opened_accepted k e = let p = tables_passed k e in rw p.1 at (passed_accepted p.0)

  pub opened_laid : (k : ℕ) → counted (Ok k) ≡ open_of s → Laid s k
  opened_laid k e = accepted_laid k (opened_accepted k e)

  pub accepted_opened : (k : ℕ) → Accepted s k → open_of s ≡ carried_out (k ∷ [])
  unfolding open_of answer
  accepted_opened k a = rw (accepted_passed k a, a.count)

-- ---- a table's rows

-- every row is below each later one
pub rows_rise : (n m : ℕ) (body : List ℕ) → TableBody n m body → (i j : ℕ) → i < j → j < m → rises (row_of body i) (row_of body j) ≡ true
rows_rise n m body b i zero l u = absurd (omega arith)
rows_rise n m body b i (suc j) l u =
    ⊎_elim (λ e. let q : i ≡ j = omega arith in rw q (b.rising j u)) (λ t. rises_trans _ _ _ (rows_rise n m body b i j (le_of_suc-le-suc t) (omega arith)) (b.rising j u))
    (eq-or-lt_of_le l)
