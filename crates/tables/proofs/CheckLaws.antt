-- Laws of checks made one after the other, and of the answers that they give. Relies on nothing.
use Prim.Native.Nat.{ℕ, zero, suc, ◌+◌, ◌≤◌, ◌<◌}
use mathlib.Core.Path.{◌≡◌, refl, sym, ap, ap₂, ◌∙◌}
use mathlib.Core.Bool.{Bool, true, false}
use mathlib.Core.List.{List, [], ◌∷◌}
use mathlib.Core.Logic.{⊎_elim}
use native.Mathlib.Nat.{le_of_suc-le-suc, not-suc-le-zero, eq-or-lt_of_le}
use native.Mathlib.Numerals.{add-one}
use native.Mathlib.Omega.{arith}
use lib.ListN.{length}
use Rattle.tables.specs.declared.Reason.{Reason}
use Rattle.tables.specs.declared.Refusal.{Refusal}
use Rattle.tables.specs.Checks.{Checked, refuse, fault, ◌then◌, scan}
use Rattle.tables.specs.declared.Reason.TheVariants.{Short, TableCount, Kind, StateCount, RowCount, Offset, Length, From, Target, Order}
use Rattle.tables.specs.declared.Reason.TheVariants.{NoTable, WrongKind, NoState, NoRoom, NoMode, TooManyStates, TooManyRows}
use Rattle.tables.specs.Answers.{Answer, answer, number_of, turned_back, carried_out, slice_after}
use Rattle.std.proofs.Common.{Result, Ok, Err, IsErrAnd, get_or}

-- a check that passes has a test that fails, and the other way round
pub fault_passed : (t : Bool) (r : Reason) (p : ℕ) → fault t r p ≡ Ok tt → t ≡ false
unfolding fault
fault_passed true r p e = cc
fault_passed false r p e = refl

pub passed_fault : (t : Bool) (r : Reason) (p : ℕ) → t ≡ false → fault t r p ≡ Ok tt
unfolding fault
passed_fault t r p e = rw e

-- a `?` hands on the refusal that it meets
pub handed_on : {A : Type 0} (c : Result A Refusal) (r : Refusal) → IsErrAnd c (λ x. x ≡ r) → c ≡ Err r
handed_on (Ok u) r e = absurd e
handed_on (Err q) r e = ap Err e

-- a refusal, by its number and its place
reasons : List Reason
reasons = Short ∷ Short ∷ TableCount ∷ Kind ∷ StateCount ∷ RowCount ∷ Offset ∷ Length ∷ From ∷ Target ∷ Order ∷ NoTable ∷ WrongKind ∷ NoState ∷ NoRoom ∷ NoMode ∷ TooManyStates ∷ TooManyRows ∷ []

numbered : (r : Reason) → get_or reasons (number_of r) Short ≡ r
unfolding reasons
numbered Short = refl
numbered TableCount = refl
numbered Kind = refl
numbered StateCount = refl
numbered RowCount = refl
numbered Offset = refl
numbered Length = refl
numbered From = refl
numbered Target = refl
numbered Order = refl
numbered NoTable = refl
numbered WrongKind = refl
numbered NoState = refl
numbered NoRoom = refl
numbered NoMode = refl
numbered TooManyStates = refl
numbered TooManyRows = refl

-- no reason has the number 0
pub numbered_from_one : (r : Reason) → number_of r ≡ 0 → ⊥
unfolding reasons
numbered_from_one r e =
    let short : Short ≡ r = ap (λ (n : ℕ). get_or reasons n Short) (sym e) ∙ numbered r in
    let one : number_of Short ≡ number_of r = ap number_of short in
    omega arith

-- what is answered tells the refusal
pub turned_by : (r q : Refusal) → turned_back r ≡ turned_back q → r ≡ q
turned_by r q e =
    let reason : r.reason ≡ q.reason = sym (numbered r.reason) ∙ ap (λ (a : Answer). get_or reasons a.number Short) e ∙ numbered q.reason in
    ap₂ (λ (x : Reason) (p : ℕ). refuse x p) reason (ap (λ (a : Answer). a.place) e)

-- ---- two checks

pub then_left : (a b : Checked) → a then b ≡ Ok tt → a ≡ Ok tt
unfolding ◌then◌
then_left (Ok u) b e = refl
then_left (Err r) b e = e

pub then_right : (a b : Checked) → a then b ≡ Ok tt → b ≡ Ok tt
unfolding ◌then◌
then_right (Ok u) b e = e
then_right (Err r) b e = cc

pub then_both : (a b : Checked) → a ≡ Ok tt → b ≡ Ok tt → a then b ≡ Ok tt
unfolding ◌then◌
then_both a b p q = rw p q

-- a first check that finds a fault is the answer, and one that passes leaves it to the second
pub then_stops : (a b c : Checked) (r : Refusal) → c ≡ a → c ≡ Err r → c ≡ a then b
unfolding ◌then◌
then_stops a b c r p q = rw (sym p, q)

pub then_goes : (a b c d : Checked) → c ≡ a → c ≡ Ok tt → d ≡ b → d ≡ a then b
unfolding ◌then◌
then_goes a b c d p q e = rw (sym p, q) e

-- the same of a `?` on the first check
pub hand_stops : {a c : Checked} {r : Refusal} (b o : Checked) → IsErrAnd o (λ x. x ≡ r) → c ≡ a → c ≡ Err r → o ≡ a then b
hand_stops b o h p q = handed_on o _ h ∙ sym q ∙ then_stops _ b _ _ p q

pub then_fault : (a b : Checked) (r : Refusal) → a ≡ Err r → a then b ≡ Err r
unfolding ◌then◌
then_fault a b r e = rw e refl

pub then_assoc : (a b c : Checked) → (a then b) then c ≡ a then (b then c)
unfolding ◌then◌
then_assoc (Ok u) b c = refl
then_assoc (Err r) b c = refl

-- ---- what a call answers, by what its checks find

-- turned back: the refusal is the answer, and a lent slice is unchanged
pub turned_back_lem : (c : Checked) (r : Refusal) (values written entry : List ℕ) → c ≡ Err r
    → (turned_back r ≡ answer c values) × (entry ≡ slice_after c written entry)
unfolding answer slice_after
turned_back_lem c r values written entry e = (rw e refl, rw e refl)

-- of a call that is lent two slices, both are unchanged
pub turned_back_both : (c : Checked) (r : Refusal) (values written entry more second : List ℕ) → c ≡ Err r
    → (turned_back r ≡ answer c values) × ((entry ≡ slice_after c written entry) × (second ≡ slice_after c more second))
unfolding answer slice_after
turned_back_both c r values written entry more second e = (rw e refl, (rw e refl, rw e refl))

-- carried out: the values are the answer, and what is written is left
pub carried_out_lem : (c : Checked) (values written entry : List ℕ) → c ≡ Ok tt
    → (carried_out values ≡ answer c values) × (written ≡ slice_after c written entry)
unfolding answer slice_after
carried_out_lem c values written entry e = (rw e refl, rw e refl)

-- a call that returns values passed its checks
pub passed : (c : Checked) (x : ℕ) (xs values : List ℕ) → answer c values ≡ carried_out (x ∷ xs) → (c ≡ Ok tt) × (values ≡ x ∷ xs)
unfolding answer
passed (Ok u) x xs values e = (refl, ap (λ (a : Answer). a.values) e)
passed (Err r) x xs values e = let none : 0 ≡ suc (length xs) = ap (λ (a : Answer). length a.values) e in absurd (omega arith)

-- checks that turn a call back do so whatever it would return
pub turned_whatever : (c : Checked) (r : Refusal) (x : ℕ) (xs values : List ℕ) → turned_back r ≡ answer c (x ∷ xs) → turned_back r ≡ answer c values
unfolding answer
turned_whatever (Ok u) r x xs values e = let none : 0 ≡ suc (length xs) = ap (λ (a : Answer). length a.values) e in absurd (omega arith)
turned_whatever (Err q) r x xs values e = e

-- ---- a row of checks

module _ (f : ℕ → Checked) where
  pub scan_none : scan f 0 ≡ Ok tt
  unfolding scan
  scan_none = refl

  -- the checks before i have passed, and so does check i
  pub scan_next : (i : ℕ) (c : Checked) → scan f i ≡ Ok tt → c ≡ f i → c ≡ Ok tt → scan f (i + 1) ≡ Ok tt
  unfolding scan ◌then◌
  scan_next i c p e q = rw add-one (rw p (sym e ∙ q))

  -- a fault stays the answer
  scan_stays : (r : Refusal) (i n : ℕ) → scan f i ≡ Err r → i ≤ n → scan f n ≡ Err r
  unfolding scan ◌then◌
  scan_stays r i zero e l = let z : i ≡ 0 = omega arith in rw z at e
  scan_stays r i (suc n) e l = ⊎_elim (λ q. rw q at e) (λ t. rw (scan_stays r i n e (le_of_suc-le-suc t))) (eq-or-lt_of_le l)

  -- the checks before i have passed, and check i finds the first fault
  pub scan_stops : (r : Refusal) (i n : ℕ) (c : Checked) → scan f i ≡ Ok tt → c ≡ f i → c ≡ Err r → i < n → c ≡ scan f n
  unfolding scan ◌then◌
  scan_stops r i n c p e q l = q ∙ sym (scan_stays r (suc i) n (rw p (sym e ∙ q)) l)

  -- the checks before i have passed, and there is none left
  pub scan_done : (i n : ℕ) → scan f i ≡ Ok tt → i ≤ n → n ≤ i → Ok tt ≡ scan f n
  scan_done i n p l m = let q : n ≡ i = omega arith in rw q (sym p)

  -- a row of checks passes exactly if each check does
  pub scan_each : (n : ℕ) → scan f n ≡ Ok tt → (i : ℕ) → i < n → f i ≡ Ok tt
  unfolding scan
  scan_each zero e i l = absurd (not-suc-le-zero l)
  scan_each (suc n) e i l =
      ⊎_elim (λ q. rw q (then_right (scan f n) (f n) e)) (λ t. scan_each n (then_left (scan f n) (f n) e) i t)
      (eq-or-lt_of_le (le_of_suc-le-suc l))

  pub each_scan : (n : ℕ) → ((i : ℕ) → i < n → f i ≡ Ok tt) → scan f n ≡ Ok tt
  unfolding scan
  each_scan zero h = refl
  each_scan (suc n) h = then_both (scan f n) (f n) (each_scan n (λ i l. h i (omega arith))) (h n (omega arith))
