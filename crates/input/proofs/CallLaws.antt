-- Laws of questions: numbers of no operation, what a head holds, and what is asked for by it.
use Rattle.std.proofs.Common.{ℕ, zero, suc, ◌+◌, ◌*◌, ◌/◌, ◌≡◌, ◌≤◌, ◌<◌, List, [], ◌∷◌, length, get_or, take, drop, refl, ap, ◌∙◌, arith, Some, None, Result, Ok, Err}
use Rattle.std.proofs.lemmas.List.{drop-drop}
use Rattle.std.specs.Simd.{first_chunks}
use Rattle.std.specs.Result.{result_ok}
use Rattle.questions.specs.declared.Side.{Side}
use Rattle.input.specs.declared.operations.Operation.{Operation}
use Rattle.input.specs.declared.operations.UnknownOperation.{UnknownOperation}
use Rattle.input.specs.Operations.{operation_at}
use Rattle.input.specs.Calls.{number, low_set, side, field, asked_for}

-- past the last operation there is none
pub no_operation : (os : List Operation) (n : ℕ) → length os ≤ n → operation_at os n ≡ Err (record {})
no_operation [] n h = refl
no_operation (o ∷ os) zero h = absurd (omega arith)
no_operation (o ∷ os) (suc n) h = no_operation os n (omega arith)

chunk_at : (k i : ℕ) (xs : List ℕ) → i < k → get_or (first_chunks 8 k xs) i [] ≡ take 8 (drop (8 * i) xs)
chunk_at zero i xs h = absurd (omega arith)
chunk_at (suc k) zero xs h = refl
chunk_at (suc k) (suc i) xs h =
    let next : 8 + 8 * i ≡ 8 * suc i = omega arith in
    chunk_at k i (drop 8 xs) (omega arith) ∙ ap (take 8) (drop-drop (8 * i) 8 xs ∙ ap (λ (n : ℕ). drop n xs) next)

-- the nine numbers of a head
pub field_of : (head : List ℕ) (chunks : List (List ℕ)) (i : ℕ) → length head ≡ 72 → chunks ≡ first_chunks 8 (length head / 8) head → i < 9
    → get_or chunks i [] ≡ field head i
field_of head chunks i long e h = ap (λ (l : List (List ℕ)). get_or l i []) e ∙ chunk_at (length head / 8) i head (omega arith)

-- another operation
pub asked_none : (r : Result Operation UnknownOperation) (head file : List ℕ) → result_ok r ≡ None → asked_for r head file ≡ None
asked_none (Ok o) head file e = cc
asked_none (Err u) head file e = refl

pub asked_some : (r : Result Operation UnknownOperation) (o : Operation) (head file : List ℕ) → result_ok r ≡ Some o
    → asked_for r head file ≡ asked_for (Ok o) head file
asked_some (Ok p) o head file e = let same : p ≡ o = cc in ap (λ (x : Operation). asked_for (Ok x) head file) same
asked_some (Err u) o head file e = cc

-- the parts of a call are those that the head holds
pub asked_by : (o : Operation) (head file : List ℕ) {mode room more standing : ℕ} {demand supply : Side} → mode ≡ number (field head 1)
    → demand ≡ side (field head 2) (field head 3) → supply ≡ side (field head 4) (field head 5) → room ≡ number (field head 6) → more ≡ number (field head 7)
    → standing ≡ low_set (field head 8)
    → Some (record {
      operation = o;
      mode = mode;
      question = record { demand = demand; supply = supply; standing = standing };
      length = room;
      second_length = more;
      file = file;
    })
    ≡ asked_for (Ok o) head file
asked_by o head file m d s l k r =
    λ i. Some (record {
      operation = o;
      mode = m i;
      question = record { demand = d i; supply = s i; standing = r i };
      length = l i;
      second_length = k i;
      file = file;
    })
