-- The first table of a kind.
use Prim.Native.Nat.{ℕ, zero, suc, ◌+◌, ◌≤◌, ◌<◌}
use mathlib.Core.Path.{◌≡◌, refl, sym, ◌∙◌, ap, subst}
use mathlib.Core.Bool.{Bool, true, false, cond}
use mathlib.Core.List.{List, [], ◌∷◌}
use mathlib.Core.Logic.{◌⊎◌, inl, inr}
use native.Mathlib.Omega.{arith}
use lib.Dec.{ltb, eqb}
use borrow.Author.Tests.{ltb-true, ltb-false, lt-ltb, le-ltb, eqb-true, eqb-false}
use Rattle.std.proofs.Common.{◌++◌, Option, Some, None, Ok, Err, find}
use Rattle.std.specs.Option.{option_or, ok_or}
use Rattle.tables.specs.declared.Refusal.{Refusal}
use Rattle.std.specs.List.{range_with_len}
use Rattle.std.proofs.lemmas.List.Folds.{find-append}
use Rattle.rules.proofs.BelowLaws.{lt_cases}
use Rattle.tables.specs.File.{entry_of}
use Rattle.questions.specs.Questions.{first_of}

-- one number more
range_more : (a n j : ℕ) → a + n ≡ j → range_with_len a (suc n) ≡ range_with_len a n ++ (j ∷ [])
range_more a zero j e = let same : a ≡ j = omega arith in rw same refl
range_more a (suc n) j e = ap (◌∷◌ a) (range_more (a + 1) n j (omega arith))

-- what is there where a refusal stands for none
pub there_none : (o : Option ℕ) (r e : Refusal) → ok_or o r ≡ Err e → (o ≡ None) × (r ≡ e)
there_none None r e p = (refl, cc)
there_none (Some i) r e p = cc

pub there_some : (o : Option ℕ) (r : Refusal) (i : ℕ) → ok_or o r ≡ Ok i → o ≡ Some i
there_some None r i p = cc
there_some (Some j) r i p = cc

module _ (s : List ℕ) (kind : ℕ) where
  -- the first table as a search gives it
  unfoldable pub some_below : ℕ → Option ℕ
  some_below k = cond (ltb (first_of s kind k) k) (Some (first_of s kind k)) None

  -- the search finds the first table of the kind
  pub by_search : (k : ℕ) → find (λ i. eqb (entry_of s i).kind kind) (range_with_len 0 k) ≡ some_below k
  unfolding some_below first_of
  by_search zero = refl
  by_search (suc i) =
      ap (find (λ i. eqb (entry_of s i).kind kind)) (range_more 0 i i (omega arith))
      ∙ find-append (λ i. eqb (entry_of s i).kind kind) (range_with_len 0 i) (i ∷ [])
      ∙ ap (λ o. option_or o (find (λ i. eqb (entry_of s i).kind kind) (i ∷ []))) (by_search i)
      ∙ go (ltb (first_of s kind i) i) refl (eqb (entry_of s i).kind kind)
    where
      go : (a : Bool) → ltb (first_of s kind i) i ≡ a → (b : Bool)
          → option_or (cond a (Some (first_of s kind i)) None) (cond b (Some i) None)
          ≡ cond (ltb (cond a (first_of s kind i) (cond b i (suc i))) (suc i)) (Some (cond a (first_of s kind i) (cond b i (suc i)))) None
      go true e b = let l = ltb-true _ _ e in rw (lt-ltb (first_of s kind i) (suc i) (omega arith)) refl
      go false e true = rw (lt-ltb i (suc i) (omega arith)) refl
      go false e false = rw (le-ltb (suc i) (suc i) (omega arith)) refl

  -- what a search that ends tells
  pub search_some : (k i : ℕ) → find (λ i. eqb (entry_of s i).kind kind) (range_with_len 0 k) ≡ Some i → (first_of s kind k ≡ i) × (i < k)
  unfolding some_below
  search_some k i e = go (ltb (first_of s kind k) k) refl (sym (by_search k) ∙ e)
    where
      go : (a : Bool) → ltb (first_of s kind k) k ≡ a → cond a (Some (first_of s kind k)) None ≡ Some i → (first_of s kind k ≡ i) × (i < k)
      go true l f = let same : first_of s kind k ≡ i = cc in (same, rw same at (ltb-true _ _ l))
      go false l f = cc

  pub search_none : (k : ℕ) → find (λ i. eqb (entry_of s i).kind kind) (range_with_len 0 k) ≡ None → k ≤ first_of s kind k
  unfolding some_below
  search_none k e = go (ltb (first_of s kind k) k) refl (sym (by_search k) ∙ e)
    where
      go : (a : Bool) → ltb (first_of s kind k) k ≡ a → cond a (Some (first_of s kind k)) None ≡ None → k ≤ first_of s kind k
      go true l f = cc
      go false l f = ltb-false _ _ l

  -- a table that is found is of the kind
  pub first_kind : (k : ℕ) → first_of s kind k < k → (entry_of s (first_of s kind k)).kind ≡ kind
  unfolding first_of
  first_kind zero h = absurd (omega arith)
  first_kind (suc i) h = go (ltb (first_of s kind i) i) refl (eqb (entry_of s i).kind kind) refl h (first_kind i)
    where
      go : (a : Bool) → ltb (first_of s kind i) i ≡ a → (b : Bool) → eqb (entry_of s i).kind kind ≡ b → cond a (first_of s kind i) (cond b i (suc i)) < suc i
          → (first_of s kind i < i → (entry_of s (first_of s kind i)).kind ≡ kind) → (entry_of s (cond a (first_of s kind i) (cond b i (suc i)))).kind ≡ kind
      go true e b f l ih = ih (ltb-true _ _ e)
      go false e true f l ih = eqb-true _ _ f
      go false e false f l ih = absurd (omega arith)

  -- and none before it is; where the answer is k, none of the k tables is
  pub none_before : (k j : ℕ) → j < first_of s kind k → (entry_of s j).kind ≡ kind → ⊥
  unfolding first_of
  none_before zero j h e = absurd (omega arith)
  none_before (suc i) j h e = go (ltb (first_of s kind i) i) refl (eqb (entry_of s i).kind kind) refl h (λ l. none_before i j l e)
    where
      go : (a : Bool) → ltb (first_of s kind i) i ≡ a → (b : Bool) → eqb (entry_of s i).kind kind ≡ b → j < cond a (first_of s kind i) (cond b i (suc i))
          → (j < first_of s kind i → ⊥) → ⊥
      go true f b g l ih = ih l
      go false f true g l ih = let here : j < i = l in let past : i ≤ first_of s kind i = ltb-false (first_of s kind i) i f in ih (omega arith)
      go false f false g l ih = last (lt_cases j i l) (ltb-false (first_of s kind i) i f)
        where
          last : (j < i) ⊎ (j ≡ i) → i ≤ first_of s kind i → ⊥
          last (inl m) past = ih (omega arith)
          last (inr m) past = eqb-false _ _ g (subst (λ (n : ℕ). (entry_of s n).kind ≡ kind) m e)
